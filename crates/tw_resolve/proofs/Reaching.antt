-- The steps of the search for an alias in what it leads to.
use Rattle.std.proofs.Common.{◌≡◌, ◌∙◌, ◌⊎◌, ◌||◌, ⊎_elim, inl, inr, ap, ℕ, ◌+◌, ◌<◌, Bool, true, false, List, [], ◌∷◌, ◌++◌, Option, Some, None, if◌then◌else◌, option_to_list, bytes_eq, sym, subst, refl, arith}
use Rattle.std.proofs.lemmas.Bool.{or_cases}
use Rattle.std.proofs.lemmas.Slice.Eq.{bytes_eq-Decides}
use Rattle.std.specs.List.{AllByRecursion}
use Rattle.tw_text.specs.declared.place.Pos.{Pos}
use Rattle.tw_syntax.specs.Programs.{AliasTree}
use Rattle.tw_syntax.specs.Types.{WrittenTree, PairType, NamedType}
use Rattle.tw_resolve.specs.Declarations.{Name, declared_as}
use Rattle.tw_resolve.specs.Denotes.{IsRecursive, Reaches, ReachesNext, ReachesOn, names_outside_pointers}
use Rattle.tw_resolve.specs.Searches.{part_count, alias_steps}
use Rattle.tw_resolve.specs.Reaching.{new_body}
use Rattle.tw_resolve.proofs.Denoting.{reaches_by}
use Rattle.tw_resolve.proofs.Steps.{steps_stay, steps_once}

-- a name in a written type that waits
abbrev IsWaiting : Name → List WrittenTree → Type 0
IsWaiting name [] = ⊥
IsWaiting name (written ∷ waiting) = (names_outside_pointers written name ≡ true) ⊎ IsWaiting name waiting

-- a name that was reached, or waits
abbrev IsKnown : (Name → Bool) → List WrittenTree → Name → Type 0
IsKnown reached waiting name = (reached name ≡ true) ⊎ IsWaiting name waiting

-- an alias leads to each name in a written type
abbrev pub LeadsInto : (Name → Option WrittenTree) → Name → WrittenTree → Type 0
LeadsInto declared start written = (name : Name) → names_outside_pointers written name ≡ true → Reaches declared start name

-- what an alias leads to: all that waits is reached, and each name in the body of a reached alias is known; the alias itself was not met
pub record IsReaching (declared : Name → Option WrittenTree) (start : Name) (reached : Name → Bool) (waiting : List WrittenTree) : Type 0 where
  pub leads : AllByRecursion (LeadsInto declared start) waiting
  pub first : (body : WrittenTree) → declared start ≡ Some body → (name : Name) → names_outside_pointers body name ≡ true → IsKnown reached waiting name
  pub others : (other : Name) → reached other ≡ true → (body : WrittenTree) → declared other ≡ Some body → (name : Name) → names_outside_pointers body name ≡ true → IsKnown reached waiting name
  pub fresh : reached start ≡ false

-- the steps that written types take
abbrev pub waiting_steps : List WrittenTree → ℕ
waiting_steps [] = 0
waiting_steps (written ∷ waiting) = part_count written + waiting_steps waiting

pub reaching_start : (declared : Name → Option WrittenTree) (start : Name) (body : WrittenTree) (reached : Name → Bool) → declared start ≡ Some body
    → ((name : Name) → reached name ≡ false) → IsReaching declared start reached (body ∷ [])
reaching_start declared start body reached is none = record {
  leads = (λ name names. ReachesNext body is names, tt);
  first = λ other is2 name names. (let same : other ≡ body = cc (is, is2) in inr (inl (subst (λ (w : WrittenTree). names_outside_pointers w name ≡ true) same names)));
  others = λ other reaches. absurd (differ (reached other) (none other) reaches);
  fresh = none start;
}
  where
    differ : (k : Bool) → k ≡ false → k ≡ true → ⊥
    differ k off on = cc (off, on)

-- what is known stays known
known_stays : (declared : Name → Option WrittenTree) (start : Name) (reached : Name → Bool) (waiting later : List WrittenTree)
    → ((name : Name) → IsWaiting name waiting → IsKnown reached later name)
    → AllByRecursion (LeadsInto declared start) later
    → IsReaching declared start reached waiting → IsReaching declared start reached later
known_stays declared start reached waiting later stays leads state = record {
  leads = leads;
  first = λ body is name names. moves name (state.first body is name names);
  others = λ other reaches body is name names. moves name (state.others other reaches body is name names);
  fresh = state.fresh;
}
  where
    moves : (name : Name) → IsKnown reached waiting name → IsKnown reached later name
    moves name (inl was) = inl was
    moves name (inr waits) = stays name waits

-- a written type without names is done
pub reaching_leaf : (declared : Name → Option WrittenTree) (start : Name) (reached : Name → Bool) (written : WrittenTree) (waiting : List WrittenTree)
    → ((name : Name) → names_outside_pointers written name ≡ false)
    → IsReaching declared start reached (written ∷ waiting) → IsReaching declared start reached waiting
reaching_leaf declared start reached written waiting none state =
    known_stays declared start reached (written ∷ waiting) waiting (λ name waits. stays name waits) state.leads.1 state
  where
    stays : (name : Name) → (names_outside_pointers written name ≡ true) ⊎ IsWaiting name waiting → IsKnown reached waiting name
    stays name (inl names) = absurd (let off = none name in cc (off, names))
    stays name (inr waits) = inr waits

-- a pair is followed by its halves
pub reaching_pair : (declared : Name → Option WrittenTree) (start : Name) (reached : Name → Bool) (at : Pos) (first second : WrittenTree) (waiting : List WrittenTree)
    → IsReaching declared start reached (PairType at first second ∷ waiting) → IsReaching declared start reached (first ∷ second ∷ waiting)
reaching_pair declared start reached at first second waiting state =
    known_stays declared start reached (PairType at first second ∷ waiting) (first ∷ second ∷ waiting) (λ name waits. stays name waits)
    (λ name names. state.leads.0 name (rw names refl), (λ name names. state.leads.0 name (either name names), state.leads.1)) state
  where
    either : (name : Name) → names_outside_pointers second name ≡ true → names_outside_pointers (PairType at first second) name ≡ true
    either name names = elim (names_outside_pointers first name) as (λ k. (k || names_outside_pointers second name) ≡ true) [ true ↦ refl | false ↦ names ]

    stays : (name : Name) → (names_outside_pointers (PairType at first second) name ≡ true) ⊎ IsWaiting name waiting → IsKnown reached (first ∷ second ∷ waiting) name
    stays name (inl names) = ⊎_elim (λ left. inr (inl left)) (λ right. inr (inr (inl right))) (or_cases (names_outside_pointers first name) (names_outside_pointers second name) names)
    stays name (inr waits) = inr (inr (inr waits))

-- an alias that waits for itself leads to itself
pub reaching_itself : (declared : Name → Option WrittenTree) (start : Name) (reached : Name → Bool) (at : Pos) (name : Name) (waiting : List WrittenTree)
    → bytes_eq name start ≡ true → IsReaching declared start reached (NamedType at name ∷ waiting) → IsRecursive declared start
reaching_itself declared start reached at name waiting same state = state.leads.0 start same

-- a name is reached, and the body of its alias waits, if the name is a new one
module _ (declared : Name → Option WrittenTree) (start : Name) (reached after : Name → Bool) (at : Pos) (name : Name) (waiting : List WrittenTree)
    (more : (other : Name) → after other ≡ (reached other || bytes_eq other name)) (differs : bytes_eq name start ≡ false)
    (state : IsReaching declared start reached (NamedType at name ∷ waiting)) where
  was_reached : (other : Name) → reached other ≡ true → after other ≡ true
  was_reached other is = more other ∙ rw is refl

  now_reached : after name ≡ true
  now_reached = more name ∙ by (reached name)
    where
      by : (k : Bool) → (k || bytes_eq name name) ≡ true
      by true = refl
      by false = (bytes_eq-Decides name name).1 refl

  still_fresh : after start ≡ false
  still_fresh = more start ∙ rw state.fresh (other_way (bytes_eq start name) refl)
    where
      other_way : (k : Bool) → bytes_eq start name ≡ k → bytes_eq start name ≡ false
      other_way false is = is
      other_way true is =
          let same : bytes_eq name start ≡ true = (bytes_eq-Decides name start).1 (sym ((bytes_eq-Decides start name).0 is)) in
          absurd (cc (same, differs))

  -- what was known stays known after any written types
  moves : (added : List WrittenTree) (other : Name) → IsKnown reached (NamedType at name ∷ waiting) other → IsKnown after (added ++ waiting) other
  moves added other (inl was) = inl (was_reached other was)
  moves added other (inr (inl same)) = inl (subst (λ (n : Name). after n ≡ true) ((bytes_eq-Decides name other).0 same) now_reached)
  moves added other (inr (inr waits)) = inr (later added)
    where
      later : (added : List WrittenTree) → IsWaiting other (added ++ waiting)
      later [] = waits
      later (written ∷ added) = inr (later added)

  -- the names that were reached before, and this one
  reached_before : (added : List WrittenTree)
      → ((body : WrittenTree) → declared name ≡ Some body → (third : Name) → names_outside_pointers body third ≡ true → IsKnown after (added ++ waiting) third)
      → AllByRecursion (LeadsInto declared start) (added ++ waiting) → IsReaching declared start after (added ++ waiting)
  reached_before added own leads = record {
    leads = leads;
    first = λ body is third names. moves added third (state.first body is third names);
    others = λ other is body is_body third names. by other (or_cases (reached other) (bytes_eq other name) (sym (more other) ∙ is)) body is_body third names;
    fresh = still_fresh;
  }
    where
      by : (other : Name) → (reached other ≡ true) ⊎ (bytes_eq other name ≡ true) → (body : WrittenTree) → declared other ≡ Some body
          → (third : Name) → names_outside_pointers body third ≡ true → IsKnown after (added ++ waiting) third
      by other (inl was) body is_body third names = moves added third (state.others other was body is_body third names)
      by other (inr same) body is_body third names =
          let equal : other ≡ name = (bytes_eq-Decides other name).0 same in
          own body (subst (λ (n : Name). declared n ≡ Some body) equal is_body) third names

  pub reaching_name : IsReaching declared start after (new_body declared reached name ++ waiting)
  reaching_name = by (reached name) refl (declared name) refl
    where
      by : (k : Bool) → reached name ≡ k → (found : Option WrittenTree) → declared name ≡ found
          → IsReaching declared start after ((if k then [] else option_to_list found) ++ waiting)
      by true is found found_is = reached_before [] (λ body is_body third names. moves [] third (state.others name is body is_body third names)) state.leads.1
      by false is None found_is = reached_before [] (λ body is_body. absurd (none body (sym found_is ∙ is_body))) state.leads.1
        where
          none : (body : WrittenTree) → None ≡ Some body → ⊥
          none body same = cc same
      by false is (Some body) found_is =
          reached_before (body ∷ [])
          (λ other is_body third names. (let same : other ≡ body = cc (is_body, found_is) in
          inr (inl (subst (λ (w : WrittenTree). names_outside_pointers w third ≡ true) same names))))
          (λ third names. reaches_by (state.leads.0 name ((bytes_eq-Decides name name).1 refl)) (ReachesNext body found_is names), state.leads.1)

-- an alias does not contain itself, if nothing waits
pub reaching_done : (declared : Name → Option WrittenTree) (start : Name) (reached : Name → Bool) → IsReaching declared start reached [] → IsRecursive declared start → ⊥
reaching_done declared start reached state recursive = (let met = from start start (inl refl) recursive in let fresh = state.fresh in cc (met, fresh))
  where
    is_reached : (name : Name) → IsKnown reached [] name → reached name ≡ true
    is_reached name (inl is) = is
    is_reached name (inr none) = absurd none

    from : (name last : Name) → (name ≡ start) ⊎ (reached name ≡ true) → Reaches declared name last → reached last ≡ true
    from name last (inl same) (ReachesNext body is names) = is_reached last (state.first body (subst (λ (n : Name). declared n ≡ Some body) same is) last names)
    from name last (inr was) (ReachesNext body is names) = is_reached last (state.others name was body is last names)
    from name last (inl same) (ReachesOn {next} body is names on) =
        from next last (inr (is_reached next (state.first body (subst (λ (n : Name). declared n ≡ Some body) same is) next names))) on
    from name last (inr was) (ReachesOn {next} body is names on) = from next last (inr (is_reached next (state.others name was body is next names))) on

-- the steps with what lies on top of a stack
module _ (declared : Name → Option WrittenTree) (start : Name) (reached : Name → Bool) (waiting rest : List WrittenTree) (tree : WrittenTree)
    (top : waiting ≡ tree ∷ rest) (state : IsReaching declared start reached waiting) where
  -- the state with a written type in place of what is on top
  on : (other : WrittenTree) → tree ≡ other → IsReaching declared start reached (other ∷ rest)
  on other is = subst (IsReaching declared start reached) (top ∙ ap (λ (w : WrittenTree). w ∷ rest) is) state

  pub leaf_on_top : (other : WrittenTree) → tree ≡ other → ((name : Name) → names_outside_pointers other name ≡ false) → IsReaching declared start reached rest
  leaf_on_top other is none = reaching_leaf declared start reached other rest none (on other is)

  pub pair_on_top : (at : Pos) (first second : WrittenTree) (last : List WrittenTree) → tree ≡ PairType at first second
      → last ≡ first ∷ second ∷ rest → IsReaching declared start reached last
  pair_on_top at first second last is same =
      subst (IsReaching declared start reached) (sym same) (reaching_pair declared start reached at first second rest (on (PairType at first second) is))

  pub itself_on_top : (at : Pos) (name : Name) → tree ≡ NamedType at name → bytes_eq name start ≡ true → IsRecursive declared start
  itself_on_top at name is same = reaching_itself declared start reached at name rest same (on (NamedType at name) is)

  pub name_on_top : (after : Name → Bool) (at : Pos) (name : Name) (last : List WrittenTree) → tree ≡ NamedType at name
      → ((other : Name) → after other ≡ (reached other || bytes_eq other name)) → bytes_eq name start ≡ false
      → last ≡ new_body declared reached name ++ rest → IsReaching declared start after last
  name_on_top after at name last is more differs same =
      subst (IsReaching declared start after) (sym same) (reaching_name declared start reached after at name rest more differs (on (NamedType at name) is))

-- a name takes a step
pub name_steps : (aliases : List AliasTree) (reached after : Name → Bool) (waiting rest last : List WrittenTree) (tree : WrittenTree) (at : Pos) (name : Name)
    → waiting ≡ tree ∷ rest → tree ≡ NamedType at name → ((other : Name) → after other ≡ (reached other || bytes_eq other name))
    → last ≡ new_body (declared_as aliases) reached name ++ rest
    → waiting_steps last + alias_steps after aliases < waiting_steps waiting + alias_steps reached aliases
name_steps aliases reached after waiting rest last tree at name top is more same =
    let steps : (1 + waiting_steps rest) ≡ waiting_steps waiting = sym (ap waiting_steps (top ∙ ap (λ (w : WrittenTree). w ∷ rest) is)) in
    let less = by (reached name) refl (declared_as aliases name) refl in
    let last_steps : waiting_steps last ≡ waiting_steps (new_body (declared_as aliases) reached name ++ rest) = ap waiting_steps same in
    omega arith
  where
    by : (k : Bool) → reached name ≡ k → (found : Option WrittenTree) → declared_as aliases name ≡ found
        → waiting_steps ((if k then [] else option_to_list found) ++ rest) + alias_steps after aliases < (1 + waiting_steps rest) + alias_steps reached aliases
    by true was found is = (let stay = steps_stay reached after name more aliases in omega arith)
    by false new None is = (let stay = steps_stay reached after name more aliases in omega arith)
    by false new (Some body) is = (let once = steps_once reached after name body more new aliases is in omega arith)

none_some : {X : Type 0} {x : X} → None ≡ Some x → ⊥
none_some is = cc is

-- a name that is not declared leads nowhere
pub not_declared : {declared : Name → Option WrittenTree} {name last : Name} → None ≡ declared name → Reaches declared name last → ⊥
not_declared none (ReachesNext body is names) = none_some (none ∙ is)
not_declared none (ReachesOn body is names on) = none_some (none ∙ is)
