-- The padding of a branch that is not taken, name by name.
use Rattle.std.proofs.Common.{◌≡◌, ◌∙◌, ap, sym, subst, refl, ℕ, zero, suc, Bool, true, false, ◌==◌, if◌then◌else◌, ◌||◌, List, [], ◌∷◌, Option, Some, None, is_some, option_and_then, option_map, position, slice_get, unwrap_or, Ok, Err, bytes_eq}
use Rattle.std.proofs.Math.Logic.{◌⊎◌, inl, inr, ⊎_elim}
use Rattle.std.proofs.Math.Path.{fun_ext}
use Rattle.std.proofs.lemmas.Bool.{eqb-true, or_left, or_right, true≢false}
use Rattle.std.proofs.lemmas.Option.{none-some}
use Rattle.std.specs.List.{cons_option}
use Rattle.std.specs.Map.{keys_of, lookup}
use Rattle.tw_text.specs.declared.place.Pos.{Pos}
use Rattle.tw_syntax.specs.Statements.{StmtTree}
use Rattle.tw_types.specs.Types.{Ty}
use Rattle.tw_types.specs.Values.{Value, zero_value}
use Rattle.tw_resolve.specs.Declarations.{AreDifferent, is_one_of}
use Rattle.tw_resolve.specs.Expressions.{Types}
use Rattle.tw_resolve.proofs.Texts.{bytes_eq-sym}
use Rattle.tw_check.specs.Liveness.{live_after}
use Rattle.tw_check.specs.Names.{Names}
use Rattle.tw_check.proofs.Reversal.{live_after-reverse_of}
use Rattle.tw_state.specs.Results.{directed}
use Rattle.tw_state.specs.States.{Name, State, with_value, without}
use Rattle.tw_state.specs.Steps.{IsPadded, Pads, live_names}
use Rattle.tw_state.specs.Stuck.{Pad, LacksPad}
use Rattle.tw_state.proofs.Basics.{by_test, contradiction, name_test, same_name, some_value}
use Rattle.tw_state.proofs.SingleSteps.{same_state}
use Rattle.tw_interp.specs.declared.changes.Changes.{Changes}
use Rattle.tw_interp.specs.declared.fault.RunFault.{RunFault}
use Rattle.tw_interp.specs.Following.{PadsAll, PadsName, PadsSlot}
use Rattle.tw_interp.specs.Frames.{change_at, changed, changed_slots, names_at, with_found}
use Rattle.tw_interp.proofs.Leading.{goes_never, stops_memory}
use Rattle.tw_interp.proofs.Slots.{number_of_name, slot_name}

padded_kept : (ty : Option Ty) (o p : Option Value) → is_some p ≡ is_some o → IsPadded ty o p → o ≡ p
padded_kept ty None None same padded = refl
padded_kept ty None (Some y) same padded = absurd (true≢false same)
padded_kept ty (Some x) None same padded = absurd (true≢false (sym same))
padded_kept ty (Some x) (Some y) same padded = ap Some padded

padded_refl : (ty : Option Ty) (o : Option Value) → IsPadded ty o o
padded_refl ty None = tt
padded_refl ty (Some x) = refl

-- a name without a value gets the zero of its type
pub filled : (ty : Option Ty) (t : Ty) (at : Pos) (name : Name) (old new : State) → ty ≡ Some t → None ≡ old.store name → new ≡ record old { store = with_value old.store name (zero_value t) }
    → PadsName {A = Unit {0}} ty at name true old new (Ok tt)
filled ty t at name old new typed none after = record {
  ran = λ end live padded. after ∙ ap (λ (o : Option Value). record old { store = with_found old.store name o }) (by ty (old.store name) end typed none live padded);
  lacks = λ u value dead is has differ. absurd (true≢false dead);
  others = λ other apart. ap (λ (s : State). s.store other) after ∙ ap (λ k. if k then Some (zero_value t) else old.store other) apart;
  faults = tt;
}
  where
    by : (ty : Option Ty) (o end : Option Value) → ty ≡ Some t → None ≡ o → is_some end ≡ true → IsPadded ty o end → Some (zero_value t) ≡ end
    by (Some u) None (Some y) same none live padded = ap (λ w. Some (zero_value w)) (sym (some_value same)) ∙ ap Some (sym padded)
    by ty o None same none live padded = absurd (true≢false (sym live))
    by None o (Some y) same none live padded = absurd (none-some t same)
    by (Some u) (Some x) (Some y) same none live padded = absurd (none-some x none)

-- a name without a value has none
pub stays_clear : (ty : Option Ty) (at : Pos) (name : Name) (old new : State) → None ≡ old.store name → new ≡ record old { store = without old.store name }
    → PadsName {A = Unit {0}} ty at name false old new (Ok tt)
stays_clear ty at name old new none after = record {
  ran = λ end dead padded. after ∙ ap (λ (o : Option Value). record old { store = with_found old.store name o }) (by end dead);
  lacks = λ t value dead is has differ. absurd (none-some value (none ∙ has));
  others = λ other apart. ap (λ (s : State). s.store other) after ∙ ap (λ k. if k then None else old.store other) apart;
  faults = tt;
}
  where
    by : (end : Option Value) → is_some end ≡ false → None ≡ end
    by None dead = refl
    by (Some y) dead = absurd (true≢false dead)

-- a zero is removed
pub cleared : (ty : Option Ty) (t : Ty) (at : Pos) (name : Name) (held : Value) (old new : State) → ty ≡ Some t → Some held ≡ old.store name → held ≡ zero_value t → new ≡ record old { store = without old.store name }
    → PadsName {A = Unit {0}} ty at name false old new (Ok tt)
cleared ty t at name held old new typed is nil after = record {
  ran = λ end dead padded. after ∙ ap (λ (o : Option Value). record old { store = with_found old.store name o }) (by end dead);
  lacks = λ u value dead has found differ. differ (some_value (sym found ∙ sym is) ∙ nil ∙ ap zero_value (some_value (sym typed ∙ has)));
  others = λ other apart. ap (λ (s : State). s.store other) after ∙ ap (λ k. if k then None else old.store other) apart;
  faults = tt;
}
  where
    by : (end : Option Value) → is_some end ≡ false → None ≡ end
    by None dead = refl
    by (Some y) dead = absurd (true≢false dead)

-- the name of a number that changes is one of those that change
listed : (names : List Name) (entries : List (ℕ × Bool)) (slot : ℕ) (is_live : Bool) (name : Name) → lookup (λ key. slot == key) entries ≡ Some is_live → slice_get names slot ≡ Some name
    → is_one_of name (names_at names (keys_of entries)) ≡ true
listed names [] slot is_live name found there = absurd (none-some is_live found)
listed names (entry ∷ entries) slot is_live name found there = by (slot == entry.0) refl found (listed names entries slot is_live name)
  where
    rest : List Name
    rest = names_at names (keys_of entries)

    or_later : (o : Option Name) → is_one_of name rest ≡ true → is_one_of name (cons_option o rest) ≡ true
    or_later None on = on
    or_later (Some other) on = or_right (bytes_eq name other) (is_one_of name rest) on

    by : (k : Bool) → (slot == entry.0) ≡ k → (if k then Some entry.1 else lookup (λ key. slot == key) entries) ≡ Some is_live
        → (lookup (λ key. slot == key) entries ≡ Some is_live → slice_get names slot ≡ Some name → is_one_of name rest ≡ true) → is_one_of name (cons_option (slice_get names entry.0) rest) ≡ true
    by true same found deeper =
        ap (λ o. is_one_of name (cons_option o rest)) (ap (slice_get names) (sym (eqb-true slot entry.0 same)) ∙ there) ∙ or_left (bytes_eq name name) (is_one_of name rest) (name_test name)
    by false differs found deeper = or_later (slice_get names entry.0) (deeper found there)

-- a name that is not changed stays as it is
unchanged : (names : List Name) (changes : Changes) (live : Names) (name : Name) → is_one_of name (names_at names (changed_slots changes)) ≡ false → changed names changes live name ≡ live name
unchanged names changes live name off = by_number (position (bytes_eq name) names) refl
  where
    by_change : (slot : ℕ) → Some slot ≡ position (bytes_eq name) names → (o : Option Bool) → change_at changes slot ≡ o → unwrap_or o (live name) ≡ live name
    by_change slot there None is = refl
    by_change slot there (Some is_live) is = contradiction (listed names changes.table.entries slot is_live name is (slot_name names name slot there)) off

    by_number : (o : Option ℕ) → position (bytes_eq name) names ≡ o → unwrap_or (option_and_then (change_at changes) o) (live name) ≡ live name
    by_number None is = refl
    by_number (Some slot) is = by_change slot (sym is) (change_at changes slot) refl

pub at_place : (names : List Name) (number : ℕ) (name : Name) → slice_get names number ≡ Some name → is_one_of name names ≡ true
at_place [] number name is = absurd (none-some name is)
at_place (first ∷ names) zero name is = ap (λ k. k || is_one_of name names) (ap (bytes_eq name) (some_value is) ∙ name_test name)
at_place (first ∷ names) (suc number) name is = by (bytes_eq name first) (at_place names number name is)
  where
    by : (k : Bool) → is_one_of name names ≡ true → (k || is_one_of name names) ≡ true
    by true on = refl
    by false on = on

module _ (types : Types) (s : StmtTree) (at : Pos) (old : State) where
  -- the padding is done but for these names
  pub record Pending (now : State) (ahead : List Name) : Type 0 where
    pub ran : (end : State) → Pads types s old end
        → (now.head ≡ end.head) × (now.cells ≡ end.cells) × ((name : Name) → (now.store name ≡ end.store name) ⊎ ((now.store name ≡ old.store name) × (is_one_of name ahead ≡ true)))
    pub lacks : (l : LacksPad types s old) → (is_one_of l.name ahead ≡ true) × (now.store l.name ≡ old.store l.name)

  pub none_padded : (names : List Name) (changes : Changes) → ((live : Names) → changed names changes live ≡ live_after true s live) → Pending old (names_at names (changed_slots changes))
  none_padded names changes is = record { ran = ran; lacks = lacks }
    where
      at_end : (name : Name) → is_one_of name (names_at names (changed_slots changes)) ≡ false → live_after true s (live_names old.store) name ≡ is_some (old.store name)
      at_end name off = sym (ap (λ (live : Names). live name) (is (live_names old.store))) ∙ unchanged names changes (live_names old.store) name off

      ran : (end : State) → Pads types s old end
          → (old.head ≡ end.head) × (old.cells ≡ end.cells) × ((name : Name) → (old.store name ≡ end.store name) ⊎ ((old.store name ≡ old.store name) × (is_one_of name (names_at names (changed_slots changes)) ≡ true)))
      ran end pads = (
        pads.head,
        pads.cells,
        λ name. by_test (is_one_of name (names_at names (changed_slots changes))) (λ on. inr (refl, on))
            (λ off. inl (padded_kept (types name) (old.store name) (end.store name) (ap (λ (live : Names). live name) pads.after ∙ at_end name off) (pads.padded name))),
      )

      lacks : (l : LacksPad types s old) → (is_one_of l.name (names_at names (changed_slots changes)) ≡ true) × (old.store l.name ≡ old.store l.name)
      lacks l =
          by_test (is_one_of l.name (names_at names (changed_slots changes))) (λ on. (on, refl))
          (λ off. contradiction (ap is_some l.is) (sym (at_end l.name off) ∙ l.removed))

  module _ (now : State) (name : Name) (ahead : List Name) (is_live : Bool) (pending : Pending now (name ∷ ahead)) (live : is_live ≡ live_after true s (live_names old.store) name) where
    end_live : (end : State) → Pads types s old end → is_some (end.store name) ≡ is_live
    end_live end pads = ap (λ (l : Names). l name) pads.after ∙ sym live

    end_padded : (end : State) → Pads types s old end → IsPadded (types name) (now.store name) (end.store name)
    end_padded end pads =
        ⊎_elim (λ same. subst (λ o. IsPadded (types name) o (end.store name)) (sym same) (padded_refl (types name) (end.store name)))
        (λ same. subst (λ o. IsPadded (types name) o (end.store name)) (sym same.0) (pads.padded name))
        ((pending.ran end pads).2 name)

    pub name_padded : (next : State) → PadsName {A = Unit {0}} (types name) at name is_live now next (Ok tt) → Pending next ahead
    name_padded next pads_name = record { ran = ran; lacks = lacks }
      where
        rest : (other : Name) → bytes_eq name other ≡ false → is_one_of other (name ∷ ahead) ≡ true → is_one_of other ahead ≡ true
        rest other apart on = subst (λ k. (k || is_one_of other ahead) ≡ true) (bytes_eq-sym other name ∙ apart) on

        ran : (end : State) → Pads types s old end
            → (next.head ≡ end.head) × (next.cells ≡ end.cells) × ((other : Name) → (next.store other ≡ end.store other) ⊎ ((next.store other ≡ old.store other) × (is_one_of other ahead ≡ true)))
        ran end pads =
            let after = pads_name.ran (end.store name) (end_live end pads) (end_padded end pads) in
            let before = pending.ran end pads in (
              ap (λ (z : State). z.head) after ∙ before.0,
              ap (λ (z : State). z.cells) after ∙ before.1,
              λ other. by_test (bytes_eq name other)
                  (λ same. inl (ap (λ (z : State). z.store other) after ∙ ap (λ k. if k then end.store name else now.store other) same ∙ ap end.store (same_name name other same)))
                  (λ apart.
                  let kept = pads_name.others other apart in
                  ⊎_elim (λ is. inl (kept ∙ is)) (λ is. inr (kept ∙ is.0, rest other apart is.1)) (before.2 other)),
            )

        lacks : (l : LacksPad types s old) → (is_one_of l.name ahead ≡ true) × (next.store l.name ≡ old.store l.name)
        lacks l =
            let before = pending.lacks l in
            by_test (bytes_eq name l.name)
            (λ same.
            let e = same_name name l.name same in
            absurd (pads_name.lacks l.ty l.value (live ∙ ap (live_after true s (live_names old.store)) e ∙ l.removed) (ap types e ∙ l.typed) (ap now.store e ∙ before.1 ∙ l.is) l.not_zero))
            (λ apart. (rest l.name apart before.0, pads_name.others l.name apart ∙ before.1))

    pub name_stopped : (next : State) (e : RunFault) → PadsName {A = Unit {0}} (types name) at name is_live now next (Err e) → PadsAll {A = Unit {0}} types s at old next (Err e)
    name_stopped next e pads_name = record {
      ran = λ end pads.
          goes_never (next ≡ record now { store = with_found now.store name (end.store name) }) (next ≡ end) e (pads_name.ran (end.store name) (end_live end pads) (end_padded end pads));
      lacks = λ l. pads_name.faults;
    }

  pub all_padded : (now : State) → Pending now [] → PadsAll {A = Unit {0}} types s at old now (Ok tt)
  all_padded now pending = record {
    ran = λ end pads.
        let done = pending.ran end pads in
        same_state done.0 done.1 (fun_ext (λ name. ⊎_elim (λ is. is) (λ is. absurd (true≢false (sym is.1))) (done.2 name)));
    lacks = λ l. true≢false (sym (pending.lacks l).0);
  }

  -- the same of the variable of a number
  module _ (now : State) (o : Option Name) (ahead : List Name) (is_live : Bool) (pending : Pending now (cons_option o ahead)) (live : (name : Name) → o ≡ Some name → is_live ≡ live_after true s (live_names old.store) name) where
    pub slot_padded : (next : State) → PadsSlot {A = Unit {0}} types at o is_live now next (Ok tt) → Pending next ahead
    slot_padded next pads = by o pending live pads
      where
        by : (o : Option Name) → Pending now (cons_option o ahead) → ((name : Name) → o ≡ Some name → is_live ≡ live_after true s (live_names old.store) name) → PadsSlot {A = Unit {0}} types at o is_live now next (Ok tt)
            → Pending next ahead
        by None pending live same = subst (λ (z : State). Pending z ahead) (sym same) pending
        by (Some name) pending live pads = name_padded now name ahead is_live pending (live name refl) next pads

    pub slot_stopped : (next : State) (e : RunFault) → PadsSlot {A = Unit {0}} types at o is_live now next (Err e) → PadsAll {A = Unit {0}} types s at old next (Err e)
    slot_stopped next e pads = by o pending live pads
      where
        by : (o : Option Name) → Pending now (cons_option o ahead) → ((name : Name) → o ≡ Some name → is_live ≡ live_after true s (live_names old.store) name) → PadsSlot {A = Unit {0}} types at o is_live now next (Err e)
            → PadsAll {A = Unit {0}} types s at old next (Err e)
        by None pending live goes = record { ran = λ end pads. goes_never (next ≡ now) (next ≡ end) e goes; lacks = λ l. stops_memory (next ≡ now) Pad at e goes }
        by (Some name) pending live pads = name_stopped now name ahead is_live pending (live name refl) next e pads

-- whether the variable of a number that changes has a value in the end
pub decided : (names : List Name) (changes : Changes) (live : Names) (slot : ℕ) (is_live : Bool) (name : Name) → AreDifferent names → slice_get names slot ≡ Some name → change_at changes slot ≡ Some is_live
    → is_live ≡ changed names changes live name
decided names changes live slot is_live name different there is =
    sym (ap (λ o. unwrap_or (option_and_then (change_at changes) o) (live name)) (sym (number_of_name names name slot different there)) ∙ ap (λ o. unwrap_or o (live name)) is)

-- an optional value that is not there
pub no_value : {A : Type 0} (o : Option A) (f : A → Value) → is_some o ≡ false → option_map f o ≡ None
no_value None f is = refl
no_value (Some x) f is = absurd (true≢false is)

-- what statements change, forward or backward
pub live_directed : (names : List Name) (forward : Bool) (s : StmtTree) (none changes : Changes) → ((live : Names) → changed names none live ≡ live)
    → ((live : Names) → changed names changes live ≡ live_after forward s (changed names none live)) → (live : Names) → changed names changes live ≡ live_after true (directed forward s) live
live_directed names true s none changes empty is live = is live ∙ ap (live_after true s) (empty live)
live_directed names false s none changes empty is live = is live ∙ ap (live_after false s) (empty live) ∙ sym (live_after-reverse_of true s live)
