-- A state that is typed at an end of an entry is given by its memory and the list of its values.
use Rattle.std.proofs.Common.{◌≡◌, ◌∙◌, refl, sym, ap, ap₂, subst, Bool, true, false, ◌||◌, if◌then◌else◌, List, [], ◌∷◌, Option, Some, None, is_some, bytes_eq}
use Rattle.std.proofs.Math.Path.{fun_ext}
use Rattle.tw_syntax.specs.Programs.{FunTree}
use Rattle.tw_types.specs.Types.{Widths}
use Rattle.tw_types.specs.Values.{Value}
use Rattle.tw_resolve.specs.Declarations.{is_one_of}
use Rattle.tw_resolve.specs.Expressions.{Types}
use Rattle.tw_resolve.proofs.Texts.{bytes_eq-sym}
use Rattle.tw_check.specs.Names.{Names}
use Rattle.tw_check.specs.Liveness.{param_names, live_at_end}
use Rattle.tw_check.proofs.NameSets.{is_one_of-append}
use Rattle.tw_state.specs.States.{Name, Store}
use Rattle.tw_state.specs.Steps.{live_names}
use Rattle.tw_state.specs.Results.{Fits}
use Rattle.tw_state.specs.Listed.{names_at_end, store_of, HaveTypes}
use Rattle.tw_state.proofs.Basics.{some_value, by_test, by_option, same_name, name_test, contradiction}
use Rattle.tw_state.proofs.Calls.{AreDifferent}
use Rattle.tw_state.proofs.TypedValues.{StoreFits}

-- the set of these names
abbrev pub set_of : List Name → Names
set_of names name = is_one_of name names

-- the live names at the end are the parameters and the result
pub live_at_end-listed : (fun : FunTree) → live_at_end fun ≡ set_of (names_at_end fun)
live_at_end-listed fun =
    fun_ext (λ name.
    by (bytes_eq fun.returned.text name) (is_one_of name (param_names fun))
    ∙ sym (is_one_of-append name (param_names fun) (fun.returned.text ∷ []) ∙ ap (λ k. is_one_of name (param_names fun) || (k || false)) (bytes_eq-sym name fun.returned.text)))
  where
    by : (k l : Bool) → (if k then true else l) ≡ (l || (k || false))
    by true true = refl
    by true false = refl
    by false true = refl
    by false false = refl

module _ (widths : Widths) (types : Types) where
  -- the names of a listed store
  pub listed_live : (names : List Name) (values : List Value) → HaveTypes widths types names values → live_names (store_of names values) ≡ set_of names
  listed_live names values typed = fun_ext (λ name. each names values typed name)
    where
      by : (k : Bool) (value : Value) (o : Option Value) (l : Bool) → is_some o ≡ l → is_some (if k then Some value else o) ≡ (k || l)
      by true value o l same = refl
      by false value o l same = same

      each : (names : List Name) (values : List Value) → HaveTypes widths types names values → (name : Name) → is_some (store_of names values name) ≡ is_one_of name names
      each [] [] typed name = refl
      each (first ∷ names) (value ∷ values) typed name =
          by (bytes_eq first name) value (store_of names values name) (is_one_of name names) (each names values typed.1 name)
          ∙ ap (λ k. k || is_one_of name names) (bytes_eq-sym first name)
      each [] (value ∷ values) typed name = absurd typed
      each (first ∷ names) [] typed name = absurd typed

  -- a listed store is typed
  pub listed_fits : (names : List Name) (values : List Value) → HaveTypes widths types names values → StoreFits widths types (store_of names values)
  listed_fits [] [] typed name = tt
  listed_fits (first ∷ names) (value ∷ values) typed name =
      by (bytes_eq first name) (λ is. subst (λ n. Fits widths (types n) (Some value)) (same_name first name is) typed.0) (listed_fits names values typed.1 name)
    where
      by : (k : Bool) → (k ≡ true → Fits widths (types name) (Some value)) → Fits widths (types name) (store_of names values name) → Fits widths (types name) (if k then Some value else store_of names values name)
      by true here there = here refl
      by false here there = there
  listed_fits [] (value ∷ values) typed name = absurd typed
  listed_fits (first ∷ names) [] typed name = absurd typed

  -- the values of names in a store
  pub record Listing (names : List Name) (store : Store) : Type 0 where
    pub values : List Value
    pub typed : HaveTypes widths types names values
    pub each : (name : Name) → is_one_of name names ≡ true → store_of names values name ≡ store name

  listing : (names : List Name) (store : Store) → StoreFits widths types store → ((name : Name) → is_one_of name names ≡ true → is_some (store name) ≡ true) → Listing names store
  listing [] store fits live = record { values = []; typed = tt; each = λ name one. contradiction one refl }
  listing (first ∷ names) store fits live =
      by_option (store first)
      (λ none. contradiction {test = true} refl (sym (live first (ap (λ k. k || is_one_of first names) (name_test first))) ∙ ap is_some none))
      (λ value is. more value is (listing names store fits (λ name one. live name (or_true (bytes_eq name first) (is_one_of name names) one))))
    where
      or_true : (p q : Bool) → q ≡ true → (p || q) ≡ true
      or_true true q is = refl
      or_true false q is = is

      by : (name : Name) (value : Value) (rest : Option Value) (k : Bool) → (k ≡ true → Some value ≡ store name) → (k ≡ false → rest ≡ store name) → (if k then Some value else rest) ≡ store name
      by name value rest true here there = here refl
      by name value rest false here there = there refl

      more : (value : Value) → store first ≡ Some value → Listing names store → Listing (first ∷ names) store
      more value is deeper = record {
        values = value ∷ deeper.values;
        typed = (subst (Fits widths (types first)) is (fits first), deeper.typed);
        each = λ name one.
            by name value (store_of names deeper.values name) (bytes_eq first name)
            (λ same. sym is ∙ ap store (same_name first name same))
            (λ other. deeper.each name (subst (λ k. (k || is_one_of name names) ≡ true) (bytes_eq-sym name first ∙ other) one));
      }

  -- a typed store with exactly these names is a listed one
  pub listed : (names : List Name) (store : Store) → StoreFits widths types store → live_names store ≡ set_of names → (values : List Value) × HaveTypes widths types names values × (store ≡ store_of names values)
  listed names store fits live =
      let list = listing names store fits (λ name one. ap (λ (l : Names). l name) live ∙ one) in (
        list.values,
        list.typed,
        fun_ext (λ name.
            by_test (is_one_of name names) (λ one. sym (list.each name one))
            (λ none.
            absent (store name) (ap (λ (l : Names). l name) live ∙ none)
            ∙ sym (absent (store_of names list.values name) (ap (λ (l : Names). l name) (listed_live names list.values list.typed) ∙ none)))),
      )
    where
      absent : (o : Option Value) → is_some o ≡ false → o ≡ None
      absent None is = refl
      absent (Some value) is = contradiction {test = true} refl is

  -- different names tell the values of a listed store
  pub listed_values : (names : List Name) (values others : List Value) → AreDifferent names → HaveTypes widths types names values → HaveTypes widths types names others → store_of names values ≡ store_of names others → values ≡ others
  listed_values [] [] [] different typed typed2 same = refl
  listed_values (first ∷ names) (value ∷ values) (other ∷ others) different typed typed2 same =
      ap₂ (λ v vs. v ∷ vs) (some_value (sym (at_first value values) ∙ ap (λ (s : Store). s first) same ∙ at_first other others))
      (listed_values names values others different.1 typed.1 typed2.1 (fun_ext rest))
    where
      at_first : (v : Value) (vs : List Value) → store_of (first ∷ names) (v ∷ vs) first ≡ Some v
      at_first v vs = rw (name_test first) refl

      later : (v : Value) (vs : List Value) (name : Name) → bytes_eq first name ≡ false → store_of (first ∷ names) (v ∷ vs) name ≡ store_of names vs name
      later v vs name differ = rw differ refl

      absent : (o : Option Value) → is_some o ≡ false → o ≡ None
      absent None is = refl
      absent (Some v) is = contradiction {test = true} refl is

      unlisted : (vs : List Value) → HaveTypes widths types names vs → store_of names vs first ≡ None
      unlisted vs t = absent (store_of names vs first) (ap (λ (l : Names). l first) (listed_live names vs t) ∙ different.0)

      rest : (name : Name) → store_of names values name ≡ store_of names others name
      rest name =
          by_test (bytes_eq first name)
          (λ is. subst (λ n. store_of names values n ≡ store_of names others n) (same_name first name is) (unlisted values typed.1 ∙ sym (unlisted others typed2.1)))
          (λ differ. sym (later value values name differ) ∙ ap (λ (s : Store). s name) same ∙ later other others name differ)
  listed_values [] (v ∷ vs) others different typed typed2 same = absurd typed
  listed_values [] [] (v ∷ vs) different typed typed2 same = absurd typed2
  listed_values (first ∷ names) [] others different typed typed2 same = absurd typed
  listed_values (first ∷ names) (v ∷ vs) [] different typed typed2 same = absurd typed2
