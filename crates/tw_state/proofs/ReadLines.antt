-- The lines of names and of cells.
use Rattle.std.proofs.Common.{◌≡◌, ◌∙◌, refl, ap, sym, subst, arith, ℕ, ◌<◌, ◌≤◌, ◌+◌, List, [], ◌++◌, length, codes, decimal, append_assoc, Option, Some, None, inl, inr, unwrap_or, slice_get, option_map, Result, Ok, Err, IfOk}
use Rattle.std.proofs.lemmas.Bool.{cases_lt}
use Rattle.std.proofs.lemmas.List.{append_cancel_left}
use Rattle.std.proofs.lemmas.Option.{none-some, slice_get_within}
use denote.Bor.{Bor}
use Rattle.tw_text.specs.Prefix.{after}
use Rattle.tw_text.proofs.Prefixes.{after-append}
use Rattle.tw_types.specs.declared.values.Val.{Val}
use Rattle.tw_types.specs.Types.{Widths, Ty, Target}
use Rattle.tw_types.specs.Values.{Value, HasType}
use Rattle.tw_types.specs.FromCode.{value_of}
use Rattle.tw_types.specs.Table.{ty_at, written_at}
use Rattle.tw_state.specs.declared.state.Cell.{Cell as CellOfCode}
use Rattle.tw_state.specs.States.{Name, Free, Live}
use Rattle.tw_state.specs.FromCode.{cell_of}
use Rattle.tw_state.specs.TypedLists.{IsCell}
use Rattle.tw_state.specs.StateText.{value_text, name_line, cell_line}
use Rattle.tw_state.specs.Reading.{IsValueBefore, IsNamedValue, IsCellLine, IsFreeText, IsLiveText, live_line}

pub if_ok : {T E : Type 0} (r : Result T E) (P Q : T → Type 0) → ((x : T) → P x → Q x) → IfOk r P → IfOk r Q
if_ok (Ok x) P Q weaker p = weaker x p
if_ok (Err e) P Q weaker p = tt

pub name_line-rest : (name : Name) (value : Value) (rest : List ℕ) → name_line name value ++ rest ≡ name ++ (codes " " ++ (value_text value ++ (codes "\n" ++ rest)))
name_line-rest name value rest =
    append_assoc name (codes " " ++ (value_text value ++ codes "\n")) rest
    ∙ ap (λ t. name ++ (codes " " ++ t)) (append_assoc (value_text value) (codes "\n") rest)

-- the value after a name is the one of its line
pub value_named : (widths : Widths) (ty : Ty) (name : Name) (bytes behind : List ℕ) → bytes ≡ name ++ (codes " " ++ behind) → (found : Option (Val × Bor (List ℕ)))
    → IsValueBefore widths ty (codes "\n") behind found → IsNamedValue widths ty name bytes found
value_named widths ty name bytes behind is (Some found) read =
    (read.0, is ∙ ap (λ t. name ++ (codes " " ++ t)) read.1 ∙ sym (name_line-rest name (value_of found.0) found.1.now))
value_named widths ty name bytes behind is None none =
    λ value rest typed e. none value rest typed (append_cancel_left (codes " ") _ _ (append_cancel_left name _ _ (sym is ∙ e ∙ name_line-rest name value rest)))

free_line-rest : (targets : List Target) (block next : ℕ) (rest : List ℕ) → cell_line targets block (Free next) ++ rest ≡ decimal block ++ (codes " free " ++ (decimal next ++ (codes "\n" ++ rest)))
free_line-rest targets block next rest =
    append_assoc (decimal block) (codes " free " ++ (decimal next ++ codes "\n")) rest
    ∙ ap (λ t. decimal block ++ (codes " free " ++ t)) (append_assoc (decimal next) (codes "\n") rest)

live_line-rest : (targets : List Target) (block target : ℕ) (value : Value) (rest : List ℕ) → cell_line targets block (Live target value) ++ rest ≡ decimal block ++ (codes " live " ++ (live_line targets target value ++ rest))
live_line-rest targets block target value rest = append_assoc (decimal block) (codes " live " ++ live_line targets target value) rest

not_both : (t u : List ℕ) → codes " free " ++ t ≡ codes " live " ++ u → ⊥
unfolding after
not_both t u e = none-some t (sym (sym (after-append (codes " free ") t) ∙ ap (after (codes " free ")) e))

module _ (widths : Widths) (targets : List Target) (block : ℕ) (bytes : List ℕ) where
  -- the line of a free cell
  pub free_line : (behind : List ℕ) → bytes ≡ decimal block ++ (codes " free " ++ behind) → (found : Option (CellOfCode × Bor (List ℕ))) → IsFreeText widths behind found → IsCellLine widths targets block bytes found
  free_line behind is (Some found) (next, same, within, e) =
      (rw same within, rw same (is ∙ ap (λ t. decimal block ++ (codes " free " ++ t)) e ∙ sym (free_line-rest targets block next found.1.now)))
  free_line behind is None none = never
    where
      never : IsCellLine widths targets block bytes None
      never (Free next) rest typed e = none next rest typed (append_cancel_left (codes " free ") _ _ (append_cancel_left (decimal block) _ _ (sym is ∙ e ∙ free_line-rest targets block next rest)))
      never (Live target value) rest typed e = not_both _ _ (append_cancel_left (decimal block) _ _ (sym is ∙ e ∙ live_line-rest targets block target value rest))

  module _ (no_free : (rest : List ℕ) → ¬ (bytes ≡ decimal block ++ (codes " free " ++ rest))) where
    -- the line of a live cell
    pub live_cell_line : (behind : List ℕ) → bytes ≡ decimal block ++ (codes " live " ++ behind) → (found : Option (CellOfCode × Bor (List ℕ))) → IsLiveText widths targets behind found → IsCellLine widths targets block bytes found
    live_cell_line behind is (Some found) (target, value, same, typed, e) =
        (rw same typed, rw same (is ∙ ap (λ t. decimal block ++ (codes " live " ++ t)) e ∙ sym (live_line-rest targets block target value found.1.now)))
    live_cell_line behind is None none = never
      where
        never : IsCellLine widths targets block bytes None
        never (Free next) rest typed e = no_free _ (e ∙ free_line-rest targets block next rest)
        never (Live target value) rest typed e = none target value rest typed (append_cancel_left (codes " live ") _ _ (append_cancel_left (decimal block) _ _ (sym is ∙ e ∙ live_line-rest targets block target value rest)))

    -- no line of a cell
    pub no_cell_line : ((rest : List ℕ) → ¬ (bytes ≡ decimal block ++ (codes " live " ++ rest))) → IsCellLine widths targets block bytes None
    no_cell_line no_live (Free next) rest typed e = no_free _ (e ∙ free_line-rest targets block next rest)
    no_cell_line no_live (Live target value) rest typed e = no_live _ (e ∙ live_line-rest targets block target value rest)

mapped : (found : Option Target) (ty : Ty) → option_map (λ target. target.ty) found ≡ Some ty → (target : Target) × (found ≡ Some target)
mapped None ty is = absurd (none-some ty is)
mapped (Some target) ty is = (target, refl)

some_value : {A : Type 0} {x y : A} → Some x ≡ Some y → x ≡ y
some_value {A} {x} {y} same = ap (λ o. unwrap_or o x) same

-- the bytes begin with no live cell of the first targets
abbrev pub NoneOf : Widths → List Target → List ℕ → ℕ → Type 0
NoneOf widths targets bytes count = (target : ℕ) (value : Value) (rest : List ℕ) → target < count → IsCell widths targets (Live target value) → ¬ (bytes ≡ live_line targets target value ++ rest)

module _ (widths : Widths) (targets : List Target) (bytes : List ℕ) where
  pub none_first : NoneOf widths targets bytes 0
  none_first target value rest less typed e = omega (arith, less)

  module _ (number : ℕ) (ty : Ty) (written : List ℕ) (is_ty : ty_at targets number ≡ Some ty) (is_written : written_at targets number ≡ Some written) where
    as_written : (value : Value) → live_line targets number value ≡ name_line written value
    as_written value = ap (λ text. name_line (unwrap_or text []) value) is_written

    pub none_more : NoneOf widths targets bytes number → IsNamedValue widths ty written bytes None → NoneOf widths targets bytes (number + 1)
    none_more none other target value rest less typed e =
        elim (cases_lt target number) [
          | inl before ↦ none target value rest before typed e
          | inr here ↦
              let same : target ≡ number = omega (arith, less, here) in
              let fits = subst (λ t. IsCell widths targets (Live t value)) same typed in
              other value rest (subst (HasType widths value) (some_value (sym fits.1 ∙ is_ty)) fits.2)
              (subst (λ t. bytes ≡ live_line targets t value ++ rest) same e ∙ ap (λ t. t ++ rest) (as_written value))
        ]

    pub one_live : (found : Val × Bor (List ℕ)) (cell : CellOfCode) (rest : Bor (List ℕ)) → IsNamedValue widths ty written bytes (Some found) → cell_of cell ≡ Live number (value_of found.0) → rest ≡ found.1 → IsLiveText widths targets bytes (Some (cell, rest))
    one_live found cell rest read same is =
        (number, value_of found.0, same, (ty, is_ty, read.0), read.1 ∙ sym (ap (λ t. t ++ found.1.now) (as_written (value_of found.0))) ∙ ap (λ (r : Bor (List ℕ)). live_line targets number (value_of found.0) ++ r.now) (sym is))

  -- if no target is left, the bytes begin with no live cell
  pub none_at_all : (count : ℕ) → length targets ≤ count → NoneOf widths targets bytes count → IsLiveText widths targets bytes None
  none_at_all count all none target value rest typed e = none target value rest (omega (arith, all, within target typed.0 typed.1)) typed e
    where
      within : (target : ℕ) (ty : Ty) → ty_at targets target ≡ Some ty → target < length targets
      within target ty is = let found = mapped (slice_get targets target) ty is in slice_get_within targets target found.0 found.1
