-- Chains of right lines of a text of states: the bytes determine each next line, so the number of lines determines where a chain ends.
use Rattle.std.proofs.Common.{◌≡◌, ◌∙◌, refl, sym, ap, subst, subst₂, ℕ, suc, ◌<◌, List, [], ◌∷◌, ◌++◌, length, Some, slice_get, inl, inr, arith}
use Rattle.std.proofs.lemmas.Bool.{cases_lt, cases_order}
use Rattle.std.proofs.lemmas.List.{append_cancel_left}
use Rattle.std.proofs.lemmas.Option.{none-some, slice_get_past}
use Rattle.tw_syntax.specs.Programs.{FunTree}
use Rattle.tw_types.specs.Values.{Value}
use Rattle.tw_resolve.specs.Setting.{Setting}
use Rattle.tw_state.specs.declared.state.Side.{Side}
use Rattle.tw_state.specs.States.{Name, Cell}
use Rattle.tw_state.specs.FromCode.{ListedState, names_at}
use Rattle.tw_state.specs.Results.{Fits}
use Rattle.tw_state.specs.Steps.{fun_types}
use Rattle.tw_state.specs.StateText.{name_line}
use Rattle.tw_state.specs.StateLines.{separator, Progress, InState, begun, IsLine, HeadLine, CellLine, NameLine, Separator, StepsTo, Reaches, Start, Line}
use Rattle.tw_state.proofs.Basics.{same_some}
use Rattle.tw_state.proofs.StateTexts.{HasStateTexts, heads-delimited, names-delimited, cells-delimited}

module _ (setting : Setting) (side : Side) (fun : FunTree) (texts : HasStateTexts setting side fun) where
  abbrev Leads : Progress → List ℕ → Progress → Type 0
  Leads at text next = IsLine setting side fun at text next

  -- a whole state has no further name
  pub no_name : (state : ListedState) (name : Name) → length state.values ≡ length (names_at side fun) → slice_get (names_at side fun) (length state.values) ≡ Some name → ⊥
  no_name state name all found =
      none-some name (sym (slice_get_past (names_at side fun) (length state.values) (omega (arith, all))) ∙ found)

  pub no_cell : (m n : ℕ) → m < n → m ≡ n → ⊥
  no_cell m n less same = omega (arith, less, same)

  -- one more cell, and one more value
  abbrev with_cell : ListedState → Cell → ListedState
  with_cell state cell = record state { cells = state.cells ++ cell ∷ [] }

  abbrev with_value : ListedState → Value → ListedState
  with_value state value = record state { values = state.values ++ value ∷ [] }

  -- the names of one place are one name
  same_line : (state : ListedState) (name other : Name) (x y : Value) (xs ys : List ℕ) → name ≡ other
      → Fits setting.widths (fun_types setting fun name) (Some x) → Fits setting.widths (fun_types setting fun other) (Some y) → name_line name x ++ xs ≡ name_line other y ++ ys → (x ≡ y) × (xs ≡ ys)
  same_line state name other x y xs ys is typed also same =
      names-delimited setting.widths texts.range name (fun_types setting fun name) x y xs ys typed (subst (λ n. Fits setting.widths (fun_types setting fun n) (Some y)) (sym is) also)
      (same ∙ ap (λ n. name_line n y ++ ys) (sym is))

  -- two right lines with which the bytes begin are one
  one_line : (at next other : Progress) (text text2 xs ys : List ℕ) → Leads at text next → Leads at text2 other → text ++ xs ≡ text2 ++ ys → (next ≡ other) × (xs ≡ ys)
  one_line at next other text text2 xs ys (HeadLine states m within) (HeadLine states2 n within2) same =
      let both = heads-delimited setting.widths texts.range m n xs ys within within2 same in
      (ap (λ h. InState states (begun h)) both.0, both.1)
  one_line at next other text text2 xs ys (CellLine states state cell more is) (CellLine states2 state2 cell2 more2 is2) same =
      let both = cells-delimited setting side fun texts (suc (length state.cells)) cell cell2 xs ys is is2 same in
      (ap (λ c. InState states (with_cell state c)) both.0, both.1)
  one_line at next other text text2 xs ys (NameLine states state name x all found typed) (NameLine states2 state2 name2 y all2 found2 typed2) same =
      let both = same_line state name name2 x y xs ys (same_some found found2) typed typed2 same in
      (ap (λ v. InState states (with_value state v)) both.0, both.1)
  one_line at next other text text2 xs ys (Separator states state whole formed few) (Separator states2 state2 whole2 formed2 few2) same = (refl, append_cancel_left separator xs ys same)
  one_line at next other text text2 xs ys (CellLine states state cell more is) (NameLine states2 state2 name2 y all2 found2 typed2) same = absurd (no_cell _ _ more all2)
  one_line at next other text text2 xs ys (CellLine states state cell more is) (Separator states2 state2 whole2 formed2 few2) same = absurd (no_cell _ _ more whole2.all_blocks)
  one_line at next other text text2 xs ys (NameLine states state name x all found typed) (CellLine states2 state2 cell2 more2 is2) same = absurd (no_cell _ _ more2 all)
  one_line at next other text text2 xs ys (NameLine states state name x all found typed) (Separator states2 state2 whole2 formed2 few2) same = absurd (no_name state name whole2.all_names found)
  one_line at next other text text2 xs ys (Separator states state whole formed few) (CellLine states2 state2 cell2 more2 is2) same = absurd (no_cell _ _ more2 whole.all_blocks)
  one_line at next other text text2 xs ys (Separator states state whole formed few) (NameLine states2 state2 name2 y all2 found2 typed2) same = absurd (no_name state name2 whole.all_names found2)

  abbrev Steps : Progress → List ℕ → Progress → List ℕ → Type 0
  Steps at bytes next rest = StepsTo setting side fun at bytes next rest

  abbrev Comes : List ℕ → ℕ → Progress → List ℕ → Type 0
  Comes bytes lines at rest = Reaches setting side fun bytes lines at rest

  one_step : (at next other : Progress) (bytes rest rest2 : List ℕ) → Steps at bytes next rest → Steps at bytes other rest2 → (next ≡ other) × (rest ≡ rest2)
  one_step at next other bytes rest rest2 step step2 = one_line at next other step.text step2.text rest rest2 step.right step2.right (sym step.parts ∙ step2.parts)

  -- chains of as many lines end at one point
  pub one_way : (bytes : List ℕ) (m n : ℕ) (at at2 : Progress) (rest rest2 : List ℕ) → m ≡ n → Comes bytes m at rest → Comes bytes n at2 rest2 → (at ≡ at2) × (rest ≡ rest2)
  one_way bytes m n at at2 rest rest2 same Start Start = (refl, refl)
  one_way bytes m n at at2 rest rest2 same Start (Line lines from behind next after chain step) = absurd (omega (arith, same))
  one_way bytes m n at at2 rest rest2 same (Line lines from behind next after chain step) Start = absurd (omega (arith, same))
  one_way bytes m n at at2 rest rest2 same (Line lines from behind next after chain step) (Line lines2 from2 behind2 next2 after2 chain2 step2) =
      let both = one_way bytes lines lines2 from from2 behind behind2 (omega (arith, same)) chain chain2 in
      one_step from next next2 behind after after2 step (subst₂ (λ s b. Steps s b next2 after2) (sym both.0) (sym both.1) step2)

  -- a line that continues a chain after this number of lines
  record GoesBy (bytes : List ℕ) (lines : ℕ) : Type 0 where
    at : Progress
    behind : List ℕ
    next : Progress
    rest : List ℕ
    chain : Comes bytes lines at behind
    step : Steps at behind next rest

  through : (bytes : List ℕ) (m n : ℕ) (at : Progress) (rest : List ℕ) → m < n → Comes bytes n at rest → GoesBy bytes m
  through bytes m n at rest less Start = absurd (omega (arith, less))
  through bytes m n at rest less (Line lines from behind next after chain step) =
      elim (cases_lt m lines) [
        | inl fewer ↦ through bytes m lines from behind fewer chain
        | inr all ↦ record { at = from; behind = behind; next = next; rest = after; chain = subst (λ k. Comes bytes k from behind) (omega (arith, less, all)) chain; step = step }
      ]

  -- if a longer chain continues with a line, a shorter one does
  goes_on : (bytes : List ℕ) (m n : ℕ) (at at2 : Progress) (rest rest2 : List ℕ) → m < n → Comes bytes m at rest → Comes bytes n at2 rest2 → (next : Progress) × (behind : List ℕ) × Steps at rest next behind
  goes_on bytes m n at at2 rest rest2 less chain longer =
      let by = through bytes m n at2 rest2 less longer in
      let both = one_way bytes m m by.at at by.behind rest refl by.chain chain in
      (by.next, by.rest, subst₂ (λ s b. Steps s b by.next by.rest) both.0 both.1 by.step)

  -- a chain ends here: no right line follows
  pub record EndsAt (bytes : List ℕ) (lines : ℕ) (at : Progress) (rest : List ℕ) : Type 0 where
    pub chain : Comes bytes lines at rest
    pub end : (next : Progress) (behind : List ℕ) → ¬ Steps at rest next behind

  pub one_end : (bytes : List ℕ) (m n : ℕ) (at at2 : Progress) (rest rest2 : List ℕ) → EndsAt bytes m at rest → EndsAt bytes n at2 rest2 → (m ≡ n) × (at ≡ at2) × (rest ≡ rest2)
  one_end bytes m n at at2 rest rest2 ends ends2 =
      elim (cases_order m n) [
        | inl same ↦ let both = one_way bytes m n at at2 rest rest2 same ends.chain ends2.chain in (same, both.0, both.1)
        | inr (inl less) ↦ let on = goes_on bytes m n at at2 rest rest2 less ends.chain ends2.chain in absurd (ends.end on.0 on.1 on.2)
        | inr (inr more) ↦ let on = goes_on bytes n m at2 at rest2 rest more ends2.chain ends.chain in absurd (ends2.end on.0 on.1 on.2)
      ]
