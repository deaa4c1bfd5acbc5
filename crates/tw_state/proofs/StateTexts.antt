-- The text of a typed state determines the state, also where another text follows.
use Rattle.std.proofs.Common.{◌≡◌, ◌∙◌, refl, sym, ap, subst, ℕ, suc, ◌≤◌, List, [], ◌∷◌, ◌++◌, length, codes, decimal, arith, Option, Some, None, slice_get, unwrap_or, append_assoc}
use Rattle.std.specs.List.{AllByRecursion}
use Rattle.std.proofs.lemmas.List.{append_cancel_left}
use Rattle.tw_text.proofs.Decimals.{decimal-delimited}
use Rattle.tw_syntax.specs.Programs.{FunTree, program_tree}
use Rattle.tw_syntax.specs.Types.{type_print}
use Rattle.tw_types.specs.Types.{Widths, AreInRange, Ty, Pointer, Target, block_count}
use Rattle.tw_types.specs.Table.{AreDistinct, written_at}
use Rattle.tw_types.specs.Values.{Value, HasType}
use Rattle.tw_resolve.specs.Expressions.{Types}
use Rattle.tw_resolve.specs.Resolved.{resolved_setting}
use Rattle.tw_resolve.specs.Setting.{Setting, pointee}
use Rattle.tw_check.specs.declared.checked.Checked.{Checked}
use Rattle.tw_state.specs.declared.state.Side.{Side}
use Rattle.tw_state.specs.States.{Name, Cell, Free, Live}
use Rattle.tw_state.specs.EntryEncoding.{targets_in}
use Rattle.tw_state.specs.FromCode.{ListedState, names_at}
use Rattle.tw_state.specs.Listed.{HaveTypes}
use Rattle.tw_state.specs.Results.{Fits, IsCell}
use Rattle.tw_state.specs.Steps.{fun_types}
use Rattle.tw_state.specs.StateText.{value_text, head_line, name_line, cell_line, cell_lines, name_lines, state_text}
use Rattle.tw_state.specs.TypedLists.{IsTypedOn}
use Rattle.tw_state.proofs.Basics.{same_some}
use Rattle.tw_state.proofs.Blocks.{get_all}
use Rattle.tw_state.proofs.Calls.{AreDifferent}
use Rattle.tw_state.proofs.EntryFunctions.{entry_names_different}
use Rattle.tw_state.proofs.TargetTexts.{HasPlainAliases, known_target, same_number, targets_distinct, targets_plain}
use Rattle.tw_state.proofs.TypedStates.{fits_listed}
use Rattle.tw_state.proofs.TypeTexts.{HasPlainNames, types-delimited}
use Rattle.tw_state.proofs.ValueTexts.{address_small, other_first, same_rest, values-delimited}

-- What the texts of states take of a program: its widths are in range, the names in its targets have no delimiter of types, no two
-- targets are written the same, and no two names on the side of the function are equal.
pub record HasStateTexts (setting : Setting) (side : Side) (fun : FunTree) : Type 0 where
  pub range : AreInRange setting.widths
  pub plain : AllByRecursion HasPlainNames setting.scope.targets
  pub distinct : AreDistinct (targets_in setting)
  pub different : AreDifferent (names_at side fun)

-- a checked program has all of this if the names of its aliases have no delimiter of types
pub checked_texts : (checked : Checked) (number : ℕ) (side : Side) (fun : FunTree) → slice_get (resolved_setting checked.resolved).funs number ≡ Some fun → AreInRange (resolved_setting checked.resolved).widths
    → HasPlainAliases (program_tree checked.resolved.program.now) → HasStateTexts (resolved_setting checked.resolved) side fun
checked_texts checked number side fun found range plain = record {
  range = range;
  plain = targets_plain checked plain;
  distinct = targets_distinct checked;
  different = entry_names_different checked side number fun found;
}

head_nested : (head : ℕ) (rest : List ℕ) → head_line head ++ rest ≡ codes "free " ++ (decimal head ++ (codes "\n" ++ rest))
head_nested head rest = simp append_assoc

name_nested : (name : Name) (value : Value) (rest : List ℕ) → name_line name value ++ rest ≡ name ++ (codes " " ++ (value_text value ++ (codes "\n" ++ rest)))
name_nested name value rest = simp append_assoc

free_nested : (targets : List Target) (block next : ℕ) (rest : List ℕ) → cell_line targets block (Free next) ++ rest ≡ decimal block ++ (codes " free " ++ (decimal next ++ (codes "\n" ++ rest)))
free_nested targets block next rest = simp append_assoc

live_nested : (targets : List Target) (block target : ℕ) (value : Value) (rest : List ℕ) → cell_line targets block (Live target value) ++ rest
    ≡ decimal block ++ (codes " live " ++ (unwrap_or (written_at targets target) [] ++ (codes " " ++ (value_text value ++ (codes "\n" ++ rest)))))
live_nested targets block target value rest = simp append_assoc

-- the heads of two texts
pub heads-delimited : (widths : Widths) → AreInRange widths → (head other : ℕ) (xs ys : List ℕ) → head ≤ block_count widths → other ≤ block_count widths → head_line head ++ xs ≡ head_line other ++ ys → (head ≡ other) × (xs ≡ ys)
heads-delimited widths range head other xs ys within within2 same =
    let nested = append_cancel_left (codes "free ") _ _ (sym (head_nested head xs) ∙ same ∙ head_nested other ys) in
    let both = decimal-delimited head other 10 10 xs ys (address_small widths range head within) (address_small widths range other within2) refl refl nested in
    (both.0, same_rest both.1)

-- the lines of a name with two values of a type
pub names-delimited : (widths : Widths) → AreInRange widths → (name : Name) (ty : Option Ty) (x y : Value) (xs ys : List ℕ) → Fits widths ty (Some x) → Fits widths ty (Some y)
    → name_line name x ++ xs ≡ name_line name y ++ ys → (x ≡ y) × (xs ≡ ys)
names-delimited widths range name None x y xs ys typed also same = absurd typed
names-delimited widths range name (Some ty) x y xs ys typed also same =
    let nested = append_cancel_left (codes " ") _ _ (append_cancel_left name _ _ (sym (name_nested name x xs) ∙ same ∙ name_nested name y ys)) in
    let both = values-delimited widths range ty x y 10 10 xs ys typed also refl refl nested in
    (both.0, same_rest both.1)

values-told : (widths : Widths) → AreInRange widths → (types : Types) (names : List Name) (values others : List Value) (xs ys : List ℕ) → HaveTypes widths types names values → HaveTypes widths types names others
    → name_lines names values ++ xs ≡ name_lines names others ++ ys → (values ≡ others) × (xs ≡ ys)
values-told widths range types [] [] [] xs ys typed also same = (refl, same)
values-told widths range types (name ∷ names) (x ∷ values) (y ∷ others) xs ys typed also same =
    let nested = sym (append_assoc (name_line name x) (name_lines names values) xs) ∙ same ∙ append_assoc (name_line name y) (name_lines names others) ys in
    let first = names-delimited widths range name (types name) x y _ _ typed.0 also.0 nested in
    let more = values-told widths range types names values others xs ys typed.1 also.1 first.1 in
    (ap (λ v. v ∷ values) first.0 ∙ ap (λ vs. y ∷ vs) more.0, more.1)
values-told widths range types [] [] (y ∷ others) xs ys typed also same = absurd also
values-told widths range types (name ∷ names) (x ∷ values) [] xs ys typed also same = absurd also
values-told widths range types [] (x ∷ values) others xs ys typed also same = absurd typed
values-told widths range types (name ∷ names) [] others xs ys typed also same = absurd typed

module _ (setting : Setting) (side : Side) (fun : FunTree) (texts : HasStateTexts setting side fun) where
  abbrev own : List Target
  own = targets_in setting

  abbrev text_at : ℕ → List ℕ
  text_at target = unwrap_or (written_at own target) []

  -- a live cell, from its target on
  lives-told : (target other : ℕ) (x y : Value) (xs ys : List ℕ) → IsCell setting (Live target x) → IsCell setting (Live other y)
      → text_at target ++ (codes " " ++ (value_text x ++ (codes "\n" ++ xs))) ≡ text_at other ++ (codes " " ++ (value_text y ++ (codes "\n" ++ ys))) → (Live target x ≡ Live other y) × (xs ≡ ys)
  lives-told target other x y xs ys is is2 same =
      let a = known_target setting target is.0 is.1 in
      let b = known_target setting other is2.0 is2.1 in
      let text = ap (λ o. unwrap_or o []) a.2 in
      let text2 = ap (λ o. unwrap_or o []) b.2 in
      let printed = sym (ap (λ t. t ++ (codes " " ++ (value_text x ++ (codes "\n" ++ xs)))) text) ∙ same ∙ ap (λ t. t ++ (codes " " ++ (value_text y ++ (codes "\n" ++ ys)))) text2 in
      let both = types-delimited a.0 b.0 32 32 _ _ (get_all HasPlainNames setting.scope.targets target a.0 texts.plain a.1) (get_all HasPlainNames setting.scope.targets other b.0 texts.plain b.1) refl refl printed in
      let number = same_number own target other (type_print a.0) texts.distinct a.2 (b.2 ∙ ap Some (sym both.0)) in
      let ty = same_some is.1 (ap (λ n. pointee setting (Some (Pointer n))) number ∙ is2.1) in
      let value = values-delimited setting.widths texts.range is.0 x y 10 10 xs ys is.2 (subst (HasType setting.widths y) (sym ty) is2.2) refl refl (same_rest both.1) in
      (ap (λ n. Live n x) number ∙ ap (Live other) value.0, same_rest value.1)

  -- the lines of two cells of a block
  pub cells-delimited : (block : ℕ) (cell other : Cell) (xs ys : List ℕ) → IsCell setting cell → IsCell setting other → cell_line own block cell ++ xs ≡ cell_line own block other ++ ys → (cell ≡ other) × (xs ≡ ys)
  cells-delimited block (Free m) (Free n) xs ys is is2 same =
      let nested = append_cancel_left (codes " free ") _ _ (append_cancel_left (decimal block) _ _ (sym (free_nested own block m xs) ∙ same ∙ free_nested own block n ys)) in
      let both = decimal-delimited m n 10 10 xs ys (address_small setting.widths texts.range m is) (address_small setting.widths texts.range n is2) refl refl nested in
      (ap Free both.0, same_rest both.1)
  cells-delimited block (Live target x) (Live other y) xs ys is is2 same =
      lives-told target other x y xs ys is is2
      (append_cancel_left (codes " live ") _ _ (append_cancel_left (decimal block) _ _ (sym (live_nested own block target x xs) ∙ same ∙ live_nested own block other y ys)))
  cells-delimited block (Free m) (Live other y) xs ys is is2 same =
      other_first refl (same_rest (append_cancel_left (decimal block) _ _ (sym (free_nested own block m xs) ∙ same ∙ live_nested own block other y ys)))
  cells-delimited block (Live target x) (Free n) xs ys is is2 same =
      other_first refl (same_rest (append_cancel_left (decimal block) _ _ (sym (live_nested own block target x xs) ∙ same ∙ free_nested own block n ys)))

  cells-told : (block : ℕ) (cells others : List Cell) (xs ys : List ℕ) → length cells ≡ length others → AllByRecursion (IsCell setting) cells → AllByRecursion (IsCell setting) others
      → cell_lines own block cells ++ xs ≡ cell_lines own block others ++ ys → (cells ≡ others) × (xs ≡ ys)
  cells-told block [] [] xs ys count all all2 same = (refl, same)
  cells-told block (cell ∷ cells) (other ∷ others) xs ys count all all2 same =
      let nested = sym (append_assoc (cell_line own block cell) (cell_lines own (suc block) cells) xs) ∙ same ∙ append_assoc (cell_line own block other) (cell_lines own (suc block) others) ys in
      let first = cells-delimited block cell other _ _ all.0 all2.0 nested in
      let more = cells-told (suc block) cells others xs ys (omega (arith, count)) all.1 all2.1 first.1 in
      (ap (λ c. c ∷ cells) first.0 ∙ ap (λ cs. other ∷ cs) more.0, more.1)
  cells-told block [] (other ∷ others) xs ys count all all2 same = absurd (omega (arith, count))
  cells-told block (cell ∷ cells) [] xs ys count all all2 same = absurd (omega (arith, count))

  pub values_typed : (listed : ListedState) → IsTypedOn setting side fun listed → HaveTypes setting.widths (fun_types setting fun) (names_at side fun) listed.values
  values_typed listed typed = fits_listed setting.widths (fun_types setting fun) (names_at side fun) listed.values typed.counted texts.different typed.typed.typed.names

  pub text_nested : (listed : ListedState) (rest : List ℕ) → state_text setting side fun listed ++ rest ≡ head_line listed.head ++ (cell_lines own 1 listed.cells ++ (name_lines (names_at side fun) listed.values ++ rest))
  text_nested listed rest =
      append_assoc (head_line listed.head) (cell_lines own 1 listed.cells ++ name_lines (names_at side fun) listed.values) rest
      ∙ ap (λ t. head_line listed.head ++ t) (append_assoc (cell_lines own 1 listed.cells) (name_lines (names_at side fun) listed.values) rest)

  same_state : (listed other : ListedState) → listed.head ≡ other.head → listed.cells ≡ other.cells → listed.values ≡ other.values → listed ≡ other
  same_state listed other head cells values =
      let made : ℕ → List Cell → List Value → ListedState = λ h c v. record { head = h; cells = c; values = v } in
      let same : made listed.head listed.cells listed.values ≡ made other.head other.cells other.values = rw (head, cells, values) refl in
      same

  -- states that are typed on one side of a function are equal if the texts are, and so are the texts that follow them
  pub states-delimited : (listed other : ListedState) (xs ys : List ℕ) → IsTypedOn setting side fun listed → IsTypedOn setting side fun other
      → state_text setting side fun listed ++ xs ≡ state_text setting side fun other ++ ys → (listed ≡ other) × (xs ≡ ys)
  states-delimited listed other xs ys typed also same =
      let memory = typed.typed.typed in
      let memory2 = also.typed.typed in
      let nested = sym (text_nested listed xs) ∙ same ∙ text_nested other ys in
      let head = heads-delimited setting.widths texts.range listed.head other.head _ _ memory.head_within memory2.head_within nested in
      let cells = cells-told 1 listed.cells other.cells _ _ (memory.all_blocks ∙ sym memory2.all_blocks) memory.each_cell memory2.each_cell head.1 in
      let values = values-told setting.widths texts.range (fun_types setting fun) (names_at side fun) listed.values other.values xs ys (values_typed listed typed) (values_typed other also) cells.1 in
      (same_state listed other head.0 cells.0 values.0, values.1)

  -- each typed state has one text, and each text is that of one typed state
  pub one_state : (listed other : ListedState) → IsTypedOn setting side fun listed → IsTypedOn setting side fun other → state_text setting side fun listed ≡ state_text setting side fun other → listed ≡ other
  one_state listed other typed also same = (states-delimited listed other [] [] typed also (ap (λ t. t ++ []) same)).0
