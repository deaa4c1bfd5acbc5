-- Renaming of blocks by a bijection of all numbers, in values, stores, cells and expressions.
use Rattle.std.proofs.Common.{◌≡◌, ◌∙◌, ◌≤◌, ◌<◌, ◌==◌, refl, sym, ap, ap₂, subst, arith, ℕ, zero, suc, Bool, true, false, not, ◌&&◌, if◌then◌else◌, List, [], ◌∷◌, length, slice_get, Option, Some, None, is_some, option_map, option_and_then, unwrap_or, bytes_eq, ltb, ltb-false, ltb-true}
use Rattle.std.proofs.Math.Path.{fun_ext}
use Rattle.std.proofs.lemmas.Option.{none-some, slice_get_past}
use Rattle.std.proofs.lemmas.Bool.Decides.{Decides-eqb, same_from_decides}
use Rattle.std.proofs.lemmas.List.FromFn.{length-map-range_with_len}
use Rattle.tw_syntax.specs.declared.term.OpKind.{OpKind}
use Rattle.tw_syntax.specs.declared.term.OpKind.TheVariants as op
use Rattle.tw_syntax.specs.Names.{PathTree}
use Rattle.tw_syntax.specs.Terms.{AtomTree, PlaceAtom, NumberAtom, TrueAtom, FalseAtom, UnitAtom, NullAtom, ZeroAtom, ExprTree, OneExpr, TwoExpr, NotExpr, OpExpr}
use Rattle.tw_types.specs.Types.{Widths, Ty, UnitTy, Word, Boolean, Pointer, PairTy}
use Rattle.tw_types.specs.Values.{Value, UnitValue, Number, Truth, Address, PairValue, zero_value}
use Rattle.tw_resolve.specs.Setting.{Setting, type_of}
use Rattle.tw_state.specs.States.{Name, Cell, Free, Store, with_value, cell_at, with_cell}
use Rattle.tw_state.specs.Parts.{part_of, with_part, value_at, with_value_at}
use Rattle.tw_state.specs.Evaluation.{same_value, atom_value, negation, op_value, both, expr_value}
use Rattle.tw_state.specs.Steps.{seen, live_names}
use Rattle.tw_state.specs.Renaming.{Permutation, renamed_value, renamed_cell, cell_renamed_to, renamed_cells, renamed_store}
use Rattle.tw_state.proofs.Basics.{by_test}
use Rattle.tw_state.proofs.Cells.{cell_at_within, cell_at-range}
use Rattle.tw_state.proofs.Blocks.{cell_put, cell_other, cell_length}
use Rattle.tw_state.proofs.FreeList.{by_block}

-- the permutation is a bijection of all numbers, also of those past the blocks
pub record IsTotal {blocks : ℕ} (pi : Permutation blocks) : Type 0 where
  pub from_to : (block : ℕ) → pi.from (pi.to block) ≡ block
  pub to_from : (block : ℕ) → pi.to (pi.from block) ≡ block

-- lists of one length with the same items are equal
pub same_list : {A : Type 0} (xs ys : List A) → length xs ≡ length ys → ((i : ℕ) → slice_get xs i ≡ slice_get ys i) → xs ≡ ys
same_list [] [] len each = refl
same_list [] (y ∷ ys) len each = absurd (none-some y (each 0))
same_list (x ∷ xs) [] len each = absurd (none-some x (sym (each 0)))
same_list (x ∷ xs) (y ∷ ys) len each =
    ap₂ (λ z zs. z ∷ zs) (ap (λ o. unwrap_or o x) (each 0)) (same_list xs ys (omega (arith, len)) (λ i. each (suc i)))

-- the zero of a type has no block
pub zero_renamed : {blocks : ℕ} (pi : Permutation blocks) (ty : Ty) → renamed_value pi.to (zero_value ty) ≡ zero_value ty
zero_renamed pi UnitTy = refl
zero_renamed pi Word = refl
zero_renamed pi Boolean = refl
zero_renamed pi (Pointer target) = ap Address pi.to_null
zero_renamed pi (PairTy first second) = ap₂ PairValue (zero_renamed pi first) (zero_renamed pi second)

-- a part of a renamed value is the renamed part
part_renamed : (to : ℕ → ℕ) (steps : List ℕ) (value : Value) → part_of steps (renamed_value to value) ≡ option_map (renamed_value to) (part_of steps value)
part_renamed to [] value = refl
part_renamed to (zero ∷ steps) value = refl
part_renamed to (suc zero ∷ steps) (PairValue x y) = part_renamed to steps x
part_renamed to (suc zero ∷ steps) UnitValue = refl
part_renamed to (suc zero ∷ steps) (Number n) = refl
part_renamed to (suc zero ∷ steps) (Truth is) = refl
part_renamed to (suc zero ∷ steps) (Address block) = refl
part_renamed to (suc (suc zero) ∷ steps) (PairValue x y) = part_renamed to steps y
part_renamed to (suc (suc zero) ∷ steps) UnitValue = refl
part_renamed to (suc (suc zero) ∷ steps) (Number n) = refl
part_renamed to (suc (suc zero) ∷ steps) (Truth is) = refl
part_renamed to (suc (suc zero) ∷ steps) (Address block) = refl
part_renamed to (suc (suc (suc n)) ∷ steps) value = refl

with_part_renamed : (to : ℕ → ℕ) (steps : List ℕ) (value new : Value) → with_part steps (renamed_value to value) (renamed_value to new) ≡ renamed_value to (with_part steps value new)
with_part_renamed to [] value new = refl
with_part_renamed to (zero ∷ steps) value new = refl
with_part_renamed to (suc zero ∷ steps) (PairValue x y) new = ap (λ part. PairValue part (renamed_value to y)) (with_part_renamed to steps x new)
with_part_renamed to (suc zero ∷ steps) UnitValue new = refl
with_part_renamed to (suc zero ∷ steps) (Number n) new = refl
with_part_renamed to (suc zero ∷ steps) (Truth is) new = refl
with_part_renamed to (suc zero ∷ steps) (Address block) new = refl
with_part_renamed to (suc (suc zero) ∷ steps) (PairValue x y) new = ap (PairValue (renamed_value to x)) (with_part_renamed to steps y new)
with_part_renamed to (suc (suc zero) ∷ steps) UnitValue new = refl
with_part_renamed to (suc (suc zero) ∷ steps) (Number n) new = refl
with_part_renamed to (suc (suc zero) ∷ steps) (Truth is) new = refl
with_part_renamed to (suc (suc zero) ∷ steps) (Address block) new = refl
with_part_renamed to (suc (suc (suc n)) ∷ steps) value new = refl

module _ {blocks : ℕ} (pi : Permutation blocks) where
  -- the value at a path of a renamed store
  pub value_at_renamed : (store : Store) (path : PathTree) → value_at (renamed_store pi store) path ≡ option_map (renamed_value pi.to) (value_at store path)
  value_at_renamed store path = by (store path.root.text)
    where
      by : (o : Option Value) → option_and_then (part_of path.steps) (option_map (renamed_value pi.to) o) ≡ option_map (renamed_value pi.to) (option_and_then (part_of path.steps) o)
      by None = refl
      by (Some value) = part_renamed pi.to path.steps value

  pub with_value_renamed : (store : Store) (name : Name) (value : Value) → renamed_store pi (with_value store name value) ≡ with_value (renamed_store pi store) name (renamed_value pi.to value)
  with_value_renamed store name value = fun_ext (λ other. by (bytes_eq name other) other)
    where
      by : (k : Bool) (other : Name) → option_map (renamed_value pi.to) (if k then Some value else store other) ≡ (if k then Some (renamed_value pi.to value) else option_map (renamed_value pi.to) (store other))
      by true other = refl
      by false other = refl

  pub with_value_at_renamed : (store : Store) (path : PathTree) (value : Value) → renamed_store pi (with_value_at store path value) ≡ with_value_at (renamed_store pi store) path (renamed_value pi.to value)
  with_value_at_renamed store path value = fun_ext (λ other. by (bytes_eq path.root.text other) (store other))
    where
      inside : (o : Option Value) → option_map (renamed_value pi.to) (option_map (λ whole. with_part path.steps whole value) o) ≡ option_map (λ whole. with_part path.steps whole (renamed_value pi.to value)) (option_map (renamed_value pi.to) o)
      inside None = refl
      inside (Some whole) = ap Some (sym (with_part_renamed pi.to path.steps whole value))

      by : (k : Bool) (o : Option Value)
          → option_map (renamed_value pi.to) (if k then option_map (λ whole. with_part path.steps whole value) o else o)
          ≡ (if k then option_map (λ whole. with_part path.steps whole (renamed_value pi.to value)) (option_map (renamed_value pi.to) o) else option_map (renamed_value pi.to) o)
      by true o = inside o
      by false o = refl

  -- renaming keeps which names have values, and what a callee sees
  pub live_renamed : (store : Store) → live_names (renamed_store pi store) ≡ live_names store
  live_renamed store = fun_ext (λ name. by (store name))
    where
      by : (o : Option Value) → is_some (option_map (renamed_value pi.to) o) ≡ is_some o
      by None = refl
      by (Some value) = refl

  pub seen_renamed : (shared : List (Name × Name)) (store : Store) → seen shared (renamed_store pi store) ≡ renamed_store pi (seen shared store)
  seen_renamed shared store = fun_ext (λ name. each shared name)
    where
      by : (k : Bool) (o p q : Option Value) → p ≡ option_map (renamed_value pi.to) q → (if k then option_map (renamed_value pi.to) o else p) ≡ option_map (renamed_value pi.to) (if k then o else q)
      by true o p q deeper = refl
      by false o p q deeper = deeper

      each : (shared : List (Name × Name)) (name : Name) → seen shared (renamed_store pi store) name ≡ renamed_store pi (seen shared store) name
      each [] name = refl
      each (link ∷ more) name = by (bytes_eq link.0 name) (store link.1) (seen more (renamed_store pi store) name) (seen more store name) (each more name)

  module _ (total : IsTotal pi) where
    one_block : (x y : ℕ) → pi.to x ≡ pi.to y → x ≡ y
    one_block x y same = sym (total.from_to x) ∙ (ap pi.from same ∙ total.from_to y)

    block_test : (x y : ℕ) → (pi.to x == pi.to y) ≡ (x == y)
    block_test x y =
        same_from_decides {P = x ≡ y} (pi.to x == pi.to y) (x == y)
        ((λ test. one_block x y ((Decides-eqb (pi.to x) (pi.to y)).0 test)), (λ e. (Decides-eqb (pi.to x) (pi.to y)).1 (ap pi.to e)))
        (Decides-eqb x y)

    -- values are equal exactly if the renamed values are
    same_renamed : (x y : Value) → same_value (renamed_value pi.to x) (renamed_value pi.to y) ≡ same_value x y
    same_renamed UnitValue UnitValue = refl
    same_renamed (Number m) (Number n) = refl
    same_renamed (Truth p) (Truth q) = refl
    same_renamed (Address m) (Address n) = block_test m n
    same_renamed (PairValue a b) (PairValue c d) = ap₂ (λ p q. p && q) (same_renamed a c) (same_renamed b d)
    same_renamed UnitValue (Number n) = refl
    same_renamed UnitValue (Truth q) = refl
    same_renamed UnitValue (Address n) = refl
    same_renamed UnitValue (PairValue c d) = refl
    same_renamed (Number m) UnitValue = refl
    same_renamed (Number m) (Truth q) = refl
    same_renamed (Number m) (Address n) = refl
    same_renamed (Number m) (PairValue c d) = refl
    same_renamed (Truth p) UnitValue = refl
    same_renamed (Truth p) (Number n) = refl
    same_renamed (Truth p) (Address n) = refl
    same_renamed (Truth p) (PairValue c d) = refl
    same_renamed (Address m) UnitValue = refl
    same_renamed (Address m) (Number n) = refl
    same_renamed (Address m) (Truth q) = refl
    same_renamed (Address m) (PairValue c d) = refl
    same_renamed (PairValue a b) UnitValue = refl
    same_renamed (PairValue a b) (Number n) = refl
    same_renamed (PairValue a b) (Truth q) = refl
    same_renamed (PairValue a b) (Address n) = refl

    op_renamed : (widths : Widths) (operator : OpKind) (x y : Value) → op_value widths operator (renamed_value pi.to x) (renamed_value pi.to y) ≡ option_map (renamed_value pi.to) (op_value widths operator x y)
    op_renamed widths op.Eq x y = ap (λ k. Some (Truth k)) (same_renamed x y)
    op_renamed widths op.Ne x y = ap (λ k. Some (Truth (not k))) (same_renamed x y)
    op_renamed widths op.Add UnitValue y = refl
    op_renamed widths op.Add (Number m) UnitValue = refl
    op_renamed widths op.Add (Number m) (Number n) = refl
    op_renamed widths op.Add (Number m) (Truth q) = refl
    op_renamed widths op.Add (Number m) (Address n) = refl
    op_renamed widths op.Add (Number m) (PairValue c d) = refl
    op_renamed widths op.Add (Truth p) y = refl
    op_renamed widths op.Add (Address m) y = refl
    op_renamed widths op.Add (PairValue a b) y = refl
    op_renamed widths op.Sub UnitValue y = refl
    op_renamed widths op.Sub (Number m) UnitValue = refl
    op_renamed widths op.Sub (Number m) (Number n) = refl
    op_renamed widths op.Sub (Number m) (Truth q) = refl
    op_renamed widths op.Sub (Number m) (Address n) = refl
    op_renamed widths op.Sub (Number m) (PairValue c d) = refl
    op_renamed widths op.Sub (Truth p) y = refl
    op_renamed widths op.Sub (Address m) y = refl
    op_renamed widths op.Sub (PairValue a b) y = refl
    op_renamed widths op.Mul UnitValue y = refl
    op_renamed widths op.Mul (Number m) UnitValue = refl
    op_renamed widths op.Mul (Number m) (Number n) = refl
    op_renamed widths op.Mul (Number m) (Truth q) = refl
    op_renamed widths op.Mul (Number m) (Address n) = refl
    op_renamed widths op.Mul (Number m) (PairValue c d) = refl
    op_renamed widths op.Mul (Truth p) y = refl
    op_renamed widths op.Mul (Address m) y = refl
    op_renamed widths op.Mul (PairValue a b) y = refl
    op_renamed widths op.Lt UnitValue y = refl
    op_renamed widths op.Lt (Number m) UnitValue = refl
    op_renamed widths op.Lt (Number m) (Number n) = refl
    op_renamed widths op.Lt (Number m) (Truth q) = refl
    op_renamed widths op.Lt (Number m) (Address n) = refl
    op_renamed widths op.Lt (Number m) (PairValue c d) = refl
    op_renamed widths op.Lt (Truth p) y = refl
    op_renamed widths op.Lt (Address m) y = refl
    op_renamed widths op.Lt (PairValue a b) y = refl
    op_renamed widths op.And UnitValue y = refl
    op_renamed widths op.And (Number m) y = refl
    op_renamed widths op.And (Truth p) UnitValue = refl
    op_renamed widths op.And (Truth p) (Number n) = refl
    op_renamed widths op.And (Truth p) (Truth q) = refl
    op_renamed widths op.And (Truth p) (Address n) = refl
    op_renamed widths op.And (Truth p) (PairValue c d) = refl
    op_renamed widths op.And (Address m) y = refl
    op_renamed widths op.And (PairValue a b) y = refl
    op_renamed widths op.Or UnitValue y = refl
    op_renamed widths op.Or (Number m) y = refl
    op_renamed widths op.Or (Truth p) UnitValue = refl
    op_renamed widths op.Or (Truth p) (Number n) = refl
    op_renamed widths op.Or (Truth p) (Truth q) = refl
    op_renamed widths op.Or (Truth p) (Address n) = refl
    op_renamed widths op.Or (Truth p) (PairValue c d) = refl
    op_renamed widths op.Or (Address m) y = refl
    op_renamed widths op.Or (PairValue a b) y = refl

    zero_of_renamed : (o : Option Ty) → option_map zero_value o ≡ option_map (renamed_value pi.to) (option_map zero_value o)
    zero_of_renamed None = refl
    zero_of_renamed (Some ty) = ap Some (sym (zero_renamed pi ty))

    both_renamed : (f : Value → Value → Option Value) → ((x y : Value) → f (renamed_value pi.to x) (renamed_value pi.to y) ≡ option_map (renamed_value pi.to) (f x y)) → (o q : Option Value)
        → both f (option_map (renamed_value pi.to) o) (option_map (renamed_value pi.to) q) ≡ option_map (renamed_value pi.to) (both f o q)
    both_renamed f is None None = refl
    both_renamed f is None (Some y) = refl
    both_renamed f is (Some x) None = refl
    both_renamed f is (Some x) (Some y) = is x y

    negation_renamed : (o : Option Value) → option_and_then negation (option_map (renamed_value pi.to) o) ≡ option_map (renamed_value pi.to) (option_and_then negation o)
    negation_renamed None = refl
    negation_renamed (Some UnitValue) = refl
    negation_renamed (Some (Number n)) = refl
    negation_renamed (Some (Truth is)) = refl
    negation_renamed (Some (Address block)) = refl
    negation_renamed (Some (PairValue x y)) = refl

    -- the value of an expression in a renamed store
    pub atom_value_renamed : (setting : Setting) (store : Store) (atom : AtomTree) → atom_value setting (renamed_store pi store) atom ≡ option_map (renamed_value pi.to) (atom_value setting store atom)
    atom_value_renamed setting store (PlaceAtom at path) = value_at_renamed store path
    atom_value_renamed setting store (NumberAtom at number) = refl
    atom_value_renamed setting store (TrueAtom at) = refl
    atom_value_renamed setting store (FalseAtom at) = refl
    atom_value_renamed setting store (UnitAtom at) = refl
    atom_value_renamed setting store (NullAtom at to) = ap (λ n. Some (Address n)) (sym pi.to_null)
    atom_value_renamed setting store (ZeroAtom at ty) = zero_of_renamed (type_of setting ty)

    pub expr_value_renamed : (setting : Setting) (store : Store) (expr : ExprTree) → expr_value setting (renamed_store pi store) expr ≡ option_map (renamed_value pi.to) (expr_value setting store expr)
    expr_value_renamed setting store (OneExpr at x) = atom_value_renamed setting store x
    expr_value_renamed setting store (TwoExpr at x y) =
        ap₂ (both (λ first second. Some (PairValue first second))) (atom_value_renamed setting store x) (atom_value_renamed setting store y)
        ∙ both_renamed (λ first second. Some (PairValue first second)) (λ first second. refl) (atom_value setting store x) (atom_value setting store y)
    expr_value_renamed setting store (NotExpr at x) = ap (option_and_then negation) (atom_value_renamed setting store x) ∙ negation_renamed (atom_value setting store x)
    expr_value_renamed setting store (OpExpr at operator x y) =
        ap₂ (both (op_value setting.widths operator)) (atom_value_renamed setting store x) (atom_value_renamed setting store y)
        ∙ both_renamed (op_value setting.widths operator) (op_renamed setting.widths operator) (atom_value setting store x) (atom_value setting store y)

    module _ (cells : List Cell) (len : length cells ≡ blocks) where
      above_null : (f g : ℕ → ℕ) (block : ℕ) → g 0 ≡ 0 → g (f block) ≡ block → 0 < block → 0 < f block
      above_null f g block null back above = by (f block) back
        where
          by : (n : ℕ) → g n ≡ block → 0 < n
          by zero is = absurd (let same : block ≡ 0 = sym is ∙ null in omega (arith, same, above))
          by (suc n) is = omega arith

      -- the new address of a block has the block's cell, renamed
      pub cell_at_renamed : (block : ℕ) (cell : Cell) → cell_at cells block ≡ Some cell → cell_at (renamed_cells pi cells) (pi.to block) ≡ Some (renamed_cell pi.to cell)
      cell_at_renamed block cell at =
          let within = cell_at_within cells block cell at in
          let known : block ≤ blocks = subst (λ n. block ≤ n) len within.1 in
          cell_at-range (cell_renamed_to pi cells) (length cells) (pi.to block)
          (above_null pi.to pi.from block pi.from_null (total.from_to block) within.0) (subst (λ n. pi.to block ≤ n) (sym len) (pi.to_within block known))
          ∙ ap (λ n. Some (renamed_cell pi.to (unwrap_or (cell_at cells n) (Free 0)))) (total.from_to block)
          ∙ ap (λ o. Some (renamed_cell pi.to (unwrap_or o (Free 0)))) at

      -- a cell is changed, and then all are renamed
      pub with_cell_renamed : (block : ℕ) (old cell : Cell) → cell_at cells block ≡ Some old → renamed_cells pi (with_cell cells block cell) ≡ with_cell (renamed_cells pi cells) (pi.to block) (renamed_cell pi.to cell)
      with_cell_renamed block old cell at =
          same_list (renamed_cells pi (with_cell cells block cell)) (with_cell (renamed_cells pi cells) (pi.to block) (renamed_cell pi.to cell))
          (length-map-range_with_len (cell_renamed_to pi (with_cell cells block cell)) 1 (length (with_cell cells block cell)) ∙ cell_length cells block cell
          ∙ sym (cell_length (renamed_cells pi cells) (pi.to block) (renamed_cell pi.to cell) ∙ length-map-range_with_len (cell_renamed_to pi cells) 1 (length cells)))
          each
        where
          first_len : length (renamed_cells pi (with_cell cells block cell)) ≡ length cells
          first_len = length-map-range_with_len (cell_renamed_to pi (with_cell cells block cell)) 1 (length (with_cell cells block cell)) ∙ cell_length cells block cell

          second_len : length (with_cell (renamed_cells pi cells) (pi.to block) (renamed_cell pi.to cell)) ≡ length cells
          second_len = cell_length (renamed_cells pi cells) (pi.to block) (renamed_cell pi.to cell) ∙ length-map-range_with_len (cell_renamed_to pi cells) 1 (length cells)

          left : (b : ℕ) → 0 < b → b ≤ length cells → cell_at (renamed_cells pi (with_cell cells block cell)) b ≡ Some (renamed_cell pi.to (unwrap_or (cell_at (with_cell cells block cell) (pi.from b)) (Free 0)))
          left b above within = cell_at-range (cell_renamed_to pi (with_cell cells block cell)) (length (with_cell cells block cell)) b above (subst (λ n. b ≤ n) (sym (cell_length cells block cell)) within)

          right : (b : ℕ) → 0 < b → b ≤ length cells → cell_at (renamed_cells pi cells) b ≡ Some (renamed_cell pi.to (unwrap_or (cell_at cells (pi.from b)) (Free 0)))
          right b above within = cell_at-range (cell_renamed_to pi cells) (length cells) b above within

          within_each : (b : ℕ) → 0 < b → b ≤ length cells → cell_at (renamed_cells pi (with_cell cells block cell)) b ≡ cell_at (with_cell (renamed_cells pi cells) (pi.to block) (renamed_cell pi.to cell)) b
          within_each b above within =
              left b above within
              ∙ by_block (pi.to block) b
              (λ same.
              ap (λ n. Some (renamed_cell pi.to (unwrap_or (cell_at (with_cell cells block cell) n) (Free 0)))) (ap pi.from (sym same) ∙ total.from_to block)
              ∙ ap (λ o. Some (renamed_cell pi.to (unwrap_or o (Free 0)))) (cell_put cells block cell old at)
              ∙ sym (ap (cell_at (with_cell (renamed_cells pi cells) (pi.to block) (renamed_cell pi.to cell))) (sym same)
              ∙ cell_put (renamed_cells pi cells) (pi.to block) (renamed_cell pi.to cell) (renamed_cell pi.to old) (cell_at_renamed block old at)))
              (λ differ.
              ap (λ o. Some (renamed_cell pi.to (unwrap_or o (Free 0)))) (cell_other cells block (pi.from b) cell (λ is. differ (ap pi.to is ∙ total.to_from b)))
              ∙ sym (cell_other (renamed_cells pi cells) (pi.to block) b (renamed_cell pi.to cell) differ ∙ right b above within))

          each : (i : ℕ) → slice_get (renamed_cells pi (with_cell cells block cell)) i ≡ slice_get (with_cell (renamed_cells pi cells) (pi.to block) (renamed_cell pi.to cell)) i
          each i =
              by_test (ltb i (length cells))
              (λ test. let inside = ltb-true i (length cells) test in within_each (suc i) (omega arith) (omega (arith, inside)))
              (λ test. let past = ltb-false i (length cells) test in
              slice_get_past (renamed_cells pi (with_cell cells block cell)) i (subst (λ n. n ≤ i) (sym first_len) past)
              ∙ sym (slice_get_past (with_cell (renamed_cells pi cells) (pi.to block) (renamed_cell pi.to cell)) i (subst (λ n. n ≤ i) (sym second_len) past)))
