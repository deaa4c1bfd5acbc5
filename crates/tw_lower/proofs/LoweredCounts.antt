-- The code of a statement has the gates of the statement's inventory.
use Rattle.std.proofs.Common.{◌≡◌, ◌∙◌, ap, sym, subst, refl, arith, ℕ, zero, suc, ◌+◌, ◌*◌, ◌==◌, nat_le, Bool, true, false, if◌then◌else◌, List, [], ◌∷◌, ◌++◌, replicate, Option, Some, None, option_map, unwrap_or}
use Rattle.std.proofs.lemmas.Option.{none-some}
use Rattle.tw_bits.proofs.Laws.{number_bits-zero}
use Rattle.tw_syntax.specs.Programs.{FunTree}
use Rattle.tw_syntax.specs.Statements.{StmtTree}
use Rattle.tw_syntax.specs.Terms.{AtomTree, PlaceAtom, NumberAtom, TrueAtom, FalseAtom, UnitAtom, NullAtom, ZeroAtom, ExprTree}
use Rattle.tw_types.specs.Types.{Ty, size}
use Rattle.tw_types.specs.Values.{zero_value, value_bits}
use Rattle.tw_types.proofs.Zeros.{value_bits-zero}
use Rattle.tw_code.specs.declared.code.Options.{Options}
use Rattle.tw_code.specs.Trees.{CodeTree, IfCode}
use Rattle.tw_code.specs.Counts.{counts}
use Rattle.tw_code.specs.Rows.{Row, row, gates_in, Copied, Flipped, ones, load_rows, pair_rows, and_rows, twice}
use Rattle.tw_resolve.specs.Setting.{Setting, type_of}
use Rattle.tw_state.specs.Steps.{fun_types, activation_of}
use Rattle.tw_state.proofs.Basics.{some_value}
use Rattle.tw_state.proofs.TypedTrees.{ExprFits, StmtFits}
use Rattle.tw_arith.specs.Prices.{operand_load}
use Rattle.tw_arith.proofs.Pricing.{gates_in-append, load_price, pair_price, and_price}
use Rattle.tw_frames.specs.declared.regions.WireLayout.{WireLayout}
use Rattle.tw_frames.specs.Frames.{Frame}
use Rattle.tw_frames.specs.Layout.{entry_frame}
use Rattle.tw_frames.specs.Inventory.{load_of, expr_rows, branch_controls, collect_rows, Inventory, InventoryNothing, InventoryThen, InventoryExpr, InventorySkip, InventoryBlock, InventoryIf, InventoryIfElse, InventoryWith, InventoryOf, InventoryBody, InventoryNoBody}
use Rattle.tw_frames.specs.Sizes.{atom_size}
use Rattle.tw_lower.specs.Operands.{operand_of, IsExprCode, CodeOne, CodeTwo, CodeAnd}
use Rattle.tw_lower.specs.Lowering.{Lowers, LowersNothing, LowersThen, LowersLet, LowersIf, LowersIfElse, LowersWith, LowersBlock, LowersSkip, LowersEntry, LowersBody, LowersNoBody}
use Rattle.tw_lower.specs.StateBits.{running}
use Rattle.tw_lower.proofs.AtomBits.{atom_sized}

ones-zeros : (n : ℕ) → ones (replicate n false) ≡ 0
ones-zeros zero = refl
ones-zeros (suc n) = ones-zeros n

doubled : (k : Bool) → 2 * (if k then 1 else 0) ≡ (if k then 2 else 0)
doubled true = refl
doubled false = refl

-- gates that collect the controls of a branch, and then those of the branch
collected_two : (nested is : Bool) (branch wanted : ℕ) (all : List Row) → (2 == wanted) ≡ is → branch ≡ gates_in all wanted
    → (if 2 == wanted then (if nested then 2 else 0) else 0) + branch ≡ gates_in ((if nested then row 2 2 ∷ [] else []) ++ all) wanted
collected_two true is branch wanted all test same = ap (λ n. (if 2 == wanted then 2 else 0) + n) same
collected_two false true branch wanted all test same = rw test (omega (arith, same))
collected_two false false branch wanted all test same = rw test (omega (arith, same))

collected : (flatten : Bool) (under flat deep wanted : ℕ) (all : List Row) → (if flatten then flat else deep) ≡ gates_in all wanted
    → (if flatten then (if 2 == wanted then (if nat_le 1 under then 2 else 0) else 0) + flat else deep)
    ≡ gates_in ((if flatten then (if nat_le 1 under then row 2 2 ∷ [] else []) else []) ++ all) wanted
collected true under flat deep wanted all same = collected_two (nat_le 1 under) (2 == wanted) flat wanted all refl same
collected false under flat deep wanted all same = same

-- the controls of a branch, as the code and as the inventory have them
chosen : (flatten : Bool) (f : ℕ → ℕ) (under : ℕ) → (if flatten then f 1 else f (under + 1)) ≡ f (if flatten then 1 else 1 + under)
chosen true f under = refl
chosen false f under = let e : under + 1 ≡ 1 + under = omega arith in ap f e

module _ (options : Options) where
  -- a branch under the wire of its `if`
  branch_counts : (wire : ℕ) (body : CodeTree) (under wanted : ℕ) (all : List Row) → counts options body (branch_controls options under) wanted ≡ gates_in all wanted
      → counts options (IfCode wire body) under wanted ≡ gates_in (collect_rows options under ++ all) wanted
  branch_counts wire body under wanted all same =
      collected options.flatten under (counts options body 1 wanted) (counts options body (under + 1) wanted) wanted all (chosen options.flatten (λ n. counts options body n wanted) under ∙ same)

module _ (setting : Setting) (options : Options) (frame : Frame) where
  zero_ones : (ty : Option Ty) → ones (unwrap_or (option_map (value_bits setting.widths) (option_map zero_value ty)) []) ≡ 0
  zero_ones None = refl
  zero_ones (Some ty) = ap ones (value_bits-zero setting.widths ty) ∙ ones-zeros (size setting.widths ty)

  -- an atom is loaded as the inventory says
  loaded : (atom : AtomTree) (width : ℕ) → width ≡ atom_size setting frame.types atom → operand_load (operand_of setting frame atom) width ≡ load_of setting frame.types atom
  loaded (PlaceAtom at path) width sized = ap Copied sized
  loaded (NumberAtom at number) width sized = refl
  loaded (TrueAtom at) width sized = refl
  loaded (FalseAtom at) width sized = refl
  loaded (UnitAtom at) width sized = refl
  loaded (NullAtom at to) width sized = ap Flipped (ap ones (number_bits-zero setting.widths.addr) ∙ ones-zeros setting.widths.addr)
  loaded (ZeroAtom at written) width sized = ap Flipped (zero_ones (type_of setting written))

  -- the code of an expression has the gates of the expression
  pub expr_counts : {scratch out : ℕ} {expr : ExprTree} {code : CodeTree} (ty : Ty) → IsExprCode setting frame scratch out expr code → ExprFits setting frame.types expr ty → (under wanted : ℕ)
      → counts options code under wanted ≡ gates_in (expr_rows setting frame.types expr under) wanted
  expr_counts {out = out} ty (CodeOne {x = x}) fits under wanted =
      load_price options (operand_of setting frame x) out (atom_size setting frame.types x) under wanted ∙ ap (λ load. gates_in (load_rows load under) wanted) (loaded x _ refl)
  expr_counts {out = out} ty (CodeTwo {x = x} {y = y}) fits under wanted =
      let first = loaded x _ refl in
      let second = loaded y _ refl in
      pair_price options (operand_of setting frame x) (operand_of setting frame y) out (atom_size setting frame.types x) (atom_size setting frame.types y) under wanted
      ∙ (λ i. gates_in (pair_rows (first i) (second i) under) wanted)
  expr_counts {scratch = scratch} {out = out} ty (CodeAnd {x = x} {y = y}) fits under wanted =
      let first = loaded x 1 (sym (atom_sized setting frame x fits.0 fits.2 ∙ ap (size setting.widths) fits.4.0)) in
      let second = loaded y 1 (sym (atom_sized setting frame y fits.1 fits.3 ∙ ap (size setting.widths) fits.4.1)) in
      and_price options (operand_of setting frame x) (operand_of setting frame y) out scratch under wanted ∙ (λ i. gates_in (and_rows (first i) (second i) under) wanted)

  -- so it is with the code of a statement
  pub counted : {layout : WireLayout} {own number under : ℕ} {s : StmtTree} {code : CodeTree} {all : List Row} → Lowers setting layout frame own number s code → StmtFits setting frame.types s
      → Inventory setting options (running frame own) under s all → (wanted : ℕ) → counts options code under wanted ≡ gates_in all wanted
  counted LowersNothing fits InventoryNothing wanted = refl
  counted (LowersThen one others) fits (InventoryThen {a = xs} {b = ys} p q) wanted = omega (arith, counted one fits.0 p wanted, counted others fits.1 q wanted, gates_in-append xs ys wanted)
  counted {under = under} (LowersLet is) fits InventoryExpr wanted = expr_counts fits.0 is fits.2 under wanted
  counted {under = under} (LowersIf {taken = taken} one) fits (InventoryIf {a = xs} p) wanted =
      omega (arith, branch_counts options 0 taken under wanted xs (counted one fits.1 p wanted), doubled (1 == wanted))
  counted {under = under} (LowersIfElse {taken = taken} {skipped = skipped} one others) fits (InventoryIfElse {a = xs} {b = ys} p q) wanted =
      let first = branch_counts options 0 taken under wanted xs (counted one fits.1 p wanted) in
      let second = branch_counts options 0 skipped under wanted ys (counted others fits.2 q wanted) in
      omega (arith, first, second, doubled (1 == wanted), doubled (0 == wanted), gates_in-append (collect_rows options under ++ xs) (collect_rows options under ++ ys) wanted)
  counted (LowersWith one inner) fits (InventoryWith {a = xs} {b = ys} p q) wanted =
      omega (arith, counted one fits.0 p wanted, counted inner fits.1 q wanted, gates_in-append xs xs wanted, gates_in-append (twice xs) ys wanted)
  counted (LowersBlock inner) fits (InventoryBlock p) wanted = counted inner fits p wanted
  counted LowersSkip fits InventorySkip wanted = refl

-- and with the code of an entry
pub entry_counted : {setting : Setting} {layout : WireLayout} {fun : FunTree} {bound : Option ℕ} {code : CodeTree} {all : List Row} (options : Options) → LowersEntry setting layout fun bound code
    → StmtFits setting (fun_types setting fun) fun.body → InventoryOf setting options fun bound all → (wanted : ℕ) → counts options code 0 wanted ≡ gates_in all wanted
entry_counted {setting} {layout} {fun} {all = all} options (LowersBody n is lowers) fits (InventoryBody m same inventory) wanted =
    let equal : m ≡ n = some_value (sym same ∙ is) in
    counted setting options (entry_frame setting fun layout) lowers fits (subst (λ k. Inventory setting options (activation_of setting fun k) 0 fun.body all) equal inventory) wanted
entry_counted options (LowersBody n is lowers) fits (InventoryNoBody none) wanted = absurd (none-some n (sym none ∙ is))
entry_counted options (LowersNoBody none) fits (InventoryBody m same inventory) wanted = absurd (none-some m (sym none ∙ same))
entry_counted options (LowersNoBody none) fits (InventoryNoBody same) wanted = refl
