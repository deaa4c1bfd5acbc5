-- What is found of statements, blocks and functions is their cost.
use Rattle.std.proofs.Common.{◌≡◌, ◌∙◌, ◌≤◌, ◌<◌, ◌+◌, arith, refl, sym, ap, subst, ℕ, suc, Bool, true, false, List, [], ◌∷◌, ◌++◌, if◌then◌else◌, length, drop, get_or, slice_get, Option, Some, option_and_then}
use Rattle.std.proofs.lemmas.List.{at_drop_more, at_drop_all}
use Rattle.tw_text.specs.declared.limits.TheConstants.{DEPTH_LIMIT}
use Rattle.tw_text.specs.declared.place.Pos.{Pos}
use Rattle.tw_syntax.specs.declared.statement.Stmt.{Stmt}
use Rattle.tw_syntax.specs.Names.{NameTree, PathTree}
use Rattle.tw_syntax.specs.Programs.{FunTree}
use Rattle.tw_syntax.specs.Statements.{StmtTree, Nothing, Then, Else, LetStmt, SwapStmt, MemSwapStmt, IfStmt, WithStmt, BlockStmt, SkipStmt, stmt_tree, stmts_tree}
use Rattle.tw_syntax.specs.Terms.{BoundTree, ExprTree, ExprRhs, CallRhs, AllocRhs}
use Rattle.tw_syntax.specs.Types.{WrittenTree}
use Rattle.tw_code.specs.declared.code.Options.{Options}
use Rattle.tw_code.specs.Rows.{Row, row, twice, swap_rows, mem_swap_rows, alloc_rows}
use Rattle.tw_resolve.specs.Declarations.{number_of}
use Rattle.tw_resolve.specs.Expressions.{type_at_path}
use Rattle.tw_resolve.specs.Setting.{Setting}
use Rattle.tw_state.specs.Depth.{IsWithin, WithinThen, WithinElse, WithinCall, WithinCallZero, WithinIf, WithinWith, WithinBlock}
use Rattle.tw_state.specs.Steps.{Activation, activation_of, callee_bound}
use Rattle.tw_state.proofs.Basics.{same_some, not_both}
use Rattle.tw_frames.specs.Inventory.{Inventory, InventoryNothing, InventoryThen, InventoryExpr, InventoryAlloc, InventorySwap, InventoryMemSwap, InventorySkip, InventoryBlock, InventoryIf, InventoryIfElse, InventoryWith, InventoryCall, InventoryCallZero, expr_rows, branch_controls, collect_rows, setup_controls}
use Rattle.tw_frames.specs.Sizes.{type_size}
use Rattle.tw_cost.specs.declared.costs.Cost.{Cost}
use Rattle.tw_cost.specs.declared.counting.Circuit.{Circuit}
use Rattle.tw_cost.specs.Costs.{no_cost, in_turn, exact_cost, capped_cost, cost_of}
use Rattle.tw_cost.specs.Counting.{FindsCost, FindsInside, FindsBranch, FindsEntered}
use Rattle.tw_cost.proofs.Capping.{join, after_none, before_none, turn_assoc, stops_twice}

setup_few : (options : Options) (under : ℕ) → setup_controls options under ≤ under
setup_few options under = by options.narrow
  where
    by : (k : Bool) → (if k then 0 else under) ≤ under
    by true = omega arith
    by false = omega arith

-- a branch has room for its controls
branch_room : (options : Options) (under inner : ℕ) → under + suc inner ≤ DEPTH_LIMIT → branch_controls options under + inner ≤ DEPTH_LIMIT
branch_room options under inner room = by options.flatten
  where
    by : (k : Bool) → (if k then 1 else 1 + under) + inner ≤ DEPTH_LIMIT
    by true = omega (arith, room)
    by false = omega (arith, room)

module _ (setting : Setting) (circuit : Circuit) (act : Activation) (left under : ℕ) where
  abbrev Is : StmtTree → List Row → Type 0
  Is s rows = Inventory setting circuit.options act under s rows

  pub finds_nothing : FindsCost setting circuit act left under Nothing no_cost
  finds_nothing room within rows inventory = by inventory
    where
      by : {rows : List Row} → Is Nothing rows → no_cost ≡ cost_of circuit.level rows
      by InventoryNothing = refl

  finds_then : {first rest : StmtTree} {x y : Cost} → FindsCost setting circuit act left under first x → FindsCost setting circuit act left under rest y
      → FindsCost setting circuit act left under (Then first rest) (capped_cost (in_turn x y))
  finds_then {first} {rest} {x} {y} one two room within rows inventory = by refl within inventory
    where
      by : {depth : ℕ} {rows : List Row} → depth ≡ left → IsWithin setting depth act.bound (Then first rest) → Is (Then first rest) rows → capped_cost (in_turn x y) ≡ cost_of circuit.level rows
      by is (WithinThen p q) (InventoryThen {a = a} {b = b} m n) =
          join circuit.level a b (one room (subst (λ d. IsWithin setting d act.bound first) is p) a m) (two room (subst (λ d. IsWithin setting d act.bound rest) is q) b n) refl

  -- single statements
  pub finds_expr : (at : Pos) (forward : Bool) (target : NameTree) (expr : ExprTree) {x : Cost} → x ≡ cost_of circuit.level (expr_rows setting act.types expr under)
      → FindsCost setting circuit act left under (LetStmt at forward target (ExprRhs expr)) x
  finds_expr at forward target expr {x} is room within rows inventory = by inventory
    where
      by : {rows : List Row} → Is (LetStmt at forward target (ExprRhs expr)) rows → x ≡ cost_of circuit.level rows
      by InventoryExpr = is

  pub finds_alloc : (at : Pos) (forward : Bool) (target : NameTree) (to : WrittenTree) {x : Cost} → x ≡ cost_of circuit.level (alloc_rows setting.widths.addr under)
      → FindsCost setting circuit act left under (LetStmt at forward target (AllocRhs to)) x
  finds_alloc at forward target to {x} is room within rows inventory = by inventory
    where
      by : {rows : List Row} → Is (LetStmt at forward target (AllocRhs to)) rows → x ≡ cost_of circuit.level rows
      by InventoryAlloc = is

  pub finds_swap : (at : Pos) (first second : PathTree) {x : Cost} → x ≡ cost_of circuit.level (swap_rows (type_size setting.widths (type_at_path act.types first)) under)
      → FindsCost setting circuit act left under (SwapStmt at first second) x
  finds_swap at first second {x} is room within rows inventory = by inventory
    where
      by : {rows : List Row} → Is (SwapStmt at first second) rows → x ≡ cost_of circuit.level rows
      by InventorySwap = is

  pub finds_mem_swap : (at : Pos) (pointer value : PathTree) {x : Cost} → x ≡ cost_of circuit.level (mem_swap_rows setting.widths.addr (type_size setting.widths (type_at_path act.types value)) under)
      → FindsCost setting circuit act left under (MemSwapStmt at pointer value) x
  finds_mem_swap at pointer value {x} is room within rows inventory = by inventory
    where
      by : {rows : List Row} → Is (MemSwapStmt at pointer value) rows → x ≡ cost_of circuit.level rows
      by InventoryMemSwap = is

  pub finds_skip : (at : Pos) → FindsCost setting circuit act left under (SkipStmt at) no_cost
  finds_skip at room within rows inventory = by inventory
    where
      by : {rows : List Row} → Is (SkipStmt at) rows → no_cost ≡ cost_of circuit.level rows
      by InventorySkip = refl

  -- blocks
  pub finds_block : {at : Pos} {body : StmtTree} {x : Cost} → FindsInside setting circuit act left under body x → FindsCost setting circuit act left under (BlockStmt at body) x
  finds_block {at} {body} {x} one room within rows inventory = by refl within inventory
    where
      by : {depth : ℕ} {rows : List Row} → left ≡ depth → IsWithin setting depth act.bound (BlockStmt at body) → Is (BlockStmt at body) rows → x ≡ cost_of circuit.level rows
      by is (WithinBlock {depth = inner} p) (InventoryBlock {a = a} m) = one inner is (omega (arith, room, is)) p a m

  pub finds_with : {at : Pos} {setup work : StmtTree} {controls : ℕ} {x y both : Cost} → controls ≡ setup_controls circuit.options under → FindsInside setting circuit act left controls setup x
      → FindsInside setting circuit act left under work y → both ≡ capped_cost (in_turn (capped_cost (in_turn x x)) y) → FindsCost setting circuit act left under (WithStmt at setup work) both
  finds_with {at} {setup} {work} {controls} {x} {y} {both} same one two is_both room within rows inventory = by refl within inventory
    where
      at_setup : FindsInside setting circuit act left (setup_controls circuit.options under) setup x
      at_setup = subst (λ k. FindsInside setting circuit act left k setup x) same one

      by : {depth : ℕ} {rows : List Row} → left ≡ depth → IsWithin setting depth act.bound (WithStmt at setup work) → Is (WithStmt at setup work) rows → both ≡ cost_of circuit.level rows
      by is (WithinWith {depth = inner} p q) (InventoryWith {a = a} {b = b} m n) =
          let few = setup_few circuit.options under in
          let before = at_setup inner is (omega (arith, few, room, is)) p a m in
          join circuit.level (twice a) b (join circuit.level a a before before refl) (two inner is (omega (arith, room, is)) q b n) is_both

  -- branches
  pub finds_branch : {stmts : StmtTree} {controls : ℕ} {collects x both : Cost} → (under < DEPTH_LIMIT → controls ≡ branch_controls circuit.options under)
      → collects ≡ cost_of circuit.level (collect_rows circuit.options under) → FindsInside setting circuit act left controls stmts x
      → both ≡ capped_cost (in_turn collects x) → FindsBranch setting circuit act left under stmts both
  finds_branch {stmts} {controls} {collects} {x} same is_collects one is_both inner is room within rows inventory =
      let inside = subst (λ k. FindsInside setting circuit act left k stmts x) (same (omega (arith, room, is))) one in
      let whole : under + suc inner ≤ DEPTH_LIMIT = omega (arith, room, is) in
      join circuit.level (collect_rows circuit.options under) rows is_collects (inside inner is (branch_room circuit.options under inner whole) within rows inventory) is_both

  pub finds_if : {at : Pos} {cond : PathTree} {first : StmtTree} {own x both : Cost} → own ≡ cost_of circuit.level (row 2 1 ∷ [])
      → FindsBranch setting circuit act left under first x → both ≡ capped_cost (in_turn own x) → FindsCost setting circuit act left under (IfStmt at cond first Nothing) both
  finds_if {at} {cond} {first} {own} {x} {both} is_own one is_both room within rows inventory = by refl within inventory
    where
      by : {depth : ℕ} {rows : List Row} → left ≡ depth → IsWithin setting depth act.bound (IfStmt at cond first Nothing) → Is (IfStmt at cond first Nothing) rows → both ≡ cost_of circuit.level rows
      by is (WithinIf {depth = inner} p q) (InventoryIf {a = a} m) = join circuit.level (row 2 1 ∷ []) (collect_rows circuit.options under ++ a) is_own (one inner is room p a m) is_both

  no_else : {at : Pos} {depth : ℕ} {stmts : StmtTree} → IsWithin setting depth act.bound (Else at stmts) → IsWithin setting depth act.bound stmts
  no_else (WithinElse p) = p

  pub finds_if_else : {at else_at : Pos} {cond : PathTree} {first other : StmtTree} {own x y second both : Cost} → own ≡ cost_of circuit.level (row 2 1 ∷ row 2 0 ∷ [])
      → FindsBranch setting circuit act left under first x → FindsBranch setting circuit act left under other y → second ≡ capped_cost (in_turn x y) → both ≡ capped_cost (in_turn own second)
      → FindsCost setting circuit act left under (IfStmt at cond first (Else else_at other)) both
  finds_if_else {at} {else_at} {cond} {first} {other} {own} {x} {y} {second} {both} is_own one two is_second is_both room within rows inventory = by refl within inventory
    where
      by : {depth : ℕ} {rows : List Row} → left ≡ depth → IsWithin setting depth act.bound (IfStmt at cond first (Else else_at other)) → Is (IfStmt at cond first (Else else_at other)) rows → both ≡ cost_of circuit.level rows
      by is (WithinIf {depth = inner} p q) (InventoryIfElse {a = a} {b = b} m n) =
          let collects = collect_rows circuit.options under in
          join circuit.level (row 2 1 ∷ row 2 0 ∷ []) ((collects ++ a) ++ (collects ++ b)) is_own
          (join circuit.level (collects ++ a) (collects ++ b) (one inner is room p a m) (two inner is room (no_else q) b n) is_second) is_both

  -- a call
  module _ (callee : NameTree) (bound : Option BoundTree) (at : Pos) (forward : Bool) (target : NameTree) (args : List NameTree) where
    abbrev call : StmtTree
    call = LetStmt at forward target (CallRhs callee bound args)

    pub finds_call : {x : Cost} (n number : ℕ) → callee_bound act.bound bound ≡ Some n → number_of setting.funs callee.text ≡ Some number → FindsEntered setting circuit left n under number x
        → FindsCost setting circuit act left under call x
    finds_call {x} k number is_k known finds room within rows inventory = by refl within inventory
      where
        at_number : {fun : FunTree} → option_and_then (slice_get setting.funs) (number_of setting.funs callee.text) ≡ Some fun → slice_get setting.funs number ≡ Some fun
        at_number named = ap (option_and_then (slice_get setting.funs)) (sym known) ∙ named

        by : {depth : ℕ} {rows : List Row} → left ≡ depth → IsWithin setting depth act.bound call → Is call rows → x ≡ cost_of circuit.level rows
        by is (WithinCall {depth = inner} fun n named is_n p) (InventoryCall {a = a} other m named2 is_m inventory) =
            let same : fun ≡ other = same_some named named2 in
            let k_n : n ≡ k = same_some is_n is_k in
            let k_m : m ≡ k = same_some is_m is_k in
            finds other (at_number named2) inner is (omega (arith, room, is)) (subst (λ (z : FunTree × ℕ). IsWithin setting inner z.1 z.0.body) (λ i. (same i, k_n i)) p) a
            (subst (λ z. Inventory setting circuit.options (activation_of setting other z) under other.body a) k_m inventory)
        by is (WithinCallZero none) (InventoryCall other m named is_m inventory) = not_both none is_m
        by is within (InventoryCallZero none) = not_both none is_k

  -- the statements of a list: those before are found, and the rest follow
  pub record LeftOf (whole rest : StmtTree) (most : Cost) : Type 0 where
    pub stops : capped_cost most ≡ most
    pub follows : (found : Cost) → FindsCost setting circuit act left under rest found → FindsCost setting circuit act left under whole (capped_cost (in_turn most found))

  pub left_first : (whole : StmtTree) → LeftOf whole whole no_cost
  left_first whole = record {
    stops = refl;
    follows = λ found finds room within rows inventory. let is = finds room within rows inventory in ap (λ f. capped_cost (in_turn no_cost f)) is ∙ after_none (exact_cost circuit.level rows);
  }

  pub left_next : (whole : StmtTree) (stmts : List Stmt) (i : ℕ) (other : Stmt) → i < length stmts → (most : Cost) {found new : Cost} → LeftOf whole (stmts_tree (drop i stmts)) most
      → FindsCost setting circuit act left under (stmt_tree (get_or stmts i other)) found → new ≡ capped_cost (in_turn most found) → LeftOf whole (stmts_tree (drop (i + 1) stmts)) new
  left_next whole stmts i other within most {found} {new} before finds is = record {
    stops = ap capped_cost is ∙ stops_twice (in_turn most found) ∙ sym is;
    follows = λ rest finds_rest.
        subst (FindsCost setting circuit act left under whole) (sym (ap (λ n. capped_cost (in_turn n rest)) is ∙ turn_assoc most found rest))
        (before.follows (capped_cost (in_turn found rest))
        (subst (λ s. FindsCost setting circuit act left under s (capped_cost (in_turn found rest))) (sym (at_drop_more stmts_tree stmts i other within)) (finds_then finds finds_rest)));
  }

  pub left_done : (whole : StmtTree) (stmts : List Stmt) (i : ℕ) (most : Cost) → length stmts ≤ i → LeftOf whole (stmts_tree (drop i stmts)) most → FindsCost setting circuit act left under whole most
  left_done whole stmts i most past before =
      subst (FindsCost setting circuit act left under whole) (before_none most ∙ before.stops)
      (before.follows no_cost (subst (λ s. FindsCost setting circuit act left under s no_cost) (sym (at_drop_all stmts_tree stmts i past)) finds_nothing))
