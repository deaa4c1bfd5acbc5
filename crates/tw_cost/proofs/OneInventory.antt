-- A statement, a function and an entry have at most one inventory. In a program whose calls descend they have one.
use Rattle.std.proofs.Common.{◌≡◌, ◌∙◌, ◌<◌, ◌++◌, refl, sym, ap, subst, arith, ℕ, zero, suc, slice_get, get_or, Bool, List, [], ◌∷◌, bytes_eq, Option, Some, option_and_then}
use Rattle.std.proofs.Math.Arith.{lt_of_le-ne}
use Rattle.std.proofs.lemmas.List.Quantifiers.{position-Some}
use Rattle.std.proofs.lemmas.Option.{slice_get-get_or}
use Rattle.tw_text.specs.declared.place.Pos.{Pos}
use Rattle.tw_syntax.specs.Programs.{FunTree}
use Rattle.tw_syntax.specs.Names.{NameTree}
use Rattle.tw_syntax.specs.Statements.{StmtTree, LetStmt}
use Rattle.tw_syntax.specs.Terms.{RhsTree, ExprRhs, CallRhs, AllocRhs}
use Rattle.tw_code.specs.declared.code.Options.{Options}
use Rattle.tw_code.specs.Rows.{Row, row, twice}
use Rattle.tw_resolve.specs.Declarations.{Name, number_of}
use Rattle.tw_resolve.specs.Setting.{Setting}
use Rattle.tw_check.specs.declared.entry.Entry.{Entry}
use Rattle.tw_state.specs.Steps.{Activation, activation_of, running_bound, callee_bound}
use Rattle.tw_state.proofs.Basics.{same_some, not_both, by_option}
use Rattle.tw_state.proofs.FreeList.{by_block}
use Rattle.tw_state.proofs.CallEnds.{Below, Earlier, Smaller, below, RhsDescends, StmtDescends}
use Rattle.tw_frames.specs.Inventory.{Inventory, InventoryNothing, InventoryThen, InventoryExpr, InventoryAlloc, InventorySwap, InventoryMemSwap, InventorySkip, InventoryBlock, InventoryIf, InventoryIfElse, InventoryWith, InventoryCall, InventoryCallZero, InventoryOf, InventoryBody, InventoryNoBody, branch_controls, collect_rows, setup_controls}
use Rattle.tw_frames.proofs.OneMeasure.{Descends}
use Rattle.tw_cost.specs.Prices.{HasInventory, HasOneInventory}
use Rattle.tw_cost.proofs.Shapes.{Shape, ShapeNothing, ShapeThen, ShapeLet, ShapeSwap, ShapeMemSwap, ShapeIf, ShapeIfElse, ShapeWith, ShapeBlock, ShapeSkip}

append_same : {a b c d : List Row} → a ≡ b → c ≡ d → a ++ c ≡ b ++ d
append_same p q = λ i. p i ++ q i

module _ (setting : Setting) (options : Options) where
  -- a function and its bound, from the equations of two calls
  moved : {fun other : FunTree} {n m under : ℕ} {b : List Row} {f : Option FunTree} {o : Option ℕ} → f ≡ Some fun → f ≡ Some other → o ≡ Some n → o ≡ Some m
      → Inventory setting options (activation_of setting other m) under other.body b → Inventory setting options (activation_of setting fun n) under fun.body b
  moved {fun} {other} {n} {m} {under} {b} named named2 bound bound2 inventory =
      let p : other ≡ fun = same_some named2 named in
      let q : m ≡ n = same_some bound2 bound in
      subst (λ (x : FunTree × ℕ). Inventory setting options (activation_of setting x.0 x.1) under x.0.body b) (λ i. (p i, q i)) inventory

  -- a statement has one inventory
  pub inventory_determined : {act : Activation} {under : ℕ} {s : StmtTree} {a b : List Row} → Inventory setting options act under s a → Inventory setting options act under s b → a ≡ b
  inventory_determined InventoryNothing InventoryNothing = refl
  inventory_determined (InventoryThen a b) (InventoryThen c d) = append_same (inventory_determined a c) (inventory_determined b d)
  inventory_determined InventoryExpr InventoryExpr = refl
  inventory_determined InventoryAlloc InventoryAlloc = refl
  inventory_determined InventorySwap InventorySwap = refl
  inventory_determined InventoryMemSwap InventoryMemSwap = refl
  inventory_determined InventorySkip InventorySkip = refl
  inventory_determined (InventoryBlock a) (InventoryBlock b) = inventory_determined a b
  inventory_determined {under = under} (InventoryIf a) (InventoryIf b) = ap (λ x. row 2 1 ∷ (collect_rows options under ++ x)) (inventory_determined a b)
  inventory_determined {under = under} (InventoryIfElse a b) (InventoryIfElse c d) =
      let collects = collect_rows options under in
      let p = inventory_determined a c in
      let q = inventory_determined b d in
      λ i. row 2 1 ∷ row 2 0 ∷ ((collects ++ p i) ++ (collects ++ q i))
  inventory_determined (InventoryWith a b) (InventoryWith c d) = append_same (ap twice (inventory_determined a c)) (inventory_determined b d)
  inventory_determined (InventoryCall fun n named bound a) (InventoryCall other m named2 bound2 b) = inventory_determined a (moved named named2 bound bound2 b)
  inventory_determined (InventoryCall fun n named bound a) (InventoryCallZero none) = not_both none bound
  inventory_determined (InventoryCallZero none) (InventoryCall fun n named bound a) = not_both none bound
  inventory_determined (InventoryCallZero none) (InventoryCallZero none2) = refl

  -- a function has one inventory with each bound
  pub entry_inventory_determined : {fun : FunTree} {bound : Option ℕ} {a b : List Row} → InventoryOf setting options fun bound a → InventoryOf setting options fun bound b → a ≡ b
  entry_inventory_determined {fun} (InventoryBody n is p) (InventoryBody {rows = y} m is2 q) =
      inventory_determined p (subst (λ k. Inventory setting options (activation_of setting fun k) 0 fun.body y) (same_some is2 is) q)
  entry_inventory_determined (InventoryBody n is p) (InventoryNoBody none) = not_both none is
  entry_inventory_determined (InventoryNoBody none) (InventoryBody n is p) = not_both none is
  entry_inventory_determined (InventoryNoBody none) (InventoryNoBody none2) = refl

  -- an entry has at most one inventory
  pub has_inventory_determined : {entry : Entry} {a b : List Row} → HasInventory setting entry options a → HasInventory setting entry options b → a ≡ b
  has_inventory_determined {entry} {a} {b} p q =
      entry_inventory_determined p.is (subst (λ f. InventoryOf setting options f entry.bound b) (same_some q.at p.at) q.is)

  -- there is an inventory of this statement
  abbrev HasRows : Activation → ℕ → StmtTree → Type 0
  HasRows act under s = (a : List Row) × Inventory setting options act under s a

  -- the function of this number has an inventory with this bound under all numbers of controls
  abbrev BodyCounted : ℕ → ℕ → Type 0
  BodyCounted k n = (fun : FunTree) → slice_get setting.funs k ≡ Some fun → (under : ℕ) → HasRows (activation_of setting fun n) under fun.body

  module _ (k : ℕ) (act : Activation) (callees : (j m : ℕ) → Below j m k act.bound → BodyCounted j m) (caller : FunTree) where
    -- a function of this number is there
    callee_there : (name : Name) (j : ℕ) → number_of setting.funs name ≡ Some j → (fun : FunTree) × (slice_get setting.funs j ≡ Some fun)
    callee_there name j number = (
      get_or setting.funs j caller,
      slice_get-get_or setting.funs j caller (position-Some (λ fun. bytes_eq name fun.name.text) setting.funs j caller number).0,
    )

    rhs_counted : {at : Pos} {forward : Bool} {target : NameTree} (rhs : RhsTree) → RhsDescends setting k rhs → (under : ℕ) → HasRows act under (LetStmt at forward target rhs)
    rhs_counted (ExprRhs expr) down under = (_, InventoryExpr)
    rhs_counted (AllocRhs to) down under = (_, InventoryAlloc)
    rhs_counted (CallRhs callee bound args) down under =
        by_option (callee_bound act.bound bound) (λ none. ([], InventoryCallZero none))
        (λ n is.
        let fun = callee_there callee.text down.0 down.1 in
        let body = callees down.0 n (below down.2 is) fun.0 fun.1 under in
        (body.0, InventoryCall fun.0 n (ap (option_and_then (slice_get setting.funs)) down.1 ∙ fun.1) is body.1))

    -- a statement has an inventory, if its callees have
    stmt_counted : {s : StmtTree} → Shape s → StmtDescends setting k s → (under : ℕ) → HasRows act under s
    stmt_counted ShapeNothing down under = ([], InventoryNothing)
    stmt_counted (ShapeThen p q) down under =
        let a = stmt_counted p down.0 under in
        let b = stmt_counted q down.1 under in
        (a.0 ++ b.0, InventoryThen a.1 b.1)
    stmt_counted (ShapeLet {rhs = rhs}) down under = rhs_counted rhs down under
    stmt_counted ShapeSwap down under = (_, InventorySwap)
    stmt_counted ShapeMemSwap down under = (_, InventoryMemSwap)
    stmt_counted (ShapeIf p) down under = let a = stmt_counted p down.0 (branch_controls options under) in (_, InventoryIf a.1)
    stmt_counted (ShapeIfElse p q) down under =
        let a = stmt_counted p down.0 (branch_controls options under) in
        let b = stmt_counted q down.1 (branch_controls options under) in
        (_, InventoryIfElse a.1 b.1)
    stmt_counted (ShapeWith p q) down under =
        let a = stmt_counted p down.0 (setup_controls options under) in
        let b = stmt_counted q down.1 under in
        (_, InventoryWith a.1 b.1)
    stmt_counted (ShapeBlock p) down under = let a = stmt_counted p down under in (a.0, InventoryBlock a.1)
    stmt_counted ShapeSkip down under = ([], InventorySkip)

  module _ (descends : Descends setting) (shapes : (k : ℕ) (fun : FunTree) → slice_get setting.funs k ≡ Some fun → Shape fun.body) where
    body_case : (k n : ℕ) → ((j m : ℕ) → Below j m k n → BodyCounted j m) → BodyCounted k n
    body_case k n callees fun found under = stmt_counted k (activation_of setting fun n) callees fun (shapes k fun found) (descends k fun found) under

    -- with all smaller bounds, if all earlier functions have inventories
    smaller : (k : ℕ) → ((j : ℕ) → j < k → (m : ℕ) → BodyCounted j m) → (n m : ℕ) → m < n → BodyCounted k m
    smaller k earlier zero m less = absurd (omega (arith, less))
    smaller k earlier (suc n) m less =
        by_block m n
        (λ same. subst (BodyCounted k) (sym same) (body_case k n (λ j i is. down j i is (smaller k earlier n i))))
        (λ differ. smaller k earlier n m (lt_of_le-ne (omega (arith, less)) differ))
      where
        down : (j i : ℕ) → Below j i k n → (i < n → BodyCounted k i) → BodyCounted j i
        down j i (Earlier is) deeper = earlier j is i
        down j i (Smaller same is) deeper = subst (λ f. BodyCounted f i) (sym same) (deeper is)

    -- all earlier functions have inventories
    earlier : (k j : ℕ) → j < k → (m : ℕ) → BodyCounted j m
    earlier zero j less m = absurd (omega (arith, less))
    earlier (suc k) j less m =
        by_block j k
        (λ same. subst (λ f. BodyCounted f m) (sym same) (smaller k (earlier k) (suc m) m (omega arith)))
        (λ differ. earlier k j (lt_of_le-ne (omega (arith, less)) differ) m)

    -- each entry has one inventory
    pub one_inventory : (entry : Entry) (fun : FunTree) → slice_get setting.funs entry.fun ≡ Some fun → HasOneInventory setting entry options
    one_inventory entry fun found =
        by_option (running_bound entry.bound)
        (λ none. counted [] (InventoryNoBody none))
        (λ n is. let body = earlier (suc entry.fun) entry.fun (omega arith) n fun found 0 in counted body.0 (InventoryBody n is body.1))
      where
        counted : (a : List Row) → InventoryOf setting options fun entry.bound a → HasOneInventory setting entry options
        counted a is =
            let whole : HasInventory setting entry options a = record { fun = fun; at = found; is = is } in
            record { rows = a; is = whole; only = λ other also. has_inventory_determined whole also }
