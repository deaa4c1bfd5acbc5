-- What is found of the functions that calls enter is what they need, capped.
use Rattle.std.proofs.Common.{◌≡◌, ◌∙◌, ◌≤◌, ◌<◌, ◌+◌, max, min, arith, refl, sym, ap, subst, ℕ, suc, List, length, drop, get_or, slice_get, Option, Some, None, option_and_then}
use Rattle.std.proofs.lemmas.List.{at_drop_more, at_drop_all}
use Rattle.std.proofs.lemmas.Option.{none-some}
use Rattle.tw_text.specs.declared.place.Pos.{Pos}
use Rattle.tw_syntax.specs.declared.statement.Stmt.{Stmt}
use Rattle.tw_syntax.specs.Names.{NameTree, PathTree}
use Rattle.tw_syntax.specs.Programs.{FunTree}
use Rattle.tw_syntax.specs.Statements.{StmtTree, Nothing, Then, Else, LetStmt, SwapStmt, MemSwapStmt, IfStmt, WithStmt, BlockStmt, SkipStmt, stmt_tree, stmts_tree}
use Rattle.tw_syntax.specs.Terms.{BoundTree, ExprTree, ExprRhs, CallRhs, AllocRhs}
use Rattle.tw_syntax.specs.Types.{WrittenTree}
use Rattle.tw_resolve.specs.Declarations.{number_of}
use Rattle.tw_resolve.specs.Setting.{Setting, reported}
use Rattle.tw_state.specs.Depth.{IsWithin, WithinThen, WithinElse, WithinCall, WithinCallZero, WithinIf, WithinWith, WithinBlock}
use Rattle.tw_state.specs.Steps.{callee_bound}
use Rattle.tw_state.proofs.Basics.{same_some, not_both}
use Rattle.tw_frames.specs.declared.workspace.Workspace.{Workspace}
use Rattle.tw_frames.specs.Workspaces.{no_workspace, shared, capped_workspace, Needs, NeedsNothing, NeedsThen, NeedsExpr, NeedsAlloc, NeedsSwap, NeedsMemSwap, NeedsSkip, NeedsBlock, NeedsElse, NeedsIf, NeedsWith, NeedsCall, NeedsCallZero}
use Rattle.tw_frames.specs.Found.{FindsWorkspace, FindsInside, FindsEntered}
use Rattle.tw_frames.proofs.Counting.{greatest, max_stops}

abbrev pub of_sizes : (frames scratch : ℕ) → Workspace
of_sizes frames scratch = record { frames = frames; scratch = scratch }

pub same_sizes : {a b x y : ℕ} → a ≡ x → b ≡ y → of_sizes a b ≡ of_sizes x y
same_sizes p q = λ i. of_sizes (p i) (q i)

-- parts that are capped before are capped after
pub shared_capped : (a b : Workspace) → shared (capped_workspace a) (capped_workspace b) ≡ capped_workspace (shared a b)
shared_capped a b = same_sizes (max_stops greatest a.frames b.frames) (max_stops greatest a.scratch b.scratch)

zero_max : (n : ℕ) → max 0 n ≡ n
zero_max n = omega arith

max_zero : (n : ℕ) → max n 0 ≡ n
max_zero n = omega arith

max_assoc : (a b c : ℕ) → max (max a b) c ≡ max a (max b c)
max_assoc a b c = omega arith

nothing_shared : (a : Workspace) → shared no_workspace a ≡ a
nothing_shared a = same_sizes (zero_max a.frames) (zero_max a.scratch)

shared_nothing : (a : Workspace) → shared a no_workspace ≡ a
shared_nothing a = same_sizes (max_zero a.frames) (max_zero a.scratch)

shared_assoc : (a b c : Workspace) → shared (shared a b) c ≡ shared a (shared b c)
shared_assoc a b c = same_sizes (max_assoc a.frames b.frames c.frames) (max_assoc a.scratch b.scratch c.scratch)

module _ (setting : Setting) (left own : ℕ) where
  finds_nothing : FindsWorkspace setting left own Nothing no_workspace
  finds_nothing within a needs = by needs
    where
      by : {a : Workspace} → Needs setting own Nothing a → no_workspace ≡ capped_workspace a
      by NeedsNothing = refl

  finds_then : {first rest : StmtTree} {x y : Workspace} → FindsWorkspace setting left own first x → FindsWorkspace setting left own rest y → FindsWorkspace setting left own (Then first rest) (shared x y)
  finds_then {first} {rest} {x} {y} one two within a needs = by refl within needs
    where
      by : {depth : ℕ} {a : Workspace} → depth ≡ left → IsWithin setting depth own (Then first rest) → Needs setting own (Then first rest) a → shared x y ≡ capped_workspace a
      by is (WithinThen p q) (NeedsThen {a = a} {b = b} m n) =
          ap (λ z. shared z y) (one (subst (λ d. IsWithin setting d own first) is p) a m) ∙ ap (shared (capped_workspace a)) (two (subst (λ d. IsWithin setting d own rest) is q) b n) ∙ shared_capped a b

  -- statements without calls
  pub finds_expr : (at : Pos) (forward : _) (target : NameTree) (expr : ExprTree) → FindsWorkspace setting left own (LetStmt at forward target (ExprRhs expr)) no_workspace
  finds_expr at forward target expr within a needs = by needs
    where
      by : {a : Workspace} → Needs setting own (LetStmt at forward target (ExprRhs expr)) a → no_workspace ≡ capped_workspace a
      by NeedsExpr = refl

  pub finds_alloc : (at : Pos) (forward : _) (target : NameTree) (to : WrittenTree) → FindsWorkspace setting left own (LetStmt at forward target (AllocRhs to)) no_workspace
  finds_alloc at forward target to within a needs = by needs
    where
      by : {a : Workspace} → Needs setting own (LetStmt at forward target (AllocRhs to)) a → no_workspace ≡ capped_workspace a
      by NeedsAlloc = refl

  pub finds_swap : (at : Pos) (first second : PathTree) → FindsWorkspace setting left own (SwapStmt at first second) no_workspace
  finds_swap at first second within a needs = by needs
    where
      by : {a : Workspace} → Needs setting own (SwapStmt at first second) a → no_workspace ≡ capped_workspace a
      by NeedsSwap = refl

  pub finds_mem_swap : (at : Pos) (pointer value : PathTree) → FindsWorkspace setting left own (MemSwapStmt at pointer value) no_workspace
  finds_mem_swap at pointer value within a needs = by needs
    where
      by : {a : Workspace} → Needs setting own (MemSwapStmt at pointer value) a → no_workspace ≡ capped_workspace a
      by NeedsMemSwap = refl

  pub finds_skip : (at : Pos) → FindsWorkspace setting left own (SkipStmt at) no_workspace
  finds_skip at within a needs = by needs
    where
      by : {a : Workspace} → Needs setting own (SkipStmt at) a → no_workspace ≡ capped_workspace a
      by NeedsSkip = refl

  -- statements of blocks
  pub finds_block : {at : Pos} {body : StmtTree} {x : Workspace} → FindsInside setting left own body x → FindsWorkspace setting left own (BlockStmt at body) x
  finds_block {at} {body} {x} one within a needs = by refl within needs
    where
      by : {depth : ℕ} {a : Workspace} → left ≡ depth → IsWithin setting depth own (BlockStmt at body) → Needs setting own (BlockStmt at body) a → x ≡ capped_workspace a
      by is (WithinBlock {depth = inner} p) (NeedsBlock {a = a} m) = one inner is p a m

  pub finds_if : {at : Pos} {cond : PathTree} {first other : StmtTree} {x y : Workspace} → FindsInside setting left own first x → FindsInside setting left own other y → FindsWorkspace setting left own (IfStmt at cond first other) (shared x y)
  finds_if {at} {cond} {first} {other} {x} {y} one two within a needs = by refl within needs
    where
      by : {depth : ℕ} {a : Workspace} → left ≡ depth → IsWithin setting depth own (IfStmt at cond first other) → Needs setting own (IfStmt at cond first other) a → shared x y ≡ capped_workspace a
      by is (WithinIf {depth = inner} p q) (NeedsIf {a = a} {b = b} m n) = ap (λ z. shared z y) (one inner is p a m) ∙ ap (shared (capped_workspace a)) (two inner is q b n) ∙ shared_capped a b

  pub finds_with : {at : Pos} {setup work : StmtTree} {x y : Workspace} → FindsInside setting left own setup x → FindsInside setting left own work y → FindsWorkspace setting left own (WithStmt at setup work) (shared x y)
  finds_with {at} {setup} {work} {x} {y} one two within a needs = by refl within needs
    where
      by : {depth : ℕ} {a : Workspace} → left ≡ depth → IsWithin setting depth own (WithStmt at setup work) → Needs setting own (WithStmt at setup work) a → shared x y ≡ capped_workspace a
      by is (WithinWith {depth = inner} p q) (NeedsWith {a = a} {b = b} m n) = ap (λ z. shared z y) (one inner is p a m) ∙ ap (shared (capped_workspace a)) (two inner is q b n) ∙ shared_capped a b

  pub finds_else : {at : Pos} {stmts : StmtTree} {x : Workspace} → FindsInside setting left own stmts x → FindsInside setting left own (Else at stmts) x
  finds_else {at} {stmts} {x} one inner is within a needs = by refl within needs
    where
      by : {depth : ℕ} {a : Workspace} → depth ≡ inner → IsWithin setting depth own (Else at stmts) → Needs setting own (Else at stmts) a → x ≡ capped_workspace a
      by same (WithinElse p) (NeedsElse {a = a} m) = one inner is (subst (λ d. IsWithin setting d own stmts) same p) a m

  pub finds_no_else : FindsInside setting left own Nothing no_workspace
  finds_no_else inner is within a needs = by needs
    where
      by : {a : Workspace} → Needs setting own Nothing a → no_workspace ≡ capped_workspace a
      by NeedsNothing = refl

  -- a block has statements that are one less deep
  pub finds_inside : {stmts : StmtTree} {x : Workspace} (inner : ℕ) → left ≡ suc inner → FindsWorkspace setting inner own stmts x → FindsInside setting left own stmts x
  finds_inside {stmts} {x} inner is one other is_other = subst (λ n. FindsWorkspace setting n own stmts x) (same inner other (sym is ∙ is_other)) one
    where
      same : (n m : ℕ) → suc n ≡ suc m → n ≡ m
      same n m is = omega (arith, is)

  pub finds_none_inside : {stmts : StmtTree} {x : Workspace} → left ≡ 0 → FindsInside setting left own stmts x
  finds_none_inside none inner is = absurd (omega (arith, none, is))

  -- a call
  module _ (callee : NameTree) (bound : Option BoundTree) (at : Pos) (forward : _) (target : NameTree) (args : List NameTree) where
    pub finds_zero : callee_bound own bound ≡ None → FindsWorkspace setting left own (LetStmt at forward target (CallRhs callee bound args)) no_workspace
    finds_zero none within a needs = by needs
      where
        by : {a : Workspace} → Needs setting own (LetStmt at forward target (CallRhs callee bound args)) a → no_workspace ≡ capped_workspace a
        by (NeedsCall fun n named is m) = not_both none is
        by (NeedsCallZero same) = refl

    pub finds_unknown : {x : Workspace} (n : ℕ) → callee_bound own bound ≡ Some n → number_of setting.funs callee.text ≡ None → FindsWorkspace setting left own (LetStmt at forward target (CallRhs callee bound args)) x
    finds_unknown {x} k is_k unknown within a needs = by needs
      where
        by : {a : Workspace} → Needs setting own (LetStmt at forward target (CallRhs callee bound args)) a → x ≡ capped_workspace a
        by (NeedsCall fun n named is m) = absurd (none-some fun (ap (option_and_then (slice_get setting.funs)) (sym unknown) ∙ named))
        by (NeedsCallZero none) = not_both none is_k

    pub finds_call : {x : Workspace} (n number : ℕ) → callee_bound own bound ≡ Some n → number_of setting.funs callee.text ≡ Some number → FindsEntered setting left n number x
        → FindsWorkspace setting left own (LetStmt at forward target (CallRhs callee bound args)) x
    finds_call {x} k number is_k known finds within a needs = by refl within needs
      where
        at_number : {fun : FunTree} → option_and_then (slice_get setting.funs) (number_of setting.funs callee.text) ≡ Some fun → slice_get setting.funs number ≡ Some fun
        at_number named = ap (option_and_then (slice_get setting.funs)) (sym known) ∙ named

        by : {depth : ℕ} {a : Workspace} → left ≡ depth → IsWithin setting depth own (LetStmt at forward target (CallRhs callee bound args)) → Needs setting own (LetStmt at forward target (CallRhs callee bound args)) a
            → x ≡ capped_workspace a
        by is (WithinCall {depth = inner} fun n named is_n p) (NeedsCall {a = a} other m named2 is_m needs) =
            let same : fun ≡ other = same_some named named2 in
            let k_n : n ≡ k = same_some is_n is_k in
            let k_m : m ≡ k = same_some is_m is_k in
            finds other inner (at_number named2) is (subst (λ (z : FunTree × ℕ). IsWithin setting inner z.1 z.0.body) (λ i. (same i, k_n i)) p) a (subst (λ z. Needs setting z other.body a) k_m needs)
        by is (WithinCallZero none) (NeedsCall other m named is_m needs) = not_both none is_m
        by is within (NeedsCallZero none) = not_both none is_k

  -- the statements of a list: those before are found, and the rest follow
  abbrev pub LeftOf : StmtTree → StmtTree → Workspace → Type 0
  LeftOf whole rest most = (found : Workspace) → FindsWorkspace setting left own rest found → FindsWorkspace setting left own whole (shared most found)

  pub left_first : (whole : StmtTree) → LeftOf whole whole no_workspace
  left_first whole found finds = subst (FindsWorkspace setting left own whole) (sym (nothing_shared found)) finds

  pub left_next : (whole : StmtTree) (stmts : List Stmt) (i : ℕ) (other : Stmt) → i < length stmts → (most : Workspace) {found new : Workspace} → LeftOf whole (stmts_tree (drop i stmts)) most
      → FindsWorkspace setting left own (stmt_tree (get_or stmts i other)) found → new ≡ shared most found → LeftOf whole (stmts_tree (drop (i + 1) stmts)) new
  left_next whole stmts i other within most {found} {new} before finds is rest finds_rest =
      subst (FindsWorkspace setting left own whole) (sym (ap (λ z. shared z rest) is ∙ shared_assoc most found rest))
      (before (shared found rest) (subst (λ s. FindsWorkspace setting left own s (shared found rest)) (sym (at_drop_more stmts_tree stmts i other within)) (finds_then finds finds_rest)))

  pub left_done : (whole : StmtTree) (stmts : List Stmt) (i : ℕ) (most : Workspace) → length stmts ≤ i → LeftOf whole (stmts_tree (drop i stmts)) most → FindsWorkspace setting left own whole most
  left_done whole stmts i most past before =
      subst (FindsWorkspace setting left own whole) (shared_nothing most)
      (before no_workspace (subst (λ s. FindsWorkspace setting left own s no_workspace) (sym (at_drop_all stmts_tree stmts i past)) finds_nothing))

-- a function that is entered
enters_sum : (m a b x : ℕ) → x ≡ min a m → min (x + min b m) m ≡ min (a + b) m
enters_sum m a b x is = omega (arith, is)

enters_max : (m a b x : ℕ) → x ≡ min a m → max x (min b m) ≡ min (max a b) m
enters_max m a b x is = omega (arith, is)

pub enters : (a : Workspace) (size scratch x y : ℕ) {callees : Workspace} → x ≡ reported size → y ≡ reported scratch → callees ≡ capped_workspace a
    → {frames most : ℕ} → frames ≡ min (x + callees.frames) greatest → most ≡ max y callees.scratch
    → of_sizes frames most ≡ of_sizes (reported (size + a.frames)) (reported (max scratch a.scratch))
enters a size scratch x y {callees} is_x is_y is {frames} {most} is_frames is_most =
    same_sizes
    (is_frames ∙ ap (λ (c : Workspace). min (x + c.frames) greatest) is ∙ enters_sum greatest size a.frames x is_x)
    (is_most ∙ ap (λ (c : Workspace). max y c.scratch) is ∙ enters_max greatest scratch a.scratch y is_y)
