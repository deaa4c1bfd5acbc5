-- From each typed and well-formed state a right statement has a result or is stuck.
use Rattle.std.proofs.Common.{◌≡◌, ◌≢◌, ◌∙◌, ◌<◌, refl, sym, ap, subst, arith, ℕ, zero, suc, Bool, true, false, not, Some, is_some, option_and_then}
use Rattle.std.proofs.Math.Arith.{lt_of_le-ne}
use Rattle.tw_text.specs.declared.place.Pos.{Pos}
use Rattle.tw_syntax.specs.Names.{NameTree, PathTree}
use Rattle.tw_syntax.specs.Statements.{StmtTree, Nothing, Then, Else, LetStmt, SwapStmt, MemSwapStmt, IfStmt, WithStmt, BlockStmt, SkipStmt}
use Rattle.tw_syntax.specs.Terms.{RhsTree, ExprRhs, CallRhs, AllocRhs}
use Rattle.tw_types.specs.Types.{Boolean}
use Rattle.tw_resolve.specs.Expressions.{type_at_path}
use Rattle.tw_resolve.specs.Setting.{Setting}
use Rattle.tw_check.specs.Names.{Names, with_name}
use Rattle.tw_check.specs.Liveness.{expr_names, live_after}
use Rattle.tw_check.specs.Right.{Right, RightThen, RightLet, RightUnlet, RightSwap, RightMemSwap, RightIf, RightIfElse, RightWith, RightBlock}
use Rattle.tw_check.proofs.NameSets.{with_name-same, with_name-other}
use Rattle.tw_check.proofs.Ends.{right_ends, held_stays}
use Rattle.tw_check.proofs.Reversal.{live_after-reverse_of}
use Rattle.tw_check.proofs.Undoing.{right-reverse_of}
use Rattle.tw_state.specs.States.{State, IsWellFormed, without}
use Rattle.tw_state.specs.Parts.{part_of}
use Rattle.tw_state.specs.Steps.{Activation, activation_of, live_names, links, seen_by}
use Rattle.tw_state.specs.Semantics.{RunsNothing, RunsSkip}
use Rattle.tw_state.specs.Results.{IsTypedIn, directed}
use Rattle.tw_state.proofs.FreeList.{formed_after, formed_same, by_block}
use Rattle.tw_state.proofs.TypedTrees.{StmtFits, reverse_fits, FunsFit}
use Rattle.tw_state.proofs.TypedRuns.{typed_after}
use Rattle.tw_state.proofs.LiveRuns.{operands_live, FunsRight, lives}
use Rattle.tw_state.proofs.KeptRuns.{kept}
use Rattle.tw_state.proofs.Ending.{Ends, HasEnd, live_value, dead_value, then_ends, block_ends, with_ends, taken_ends, else_ends, cond_ends, let_ends, unlet_ends, swap_ends, memory_ends, alloc_ends, free_ends, pad_ends}
use Rattle.tw_state.proofs.CallEnds.{Below, Earlier, Smaller, below, RhsDescends, StmtDescends, FunsDescend, BodiesEnd, callee_typed, call_ends, uncall_ends}

module _ (setting : Setting) (funs : FunsFit setting) (rights : FunsRight setting) (k : ℕ) (act : Activation) (callees : (j m : ℕ) → Below j m k act.bound → BodiesEnd setting j m) where
  -- an `if` whose branches end
  none_case : (held : Names) {at : Pos} {cond : PathTree} {first : StmtTree} {before after : Names} → type_at_path act.types cond ≡ Some Boolean → StmtFits setting act.types first → Right (with_name held cond.root.text true) first before after → before cond.root.text ≡ true
      → (x : State) → IsTypedIn setting act.types x → live_names x.store ≡ before → Ends setting act first x → Ends setting act (IfStmt at cond first Nothing) x
  none_case held {at} {cond} {first} {before} {after} bool fits right is x typed live ends =
      let root = live_value x.store before cond.root.text live is in
      let is_held = with_name-same held cond.root.text true in
      cond_ends setting act x typed cond root.0 bool root.1
      (λ holds. taken_ends setting act holds (λ y runs. ap (option_and_then (part_of cond.steps)) (kept setting funs rights fits right runs live cond.root.text is_held)) ends)
      (λ fails.
      pad_ends setting act x typed fits fails
      (λ l same.
      live ∙ sym (right_ends (right-reverse_of.0 right)) ∙ live_after-reverse_of true first after
      ∙ sym (ap (live_after false first) (same ∙ ap (live_after true first) live ∙ right_ends right)))
      (ap (λ (l : Names). l cond.root.text) (ap (live_after true first) live ∙ right_ends right) ∙ held_stays right cond.root.text is_held ∙ is)
      (ap is_some root.1))

  else_case : (held : Names) {at else_at : Pos} {cond : PathTree} {first other : StmtTree} {before after : Names} → type_at_path act.types cond ≡ Some Boolean → StmtFits setting act.types first → StmtFits setting act.types other
      → Right (with_name held cond.root.text true) first before after → Right (with_name held cond.root.text true) other before after → before cond.root.text ≡ true
      → (x : State) → IsTypedIn setting act.types x → live_names x.store ≡ before → Ends setting act first x → Ends setting act other x → Ends setting act (IfStmt at cond first (Else else_at other)) x
  else_case held {at} {else_at} {cond} {first} {other} {before} {after} bool fits other_fits right other_right is x typed live ends other_ends =
      let root = live_value x.store before cond.root.text live is in
      let is_held = with_name-same held cond.root.text true in
      cond_ends setting act x typed cond root.0 bool root.1
      (λ holds. taken_ends setting act holds (λ y runs. ap (option_and_then (part_of cond.steps)) (kept setting funs rights fits right runs live cond.root.text is_held)) ends)
      (λ fails. else_ends setting act fails (λ y runs. ap (option_and_then (part_of cond.steps)) (kept setting funs rights other_fits other_right runs live cond.root.text is_held)) other_ends)

  -- an assignment, or an un-assignment
  let_case : (forward : Bool) (at : Pos) (target : NameTree) (rhs : RhsTree) {held before after : Names} → StmtFits setting act.types (LetStmt at forward target rhs) → RhsDescends setting k rhs → Right held (LetStmt at forward target rhs) before after
      → (x : State) → IsTypedIn setting act.types x → IsWellFormed x → live_names x.store ≡ before → Ends setting act (LetStmt at forward target rhs) x
  let_case true at target (ExprRhs expr) {held} {before} {after} fits descends (RightLet r) x typed formed live =
      let_ends setting act x typed fits.0 fits.2 (dead_value x.store before target.text live r.dead)
      (operands_live held before target false x.store (expr_names expr) (λ name differ. ap (λ (l : Names). l name) live) r.operands)
  let_case false at target (ExprRhs expr) {held} {before} {after} fits descends (RightUnlet r) x typed formed live =
      let value = live_value x.store before target.text live (ap (λ (l : Names). l target.text) r.after ∙ with_name-same after target.text true) in
      unlet_ends setting act x typed fits.0 value.0 fits.2 value.1
      (operands_live held after target false (without x.store target.text) (expr_names expr)
      (λ name differ. rw differ (ap (λ (l : Names). l name) (live ∙ r.after) ∙ with_name-other after target.text name true differ)) r.operands)
  let_case true at target (CallRhs callee bound args) fits descends (RightLet r) x typed formed live =
      call_ends setting funs rights act x typed formed target callee bound args fits.0 fits.1 fits.2 r live
      (λ n is.
      callees descends.0 n (below descends.2 is) callee.text fits.2.fun descends.1 fits.2.named (seen_by (links fits.2.fun target args) x)
      (callee_typed setting funs rights act x typed formed target callee bound args fits.0 fits.1 fits.2) (formed_same refl refl formed))
  let_case false at target (CallRhs callee bound args) fits descends (RightUnlet r) x typed formed live =
      uncall_ends setting funs rights act x typed formed target callee bound args fits.0 fits.1 fits.2 r live
      (λ n is.
      callees descends.0 n (below descends.2 is) callee.text fits.2.fun descends.1 fits.2.named (seen_by (links fits.2.fun target args) x)
      (callee_typed setting funs rights act x typed formed target callee bound args fits.0 fits.1 fits.2) (formed_same refl refl formed))
  let_case true at target (AllocRhs to) {held} {before} {after} fits descends (RightLet r) x typed formed live =
      alloc_ends setting act x typed fits.0 fits.2 (dead_value x.store before target.text live r.dead) formed
  let_case false at target (AllocRhs to) {held} {before} {after} fits descends (RightUnlet r) x typed formed live =
      let value = live_value x.store before target.text live (ap (λ (l : Names). l target.text) r.after ∙ with_name-same after target.text true) in
      free_ends setting act x typed fits.0 value.0 fits.2 fits.1 value.1

  swap_case : (at : Pos) (left right : PathTree) {held before after : Names} → StmtFits setting act.types (SwapStmt at left right) → Right held (SwapStmt at left right) before after
      → (x : State) → IsTypedIn setting act.types x → live_names x.store ≡ before → Ends setting act (SwapStmt at left right) x
  swap_case at left right {held} {before} fits (RightSwap p q r s apart) x typed live =
      let v = live_value x.store before left.root.text live p in
      let w = live_value x.store before right.root.text live r in
      swap_ends setting act x typed fits.0 v.0 w.0 fits.1 fits.2 v.1 w.1 apart

  memory_case : (at : Pos) (pointer value : PathTree) {held before after : Names} → StmtFits setting act.types (MemSwapStmt at pointer value) → Right held (MemSwapStmt at pointer value) before after
      → (x : State) → IsTypedIn setting act.types x → live_names x.store ≡ before → Ends setting act (MemSwapStmt at pointer value) x
  memory_case at pointer value {held} {before} fits (RightMemSwap p q r apart) x typed live =
      let v = live_value x.store before pointer.root.text live p in
      let w = live_value x.store before value.root.text live q in
      memory_ends setting act x typed fits.0 fits.1 v.0 w.0 fits.2 fits.4 v.1 w.1 apart

  -- a statement, or its reverse
  pub total : (forward : Bool) (s : StmtTree) → StmtFits setting act.types s → StmtDescends setting k s → {held before after : Names} → Right held (directed forward s) before after
      → (x : State) → IsTypedIn setting act.types x → IsWellFormed x → live_names x.store ≡ before → Ends setting act (directed forward s) x
  total true Nothing fits descends right x typed formed live = HasEnd x RunsNothing
  total false Nothing fits descends right x typed formed live = HasEnd x RunsNothing
  total true (SkipStmt at) fits descends right x typed formed live = HasEnd x RunsSkip
  total false (SkipStmt at) fits descends right x typed formed live = HasEnd x RunsSkip
  total true (Then first rest) fits descends (RightThen middle a b) x typed formed live =
      then_ends setting act (total true first fits.0 descends.0 a x typed formed live)
      (λ y runs. total true rest fits.1 descends.1 b y (typed_after setting funs fits.0 runs typed) (formed_after setting runs formed) (lives setting funs rights fits.0 a runs live))
  total false (Then first rest) fits descends (RightThen middle a b) x typed formed live =
      let back = reverse_fits setting act.types rest fits.1 in
      then_ends setting act (total false rest fits.1 descends.1 a x typed formed live)
      (λ y runs. total false first fits.0 descends.0 b y (typed_after setting funs back runs typed) (formed_after setting runs formed) (lives setting funs rights back a runs live))
  total true (BlockStmt at body) fits descends (RightBlock a) x typed formed live = block_ends setting act (total true body fits descends a x typed formed live)
  total false (BlockStmt at body) fits descends (RightBlock a) x typed formed live = block_ends setting act (total false body fits descends a x typed formed live)
  total true (LetStmt at made target rhs) fits descends right x typed formed live = let_case made at target rhs fits descends right x typed formed live
  total false (LetStmt at made target rhs) fits descends right x typed formed live = let_case (not made) at target rhs fits descends right x typed formed live
  total true (SwapStmt at l r) fits descends right x typed formed live = swap_case at l r fits right x typed live
  total false (SwapStmt at l r) fits descends right x typed formed live = swap_case at l r fits right x typed live
  total true (MemSwapStmt at p v) fits descends right x typed formed live = memory_case at p v fits right x typed live
  total false (MemSwapStmt at p v) fits descends right x typed formed live = memory_case at p v fits right x typed live
  total true (WithStmt at setup work) fits descends (RightWith ready done a b c) x typed formed live =
      with_ends setting act (total true setup fits.0 descends.0 a x typed formed live)
      (λ y runs. total true work fits.1 descends.1 b y (typed_after setting funs fits.0 runs typed) (formed_after setting runs formed) (lives setting funs rights fits.0 a runs live))
      (λ y z runs more.
      let at_y = typed_after setting funs fits.0 runs typed in
      let live_y = lives setting funs rights fits.0 a runs live in
      total false setup fits.0 descends.0 c z (typed_after setting funs fits.1 more at_y) (formed_after setting more (formed_after setting runs formed)) (lives setting funs rights fits.1 b more live_y))
  total false (WithStmt at setup work) fits descends (RightWith ready done a b c) x typed formed live =
      let back = reverse_fits setting act.types work fits.1 in
      with_ends setting act (total true setup fits.0 descends.0 a x typed formed live)
      (λ y runs. total false work fits.1 descends.1 b y (typed_after setting funs fits.0 runs typed) (formed_after setting runs formed) (lives setting funs rights fits.0 a runs live))
      (λ y z runs more.
      let at_y = typed_after setting funs fits.0 runs typed in
      let live_y = lives setting funs rights fits.0 a runs live in
      total false setup fits.0 descends.0 c z (typed_after setting funs back more at_y) (formed_after setting more (formed_after setting runs formed)) (lives setting funs rights back b more live_y))
  total true (IfStmt at cond first Nothing) fits descends {held} (RightIf c a) x typed formed live =
      none_case held fits.0 fits.1 a c x typed live (total true first fits.1 descends.0 a x typed formed live)
  total false (IfStmt at cond first Nothing) fits descends {held} (RightIf c a) x typed formed live =
      none_case held fits.0 (reverse_fits setting act.types first fits.1) a c x typed live (total false first fits.1 descends.0 a x typed formed live)
  total true (IfStmt at cond first (Else else_at other)) fits descends {held} (RightIfElse c a b) x typed formed live =
      else_case held fits.0 fits.1 fits.2 a b c x typed live (total true first fits.1 descends.0 a x typed formed live) (total true other fits.2 descends.1 b x typed formed live)
  total false (IfStmt at cond first (Else else_at other)) fits descends {held} (RightIfElse c a b) x typed formed live =
      else_case held fits.0 (reverse_fits setting act.types first fits.1) (reverse_fits setting act.types other fits.2) a b c x typed live
      (total false first fits.1 descends.0 a x typed formed live) (total false other fits.2 descends.1 b x typed formed live)
  -- no right statement has these trees
  total true (Else at stmts) fits descends right x typed formed live = elim right [ ]
  total true (IfStmt at cond first (Then a b)) fits descends right x typed formed live = elim right [ ]
  total true (IfStmt at cond first (LetStmt p q r t)) fits descends right x typed formed live = elim right [ ]
  total true (IfStmt at cond first (SwapStmt p q r)) fits descends right x typed formed live = elim right [ ]
  total true (IfStmt at cond first (MemSwapStmt p q r)) fits descends right x typed formed live = elim right [ ]
  total true (IfStmt at cond first (IfStmt p q r t)) fits descends right x typed formed live = elim right [ ]
  total true (IfStmt at cond first (WithStmt p q r)) fits descends right x typed formed live = elim right [ ]
  total true (IfStmt at cond first (BlockStmt p q)) fits descends right x typed formed live = elim right [ ]
  total true (IfStmt at cond first (SkipStmt p)) fits descends right x typed formed live = elim right [ ]
  total false (Else at stmts) fits descends right x typed formed live = elim right [ ]
  total false (IfStmt at cond first (Then a b)) fits descends right x typed formed live = elim right [ ]
  total false (IfStmt at cond first (LetStmt p q r t)) fits descends right x typed formed live = elim right [ ]
  total false (IfStmt at cond first (SwapStmt p q r)) fits descends right x typed formed live = elim right [ ]
  total false (IfStmt at cond first (MemSwapStmt p q r)) fits descends right x typed formed live = elim right [ ]
  total false (IfStmt at cond first (IfStmt p q r t)) fits descends right x typed formed live = elim right [ ]
  total false (IfStmt at cond first (WithStmt p q r)) fits descends right x typed formed live = elim right [ ]
  total false (IfStmt at cond first (BlockStmt p q)) fits descends right x typed formed live = elim right [ ]
  total false (IfStmt at cond first (SkipStmt p)) fits descends right x typed formed live = elim right [ ]

module _ (setting : Setting) (funs : FunsFit setting) (rights : FunsRight setting) (descend : FunsDescend setting) where
  -- the bodies of functions, if those below them end
  body_case : (k n : ℕ) → ((j m : ℕ) → Below j m k n → BodiesEnd setting j m) → BodiesEnd setting k n
  body_case k n callees name fun number named x typed formed =
      let fits = (funs name fun named).body in
      let down = descend name k fun number named in
      record {
        forward = λ live. total setting funs rights k (activation_of setting fun n) callees true fun.body fits down (rights name fun named) x typed formed live;
        backward = λ live. total setting funs rights k (activation_of setting fun n) callees false fun.body fits down (right-reverse_of.0 (rights name fun named)) x typed formed live;
      }

  -- with all smaller bounds, if all earlier functions end
  smaller : (k : ℕ) → ((j : ℕ) → j < k → (m : ℕ) → BodiesEnd setting j m) → (n m : ℕ) → m < n → BodiesEnd setting k m
  smaller k earlier zero m less = absurd (omega (arith, less))
  smaller k earlier (suc n) m less =
      by_block m n
      (λ same. subst (BodiesEnd setting k) (sym same) (body_case k n (λ j i is. down j i is (smaller k earlier n i))))
      (λ differ. smaller k earlier n m (lt_if_other m n less differ))
    where
      down : (j i : ℕ) → Below j i k n → (i < n → BodiesEnd setting k i) → BodiesEnd setting j i
      down j i (Earlier is) deeper = earlier j is i
      down j i (Smaller same is) deeper = subst (λ f. BodiesEnd setting f i) (sym same) (deeper is)

      lt_if_other : (m n : ℕ) → m < suc n → m ≢ n → m < n
      lt_if_other m n less differ = lt_of_le-ne (omega (arith, less)) differ

  -- all earlier functions end
  earlier : (k j : ℕ) → j < k → (m : ℕ) → BodiesEnd setting j m
  earlier zero j less m = absurd (omega (arith, less))
  earlier (suc k) j less m =
      by_block j k
      (λ same. subst (λ f. BodiesEnd setting f m) (sym same) (smaller k (earlier k) (suc m) m (omega arith)))
      (λ differ. earlier k j (lt_if_other j k less differ) m)
    where
      lt_if_other : (m n : ℕ) → m < suc n → m ≢ n → m < n
      lt_if_other m n less differ = lt_of_le-ne (omega (arith, less)) differ

  -- the body of each function, with each bound
  pub bodies_end : (j m : ℕ) → BodiesEnd setting j m
  bodies_end j m = earlier (suc j) j (omega arith) m
