-- Loops over statements, and statements in statements.
use Rattle.std.proofs.Common.{◌≡◌, ◌≢◌, ◌∙◌, ap, sym, subst, refl, ℕ, zero, suc, Bool, true, false, List, [], ◌∷◌, take, Option, Some, slice_get, Result, Ok, Err}
use Rattle.std.proofs.Math.Bool.{beq}
use Rattle.std.proofs.lemmas.Bool.{true≢false}
use Rattle.std.proofs.lemmas.Option.{none-some}
use Rattle.std.specs.Result.{IsErrAnd}
use Rattle.tw_text.specs.declared.place.Pos.{Pos}
use Rattle.tw_syntax.specs.Names.{NameTree, PathTree}
use Rattle.tw_syntax.specs.Statements.{StmtTree, Nothing, Then, Else, LetStmt, IfStmt, BlockStmt}
use Rattle.tw_syntax.specs.Terms.{RhsTree}
use Rattle.tw_types.specs.Values.{Value, Truth}
use Rattle.tw_resolve.specs.Setting.{Setting}
use Rattle.tw_check.specs.Reverse.{reverse_of}
use Rattle.tw_state.specs.Parts.{value_at}
use Rattle.tw_state.specs.Results.{directed}
use Rattle.tw_state.specs.Semantics.{Runs, RunsIf, RunsIfElse, RunsIfNot, RunsBlock}
use Rattle.tw_state.specs.States.{State}
use Rattle.tw_state.specs.Steps.{Activation}
use Rattle.tw_state.specs.Stuck.{Reason, Sticks, StuckIf, StuckIfElse, StuckPad, StuckBlock}
use Rattle.tw_state.proofs.Basics.{same_some, some_value}
use Rattle.tw_interp.specs.declared.fault.RunFault.{RunFault}
use Rattle.tw_interp.specs.declared.numbered.Step.{Step}
use Rattle.tw_state.specs.Depth.{IsWithin, WithinNothing, WithinThen, WithinElse, WithinExpr, WithinAlloc, WithinCall, WithinCallZero, WithinIf, WithinBlock}
use Rattle.tw_interp.specs.NumberedTrees.{step_tree, steps_tree}
use Rattle.tw_interp.specs.Following.{Follows, FollowsInside, FollowsWithin, Goes, PadsAll, Stops}
use Rattle.tw_interp.proofs.Leading.{Loops, left_step, left_stopped, split_last, split_then}

-- an answer that passes a fault on
pub err_is : (r : Result (Unit {0}) RunFault) (e : RunFault) → IsErrAnd r (λ z. z ≡ e) → Err e ≡ r
err_is (Ok x) e is = absurd is
err_is (Err z) e is = ap Err (sym is)

truth_is : Value → Bool
truth_is (Truth is) = is
truth_is value = false

not_both_truths : {P : Type 0} {o : Option Value} → o ≡ Some (Truth true) → o ≡ Some (Truth false) → P
unfolding truth_is
not_both_truths p q = absurd (true≢false (ap truth_is (same_some p q)))

within_then : {setting : Setting} {depth own : ℕ} {first rest : StmtTree} → IsWithin setting depth own (Then first rest) → IsWithin setting depth own first × IsWithin setting depth own rest
within_then (WithinThen a b) = (a, b)

within_last : (setting : Setting) (depth own : ℕ) (steps : List Step) (i : ℕ) (x : Step) → slice_get steps i ≡ Some x → IsWithin setting depth own (steps_tree (take (suc i) steps))
    → IsWithin setting depth own (step_tree x) × IsWithin setting depth own (steps_tree (take i steps))
within_last setting depth own [] i x is within = absurd (none-some x is)
within_last setting depth own (y ∷ ys) zero x is within =
    let parts = within_then within in (subst (λ z. IsWithin setting depth own (step_tree z)) (some_value is) parts.0, WithinNothing)
within_last setting depth own (y ∷ ys) (suc j) x is within =
    let parts = within_then within in
    let rest = within_last setting depth own ys j x is parts.1 in (rest.0, WithinThen parts.0 rest.1)

pub within_if : {setting : Setting} {depth own : ℕ} {at : Pos} {cond : PathTree} {first other : StmtTree} → IsWithin setting depth own (IfStmt at cond first other)
    → (inner : ℕ) × (depth ≡ suc inner) × IsWithin setting inner own first × IsWithin setting inner own other
within_if (WithinIf {depth = inner} a b) = (inner, refl, a, b)

within_else : {setting : Setting} {depth own : ℕ} {at : Pos} {steps : StmtTree} → IsWithin setting depth own (Else at steps) → IsWithin setting depth own steps
within_else (WithinElse a) = a

within_block : {setting : Setting} {depth own : ℕ} {at : Pos} {body : StmtTree} → IsWithin setting depth own (BlockStmt at body) → (inner : ℕ) × (depth ≡ suc inner) × IsWithin setting inner own body
within_block (WithinBlock {depth = inner} a) = (inner, refl, a)

within_let : {setting : Setting} {depth own : ℕ} {at : Pos} {target : NameTree} {rhs : RhsTree} {assigns : Bool} (other : Bool) → IsWithin setting depth own (LetStmt at assigns target rhs)
    → IsWithin setting depth own (LetStmt at other target rhs)
within_let other WithinExpr = WithinExpr
within_let other WithinAlloc = WithinAlloc
within_let other (WithinCall fun n named bound body) = WithinCall fun n named bound body
within_let other (WithinCallZero bound) = WithinCallZero bound

let_directed : (forward assigns : Bool) (at : Pos) (target : NameTree) (rhs : RhsTree) → LetStmt at (beq forward assigns) target rhs ≡ directed forward (LetStmt at assigns target rhs)
let_directed true true at target rhs = refl
let_directed true false at target rhs = refl
let_directed false true at target rhs = refl
let_directed false false at target rhs = refl

if_directed : (forward : Bool) (at : Pos) (cond : PathTree) (first other : StmtTree) → IfStmt at cond (directed forward first) (directed forward other) ≡ directed forward (IfStmt at cond first other)
if_directed true at cond first other = refl
if_directed false at cond first other = refl

else_directed : (forward : Bool) (at : Pos) (steps : StmtTree) → Else at (directed forward steps) ≡ directed forward (Else at steps)
else_directed true at steps = refl
else_directed false at steps = refl

nothing_directed : (forward : Bool) → Nothing ≡ directed forward Nothing
nothing_directed true = refl
nothing_directed false = refl

block_directed : (forward : Bool) (at : Pos) (body : StmtTree) → BlockStmt at (directed forward body) ≡ directed forward (BlockStmt at body)
block_directed true at body = refl
block_directed false at body = refl

module _ (setting : Setting) (act : Activation) where
  pub forward_step : (depth : ℕ) {whole s more left : StmtTree} {first now next : State} → left ≡ Then s more → Loops setting act depth true whole left first now
      → FollowsWithin {A = Unit {0}} setting act depth true s now next (Ok tt) → Loops setting act depth true whole more first next
  forward_step depth {whole} {s} {more} {left} {first} {now} {next} is loops follows =
      let here = subst (λ t. Loops setting act depth true whole t first now) is loops in
      let parts = within_then here.within in
      record { within = parts.1; left = left_step setting act (split_then setting act s more) here.left (follows parts.0) }

  pub forward_stopped : (depth : ℕ) {whole s more left : StmtTree} {first now next : State} (e : RunFault) → left ≡ Then s more → Loops setting act depth true whole left first now
      → FollowsWithin {A = Unit {0}} setting act depth true s now next (Err e) → Follows {A = Unit {0}} setting act whole first next (Err e)
  forward_stopped depth {whole} {s} {more} {left} {first} {now} {next} e is loops follows =
      let here = subst (λ t. Loops setting act depth true whole t first now) is loops in
      left_stopped setting act e (split_then setting act s more) here.left (follows (within_then here.within).0)

  pub backward_step : (depth : ℕ) {whole : StmtTree} (steps : List Step) (i : ℕ) (x : Step) {first now next : State} → slice_get steps i ≡ Some x → Loops setting act depth false whole (steps_tree (take (suc i) steps)) first now
      → FollowsWithin {A = Unit {0}} setting act depth false (step_tree x) now next (Ok tt) → Loops setting act depth false whole (steps_tree (take i steps)) first next
  backward_step depth steps i x is loops follows =
      let parts = within_last setting depth act.bound steps i x is loops.within in
      record { within = parts.1; left = left_step setting act (split_last setting act steps i x is) loops.left (follows parts.0) }

  pub backward_stopped : (depth : ℕ) {whole : StmtTree} (steps : List Step) (i : ℕ) (x : Step) {first now next : State} (e : RunFault) → slice_get steps i ≡ Some x → Loops setting act depth false whole (steps_tree (take (suc i) steps)) first now
      → FollowsWithin {A = Unit {0}} setting act depth false (step_tree x) now next (Err e) → Follows {A = Unit {0}} setting act (reverse_of whole) first next (Err e)
  backward_stopped depth steps i x e is loops follows =
      left_stopped setting act e (split_last setting act steps i x is) loops.left (follows (within_last setting depth act.bound steps i x is loops.within).0)

  module _ (at : Pos) (cond : PathTree) (first other : StmtTree) (old new : State) (r : Result (Unit {0}) RunFault) where
    if_untrue : ((is : Bool) → value_at old.store cond ≢ Some (Truth is)) → Follows setting act (IfStmt at cond first other) old new r
    if_untrue none = record { ran = ran other; stuck = stuck other }
      where
        ran : (rest : StmtTree) (end : State) → Runs setting act (IfStmt at cond first rest) old end → Goes (new ≡ end) r
        ran rest end (RunsIf is a kept) = absurd (none true is)
        ran rest end (RunsIfElse is a kept) = absurd (none false is)
        ran rest end (RunsIfNot is pads kept) = absurd (none false is)

        stuck : (rest : StmtTree) (why : Reason) (place : Pos) → Sticks setting act (IfStmt at cond first rest) old why place → Stops why place r
        stuck rest why place (StuckIf is a) = absurd (none true is)
        stuck rest why place (StuckIfElse is a) = absurd (none false is)
        stuck rest why place (StuckPad is lacks) = absurd (none false is)

    if_true : value_at old.store cond ≡ Some (Truth true) → Follows setting act first old new r → Follows setting act (IfStmt at cond first other) old new r
    if_true holds follows = record { ran = ran other; stuck = stuck other }
      where
        ran : (rest : StmtTree) (end : State) → Runs setting act (IfStmt at cond first rest) old end → Goes (new ≡ end) r
        ran rest end (RunsIf is a kept) = follows.ran end a
        ran rest end (RunsIfElse is a kept) = not_both_truths holds is
        ran rest end (RunsIfNot is pads kept) = not_both_truths holds is

        stuck : (rest : StmtTree) (why : Reason) (place : Pos) → Sticks setting act (IfStmt at cond first rest) old why place → Stops why place r
        stuck rest why place (StuckIf is a) = follows.stuck why place a
        stuck rest why place (StuckIfElse is a) = not_both_truths holds is
        stuck rest why place (StuckPad is lacks) = not_both_truths holds is

  if_else : (at else_at : Pos) (cond : PathTree) (first other : StmtTree) (old new : State) (r : Result (Unit {0}) RunFault) → value_at old.store cond ≡ Some (Truth false) → Follows setting act other old new r
      → Follows setting act (IfStmt at cond first (Else else_at other)) old new r
  if_else at else_at cond first other old new r fails follows = record { ran = ran; stuck = stuck }
    where
      ran : (end : State) → Runs setting act (IfStmt at cond first (Else else_at other)) old end → Goes (new ≡ end) r
      ran end (RunsIf is a kept) = not_both_truths is fails
      ran end (RunsIfElse is a kept) = follows.ran end a

      stuck : (why : Reason) (place : Pos) → Sticks setting act (IfStmt at cond first (Else else_at other)) old why place → Stops why place r
      stuck why place (StuckIf is a) = not_both_truths is fails
      stuck why place (StuckIfElse is a) = follows.stuck why place a

  if_not : (at : Pos) (cond : PathTree) (first : StmtTree) (old new : State) (r : Result (Unit {0}) RunFault) → value_at old.store cond ≡ Some (Truth false) → PadsAll act.types first at old new r
      → Follows setting act (IfStmt at cond first Nothing) old new r
  if_not at cond first old new r fails pads_all = record { ran = ran; stuck = stuck }
    where
      ran : (end : State) → Runs setting act (IfStmt at cond first Nothing) old end → Goes (new ≡ end) r
      ran end (RunsIf is a kept) = not_both_truths is fails
      ran end (RunsIfNot is pads kept) = pads_all.ran end pads

      stuck : (why : Reason) (place : Pos) → Sticks setting act (IfStmt at cond first Nothing) old why place → Stops why place r
      stuck why place (StuckIf is a) = not_both_truths is fails
      stuck why place (StuckPad is lacks) = pads_all.lacks lacks

  module _ (depth : ℕ) (forward : Bool) (at : Pos) (cond : PathTree) (first : StmtTree) (old new : State) (r : Result (Unit {0}) RunFault) where
    pub follows_untrue : (other : StmtTree) → ((is : Bool) → value_at old.store cond ≢ Some (Truth is)) → FollowsWithin setting act depth forward (IfStmt at cond first other) old new r
    follows_untrue other none within =
        subst (λ s. Follows setting act s old new r) (if_directed forward at cond first other) (if_untrue at cond (directed forward first) (directed forward other) old new r none)

    pub follows_true : (other : StmtTree) → value_at old.store cond ≡ Some (Truth true) → FollowsInside setting act depth forward first old new r → FollowsWithin setting act depth forward (IfStmt at cond first other) old new r
    follows_true other holds follows within =
        let parts = within_if within in
        subst (λ s. Follows setting act s old new r) (if_directed forward at cond first other) (if_true at cond (directed forward first) (directed forward other) old new r holds (follows parts.0 parts.1 parts.2))

    pub follows_else : (else_at : Pos) (other : StmtTree) → value_at old.store cond ≡ Some (Truth false) → FollowsInside setting act depth forward other old new r
        → FollowsWithin setting act depth forward (IfStmt at cond first (Else else_at other)) old new r
    follows_else else_at other fails follows within =
        let parts = within_if within in
        subst (λ s. Follows setting act s old new r) (ap (IfStmt at cond (directed forward first)) (else_directed forward else_at other) ∙ if_directed forward at cond first (Else else_at other))
        (if_else at else_at cond (directed forward first) (directed forward other) old new r fails (follows parts.0 parts.1 (within_else parts.3)))

    pub follows_not : value_at old.store cond ≡ Some (Truth false) → PadsAll act.types (directed forward first) at old new r → FollowsWithin setting act depth forward (IfStmt at cond first Nothing) old new r
    follows_not fails pads within =
        subst (λ s. Follows setting act s old new r) (ap (IfStmt at cond (directed forward first)) (nothing_directed forward) ∙ if_directed forward at cond first Nothing)
        (if_not at cond (directed forward first) old new r fails pads)

  pub follows_let : (depth : ℕ) (forward assigns : Bool) (at : Pos) (target : NameTree) (rhs : RhsTree) (old new : State) (r : Result (Unit {0}) RunFault)
      → FollowsWithin setting act depth true (LetStmt at (beq forward assigns) target rhs) old new r → FollowsWithin setting act depth forward (LetStmt at assigns target rhs) old new r
  follows_let depth forward assigns at target rhs old new r follows within =
      subst (λ s. Follows setting act s old new r) (let_directed forward assigns at target rhs) (follows (within_let (beq forward assigns) within))

  block_follows : (at : Pos) (body : StmtTree) (old new : State) (r : Result (Unit {0}) RunFault) → Follows setting act body old new r → Follows setting act (BlockStmt at body) old new r
  block_follows at body old new r follows = record { ran = ran; stuck = stuck }
    where
      ran : (end : State) → Runs setting act (BlockStmt at body) old end → Goes (new ≡ end) r
      ran end (RunsBlock a) = follows.ran end a

      stuck : (why : Reason) (place : Pos) → Sticks setting act (BlockStmt at body) old why place → Stops why place r
      stuck why place (StuckBlock a) = follows.stuck why place a

  pub follows_block : (depth : ℕ) (forward : Bool) (at : Pos) (body : StmtTree) (old new : State) (r : Result (Unit {0}) RunFault)
      → FollowsInside setting act depth forward body old new r → FollowsWithin setting act depth forward (BlockStmt at body) old new r
  follows_block depth forward at body old new r follows within =
      let parts = within_block within in
      subst (λ s. Follows setting act s old new r) (block_directed forward at body) (block_follows at (directed forward body) old new r (follows parts.0 parts.1 parts.2))
