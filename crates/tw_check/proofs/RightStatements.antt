-- A statement is right exactly if it keeps each of its rules.
use Rattle.std.proofs.Common.{◌≡◌, refl, sym, ◌∙◌, subst, ℕ, Bool, true, false, ◌&&◌, List, [], ◌∷◌, bytes_eq}
use Rattle.std.specs.List.{AllByRecursion}
use Rattle.std.proofs.lemmas.Bool.{false≢true, not-true, not_from_false}
use Rattle.tw_resolve.proofs.Demands.{Holds, EachHolds}
use Rattle.tw_resolve.proofs.Each.{each_first, each_rest, each-append}
use Rattle.tw_syntax.specs.Names.{NameTree}
use Rattle.tw_syntax.specs.Statements.{StmtTree, Nothing, Then, Else, LetStmt, SwapStmt, MemSwapStmt, IfStmt, WithStmt, BlockStmt, SkipStmt}
use Rattle.tw_check.specs.Names.{Names, with_name}
use Rattle.tw_check.specs.Liveness.{rhs_names, live_after}
use Rattle.tw_check.specs.Reverse.{reverse_of}
use Rattle.tw_check.specs.Right.{IsOperand, Right, writes, RightNothing, RightThen, RightLet, RightUnlet, RightSwap, RightMemSwap, RightIf, RightIfElse, RightWith, RightBlock, RightSkip}
use Rattle.tw_check.specs.Rules.{stmt_rules, operand_rules}
use Rattle.tw_check.proofs.NameSets.{with_name-same, with_name-other, with_name-back}
use Rattle.tw_check.proofs.Ends.{right_ends, right_to_end}
use Rattle.tw_check.proofs.Mentions.{branches_alike-Decides}
use Rattle.tw_check.proofs.Agreement.{AreLive, target_is_live, operands_live, operands_live_after}
use Rattle.tw_check.proofs.Undoable.{undoable-Decides}

module _ (held live : Names) (target : NameTree) (written : Bool) where
  operands_if_kept : (bare : Names) → ((name : List ℕ) → bytes_eq target.text name ≡ false → live name ≡ true → bare name ≡ true) → (names : List NameTree) → EachHolds (operand_rules held live target written names) → AllByRecursion (IsOperand held bare target written) names
  operands_if_kept bare stays [] each = tt
  operands_if_kept bare stays (name ∷ names) each =
      let other = not-true (bytes_eq target.text name.text) each.0 in
      (record { other = other; live = stays name.text other each.1.0; free = not-true (written && held name.text) each.1.1.0 }, operands_if_kept bare stays names each.1.1.1)

  kept_if_operands : (bare : Names) (names : List NameTree) → AllByRecursion (IsOperand held bare target written) names → AreLive live names → EachHolds (operand_rules held live target written names)
  kept_if_operands bare [] operands are_live = tt
  kept_if_operands bare (name ∷ names) operands are_live =
      let operand = operands.0 in
      (not_from_false (bytes_eq target.text name.text) operand.other, (are_live.0, (not_from_false (written && held name.text) operand.free, kept_if_operands bare names operands.1 are_live.1)))

pub right_if_kept : (held live : Names) (s : StmtTree) → EachHolds (stmt_rules held live s) → Right held s live (live_after true s live)
right_if_kept held live Nothing each = RightNothing
right_if_kept held live (Then first rest) each =
    let middle = live_after true first live in
    RightThen middle
    (right_if_kept held live first (each_first Holds (stmt_rules held live first) (stmt_rules held middle rest) each))
    (right_if_kept held middle rest (each_rest Holds (stmt_rules held live first) (stmt_rules held middle rest) each))
right_if_kept held live (LetStmt at true target rhs) each =
    RightLet (record {
      dead = not-true (live target.text) each.0;
      free = not-true (held target.text) each.1.0;
      operands = operands_if_kept held live target (writes rhs) live (λ name other is_live. is_live) (rhs_names rhs) each.1.1;
      after = refl;
    })
right_if_kept held live (LetStmt at false target rhs) each =
    RightUnlet (record {
      dead = with_name-same live target.text false;
      free = not-true (held target.text) each.1.0;
      operands = operands_if_kept held live target (writes rhs) (with_name live target.text false)
          (λ name other is_live. with_name-other live target.text name false other ∙ is_live) (rhs_names rhs) each.1.1;
      after = sym (with_name-back live target.text true false each.0);
    })
right_if_kept held live (SwapStmt at left right) each =
    RightSwap each.0 (not-true (held left.root.text) each.1.0) each.1.1.0 (not-true (held right.root.text) each.1.1.1.0) (not-true _ each.1.1.1.1.0)
right_if_kept held live (MemSwapStmt at pointer value) each =
    RightMemSwap each.0 each.1.0 (not-true (held value.root.text) each.1.1.0) (not-true _ each.1.1.1.0)
right_if_kept held live (IfStmt at cond first Nothing) each =
    RightIf each.0 (right_if_kept (with_name held cond.root.text true) live first each.1)
right_if_kept held live (IfStmt at cond first (Else else_at other)) each =
    let inner = with_name held cond.root.text true in
    let rest = each_rest Holds (stmt_rules inner live first) _ each.1 in
    let alike = (branches_alike-Decides first other live).0 ((each_rest Holds (stmt_rules inner live other) _ rest).0) in
    let right_other = right_if_kept inner live other (each_first Holds (stmt_rules inner live other) _ rest) in
    RightIfElse each.0
    (right_if_kept inner live first (each_first Holds (stmt_rules inner live first) _ each.1))
    (subst (λ end. Right inner other live end) (sym alike) right_other)
right_if_kept held live (WithStmt at setup work) each =
    let ready = live_after true setup live in
    let done = live_after true work ready in
    let rest = each_rest Holds (stmt_rules held live setup) _ each in
    let right_setup = right_if_kept held live setup (each_first Holds (stmt_rules held live setup) _ each) in
    let right_work = right_if_kept held ready work (each_first Holds (stmt_rules held ready work) _ rest) in
    let undone = (undoable-Decides right_setup done).0 ((each_rest Holds (stmt_rules held ready work) _ rest).0) in
    right_to_end (RightWith ready done right_setup right_work undone.1)
right_if_kept held live (BlockStmt at body) each = RightBlock (right_if_kept held live body each)
right_if_kept held live (SkipStmt at) each = RightSkip
right_if_kept held live (Else at stmts) each = absurd (false≢true each.0)
right_if_kept held live (IfStmt at cond first other) each = absurd (false≢true each.0)

pub kept_if_right : {held : Names} {s : StmtTree} {before after : Names} → Right held s before after → EachHolds (stmt_rules held before s)
kept_if_right RightNothing = tt
kept_if_right {held} {s} {before} (RightThen {first = first} {rest = rest} middle a b) =
    each-append Holds (stmt_rules held before first) (stmt_rules held (live_after true first before) rest) (kept_if_right a)
    (subst (λ live. EachHolds (stmt_rules held live rest)) (sym (right_ends a)) (kept_if_right b))
kept_if_right {before = before} (RightLet {held = held} {target = target} {rhs = rhs} a) = (
  not_from_false (before target.text) a.dead,
  (
    not_from_false (held target.text) a.free,
    kept_if_operands held before target (writes rhs) before (rhs_names rhs) a.operands (operands_live a),
  ),
)
kept_if_right {before = before} {after = after} (RightUnlet {held = held} {target = target} {rhs = rhs} a) = (
  target_is_live a,
  (
    not_from_false (held target.text) a.free,
    kept_if_operands held before target (writes rhs) after (rhs_names rhs) a.operands (operands_live_after a),
  ),
)
kept_if_right (RightSwap {held = held} {left = left} {right = right} a b c d e) =
    (a, (not_from_false (held left.root.text) b, (c, (not_from_false (held right.root.text) d, (not_from_false _ e, tt)))))
kept_if_right (RightMemSwap {held = held} {value = value} a b c d) =
    (a, (b, (not_from_false (held value.root.text) c, (not_from_false _ d, tt))))
kept_if_right (RightIf live a) = (live, kept_if_right a)
kept_if_right {before = before} (RightIfElse {held = held} {cond = cond} {first = first} {other = other} live a b) =
    let inner = with_name held cond.root.text true in
    let alike = (branches_alike-Decides first other before).1 (right_ends a ∙ sym (right_ends b)) in (
      live,
      each-append Holds (stmt_rules inner before first) _ (kept_if_right a)
          (each-append Holds (stmt_rules inner before other) _ (kept_if_right b) (alike, tt)),
    )
kept_if_right {held} {s} {before} {after} (RightWith {setup = setup} {work = work} middle end a b c) =
    let ready = live_after true setup before in
    let right_work = subst (λ live. Right held work live end) (sym (right_ends a)) b in
    let right_back = subst (λ live. Right held (reverse_of setup) live after) (sym (right_ends right_work)) c in
    let undone = (undoable-Decides (right_to_end a) (live_after true work ready)).1 (after, right_back) in
    each-append Holds (stmt_rules held before setup) _ (kept_if_right a)
    (each-append Holds (stmt_rules held ready work) _ (subst (λ live. EachHolds (stmt_rules held live work)) (sym (right_ends a)) (kept_if_right b)) (undone, tt))
kept_if_right (RightBlock a) = kept_if_right a
kept_if_right RightSkip = tt
