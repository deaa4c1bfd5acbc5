use Rattle.std.proofs.Common.{◌≡◌, ◌∙◌, ap, subst₂, Bool, List, ◌++◌, map}
use Rattle.tw_resolve.specs.Demands.{first_broken, IsReported}
use Rattle.tw_syntax.specs.declared.name.Name.{Name}
use Rattle.tw_syntax.specs.Names.{NameTree, name_tree}
use Rattle.tw_syntax.specs.Statements.{LetStmt}
use Rattle.tw_syntax.specs.Terms.{rhs_tree}
use Rattle.tw_check.specs.Liveness.{rhs_names}
use Rattle.tw_check.specs.Right.{writes}
use Rattle.tw_check.specs.Rules.{target_rules, operand_rules}
use Rattle.tw_check.specs.Walks.{now_of}
use Rattle.tw_check.proofs.Walking.{reported_first, reported_rest, walk_stopped}
use Rattle.tw_check.proofs.statement.check_let.Goals as goal

pub returns-in_err-check_target : goal.returns-in_err-check_target
returns-in_err-check_target c = λ at.
    let now = now_of c.args.walk.now in
    let target = name_tree c.args.target.now in
    let rhs = rhs_tree c.args.rhs.now in
    walk_stopped (LetStmt at c.args.forward target rhs) now now c.from_residual.result c.in_err-check_target.field-0.0 c.from_residual.ensures.1
    (reported_first (target_rules now.held now.live c.args.forward target) (operand_rules now.held now.live target (writes rhs) (rhs_names rhs)) c.in_err-check_target.field-0.0 c.in_err-check_target.ensures.reported)

pub returns-in_err-check_operands : goal.returns-in_err-check_operands
returns-in_err-check_operands c = λ at.
    let now = now_of c.args.walk.now in
    let target = name_tree c.args.target.now in
    let rhs = rhs_tree c.args.rhs.now in
    let e = c.in_err-check_operands.field-0.0 in
    let trees : map name_tree c.deref.result.now ≡ rhs_names rhs =
    ap (map name_tree) c.deref.ensures.value ∙ c.in_ok-push_variables.ensures ∙ ap (λ (names : List Name). map name_tree names ++ rhs_names rhs) c.new-names.ensures.items in
    walk_stopped (LetStmt at c.args.forward target rhs) now now c.from_residual-in_err-check_operands.result e c.from_residual-in_err-check_operands.ensures.1
    (reported_rest (target_rules now.held now.live c.args.forward target) (operand_rules now.held now.live target (writes rhs) (rhs_names rhs)) e c.in_ok-check_target.ensures.kept
    (subst₂ (λ (written : Bool) (names : List NameTree). IsReported (first_broken (operand_rules now.held now.live target written names)) e) c.writes.ensures trees c.in_err-check_operands.ensures.reported))
