use Rattle.std.proofs.Common.{◌≡◌, drop}
use Rattle.tw_syntax.specs.Programs.{fun_tree}
use Rattle.tw_syntax.specs.Statements.{stmts_tree}
use Rattle.tw_resolve.specs.Demands.{first_broken}
use Rattle.tw_resolve.specs.Statements.{stmt_rules, variables_after}
use Rattle.tw_resolve.specs.Tables.{setting_in}
use Rattle.tw_resolve.specs.Variables.{variables_in}
use Rattle.tw_resolve.proofs.statements.+check_stmt.Given as goal

abbrev pub invariant-check_stmts-loop-i : goal.invariant-check_stmts-loop-i
invariant-check_stmts-loop-i l = record {
  demands :
      first_broken (stmt_rules (setting_in l.tables) l.caller.number (fun_tree l.caller.fun.now) (variables_in l.initial.variables.table.entries) (stmts_tree l.stmts))
      ≡ first_broken (stmt_rules (setting_in l.tables) l.caller.number (fun_tree l.caller.fun.now) (variables_in l.variables.table.entries) (stmts_tree (drop l.i l.stmts)));
  after :
      variables_after (setting_in l.tables) (variables_in l.initial.variables.table.entries) (stmts_tree l.stmts)
      ≡ variables_after (setting_in l.tables) (variables_in l.variables.table.entries) (stmts_tree (drop l.i l.stmts));
}
