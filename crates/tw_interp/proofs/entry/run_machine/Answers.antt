use Rattle.std.proofs.Common.{not, subst}
use Rattle.tw_text.specs.declared.limits.TheConstants.{DEPTH_LIMIT}
use Rattle.tw_text.specs.Places.{first_place}
use Rattle.tw_syntax.specs.Names.{NameTree}
use Rattle.tw_syntax.specs.Statements.{StmtTree}
use Rattle.tw_resolve.specs.Resolved.{resolved_setting, type_at}
use Rattle.tw_interp.specs.Following.{FollowsInside, RunsWithoutBody}
use Rattle.tw_interp.specs.Machines.{state_of}
use Rattle.tw_interp.specs.Numbered.{numbered_names}
use Rattle.tw_interp.proofs.Ending.{entry_body, entry_without}
use Rattle.tw_interp.proofs.entry.run_machine.Goals as goal

pub returns-in-Some : goal.returns-in-Some
returns-in-Some c = λ fun there within.
    let runner = c.args.runner.now in
    let setting = resolved_setting runner.checked.now.resolved in
    let number = runner.entry.fun in
    let names = numbered_names setting number in
    let is_body = c.body-body.ensures fun there in
    let old = state_of names c.args.machine.now in
    let new = state_of names c.run_body.new.machine in
    entry_body setting fun runner.entry.bound number there old new c.run_body.result c.in-Some.bound DEPTH_LIMIT c.in-Some.ensures c.args.back within
    (subst (λ (s : StmtTree). FollowsInside setting (record { types = type_at setting number; bound = c.in-Some.bound }) DEPTH_LIMIT (not c.args.back) s old new c.run_body.result) is_body.steps (c.run_body.ensures is_body.are_numbered))

pub returns-in-None : goal.returns-in-None
returns-in-None c = λ fun there within.
    let runner = c.args.runner.now in
    let setting = resolved_setting runner.checked.now.resolved in
    let number = runner.entry.fun in
    let names = numbered_names setting number in
    let is_body = c.body-body.ensures fun there in
    let old = state_of names c.args.machine.now in
    let new = state_of names c.call_without_body.new.machine in
    entry_without setting fun runner.entry.bound number there old new c.call_without_body.result c.in-None.ensures c.args.back
    (subst (λ (n : NameTree). RunsWithoutBody setting first_place (not c.args.back) n number old new c.call_without_body.result) is_body.returned (c.call_without_body.ensures is_body.is_returned))
