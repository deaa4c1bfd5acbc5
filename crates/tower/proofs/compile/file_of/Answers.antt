use Rattle.std.proofs.Common.{◌∙◌, ap, sym, subst, false, List}
use Rattle.std.specs.List.{AllByRecursion}
use Rattle.tw_gatetext.specs.Text.{HasFewControls}
use Rattle.tw_gate.specs.Gates.{PlainGate, directed}
use Rattle.tw_code.specs.Trees.{code_tree}
use Rattle.tower.proofs.Answering.{is_layout, body_built, is_code, room, few_directed, is_file}
use Rattle.tower.proofs.compile.file_of.Goals as goal

pub lower-requires-clause-entry : goal.lower-requires-clause-entry
lower-requires-clause-entry c = c.requires.is_entry

pub lower-requires-clause-layout : goal.lower-requires-clause-layout
lower-requires-clause-layout c = is_layout c.args.found.now.checked c.args.found.now.entry c.args.found.now.priced c.requires

pub lower-requires-clause-built : goal.lower-requires-clause-built
lower-requires-clause-built c = body_built c.args.found.now.checked c.args.found.now.entry c.args.found.now.priced c.requires

pub gates_of-requires-clause-proper : goal.gates_of-requires-clause-proper
gates_of-requires-clause-proper c = (is_code c.args.found.now.checked c.args.found.now.entry c.args.found.now.priced c.requires (code_tree c.in_ok-code.code.now) c.in_ok-code.ensures.lowered).proper

pub gates_of-requires-clause-room : goal.gates_of-requires-clause-room
gates_of-requires-clause-room c = room c.args.found.now.checked c.args.found.now.entry c.args.found.now.priced c.requires (code_tree c.in_ok-code.code.now) c.in_ok-code.ensures.lowered false

pub returns-clause-file : goal.returns-clause-file
returns-clause-file c = λ measured measures.
    is_file c.args.found.now.checked c.args.found.now.entry c.args.found.now.priced c.requires (code_tree c.in_ok-code.code.now) c.in_ok-code.ensures.lowered measured measures c.args.inverse c.direct.new.gates
    (c.direct.ensures ∙ ap (directed c.args.inverse) c.in_ok-gates.ensures)

pub returns-clause-few : goal.returns-clause-few
returns-clause-few c =
    subst (λ (gates : List PlainGate). AllByRecursion HasFewControls gates) (sym (c.direct.ensures ∙ ap (directed c.args.inverse) c.in_ok-gates.ensures))
    (few_directed c.args.found.now.checked c.args.found.now.entry c.args.found.now.priced c.requires (code_tree c.in_ok-code.code.now) c.in_ok-code.ensures.lowered c.args.inverse)
