use Rattle.std.proofs.lemmas.Result.{IfOk-weaker}
use Rattle.tw_code.specs.Counts.{neither}
use Rattle.tw_code.specs.Trees.{code_tree}
use Rattle.tw_lower.proofs.CheckedCounts.{checked_counts}
use Rattle.tw_lower.proofs.CheckedEntry.{checked_entry}
use Rattle.tw_lower.proofs.lowering.lower.Goals as goal

pub returns-clause-simulates : goal.returns-clause-simulates
returns-clause-simulates c =
    IfOk-weaker c.entry_code.result _ _
    (λ code lowered fun found.
    (checked_entry c.args.checked.now c.args.entry c.args.layout.now c.requires.layout fun found (c.requires.built fun found) (code_tree code.now) (lowered fun found)).simulates) c.entry_code.ensures

pub returns-clause-proper : goal.returns-clause-proper
returns-clause-proper c =
    IfOk-weaker c.entry_code.result _ _
    (λ code lowered.
    let fun = c.requires.entry.fun in
    let found = c.requires.entry.at in
    (checked_entry c.args.checked.now c.args.entry c.args.layout.now c.requires.layout fun found (c.requires.built fun found) (code_tree code.now) (lowered fun found)).proper) c.entry_code.ensures

pub returns-clause-below : goal.returns-clause-below
returns-clause-below c =
    IfOk-weaker c.entry_code.result _ _
    (λ code lowered.
    let fun = c.requires.entry.fun in
    let found = c.requires.entry.at in
    (checked_entry c.args.checked.now c.args.entry c.args.layout.now c.requires.layout fun found (c.requires.built fun found) (code_tree code.now) (lowered fun found)).below) c.entry_code.ensures

pub returns-clause-counts : goal.returns-clause-counts
returns-clause-counts c =
    IfOk-weaker c.entry_code.result _ _
    (λ code lowered fun rows found inventory.
    checked_counts c.args.checked.now c.args.entry c.args.layout.now c.requires.layout fun found (c.requires.built fun found) neither (code_tree code.now) rows (lowered fun found) inventory) c.entry_code.ensures
