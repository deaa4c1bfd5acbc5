use Rattle.std.proofs.Common.{◌∙◌, ap, List, ◌++◌, codes, refl, ℕ}
use Rattle.std.proofs.lemmas.Option.{IfSome_then}
use Rattle.tw_gatetext.specs.Lines.{AtVersion}
use Rattle.tw_gatetext.proofs.HeaderLines.{after_some, after_none, IfNone_then, wrong_unlimited}
use Rattle.tw_gatetext.proofs.header.version_line.Goals as goal

pub returns-clause-some : goal.returns-clause-some
returns-clause-some c =
    IfSome_then c.after.result (after_some (codes "tower-gates 1\n") c.args.bytes.now _ c.after.ensures) (λ rest is. record { text = codes "tower-gates 1\n"; parts = is; right = (refl, refl) })

pub returns-clause-none : goal.returns-clause-none
returns-clause-none c =
    IfNone_then c.after.result (after_none (codes "tower-gates 1\n") c.args.bytes.now _ c.after.ensures)
    (λ none. wrong_unlimited AtVersion c.args.bytes.now tt refl (λ next rest step. none rest (step.parts ∙ ap (λ (t : List ℕ). t ++ rest) step.right.0)))
