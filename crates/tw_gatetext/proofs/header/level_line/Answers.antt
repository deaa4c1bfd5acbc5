use Rattle.std.proofs.Common.{◌∙◌, ap, sym, List, ℕ, ◌++◌, codes}
use Rattle.std.proofs.lemmas.Option.{IfSome_then}
use Rattle.tw_text.proofs.Prefixes.{append-after}
use Rattle.tw_gatetext.proofs.DigitRuns.{not_after}
use Rattle.tw_gatetext.proofs.HeaderLines.{IfNone_then, behind_front, level_steps, no_level}
use Rattle.tw_gatetext.proofs.header.level_line.Goals as goal

pub returns-in_err-after-clause-none : goal.returns-in_err-after-clause-none
returns-in_err-after-clause-none c = rw c.from_residual.ensures (no_level c.args.bytes.now (λ level rest. not_after (codes "level ") c.args.bytes.now _ c.in_err-after.ensures))

pub returns-clause-some : goal.returns-clause-some
returns-clause-some c =
    IfSome_then c.level_word.result c.level_word.ensures.some
    (λ read is. level_steps read.0 c.args.bytes.now read.1.now (append-after (codes "level ") c.args.bytes.now _ (sym c.in_ok-after.ensures) ∙ ap (λ (t : List ℕ). codes "level " ++ t) is))

pub returns-clause-none : goal.returns-clause-none
returns-clause-none c =
    IfNone_then c.level_word.result c.level_word.ensures.none
    (λ none. no_level c.args.bytes.now (λ level rest is. none level rest (behind_front (codes "level ") c.args.bytes.now _ _ c.in_ok-after.ensures is)))
