use Rattle.std.proofs.Common.{◌∙◌, ap, sym, get_or, arith}
use Rattle.std.proofs.lemmas.Str.{lead_after_ascii}
use Rattle.tw_lex.proofs.AsciiPrefixes.{nothing, something, ascii_begins}
use Rattle.tw_lex.proofs.leading.leading_char.Goals as goal

pub returns-then-is_empty-clause-none : goal.returns-then-is_empty-clause-none
returns-then-is_empty-clause-none c = nothing c.args.text.now (rw c.as_bytes-bytes.ensures.value at (sym c.is_empty.ensures ∙ c.if-is_empty.true))

pub range_from-requires : goal.range_from-requires
range_from-requires c =
    let some = something c.args.text.now (rw c.as_bytes-bytes.ensures.value at (sym c.is_empty.ensures ∙ c.if-is_empty.false)) in
    (λ h. (omega (arith, some), lead_after_ascii c.args.text.now 0 c.utf8.text (rw c.as_bytes-bytes.ensures.value at c.if-bytes-lt128.true)))

pub returns-then-bytes-lt128-clause-some : goal.returns-then-bytes-lt128-clause-some
returns-then-bytes-lt128-clause-some c =
    let some = something c.args.text.now (rw c.as_bytes-bytes.ensures.value at (sym c.is_empty.ensures ∙ c.if-is_empty.false)) in
    ascii_begins c.args.text.now _ _ c.utf8.text some (ap (λ bs. get_or bs 0 0) c.as_bytes-bytes.ensures.value) c.if-bytes-lt128.true c.range_from.ensures.value
