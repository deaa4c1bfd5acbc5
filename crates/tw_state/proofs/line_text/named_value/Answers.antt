use Rattle.std.proofs.Common.{◌∙◌, ap, refl, ◌++◌, codes}
use Rattle.tw_types.specs.FromCode.{ty_of}
use Rattle.tw_state.specs.Reading.{IsNamedValue}
use Rattle.tw_state.proofs.ReadLines.{if_ok, value_named}
use Rattle.tw_state.proofs.line_text.named_value.Goals as goal

pub returns : goal.returns
returns c =
    if_ok c.read_value.result _ (IsNamedValue c.args.widths (ty_of c.args.ty.now) c.args.name.now c.args.bytes.now)
    (λ found read.
    value_named c.args.widths (ty_of c.args.ty.now) c.args.name.now c.args.bytes.now c.in-Some.behind.now
    (c.in-Some.ensures.some ∙ ap (λ t. t ++ (codes " " ++ c.in-Some.behind.now)) c.as_bytes.ensures.value) found (read refl))
    c.read_value.ensures
