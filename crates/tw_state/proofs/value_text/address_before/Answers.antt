use Rattle.std.proofs.Common.{◌≡◌, ◌∙◌, ap, sym, ◌++◌, subst, codes}
use Rattle.std.proofs.lemmas.List.{append_cancel_left}
use Rattle.tw_text.proofs.Prefixes.{append-after}
use Rattle.tw_state.specs.StateText.{value_text}
use Rattle.tw_state.proofs.ReadPrefixes.{not_after}
use Rattle.tw_state.proofs.ReadValues.{address_only}
use Rattle.tw_state.proofs.value_text.address_before.Goals as goal

pub returns-in_err-behind : goal.returns-in_err-behind
returns-in_err-behind c =
    rw c.from_residual.ensures
    (λ target delimits value rest typed e.
    let block = address_only c.args.widths target value typed in
    not_after (codes "@") c.args.bytes.now _ c.in_err-behind.ensures
    (subst (λ v. c.args.bytes.now ≡ value_text v ++ (c.args.tail.now ++ rest)) block.1 e))

pub returns-in_err-block : goal.returns-in_err-block
returns-in_err-block c =
    rw c.from_residual-in_err-block.ensures
    (λ target delimits value rest typed e.
    let block = address_only c.args.widths target value typed in
    let told = subst (λ v. c.args.bytes.now ≡ value_text v ++ (c.args.tail.now ++ rest)) block.1 e in
    c.in_err-block.ensures.none delimits block.0 rest block.2
    (append_cancel_left (codes "@") _ _ (sym (append-after (codes "@") c.args.bytes.now _ (sym c.in_ok-behind.ensures)) ∙ told)))

pub returns : goal.returns
returns c target delimits = (c.in_ok-block.ensures.some.0, append-after (codes "@") c.args.bytes.now _ (sym c.in_ok-behind.ensures) ∙ ap (λ t. codes "@" ++ t) c.in_ok-block.ensures.some.1)
