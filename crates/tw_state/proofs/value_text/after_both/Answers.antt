use Rattle.std.proofs.Common.{◌∙◌, ap, sym, ◌++◌}
use Rattle.std.proofs.lemmas.List.{append_cancel_left}
use Rattle.tw_text.proofs.Prefixes.{append-after}
use Rattle.tw_state.proofs.ReadPrefixes.{not_after}
use Rattle.tw_state.proofs.value_text.after_both.Goals as goal

pub returns-in_err-behind-clause-none : goal.returns-in_err-behind-clause-none
returns-in_err-behind-clause-none c = rw c.from_residual.ensures (λ rest e. not_after c.args.text.now c.args.bytes.now _ c.in_err-behind.ensures e)

pub returns-in_err-rest-clause-none : goal.returns-in_err-rest-clause-none
returns-in_err-rest-clause-none c =
    rw c.from_residual-in_err-rest.ensures
    (λ rest e.
    not_after c.args.tail.now c.in_ok-behind.behind.now rest c.in_err-rest.ensures
    (append_cancel_left c.args.text.now _ _ (sym (append-after c.args.text.now c.args.bytes.now _ (sym c.in_ok-behind.ensures)) ∙ e)))

pub returns-clause-some : goal.returns-clause-some
returns-clause-some c =
    append-after c.args.text.now c.args.bytes.now _ (sym c.in_ok-behind.ensures)
    ∙ ap (λ t. c.args.text.now ++ t) (append-after c.args.tail.now c.in_ok-behind.behind.now _ (sym c.in_ok-rest.ensures))
