use Rattle.std.proofs.Common.{◌∙◌, ap, sym, refl, ◌++◌, codes, decimal, append_assoc}
use Rattle.std.proofs.lemmas.List.{append_cancel_left}
use Rattle.tw_text.proofs.Prefixes.{append-after}
use Rattle.tw_state.proofs.ReadPrefixes.{not_after}
use Rattle.tw_state.proofs.line_text.read_head.Goals as goal

pub returns-in_err-behind-clause-none : goal.returns-in_err-behind-clause-none
returns-in_err-behind-clause-none c = rw c.from_residual.ensures (λ head rest within e. not_after (codes "free ") c.args.bytes.now _ c.in_err-behind.ensures e)

pub returns-in_err-head-clause-none : goal.returns-in_err-head-clause-none
returns-in_err-head-clause-none c =
    rw c.from_residual-in_err-head.ensures
    (λ head rest within e.
    c.in_err-head.ensures.none refl head rest within
    (append_cancel_left (codes "free ") _ _ (sym (append-after (codes "free ") c.args.bytes.now _ (sym c.in_ok-behind.ensures)) ∙ e) ∙ append_assoc (decimal head) (codes "\n") rest))

pub returns-clause-some : goal.returns-clause-some
returns-clause-some c = (
  c.in_ok-head.ensures.some.0,
  append-after (codes "free ") c.args.bytes.now _ (sym c.in_ok-behind.ensures)
      ∙ ap (λ t. codes "free " ++ t) (c.in_ok-head.ensures.some.1 ∙ sym (append_assoc (decimal c.in_ok-head.head) (codes "\n") c.in_ok-head.rest.now)),
)
