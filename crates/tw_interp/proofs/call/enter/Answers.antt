use Rattle.std.proofs.Common.{◌≡◌, ◌∙◌, ◌-◌, ◌+◌, ap, sym, arith, ℕ, List}
use Rattle.std.proofs.lemmas.Option.{slice_get-get_or}
use Rattle.tw_resolve.proofs.Each.{each_at}
use Rattle.tw_state.specs.States.{Name, Store}
use Rattle.tw_state.specs.Steps.{seen}
use Rattle.tw_interp.specs.Frames.{store_of, with_found}
use Rattle.tw_interp.specs.Numbered.{IsTarget}
use Rattle.tw_interp.proofs.Links.{links_from, links_none, entered_next}
use Rattle.tw_interp.proofs.call.enter.Goals as goal

pub loop-i-init : goal.loop-i-init
loop-i-init c = (
  omega (arith, c.min-i.ensures),
  omega (arith, c.min-i.ensures),
  λ names inner are_params are_args.
      c.in_ok-frame.ensures inner
      ∙ sym (ap (λ (l : List (Name × Name)). seen l (store_of names c.args.caller.now)) (links_none c.args.body.now.params.now c.args.args.now c.min-i.result c.min-i.ensures)),
)

pub loop-i-preserved : goal.loop-i-preserved
loop-i-preserved c =
    let params = c.args.body.now.params.now in
    let args = c.args.args.now in
    let i = c.loop-i.i - 1 in
    let more : c.loop-i.i ≡ i + 1 = omega (arith, c.loop-i-test.true) in
    let at_param = slice_get-get_or params i _ (omega (arith, c.loop-i.invariant.0, c.loop-i-test.true)) in
    let at_arg = slice_get-get_or args i _ (omega (arith, c.loop-i.invariant.1, c.loop-i-test.true)) in (
      omega (arith, c.loop-i.invariant.0),
      omega (arith, c.loop-i.invariant.1),
      λ names inner are_params are_args.
          entered_next params args i c.loop-i.i _ _ at_param at_arg more (store_of names c.args.caller.now) (store_of inner c.loop-i.frame) (store_of inner c.share.new.to)
          (c.loop-i.invariant.2 names inner are_params are_args)
          (c.in_ok-share.ensures inner names (each_at (IsTarget inner) params i _ are_params at_param) (each_at (IsTarget names) args i _ are_args at_arg).0),
    )

pub returns : goal.returns
returns c = λ names inner are_params is_returned is_target are_args.
    let done : c.loop-i.i ≡ 0 = omega (arith, c.loop-i-test.false) in
    let caller = store_of names c.args.caller.now in
    c.in_ok-share-2.ensures inner names is_returned is_target.0
    ∙ ap (λ (s : Store). with_found s c.args.body.now.returned.name.text.now (caller c.args.target.now.name.text.now))
    (c.loop-i.invariant.2 names inner are_params are_args ∙ ap (λ (n : ℕ). seen (links_from c.args.body.now.params.now c.args.args.now n) caller) done)
