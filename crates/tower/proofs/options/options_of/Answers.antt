use Rattle.std.proofs.Common.{◌∙◌, ap, length, ◌++◌, arith, length-drop, drop-drop}
use Rattle.tower.specs.Requests.{choice_words}
use Rattle.tower.specs.Given.{choice_size}
use Rattle.tower.proofs.Choices.{one_more, not_given, given_twice}
use Rattle.tower.proofs.options.options_of.Goals as goal

pub returns-in_err-choice-clause-none : goal.returns-in_err-choice-clause-none
returns-in_err-choice-clause-none c =
    rw (c.from_residual.ensures) (not_given _ _ _ c.loop-place.invariant.0 (λ e. omega (arith, ap length e, length-drop c.loop-place.place c.args.words.now, c.loop-place-test.true, c.len.ensures)) c.in_err-choice.ensures.none)

pub returns-in_err-given-clause-none : goal.returns-in_err-given-clause-none
returns-in_err-given-clause-none c =
    rw (c.from_residual-in_err-given.ensures) (given_twice _ _ _ _ c.in_ok-choice.choice.key c.in_ok-choice.choice.value.now c.loop-place.invariant.0 c.in_err-given.ensures.none c.in_ok-choice.ensures.some.0)

pub loop-place-preserved : goal.loop-place-preserved
loop-place-preserved c =
    let key = c.in_ok-choice.choice.key in
    let words = c.args.words.now in
    let with = c.in_ok-given.ensures.some in
    let next = c.in_ok-choice.ensures.some.0 ∙ ap (λ more. choice_words (key, c.in_ok-choice.choice.value.now) ++ more) (drop-drop (choice_size key) c.loop-place.place words) in (
      rw (c.size-place.ensures, with.2) (one_more _ _ _ _ key c.in_ok-choice.choice.value with.1 c.loop-place.invariant.0 with.0 next),
      omega (arith, c.size-place.ensures, c.in_ok-choice.ensures.some.1, length-drop c.loop-place.place words, c.loop-place.invariant.1),
    )
