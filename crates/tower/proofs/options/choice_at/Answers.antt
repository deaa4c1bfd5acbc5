use Rattle.std.proofs.Common.{◌∙◌, ap, sym, suc, ◌∷◌, slice_get, arith}
use Rattle.std.proofs.Math.ListN.{drop_of_length-le}
use Rattle.tower.specs.Given.{keys}
use Rattle.tower.proofs.Choices.{drop_at, key_among-is, flag_here, value_here, no_key_here, no_value_here}
use Rattle.tower.proofs.options.choice_at.Goals as goal

pub returns-in_err-key-clause-none : goal.returns-in_err-key-clause-none
returns-in_err-key-clause-none c =
    rw (c.from_residual.ensures) (no_key_here _ _ c.word.result.now (drop_at c.args.words.now c.args.place c.word.result.now c.word.ensures) (sym c.from_text.ensures ∙ c.in_err-key.was))

pub returns-then-is_flag-clause-some : goal.returns-then-is_flag-clause-some
returns-then-is_flag-clause-some c =
    flag_here _ _ c.word.result.now _ c.in_ok-key.key (drop_at c.args.words.now c.args.place c.word.result.now c.word.ensures)
    (key_among-is c.word.result.now keys c.in_ok-key.key (sym c.from_text.ensures ∙ c.in_ok-key.was)) (sym c.is_flag.ensures ∙ c.if-is_flag.true)

pub returns-then-len-place-lt2-clause-none : goal.returns-then-len-place-lt2-clause-none
returns-then-len-place-lt2-clause-none c =
    let last = drop_at c.args.words.now c.args.place c.word.result.now c.word.ensures
    ∙ ap (λ more. c.word.result.now ∷ more) (drop_of_length-le c.args.words.now {i = suc c.args.place} (omega (arith, c.len.ensures, c.if-len-place-lt2.true))) in
    no_value_here _ c.word.result.now c.in_ok-key.key last (key_among-is c.word.result.now keys c.in_ok-key.key (sym c.from_text.ensures ∙ c.in_ok-key.was)) (sym c.is_flag.ensures ∙ c.if-is_flag.false)

pub returns-clause-some : goal.returns-clause-some
returns-clause-some c =
    let two = drop_at c.args.words.now c.args.place c.word.result.now c.word.ensures
    ∙ ap (λ more. c.word.result.now ∷ more) (drop_at c.args.words.now (suc c.args.place) c.word-2.result.now (ap (λ i. slice_get c.args.words.now i) (omega arith) ∙ c.word-2.ensures)) in
    value_here _ _ c.word.result.now c.word-2.result.now c.in_ok-key.key two (key_among-is c.word.result.now keys c.in_ok-key.key (sym c.from_text.ensures ∙ c.in_ok-key.was)) (sym c.is_flag.ensures ∙ c.if-is_flag.false)
