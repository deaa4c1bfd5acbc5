use Rattle.std.proofs.Common.{rules, tests, ◌∙◌, ap, take}
use Rattle.std.specs.Char.{is_ascii_digit}
use Rattle.std.proofs.lemmas.Iterator.{YieldsList-from_slice}
use Rattle.std.proofs.lemmas.Iterator.Consumers.{count_from_yields_List}
use Rattle.std.proofs.lemmas.Iterator.Search.{YieldsList-from_take_while}
use Rattle.std.proofs.lemmas.List.Folds.{length-prefix_len}
use Rattle.tw_text.proofs.digits.split_digits.Goals as goal

pub returns-clause-run : goal.returns-clause-run
returns-clause-run c =
    let bytes = c.args.bytes.now in
    c.split_at.ensures.front
    ∙ ap (λ n. take n bytes)
    (count_from_yields_List c.take_while.result c.count-end.result c.count-end.ensures.ran
    (YieldsList-from_take_while _ is_ascii_digit (YieldsList-from_slice bytes cc) c.take_while.ensures.closure c.take_while.ensures.done (λ x b q k. search (rules, tests)))
    ∙ length-prefix_len is_ascii_digit bytes)
