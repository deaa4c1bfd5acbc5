use Rattle.std.proofs.Common.{◌∙◌, sym, ap, List, ℕ, ◌+◌, ◌++◌}
use Rattle.std.proofs.lemmas.Bool.{both_ways}
use Rattle.std.proofs.lemmas.List.{take_rest}
use Rattle.tw_sim.specs.BitLines.{bit_line}
use Rattle.tw_sim.proofs.FrontLine.{line_read, line-all_digits}
use Rattle.tw_sim.proofs.lines.behind_line.Goals as goal

pub returns-then-are_digits-clause-some : goal.returns-then-are_digits-clause-some
returns-then-are_digits-clause-some c =
    let text = c.args.text.now in
    let line = line_read c.args.wires text c.if-text-wires.false c.if-text-wires-ne10.false (sym c.are_digits.ensures ∙ c.if-are_digits.true) in
    (line.0, line.1, line.2 ∙ ap (λ (rest : List ℕ). bit_line line.0 ++ rest) (sym (take_rest text (c.args.wires + 1))))

pub returns-else-are_digits-clause-none : goal.returns-else-are_digits-clause-none
returns-else-are_digits-clause-none c = λ bits rest wide is.
    both_ways c.are_digits.result c.if-are_digits.false (c.are_digits.ensures ∙ line-all_digits c.args.wires c.args.text.now bits rest wide is)
