use Rattle.std.proofs.Common.{◌∙◌, ◌<◌, ap, sym, arith, length, Some}
use Rattle.std.proofs.lemmas.Option.{slice_get-get_or}
use Rattle.tw_interp.proofs.runner.Runner.body.Goals as goal

pub returns : goal.returns
returns c = λ fun there.
    let runner = c.args.self.now in
    let inside : c.args.number < length runner.bodies.items = omega (arith, c.requires, runner.numbered.counted) in
    runner.numbered.each c.args.number fun c.index.result.now there (slice_get-get_or runner.bodies.items c.args.number c.index.result.now inside ∙ ap Some (sym c.index.ensures))
