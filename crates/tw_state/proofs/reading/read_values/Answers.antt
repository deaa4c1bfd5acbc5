use Rattle.std.proofs.Common.{rules, ◌≡◌, ◌∙◌, ◌<◌, arith, sym, subst, ap, inr, ◌+◌, length, None, Some}
use Rattle.tw_syntax.specs.Programs.{fun_tree}
use Rattle.tw_resolve.specs.Resolved.{resolved_setting}
use Rattle.tw_state.specs.FromCode.{names_at}
use Rattle.tw_state.specs.Reading.{IsFittingValue, IsRefusedFrom}
use Rattle.tw_state.proofs.EntryNames.{type_found}
use Rattle.tw_state.proofs.TakenLines.{named_at, name_taken, name_refused, value_shorter}
use Rattle.tw_state.proofs.reading.read_values.Goals as goal

pub returns-in_default-clause-refused : goal.returns-in_default-clause-refused
returns-in_default-clause-refused c =
    let setting = resolved_setting c.args.checked.now.resolved in
    let fun = fun_tree c.args.fun.now in
    let name = c.name_at.result.now in
    let less : c.loop-place.place < length (names_at c.args.side fun) = omega (arith, c.loop-place-test.true, c.name_count-place-end.ensures) in
    let none = subst (λ ty. IsFittingValue setting.widths ty name c.loop-place.rest.now None) (type_found setting c.args.number fun name c.requires.function)
    (subst (IsFittingValue setting.widths _ name c.loop-place.rest.now) c.in_default.is c.in_ok-found.ensures) in
    inr
    (λ states state full.
    subst (IsRefusedFrom setting c.args.side fun _ c.args.lines c.args.bytes.now) (sym c.wrong_line.ensures)
    (name_refused setting c.args.side fun _ c.args.lines c.loop-place.read c.args.bytes.now c.loop-place.rest.now states state.head state.cells full c.loop-place.values.items c.loop-place.place
    c.loop-place.invariant.counted name (named_at c.args.side fun c.loop-place.place name less c.name_at.ensures) (c.loop-place.invariant.led states state full) less none))

pub loop-place-preserved : goal.loop-place-preserved
loop-place-preserved c =
    let setting = resolved_setting c.args.checked.now.resolved in
    let fun = fun_tree c.args.fun.now in
    let name = c.name_at.result.now in
    let less : c.loop-place.place < length (names_at c.args.side fun) = omega (arith, c.loop-place-test.true, c.name_count-place-end.ensures) in
    let found = subst (λ ty. IsFittingValue setting.widths ty name c.loop-place.rest.now (Some (c.in-Some.val, c.in-Some.behind))) (type_found setting c.args.number fun name c.requires.function)
    (subst (IsFittingValue setting.widths _ name c.loop-place.rest.now) c.in-Some.is c.in_ok-found.ensures) in
    record {
      counted = search rules;
      lines_counted = omega (arith, c.loop-place.invariant.lines_counted);
      within = omega (arith, c.loop-place.invariant.within, value_shorter setting.widths _ name c.loop-place.rest.now (c.in-Some.val, c.in-Some.behind) found);
      led = λ states state full.
          name_taken setting c.args.side fun _ c.args.lines c.loop-place.read c.args.bytes.now c.loop-place.rest.now states state.head state.cells full c.loop-place.values.items c.loop-place.place
          c.loop-place.invariant.counted name (named_at c.args.side fun c.loop-place.place name less c.name_at.ensures) (c.loop-place.invariant.led states state full)
          (c.in-Some.val, c.in-Some.behind) c.push.new.self.items c.in_ok-push.ensures.items found;
    }
