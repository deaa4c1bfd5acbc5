use Rattle.std.proofs.Common.{◌∙◌, ap, sym, option_map}
use Rattle.tower.specs.Given.{request_of}
use Rattle.tower.proofs.Wanted.{if_missing}
use Rattle.tower.proofs.OneRequest.{without_settings, without_request}
use Rattle.tower.proofs.request.command_of.Goals as goal

pub returns-in_default-clause-none : goal.returns-in_default-clause-none
returns-in_default-clause-none c = without_settings c.args.words.now c.in_default.ensures.none

pub returns-clause-none : goal.returns-clause-none
returns-clause-none c =
    if_missing c.request_from.result (λ missing. without_request c.args.words.now _ _ c.word.ensures c.in-Some.ensures.some (sym c.request_from.ensures ∙ ap (option_map request_of) missing))
