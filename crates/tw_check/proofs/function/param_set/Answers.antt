use mathlib.Core.Path.{fun_ext}
use Rattle.std.proofs.Common.{◌∙◌, ap, sym, ◌+◌, ◌||◌, drop}
use Rattle.std.proofs.Math.Bool.{or-false}
use Rattle.std.proofs.lemmas.List.{at_drop_more, at_drop_all}
use Rattle.tw_check.specs.Names.{Names, is_one_of}
use Rattle.tw_check.specs.Walks.{set_of, texts_of_params}
use Rattle.tw_check.proofs.Parameters.{put_in}
use Rattle.tw_check.proofs.function.param_set.Goals as goal

pub loop-param-init : goal.loop-param-init
loop-param-init c = λ name. ap (λ (names : Names). names name || is_one_of name (texts_of_params c.args.params.now)) c.new-names.ensures

pub loop-param-preserved : goal.loop-param-preserved
loop-param-preserved c = λ name.
    let rest = drop (c.loop-param.param-index + 1) c.args.params.now in
    ap (λ (names : Names). names name || is_one_of name (texts_of_params rest)) c.in_ok-set.ensures
    ∙ put_in (set_of c.loop-param.names) _ (texts_of_params rest) name
    ∙ sym (at_drop_more (λ left. set_of c.loop-param.names name || is_one_of name (texts_of_params left)) c.args.params.now c.loop-param.param-index _ c.loop-param-test.true)
    ∙ c.loop-param.invariant name

pub returns : goal.returns
returns c =
    fun_ext (λ name.
    sym (or-false (set_of c.loop-param.names name))
    ∙ sym (at_drop_all (λ left. set_of c.loop-param.names name || is_one_of name (texts_of_params left)) c.args.params.now c.loop-param.param-index c.loop-param-test.false)
    ∙ c.loop-param.invariant name)
