use Rattle.std.proofs.Common.{◌∙◌, ap, Some}
use Rattle.tw_interp.specs.Frames.{store_of, with_found}
use Rattle.tw_interp.proofs.Changing.{on_ok}
use Rattle.tw_interp.proofs.call.share.Goals as goal

pub returns-in_ok-copy_val-in-Some : goal.returns-in_ok-copy_val-in-Some
returns-in_ok-copy_val-in-Some c =
    on_ok c.set.result
    (λ each names inner is_target is_source.
    each names is_target ∙ ap (with_found (store_of names c.args.to.now) c.args.var.now.name.text.now) (ap Some c.in_ok-copy_val-in-Some.ensures ∙ c.in-Some.ensures inner is_source))
    c.set.ensures

pub returns-in-None : goal.returns-in-None
returns-in-None c = λ names inner is_target is_source.
    c.take.ensures.store names is_target.0 ∙ ap (with_found (store_of names c.args.to.now) c.args.var.now.name.text.now) (c.in-None.ensures inner is_source)
