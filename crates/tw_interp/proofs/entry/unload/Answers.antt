use Rattle.std.proofs.Common.{◌∙◌, ap, arith, Some}
use Rattle.std.proofs.lemmas.List.{take_all}
use Rattle.tw_resolve.proofs.Each.{each_at}
use Rattle.tw_interp.specs.Frames.{store_of}
use Rattle.tw_interp.specs.Numbered.{IsTarget, listed_names, listed_vars}
use Rattle.tw_interp.proofs.Listing.{not_unloaded, unloaded_next, name_of_var}
use Rattle.tw_interp.proofs.entry.unload.Goals as goal

pub returns-in_default : goal.returns-in_default
returns-in_default c = λ names values are different enough count lists.
    let vars = listed_vars c.args.body.now in
    let i = c.loop-i.i in
    let at = c.var_at.ensures (omega (arith, enough, c.loop-i-test.true)) in
    not_unloaded (listed_names c.args.body.now) values i c.var_at.result.name.text.now (store_of names c.args.frame.now) different (name_of_var vars i c.var_at.result at) (omega (arith, c.loop-i-test.true, count)) lists
    (c.in_default.ensures names (each_at (IsTarget names) vars i c.var_at.result are at).0)

pub loop-i-preserved : goal.loop-i-preserved
loop-i-preserved c = λ names values are different enough count lists.
    let vars = listed_vars c.args.body.now in
    let i = c.loop-i.i in
    let at = c.var_at.ensures (omega (arith, enough, c.loop-i-test.true)) in
    unloaded_next (listed_names c.args.body.now) values i c.var_at.result.name.text.now (store_of names c.args.frame.now) c.loop-i.values.items c.push.new.self.items c.in_ok-copy_val.field-0 different (name_of_var vars i c.var_at.result at)
    (omega (arith, c.loop-i-test.true, count)) lists (ap Some c.in_ok-copy_val.ensures ∙ c.in-Some.ensures names (each_at (IsTarget names) vars i c.var_at.result are at).0) c.in_ok-push.ensures.items
    (c.loop-i.invariant names values are different enough count lists)

pub returns : goal.returns
returns c = λ names values are different enough count lists.
    ap Some (c.loop-i.invariant names values are different enough count lists ∙ take_all c.loop-i.i values (omega (arith, count, c.loop-i-test.false)))
