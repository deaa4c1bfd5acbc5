use Rattle.std.proofs.Common.{◌≡◌, ◌∙◌, ◌-◌, ◌+◌, ap, arith, drop, length, map, refl, ℕ}
use Rattle.std.proofs.lemmas.Option.{slice_get_read}
use Rattle.tw_types.specs.FromCode.{value_of}
use Rattle.tw_resolve.proofs.Each.{each_at}
use Rattle.tw_state.specs.Listed as listed
use Rattle.tw_interp.specs.Frames.{store_of}
use Rattle.tw_interp.specs.Numbered.{IsTarget, listed_names, listed_vars}
use Rattle.tw_interp.proofs.Listing.{none_loaded, loaded_next, name_of_var}
use Rattle.tw_interp.proofs.entry.load.Goals as goal

pub loop-i-init : goal.loop-i-init
loop-i-init c = (omega arith, λ names are short. c.in_ok-frame.ensures names ∙ none_loaded (listed_names c.args.body.now) c.args.values.now)

pub loop-i-preserved : goal.loop-i-preserved
loop-i-preserved c =
    let vars = listed_vars c.args.body.now in
    let i = c.loop-i.i - 1 in
    let more : c.loop-i.i ≡ i + 1 = omega (arith, c.loop-i-test.true) in (
      omega (arith, c.loop-i.invariant.0),
      λ names are short.
          let at = c.var_at.ensures (omega (arith, short, c.loop-i.invariant.0, c.loop-i-test.true)) in
          loaded_next (listed_names c.args.body.now) c.args.values.now i c.loop-i.i c.var_at.result.name.text.now c.index-values-i.result c.in_ok-copy_val.field-0 (store_of names c.loop-i.frame) (store_of names c.set.new.self)
          (name_of_var vars i c.var_at.result at) (slice_get_read c.args.values.now (length c.args.values.now) i c.index-values-i.result refl (omega (arith, c.loop-i.invariant.0, c.loop-i-test.true)) c.index-values-i.is) more
          c.in_ok-copy_val.ensures (c.loop-i.invariant.1 names are short) (c.in_ok-set.ensures names (each_at (IsTarget names) vars i c.var_at.result are at)),
    )

pub returns : goal.returns
returns c = λ names are short.
    let done : c.loop-i.i ≡ 0 = omega (arith, c.loop-i-test.false) in
    c.loop-i.invariant.1 names are short ∙ ap (λ (n : ℕ). listed.store_of (drop n (listed_names c.args.body.now)) (map value_of (drop n c.args.values.now))) done
