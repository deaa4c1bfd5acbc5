use Rattle.std.proofs.Common.{◌≡◌, ◌∙◌, ◌+◌, ap, sym, subst, arith, ℕ, List, [], ◌∷◌, length, Some, slice_get}
use Rattle.std.proofs.lemmas.List.{length-append}
use Rattle.std.proofs.lemmas.Option.{none-some}
use Rattle.tw_syntax.specs.Programs.{FunTree}
use Rattle.tw_resolve.specs.Resolved.{resolved_setting}
use Rattle.tw_interp.specs.declared.runner.Body.{Body}
use Rattle.tw_interp.specs.Numbered.{IsBodyOf}
use Rattle.tw_interp.proofs.Ready.{each_pushed}
use Rattle.tw_interp.proofs.runner.bodies_of.Goals as goal

pub loop-number-init : goal.loop-number-init
loop-number-init c = (
  ap length c.new-bodies.ensures.items,
  λ number fun body there at. absurd (none-some body (ap (λ (xs : List Body). slice_get xs number) (sym c.new-bodies.ensures.items) ∙ at)),
)

pub loop-number-preserved : goal.loop-number-preserved
loop-number-preserved c =
    let setting = resolved_setting c.args.program.now in
    let bodies = c.loop-number.bodies.items in
    let more = c.in_ok-body_of.field-0 in
    let are = λ (i : ℕ) (b : Body). (fun : FunTree) → slice_get setting.funs i ≡ Some fun → IsBodyOf setting i fun b in (
      ap length c.in_ok-push.ensures.items ∙ length-append bodies (more ∷ []) ∙ ap (λ (n : ℕ). n + 1) c.loop-number.invariant.0,
      λ number fun body there at.
          each_pushed are bodies more (λ i b is f is_fun. c.loop-number.invariant.1 i f b is_fun is) (subst (λ (n : ℕ). are n more) (sym c.loop-number.invariant.0) c.in_ok-body_of.ensures) number body
          (ap (λ (xs : List Body). slice_get xs number) (sym c.in_ok-push.ensures.items) ∙ at) fun there,
    )

pub returns : goal.returns
returns c =
    let setting = resolved_setting c.args.program.now in
    let all : c.loop-number.number ≡ length setting.funs = omega (arith, c.loop-number-test.false, c.loop-number.auto.number-end, c.fun_count-number-end.ensures) in
    record { counted = c.loop-number.invariant.0 ∙ all; each = c.loop-number.invariant.1 }
