use Rattle.std.proofs.Common.{◌≡◌, ℕ, Some, length, slice_get}
use Rattle.tw_syntax.specs.Programs.{FunTree}
use Rattle.tw_resolve.specs.Resolved.{resolved_setting}
use Rattle.tw_interp.specs.declared.runner.Body.{Body}
use Rattle.tw_interp.specs.Numbered.{IsBodyOf}
use Rattle.tw_interp.proofs.runner.bodies_of.Given as goal

abbrev pub invariant-loop-number : goal.invariant-loop-number
invariant-loop-number l =
    (length l.bodies.items ≡ l.number)
    × ((number : ℕ) (fun : FunTree) (body : Body) → slice_get (resolved_setting l.program).funs number ≡ Some fun → slice_get l.bodies.items number ≡ Some body → IsBodyOf (resolved_setting l.program) number fun body)
