use Rattle.std.proofs.Common.{ℕ, List, ◌++◌, sym, subst, arith}
use Rattle.tw_gate.specs.Gates.{X}
use Rattle.tw_code.specs.Present.{present_list}
use Rattle.tw_code.proofs.Sorting.{length-sorted, sorted_is}
use Rattle.tw_code.proofs.gates.emit_flip.Goals as goal

pub gather-count-requires : goal.gather-count-requires
gather-count-requires g c = omega (arith, c.requires.0, length-sorted (c.args.own.now ++ present_list c.args.present.now))

pub put-requires : goal.put-requires
put-requires g c =
    let e = sorted_is _ _ _ c.gather-count.ensures.gathered c.sort_unstable.ensures.permutation c.sort_unstable.ensures.sorted in
    subst (λ (controls : List ℕ). g.O.GateOut.fits c.args.out.now (X controls c.args.target)) (sym e) c.requires.1

pub returns : goal.returns
returns g c = rw (← sorted_is _ _ _ c.gather-count.ensures.gathered c.sort_unstable.ensures.permutation c.sort_unstable.ensures.sorted) c.put.ensures.gave
