-- The test of `WithNotUndone`: the reverse of a right setup is right from the live names after the work.
use Rattle.std.proofs.Common.{◌≡◌, ℕ, List, true, subst, Decides}
use Rattle.tw_syntax.specs.Statements.{StmtTree}
use Rattle.tw_check.specs.Names.{Names, agree_on}
use Rattle.tw_check.specs.Liveness.{names_of, live_after}
use Rattle.tw_check.specs.Reverse.{reverse_of}
use Rattle.tw_check.specs.Right.{Right}
use Rattle.tw_check.proofs.NameSets.{Agree, agree_on-Decides}
use Rattle.tw_check.proofs.Reversal.{reverse_of-reverse_of, names_of-reverse_of}
use Rattle.tw_check.proofs.Undoing.{right-reverse_of}
use Rattle.tw_check.proofs.Agreement.{agree_if_right}
use Rattle.tw_check.proofs.Coincidence.{right_if_agree}

pub undoable-Decides : {held : Names} {setup : StmtTree} {before ready : Names} → Right held setup before ready → (done : Names) → Decides (agree_on (names_of setup) ready done) ((after : Names) × Right held (reverse_of setup) done after)
undoable-Decides {setup = setup} {ready = ready} right done =
    let agree = agree_on-Decides (names_of setup) ready done in
    let back = right-reverse_of.0 right in
    let P = λ (name : List ℕ). ready name ≡ done name in (
      λ test. (live_after true (reverse_of setup) done, right_if_agree back done (names_of-reverse_of P setup (agree.0 test))),
      λ undone. agree.1 (subst (λ s. Agree (names_of s) ready done) (reverse_of-reverse_of setup) (names_of-reverse_of P (reverse_of setup) (agree_if_right back undone.1))),
    )
