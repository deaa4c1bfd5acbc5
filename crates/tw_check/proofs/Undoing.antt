-- The reverse of a right statement is right, and leads from its end to its beginning.
use Rattle.std.proofs.Common.{◌↔◌, ◌∙◌, subst, true}
use Rattle.tw_syntax.specs.Statements.{StmtTree}
use Rattle.tw_check.specs.Names.{Names}
use Rattle.tw_check.specs.Reverse.{reverse_of}
use Rattle.tw_check.specs.Right.{Right, RightNothing, RightThen, RightLet, RightUnlet, RightSwap, RightMemSwap, RightIf, RightIfElse, RightWith, RightBlock, RightSkip}
use Rattle.tw_check.proofs.NameSets.{with_name-same}
use Rattle.tw_check.proofs.Reversal.{reverse_of-reverse_of}
use Rattle.tw_check.proofs.Ends.{held_stays}

undone : {held : Names} {s : StmtTree} {before after : Names} → Right held s before after → Right held (reverse_of s) after before
undone RightNothing = RightNothing
undone (RightThen middle a b) = RightThen middle (undone b) (undone a)
undone (RightLet a) = RightUnlet a
undone (RightUnlet a) = RightLet a
undone (RightSwap a b c d e) = RightSwap a b c d e
undone (RightMemSwap a b c d) = RightMemSwap a b c d
undone (RightIf {held = held} {cond = cond} live a) =
    RightIf (held_stays a cond.root.text (with_name-same held cond.root.text true) ∙ live) (undone a)
undone (RightIfElse {held = held} {cond = cond} live a b) =
    RightIfElse (held_stays a cond.root.text (with_name-same held cond.root.text true) ∙ live) (undone a) (undone b)
undone (RightWith {held = held} {setup = setup} {after = after} ready done a b c) =
    RightWith done ready (subst (λ s. Right held s after done) (reverse_of-reverse_of setup) (undone c)) (undone b) (undone a)
undone (RightBlock a) = RightBlock (undone a)
undone RightSkip = RightSkip

pub right-reverse_of : {held : Names} {s : StmtTree} {before after : Names} → Right held s before after ↔ Right held (reverse_of s) after before
right-reverse_of {held} {s} {before} {after} =
    (undone, λ a. subst (λ t. Right held t before after) (reverse_of-reverse_of s) (undone a))
