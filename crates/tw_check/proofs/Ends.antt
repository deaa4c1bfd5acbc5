-- Where a right statement ends: the live names after it follow from those before it, and held names stay as they are.
use Rattle.std.proofs.Common.{◌≡◌, refl, ap, sym, ◌∙◌, subst, ℕ, true, false, List}
use Rattle.tw_syntax.specs.Statements.{StmtTree}
use Rattle.tw_check.specs.Names.{Names, with_name}
use Rattle.tw_check.specs.Liveness.{live_after}
use Rattle.tw_check.specs.Right.{Right, RightNothing, RightThen, RightLet, RightUnlet, RightSwap, RightMemSwap, RightIf, RightIfElse, RightWith, RightBlock, RightSkip}
use Rattle.tw_check.proofs.NameSets.{with_name-kept, with_name-other, with_name-back, names_differ}
use Rattle.tw_check.proofs.Reversal.{live_after-reverse_of}

-- the end of a right statement is determined
pub right_ends : {held : Names} {s : StmtTree} {before after : Names} → Right held s before after → live_after true s before ≡ after
right_ends RightNothing = refl
right_ends (RightThen {rest = rest} middle a b) = ap (live_after true rest) (right_ends a) ∙ right_ends b
right_ends (RightLet a) = sym a.after
right_ends (RightUnlet {target = target} {after = after} a) =
    ap (λ live. with_name live target.text false) a.after ∙ with_name-back after target.text false true a.dead
right_ends (RightSwap a b c d e) = refl
right_ends (RightMemSwap a b c d) = refl
right_ends (RightIf cond a) = right_ends a
right_ends (RightIfElse cond a b) = right_ends a
right_ends (RightWith {setup = setup} {work = work} ready done a b c) =
    ap (λ live. live_after false setup (live_after true work live)) (right_ends a)
    ∙ ap (live_after false setup) (right_ends b)
    ∙ sym (live_after-reverse_of true setup done)
    ∙ right_ends c
right_ends (RightBlock a) = right_ends a
right_ends RightSkip = refl

pub right_to_end : {held : Names} {s : StmtTree} {before after : Names} → Right held s before after → Right held s before (live_after true s before)
right_to_end {held} {s} {before} right = subst (λ end. Right held s before end) (sym (right_ends right)) right

-- a held name is live after a right statement exactly if it was live before it
pub held_stays : {held : Names} {s : StmtTree} {before after : Names} → Right held s before after → (name : List ℕ) → held name ≡ true → after name ≡ before name
held_stays RightNothing name is_held = refl
held_stays (RightThen middle a b) name is_held = held_stays b name is_held ∙ held_stays a name is_held
held_stays (RightLet {held = held} {target = target} {before = before} a) name is_held =
    ap (λ (live : Names). live name) a.after ∙ with_name-other before target.text name true (names_differ held target.text name a.free is_held)
held_stays (RightUnlet {held = held} {target = target} {after = after} a) name is_held =
    sym (ap (λ (live : Names). live name) a.after ∙ with_name-other after target.text name true (names_differ held target.text name a.free is_held))
held_stays (RightSwap a b c d e) name is_held = refl
held_stays (RightMemSwap a b c d) name is_held = refl
held_stays (RightIf {held = held} {cond = cond} live a) name is_held = held_stays a name (with_name-kept held cond.root.text name true is_held)
held_stays (RightIfElse {held = held} {cond = cond} live a b) name is_held = held_stays a name (with_name-kept held cond.root.text name true is_held)
held_stays (RightWith ready done a b c) name is_held =
    held_stays c name is_held ∙ held_stays b name is_held ∙ held_stays a name is_held
held_stays (RightBlock a) name is_held = held_stays a name is_held
held_stays RightSkip name is_held = refl
