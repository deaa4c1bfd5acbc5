-- A right statement determines which of its names are live before it.
use Rattle.std.proofs.Common.{◌≡◌, ap, sym, ◌∙◌, ℕ, true, List, [], ◌∷◌}
use Rattle.std.specs.List.{AllByRecursion}
use Rattle.tw_resolve.proofs.Each.{each_weaker, each-append}
use Rattle.tw_syntax.specs.Names.{NameTree}
use Rattle.tw_syntax.specs.Statements.{StmtTree}
use Rattle.tw_syntax.specs.Terms.{RhsTree}
use Rattle.tw_check.specs.Names.{Names}
use Rattle.tw_check.specs.Liveness.{rhs_names, texts, names_of}
use Rattle.tw_check.specs.Right.{IsOperand, Assigns, Right, writes, RightNothing, RightThen, RightLet, RightUnlet, RightSwap, RightMemSwap, RightIf, RightIfElse, RightWith, RightBlock, RightSkip}
use Rattle.tw_check.proofs.NameSets.{Agree, agree_at, on_or_off, with_name-same, with_name-kept}
use Rattle.tw_check.proofs.Mentions.{right_stays}

-- each of these names is live
abbrev pub AreLive : Names → List NameTree → Type 0
AreLive live names = AllByRecursion (λ name. live name.text ≡ true) names

pub target_is_live : {held : Names} {target : NameTree} {rhs : RhsTree} {bare full : Names} → Assigns held target rhs bare full → full target.text ≡ true
target_is_live {target = target} {bare = bare} a = ap (λ (live : Names). live target.text) a.after ∙ with_name-same bare target.text true

pub operands_live : {held : Names} {target : NameTree} {rhs : RhsTree} {bare full : Names} → Assigns held target rhs bare full → AreLive bare (rhs_names rhs)
operands_live {held} {target} {rhs} {bare} a =
    each_weaker (IsOperand held bare target (writes rhs)) (λ name. bare name.text ≡ true) (λ name operand. operand.live) (rhs_names rhs) a.operands

pub operands_live_after : {held : Names} {target : NameTree} {rhs : RhsTree} {bare full : Names} → Assigns held target rhs bare full → AreLive full (rhs_names rhs)
operands_live_after {target = target} {rhs = rhs} {bare = bare} {full = full} a =
    each_weaker (λ name. bare name.text ≡ true) (λ name. full name.text ≡ true)
    (λ name live. ap (λ (set : Names). set name.text) a.after ∙ with_name-kept bare target.text name.text true live) (rhs_names rhs) (operands_live a)

agree_if_live : (names : List NameTree) (x z : Names) → AreLive x names → AreLive z names → Agree (texts names) x z
agree_if_live [] x z x_live z_live = tt
agree_if_live (name ∷ names) x z x_live z_live = (x_live.0 ∙ sym z_live.0, agree_if_live names x z x_live.1 z_live.1)

-- sets that agree after two right runs of a statement agree before them, if they agree on its names
agree_before : {held held2 : Names} {s : StmtTree} {x y z w : Names} → Right held s x y → Right held2 s z w → Agree (names_of s) x z → (names : List (List ℕ)) → Agree names y w → Agree names x z
agree_before {s = s} {x = x} {y = y} {z = z} {w = w} a b agree names after =
    each_weaker (λ name. y name ≡ w name) (λ name. x name ≡ z name)
    (λ name same. on_or_off (names_of s) name (agree_at (names_of s) x z name agree)
    (λ off. sym (right_stays a name off) ∙ same ∙ right_stays b name off)) names after

pub agree_if_right : {held held2 : Names} {s : StmtTree} {x y z w : Names} → Right held s x y → Right held2 s z w → Agree (names_of s) x z
agree_if_right RightNothing RightNothing = tt
agree_if_right {x = x} {z = z} (RightThen {first = first} {rest = rest} m a b) (RightThen n c d) =
    let agree = agree_if_right a c in
    each-append (λ name. x name ≡ z name) (names_of first) (names_of rest) agree (agree_before a c agree (names_of rest) (agree_if_right b d))
agree_if_right {x = x} {z = z} (RightLet {rhs = rhs} a) (RightLet b) =
    (a.dead ∙ sym b.dead, agree_if_live (rhs_names rhs) x z (operands_live a) (operands_live b))
agree_if_right {x = x} {z = z} (RightUnlet {rhs = rhs} a) (RightUnlet b) =
    (target_is_live a ∙ sym (target_is_live b), agree_if_live (rhs_names rhs) x z (operands_live_after a) (operands_live_after b))
agree_if_right (RightSwap a b c d e) (RightSwap f g h i j) = (a ∙ sym f, (c ∙ sym h, tt))
agree_if_right (RightMemSwap a b c d) (RightMemSwap e f g h) = (a ∙ sym e, (b ∙ sym f, tt))
agree_if_right {x = x} {z = z} (RightIf {first = first} live a) (RightIf live2 b) =
    (live ∙ sym live2, each-append (λ name. x name ≡ z name) (names_of first) [] (agree_if_right a b) tt)
agree_if_right {x = x} {z = z} (RightIfElse {first = first} {other = other} live a b) (RightIfElse live2 c d) =
    (live ∙ sym live2, each-append (λ name. x name ≡ z name) (names_of first) (names_of other) (agree_if_right a c) (agree_if_right b d))
agree_if_right {x = x} {z = z} (RightWith {setup = setup} {work = work} m n a b c) (RightWith m2 n2 a2 b2 c2) =
    let agree = agree_if_right a a2 in
    each-append (λ name. x name ≡ z name) (names_of setup) (names_of work) agree (agree_before a a2 agree (names_of work) (agree_if_right b b2))
agree_if_right (RightBlock a) (RightBlock b) = agree_if_right a b
agree_if_right RightSkip RightSkip = tt
