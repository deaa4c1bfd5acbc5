-- The coincidence lemma: a statement that is right from some live names is right from all live names that agree with them on the
-- names that it mentions.
use Rattle.std.proofs.Common.{◌≡◌, refl, ap, sym, ◌∙◌, subst, ℕ, Bool, true, false, List, [], ◌∷◌, ◌++◌}
use Rattle.std.specs.List.{AllByRecursion}
use Rattle.tw_resolve.proofs.Each.{each_first, each_rest, each_weaker}
use Rattle.tw_syntax.specs.Names.{NameTree}
use Rattle.tw_syntax.specs.Statements.{StmtTree}
use Rattle.tw_check.specs.Names.{Names, with_name}
use Rattle.tw_check.specs.Liveness.{rhs_names, texts, names_of, live_after}
use Rattle.tw_check.specs.Reverse.{reverse_of}
use Rattle.tw_check.specs.Right.{IsOperand, Right, writes, RightNothing, RightThen, RightLet, RightUnlet, RightSwap, RightMemSwap, RightIf, RightIfElse, RightWith, RightBlock, RightSkip}
use Rattle.tw_check.proofs.NameSets.{Agree, with_name-same, with_name-other, with_name-back}
use Rattle.tw_check.proofs.Reversal.{live_after-reverse_of, names_of-reverse_of}
use Rattle.tw_check.proofs.Ends.{right_ends}
use Rattle.tw_check.proofs.Mentions.{branches_alike, live_after-at, agree_after}
use Rattle.tw_check.proofs.Agreement.{AreLive, target_is_live, operands_live_after}

operands_if_agree : (held x z : Names) (target : NameTree) (written : Bool) (names : List NameTree) → AllByRecursion (IsOperand held x target written) names → Agree (texts names) x z → AllByRecursion (IsOperand held z target written) names
operands_if_agree held x z target written [] operands agree = tt
operands_if_agree held x z target written (name ∷ names) operands agree =
    let operand = operands.0 in
    (record { other = operand.other; live = sym agree.0 ∙ operand.live; free = operand.free }, operands_if_agree held x z target written names operands.1 agree.1)

-- the operands of an un-assignment, from the live names that it begins with
unlet_operands_if_agree : (held y x z : Names) (target : NameTree) (written : Bool) (names : List NameTree) → AllByRecursion (IsOperand held y target written) names → AreLive x names → Agree (texts names) x z → AllByRecursion (IsOperand held (with_name z target.text false) target written) names
unlet_operands_if_agree held y x z target written [] operands live agree = tt
unlet_operands_if_agree held y x z target written (name ∷ names) operands live agree =
    let operand = operands.0 in (
      record {
        other = operand.other;
        live = with_name-other z target.text name.text false operand.other ∙ sym agree.0 ∙ live.0;
        free = operand.free;
      },
      unlet_operands_if_agree held y x z target written names operands.1 live.1 agree.1,
    )

branches_end_alike : {held held2 : Names} {first other : StmtTree} {x y : Names} → Right held first x y → Right held2 other x y → (z : Names) → Agree (names_of first ++ names_of other) x z → live_after true first z ≡ live_after true other z
branches_end_alike {first = first} {other = other} {x = x} a b z agree =
    branches_alike first other z
    (each_weaker (λ name. x name ≡ z name) (λ name. live_after true first z name ≡ live_after true other z name)
    (λ name same.
    sym (live_after-at true first x z name same)
    ∙ ap (λ (live : Names). live name) (right_ends a ∙ sym (right_ends b))
    ∙ live_after-at true other x z name same) (names_of first ++ names_of other) agree)

pub right_if_agree : {held : Names} {s : StmtTree} {x y : Names} → Right held s x y → (z : Names) → Agree (names_of s) x z → Right held s z (live_after true s z)
right_if_agree RightNothing z agree = RightNothing
right_if_agree {x = x} (RightThen {first = first} {rest = rest} middle a b) z agree =
    let P = λ (name : List ℕ). x name ≡ z name in
    RightThen (live_after true first z)
    (right_if_agree a z (each_first P (names_of first) (names_of rest) agree))
    (right_if_agree b (live_after true first z) (agree_after a z (names_of rest) (each_rest P (names_of first) (names_of rest) agree)))
right_if_agree {x = x} (RightLet {held = held} {target = target} {rhs = rhs} a) z agree =
    RightLet (record {
      dead = sym agree.0 ∙ a.dead;
      free = a.free;
      operands = operands_if_agree held x z target (writes rhs) (rhs_names rhs) a.operands agree.1;
      after = refl;
    })
right_if_agree {x = x} {y = y} (RightUnlet {held = held} {target = target} {rhs = rhs} a) z agree =
    RightUnlet (record {
      dead = with_name-same z target.text false;
      free = a.free;
      operands = unlet_operands_if_agree held y x z target (writes rhs) (rhs_names rhs) a.operands (operands_live_after a) agree.1;
      after = sym (with_name-back z target.text true false (sym agree.0 ∙ target_is_live a));
    })
right_if_agree (RightSwap a b c d e) z agree = RightSwap (sym agree.0 ∙ a) b (sym agree.1.0 ∙ c) d e
right_if_agree (RightMemSwap a b c d) z agree = RightMemSwap (sym agree.0 ∙ a) (sym agree.1.0 ∙ b) c d
right_if_agree {x = x} (RightIf {first = first} live a) z agree =
    RightIf (sym agree.0 ∙ live) (right_if_agree a z (each_first (λ name. x name ≡ z name) (names_of first) [] agree.1))
right_if_agree {x = x} (RightIfElse {held = held} {cond = cond} {first = first} {other = other} live a b) z agree =
    let P = λ (name : List ℕ). x name ≡ z name in
    RightIfElse (sym agree.0 ∙ live)
    (right_if_agree a z (each_first P (names_of first) (names_of other) agree.1))
    (subst (λ end. Right (with_name held cond.root.text true) other z end) (sym (branches_end_alike a b z agree.1))
    (right_if_agree b z (each_rest P (names_of first) (names_of other) agree.1)))
right_if_agree {x = x} (RightWith {held = held} {setup = setup} {work = work} ready done a b c) z agree =
    let P = λ (name : List ℕ). x name ≡ z name in
    let on_setup = each_first P (names_of setup) (names_of work) agree in
    let on_work = each_rest P (names_of setup) (names_of work) agree in
    let ready_z = live_after true setup z in
    let done_z = live_after true work ready_z in
    let on_reverse = names_of-reverse_of (λ name. done name ≡ done_z name) setup (agree_after b ready_z (names_of setup) (agree_after a z (names_of setup) on_setup)) in
    RightWith ready_z done_z (right_if_agree a z on_setup) (right_if_agree b ready_z (agree_after a z (names_of work) on_work))
    (subst (λ end. Right held (reverse_of setup) done_z end) (live_after-reverse_of true setup done_z) (right_if_agree c done_z on_reverse))
right_if_agree (RightBlock a) z agree = RightBlock (right_if_agree a z agree)
right_if_agree RightSkip z agree = RightSkip
