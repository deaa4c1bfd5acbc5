-- The walk over an `if`.
use Rattle.std.proofs.Common.{◌≡◌, ◌∙◌, ap, ap₂, sym, subst, subst₂, Bool, true, List, [], ◌∷◌, ◌++◌, Option, None, Some}
use Rattle.tw_text.specs.declared.place.Pos.{Pos}
use Rattle.tw_text.specs.declared.refusal.Fault.{Fault}
use Rattle.tw_text.specs.declared.refusal.Rule.TheVariants as rule
use Rattle.tw_resolve.specs.Demands.{Demand, demand, first_broken, IsReported}
use Rattle.tw_resolve.proofs.Demands.{none_broken-each}
use Rattle.tw_syntax.specs.declared.name.Name.{Name}
use Rattle.tw_syntax.specs.declared.statement.No.{No, out-No}
use Rattle.tw_syntax.specs.Names.{PathTree}
use Rattle.tw_syntax.specs.Statements.{StmtTree, Nothing, Else, IfStmt, stmts_tree, else_tree}
use Rattle.tw_syntax.proofs.Shapes.{tree_of_no}
use Rattle.tw_check.specs.Liveness.{names_of, live_after}
use Rattle.tw_check.specs.Names.{Names, with_name, is_one_of, agree_on}
use Rattle.tw_check.specs.Rules.{used}
use Rattle.tw_check.specs.Walks.{Now, after, texts_of, noted, put_back}
use Rattle.tw_check.proofs.NameSets.{Agree, agree_on-Decides, off-append, with_name-back}
use Rattle.tw_check.proofs.Mentions.{others_stay, branches_alike}
use Rattle.tw_check.proofs.Notes.{put_back-is}
use Rattle.tw_check.proofs.Walking.{rules_at, reported_first, reported_rest, none_both}

-- the place of the branches: the root of the condition is held
abbrev pub within : PathTree → Now → Now
within cond now = record { held = with_name now.held cond.root.text true; live = now.live }

-- the rule of the condition
abbrev pub cond_rules : PathTree → Now → List Demand
cond_rules cond now = used now.live cond.root ∷ []

-- the rules of the second branch, and the test after both
abbrev second_rules : Pos → StmtTree → StmtTree → Now → List Demand
second_rules else_at first other now =
    rules_at now other
    ++ demand rule.BranchesDiffer else_at (agree_on (names_of first ++ names_of other) (live_after true first now.live) (live_after true other now.live)) ∷ []

-- whatever the other branch is, the condition is tried first
pub if_stopped_cond : (at : Pos) (cond : PathTree) (first : StmtTree) (no : Option No) (old : Now) (e : Fault) → IsReported (first_broken (cond_rules cond old)) e → IsReported (first_broken (rules_at old (IfStmt at cond first (else_tree no)))) e
if_stopped_cond at cond first None old e told = reported_first (cond_rules cond old) (rules_at (within cond old) first) e told
if_stopped_cond at cond first (Some other) old e told =
    let branches = rules_at (within cond old) first ++ second_rules (out-No other).at first (stmts_tree (out-No other).stmts.now) (within cond old) in
    subst (λ tree. IsReported (first_broken (rules_at old (IfStmt at cond first tree))) e) (sym (tree_of_no other)) (reported_first (cond_rules cond old) branches e told)

module _ (at : Pos) (cond : PathTree) (first : StmtTree) (old inner : Now) (to_inner : inner ≡ within cond old) (none_cond : first_broken (cond_rules cond old) ≡ None) where
  -- an `if` without `else`

  pub if_stopped_first : (e : Fault) → IsReported (first_broken (rules_at inner first)) e → IsReported (first_broken (rules_at old (IfStmt at cond first Nothing))) e
  if_stopped_first e told =
      reported_rest (cond_rules cond old) (rules_at (within cond old) first) e none_cond (subst (λ now. IsReported (first_broken (rules_at now first)) e) to_inner told)

  pub if_kept : first_broken (rules_at inner first) ≡ None → first_broken (rules_at old (IfStmt at cond first Nothing)) ≡ None
  if_kept none = none_both (cond_rules cond old) (rules_at (within cond old) first) none_cond (ap (λ now. first_broken (rules_at now first)) (sym to_inner) ∙ none)

  -- an `if` with `else`, in its first branch
  pub else_stopped_first : (else_at : Pos) (other : StmtTree) (e : Fault) → IsReported (first_broken (rules_at inner first)) e → IsReported (first_broken (rules_at old (IfStmt at cond first (Else else_at other)))) e
  else_stopped_first else_at other e told =
      let second = second_rules else_at first other (within cond old) in
      reported_rest (cond_rules cond old) (rules_at (within cond old) first ++ second) e none_cond
      (reported_first (rules_at (within cond old) first) second e (subst (λ now. IsReported (first_broken (rules_at now first)) e) to_inner told))

  -- notes of the names of both branches that were taken before the first one take the walk back to there
  pub else_back : (other : StmtTree) (one : Now) (names : List Name) (live : Names) → one ≡ after first inner → texts_of names ≡ names_of first ++ names_of other → live ≡ put_back (noted inner.live names) one.live → record { held = one.held; live = live } ≡ within cond old
  else_back other one names live to_one are_all is =
      let was : inner.live ≡ old.live = ap (λ now. now.live) to_inner in
      let one_live : one.live ≡ live_after true first inner.live = ap (λ now. now.live) to_one in
      ap₂ (λ held live. record { held = held; live = live }) (ap (λ now. now.held) to_one ∙ ap (λ now. now.held) to_inner)
      (is ∙ put_back-is names inner.live one.live old.live
      (λ name one. ap (λ (live : Names). live name) was)
      (λ name off.
      ap (λ (live : Names). live name) one_live
      ∙ others_stay true first inner.live name ((off-append name (names_of first) (names_of other) (sym (ap (is_one_of name) are_all) ∙ off)).0)
      ∙ ap (λ (live : Names). live name) was))

module _ (at else_at : Pos) (cond : PathTree) (first other : StmtTree) (old inner one back two : Now) (to_inner : inner ≡ within cond old) (to_one : one ≡ after first inner) (to_back : back ≡ within cond old) (to_two : two ≡ after other back) where
  -- the test after both branches
  abbrev end_of_branches : Now → Now → List Demand
  end_of_branches one two = demand rule.BranchesDiffer else_at (agree_on (names_of first ++ names_of other) one.live two.live) ∷ []

  abbrev rules_of_else : Now → Now → Now → Now → List Demand
  rules_of_else inner one back two = cond_rules cond old ++ (rules_at inner first ++ (rules_at back other ++ end_of_branches one two))

  one_is : one ≡ after first (within cond old)
  one_is = to_one ∙ ap (after first) to_inner

  two_is : two ≡ after other (within cond old)
  two_is = to_two ∙ ap (after other) to_back

  else_rules : rules_of_else inner one back two ≡ rules_at old (IfStmt at cond first (Else else_at other))
  else_rules = λ i. rules_of_else (to_inner i) (one_is i) (to_back i) (two_is i)

  pub else_stopped_other : (e : Fault) → first_broken (cond_rules cond old) ≡ None → first_broken (rules_at inner first) ≡ None → IsReported (first_broken (rules_at back other)) e → IsReported (first_broken (rules_at old (IfStmt at cond first (Else else_at other)))) e
  else_stopped_other e none_cond none_first told =
      subst (λ demands. IsReported (first_broken demands) e) else_rules
      (reported_rest (cond_rules cond old) (rules_at inner first ++ (rules_at back other ++ end_of_branches one two)) e none_cond
      (reported_rest (rules_at inner first) (rules_at back other ++ end_of_branches one two) e none_first
      (reported_first (rules_at back other) (end_of_branches one two) e told)))

  pub else_stopped_end : (e : Fault) → first_broken (cond_rules cond old) ≡ None → first_broken (rules_at inner first) ≡ None → first_broken (rules_at back other) ≡ None → IsReported (first_broken (end_of_branches one two)) e → IsReported (first_broken (rules_at old (IfStmt at cond first (Else else_at other)))) e
  else_stopped_end e none_cond none_first none_other told =
      subst (λ demands. IsReported (first_broken demands) e) else_rules
      (reported_rest (cond_rules cond old) (rules_at inner first ++ (rules_at back other ++ end_of_branches one two)) e none_cond
      (reported_rest (rules_at inner first) (rules_at back other ++ end_of_branches one two) e none_first
      (reported_rest (rules_at back other) (end_of_branches one two) e none_other told)))

  pub else_kept : first_broken (cond_rules cond old) ≡ None → first_broken (rules_at inner first) ≡ None → first_broken (rules_at back other) ≡ None → first_broken (end_of_branches one two) ≡ None → first_broken (rules_at old (IfStmt at cond first (Else else_at other))) ≡ None
  else_kept none_cond none_first none_other none_end =
      ap first_broken (sym else_rules)
      ∙ none_both (cond_rules cond old) (rules_at inner first ++ (rules_at back other ++ end_of_branches one two)) none_cond
      (none_both (rules_at inner first) (rules_at back other ++ end_of_branches one two) none_first
      (none_both (rules_at back other) (end_of_branches one two) none_other none_end))

  -- the branches end alike, so the second ends where the `if` does
  pub else_ends : first_broken (end_of_branches one two) ≡ None → two ≡ record { held = with_name old.held cond.root.text true; live = live_after true first old.live }
  else_ends none_end =
      let holds = ((none_broken-each (end_of_branches one two)).1 none_end).0 in
      let same = branches_alike first other old.live (subst₂ (Agree (names_of first ++ names_of other)) (ap (λ now. now.live) one_is) (ap (λ now. now.live) two_is) ((agree_on-Decides (names_of first ++ names_of other) one.live two.live).0 holds)) in
      two_is ∙ ap (λ live. record { held = with_name old.held cond.root.text true; live = live }) (sym same)

-- the root of the condition is held after the `if` exactly if it was held before it
pub held_as_before : (cond : PathTree) (old : Now) (held live end : Names) (was_held : Bool) (first other : StmtTree) (at : Pos) → was_held ≡ old.held cond.root.text → held ≡ with_name (with_name old.held cond.root.text true) cond.root.text was_held → end ≡ live_after true first old.live → record { held = held; live = end } ≡ after (IfStmt at cond first other) old
held_as_before cond old held live end was_held first other at was is ends =
    ap₂ (λ held live. record { held = held; live = live }) (is ∙ with_name-back old.held cond.root.text was_held true (sym was)) ends
