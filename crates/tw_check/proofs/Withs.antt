-- The walk over a `with`.
use Rattle.std.proofs.Common.{◌≡◌, ◌∙◌, ap, ap₂, sym, subst, true, false, List, [], ◌∷◌, ◌++◌, None}
use Rattle.tw_text.specs.declared.place.Pos.{Pos}
use Rattle.tw_text.specs.declared.refusal.Fault.{Fault}
use Rattle.tw_text.specs.declared.refusal.Rule.TheVariants as rule
use Rattle.tw_resolve.specs.Demands.{Demand, demand, first_broken, IsReported}
use Rattle.tw_resolve.proofs.Demands.{none_broken-each}
use Rattle.tw_syntax.specs.declared.name.Name.{Name}
use Rattle.tw_syntax.specs.Statements.{StmtTree, WithStmt}
use Rattle.tw_check.specs.Liveness.{names_of, live_after}
use Rattle.tw_check.specs.Names.{Names, is_one_of, agree_on}
use Rattle.tw_check.specs.Walks.{Now, after, texts_of, noted, put_back}
use Rattle.tw_check.proofs.NameSets.{Agree, agree_on-Decides, agree_at}
use Rattle.tw_check.proofs.Reversal.{live_after-reverse_of}
use Rattle.tw_check.proofs.Ends.{right_ends}
use Rattle.tw_check.proofs.Undoing.{right-reverse_of}
use Rattle.tw_check.proofs.Mentions.{others_stay, live_after-at}
use Rattle.tw_check.proofs.RightStatements.{right_if_kept}
use Rattle.tw_check.proofs.Notes.{put_back-is}
use Rattle.tw_check.proofs.Walking.{rules_at, reported_first, reported_rest, none_both}

-- a setup that keeps its rules is undone by its reverse
undone : (now : Now) (setup : StmtTree) → first_broken (rules_at now setup) ≡ None → live_after false setup (live_after true setup now.live) ≡ now.live
undone now setup none =
    let right = right_if_kept now.held now.live setup ((none_broken-each (rules_at now setup)).1 none) in
    sym (live_after-reverse_of true setup (live_after true setup now.live)) ∙ right_ends (right-reverse_of.0 right)

-- notes of the names of a setup that were taken before it undo it after work that leaves them as the setup does
setup_put_back : (now : Now) (setup : StmtTree) (names : List Name) (done : Names) → first_broken (rules_at now setup) ≡ None → texts_of names ≡ names_of setup → Agree (names_of setup) (live_after true setup now.live) done → put_back (noted now.live names) done ≡ live_after false setup done
setup_put_back now setup names done none are_all agree =
    put_back-is names now.live done (live_after false setup done)
    (λ name one.
    sym (ap (λ (live : Names). live name) (undone now setup none))
    ∙ live_after-at false setup (live_after true setup now.live) done name
    (agree_at (names_of setup) (live_after true setup now.live) done name agree (sym (ap (is_one_of name) are_all) ∙ one)))
    (λ name off. sym (others_stay false setup done name (sym (ap (is_one_of name) are_all) ∙ off)))

pub with_stopped_setup : (at : Pos) (setup work : StmtTree) (old : Now) (e : Fault) → IsReported (first_broken (rules_at old setup)) e → IsReported (first_broken (rules_at old (WithStmt at setup work))) e
with_stopped_setup at setup work old e told = reported_first (rules_at old setup) _ e told

module _ (at : Pos) (setup work : StmtTree) (old ready done : Now) (to_ready : ready ≡ after setup old) (to_done : done ≡ after work ready) where
  -- the test after the work
  abbrev end_of_with : Now → Now → List Demand
  end_of_with ready done = demand rule.WithNotUndone at (agree_on (names_of setup) ready.live done.live) ∷ []

  abbrev rules_of_with : Now → Now → List Demand
  rules_of_with ready done = rules_at old setup ++ (rules_at ready work ++ end_of_with ready done)

  with_rules : rules_of_with ready done ≡ rules_at old (WithStmt at setup work)
  with_rules = ap₂ rules_of_with to_ready (to_done ∙ ap (after work) to_ready)

  pub with_stopped_work : (e : Fault) → first_broken (rules_at old setup) ≡ None → IsReported (first_broken (rules_at ready work)) e → IsReported (first_broken (rules_at old (WithStmt at setup work))) e
  with_stopped_work e none told =
      subst (λ demands. IsReported (first_broken demands) e) with_rules
      (reported_rest (rules_at old setup) (rules_at ready work ++ end_of_with ready done) e none (reported_first (rules_at ready work) (end_of_with ready done) e told))

  pub with_stopped_end : (e : Fault) → first_broken (rules_at old setup) ≡ None → first_broken (rules_at ready work) ≡ None → IsReported (first_broken (end_of_with ready done)) e → IsReported (first_broken (rules_at old (WithStmt at setup work))) e
  with_stopped_end e none_setup none_work told =
      subst (λ demands. IsReported (first_broken demands) e) with_rules
      (reported_rest (rules_at old setup) (rules_at ready work ++ end_of_with ready done) e none_setup (reported_rest (rules_at ready work) (end_of_with ready done) e none_work told))

  pub with_kept : first_broken (rules_at old setup) ≡ None → first_broken (rules_at ready work) ≡ None → first_broken (end_of_with ready done) ≡ None → first_broken (rules_at old (WithStmt at setup work)) ≡ None
  with_kept none_setup none_work none_end =
      ap first_broken (sym with_rules)
      ∙ none_both (rules_at old setup) (rules_at ready work ++ end_of_with ready done) none_setup (none_both (rules_at ready work) (end_of_with ready done) none_work none_end)

  pub with_passed : (names : List Name) (end : Names) → texts_of names ≡ names_of setup → first_broken (rules_at old setup) ≡ None → first_broken (end_of_with ready done) ≡ None → end ≡ put_back (noted old.live names) done.live → record { held = done.held; live = end } ≡ after (WithStmt at setup work) old
  with_passed names end are_all none_setup none_end is_end =
      let holds = ((none_broken-each (end_of_with ready done)).1 none_end).0 in
      let ready_live : ready.live ≡ live_after true setup old.live = ap (λ now. now.live) to_ready in
      let done_is : done ≡ after work (after setup old) = to_done ∙ ap (after work) to_ready in
      let agree = subst (λ (live : Names). Agree (names_of setup) live done.live) ready_live ((agree_on-Decides (names_of setup) ready.live done.live).0 holds) in
      ap₂ (λ held live. record { held = held; live = live }) (ap (λ now. now.held) done_is)
      (is_end ∙ setup_put_back old setup names done.live none_setup are_all agree ∙ ap (λ now. live_after false setup now.live) done_is)
