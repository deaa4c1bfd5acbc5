-- The check of a function.
use Rattle.std.proofs.Common.{◌≡◌, ◌∙◌, ap, ap₂, subst, List, [], ◌∷◌, ◌++◌, None, Ok, Err}
use Rattle.std.specs.Prelude.{Result}
use Rattle.tw_text.specs.declared.refusal.Fault.{Fault}
use Rattle.tw_text.specs.declared.refusal.Rule.TheVariants as rule
use Rattle.tw_resolve.specs.Demands.{Demand, demand, first_broken, IsReported, Tries}
use Rattle.tw_syntax.specs.Programs.{FunTree}
use Rattle.tw_check.specs.Liveness.{names_of, param_names, live_at_start, live_at_end}
use Rattle.tw_check.specs.Names.{Names, no_names, agree_on}
use Rattle.tw_check.specs.Rules.{used, fun_rules}
use Rattle.tw_check.specs.Walks.{Now, after}
use Rattle.tw_check.proofs.Walking.{rules_at, reported_first, reported_rest, none_both}

-- after demands that hold, a call that tries the rest tries all
pub tries_rest : {A : Type 0} (xs ys : List Demand) (r : Result A Fault) → first_broken xs ≡ None → Tries ys r → Tries (xs ++ ys) r
tries_rest xs ys (Ok x) none tried = record { kept = none_both xs ys none tried.kept; reported = tt }
tries_rest xs ys (Err e) none tried = record { kept = tt; reported = reported_rest xs ys e none tried.reported }

-- where the body of a function begins
abbrev pub start_of : FunTree → Now
start_of fun = record { held = no_names; live = live_at_start fun }

-- the walk begins there
pub begins : (fun : FunTree) (live : Names) (start : Now) → start ≡ record { held = no_names; live = live } → live ≡ live_at_start fun → start ≡ start_of fun
begins fun live start is same = is ∙ ap (λ live. record { held = no_names; live = live }) same

module _ (fun : FunTree) (start end : Now) (to_start : start ≡ start_of fun) (to_end : end ≡ after fun.body start) where
  abbrev result_rules : Now → List Demand
  result_rules end = used end.live fun.returned ∷ []

  abbrev left_rules : Now → List Demand
  left_rules end = demand rule.Left fun.return_at (agree_on (fun.returned.text ∷ (param_names fun ++ names_of fun.body)) end.live (live_at_end fun)) ∷ []

  fun_rules_are : rules_at start fun.body ++ (result_rules end ++ left_rules end) ≡ fun_rules fun
  fun_rules_are = ap₂ (λ start end. rules_at start fun.body ++ (result_rules end ++ left_rules end)) to_start (to_end ∙ ap (after fun.body) to_start)

  pub fun_stopped_body : (e : Fault) → IsReported (first_broken (rules_at start fun.body)) e → IsReported (first_broken (fun_rules fun)) e
  fun_stopped_body e told =
      subst (λ demands. IsReported (first_broken demands) e) fun_rules_are (reported_first (rules_at start fun.body) (result_rules end ++ left_rules end) e told)

  pub fun_stopped_result : (e : Fault) → first_broken (rules_at start fun.body) ≡ None → IsReported (first_broken (result_rules end)) e → IsReported (first_broken (fun_rules fun)) e
  fun_stopped_result e none told =
      subst (λ demands. IsReported (first_broken demands) e) fun_rules_are
      (reported_rest (rules_at start fun.body) (result_rules end ++ left_rules end) e none (reported_first (result_rules end) (left_rules end) e told))

  pub fun_tries : {A : Type 0} (r : Result A Fault) → first_broken (rules_at start fun.body) ≡ None → first_broken (result_rules end) ≡ None → Tries (left_rules end) r → Tries (fun_rules fun) r
  fun_tries r none_body none_result tried =
      subst (λ demands. Tries demands r) fun_rules_are
      (tries_rest (rules_at start fun.body) (result_rules end ++ left_rules end) r none_body (tries_rest (result_rules end) (left_rules end) r none_result tried))
