-- The walk over statements: how the rules of the parts decide, and what is left of a list.
use Rattle.std.proofs.Common.{◌≡◌, ◌∙◌, ap, sym, subst, true, List, ◌++◌, None, Ok, Err}
use Rattle.std.specs.Prelude.{Result}
use Rattle.std.specs.Result.{IsErrAnd}
use Rattle.tw_text.specs.declared.refusal.Fault.{Fault}
use Rattle.tw_text.specs.declared.refusal.Fault.TheVariants as fault
use Rattle.tw_resolve.specs.Demands.{Demand, first_broken, IsReported, Tries}
use Rattle.tw_resolve.proofs.Demands.{first_broken-after_none, first_broken-before}
use Rattle.tw_syntax.specs.Statements.{StmtTree, Then}
use Rattle.tw_check.specs.Liveness.{live_after}
use Rattle.tw_check.specs.Names.{Names}
use Rattle.tw_check.specs.Rules.{stmt_rules}
use Rattle.tw_check.specs.Walks.{Now, after, Walks}

-- the rules of a statement at a place
abbrev pub rules_at : Now → StmtTree → List Demand
rules_at now s = stmt_rules now.held now.live s

-- the first of two lists of demands decides if it has a broken one
pub reported_first : (xs ys : List Demand) (e : Fault) → IsReported (first_broken xs) e → IsReported (first_broken (xs ++ ys)) e
reported_first xs ys (fault.Refused refusal) told = first_broken-before xs ys refusal told
reported_first xs ys fault.Memory told = tt

-- otherwise the second does
pub reported_rest : (xs ys : List Demand) (e : Fault) → first_broken xs ≡ None → IsReported (first_broken ys) e → IsReported (first_broken (xs ++ ys)) e
reported_rest xs ys e none told = subst (λ broken. IsReported broken e) (sym (first_broken-after_none xs ys none)) told

pub none_both : (xs ys : List Demand) → first_broken xs ≡ None → first_broken ys ≡ None → first_broken (xs ++ ys) ≡ None
none_both xs ys first second = first_broken-after_none xs ys first ∙ second

-- a call that stops with a fault
pub tries_stopped : {A : Type 0} (demands : List Demand) (r : Result A Fault) (e : Fault) → IsErrAnd r (λ z. z ≡ e) → IsReported (first_broken demands) e → Tries demands r
tries_stopped demands (Ok x) e is told = absurd is
tries_stopped demands (Err z) e is told =
    record { kept = tt; reported = subst (λ z. IsReported (first_broken demands) z) (sym is) told }

pub walk_stopped : {A : Type 0} (s : StmtTree) (old new : Now) (r : Result A Fault) (e : Fault) → IsErrAnd r (λ z. z ≡ e) → IsReported (first_broken (stmt_rules old.held old.live s)) e → Walks s old new r
walk_stopped s old new (Ok x) e is told = absurd is
walk_stopped s old new (Err z) e is told =
    record { tried = tries_stopped (stmt_rules old.held old.live s) (Err z) e is told; passed = tt }

-- a call that goes past a statement
pub walk_passed : {A : Type 0} (s : StmtTree) (old new : Now) (x : A) → first_broken (stmt_rules old.held old.live s) ≡ None → new ≡ after s old → Walks s old new (Ok x)
walk_passed s old new x none passed = record { tried = record { kept = none; reported = tt }; passed = passed }

-- a call that changes nothing, at a statement that changes no liveness
pub walk_stayed : {A : Type 0} (s : StmtTree) (now : Now) (r : Result A Fault) → Tries (stmt_rules now.held now.live s) r → ((live : Names) → live_after true s live ≡ live) → Walks s now now r
walk_stayed s now (Ok x) tried stays =
    walk_passed s now now x tried.kept (ap (λ live. record { held = now.held; live = live }) (sym (stays now.live)))
walk_stayed s now (Err e) tried stays = record { tried = tried; passed = tt }

-- of a list of statements that was begun at one place, these are left at another
pub record IsLeft (whole : StmtTree) (first : Now) (rest : StmtTree) (now : Now) : Type 0 where
  pub rules : first_broken (stmt_rules first.held first.live whole) ≡ first_broken (stmt_rules now.held now.live rest)
  pub passed : after whole first ≡ after rest now

-- a statement is passed
pub left_step : (whole s rest left : StmtTree) (first now next : Now) → left ≡ Then s rest → IsLeft whole first left now → first_broken (stmt_rules now.held now.live s) ≡ None → next ≡ after s now → IsLeft whole first rest next
left_step whole s rest left first now next step is none passed =
    let rules_of = λ (place : Now). first_broken (stmt_rules place.held place.live rest) in
    record {
      rules = is.rules ∙ ap (λ t. first_broken (stmt_rules now.held now.live t)) step ∙ first_broken-after_none (stmt_rules now.held now.live s) _ none ∙ sym (ap rules_of passed);
      passed = is.passed ∙ ap (λ t. after t now) step ∙ sym (ap (after rest) passed);
    }

-- a statement breaks a rule
pub left_stopped : (whole s rest left : StmtTree) (first now : Now) (e : Fault) → left ≡ Then s rest → IsLeft whole first left now → IsReported (first_broken (stmt_rules now.held now.live s)) e → IsReported (first_broken (stmt_rules first.held first.live whole)) e
left_stopped whole s rest left first now e step is told =
    subst (λ broken. IsReported broken e) (sym (is.rules ∙ ap (λ t. first_broken (stmt_rules now.held now.live t)) step))
    (reported_first (stmt_rules now.held now.live s) _ e told)
