-- What a command did if its program is refused.
use Rattle.std.proofs.Common.{◌≡◌, ◌∙◌, ap, sym, subst, ℕ, List, Option, None, Result, Ok, Err, IfOk, IfErr, refl}
use Rattle.std.specs.Result.{IsErrAnd}
use Rattle.tw_text.specs.declared.refusal.Refusal.{Refusal}
use Rattle.tw_text.specs.declared.refusal.Fault.{Fault}
use Rattle.tw_text.specs.declared.refusal.Fault.TheVariants as source_fault
use Rattle.tw_text.specs.declared.diagnostic.Diagnostic.{Diagnostic}
use Rattle.tw_text.specs.declared.diagnostic.Diagnostic.TheVariants as diagnostic
use Rattle.tw_syntax.specs.Programs.{ProgramTree, program_tree}
use Rattle.tw_parse.specs.Sources as sources
use Rattle.tw_parse.specs.Sources.{IsSource}
use Rattle.tw_types.specs.Types.{Widths}
use Rattle.tw_resolve.specs.declared.resolved.Resolved.{Resolved}
use Rattle.tw_resolve.specs.Demands.{first_broken, IsReported, Tries}
use Rattle.tw_resolve.specs.Programs.{IsWellTyped, IsRefusedWith}
use Rattle.tw_check.specs.declared.checked.Checked.{Checked}
use Rattle.tw_check.specs.Rules.{decls_rules}
use Rattle.tw_check.proofs.RightDecls.{right_exactly_if_none_broken}
use Rattle.tower.specs.declared.ending.Unanswered.{Unanswered}
use Rattle.tower.specs.Accepted.{IsAccepted, BreaksFirst, IllTyped, NotRight, IsFoundBroken, NoSource, OnTree, OutOfMemory}
use Rattle.tower.specs.CircuitEntries as circuits
use Rattle.tower.specs.CircuitEntries.{HasNoCircuit, IsRefusedEntry, Broken}
use Rattle.tower.specs.Requests.{FileRequest}
use Rattle.tower.specs.Outcomes.{Outcome, Refuses}
use Rattle.tower.specs.Sources as answers
use Rattle.tower.specs.Sources.{SourceAnswer}
use Rattle.tower.specs.Ending.{of_source, Did}
use Rattle.tower.proofs.Doing.{as_error}

-- a well-typed program that breaks no rule of reversibility is accepted
pub is_accepted : (widths : Widths) (tree : ProgramTree) → ∥ IsWellTyped widths tree ∥₁ → first_broken (decls_rules tree.decls) ≡ None → IsAccepted widths tree
is_accepted widths tree typed none = record { typed = typed; right = (right_exactly_if_none_broken tree.decls).1 none }

-- a well-typed program is accepted by a check that finds no rule broken
pub accepted_if_kept : (widths : Widths) (resolved : Resolved) (result : Result Checked Fault) → ∥ IsWellTyped widths (program_tree resolved.program.now) ∥₁ → Tries (decls_rules (program_tree resolved.program.now).decls) result
    → IfOk result (λ checked. checked.resolved ≡ resolved) → IfOk result (λ checked. IsAccepted widths (program_tree checked.resolved.program.now))
accepted_if_kept widths resolved (Ok checked) typed tries same =
    subst (λ (r : Resolved). IsAccepted widths (program_tree r.program.now)) (sym same) (is_accepted widths (program_tree resolved.program.now) typed tries.kept)
accepted_if_kept widths resolved (Err why) typed tries same = tt

-- a check keeps the widths
pub widths_if_kept : (widths : Widths) (resolved : Resolved) (result : Result Checked Fault) → resolved.tables.types.widths ≡ widths
    → IfOk result (λ checked. checked.resolved ≡ resolved) → IfOk result (λ checked. checked.resolved.tables.types.widths ≡ widths)
widths_if_kept widths resolved (Ok checked) is same = ap (λ (r : Resolved). r.tables.types.widths) same ∙ is
widths_if_kept widths resolved (Err why) is same = tt

-- the first rule that is broken, by the call that found it
module _ (widths : Widths) (bytes : List ℕ) where
  pub no_source : (why : Fault) → ((refusal : Refusal) → why ≡ source_fault.Refused refusal → sources.IsRefused bytes refusal) → IsFoundBroken widths bytes why
  no_source (source_fault.Refused refusal) refused = NoSource refusal (refused refusal refl)
  no_source source_fault.Memory refused = OutOfMemory

  module _ (tree : ProgramTree) (source : IsSource bytes tree) where
    pub ill_typed : (why : Fault) → IsRefusedWith widths tree why → IsFoundBroken widths bytes why
    ill_typed (source_fault.Refused refusal) refused = OnTree tree refusal source (IllTyped refused)
    ill_typed source_fault.Memory refused = OutOfMemory

    not_right : (why : Fault) → ∥ IsWellTyped widths tree ∥₁ → IsReported (first_broken (decls_rules tree.decls)) why → IsFoundBroken widths bytes why
    not_right (source_fault.Refused refusal) typed reported = OnTree tree refusal source (NotRight typed reported)
    not_right source_fault.Memory typed reported = OutOfMemory

    pub broken_if_not : {A : Type 0} (result : Result A Fault) → ∥ IsWellTyped widths tree ∥₁ → Tries (decls_rules tree.decls) result → IfErr result (IsFoundBroken widths bytes)
    broken_if_not (Ok found) typed tries = tt
    broken_if_not (Err why) typed tries = not_right why typed tries.reported

  -- a call that passes a fault on
  pub found_as : {A : Type 0} (why : Fault) (result : Result A Fault) → IsErrAnd result (λ other. other ≡ why) → IsFoundBroken widths bytes why → IfErr result (IsFoundBroken widths bytes)
  found_as why (Ok found) is broken = tt
  found_as why (Err other) is broken = subst (IsFoundBroken widths bytes) (sym is) broken

  module _ {K : Type 0} (taken : K → Option (List ℕ)) (faults : K → ℕ) (OnProgram : ProgramTree → Outcome → Type 0)
      (broken : (tree : ProgramTree) (refusal : Refusal) → BreaksFirst widths tree refusal → OnProgram tree (Refuses (diagnostic.Refused refusal))) where
    -- a source or a program that is refused
    pub did_accept : (at : K) (why : Fault) (result : Result (Unit {0}) Unanswered) → IsErrAnd result (λ e. e ≡ of_source why) → IsFoundBroken widths bytes why → Did taken faults at at result (SourceAnswer bytes OnProgram)
    did_accept at (source_fault.Refused refusal) result is (NoSource same refused) =
        as_error taken faults at at result _ (SourceAnswer bytes OnProgram) is (answers.NoProgram refusal refused refl, refl)
    did_accept at (source_fault.Refused refusal) result is (OnTree tree same source breaks) =
        as_error taken faults at at result _ (SourceAnswer bytes OnProgram) is (answers.OnTree tree source (broken tree refusal breaks), refl)
    did_accept at source_fault.Memory result is found = as_error taken faults at at result _ (SourceAnswer bytes OnProgram) is refl

-- why there is no circuit, by the call that found it
pub no_program : (request : FileRequest) (bytes : List ℕ) (why : Fault) → IsFoundBroken request.widths bytes why → HasNoCircuit request bytes (of_source why)
no_program request bytes (source_fault.Refused refusal) (NoSource same refused) = circuits.NoSource refusal refused
no_program request bytes (source_fault.Refused refusal) (OnTree tree same source breaks) = circuits.OnTree tree (diagnostic.Refused refusal) source (Broken refusal breaks refl)
no_program request bytes source_fault.Memory found = circuits.OutOfMemory

-- a call that passes an error on
pub no_circuit_as : {A : Type 0} (request : FileRequest) (bytes : List ℕ) (error : Unanswered) (result : Result A Unanswered) → IsErrAnd result (λ e. e ≡ error) → HasNoCircuit request bytes error → IfErr result (HasNoCircuit request bytes)
no_circuit_as request bytes error (Ok found) is none = tt
no_circuit_as request bytes error (Err other) is none = subst (HasNoCircuit request bytes) (sym is) none

-- a source without a circuit is refused
pub did_refuse : {K : Type 0} (taken : K → Option (List ℕ)) (faults : K → ℕ) (request : FileRequest) (bytes : List ℕ) (OnProgram : ProgramTree → Outcome → Type 0)
    → ((tree : ProgramTree) (why : Diagnostic) → IsRefusedEntry request tree why → OnProgram tree (Refuses why))
    → (at : K) (error : Unanswered) (result : Result (Unit {0}) Unanswered) → IsErrAnd result (λ e. e ≡ error) → HasNoCircuit request bytes error → Did taken faults at at result (SourceAnswer bytes OnProgram)
did_refuse taken faults request bytes OnProgram refuses at error result is none = as_error taken faults at at result error (SourceAnswer bytes OnProgram) is (by none)
  where
    by : {e : Unanswered} → HasNoCircuit request bytes e → Did taken faults at at (Err e) (SourceAnswer bytes OnProgram)
    by (circuits.NoSource refusal refused) = (answers.NoProgram refusal refused refl, refl)
    by (circuits.OnTree tree why source is) = (answers.OnTree tree source (refuses tree why is), refl)
    by circuits.OutOfMemory = refl
