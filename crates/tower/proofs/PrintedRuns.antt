-- The replies of a run were printed.
use Rattle.std.proofs.Common.{◌≡◌, ◌∙◌, ap, sym, subst, refl, ℕ, ◌⊎◌, inl, inr, Bool, true, false, if◌then◌else◌, List, Option, IfSome}
use Rattle.tw_io.specs.Devices.{Appends}
use Rattle.tw_text.specs.declared.diagnostic.Diagnostic.{Diagnostic}
use Rattle.tw_text.specs.declared.diagnostic.Diagnostic.TheVariants as diagnostic
use Rattle.tw_text.specs.declared.refusal.Rule.{Rule}
use Rattle.tw_text.specs.declared.refusal.Rule.TheVariants as rule
use Rattle.tw_syntax.specs.Programs.{ProgramTree}
use Rattle.tw_parse.specs.Sources.{IsSource}
use Rattle.tower.specs.declared.status.Status.{Status}
use Rattle.tower.specs.declared.status.Status.TheVariants as status
use Rattle.tower.specs.Requests.{FileRequest, Request, Run, Asks}
use Rattle.tower.specs.Outcomes.{Outcome, Prints, PrintsStuck, Refuses, rule_status, refusal_status, outcome_status, outcome_text}
use Rattle.tower.specs.Sources.{SourceAnswer, OnTree, NoProgram}
use Rattle.tower.specs.Marks.{parted}
use Rattle.tower.specs.Run as run
use Rattle.tower.specs.Entries.{EntryIn, setting_in, fun_in}
use Rattle.tower.specs.Run.{EntryAnswer, WrongStates, Replied, RunAnswer, OnEntry, Ran, is_one_stuck}
use Rattle.tower.specs.Answer.{InputAnswer, Answer, OnInput, TooLong, Usage, GaveWhole, Answered, IsCutShort}
use Rattle.tower.proofs.OneRequest.{one_request}
use Rattle.tower.proofs.WhenEnded.{if_told, told_answer}

module _ (bytes text : List ℕ) (before now : Option (List ℕ)) (took : Appends before now text) (request : FileRequest) (outcome : Outcome) (is_text : outcome_text outcome ≡ text) where
  replied-text : (stuck : Bool) (replies : List ℕ) → outcome ≡ (if stuck then PrintsStuck replies else Prints replies) → replies ≡ text
  replied-text true replies e = sym (ap outcome_text e) ∙ is_text
  replied-text false replies e = sym (ap outcome_text e) ∙ is_text

  runs_entry : (tree : ProgramTree) → IsSource (parted true bytes).0 tree → ((why : Diagnostic) → outcome ≡ Refuses why → ⊥) → (found : EntryIn request tree)
      → EntryAnswer (setting_in found) (fun_in found) request.bound request.inverse found.measured (parted true bytes).1 outcome → Ran request bytes before now
  runs_entry tree source no_refusal found (run.PastLimit refusal broken e) = absurd (no_refusal _ e)
  runs_entry tree source no_refusal found (WrongStates fault why none refused is e) = absurd (no_refusal _ e)
  runs_entry tree source no_refusal found (Replied states replies none are answer e) = record {
    tree = tree;
    source = source;
    found = found;
    states = states;
    are_states = are;
    replies = replies;
    are_replies = answer;
    printed = subst (Appends before now) (sym (replied-text (is_one_stuck replies) _ e)) took;
  }

  runs_tree : (tree : ProgramTree) → IsSource (parted true bytes).0 tree → ((why : Diagnostic) → outcome ≡ Refuses why → ⊥) → RunAnswer request (parted true bytes).1 tree outcome → Ran request bytes before now
  runs_tree tree source no_refusal (run.Broken refusal broken e) = absurd (no_refusal _ e)
  runs_tree tree source no_refusal (run.BadEntry refusal bad e) = absurd (no_refusal _ e)
  runs_tree tree source no_refusal (OnEntry found is) = runs_entry tree source no_refusal found is

  pub runs : ((why : Diagnostic) → outcome ≡ Refuses why → ⊥) → SourceAnswer (parted true bytes).0 (RunAnswer request (parted true bytes).1) outcome → Ran request bytes before now
  runs no_refusal (OnTree tree source is) = runs_tree tree source no_refusal is
  runs no_refusal (NoProgram refusal refused e) = absurd (no_refusal _ e)

no_stuck_text : (text : List ℕ) (why : Diagnostic) → PrintsStuck text ≡ Refuses why → ⊥
no_stuck_text text why e = cc

rule_not_stuck : (r : Rule) → rule_status r ≡ status.Stuck → ⊥
rule_not_stuck rule.Utf8 e = cc
rule_not_stuck other e = cc

refusal_not_stuck : (why : Diagnostic) → refusal_status why ≡ status.Stuck → ⊥
refusal_not_stuck (diagnostic.Refused refusal) e = rule_not_stuck refusal.rule e
refusal_not_stuck other e = cc

-- the text that answers a request, if a statement is stuck
stuck_answer : (words : List (List ℕ)) (bytes text : List ℕ) (request : Request) → Asks words request → Answer words bytes (PrintsStuck text) → InputAnswer request bytes (PrintsStuck text)
stuck_answer words bytes text request asks (OnInput other also few is) = subst (λ (r : Request). InputAnswer r bytes (PrintsStuck text)) (one_request words other request also asks) is
stuck_answer words bytes text request asks (TooLong other also many e) = absurd (no_stuck_text text _ e)
stuck_answer words bytes text request asks (Usage none e) = absurd (none request asks)

-- a run that ended with Stuck printed the replies too
pub stuck_run : (request : FileRequest) (left before now : Option (List ℕ)) (words : List (List ℕ)) (ended : Status) → Answered left before now words ended → Asks words (Run request) → ended ≡ status.Stuck
    → IfSome left (λ bytes. Ran request bytes before now)
stuck_run request left before now words ended answered asks stuck = if_told left by_gave (told_answer left before now words ended answered)
  where
    by_outcome : (bytes : List ℕ) (outcome : Outcome) → Answer words bytes outcome → outcome_status outcome ≡ status.Stuck → Appends before now (outcome_text outcome) → Ran request bytes before now
    by_outcome bytes (Prints text) answer same took = cc
    by_outcome bytes (PrintsStuck text) answer same took = runs bytes text before now took request (PrintsStuck text) refl (no_stuck_text text) (stuck_answer words bytes text (Run request) asks answer)
    by_outcome bytes (Refuses why) answer same took = absurd (refusal_not_stuck why same)

    by_cut : (bytes : List ℕ) → IsCutShort ended → Ran request bytes before now
    by_cut bytes (inl memory) = let e = sym stuck ∙ memory in cc
    by_cut bytes (inr (inl read)) = let e = sym stuck ∙ read in cc
    by_cut bytes (inr (inr write)) = let e = sym stuck ∙ write in cc

    by_gave : (bytes : List ℕ) → IsCutShort ended ⊎ GaveWhole words bytes before now ended → Ran request bytes before now
    by_gave bytes (inl cut) = by_cut bytes cut
    by_gave bytes (inr gave) = by_outcome bytes gave.outcome gave.answer (gave.status ∙ stuck) gave.took
