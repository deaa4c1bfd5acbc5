-- What `run` did, by the calls that it made.
use Rattle.std.proofs.Common.{◌≡◌, ◌∙◌, ap, sym, subst, subst₂, refl, arith, ℕ, ◌+◌, ◌≤◌, ◌==◌, ◌⊎◌, inl, inr, Bool, true, false, ◌||◌, if◌then◌else◌, List, [], ◌∷◌, ◌++◌, length, length-append, map, codes, Option, Some, None, option_and_then, Result, Ok, Err, slice_get}
use Rattle.std.specs.List.{AllByRecursion, list_any}
use Rattle.std.specs.Result.{IsErrAnd}
use Rattle.tw_io.specs.Devices.{Wrote}
use Rattle.tw_io.specs.declared.device.WriteFault.{WriteFault}
use Rattle.tw_text.specs.Prefix.{after}
use Rattle.tw_text.proofs.Prefixes.{append-after}
use Rattle.tw_text.specs.declared.refusal.Refusal.{Refusal}
use Rattle.tw_text.specs.declared.refusal.Fault.{Fault}
use Rattle.tw_text.specs.declared.refusal.Fault.TheVariants as source_fault
use Rattle.tw_text.specs.declared.diagnostic.Diagnostic.TheVariants as diagnostic
use Rattle.tw_syntax.specs.Programs.{FunTree, program_tree}
use Rattle.tw_types.specs.Types.{Widths}
use Rattle.tw_resolve.specs.Declarations.{funs_of}
use Rattle.tw_resolve.specs.Demands.{first_broken}
use Rattle.tw_resolve.specs.Entries.{types_in}
use Rattle.tw_resolve.specs.Programs.{setting_of}
use Rattle.tw_resolve.specs.Resolved.{resolved_setting}
use Rattle.tw_resolve.specs.Setting.{Setting}
use Rattle.tw_check.specs.declared.checked.Checked.{Checked}
use Rattle.tw_check.specs.declared.entry.Entry.{Entry}
use Rattle.tw_check.specs.EntryPoints.{IsEntryOf}
use Rattle.tw_state.specs.declared.state_fault.StateFault.{StateFault}
use Rattle.tw_state.specs.declared.state_fault.StateFault.TheVariants as state_fault
use Rattle.tw_state.specs.FromCode.{ListedState}
use Rattle.tw_state.specs.StateLines.{IsState, AreStatesOf}
use Rattle.tw_state.specs.StateRefusals.{IsRefusedText, AreStatesIn, IsRefusedIn}
use Rattle.tw_state.proofs.Basics.{same_some}
use Rattle.tw_frames.specs.declared.measured.Measured.{Measured}
use Rattle.tw_frames.specs.Measures.{IsMeasured, limit_rules}
use Rattle.tw_interp.specs.Runs.{IsGivenTo, first_side, last_side}
use Rattle.tower.specs.declared.status.Status.{Status}
use Rattle.tower.specs.declared.status.Status.TheVariants as status
use Rattle.tower.specs.declared.ending.Unanswered.{Unanswered}
use Rattle.tower.specs.declared.ending.Unanswered.TheVariants as unanswered
use Rattle.tower.specs.declared.replies.Reply.{Reply as ReplyOfCode}
use Rattle.tower.specs.Requests.{FileRequest}
use Rattle.tower.specs.Accepted.{IsReady}
use Rattle.tower.specs.Outcomes.{Outcome, Prints, PrintsStuck, Refuses, outcome_status, outcome_text}
use Rattle.tower.specs.Ending.{of_source, of_states, Did, Printed}
use Rattle.tower.specs.Marks.{after_end, after_mark, parted_at, parted}
use Rattle.tower.specs.Run.{Reply, is_stuck, is_one_stuck, replies_text, replied, EntryAnswer, WrongStates, Replied, RunAnswer, OnEntry}
use Rattle.tower.specs.Replies.{AreRepliesOf, WroteReplies, reply_seen}
use Rattle.tower.proofs.Doing.{as_error}
use Rattle.tower.proofs.Entries.{found_entry}

-- the parts of an input

after_end-shorter : (bytes rest : List ℕ) → after_end bytes ≡ Some rest → length rest ≤ length bytes
after_end-shorter [] rest is = let same : rest ≡ [] = same_some is refl in omega (arith, ap length same)
after_end-shorter (byte ∷ bytes) rest is = by (byte == 10) is
  where
    by : (test : Bool) → (if test then Some bytes else None) ≡ Some rest → length rest ≤ length (byte ∷ bytes)
    by true found = let same : rest ≡ bytes = same_some found refl in omega (arith, ap length same)
    by false found = cc

after_mark-shorter : (bytes rest : List ℕ) → after_mark bytes ≡ Some rest → length rest ≤ length bytes
after_mark-shorter bytes rest is = by (after (codes "%%") bytes) refl is
  where
    by : (found : Option (List ℕ)) → after (codes "%%") bytes ≡ found → option_and_then after_end found ≡ Some rest → length rest ≤ length bytes
    by None e h = cc
    by (Some marked) e h =
        let first = append-after (codes "%%") bytes marked e in
        let second = after_end-shorter marked rest h in
        omega (arith, second, ap length first, length-append (codes "%%") marked)

-- two parts that are no longer than the whole
abbrev IsShorter : List ℕ × List ℕ → List ℕ → Type 0
IsShorter parts whole = (length parts.0 ≤ length whole) × (length parts.1 ≤ length whole)

-- neither part is longer than the input
pub parted-shorter : (begins : Bool) (bytes : List ℕ) → (length (parted begins bytes).0 ≤ length bytes) × (length (parted begins bytes).1 ≤ length bytes)
parted-shorter begins [] = (omega arith, omega arith)
parted-shorter begins (byte ∷ bytes) = by_begins begins (parted-shorter (byte == 10) bytes)
  where
    by_mark : (found : Option (List ℕ)) → ((text : List ℕ) → found ≡ Some text → length text ≤ length (byte ∷ bytes)) → IsShorter (parted (byte == 10) bytes) bytes
        → IsShorter (parted_at found byte (parted (byte == 10) bytes)) (byte ∷ bytes)
    by_mark None shorter rest = (omega (arith, rest.0), omega (arith, rest.1))
    by_mark (Some text) shorter rest = (omega arith, shorter text refl)

    by_begins : (test : Bool) → IsShorter (parted (byte == 10) bytes) bytes → IsShorter (parted test (byte ∷ bytes)) (byte ∷ bytes)
    by_begins true rest = by_mark (after_mark (byte ∷ bytes)) (after_mark-shorter (byte ∷ bytes)) rest
    by_begins false rest = by_mark None (λ text is. cc) rest

-- the states of a text are given to the function
pub are_given : (setting : Setting) (number : ℕ) (back : Bool) (lines : List ℕ) (states : List ListedState) → AreStatesIn setting number (first_side back) lines states → AllByRecursion (IsGivenTo setting number back) states
are_given setting number back lines states are = each states are.2.each
  where
    each : (some : List ListedState) → AllByRecursion (IsState setting (first_side back) are.0) some → AllByRecursion (IsGivenTo setting number back) some
    each [] all = tt
    each (state ∷ more) all = ((are.0, are.1, all.0), each more all.1)

-- replies in the code
any_seen : (replies : List ReplyOfCode) → list_any (λ reply. is_stuck (reply_seen reply)) replies ≡ is_one_stuck (map reply_seen replies)
any_seen [] = refl
any_seen (reply ∷ replies) = ap (λ rest. is_stuck (reply_seen reply) || rest) (any_seen replies)

text_of : (stuck : Bool) (text : List ℕ) → outcome_text (if stuck then PrintsStuck text else Prints text) ≡ text
text_of true text = refl
text_of false text = refl

module _ {K : Type 0} (taken : K → Option (List ℕ)) (faults : K → ℕ) (setting : Setting) (number : ℕ) (fun : FunTree) (there : slice_get setting.funs number ≡ Some fun)
    (bound : Option ℕ) (back : Bool) (measured : Measured) (lines : List ℕ) (none : first_broken (limit_rules measured) ≡ None) where
  abbrev Answers : Outcome → Type 0
  Answers = EntryAnswer setting fun bound back measured lines

  -- a text of states that is refused
  pub did_states : (at : K) (fault : StateFault) (result : Result (Unit {0}) Unanswered) → IsErrAnd result (λ e. e ≡ of_states fault) → (fault ≡ state_fault.Memory) ⊎ IsRefusedIn setting number (first_side back) lines fault
      → Did taken faults at at result Answers
  did_states at fault result is refused = by fault is refused
    where
      refused_text : (f : StateFault) → IsRefusedIn setting number (first_side back) lines f → IsRefusedText setting (first_side back) fun lines f
      refused_text f r = subst (λ g. IsRefusedText setting (first_side back) g lines f) (same_some r.1 there) r.2

      by : (f : StateFault) → IsErrAnd result (λ e. e ≡ of_states f) → (f ≡ state_fault.Memory) ⊎ IsRefusedIn setting number (first_side back) lines f → Did taken faults at at result Answers
      by (state_fault.BadState line why) e (inr r) = as_error taken faults at at result _ Answers e (WrongStates (state_fault.BadState line why) _ none (refused_text _ r) refl refl, refl)
      by state_fault.TooMany e (inr r) = as_error taken faults at at result _ Answers e (WrongStates state_fault.TooMany _ none (refused_text _ r) refl refl, refl)
      by state_fault.Memory e r = as_error taken faults at at result _ Answers e refl
      by (state_fault.BadState line why) e (inl memory) = cc
      by state_fault.TooMany e (inl memory) = cc

  module _ (states : List ListedState) (replies items : List ReplyOfCode) (same : items ≡ replies) (are : AreStatesIn setting number (first_side back) lines states)
      (right : AreRepliesOf setting number bound back states (map reply_seen replies)) (old new : K) where
    abbrev text : List ℕ
    text = replies_text setting (last_side back) fun (map reply_seen replies)

    abbrev outcome : Outcome
    outcome = replied setting (last_side back) fun (map reply_seen replies)

    answer : Answers outcome
    answer = Replied states (map reply_seen replies) none (subst (λ g. AreStatesOf setting (first_side back) g lines states) (same_some are.1 there) are.2) (right fun there) refl

    wrote_text : (result : Result (Unit {0}) WriteFault) → WroteReplies taken faults old new result setting number back (map reply_seen items) → Wrote taken faults old new result (outcome_text outcome)
    wrote_text result wrote =
        subst (λ t. Wrote taken faults old new result t) (sym (text_of (is_one_stuck (map reply_seen replies)) text))
        (subst (λ rs. Wrote taken faults old new result (replies_text setting (last_side back) fun (map reply_seen rs))) same (wrote fun there))

    pub did_reply : (ended : Status) (test : Bool) → test ≡ list_any (λ reply. is_stuck (reply_seen reply)) items → (if test then status.Stuck else status.Ok) ≡ ended
        → WroteReplies taken faults old new (Ok tt) setting number back (map reply_seen items) → Printed taken faults old new ended Answers
    did_reply ended test tested is wrote =
        let whole = wrote_text (Ok tt) wrote in
        record {
          outcome = outcome;
          answer = answer;
          status = status_of (is_one_stuck (map reply_seen replies)) ∙ ap (λ b. if b then status.Stuck else status.Ok) (sym (any_seen replies) ∙ ap (list_any (λ reply. is_stuck (reply_seen reply))) (sym same) ∙ sym tested) ∙ is;
          took = whole.whole;
          steady = whole.steady;
        }
      where
        status_of : (stuck : Bool) → outcome_status (if stuck then PrintsStuck text else Prints text) ≡ (if stuck then status.Stuck else status.Ok)
        status_of true = refl
        status_of false = refl

    pub did_fail : (fault : WriteFault) (result : Result (Unit {0}) Unanswered) → IsErrAnd result (λ e. e ≡ unanswered.WriteFault) → WroteReplies taken faults old new (Err fault) setting number back (map reply_seen items)
        → Did taken faults old new result Answers
    did_fail fault result is wrote =
        let broken = wrote_text (Err fault) wrote in
        as_error taken faults old new result unanswered.WriteFault Answers is (record { outcome = outcome; answer = answer; took = broken.broken; cause = broken.cause })

-- an answer of an entry that was found and measured
module _ (checked : Checked) (request : FileRequest) (same : checked.resolved.tables.types.widths ≡ request.widths) (ready : IsReady request (program_tree checked.resolved.program.now)) (entry : Entry)
    (is_entry : IsEntryOf (funs_of (program_tree checked.resolved.program.now).decls) request.entry request.bound entry) (measured : Measured) (measures : IsMeasured (resolved_setting checked.resolved) entry measured) where
  pub by_entry : (lines : List ℕ) (outcome : Outcome) → EntryAnswer (resolved_setting checked.resolved) is_entry.is_entry.fun entry.bound request.inverse measured lines outcome → RunAnswer request lines (program_tree checked.resolved.program.now) outcome
  by_entry lines outcome is = OnEntry (found_entry checked request same ready entry is_entry measured measures) (subst₂ (λ (w : Widths) (b : Option ℕ). EntryAnswer (setting_of w (program_tree checked.resolved.program.now) (types_in checked.resolved.tables.types.table.entries)) is_entry.is_entry.fun b request.inverse measured lines outcome) same is_entry.given is)

-- a limit that the measure of an entry passes
pub did_measure : {K : Type 0} (taken : K → Option (List ℕ)) (faults : K → ℕ) (at : K) (fault : Fault) (result : Result (Unit {0}) Unanswered) (IsAnswer : Outcome → Type 0) → IsErrAnd result (λ e. e ≡ of_source fault)
    → ((refusal : Refusal) → fault ≡ source_fault.Refused refusal → IsAnswer (Refuses (diagnostic.Refused refusal))) → Did taken faults at at result IsAnswer
did_measure taken faults at (source_fault.Refused refusal) result IsAnswer is refused = as_error taken faults at at result _ IsAnswer is (refused refusal refl, refl)
did_measure taken faults at source_fault.Memory result IsAnswer is refused = as_error taken faults at at result _ IsAnswer is refl
