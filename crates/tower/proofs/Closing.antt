-- The end of a call after its command.
use Rattle.std.proofs.Common.{◌≡◌, ◌≢◌, ◌∙◌, ap, sym, subst, ℕ, ◌≤◌, inl, inr, Bool, true, false, List, [], ◌++◌, length, Option, Some, None, IfSome, Result, Ok, Err, arith, append-nil, length-append, refl}
use Rattle.tw_io.specs.Devices.{Rose, Takes, TakesBetween, TakesExactly, IsAtEnd, Appends, AppendsPrefix}
use Rattle.tw_io.proofs.Devices.{appends_nothing}
use Rattle.tw_text.specs.declared.refusal.Rule.{Rule}
use Rattle.tw_text.specs.declared.refusal.Rule.TheVariants as rule
use Rattle.tw_text.specs.declared.diagnostic.Diagnostic.{Diagnostic}
use Rattle.tw_text.specs.declared.diagnostic.Diagnostic.TheVariants as diagnostic
use Rattle.tower.specs.declared.status.Status.{Status}
use Rattle.tower.specs.declared.status.Status.TheVariants as status
use Rattle.tower.specs.declared.ending.Unanswered.{Unanswered}
use Rattle.tower.specs.declared.ending.Unanswered.TheVariants as unanswered
use Rattle.tower.specs.Outcomes.{Outcome, Prints, PrintsStuck, Refuses, rule_status, refusal_status, outcome_status, outcome_text}
use Rattle.tower.specs.Answer.{Answer, Gave, GaveWhole}
use Rattle.tower.specs.Ending.{Did, Refused, Finished, IsKept}

-- whether the status is that of an answer: memory did not run out, and no device failed
abbrev pub is_answer : Status → Bool
is_answer status.Memory = false
is_answer status.ReadFault = false
is_answer status.WriteFault = false
is_answer other = true

rule-is_answer : (r : Rule) → is_answer (rule_status r) ≡ true
rule-is_answer rule.Utf8 = refl
rule-is_answer other = refl

refusal-is_answer : (why : Diagnostic) → is_answer (refusal_status why) ≡ true
refusal-is_answer (diagnostic.Refused refusal) = rule-is_answer refusal.rule
refusal-is_answer other = refl

outcome-is_answer : (outcome : Outcome) → is_answer (outcome_status outcome) ≡ true
outcome-is_answer (Prints text) = refl
outcome-is_answer (PrintsStuck text) = refl
outcome-is_answer (Refuses why) = refusal-is_answer why

module _ {K : Type 0} (taken : K → Option (List ℕ)) (faults : K → ℕ) where
  -- the three ways to end for a call that has read its input
  pub data Closes (old new : K) (ended : Status) (IsAnswer : Outcome → Type 0) : Type 0 where
    Whole : (outcome : Outcome) → IsAnswer outcome → ended ≡ outcome_status outcome → Appends (taken old) (taken new) (outcome_text outcome) → faults new ≡ faults old → Closes old new ended IsAnswer
    Broken : (outcome : Outcome) → IsAnswer outcome → ended ≡ status.WriteFault → AppendsPrefix (taken old) (taken new) (outcome_text outcome) → Rose (faults old) (faults new) → Closes old new ended IsAnswer
    Unwritten : ended ≡ status.Memory → new ≡ old → Closes old new ended IsAnswer

  pub closes_refused : (old new : K) (ended : Status) (IsAnswer : Outcome → Type 0) (why : Diagnostic) → IsAnswer (Refuses why) → Refused taken faults old new why ended → Closes old new ended IsAnswer
  closes_refused old new ended IsAnswer why answer (inl whole) = Whole (Refuses why) answer whole.status whole.took whole.steady
  closes_refused old new ended IsAnswer why answer (inr broken) = Broken (Refuses why) answer broken.status broken.took broken.cause

  -- what the command did, then how the call finished
  pub closes : (old between new : K) (did : Result (Unit {0}) Unanswered) (ended : Status) (IsAnswer : Outcome → Type 0) → Did taken faults old between did IsAnswer → Finished taken faults between new did ended → Closes old new ended IsAnswer
  closes old between new (Ok done) ended IsAnswer printed finished =
      Whole printed.outcome printed.answer (finished.0 ∙ sym printed.status) (rw (finished.1) printed.took) (ap faults finished.1 ∙ printed.steady)
  closes old between new (Err unanswered.Stuck) ended IsAnswer printed finished =
      Whole printed.outcome printed.answer (finished.0 ∙ sym printed.status) (rw (finished.1) printed.took) (ap faults finished.1 ∙ printed.steady)
  closes old between new (Err (unanswered.Refused why)) ended IsAnswer refused finished =
      closes_refused old new ended IsAnswer why refused.0 (subst (λ (k : K). Refused taken faults k new why ended) refused.1 finished)
  closes old between new (Err unanswered.Memory) ended IsAnswer unwritten finished = Unwritten finished.0 (finished.1 ∙ unwritten)
  closes old between new (Err unanswered.WriteFault) ended IsAnswer broke finished =
      Broken broke.outcome broke.answer finished.0 (rw (finished.1) broke.took) (rw (finished.1) broke.cause)

  whole_gave : (words : List (List ℕ)) (bytes : List ℕ) (before now : Option (List ℕ)) (ended : Status) → is_answer ended ≡ true → GaveWhole words bytes before now ended → Gave words bytes before now ended
  whole_gave words bytes before now status.Memory is gave = cc
  whole_gave words bytes before now status.ReadFault is gave = cc
  whole_gave words bytes before now status.WriteFault is gave = cc
  whole_gave words bytes before now other is gave = gave

  pub closes_gave : (old new : K) (words : List (List ℕ)) (bytes : List ℕ) (ended : Status) → Closes old new ended (Answer words bytes) → Gave words bytes (taken old) (taken new) ended
  closes_gave old new words bytes ended (Whole outcome answer e took steady) =
      whole_gave words bytes (taken old) (taken new) ended (ap is_answer e ∙ outcome-is_answer outcome) (record { outcome = outcome; answer = answer; status = sym e; took = took })
  closes_gave old new words bytes ended (Broken outcome answer e took cause) =
      subst (Gave words bytes (taken old) (taken new)) (sym e) (record { outcome = outcome; answer = answer; took = took })
  closes_gave old new words bytes ended (Unwritten e same) = subst (Gave words bytes (taken old) (taken new)) (sym e) (rw same (appends_nothing (taken old)))

  not_answer : (ended other : Status) → is_answer ended ≡ true → is_answer other ≡ false → ended ≡ other → ⊥
  not_answer ended other is isnt e = let same = sym is ∙ (ap is_answer e ∙ isnt) in cc

  -- the sink's error counter rose if the call ended with a fault of the sink, and is unchanged otherwise
  pub closes_sink : (old new : K) (ended : Status) (IsAnswer : Outcome → Type 0) → Closes old new ended IsAnswer → IsKept status.WriteFault (faults old) (faults new) ended
  closes_sink old new ended IsAnswer (Whole outcome answer e took steady) =
      record { rose = λ write. absurd (not_answer _ status.WriteFault (outcome-is_answer outcome) refl (sym e ∙ write)); kept = λ other. steady }
  closes_sink old new ended IsAnswer (Broken outcome answer e took cause) = record { rose = λ write. cause; kept = λ other. absurd (other e) }
  closes_sink old new ended IsAnswer (Unwritten e same) = record { rose = λ write. let f = sym e ∙ write in cc; kept = λ other. ap faults same }

  -- a call that has read its input does not end with a fault of the source
  pub closes_source : (old new : K) (ended : Status) (IsAnswer : Outcome → Type 0) → Closes old new ended IsAnswer → ended ≢ status.ReadFault
  closes_source old new ended IsAnswer (Whole outcome answer e took steady) read = not_answer _ status.ReadFault (outcome-is_answer outcome) refl (sym e ∙ read)
  closes_source old new ended IsAnswer (Broken outcome answer e took cause) read = let f = sym e ∙ read in cc
  closes_source old new ended IsAnswer (Unwritten e same) read = let f = sym e ∙ read in cc

-- the error counter of a device that did not fail
pub kept_counter : (fault ended : Status) (before now : ℕ) → ended ≢ fault → now ≡ before → IsKept fault before now ended
kept_counter fault ended before now other same = record { rose = λ is. absurd (other is); kept = λ is. same }

-- the bytes of the source

-- some bytes: those of the source, if it reports them
pub record Input (left : Option (List ℕ)) : Type 0 where
  pub bytes : List ℕ
  pub told : IfSome left (λ all. all ≡ bytes)

pub some_input : (left : Option (List ℕ)) → Input left
some_input None = record { bytes = []; told = tt }
some_input (Some all) = record { bytes = all; told = refl }

-- the bytes of a source that was read to its end
pub whole_input : (left now : Option (List ℕ)) (bytes : List ℕ) → Takes left now bytes → IsAtEnd now → IfSome left (λ all. all ≡ bytes)
whole_input None None bytes took end = tt
whole_input (Some all) (Some rest) bytes took end = took ∙ ap (λ r. bytes ++ r) end ∙ append-nil bytes
whole_input None (Some rest) bytes took end = tt
whole_input (Some all) None bytes took end = absurd took

-- a source that gave this number of bytes has at least as many
pub long_input : (count : ℕ) (left now : Option (List ℕ)) → TakesExactly left now count → (input : Input left) × (count ≤ length input.bytes)
long_input count left now took = by_source left now took.taken
  where
    by_source : (left now : Option (List ℕ)) → Takes left now took.bytes → (input : Input left) × (count ≤ length input.bytes)
    by_source None now taken = (record { bytes = took.bytes; told = tt }, omega (arith, took.counted))
    by_source (Some all) (Some rest) taken = (record { bytes = all; told = refl }, omega (arith, took.counted, length-append took.bytes rest, ap length taken))
    by_source (Some all) None taken = absurd taken

pub took_nothing : (left : Option (List ℕ)) (most : ℕ) → TakesBetween left left 0 most
took_nothing left most = record { bytes = []; enough = omega arith; within = omega arith; taken = by_source left }
  where
    by_source : (left : Option (List ℕ)) → Takes left left []
    by_source None = tt
    by_source (Some all) = refl
