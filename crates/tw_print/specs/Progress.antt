-- Printing piece by piece; pieces after a fault are left out.
use Rattle.std.specs.Prelude.{◌≡◌, ℕ, List, Option, Result, Ok, Err}
use Rattle.tw_io.specs.Devices.{Rose, Appends, AppendsPrefix}
use Rattle.tw_io.specs.declared.device.WriteFault.{WriteFault}
use Rattle.tw_print.specs.declared.progress.Progress.{Progress}
use Rattle.tw_print.specs.declared.progress.Progress.TheVariants.{Going, Broken}

-- the text was printed whole
pub record Printed {K : Type 0} (taken : K → Option (List ℕ)) (faults : K → ℕ) (old new : K) (text : List ℕ) : Type 0 where
  pub whole : Appends (taken old) (taken new) text
  pub steady : faults new ≡ faults old

-- the sink failed in the text
pub record Failed {K : Type 0} (taken : K → Option (List ℕ)) (faults : K → ℕ) (old new : K) (text : List ℕ) : Type 0 where
  pub front : AppendsPrefix (taken old) (taken new) text
  pub cause : Rose (faults old) (faults new)

abbrev pub GoesOn : {K : Type 0} → (K → Option (List ℕ)) → (K → ℕ) → K → K → Progress → Progress → List ℕ → Type 0
GoesOn taken faults old new Going Going text = Printed taken faults old new text
GoesOn taken faults old new Going Broken text = Failed taken faults old new text
GoesOn taken faults old new Broken Broken text = new ≡ old
GoesOn taken faults old new Broken Going text = ⊥

-- what a call that prints a text did, from the progress before and after it
pub record Goes {K : Type 0} (taken : K → Option (List ℕ)) (faults : K → ℕ) (old new : K) (before after : Progress) (text : List ℕ) : Type 0 where
  pub on : GoesOn taken faults old new before after text

-- the progress after a write
abbrev pub progress_after : Result (Unit {0}) WriteFault → Progress
progress_after (Ok written) = Going
progress_after (Err fault) = Broken
