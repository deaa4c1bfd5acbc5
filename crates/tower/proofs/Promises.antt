-- What was printed has the properties that `tower_main` promises.
use Rattle.std.proofs.Common.{◌≡◌, ◌≢◌, ◌∙◌, ap, sym, subst, ℕ, ◌⊎◌, inl, inr, List, Option, IfSome, refl, true}
use Rattle.tw_io.specs.Devices.{Appends}
use Rattle.tw_text.specs.declared.diagnostic.Diagnostic.{Diagnostic}
use Rattle.tw_syntax.specs.Programs.{ProgramTree}
use Rattle.tw_parse.specs.Sources.{IsSource}
use Rattle.tw_print.proofs.ReadBack.{reads_back}
use Rattle.tw_gate.specs.declared.gate.Level.TheVariants as levels
use Rattle.tw_gate.specs.Gates.{PlainGate}
use Rattle.tw_gate.proofs.Inverse.{inverse-twice}
use Rattle.tw_gatetext.specs.Text.{File}
use Rattle.tw_gatetext.specs.Files.{BeginsWith}
use Rattle.tw_gatetext.proofs.ValidFiles.{valid-inverse, classical, permutes-file}
use Rattle.tw_frames.specs.declared.regions.WireLayout.{WireLayout}
use Rattle.tw_interp.specs.Runs.{first_side}
use Rattle.tower.specs.declared.status.Status.{Status}
use Rattle.tower.specs.declared.status.Status.TheVariants as status
use Rattle.tower.specs.Requests.{FileRequest, Request, Format, Check, Compile, Run, Encode, Simulate, Invert, Asks}
use Rattle.tower.specs.Outcomes.{Outcome, Prints, PrintsStuck, Refuses, outcome_status, outcome_text}
use Rattle.tower.specs.Sources.{SourceAnswer, OnTree, NoProgram}
use Rattle.tower.specs.GateInputs.{GatesAnswer, OnPrefix, WrongLine, PastLimit}
use Rattle.tw_types.specs.Types.{Widths, AreInRange}
use Rattle.tower.specs.Check.{CheckAnswer, Accepted, Broken, Checked}
use Rattle.tower.specs.Format.{FormatAnswer, Formatted}
use Rattle.tower.specs.Compile as compile
use Rattle.tower.specs.Compile.{CompileAnswer, Written, Compiled}
use Rattle.tower.specs.CircuitEntries.{IsBuiltTree, IsWithinLimits}
use Rattle.tower.specs.Encode as encode
use Rattle.tower.specs.Encode.{StatesAnswer, Encoded, EncodeAnswer, OnCircuit, EncodedStates}
use Rattle.tower.specs.Entries.{EntryIn, setting_in, fun_in}
use Rattle.tower.specs.Marks.{parted}
use Rattle.tower.specs.Run.{Ran}
use Rattle.tower.specs.Invert as invert
use Rattle.tower.specs.Invert.{InvertAnswer, Inverted}
use Rattle.tower.specs.Simulate as simulate
use Rattle.tower.specs.Simulate.{HasLines, LinesAnswer, OnStates, SimulateAnswer, OfLevelT, OnLines, OtherLine, Simulated}
use Rattle.tower.specs.Answer.{InputAnswer, Answer, OnInput, TooLong, Usage, GaveWhole, Answered, IsCutShort}
use Rattle.tower.proofs.Compiles.{compiled, wide_encodings}
use Rattle.tower.proofs.OneRequest.{one_request}
use Rattle.tower.proofs.Ranges.{widths_in_range, encode_in_range}
use Rattle.tower.proofs.PrintedRuns.{runs}
use Rattle.tower.proofs.WhenEnded.{if_told, told_answer, refusal_not_ok}

text_is : (text other : List ℕ) → Prints text ≡ Prints other → text ≡ other
text_is text other e = cc

no_text : (text : List ℕ) (why : Diagnostic) → Prints text ≡ Refuses why → ⊥
no_text text why e = cc

module _ (bytes text : List ℕ) (before now : Option (List ℕ)) (took : Appends before now text) where
  formats : SourceAnswer bytes FormatAnswer (Prints text) → Formatted bytes before now
  formats (OnTree tree source e) = record { tree = tree; source = source; printed = subst (Appends before now) (text_is text _ e) took; reads_back = reads_back tree bytes source }
  formats (NoProgram refusal refused e) = absurd (no_text text _ e)

  checks_tree : (widths : Widths) (tree : ProgramTree) → IsSource bytes tree → CheckAnswer widths tree (Prints text) → Checked widths bytes before now
  checks_tree widths tree source (Accepted accepted e) = record { tree = tree; source = source; accepted = accepted; printed = subst (Appends before now) (text_is text _ e) took }
  checks_tree widths tree source (Broken refusal broken e) = absurd (no_text text _ e)

  checks : (widths : Widths) → SourceAnswer bytes (CheckAnswer widths) (Prints text) → Checked widths bytes before now
  checks widths (OnTree tree source is) = checks_tree widths tree source is
  checks widths (NoProgram refusal refused e) = absurd (no_text text _ e)

  compiles_tree : (request : FileRequest) → AreInRange request.widths → (tree : ProgramTree) → IsSource bytes tree → CompileAnswer request tree (Prints text) → Compiled request bytes before now
  compiles_tree request range tree source (compile.NoCircuit why refused e) = absurd (no_text text _ e)
  compiles_tree request range tree source (Written built found file is e) = record {
    tree = tree;
    source = source;
    built = built;
    found = found;
    layout = is.layout;
    limits = is.limits;
    file = file;
    level = ap (λ f. f.level) is.is;
    wires = ap (λ f. f.wires) is.is;
    printed = subst (Appends before now) (text_is text _ e) took;
    compiled = compiled request tree built found range file is;
  }

  compiles : (request : FileRequest) → AreInRange request.widths → SourceAnswer bytes (CompileAnswer request) (Prints text) → Compiled request bytes before now
  compiles request range (OnTree tree source is) = compiles_tree request range tree source is
  compiles request range (NoProgram refusal refused e) = absurd (no_text text _ e)

  encodes_states : (request : FileRequest) → AreInRange request.widths → (tree : ProgramTree) → IsSource (parted true bytes).0 tree → IsBuiltTree tree → (found : EntryIn request tree) (layout : WireLayout)
      → IsWithinLimits (setting_in found) found.entry found.measured layout → StatesAnswer layout.wires (setting_in found) (first_side request.inverse) (fun_in found) (parted true bytes).1 (Prints text) → EncodedStates request bytes before now
  encodes_states request range tree source built found layout limits (encode.WrongStates fault why refused is e) = absurd (no_text text _ e)
  encodes_states request range tree source built found layout limits (Encoded states are e) = record {
    tree = tree;
    source = source;
    built = built;
    found = found;
    layout = layout;
    limits = limits;
    states = states;
    are_states = are;
    printed = subst (Appends before now) (text_is text _ e) took;
    wide = wide_encodings request tree built found range layout limits (first_side request.inverse) states are.each;
  }

  encodes_tree : (request : FileRequest) → AreInRange request.widths → (tree : ProgramTree) → IsSource (parted true bytes).0 tree → EncodeAnswer request (parted true bytes).1 tree (Prints text) → EncodedStates request bytes before now
  encodes_tree request range tree source (encode.NoCircuit why refused e) = absurd (no_text text _ e)
  encodes_tree request range tree source (OnCircuit built found layout limits is) = encodes_states request range tree source built found layout limits is

  encodes : (request : FileRequest) → AreInRange request.widths → SourceAnswer (parted true bytes).0 (EncodeAnswer request (parted true bytes).1) (Prints text) → EncodedStates request bytes before now
  encodes request range (OnTree tree source is) = encodes_tree request range tree source is
  encodes request range (NoProgram refusal refused e) = absurd (no_text text _ e)

  inverts_file : (file : File) (rest : List ℕ) → BeginsWith bytes file rest → InvertAnswer file rest (Prints text) → Inverted bytes before now
  inverts_file file rest begins (invert.AtEnd end e) = record {
    file = file;
    begins = subst (BeginsWith bytes file) end begins;
    printed = subst (Appends before now) (text_is text _ e) took;
    valid = valid-inverse file begins.valid;
    twice = ap (λ (gates : List PlainGate). record { level = file.level; wires = file.wires; t_count = file.t_count; gates = gates }) (inverse-twice file.gates);
    permutes = permutes-file file begins.valid;
  }
  inverts_file file rest begins (invert.GoesOn some e) = absurd (no_text text _ e)

  inverts : GatesAnswer bytes InvertAnswer (Prints text) → Inverted bytes before now
  inverts (OnPrefix file rest begins is) = inverts_file file rest begins is
  inverts (WrongLine line refused e) = absurd (no_text text _ e)
  inverts (PastLimit refusal refused e) = absurd (no_text text _ e)

  simulates_lines : (file : File) (rest lines : List ℕ) → BeginsWith bytes file rest → file.level ≢ levels.T → HasLines rest lines → LinesAnswer file lines (Prints text) → Simulated bytes before now
  simulates_lines file rest lines begins level has (OnStates states are e) = record {
    file = file;
    rest = rest;
    begins = begins;
    classical = level;
    lines = lines;
    has = has;
    states = states;
    spelled = are;
    printed = subst (Appends before now) (text_is text _ e) took;
    permutes = permutes-file file begins.valid (classical file.level file.gates level begins.valid.fit_level);
  }
  simulates_lines file rest lines begins level has (simulate.WrongLine line are e) = absurd (no_text text _ e)
  simulates_lines file rest lines begins level has (simulate.PastLimit refusal are e) = absurd (no_text text _ e)

  simulates_file : (file : File) (rest : List ℕ) → BeginsWith bytes file rest → SimulateAnswer file rest (Prints text) → Simulated bytes before now
  simulates_file file rest begins (OfLevelT level e) = absurd (no_text text _ e)
  simulates_file file rest begins (OnLines level lines has is) = simulates_lines file rest lines begins level has is
  simulates_file file rest begins (OtherLine level none e) = absurd (no_text text _ e)

  simulates : GatesAnswer bytes SimulateAnswer (Prints text) → Simulated bytes before now
  simulates (OnPrefix file rest begins is) = simulates_file file rest begins is
  simulates (WrongLine line refused e) = absurd (no_text text _ e)
  simulates (PastLimit refusal refused e) = absurd (no_text text _ e)

-- the text that answers a request
asked_answer : (words : List (List ℕ)) (bytes text : List ℕ) (request : Request) → Asks words request → Answer words bytes (Prints text) → InputAnswer request bytes (Prints text)
asked_answer words bytes text request asks (OnInput other also few is) = subst (λ (r : Request). InputAnswer r bytes (Prints text)) (one_request words other request also asks) is
asked_answer words bytes text request asks (TooLong other also many e) = absurd (no_text text _ e)
asked_answer words bytes text request asks (Usage none e) = absurd (none request asks)

-- what is promised of the input and the sink of each request
abbrev pub Promise : Request → Option (List ℕ) → Option (List ℕ) → List ℕ → Type 0
Promise Format before now bytes = Formatted bytes before now
Promise (Check widths) before now bytes = Checked widths bytes before now
Promise (Compile request) before now bytes = Compiled request bytes before now
Promise (Run request) before now bytes = Ran request bytes before now
Promise (Encode request) before now bytes = EncodedStates request bytes before now
Promise Simulate before now bytes = Simulated bytes before now
Promise Invert before now bytes = Inverted bytes before now

kept : (request : Request) (words : List (List ℕ)) (bytes text : List ℕ) (before now : Option (List ℕ)) → Asks words request → Appends before now text → InputAnswer request bytes (Prints text) → Promise request before now bytes
kept Format words bytes text before now asks took is = formats bytes text before now took is
kept (Check widths) words bytes text before now asks took is = checks bytes text before now took widths is
kept (Compile request) words bytes text before now asks took is = compiles bytes text before now took request (widths_in_range words request asks) is
kept (Run request) words bytes text before now asks took is = runs bytes text before now took request (Prints text) refl (no_text text) is
kept (Encode request) words bytes text before now asks took is = encodes bytes text before now took request (encode_in_range words request asks) is
kept Simulate words bytes text before now asks took is = simulates bytes text before now took is
kept Invert words bytes text before now asks took is = inverts bytes text before now took is

-- a call that ended with Ok keeps the promise of its request
pub promised : (request : Request) (left before now : Option (List ℕ)) (words : List (List ℕ)) (ended : Status) → Answered left before now words ended → Asks words request → ended ≡ status.Ok → IfSome left (Promise request before now)
promised request left before now words ended answered asks ok = if_told left by_gave (told_answer left before now words ended answered)
  where
    by_outcome : (bytes : List ℕ) (outcome : Outcome) → Answer words bytes outcome → outcome_status outcome ≡ status.Ok → Appends before now (outcome_text outcome) → Promise request before now bytes
    by_outcome bytes (Prints text) answer same took = kept request words bytes text before now asks took (asked_answer words bytes text request asks answer)
    by_outcome bytes (PrintsStuck text) answer same took = cc
    by_outcome bytes (Refuses why) answer same took = absurd (refusal_not_ok why same)

    by_cut : (bytes : List ℕ) → IsCutShort ended → Promise request before now bytes
    by_cut bytes (inl memory) = let e = sym ok ∙ memory in cc
    by_cut bytes (inr (inl read)) = let e = sym ok ∙ read in cc
    by_cut bytes (inr (inr write)) = let e = sym ok ∙ write in cc

    by_gave : (bytes : List ℕ) → IsCutShort ended ⊎ GaveWhole words bytes before now ended → Promise request before now bytes
    by_gave bytes (inl cut) = by_cut bytes cut
    by_gave bytes (inr gave) = by_outcome bytes gave.outcome gave.answer (gave.status ∙ ok) gave.took
