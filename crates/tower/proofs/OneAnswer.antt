-- Arguments and an input have at most one answer.
use Rattle.std.proofs.Common.{◌≡◌, ◌∙◌, ap, sym, subst, ℕ, ◌<◌, ◌≤◌, Bool, true, List, [], ◌++◌, length, map, codes, arith}
use Rattle.tw_text.specs.declared.refusal.Refusal.{Refusal}
use Rattle.tw_text.specs.declared.diagnostic.Diagnostic.{Diagnostic}
use Rattle.tw_text.specs.declared.diagnostic.Diagnostic.TheVariants as diagnostic
use Rattle.tw_text.specs.declared.limits.TheConstants.{INPUT_LIMIT}
use Rattle.tw_syntax.specs.Programs.{ProgramTree}
use Rattle.tw_parse.specs.Sources.{IsSource}
use Rattle.tw_parse.proofs.Sources as sources
use Rattle.tw_types.specs.Types.{Widths, AreInRange}
use Rattle.tw_resolve.specs.Programs.{IsWellTyped, IsRefused}
use Rattle.tw_resolve.proofs.Refusals.{one_refusal, typed_not_refused}
use Rattle.tw_check.proofs.RightDecls.{right_exactly_if_none_broken}
use Rattle.std.proofs.Math.Logic.{∥∥₁_elim}
use Rattle.std.proofs.Props.{props}
use Rattle.tw_gate.specs.Gates.{act}
use Rattle.tw_gatetext.specs.Text.{File, file_text}
use Rattle.tw_gatetext.specs.Files.{BeginsWith}
use Rattle.tw_gatetext.proofs.Bounds.{file_text-prefix_free}
use Rattle.tw_gatetext.proofs.Refusals as gates
use Rattle.tw_frames.specs.declared.regions.WireLayout.{WireLayout}
use Rattle.tw_sim.specs.BitLines.{bit_lines, AreLinesOf}
use Rattle.tw_sim.proofs.Laws.{right_not_refused, one_reason, bit_lines-injective}
use Rattle.tw_state.proofs.TargetTexts.{HasPlainAliases}
use Rattle.tower.specs.declared.ending.Unanswered.TheVariants as unanswered
use Rattle.tower.specs.Ending.{of_gates, of_lines}
use Rattle.tower.specs.Requests.{Request, Format, Check, Compile, Run, Encode, Simulate, Invert, FileRequest, Asks}
use Rattle.tower.specs.Outcomes.{Outcome, Prints, Refuses}
use Rattle.tower.specs.Sources.{SourceAnswer, OnTree, NoProgram}
use Rattle.tower.specs.GateInputs.{GatesAnswer, OnPrefix, WrongLine, PastLimit}
use Rattle.tower.specs.Accepted.{IsAccepted, BreaksFirst, IllTyped, NotRight, IsReady, IsBadEntry}
use Rattle.tower.specs.Check.{CheckAnswer, Accepted, Broken}
use Rattle.tower.specs.Format.{FormatAnswer}
use Rattle.tower.specs.Compile as compile
use Rattle.tower.specs.Compile.{CompileAnswer, IsFileOf, Written}
use Rattle.tower.specs.CircuitEntries as circuits
use Rattle.tower.specs.CircuitEntries.{IsBuiltTree, IsPastLimit, IsRefusedEntry, IsWithinLimits, NotBuilt}
use Rattle.tower.specs.Encode as encode
use Rattle.tower.specs.Encode.{EncodeAnswer, OnCircuit}
use Rattle.tower.specs.Entries.{EntryIn, setting_in}
use Rattle.tower.specs.Marks.{parted}
use Rattle.tower.specs.Run as run
use Rattle.tower.specs.Run.{RunAnswer, OnEntry}
use Rattle.tower.specs.Invert as invert
use Rattle.tower.specs.Invert.{InvertAnswer}
use Rattle.tower.specs.Simulate as simulate
use Rattle.tower.specs.Simulate.{HasLines, LinesAnswer, OnStates, SimulateAnswer, OfLevelT, OnLines, OtherLine}
use Rattle.tower.specs.Answer.{InputAnswer, Answer, OnInput, TooLong, Usage}
use Rattle.tower.proofs.Binds.{some_is}
use Rattle.tower.proofs.Compiles.{one_file as one_compiled, one_limit, within_or_past}
use Rattle.tower.proofs.Entries.{moved}
use Rattle.tower.proofs.OneEncoding.{one_by_states}
use Rattle.tower.proofs.OneRequest.{one_request}
use Rattle.tower.proofs.OneRun.{one_by_entry}
use Rattle.tower.proofs.PlainSources.{plain_source}
use Rattle.tower.proofs.Ranges.{run_in_range, encode_in_range}

same_why : (why other : Diagnostic) → unanswered.Refused why ≡ unanswered.Refused other → why ≡ other
same_why why other e = cc

-- refusals for one reason are one
by_reason : {outcome other : Outcome} {why next : Diagnostic} → outcome ≡ Refuses why → unanswered.Refused why ≡ unanswered.Refused next → other ≡ Refuses next → outcome ≡ other
by_reason a e b = a ∙ ap Refuses (same_why _ _ e) ∙ sym b

-- programs

one_format : (tree : ProgramTree) (outcome other : Outcome) → FormatAnswer tree outcome → FormatAnswer tree other → outcome ≡ other
one_format tree outcome other x y = x ∙ sym y

-- a program is well-typed, or it has a refusal
not_both : (widths : Widths) (tree : ProgramTree) (refusal : Refusal) → ∥ IsWellTyped widths tree ∥₁ → IsRefused widths tree refusal → ⊥
not_both widths tree refusal typed refused = ∥∥₁_elim typed (hlevel props) (λ t. typed_not_refused t.1 refused)

-- an accepted program breaks no rule
accepted_or_broken : (widths : Widths) (tree : ProgramTree) (refusal : Refusal) → IsAccepted widths tree → BreaksFirst widths tree refusal → ⊥
accepted_or_broken widths tree refusal accepted (IllTyped x) = not_both widths tree refusal accepted.typed x
accepted_or_broken widths tree refusal accepted (NotRight typed x) = let none = (right_exactly_if_none_broken tree.decls).0 accepted.right in cc (none, x)

-- one rule is the first that a program breaks
one_first : (widths : Widths) (tree : ProgramTree) (refusal other : Refusal) → BreaksFirst widths tree refusal → BreaksFirst widths tree other → refusal ≡ other
one_first widths tree refusal other (IllTyped x) (IllTyped y) = one_refusal x y
one_first widths tree refusal other (IllTyped x) (NotRight typed y) = absurd (not_both widths tree refusal typed x)
one_first widths tree refusal other (NotRight typed x) (IllTyped y) = absurd (not_both widths tree other typed y)
one_first widths tree refusal other (NotRight typed x) (NotRight typed' y) = some_is refusal other (sym x ∙ y)

abbrev refused_as : Refusal → Outcome
refused_as refusal = Refuses (diagnostic.Refused refusal)

one_check : (widths : Widths) (tree : ProgramTree) (outcome other : Outcome) → CheckAnswer widths tree outcome → CheckAnswer widths tree other → outcome ≡ other
one_check widths tree outcome other (Accepted x a) (Accepted y b) = a ∙ sym b
one_check widths tree outcome other (Accepted x a) (Broken refusal y b) = absurd (accepted_or_broken widths tree refusal x y)
one_check widths tree outcome other (Broken refusal x a) (Accepted y b) = absurd (accepted_or_broken widths tree refusal y x)
one_check widths tree outcome other (Broken refusal x a) (Broken refusal' y b) = a ∙ ap refused_as (one_first widths tree refusal refusal' x y) ∙ sym b

-- an entry is found, or refused
ready_or_bad : (request : FileRequest) (tree : ProgramTree) (refusal : Refusal) → IsReady request tree → IsBadEntry request tree refusal → ⊥
ready_or_bad request tree refusal ready bad = let none = ready.entry in let some = bad.broken in cc

-- the entry of a request is refused for one reason
one_refused_entry : (request : FileRequest) (tree : ProgramTree) (why other : Diagnostic) → IsRefusedEntry request tree why → IsRefusedEntry request tree other → why ≡ other
one_refused_entry request tree why other (circuits.Broken refusal x a) (circuits.Broken refusal' y b) = a ∙ ap diagnostic.Refused (one_first request.widths tree refusal refusal' x y) ∙ sym b
one_refused_entry request tree why other (circuits.Broken refusal x a) (circuits.BadEntry refusal' y b) = absurd (accepted_or_broken request.widths tree refusal y.accepted x)
one_refused_entry request tree why other (circuits.Broken refusal x a) (NotBuilt y none b) = absurd (accepted_or_broken request.widths tree refusal y.accepted x)
one_refused_entry request tree why other (circuits.Broken refusal x a) (circuits.PastLimit refusal' built found y b) = absurd (accepted_or_broken request.widths tree refusal found.ready.accepted x)
one_refused_entry request tree why other (circuits.BadEntry refusal x a) (circuits.Broken refusal' y b) = absurd (accepted_or_broken request.widths tree refusal' x.accepted y)
one_refused_entry request tree why other (circuits.BadEntry refusal x a) (circuits.BadEntry refusal' y b) = a ∙ ap diagnostic.Refused (some_is refusal refusal' (sym x.broken ∙ y.broken)) ∙ sym b
one_refused_entry request tree why other (circuits.BadEntry refusal x a) (NotBuilt y none b) = absurd (ready_or_bad request tree refusal y x)
one_refused_entry request tree why other (circuits.BadEntry refusal x a) (circuits.PastLimit refusal' built found y b) = absurd (ready_or_bad request tree refusal found.ready x)
one_refused_entry request tree why other (NotBuilt x none a) (circuits.Broken refusal y b) = absurd (accepted_or_broken request.widths tree refusal x.accepted y)
one_refused_entry request tree why other (NotBuilt x none a) (circuits.BadEntry refusal y b) = absurd (ready_or_bad request tree refusal x y)
one_refused_entry request tree why other (NotBuilt x none a) (NotBuilt y none' b) = a ∙ sym b
one_refused_entry request tree why other (NotBuilt x none a) (circuits.PastLimit refusal built found y b) = absurd (none built)
one_refused_entry request tree why other (circuits.PastLimit refusal built found x a) (circuits.Broken refusal' y b) = absurd (accepted_or_broken request.widths tree refusal' found.ready.accepted y)
one_refused_entry request tree why other (circuits.PastLimit refusal built found x a) (circuits.BadEntry refusal' y b) = absurd (ready_or_bad request tree refusal' found.ready y)
one_refused_entry request tree why other (circuits.PastLimit refusal built found x a) (NotBuilt y none b) = absurd (none built)
one_refused_entry request tree why other (circuits.PastLimit refusal built found x a) (circuits.PastLimit refusal' built' found' y b) =
    a
    ∙ ap diagnostic.Refused
    (one_limit (setting_in found') found'.entry found'.measured (moved request tree found found' (λ setting fun entry measured. IsPastLimit setting entry measured refusal) x) y)
    ∙ sym b

-- an entry with a circuit is not refused
circuit_or_refused : {P : Type 0} (request : FileRequest) (tree : ProgramTree) (found : EntryIn request tree) (layout : WireLayout) → IsBuiltTree tree → IsWithinLimits (setting_in found) found.entry found.measured layout
    → (why : Diagnostic) → IsRefusedEntry request tree why → P
circuit_or_refused request tree found layout built within why (circuits.Broken refusal x a) = absurd (accepted_or_broken request.widths tree refusal found.ready.accepted x)
circuit_or_refused request tree found layout built within why (circuits.BadEntry refusal x a) = absurd (ready_or_bad request tree refusal found.ready x)
circuit_or_refused request tree found layout built within why (NotBuilt x none a) = absurd (none built)
circuit_or_refused request tree found layout built within why (circuits.PastLimit refusal built' found' x a) =
    within_or_past (setting_in found) found.entry found.measured within (moved request tree found' found (λ setting fun entry measured. IsPastLimit setting entry measured refusal) x)

one_compile : (request : FileRequest) (tree : ProgramTree) (outcome other : Outcome) → CompileAnswer request tree outcome → CompileAnswer request tree other → outcome ≡ other
one_compile request tree outcome other (compile.NoCircuit why x a) (compile.NoCircuit why' y b) = a ∙ ap Refuses (one_refused_entry request tree why why' x y) ∙ sym b
one_compile request tree outcome other (compile.NoCircuit why x a) (Written built found file y b) = circuit_or_refused request tree found y.layout built y.limits why x
one_compile request tree outcome other (Written built found file x a) (compile.NoCircuit why y b) = circuit_or_refused request tree found x.layout built x.limits why y
one_compile request tree outcome other (Written built found file x a) (Written built' found' file' y b) =
    a
    ∙ ap (λ f. Prints (file_text f))
    (one_compiled (setting_in found') found'.entry found'.measured request.inverse (moved request tree found found' (λ setting fun entry measured. IsFileOf setting entry measured request.inverse file) x) y)
    ∙ sym b

one_encode : (request : FileRequest) (lines : List ℕ) (tree : ProgramTree) → AreInRange request.widths → HasPlainAliases tree → (outcome other : Outcome) → EncodeAnswer request lines tree outcome → EncodeAnswer request lines tree other → outcome ≡ other
one_encode request lines tree range plain outcome other (encode.NoCircuit why x a) (encode.NoCircuit why' y b) = a ∙ ap Refuses (one_refused_entry request tree why why' x y) ∙ sym b
one_encode request lines tree range plain outcome other (encode.NoCircuit why x a) (OnCircuit built found layout within y) = circuit_or_refused request tree found layout built within why x
one_encode request lines tree range plain outcome other (OnCircuit built found layout within x) (encode.NoCircuit why y b) = circuit_or_refused request tree found layout built within why y
one_encode request lines tree range plain outcome other (OnCircuit built found layout within x) (OnCircuit built' found' layout' within' y) =
    one_by_states request tree found found' range plain lines layout layout' within within' outcome other x y

one_run : (request : FileRequest) (lines : List ℕ) (tree : ProgramTree) → AreInRange request.widths → HasPlainAliases tree → (outcome other : Outcome) → RunAnswer request lines tree outcome → RunAnswer request lines tree other → outcome ≡ other
one_run request lines tree range plain outcome other (run.Broken refusal x a) (run.Broken refusal' y b) = a ∙ ap refused_as (one_first request.widths tree refusal refusal' x y) ∙ sym b
one_run request lines tree range plain outcome other (run.Broken refusal x a) (run.BadEntry refusal' y b) = absurd (accepted_or_broken request.widths tree refusal y.accepted x)
one_run request lines tree range plain outcome other (run.Broken refusal x a) (OnEntry found is) = absurd (accepted_or_broken request.widths tree refusal found.ready.accepted x)
one_run request lines tree range plain outcome other (run.BadEntry refusal x a) (run.Broken refusal' y b) = absurd (accepted_or_broken request.widths tree refusal' x.accepted y)
one_run request lines tree range plain outcome other (run.BadEntry refusal x a) (run.BadEntry refusal' y b) = a ∙ ap refused_as (some_is refusal refusal' (sym x.broken ∙ y.broken)) ∙ sym b
one_run request lines tree range plain outcome other (run.BadEntry refusal x a) (OnEntry found is) = absurd (ready_or_bad request tree refusal found.ready x)
one_run request lines tree range plain outcome other (OnEntry found is) (run.Broken refusal y b) = absurd (accepted_or_broken request.widths tree refusal found.ready.accepted y)
one_run request lines tree range plain outcome other (OnEntry found is) (run.BadEntry refusal y b) = absurd (ready_or_bad request tree refusal found.ready y)
one_run request lines tree range plain outcome other (OnEntry found is) (OnEntry found' is') = one_by_entry request tree found found' range plain lines outcome other is is'

one_source : (bytes : List ℕ) (OnProgram : ProgramTree → Outcome → Type 0) (outcome other : Outcome) → ((tree : ProgramTree) → IsSource bytes tree → OnProgram tree outcome → OnProgram tree other → outcome ≡ other) →
    SourceAnswer bytes OnProgram outcome → SourceAnswer bytes OnProgram other → outcome ≡ other
one_source bytes OnProgram outcome other one (OnTree tree x a) (OnTree tree' y b) = one tree' y (subst (λ (t : ProgramTree). OnProgram t outcome) (sources.one_source bytes tree' tree y x) a) b
one_source bytes OnProgram outcome other one (OnTree tree x a) (NoProgram refusal y b) = absurd (sources.apart bytes tree refusal x y)
one_source bytes OnProgram outcome other one (NoProgram refusal x a) (OnTree tree y b) = absurd (sources.apart bytes tree refusal y x)
one_source bytes OnProgram outcome other one (NoProgram refusal x a) (NoProgram refusal' y b) =
    a ∙ ap (λ (r : Refusal). Refuses (diagnostic.Refused r)) (sources.one_source_refusal bytes refusal' refusal y x) ∙ sym b

-- gate files

one_file : (bytes : List ℕ) (file other : File) (rest more : List ℕ) → BeginsWith bytes file rest → BeginsWith bytes other more → (file ≡ other) × (rest ≡ more)
one_file bytes file other rest more x y = file_text-prefix_free file other rest more x.valid y.valid (sym x.text ∙ y.text)

one_gates : (bytes : List ℕ) (OnFile : File → List ℕ → Outcome → Type 0) (outcome other : Outcome) → ((file : File) (rest : List ℕ) → OnFile file rest outcome → OnFile file rest other → outcome ≡ other) →
    GatesAnswer bytes OnFile outcome → GatesAnswer bytes OnFile other → outcome ≡ other
one_gates bytes OnFile outcome other one (OnPrefix file rest x a) (OnPrefix file' rest' y b) =
    let same = one_file bytes file file' rest rest' x y in
    one file' rest' (subst (λ (f : File). OnFile f rest' outcome) same.0 (subst (λ (r : List ℕ). OnFile file r outcome) same.1 a)) b
one_gates bytes OnFile outcome other one (OnPrefix file rest x a) (WrongLine line y b) = absurd (gates.no_file bytes _ file rest y x)
one_gates bytes OnFile outcome other one (OnPrefix file rest x a) (PastLimit refusal y b) = absurd (gates.no_file bytes _ file rest y x)
one_gates bytes OnFile outcome other one (WrongLine line x a) (OnPrefix file rest y b) = absurd (gates.no_file bytes _ file rest x y)
one_gates bytes OnFile outcome other one (PastLimit refusal x a) (OnPrefix file rest y b) = absurd (gates.no_file bytes _ file rest x y)
one_gates bytes OnFile outcome other one (WrongLine line x a) (WrongLine line' y b) = by_reason a (ap of_gates (gates.one_refusal bytes _ _ y x)) b
one_gates bytes OnFile outcome other one (PastLimit refusal x a) (PastLimit refusal' y b) = by_reason a (ap of_gates (gates.one_refusal bytes _ _ y x)) b
one_gates bytes OnFile outcome other one (WrongLine line x a) (PastLimit refusal y b) = by_reason a (ap of_gates (gates.one_refusal bytes _ _ y x)) b
one_gates bytes OnFile outcome other one (PastLimit refusal x a) (WrongLine line y b) = by_reason a (ap of_gates (gates.one_refusal bytes _ _ y x)) b

one_invert : (file : File) (rest : List ℕ) (outcome other : Outcome) → InvertAnswer file rest outcome → InvertAnswer file rest other → outcome ≡ other
one_invert file rest outcome other (invert.AtEnd e a) (invert.AtEnd f b) = a ∙ sym b
one_invert file rest outcome other (invert.AtEnd e a) (invert.GoesOn f b) = absurd (f e)
one_invert file rest outcome other (invert.GoesOn e a) (invert.AtEnd f b) = absurd (e f)
one_invert file rest outcome other (invert.GoesOn e a) (invert.GoesOn f b) = a ∙ sym b

-- lines of bits

end_or_more : (lines : List ℕ) → [] ≡ codes "%%\n" ++ lines → ⊥
end_or_more lines e = cc

mark_or_more : (lines : List ℕ) → codes "%%" ≡ codes "%%\n" ++ lines → ⊥
mark_or_more lines e = cc

after_mark : (lines other : List ℕ) → codes "%%\n" ++ lines ≡ codes "%%\n" ++ other → lines ≡ other
after_mark lines other e = cc

one_text : (rest lines other : List ℕ) → HasLines rest lines → HasLines rest other → lines ≡ other
one_text rest lines other (simulate.AtEnd e f) (simulate.AtEnd e' f') = f ∙ sym f'
one_text rest lines other (simulate.AtEnd e f) (simulate.AtMark e' f') = f ∙ sym f'
one_text rest lines other (simulate.AtMark e f) (simulate.AtEnd e' f') = f ∙ sym f'
one_text rest lines other (simulate.AtMark e f) (simulate.AtMark e' f') = f ∙ sym f'
one_text rest lines other (simulate.AtEnd e f) (simulate.AfterMark e') = absurd (end_or_more other (sym e ∙ e'))
one_text rest lines other (simulate.AtMark e f) (simulate.AfterMark e') = absurd (mark_or_more other (sym e ∙ e'))
one_text rest lines other (simulate.AfterMark e) (simulate.AtEnd e' f') = absurd (end_or_more lines (sym e' ∙ e))
one_text rest lines other (simulate.AfterMark e) (simulate.AtMark e' f') = absurd (mark_or_more lines (sym e' ∙ e))
one_text rest lines other (simulate.AfterMark e) (simulate.AfterMark e') = after_mark lines other (sym e ∙ e')

one_states : (wires : ℕ) (lines : List ℕ) (states other : List (List Bool)) → AreLinesOf wires lines states → AreLinesOf wires lines other → states ≡ other
one_states wires lines states other x y = bit_lines-injective wires states other x.wide y.wide (sym x.spelled ∙ y.spelled)

one_lines : (file : File) (lines : List ℕ) (outcome other : Outcome) → LinesAnswer file lines outcome → LinesAnswer file lines other → outcome ≡ other
one_lines file lines outcome other (OnStates states x a) (OnStates states' y b) = a ∙ ap (λ (s : List (List Bool)). Prints (bit_lines (map (act file.gates) s))) (one_states file.wires lines states states' x y) ∙ sym b
one_lines file lines outcome other (OnStates states x a) (simulate.WrongLine line y b) = absurd (right_not_refused file.wires lines states _ x y)
one_lines file lines outcome other (OnStates states x a) (simulate.PastLimit refusal y b) = absurd (right_not_refused file.wires lines states _ x y)
one_lines file lines outcome other (simulate.WrongLine line x a) (OnStates states y b) = absurd (right_not_refused file.wires lines states _ y x)
one_lines file lines outcome other (simulate.PastLimit refusal x a) (OnStates states y b) = absurd (right_not_refused file.wires lines states _ y x)
one_lines file lines outcome other (simulate.WrongLine line x a) (simulate.WrongLine line' y b) = by_reason a (ap of_lines (one_reason file.wires lines _ _ y x)) b
one_lines file lines outcome other (simulate.PastLimit refusal x a) (simulate.PastLimit refusal' y b) = by_reason a (ap of_lines (one_reason file.wires lines _ _ y x)) b
one_lines file lines outcome other (simulate.WrongLine line x a) (simulate.PastLimit refusal y b) = by_reason a (ap of_lines (one_reason file.wires lines _ _ y x)) b
one_lines file lines outcome other (simulate.PastLimit refusal x a) (simulate.WrongLine line y b) = by_reason a (ap of_lines (one_reason file.wires lines _ _ y x)) b

one_simulate : (file : File) (rest : List ℕ) (outcome other : Outcome) → SimulateAnswer file rest outcome → SimulateAnswer file rest other → outcome ≡ other
one_simulate file rest outcome other (OfLevelT e a) (OfLevelT f b) = a ∙ sym b
one_simulate file rest outcome other (OfLevelT e a) (OnLines f lines has b) = absurd (f e)
one_simulate file rest outcome other (OfLevelT e a) (OtherLine f none b) = absurd (f e)
one_simulate file rest outcome other (OnLines e lines has a) (OfLevelT f b) = absurd (e f)
one_simulate file rest outcome other (OtherLine e none a) (OfLevelT f b) = absurd (e f)
one_simulate file rest outcome other (OnLines e lines has a) (OnLines f lines' has' b) =
    one_lines file lines' outcome other (subst (λ (l : List ℕ). LinesAnswer file l outcome) (one_text rest lines lines' has has') a) b
one_simulate file rest outcome other (OnLines e lines has a) (OtherLine f none b) = absurd (none lines has)
one_simulate file rest outcome other (OtherLine e none a) (OnLines f lines has b) = absurd (none lines has)
one_simulate file rest outcome other (OtherLine e none a) (OtherLine f none' b) = a ∙ sym b

-- all requests

one_input : (words : List (List ℕ)) (request : Request) → Asks words request → (bytes : List ℕ) (outcome other : Outcome) → InputAnswer request bytes outcome → InputAnswer request bytes other → outcome ≡ other
one_input words Format asks bytes outcome other x y = one_source bytes FormatAnswer outcome other (λ tree source. one_format tree outcome other) x y
one_input words (Check widths) asks bytes outcome other x y = one_source bytes (CheckAnswer widths) outcome other (λ tree source. one_check widths tree outcome other) x y
one_input words (Compile file) asks bytes outcome other x y = one_source bytes (CompileAnswer file) outcome other (λ tree source. one_compile file tree outcome other) x y
one_input words (Run file) asks bytes outcome other x y =
    one_source (parted true bytes).0 (RunAnswer file (parted true bytes).1) outcome other
    (λ tree source. one_run file (parted true bytes).1 tree (run_in_range words file asks) (plain_source (parted true bytes).0 tree source) outcome other) x y
one_input words (Encode file) asks bytes outcome other x y =
    one_source (parted true bytes).0 (EncodeAnswer file (parted true bytes).1) outcome other
    (λ tree source. one_encode file (parted true bytes).1 tree (encode_in_range words file asks) (plain_source (parted true bytes).0 tree source) outcome other) x y
one_input words Simulate asks bytes outcome other x y = one_gates bytes SimulateAnswer outcome other (λ file rest. one_simulate file rest outcome other) x y
one_input words Invert asks bytes outcome other x y = one_gates bytes InvertAnswer outcome other (λ file rest. one_invert file rest outcome other) x y

few_or_many : (bytes : List ℕ) → length bytes ≤ INPUT_LIMIT → INPUT_LIMIT < length bytes → ⊥
few_or_many bytes few many = omega (arith, few, many)

pub one_answer : (words : List (List ℕ)) (bytes : List ℕ) (outcome other : Outcome) → Answer words bytes outcome → Answer words bytes other → outcome ≡ other
one_answer words bytes outcome other (OnInput request x few a) (OnInput request' y few' b) =
    one_input words request' y bytes outcome other (subst (λ (r : Request). InputAnswer r bytes outcome) (one_request words request request' x y) a) b
one_answer words bytes outcome other (OnInput request x few a) (TooLong request' y many b) = absurd (few_or_many bytes few many)
one_answer words bytes outcome other (TooLong request x many a) (OnInput request' y few b) = absurd (few_or_many bytes few many)
one_answer words bytes outcome other (TooLong request x many a) (TooLong request' y many' b) = a ∙ sym b
one_answer words bytes outcome other (OnInput request x few a) (Usage none b) = absurd (none request x)
one_answer words bytes outcome other (TooLong request x many a) (Usage none b) = absurd (none request x)
one_answer words bytes outcome other (Usage none a) (OnInput request y few b) = absurd (none request y)
one_answer words bytes outcome other (Usage none a) (TooLong request y many b) = absurd (none request y)
one_answer words bytes outcome other (Usage none a) (Usage none' b) = a ∙ sym b
