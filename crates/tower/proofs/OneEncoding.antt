-- The states of an input have at most one answer of `encode`.
use Rattle.std.proofs.Common.{◌≡◌, ◌∙◌, ap, sym, subst, ℕ, List}
use Rattle.tw_syntax.specs.Programs.{FunTree, ProgramTree}
use Rattle.tw_types.specs.Types.{AreInRange}
use Rattle.tw_resolve.specs.Setting.{Setting}
use Rattle.tw_state.specs.declared.state.Side.{Side}
use Rattle.tw_state.proofs.TargetTexts.{HasPlainAliases}
use Rattle.tw_sim.specs.BitLines.{bit_lines}
use Rattle.tw_frames.specs.declared.regions.WireLayout.{WireLayout}
use Rattle.tw_interp.specs.Runs.{first_side}
use Rattle.tower.specs.Requests.{FileRequest}
use Rattle.tower.specs.CircuitEntries.{IsWithinLimits}
use Rattle.tower.specs.Encode.{encodings, StatesAnswer, WrongStates, Encoded}
use Rattle.tower.specs.Entries.{EntryIn, setting_in, fun_in}
use Rattle.tower.specs.Outcomes.{Outcome, Prints, Refuses}
use Rattle.tower.specs.Run.{state_refusal}
use Rattle.tower.proofs.Binds.{some_is}
use Rattle.tower.proofs.Compiles.{one_layout}
use Rattle.tower.proofs.Entries.{moved}
use Rattle.tower.proofs.OneReading.{HasOneReading, entry_reading}

-- a text of states has one answer
one_states_answer : (wires : ℕ) (setting : Setting) (side : Side) (fun : FunTree) (lines : List ℕ) → HasOneReading setting side fun lines → (outcome other : Outcome)
    → StatesAnswer wires setting side fun lines outcome → StatesAnswer wires setting side fun lines other → outcome ≡ other
one_states_answer wires setting side fun lines reading outcome other (WrongStates fault why x is a) (WrongStates fault' why' y is' b) =
    a ∙ ap Refuses (some_is why why' (sym is ∙ ap state_refusal (reading.one_fault fault fault' x y) ∙ is')) ∙ sym b
one_states_answer wires setting side fun lines reading outcome other (WrongStates fault why x is a) (Encoded states are b) = absurd (reading.not_both states fault are x)
one_states_answer wires setting side fun lines reading outcome other (Encoded states are a) (WrongStates fault why y is b) = absurd (reading.not_both states fault are y)
one_states_answer wires setting side fun lines reading outcome other (Encoded states are a) (Encoded states' are' b) =
    a ∙ ap (λ some. Prints (bit_lines (encodings wires setting side fun some))) (reading.one_list states states' are are') ∙ sym b

-- and so has one for the entry of a request
pub one_by_states : (request : FileRequest) (tree : ProgramTree) (found other : EntryIn request tree) → AreInRange request.widths → HasPlainAliases tree → (lines : List ℕ) (layout second : WireLayout)
    → IsWithinLimits (setting_in found) found.entry found.measured layout → IsWithinLimits (setting_in other) other.entry other.measured second → (outcome another : Outcome)
    → StatesAnswer layout.wires (setting_in found) (first_side request.inverse) (fun_in found) lines outcome → StatesAnswer second.wires (setting_in other) (first_side request.inverse) (fun_in other) lines another → outcome ≡ another
one_by_states request tree found other range plain lines layout second within within' outcome another x y =
    let side = first_side request.inverse in
    let same = one_layout (setting_in other) other.entry other.measured (moved request tree found other (λ setting fun entry measured. IsWithinLimits setting entry measured layout) within) within' in
    one_states_answer second.wires (setting_in other) side (fun_in other) lines (entry_reading request tree other range plain side lines) outcome another
    (subst (λ (l : WireLayout). StatesAnswer l.wires (setting_in other) side (fun_in other) lines outcome) same
    (moved request tree found other (λ setting fun entry measured. StatesAnswer layout.wires setting side fun lines outcome) x)) y
