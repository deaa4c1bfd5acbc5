-- A text of states has at most one reading.
use Rattle.std.proofs.Common.{◌≡◌, sym, ℕ, List}
use Rattle.tw_syntax.specs.Programs.{FunTree, ProgramTree}
use Rattle.tw_types.specs.Types.{AreInRange}
use Rattle.tw_resolve.specs.Setting.{Setting}
use Rattle.tw_state.specs.declared.state.Side.{Side}
use Rattle.tw_state.specs.declared.state_fault.StateFault.{StateFault}
use Rattle.tw_state.specs.FromCode.{ListedState}
use Rattle.tw_state.specs.StateLines.{AreStatesOf}
use Rattle.tw_state.specs.StateRefusals.{IsRefusedText}
use Rattle.tw_state.proofs.ProgramTexts.{program_texts}
use Rattle.tw_state.proofs.StateAnswers.{one_refusal, no_states}
use Rattle.tw_state.proofs.StateLists.{one_list}
use Rattle.tw_state.proofs.TargetTexts.{HasPlainAliases}
use Rattle.tower.specs.Requests.{FileRequest}
use Rattle.tower.specs.Entries.{EntryIn, setting_in, fun_in}

-- a text is that of one list of states, or refused for one reason
pub record HasOneReading (setting : Setting) (side : Side) (fun : FunTree) (lines : List ℕ) : Type 0 where
  pub one_list : (states others : List ListedState) → AreStatesOf setting side fun lines states → AreStatesOf setting side fun lines others → states ≡ others
  pub one_fault : (fault other : StateFault) → IsRefusedText setting side fun lines fault → IsRefusedText setting side fun lines other → fault ≡ other
  pub not_both : (states : List ListedState) (fault : StateFault) → AreStatesOf setting side fun lines states → IsRefusedText setting side fun lines fault → ⊥

-- so is a text of states of the entry of a request
pub entry_reading : (request : FileRequest) (tree : ProgramTree) (found : EntryIn request tree) → AreInRange request.widths → HasPlainAliases tree → (side : Side) (lines : List ℕ)
    → HasOneReading (setting_in found) side (fun_in found) lines
entry_reading request tree found range plain side lines =
    let texts = program_texts request.widths tree found.types found.typed range plain found.ready.accepted.right side found.entry.fun (fun_in found) found.is_entry.is_entry.at in
    record {
      one_list = one_list (setting_in found) side (fun_in found) texts lines;
      one_fault = λ fault other x y. sym (one_refusal (setting_in found) side (fun_in found) texts lines fault other x y);
      not_both = λ states fault are refused. no_states (setting_in found) side (fun_in found) texts lines fault states refused are;
    }
