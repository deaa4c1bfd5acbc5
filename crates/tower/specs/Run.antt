-- The answer to `run`: for each state of the input, its result or the statement that is stuck; and what it promises.
use Rattle.std.specs.Prelude.{◌≡◌, ℕ, Bool, true, false, ◌||◌, if◌then◌else◌, List, [], ◌∷◌, ◌++◌, Option, None, Some}
use Rattle.tw_io.specs.Devices.{Appends}
use Rattle.tw_text.specs.declared.place.Pos.{Pos}
use Rattle.tw_text.specs.declared.refusal.Refusal.{Refusal}
use Rattle.tw_text.specs.declared.diagnostic.Diagnostic.{Diagnostic}
use Rattle.tw_text.specs.declared.diagnostic.Diagnostic.TheVariants as diagnostic
use Rattle.tw_syntax.specs.Programs.{FunTree, ProgramTree}
use Rattle.tw_parse.specs.Sources.{IsSource}
use Rattle.tw_resolve.specs.Demands.{first_broken}
use Rattle.tw_resolve.specs.Setting.{Setting}
use Rattle.tw_state.specs.declared.state.Side.{Side}
use Rattle.tw_state.specs.declared.state_fault.StateFault.{StateFault}
use Rattle.tw_state.specs.declared.state_fault.StateFault.TheVariants as state_fault
use Rattle.tw_state.specs.FromCode.{ListedState}
use Rattle.tw_state.specs.StateText.{state_text}
use Rattle.tw_state.specs.StateLines.{separator, AreStatesOf}
use Rattle.tw_state.specs.StateRefusals.{IsRefusedText}
use Rattle.tw_state.specs.Stuck.{Reason}
use Rattle.tw_sim.specs.BitLines.{too_many}
use Rattle.tw_frames.specs.declared.measured.Measured.{Measured}
use Rattle.tw_frames.specs.Measures.{limit_rules}
use Rattle.tw_interp.specs.Runs.{IsAnswer, IsStuck, first_side, last_side}
use Rattle.tw_interp.specs.StuckLines.{stuck_line}
use Rattle.tower.specs.Requests.{FileRequest}
use Rattle.tower.specs.Accepted.{BreaksFirst, IsBadEntry}
use Rattle.tower.specs.Entries.{EntryIn, setting_in, fun_in}
use Rattle.tower.specs.Marks.{parted}
use Rattle.tower.specs.Outcomes.{Outcome, Prints, PrintsStuck, Refuses}

-- what a run answers for a state: another state, or the statement that is stuck
pub data Reply : Type 0 where
  Ends : (state : ListedState) → Reply
  Sticks : (reason : Reason) (at : Pos) → Reply

-- the text of a reply, with states on a side of a function
abbrev pub reply_text : Setting → Side → FunTree → Reply → List ℕ
reply_text setting side fun (Ends state) = state_text setting side fun state
reply_text setting side fun (Sticks reason at) = stuck_line reason at

-- the texts of replies that follow another one, each after a separator
abbrev pub following_replies : Setting → Side → FunTree → List Reply → List ℕ
following_replies setting side fun [] = []
following_replies setting side fun (reply ∷ replies) = separator ++ (reply_text setting side fun reply ++ following_replies setting side fun replies)

-- the text of replies, with a separator between each and the next one
abbrev pub replies_text : Setting → Side → FunTree → List Reply → List ℕ
replies_text setting side fun [] = []
replies_text setting side fun (reply ∷ replies) = reply_text setting side fun reply ++ following_replies setting side fun replies

-- whether a statement is stuck in one of the replies
abbrev pub is_stuck : Reply → Bool
is_stuck (Ends state) = false
is_stuck (Sticks reason at) = true

abbrev pub is_one_stuck : List Reply → Bool
is_one_stuck [] = false
is_one_stuck (reply ∷ replies) = is_stuck reply || is_one_stuck replies

-- a run of a function on a state, forward or back, is answered by its result, or by the statement that is stuck
abbrev pub IsReply : Setting → FunTree → Option ℕ → Bool → ListedState → Reply → Type 0
IsReply setting fun bound back given (Ends answer) = ∥ IsAnswer setting fun bound back given answer ∥₁
IsReply setting fun bound back given (Sticks reason at) = ∥ IsStuck setting fun bound back given reason at ∥₁

-- each state has a reply, in order
abbrev pub AreReplies : Setting → FunTree → Option ℕ → Bool → List ListedState → List Reply → Type 0
AreReplies setting fun bound back [] [] = Unit {0}
AreReplies setting fun bound back (given ∷ states) (reply ∷ replies) = IsReply setting fun bound back given reply × AreReplies setting fun bound back states replies
AreReplies setting fun bound back states replies = ⊥

-- the outcome of replies: their text, and whether a statement is stuck in one of them
abbrev pub replied : Setting → Side → FunTree → List Reply → Outcome
replied setting side fun replies =
    let text = replies_text setting side fun replies in
    if is_one_stuck replies then PrintsStuck text else Prints text

-- the refusal of a text of states
abbrev pub state_refusal : StateFault → Option Diagnostic
state_refusal (state_fault.BadState line why) = Some (diagnostic.BadState line why)
state_refusal state_fault.TooMany = Some (diagnostic.Refused too_many)
state_refusal state_fault.Memory = None

-- The answer to a text of states, by a function with this measure. The limits on its statements and depth are tried first, and then the
-- text. The states that the text is are answered by their replies.
pub data EntryAnswer (setting : Setting) (fun : FunTree) (bound : Option ℕ) (back : Bool) (measured : Measured) (lines : List ℕ) (outcome : Outcome) : Type 0 where
  PastLimit : (refusal : Refusal) → first_broken (limit_rules measured) ≡ Some refusal → outcome ≡ Refuses (diagnostic.Refused refusal)
      → EntryAnswer setting fun bound back measured lines outcome
  WrongStates : (fault : StateFault) (why : Diagnostic) → first_broken (limit_rules measured) ≡ None → IsRefusedText setting (first_side back) fun lines fault
      → state_refusal fault ≡ Some why → outcome ≡ Refuses why → EntryAnswer setting fun bound back measured lines outcome
  Replied : (states : List ListedState) (replies : List Reply) → first_broken (limit_rules measured) ≡ None → AreStatesOf setting (first_side back) fun lines states
      → AreReplies setting fun bound back states replies → outcome ≡ replied setting (last_side back) fun replies → EntryAnswer setting fun bound back measured lines outcome

-- The answer to a program and the text of states that follows it. A program that is not accepted is answered by its first broken rule,
-- and an accepted one without the entry by `bad-entry`.
pub data RunAnswer (request : FileRequest) (lines : List ℕ) (tree : ProgramTree) (outcome : Outcome) : Type 0 where
  Broken : (refusal : Refusal) → BreaksFirst request.widths tree refusal → outcome ≡ Refuses (diagnostic.Refused refusal) → RunAnswer request lines tree outcome
  BadEntry : (refusal : Refusal) → IsBadEntry request tree refusal → outcome ≡ Refuses (diagnostic.Refused refusal) → RunAnswer request lines tree outcome
  OnEntry : (found : EntryIn request tree) → EntryAnswer (setting_in found) (fun_in found) request.bound request.inverse found.measured lines outcome
      → RunAnswer request lines tree outcome

-- The input is the source of an accepted program with the entry, then a text of states. The sink took the text of the replies: for each
-- state its result, or the statement that is stuck.
pub record Ran (request : FileRequest) (bytes : List ℕ) (before now : Option (List ℕ)) : Type 0 where
  pub tree : ProgramTree
  pub source : IsSource (parted true bytes).0 tree
  pub found : EntryIn request tree
  pub states : List ListedState
  pub are_states : AreStatesOf (setting_in found) (first_side request.inverse) (fun_in found) (parted true bytes).1 states
  pub replies : List Reply
  pub are_replies : AreReplies (setting_in found) (fun_in found) request.bound request.inverse states replies
  pub printed : Appends before now (replies_text (setting_in found) (last_side request.inverse) (fun_in found) replies)
