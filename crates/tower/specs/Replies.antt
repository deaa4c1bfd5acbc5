-- The replies of `run` to states, as the code keeps them.
use Rattle.std.specs.Prelude.{◌≡◌, ℕ, Bool, List, Option, Some, Result, slice_get}
use Rattle.tw_io.specs.Devices.{Wrote}
use Rattle.tw_io.specs.declared.device.WriteFault.{WriteFault}
use Rattle.tw_syntax.specs.Programs.{FunTree}
use Rattle.tw_resolve.specs.Setting.{Setting}
use Rattle.tw_state.specs.FromCode.{ListedState, listed_of}
use Rattle.tw_state.specs.StateText.{IsPrintableOn}
use Rattle.tw_interp.specs.Following.{reason_of}
use Rattle.tw_interp.specs.Runs.{last_side}
use Rattle.tower.specs.declared.replies.Reply.{Reply as ReplyOfCode}
use Rattle.tower.specs.declared.replies.Reply.TheVariants as reply
use Rattle.tower.specs.Run.{Reply, Ends, Sticks, IsReply, AreReplies, reply_text, following_replies, replies_text}

-- the reply that a reply of the code is
abbrev pub reply_seen : ReplyOfCode → Reply
reply_seen (reply.Ends state) = Ends (listed_of state)
reply_seen (reply.Sticks reason at) = Sticks (reason_of reason) at

-- a reply is right for a state, if the function has this number
abbrev pub IsReplyOf : Setting → ℕ → Option ℕ → Bool → ListedState → Reply → Type 0
IsReplyOf setting number bound back given reply = (fun : FunTree) → slice_get setting.funs number ≡ Some fun → IsReply setting fun bound back given reply

abbrev pub AreRepliesOf : Setting → ℕ → Option ℕ → Bool → List ListedState → List Reply → Type 0
AreRepliesOf setting number bound back states replies = (fun : FunTree) → slice_get setting.funs number ≡ Some fun → AreReplies setting fun bound back states replies

-- the state of a reply, if it has one, has a text on the side at which a run of the function of this number ends
abbrev pub HasText : Setting → ℕ → Bool → Reply → Type 0
HasText setting number back (Ends state) = IsPrintableOn setting number (last_side back) state
HasText setting number back (Sticks reason at) = Unit {0}

module _ {K : Type 0} (taken : K → Option (List ℕ)) (faults : K → ℕ) where
  -- calls that write a reply, replies each after a separator, and replies with separators between them
  abbrev pub WroteReply : K → K → Result (Unit {0}) WriteFault → Setting → ℕ → Bool → Reply → Type 0
  WroteReply old new result setting number back reply =
      (fun : FunTree) → slice_get setting.funs number ≡ Some fun → Wrote taken faults old new result (reply_text setting (last_side back) fun reply)

  abbrev pub WroteFollowing : K → K → Result (Unit {0}) WriteFault → Setting → ℕ → Bool → List Reply → Type 0
  WroteFollowing old new result setting number back replies =
      (fun : FunTree) → slice_get setting.funs number ≡ Some fun → Wrote taken faults old new result (following_replies setting (last_side back) fun replies)

  abbrev pub WroteReplies : K → K → Result (Unit {0}) WriteFault → Setting → ℕ → Bool → List Reply → Type 0
  WroteReplies old new result setting number back replies =
      (fun : FunTree) → slice_get setting.funs number ≡ Some fun → Wrote taken faults old new result (replies_text setting (last_side back) fun replies)
