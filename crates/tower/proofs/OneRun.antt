-- A run has at most one answer.
use Rattle.std.proofs.Common.{◌≡◌, ◌∙◌, ap, ap₂, sym, subst, refl, ℕ, Bool, ◌||◌, if◌then◌else◌, List, [], ◌∷◌, ◌++◌, Option, Some, None}
use Rattle.std.proofs.Math.Logic.{∥∥₁_elim}
use Rattle.std.proofs.Props.{props}
use Rattle.tw_text.specs.declared.place.Pos.{Pos}
use Rattle.tw_text.specs.declared.refusal.Refusal.{Refusal}
use Rattle.tw_text.specs.declared.diagnostic.Diagnostic.TheVariants as diagnostic
use Rattle.tw_syntax.specs.Programs.{FunTree, ProgramTree}
use Rattle.tw_types.specs.Types.{AreInRange}
use Rattle.tw_resolve.specs.Demands.{first_broken}
use Rattle.tw_resolve.specs.Setting.{Setting}
use Rattle.tw_state.specs.FromCode.{ListedState}
use Rattle.tw_state.specs.StateText.{state_text}
use Rattle.tw_state.specs.StateLines.{separator}
use Rattle.tw_state.specs.Stuck.{Reason}
use Rattle.tw_state.proofs.EntryResults.{IsSound, IsFunction}
use Rattle.tw_state.proofs.SoundPrograms.{sound}
use Rattle.tw_state.proofs.TargetTexts.{HasPlainAliases}
use Rattle.tw_frames.specs.declared.measured.Measured.{Measured}
use Rattle.tw_frames.specs.Measures.{limit_rules}
use Rattle.tw_interp.specs.Runs.{first_side, last_side}
use Rattle.tw_interp.specs.StuckLines.{stuck_line}
use Rattle.tw_interp.proofs.OneReply.{one_answer, one_stuck, answer_or_stuck}
use Rattle.tower.specs.Requests.{FileRequest}
use Rattle.tower.specs.Entries.{EntryIn, setting_in, fun_in}
use Rattle.tower.specs.Outcomes.{Outcome, Prints, PrintsStuck, Refuses}
use Rattle.tower.specs.Run.{Reply, Ends, Sticks, IsReply, AreReplies, is_stuck, is_one_stuck, reply_text, following_replies, replies_text, replied, state_refusal, EntryAnswer, PastLimit, WrongStates, Replied}
use Rattle.tower.proofs.Binds.{some_is}
use Rattle.tower.proofs.Entries.{moved, entry_right}
use Rattle.tower.proofs.OneReading.{HasOneReading, entry_reading}

-- the reply to a state is determined
module _ (setting : Setting) (fun : FunTree) (right : ∥ IsSound setting × IsFunction setting fun ∥₁) (bound : Option ℕ) (back : Bool) where
  -- two replies have the same text, and are stuck alike
  record SameReply (reply other : Reply) : Type 0 where
    text : reply_text setting (last_side back) fun reply ≡ reply_text setting (last_side back) fun other
    stuck : is_stuck reply ≡ is_stuck other

  same_line : (reason other : Reason) (at elsewhere : Pos) → (reason ≡ other) × (at ≡ elsewhere) → stuck_line reason at ≡ stuck_line other elsewhere
  same_line reason other at elsewhere same = ap₂ stuck_line same.0 same.1

  -- what follows from two truths that are known to hold, and from the program being sound
  from_both : {P Q R : Type 0} → ∥ P ∥₁ → ∥ Q ∥₁ → IsProp R → (IsSound setting → IsFunction setting fun → P → Q → R) → R
  from_both x y prop f = ∥∥₁_elim right prop (λ r. ∥∥₁_elim x prop (λ p. ∥∥₁_elim y prop (λ q. f r.0 r.1 p q)))

  same_reply : (given : ListedState) (reply other : Reply) → IsReply setting fun bound back given reply → IsReply setting fun bound back given other → SameReply reply other
  same_reply given (Ends a) (Ends b) x y = record {
    text = from_both x y (hlevel props) (λ sound is p q. ap (state_text setting (last_side back) fun) (one_answer setting sound fun is bound back given a b p q));
    stuck = refl;
  }
  same_reply given (Sticks r p) (Sticks r' p') x y = record {
    text = from_both x y (hlevel props) (λ sound is s t. same_line r r' p p' (one_stuck setting sound fun is bound back given r r' p p' s t));
    stuck = refl;
  }
  same_reply given (Ends a) (Sticks r p) x y = absurd (from_both x y (hlevel props) (λ sound is s t. answer_or_stuck setting sound fun is bound back given a r p s t))
  same_reply given (Sticks r p) (Ends a) x y = absurd (from_both x y (hlevel props) (λ sound is s t. answer_or_stuck setting sound fun is bound back given a r p t s))

  -- the same of lists of replies
  record SameReplies (replies others : List Reply) : Type 0 where
    text : replies_text setting (last_side back) fun replies ≡ replies_text setting (last_side back) fun others
    following : following_replies setting (last_side back) fun replies ≡ following_replies setting (last_side back) fun others
    stuck : is_one_stuck replies ≡ is_one_stuck others

  same_replies : (states : List ListedState) (replies others : List Reply) → AreReplies setting fun bound back states replies → AreReplies setting fun bound back states others → SameReplies replies others
  same_replies [] [] [] x y = record { text = refl; following = refl; stuck = refl }
  same_replies (given ∷ states) (reply ∷ replies) (other ∷ others) x y =
      let first = same_reply given reply other x.0 y.0 in
      let rest = same_replies states replies others x.1 y.1 in
      record {
        text = ap₂ (λ a b. a ++ b) first.text rest.following;
        following = ap₂ (λ a b. separator ++ (a ++ b)) first.text rest.following;
        stuck = ap₂ (λ a b. a || b) first.stuck rest.stuck;
      }
  same_replies [] [] (other ∷ others) x y = absurd y
  same_replies [] (reply ∷ replies) others x y = absurd x
  same_replies (given ∷ states) [] others x y = absurd x
  same_replies (given ∷ states) (reply ∷ replies) [] x y = absurd y

  same_outcome : (states : List ListedState) (replies others : List Reply) → AreReplies setting fun bound back states replies → AreReplies setting fun bound back states others
      → replied setting (last_side back) fun replies ≡ replied setting (last_side back) fun others
  same_outcome states replies others x y =
      let same = same_replies states replies others x y in
      ap₂ (λ (stuck : Bool) (text : List ℕ). if stuck then PrintsStuck text else Prints text) same.stuck same.text

  within_or_past : {P : Type 0} (measured : Measured) (refusal : Refusal) → first_broken (limit_rules measured) ≡ None → first_broken (limit_rules measured) ≡ Some refusal → P
  within_or_past measured refusal none some = let e = sym none ∙ some in cc

  module _ (measured : Measured) (lines : List ℕ) (reading : HasOneReading setting (first_side back) fun lines) where
    pub one_entry_answer : (outcome other : Outcome) → EntryAnswer setting fun bound back measured lines outcome → EntryAnswer setting fun bound back measured lines other → outcome ≡ other
    one_entry_answer outcome other (PastLimit refusal x a) (PastLimit refusal' y b) = a ∙ ap (λ r. Refuses (diagnostic.Refused r)) (some_is refusal refusal' (sym x ∙ y)) ∙ sym b
    one_entry_answer outcome other (PastLimit refusal x a) (WrongStates fault why none y is b) = within_or_past measured refusal none x
    one_entry_answer outcome other (PastLimit refusal x a) (Replied states replies none are y b) = within_or_past measured refusal none x
    one_entry_answer outcome other (WrongStates fault why none x is a) (PastLimit refusal y b) = within_or_past measured refusal none y
    one_entry_answer outcome other (Replied states replies none are x a) (PastLimit refusal y b) = within_or_past measured refusal none y
    one_entry_answer outcome other (WrongStates fault why none x is a) (WrongStates fault' why' none' y is' b) =
        a ∙ ap Refuses (some_is why why' (sym is ∙ ap state_refusal (reading.one_fault fault fault' x y) ∙ is')) ∙ sym b
    one_entry_answer outcome other (WrongStates fault why none x is a) (Replied states replies none' are y b) = absurd (reading.not_both states fault are x)
    one_entry_answer outcome other (Replied states replies none are x a) (WrongStates fault why none' y is b) = absurd (reading.not_both states fault are y)
    one_entry_answer outcome other (Replied states replies none are x a) (Replied states' replies' none' are' y b) =
        a ∙ same_outcome states' replies replies' (subst (λ s. AreReplies setting fun bound back s replies) (reading.one_list states states' are are') x) y ∙ sym b

-- so the run of the entry of a request has one answer
pub one_by_entry : (request : FileRequest) (tree : ProgramTree) (found other : EntryIn request tree) → AreInRange request.widths → HasPlainAliases tree → (lines : List ℕ) (outcome another : Outcome)
    → EntryAnswer (setting_in found) (fun_in found) request.bound request.inverse found.measured lines outcome
    → EntryAnswer (setting_in other) (fun_in other) request.bound request.inverse other.measured lines another → outcome ≡ another
one_by_entry request tree found other range plain lines outcome another x y =
    one_entry_answer (setting_in other) (fun_in other) (entry_right request tree other) request.bound request.inverse other.measured lines (entry_reading request tree other range plain (first_side request.inverse) lines) outcome another
    (moved request tree found other (λ setting fun entry measured. EntryAnswer setting fun request.bound request.inverse measured lines outcome) x) y
