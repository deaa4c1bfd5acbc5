-- Replies to the last states of a list, and replies that are written one by one.
use Rattle.std.proofs.Common.{◌≡◌, ◌∙◌, ap, sym, subst, refl, arith, ℕ, ◌+◌, Bool, List, [], ◌∷◌, ◌++◌, length, map, reverse, drop, Option, Some, Result, Ok, Err, slice_get, option_map, append_assoc, append-nil}
use Rattle.std.specs.List.{AllByRecursion}
use Rattle.std.proofs.lemmas.List.{map-append, reverse-append}
use Rattle.std.proofs.lemmas.Option.{slice_get-map}
use Rattle.tw_io.specs.Devices.{Wrote}
use Rattle.tw_io.specs.declared.device.WriteFault.{WriteFault}
use Rattle.tw_io.proofs.Devices.{wrote_none}
use Rattle.tw_syntax.specs.Programs.{FunTree}
use Rattle.tw_resolve.specs.Setting.{Setting}
use Rattle.tw_state.specs.declared.state.State.{State}
use Rattle.tw_state.specs.FromCode.{ListedState, listed_of}
use Rattle.tw_state.specs.StateLines.{separator}
use Rattle.tw_state.proofs.Blocks.{get_all}
use Rattle.tw_state.proofs.EntryNames.{dropped_at}
use Rattle.tw_state.proofs.Writing.{part_then, part_broke}
use Rattle.tw_interp.specs.Runs.{IsGivenTo, last_side}
use Rattle.tower.specs.declared.replies.Reply.{Reply as ReplyOfCode}
use Rattle.tower.specs.Run.{AreReplies, following_replies, replies_text, reply_text}
use Rattle.tower.specs.Replies.{AreRepliesOf, HasText, IsReplyOf, WroteFollowing, WroteReplies, WroteReply, reply_seen}

-- an item of a list of which all have a property
all_at : {A : Type 0} (P : A → Type 0) (xs : List A) (x : A) (ys : List A) → AllByRecursion P (xs ++ x ∷ ys) → P x
all_at P [] x ys all = all.0
all_at P (y ∷ xs) x ys all = all_at P xs x ys all.1

module _ (setting : Setting) (number : ℕ) (bound : Option ℕ) (back : Bool) (all : List State) where
  -- the last states of the list have these replies, the last one first, and the states before them are left
  pub record IsRunSoFar (left : List State) (replies : List ReplyOfCode) : Type 0 where
    pub done : List State
    pub parts : all ≡ left ++ done
    pub right : AreRepliesOf setting number bound back (map listed_of done) (map reply_seen (reverse replies))
    pub texts : AllByRecursion (HasText setting number back) (map reply_seen (reverse replies))

  pub none_run : IsRunSoFar all []
  none_run = record { done = []; parts = sym (append-nil all); right = λ fun there. tt; texts = tt }

  next_parts : (left rest done : List State) (state : State) → left ≡ rest ++ state ∷ [] → all ≡ left ++ done → all ≡ rest ++ state ∷ done
  next_parts left rest done state is parts = parts ∙ ap (λ s. s ++ done) is ∙ append_assoc rest (state ∷ []) done

  -- the next state is one that was given
  pub next_given : (left rest : List State) (replies : List ReplyOfCode) (state : State) → IsRunSoFar left replies → left ≡ rest ++ state ∷ [] → AllByRecursion (IsGivenTo setting number back) (map listed_of all)
      → IsGivenTo setting number back (listed_of state)
  next_given left rest replies state so_far is given =
      all_at (IsGivenTo setting number back) (map listed_of rest) (listed_of state) (map listed_of so_far.done)
      (subst (AllByRecursion (IsGivenTo setting number back)) (ap (map listed_of) (next_parts left rest so_far.done state is so_far.parts) ∙ map-append listed_of rest (state ∷ so_far.done)) given)

  -- one more state has its reply
  pub one_more : (left rest : List State) (replies more : List ReplyOfCode) (state : State) (reply : ReplyOfCode) → IsRunSoFar left replies → left ≡ rest ++ state ∷ [] → more ≡ replies ++ reply ∷ []
      → IsReplyOf setting number bound back (listed_of state) (reply_seen reply) → HasText setting number back (reply_seen reply) → IsRunSoFar rest more
  one_more left rest replies more state reply so_far is longer right text =
      let order = ap reverse longer ∙ reverse-append replies (reply ∷ []) in
      record {
        done = state ∷ so_far.done;
        parts = next_parts left rest so_far.done state is so_far.parts;
        right = λ fun there. subst (λ rs. AreReplies setting fun bound back (listed_of state ∷ map listed_of so_far.done) (map reply_seen rs)) (sym order) (right fun there, so_far.right fun there);
        texts = subst (λ rs. AllByRecursion (HasText setting number back) (map reply_seen rs)) (sym order) (text, so_far.texts);
      }

  -- all states have replies once none is left
  pub all_replied : (left : List State) (replies ordered : List ReplyOfCode) → IsRunSoFar left replies → left ≡ [] → ordered ≡ reverse replies → AreRepliesOf setting number bound back (map listed_of all) (map reply_seen ordered)
  all_replied left replies ordered so_far none order = λ fun there.
      let whole : so_far.done ≡ all = sym (so_far.parts ∙ ap (λ s. s ++ so_far.done) none) in
      subst (λ states. AreReplies setting fun bound back (map listed_of states) (map reply_seen ordered)) whole
      (subst (λ rs. AreReplies setting fun bound back (map listed_of so_far.done) (map reply_seen rs)) (sym order) (so_far.right fun there))

  pub all_texts : (left : List State) (replies ordered : List ReplyOfCode) → IsRunSoFar left replies → ordered ≡ reverse replies → AllByRecursion (HasText setting number back) (map reply_seen ordered)
  all_texts left replies ordered so_far order = subst (λ rs. AllByRecursion (HasText setting number back) (map reply_seen rs)) (sym order) so_far.texts

module _ {K : Type 0} (taken : K → Option (List ℕ)) (faults : K → ℕ) (setting : Setting) (number : ℕ) (back : Bool) where
  -- the texts of the replies from a place on
  following_at : (fun : FunTree) (replies : List ReplyOfCode) (place : ℕ) (reply : ReplyOfCode) → slice_get replies place ≡ Some reply
      → following_replies setting (last_side back) fun (map reply_seen (drop place replies))
      ≡ separator ++ (reply_text setting (last_side back) fun (reply_seen reply) ++ following_replies setting (last_side back) fun (map reply_seen (drop (place + 1) replies)))
  following_at fun replies place reply found = ap (λ rs. following_replies setting (last_side back) fun (map reply_seen rs)) (dropped_at replies place reply found)

  pub separator_broke : (a b : K) (fault : WriteFault) (replies : List ReplyOfCode) (place : ℕ) (reply : ReplyOfCode) → slice_get replies place ≡ Some reply → Wrote taken faults a b (Err fault) separator
      → WroteFollowing taken faults a b (Err fault) setting number back (map reply_seen (drop place replies))
  separator_broke a b fault replies place reply found wrote = λ fun there. part_broke taken faults a b fault _ _ _ (following_at fun replies place reply found) wrote

  pub reply_broke : (a b c : K) (fault : WriteFault) (replies : List ReplyOfCode) (place : ℕ) (reply : ReplyOfCode) → slice_get replies place ≡ Some reply → Wrote taken faults a b (Ok tt) separator
      → WroteReply taken faults b c (Err fault) setting number back (reply_seen reply) → WroteFollowing taken faults a c (Err fault) setting number back (map reply_seen (drop place replies))
  reply_broke a b c fault replies place reply found first second = λ fun there.
      part_then taken faults a b c (Err fault) _ _ _ (following_at fun replies place reply found) first (part_broke taken faults b c fault _ _ _ refl (second fun there))

  pub reply_then : (a b c d : K) (result : Result (Unit {0}) WriteFault) (replies : List ReplyOfCode) (place : ℕ) (reply : ReplyOfCode) → slice_get replies place ≡ Some reply → Wrote taken faults a b (Ok tt) separator
      → WroteReply taken faults b c (Ok tt) setting number back (reply_seen reply) → WroteFollowing taken faults c d result setting number back (map reply_seen (drop (place + 1) replies))
      → WroteFollowing taken faults a d result setting number back (map reply_seen (drop place replies))
  reply_then a b c d result replies place reply found first second later = λ fun there.
      part_then taken faults a b d result _ _ _ (following_at fun replies place reply found) first (part_then taken faults b c d result _ _ _ refl (second fun there) (later fun there))

  pub none_follow : (a : K) (replies : List ReplyOfCode) → replies ≡ [] → WroteFollowing taken faults a a (Ok tt) setting number back (map reply_seen replies)
  none_follow a replies none = λ fun there. subst (λ rs. Wrote taken faults a a (Ok tt) (following_replies setting (last_side back) fun (map reply_seen rs))) (sym none) (wrote_none taken faults a)

  -- a reply that has a text, by its place
  pub text_at : (replies : List ReplyOfCode) (place : ℕ) (reply : ReplyOfCode) → slice_get replies place ≡ Some reply → AllByRecursion (HasText setting number back) (map reply_seen replies) → HasText setting number back (reply_seen reply)
  text_at replies place reply found all =
      get_all (HasText setting number back) (map reply_seen replies) place (reply_seen reply) all (slice_get-map reply_seen replies place ∙ ap (option_map reply_seen) found)

  -- the first reply is written, and then the others
  pub first_broke : (a b : K) (fault : WriteFault) (replies : List ReplyOfCode) (first : ReplyOfCode) (following : List ReplyOfCode) → replies ≡ first ∷ following → WroteReply taken faults a b (Err fault) setting number back (reply_seen first)
      → WroteReplies taken faults a b (Err fault) setting number back (map reply_seen replies)
  first_broke a b fault replies first following is wrote = λ fun there.
      part_broke taken faults a b fault _ _ _ (ap (λ rs. replies_text setting (last_side back) fun (map reply_seen rs)) is) (wrote fun there)

  pub first_then : (a b c : K) (result : Result (Unit {0}) WriteFault) (replies : List ReplyOfCode) (first : ReplyOfCode) (following : List ReplyOfCode) → replies ≡ first ∷ following
      → WroteReply taken faults a b (Ok tt) setting number back (reply_seen first) → WroteFollowing taken faults b c result setting number back (map reply_seen following)
      → WroteReplies taken faults a c result setting number back (map reply_seen replies)
  first_then a b c result replies first following is wrote later = λ fun there.
      part_then taken faults a b c result _ _ _ (ap (λ rs. replies_text setting (last_side back) fun (map reply_seen rs)) is) (wrote fun there) (later fun there)
