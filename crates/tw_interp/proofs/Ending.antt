-- Answers to runs of entries that follow the semantics.
use Rattle.std.proofs.Common.{◌≡◌, ◌∙◌, sym, subst, refl, ℕ, suc, Bool, true, false, not, Option, Some, None, slice_get, Result}
use Rattle.tw_text.specs.declared.place.Pos.{Pos}
use Rattle.tw_text.specs.Places.{first_place}
use Rattle.tw_syntax.specs.Programs.{FunTree}
use Rattle.tw_resolve.specs.Resolved.{type_at}
use Rattle.tw_resolve.specs.Setting.{Setting}
use Rattle.tw_state.specs.Results.{RunsBody, RunsNoBody, SticksEntry, SticksBody, SticksNoBody, directed}
use Rattle.tw_state.specs.Semantics.{Runs}
use Rattle.tw_state.specs.States.{State}
use Rattle.tw_state.specs.Steps.{Activation, activation_of, running_bound}
use Rattle.tw_state.specs.Stuck.{Reason, Sticks}
use Rattle.tw_state.proofs.Basics.{not_both, some_value}
use Rattle.tw_state.proofs.Undone.{undone}
use Rattle.tw_interp.specs.declared.fault.RunFault.{RunFault}
use Rattle.tw_state.specs.Depth.{EntryIsWithin, IsWithin, WithinBody, WithinNoBody}
use Rattle.tw_interp.specs.Following.{Follows, FollowsInside, Goes, RunsWithoutBody, Stops}
use Rattle.tw_interp.specs.Runs.{FollowsEntry, RunsTo}
use Rattle.tw_interp.proofs.Calling.{activation_is}

module _ (setting : Setting) (fun : FunTree) (bound : Option ℕ) (number : ℕ) (there : slice_get setting.funs number ≡ Some fun) (old new : State) (r : Result (Unit {0}) RunFault) where
  module _ (n depth : ℕ) (runs_with : Some n ≡ running_bound bound) where
    entry_within : EntryIsWithin setting depth fun bound → (inner : ℕ) × (depth ≡ suc inner) × IsWithin setting inner n fun.body
    entry_within (WithinBody inner m deep is within) = (inner, deep, subst (λ (k : ℕ). IsWithin setting inner k fun.body) (some_value (sym is ∙ sym runs_with)) within)
    entry_within (WithinNoBody none) = not_both none (sym runs_with)

    ran_by : (back : Bool) → Follows setting (activation_of setting fun n) (directed (not back) fun.body) old new r → (end : State) → RunsTo setting fun bound back old end → Goes (new ≡ end) r
    ran_by false follows end (RunsBody m is runs) = follows.ran end (subst (λ (k : ℕ). Runs setting (activation_of setting fun k) fun.body old end) (some_value (sym is ∙ sym runs_with)) runs)
    ran_by true follows end (RunsBody m is runs) = follows.ran end (undone setting (subst (λ (k : ℕ). Runs setting (activation_of setting fun k) fun.body end old) (some_value (sym is ∙ sym runs_with)) runs))
    ran_by false follows end (RunsNoBody value none cleared adds) = not_both none (sym runs_with)
    ran_by true follows end (RunsNoBody value none cleared adds) = not_both none (sym runs_with)

    stuck_by : (forward : Bool) → Follows setting (activation_of setting fun n) (directed forward fun.body) old new r → (why : Reason) (at : Pos) → SticksEntry setting fun bound forward old why at → Stops why at r
    stuck_by forward follows why at (SticksBody m is sticks) =
        follows.stuck why at (subst (λ (k : ℕ). Sticks setting (activation_of setting fun k) (directed forward fun.body) old why at) (some_value (sym is ∙ sym runs_with)) sticks)
    stuck_by false follows why at (SticksNoBody held value none cleared adds differ) = not_both none (sym runs_with)

    pub entry_body : (back : Bool) → EntryIsWithin setting depth fun bound → FollowsInside setting (record { types = type_at setting number; bound = n }) depth (not back) fun.body old new r → FollowsEntry setting fun bound back old new r
    entry_body back within inside =
        let parts = entry_within within in
        let follows = subst (λ (a : Activation). Follows setting a (directed (not back) fun.body) old new r) (sym (activation_is setting number n fun there)) (inside parts.0 parts.1 parts.2) in
        record { ran = ran_by back follows; stuck = stuck_by (not back) follows }

  module _ (none : None ≡ running_bound bound) where
    ran_without : (back : Bool) → RunsWithoutBody setting first_place (not back) fun.returned number old new r → (end : State) → RunsTo setting fun bound back old end → Goes (new ≡ end) r
    ran_without false w end (RunsBody m is runs) = not_both (sym none) is
    ran_without true w end (RunsBody m is runs) = not_both (sym none) is
    ran_without false w end (RunsNoBody value empty cleared adds) = w.assigned fun value end refl there cleared adds
    ran_without true w end (RunsNoBody value empty cleared adds) = w.removed fun value end refl there cleared adds

    stuck_without : (forward : Bool) → RunsWithoutBody setting first_place forward fun.returned number old new r → (why : Reason) (at : Pos) → SticksEntry setting fun bound forward old why at → Stops why at r
    stuck_without forward w why at (SticksBody m is sticks) = not_both (sym none) is
    stuck_without false w why at (SticksNoBody {bare = bare} held value empty cleared adds differ) = w.unmet fun held value bare refl there cleared adds differ

    pub entry_without : (back : Bool) → RunsWithoutBody setting first_place (not back) fun.returned number old new r → FollowsEntry setting fun bound back old new r
    entry_without back w = record { ran = ran_without back w; stuck = stuck_without (not back) w }
