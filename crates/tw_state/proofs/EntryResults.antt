-- The result of an entry: it is determined, it determines the state, and a state without one is stuck, forward and backward.
use Rattle.std.proofs.Common.{◌≡◌, ◌∙◌, refl, sym, ap, subst, ℕ, Bool, true, false, ◌⊎◌, inl, inr, ⊎_elim, Option, Some, None, option_and_then, slice_get, option_map}
use Rattle.tw_text.specs.declared.place.Pos.{Pos}
use Rattle.tw_text.specs.Places.{first_place}
use Rattle.tw_syntax.specs.Programs.{FunTree}
use Rattle.tw_types.specs.Values.{Value, zero_value}
use Rattle.tw_types.proofs.Zeros.{zero_value-typed}
use Rattle.tw_resolve.specs.Declarations.{number_of}
use Rattle.tw_resolve.specs.Expressions.{fun_named}
use Rattle.tw_resolve.specs.Setting.{Setting}
use Rattle.tw_check.specs.Names.{Names, with_name}
use Rattle.tw_check.specs.Liveness.{live_at_start, live_at_end}
use Rattle.tw_check.specs.Reverse.{reverse_of}
use Rattle.tw_check.proofs.NameSets.{with_name-same}
use Rattle.tw_check.proofs.Reversal.{reverse_of-reverse_of}
use Rattle.tw_check.proofs.Undoing.{right-reverse_of}
use Rattle.tw_state.specs.States.{Name, State, IsWellFormed, with_value, without}
use Rattle.tw_state.specs.Evaluation.{zero_of}
use Rattle.tw_state.specs.Steps.{fun_types, activation_of, Adds, running_bound}
use Rattle.tw_state.specs.Semantics.{Runs}
use Rattle.tw_state.specs.Stuck.{Reason, Unmet, Sticks}
use Rattle.tw_state.specs.Results.{IsTypedAt, RunsEntry, RunsBody, RunsNoBody, HasResult, directed, SticksEntry, SticksBody, SticksNoBody}
use Rattle.tw_state.proofs.Basics.{same_some, not_both, by_option, some_value}
use Rattle.tw_state.proofs.SingleSteps.{adds_value, adds_bare, adds_full}
use Rattle.tw_state.proofs.Determined.{determined}
use Rattle.tw_state.proofs.Undone.{of_same, undone, injective}
use Rattle.tw_state.proofs.FreeList.{formed_after, formed_same}
use Rattle.tw_state.proofs.TypedTrees.{FunFits, FunsFit, funs_different, reverse_fits}
use Rattle.tw_state.proofs.TypedRuns.{typed_after, typed_added, typed_removed}
use Rattle.tw_state.proofs.LiveRuns.{FunsRight, live_added, live_removed, lives}
use Rattle.tw_state.proofs.Sticking.{never_both, AreSame, one_reason}
use Rattle.tw_state.proofs.Deciding.{by_value, adds_without}
use Rattle.tw_state.proofs.Ending.{Ends, HasEnd, IsStuck, live_value, dead_value}
use Rattle.tw_state.proofs.CallEnds.{FunsDescend}
use Rattle.tw_state.proofs.Total.{bodies_end}

-- what the checks of a program give: its functions are typed and right, and their calls go down
pub record IsSound (setting : Setting) : Type 0 where
  pub fit : FunsFit setting
  pub right : FunsRight setting
  pub descend : FunsDescend setting

-- the function is one of the program's
pub record IsFunction (setting : Setting) (fun : FunTree) : Type 0 where
  pub name : Name
  pub number : ℕ
  pub numbered : number_of setting.funs name ≡ Some number
  pub named : fun_named setting name ≡ Some fun

-- a function by its number, as the entry of a request has it
pub function_of_number : (setting : Setting) (name : Name) (number : ℕ) (fun : FunTree) → number_of setting.funs name ≡ Some number → slice_get setting.funs number ≡ Some fun → IsFunction setting fun
function_of_number setting name number fun numbered there =
    record { name = name; number = number; numbered = numbered; named = ap (option_and_then (slice_get setting.funs)) numbered ∙ there }

-- one of two holds, and not both
abbrev pub ExactlyOne : Type 0 → Type 0 → Type 0
ExactlyOne A B = (A × (B → ⊥)) ⊎ (B × (A → ⊥))

module _ (setting : Setting) (sound : IsSound setting) (fun : FunTree) (is : IsFunction setting fun) (bound : Option ℕ) where
  fits : FunFits setting fun
  fits = sound.fit is.name fun is.named

  pub entry_determined : {x y z : State} → RunsEntry setting fun bound x y → RunsEntry setting fun bound x z → y ≡ z
  entry_determined {x} {y} {z} (RunsBody n running a) (RunsBody m running2 b) =
      determined setting (funs_different setting sound.fit) a (subst (λ k. Runs setting (activation_of setting fun k) fun.body x z) (same_some running2 running) b)
  entry_determined (RunsBody n running a) (RunsNoBody v none cleared adds) = not_both none running
  entry_determined (RunsNoBody v none cleared adds) (RunsBody n running a) = not_both none running
  entry_determined (RunsNoBody v none cleared adds) (RunsNoBody w none2 cleared2 adds2) = adds_full (same_some cleared cleared2) adds adds2

  -- the result of a state
  pub one_result : {x y z : State} → HasResult setting fun bound x y → HasResult setting fun bound x z → y ≡ z
  one_result a b = entry_determined a.runs b.runs

  -- different states have different results
  pub one_start : {x y z : State} → HasResult setting fun bound x z → HasResult setting fun bound y z → x ≡ y
  one_start {x} {y} {z} a b = by a.runs b.runs
    where
      by : RunsEntry setting fun bound x z → RunsEntry setting fun bound y z → x ≡ y
      by (RunsBody n running c) (RunsBody m running2 d) =
          injective setting (funs_different setting sound.fit) c (subst (λ k. Runs setting (activation_of setting fun k) fun.body y z) (same_some running2 running) d)
      by (RunsBody n running c) (RunsNoBody v none cleared adds) = not_both none running
      by (RunsNoBody v none cleared adds) (RunsBody n running c) = not_both none running
      by (RunsNoBody v none cleared adds) (RunsNoBody w none2 cleared2 adds2) = adds_bare adds adds2

  -- the result is well-formed, as the state is
  pub result_well_formed : {x y : State} → HasResult setting fun bound x y → IsWellFormed y
  result_well_formed {x} {y} a = by a.runs
    where
      by : RunsEntry setting fun bound x y → IsWellFormed y
      by (RunsBody n running runs) = formed_after setting runs a.well_formed
      by (RunsNoBody v none cleared adds) = formed_same (sym (ap (λ (s : State). s.head) adds.after)) (sym (ap (λ (s : State). s.cells) adds.after)) a.well_formed

  zero_is : (result : Value) → zero_of setting fun.result ≡ Some result → zero_value fits.result.0 ≡ result
  zero_is result cleared = some_value (sym (ap (option_map zero_value) fits.result.1) ∙ cleared)

  -- a state has a result, or the entry is stuck
  pub entry_ends : {x : State} → IsWellFormed x → IsTypedAt setting fun (live_at_start fun) x
      → ((y : State) × HasResult setting fun bound x y) ⊎ ((reason : Reason) × (place : Pos) × SticksEntry setting fun bound true x reason place)
  entry_ends {x} formed start = by_option (running_bound bound) no_body body
    where
      unused : x.store fun.returned.text ≡ None
      unused = dead_value x.store (live_at_start fun) fun.returned.text start.names fits.different.0

      no_body : running_bound bound ≡ None → ((y : State) × HasResult setting fun bound x y) ⊎ ((reason : Reason) × (place : Pos) × SticksEntry setting fun bound true x reason place)
      no_body none =
          let v = zero_value fits.result.0 in
          let adds : Adds fun.returned.text (zero_value fits.result.0) x (record x { store = with_value x.store fun.returned.text (zero_value fits.result.0) }) = record { unused = unused; after = refl } in
          inl (
            record x { store = with_value x.store fun.returned.text (zero_value fits.result.0) },
            record {
              well_formed = formed;
              typed_at_start = start;
              runs = RunsNoBody v none (ap (option_map zero_value) fits.result.1) adds;
              typed_at_end = record {
                typed = typed_added setting fits.result.0 fits.result.2 (zero_value-typed setting.widths fits.result.0) adds start.typed;
                names = live_added adds ∙ ap (λ (l : Names). with_name l fun.returned.text true) start.names;
              };
            },
          )

      ended : (n : ℕ) → running_bound bound ≡ Some n → Ends setting (activation_of setting fun n) fun.body x → ((y : State) × HasResult setting fun bound x y) ⊎ ((reason : Reason) × (place : Pos) × SticksEntry setting fun bound true x reason place)
      ended n running (HasEnd y runs) =
          inl (
            y,
            record {
              well_formed = formed;
              typed_at_start = start;
              runs = RunsBody n running runs;
              typed_at_end = record { typed = typed_after setting sound.fit fits.body runs start.typed; names = lives setting sound.fit sound.right fits.body (sound.right is.name fun is.named) runs start.names };
            },
          )
      ended n running (IsStuck reason place stuck) = inr (reason, place, SticksBody n running stuck)

      body : (n : ℕ) → running_bound bound ≡ Some n → ((y : State) × HasResult setting fun bound x y) ⊎ ((reason : Reason) × (place : Pos) × SticksEntry setting fun bound true x reason place)
      body n running =
          ended n running ((bodies_end setting sound.fit sound.right sound.descend is.number n is.name fun is.numbered is.named x start.typed formed).forward start.names)

  -- backward: a state is a result, or the entry is stuck
  pub entry_ends_back : {y : State} → IsWellFormed y → IsTypedAt setting fun (live_at_end fun) y
      → ((x : State) × HasResult setting fun bound x y) ⊎ ((reason : Reason) × (place : Pos) × SticksEntry setting fun bound false y reason place)
  entry_ends_back {y} formed end = by_option (running_bound bound) no_body body
    where
      held : (v : Value) × (y.store fun.returned.text ≡ Some v)
      held = live_value y.store (live_at_end fun) fun.returned.text end.names (with_name-same (live_at_start fun) fun.returned.text true)

      bare_adds : Adds fun.returned.text held.0 (record y { store = without y.store fun.returned.text }) y
      bare_adds = adds_without y fun.returned.text held.0 held.1

      no_body : running_bound bound ≡ None → ((x : State) × HasResult setting fun bound x y) ⊎ ((reason : Reason) × (place : Pos) × SticksEntry setting fun bound false y reason place)
      no_body none =
          by_value held.0 (zero_value fits.result.0)
          (λ same.
          inl (
            record y { store = without y.store fun.returned.text },
            record {
              well_formed = formed_same refl refl formed;
              typed_at_start = record {
                typed = typed_removed setting bare_adds end.typed;
                names = live_removed fits.different.0 end.names bare_adds;
              };
              runs = RunsNoBody (zero_value fits.result.0) none (ap (option_map zero_value) fits.result.1)
                  (subst (λ v. Adds fun.returned.text v (record y { store = without y.store fun.returned.text }) y) same bare_adds);
              typed_at_end = end;
            },
          ))
          (λ differ. inr (Unmet, first_place, SticksNoBody held.0 (zero_value fits.result.0) none (ap (option_map zero_value) fits.result.1) bare_adds differ))

      ended : (n : ℕ) → running_bound bound ≡ Some n → Ends setting (activation_of setting fun n) (reverse_of fun.body) y → ((x : State) × HasResult setting fun bound x y) ⊎ ((reason : Reason) × (place : Pos) × SticksEntry setting fun bound false y reason place)
      ended n running (HasEnd x runs) =
          let back = reverse_fits setting (fun_types setting fun) fun.body fits.body in
          inl (
            x,
            record {
              well_formed = formed_after setting runs formed;
              typed_at_start = record { typed = typed_after setting sound.fit back runs end.typed; names = lives setting sound.fit sound.right back (right-reverse_of.0 (sound.right is.name fun is.named)) runs end.names };
              runs = RunsBody n running (of_same setting (reverse_of-reverse_of fun.body) (undone setting runs));
              typed_at_end = end;
            },
          )
      ended n running (IsStuck reason place stuck) = inr (reason, place, SticksBody n running stuck)

      body : (n : ℕ) → running_bound bound ≡ Some n → ((x : State) × HasResult setting fun bound x y) ⊎ ((reason : Reason) × (place : Pos) × SticksEntry setting fun bound false y reason place)
      body n running =
          ended n running ((bodies_end setting sound.fit sound.right sound.descend is.number n is.name fun is.numbered is.named y end.typed formed).backward end.names)

  -- an entry that is stuck has no result, forward and backward
  pub stuck_has_no_result : {x y : State} {reason : Reason} {place : Pos} → SticksEntry setting fun bound true x reason place → HasResult setting fun bound x y → ⊥
  stuck_has_no_result {x} {y} (SticksBody n running stuck) result = by result.runs
    where
      by : RunsEntry setting fun bound x y → ⊥
      by (RunsBody m running2 runs) =
          never_both setting (funs_different setting sound.fit) stuck (subst (λ k. Runs setting (activation_of setting fun k) fun.body x y) (same_some running2 running) runs)
      by (RunsNoBody v none cleared adds) = not_both none running

  pub stuck_is_no_result : {x y : State} {reason : Reason} {place : Pos} → SticksEntry setting fun bound false y reason place → HasResult setting fun bound x y → ⊥
  stuck_is_no_result {x} {y} (SticksBody n running stuck) result = by result.runs
    where
      by : RunsEntry setting fun bound x y → ⊥
      by (RunsBody m running2 runs) =
          never_both setting (funs_different setting sound.fit) stuck
          (undone setting (subst (λ k. Runs setting (activation_of setting fun k) fun.body x y) (same_some running2 running) runs))
      by (RunsNoBody v none cleared adds) = not_both none running
  stuck_is_no_result {x} {y} (SticksNoBody held result none cleared adds differ) has = by has.runs
    where
      by : RunsEntry setting fun bound x y → ⊥
      by (RunsBody m running runs) = not_both none running
      by (RunsNoBody v none2 cleared2 adds2) = differ (adds_value adds adds2 ∙ same_some cleared2 cleared)

  -- an entry is stuck for one reason at one place
  pub entry_one_reason : {forward : Bool} {x : State} {reason other : Reason} {place elsewhere : Pos} → SticksEntry setting fun bound forward x reason place → SticksEntry setting fun bound forward x other elsewhere → AreSame reason other place elsewhere
  entry_one_reason {forward} {x} {reason} {other} {place} {elsewhere} (SticksBody n running a) (SticksBody m running2 b) =
      one_reason setting (funs_different setting sound.fit) a (subst (λ k. Sticks setting (activation_of setting fun k) (directed forward fun.body) x other elsewhere) (same_some running2 running) b)
  entry_one_reason (SticksBody n running a) (SticksNoBody held result none cleared adds differ) = not_both none running
  entry_one_reason (SticksNoBody held result none cleared adds differ) (SticksBody n running a) = not_both none running
  entry_one_reason (SticksNoBody held result none cleared adds differ) (SticksNoBody held2 result2 none2 cleared2 adds2 differ2) = (refl, refl)

  -- forward: exactly one of a result, and a reason and a place
  pub exactly_one : {x : State} → IsWellFormed x → IsTypedAt setting fun (live_at_start fun) x
      → ExactlyOne ((y : State) × HasResult setting fun bound x y) ((reason : Reason) × (place : Pos) × SticksEntry setting fun bound true x reason place)
  exactly_one formed start =
      ⊎_elim (λ has. inl (has, λ stuck. stuck_has_no_result stuck.2 has.1)) (λ stuck. inr (stuck, λ has. stuck_has_no_result stuck.2 has.1)) (entry_ends formed start)

  -- backward: exactly one of a state with this result, and a reason and a place
  pub exactly_one_back : {y : State} → IsWellFormed y → IsTypedAt setting fun (live_at_end fun) y
      → ExactlyOne ((x : State) × HasResult setting fun bound x y) ((reason : Reason) × (place : Pos) × SticksEntry setting fun bound false y reason place)
  exactly_one_back formed end =
      ⊎_elim (λ has. inl (has, λ stuck. stuck_is_no_result stuck.2 has.1)) (λ stuck. inr (stuck, λ has. stuck_is_no_result stuck.2 has.1)) (entry_ends_back formed end)
