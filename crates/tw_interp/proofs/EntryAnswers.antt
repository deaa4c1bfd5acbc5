-- The answers to runs of entries of checked programs.
use Rattle.std.proofs.Common.{◌≡◌, ◌∙◌, ap, sym, subst, refl, arith, ℕ, suc, Bool, true, false, not, List, [], ◌∷◌, length, Option, Some, slice_get, Result, Ok, Err, IfErr}
use Rattle.std.specs.List.{AllByRecursion}
use Rattle.std.specs.Result.{IsErrAnd}
use Rattle.std.proofs.Math.Logic.{◌⊎◌, inl, inr, ∥∥₁_elim, ∥∥₁_prop}
use Rattle.tw_text.specs.declared.place.Pos.{Pos}
use Rattle.tw_syntax.specs.Programs.{FunTree, program_tree}
use Rattle.tw_types.specs.Types.{Widths}
use Rattle.tw_types.specs.Values.{Value}
use Rattle.tw_resolve.specs.declared.resolved.Resolved.{Resolved}
use Rattle.tw_resolve.specs.Declarations.{funs_of}
use Rattle.tw_resolve.specs.Entries.{types_in}
use Rattle.tw_resolve.specs.Expressions.{Types}
use Rattle.tw_resolve.specs.Resolved.{resolved_setting}
use Rattle.tw_resolve.specs.Setting.{Setting}
use Rattle.tw_check.specs.Liveness.{param_names}
use Rattle.tw_check.specs.Right.{IsRight}
use Rattle.tw_state.specs.FreeCells.{memory_of}
use Rattle.tw_state.specs.FromCode.{ListedState, names_at, live_at, state_at}
use Rattle.tw_state.specs.Listed as lists
use Rattle.tw_state.specs.Listed.{HaveTypes, names_at_end}
use Rattle.tw_state.specs.Results.{IsTypedAt, SticksEntry}
use Rattle.tw_state.specs.States.{Name, State, Store, IsWellFormed}
use Rattle.tw_state.specs.Steps.{fun_types}
use Rattle.tw_state.specs.Stuck.{Reason}
use Rattle.tw_state.specs.TypedLists.{IsTypedOn}
use Rattle.tw_state.proofs.Calls.{AreDifferent}
use Rattle.tw_state.proofs.EntryFunctions.{function_of, more_different}
use Rattle.tw_state.proofs.EntryResults.{IsSound, IsFunction, entry_ends, entry_ends_back, stuck_has_no_result, stuck_is_no_result}
use Rattle.tw_state.proofs.FreeList.{formed_same}
use Rattle.tw_state.proofs.Listed.{listed, live_at_end-listed}
use Rattle.tw_state.proofs.SingleSteps.{same_state}
use Rattle.tw_state.proofs.SoundPrograms.{sound}
use Rattle.tw_interp.specs.declared.fault.RunFault.{RunFault}
use Rattle.tw_interp.specs.declared.fault.RunFault.TheVariants as fault
use Rattle.tw_interp.specs.Following.{reason_of}
use Rattle.tw_interp.specs.Runs.{FollowsEntry, HasAnswer, IsAnswer, IsFault, IsStuck, RunsTo, first_side, last_side}
use Rattle.tw_interp.proofs.Listing.{listed_short}

-- an answer that passes a fault on
pub if_err : {A : Type 0} (P : RunFault → Type 0) (r : Result A RunFault) (e : RunFault) → IsErrAnd r (λ z. z ≡ e) → P e → IfErr r P
if_err P (Ok x) e is p = absurd is
if_err P (Err z) e is p = subst P (sym is) p

-- as many values as names
have_length : (widths : Widths) (types : Types) (names : List Name) (values : List Value) → HaveTypes widths types names values → length values ≡ length names
have_length widths types [] [] typed = refl
have_length widths types (name ∷ names) (value ∷ values) typed = ap suc (have_length widths types names values typed.1)
have_length widths types [] (value ∷ values) typed = absurd typed
have_length widths types (name ∷ names) [] typed = absurd typed

module _ (setting : Setting) (is_sound : IsSound setting) (fun : FunTree) (is : IsFunction setting fun) (bound : Option ℕ) (given : ListedState) (formed : IsWellFormed (memory_of given)) where
  abbrev Ends : Bool → Type 0
  Ends back = ((y : State) × HasAnswer setting fun bound back (state_at (first_side back) fun given) y) ⊎ ((why : Reason) × (at : Pos) × SticksEntry setting fun bound (not back) (state_at (first_side back) fun given) why at)

  ends : (back : Bool) → IsTypedOn setting (first_side back) fun given → Ends back
  ends false start = entry_ends setting is_sound fun is bound (formed_same refl refl formed) start.typed
  ends true start = entry_ends_back setting is_sound fun is bound (formed_same refl refl formed) start.typed

  runs_of : (back : Bool) (x y : State) → HasAnswer setting fun bound back x y → RunsTo setting fun bound back x y
  runs_of false x y has = has.runs
  runs_of true x y has = has.runs

  end_of : (back : Bool) (x y : State) → HasAnswer setting fun bound back x y → IsTypedAt setting fun (live_at (last_side back) fun) y
  end_of false x y has = has.typed_at_end
  end_of true x y has = has.typed_at_start

  none_if_stuck : (back : Bool) (x y : State) (why : Reason) (at : Pos) → SticksEntry setting fun bound (not back) x why at → HasAnswer setting fun bound back x y → ⊥
  none_if_stuck false x y why at sticks has = stuck_has_no_result setting is_sound fun is bound sticks has
  none_if_stuck true x y why at sticks has = stuck_is_no_result setting is_sound fun is bound sticks has

  pub fault_is : (back : Bool) → IsTypedOn setting (first_side back) fun given → (new : State) (e : RunFault) → FollowsEntry {A = Unit {0}} setting fun bound back (state_at (first_side back) fun given) new (Err e) → IsFault setting fun bound back given e
  fault_is back start new fault.Memory follows = tt
  fault_is back start new (fault.Stuck code place) follows = by (ends back start)
    where
      by : Ends back → IsStuck setting fun bound back given (reason_of code) place
      by (inl has) = absurd (follows.ran has.0 (runs_of back (state_at (first_side back) fun given) has.0 has.1))
      by (inr stuck) =
          let told = follows.stuck stuck.0 stuck.1 stuck.2 in
          let sticks = subst (λ (p : Pos). SticksEntry setting fun bound (not back) (state_at (first_side back) fun given) (reason_of code) p) (sym told.1)
          (subst (λ (w : Reason). SticksEntry setting fun bound (not back) (state_at (first_side back) fun given) w stuck.1) (sym told.0) stuck.2) in
          record { sticks = sticks; none = λ other has. none_if_stuck back (state_at (first_side back) fun given) other (reason_of code) place sticks has }

  pub new_is_answer : (back : Bool) → IsTypedOn setting (first_side back) fun given → (new : State) → FollowsEntry {A = Unit {0}} setting fun bound back (state_at (first_side back) fun given) new (Ok tt)
      → HasAnswer setting fun bound back (state_at (first_side back) fun given) new
  new_is_answer back start new follows = by (ends back start)
    where
      by : Ends back → HasAnswer setting fun bound back (state_at (first_side back) fun given) new
      by (inl has) = subst (λ (s : State). HasAnswer setting fun bound back (state_at (first_side back) fun given) s) (sym (follows.ran has.0 (runs_of back (state_at (first_side back) fun given) has.0 has.1))) has.1
      by (inr stuck) = absurd (follows.stuck stuck.0 stuck.1 stuck.2)

  pub end_different : AreDifferent (names_at_end fun)
  end_different = let different = (is_sound.fit is.name fun is.named).different in more_different (param_names fun) fun.returned.text different.0 different.1

  -- the values of a state at the side at which a run ends
  pub record Values (back : Bool) (store : Store) : Type 0 where
    pub values : List Value
    pub counted : length values ≡ length (names_at (last_side back) fun)
    pub lists_side : store ≡ lists.store_of (names_at (last_side back) fun) values
    pub lists_all : store ≡ lists.store_of (names_at_end fun) values

  pub values_at_end : (back : Bool) (x y : State) → HasAnswer setting fun bound back x y → Values back y.store
  values_at_end false x y has =
      let typed = end_of false x y has in
      let found = listed setting.widths (fun_types setting fun) (names_at_end fun) y.store typed.typed.names (typed.names ∙ live_at_end-listed fun) in
      record { values = found.0; counted = have_length setting.widths (fun_types setting fun) (names_at_end fun) found.0 found.1; lists_side = found.2; lists_all = found.2 }
  values_at_end true x y has =
      let typed = end_of true x y has in
      let found = listed setting.widths (fun_types setting fun) (param_names fun) y.store typed.typed.names typed.names in
      let counted = have_length setting.widths (fun_types setting fun) (param_names fun) found.0 found.1 in
      record {
        values = found.0;
        counted = counted;
        lists_side = found.2;
        lists_all = found.2 ∙ listed_short (param_names fun) (fun.returned.text ∷ []) found.0 (omega (arith, counted));
      }

  pub answer_is : (back : Bool) (new : State) (answer : ListedState) (has : HasAnswer setting fun bound back (state_at (first_side back) fun given) new) → answer.head ≡ new.head → answer.cells ≡ new.cells
      → answer.values ≡ (values_at_end back (state_at (first_side back) fun given) new has).values → IsAnswer setting fun bound back given answer
  answer_is back new answer has head cells same =
      let values = values_at_end back (state_at (first_side back) fun given) new has in
      let state_is : new ≡ state_at (last_side back) fun answer =
      same_state (sym head) (sym cells) (values.lists_side ∙ sym (ap (lists.store_of (names_at (last_side back) fun)) same)) in
      record {
        counted = ap length same ∙ values.counted;
        has = subst (λ (s : State). HasAnswer setting fun bound back (state_at (first_side back) fun given) s) state_is has;
      }

-- what holds if the program is sound and the function is one of it, holds of each checked program, for all that can be said but once
pub by_sound : (resolved : Resolved) → ∥ AllByRecursion IsRight (funs_of (program_tree resolved.program.now).decls) ∥₁ → (number : ℕ) (fun : FunTree) → slice_get (funs_of (program_tree resolved.program.now).decls) number ≡ Some fun
    → (P : Type 0) → (IsSound (resolved_setting resolved) → IsFunction (resolved_setting resolved) fun → ∥ P ∥₁) → ∥ P ∥₁
by_sound resolved right number fun there P f =
    let program = program_tree resolved.program.now in
    let widths = resolved.tables.types.widths in
    let types = types_in resolved.tables.types.table.entries in
    ∥∥₁_elim resolved.typed ∥∥₁_prop (λ tables. ∥∥₁_elim right ∥∥₁_prop (λ each. f (sound widths program types tables.typed each) (function_of widths program types tables.typed number fun there)))

-- the state that is loaded from a list of values
pub loaded_at : (setting : Setting) (fun : FunTree) (given : ListedState) (back : Bool) → IsTypedOn setting (first_side back) fun given → (store : Store) → store ≡ lists.store_of (names_at_end fun) given.values
    → record { head = given.head; cells = given.cells; store = store } ≡ state_at (first_side back) fun given
loaded_at setting fun given false start store is =
    ap (λ (s : Store). record { head = given.head; cells = given.cells; store = s }) (is ∙ sym (listed_short (param_names fun) (fun.returned.text ∷ []) given.values (omega (arith, start.counted))))
loaded_at setting fun given true start store is = ap (λ (s : Store). record { head = given.head; cells = given.cells; store = s }) is
