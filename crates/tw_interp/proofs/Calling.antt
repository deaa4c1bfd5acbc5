-- Answers to calls that follow the semantics.
use Rattle.std.proofs.Common.{◌≡◌, ◌≢◌, ◌∙◌, ap, sym, subst, subst₂, refl, ℕ, suc, Bool, true, false, if◌then◌else◌, ◌||◌, List, [], ◌∷◌, map, Option, Some, None, option_map, option_and_then, slice_get, Result, Ok, Err, bytes_eq}
use Rattle.std.specs.List.{AllByRecursion}
use Rattle.std.proofs.Math.Bool.{Bool-set}
use Rattle.std.proofs.Math.Logic.{∥∥₁_elim}
use Rattle.std.proofs.Math.Path.{fun_ext}
use Rattle.std.proofs.lemmas.Bool.{or_parts}
use Rattle.std.proofs.lemmas.Option.{none-some}
use Rattle.tw_text.specs.declared.place.Pos.{Pos}
use Rattle.tw_syntax.specs.Names.{NameTree}
use Rattle.tw_syntax.specs.Programs.{FunTree, program_tree}
use Rattle.tw_syntax.specs.Statements.{StmtTree, LetStmt}
use Rattle.tw_syntax.specs.Terms.{BoundTree, CallRhs}
use Rattle.tw_types.specs.Types.{Ty}
use Rattle.tw_types.specs.Values.{Value, zero_value}
use Rattle.tw_resolve.specs.Declarations.{is_one_of, number_of}
use Rattle.tw_resolve.specs.Expressions.{fun_named, variable_type}
use Rattle.tw_resolve.specs.Programs.{end_variables}
use Rattle.tw_resolve.specs.declared.resolved.Resolved.{Resolved}
use Rattle.tw_resolve.specs.Entries.{types_in}
use Rattle.tw_resolve.specs.Resolved.{resolved_setting, result_at, type_at}
use Rattle.tw_resolve.specs.Setting.{Setting, type_of}
use Rattle.tw_resolve.proofs.Texts.{bytes_eq-sym}
use Rattle.tw_check.specs.Liveness.{param_names}
use Rattle.tw_check.specs.Reverse.{reverse_of}
use Rattle.tw_state.specs.Evaluation.{zero_of}
use Rattle.tw_state.specs.Results.{directed}
use Rattle.tw_state.specs.Semantics.{Runs, RunsCall, RunsUncall, RunsCallZero, RunsUncallZero}
use Rattle.tw_state.specs.States.{Name, State, Store}
use Rattle.tw_state.specs.Steps.{Activation, activation_of, Adds, callee_bound, links, seen, seen_by, put_back, KeepsOthers}
use Rattle.tw_state.specs.Stuck.{Reason, Unmet, Sticks, StuckCall, StuckUncall, StuckUncallZero}
use Rattle.tw_state.proofs.Basics.{by_test, contradiction, name_test, not_both, same_name, same_some, some_value}
use Rattle.tw_state.proofs.Calls.{AreDifferent, HaveDifferentNames, inner, outer, links_different}
use Rattle.tw_state.proofs.Deciding.{put_back_others}
use Rattle.tw_state.proofs.SoundPrograms.{funs_fit}
use Rattle.tw_state.proofs.TypedTrees.{funs_different}
use Rattle.tw_state.proofs.SingleSteps.{added, adds_bare, adds_value}
use Rattle.tw_interp.specs.declared.fault.Reason.TheVariants as reasons
use Rattle.tw_interp.specs.declared.fault.RunFault.{RunFault}
use Rattle.tw_interp.specs.declared.fault.RunFault.TheVariants as fault
use Rattle.tw_state.specs.Depth.{IsWithin, WithinCall, WithinCallZero}
use Rattle.tw_interp.specs.Following.{Follows, FollowsInside, FollowsWithin, Goes, RunsWithoutBody, Stops}
use Rattle.tw_interp.proofs.Following.{stops_with}
use Rattle.tw_interp.proofs.Leading.{goes_never}

-- names that are all different are so in one way
pub different_prop : (names : List Name) (x y : AreDifferent names) → x ≡ y
different_prop [] x y = refl
different_prop (name ∷ names) x y = λ i. (Bool-set (is_one_of name names) false x.0 y.0 i, different_prop names x.1 y.1 i)

-- what a callee sees of the store after a call is what it left there
later_seen : (more : List (Name × Name)) (shared : Store) (inside : Name) (value : Option Value) (end : Store) → is_one_of inside (inner more) ≡ false → AllByRecursion (λ link. shared link.0 ≡ end link.1) more
    → AllByRecursion (λ link. (if bytes_eq inside link.0 then value else shared link.0) ≡ end link.1) more
later_seen [] shared inside value end off all = tt
later_seen (link ∷ more) shared inside value end off all =
    let parts = or_parts (bytes_eq inside link.0) (is_one_of inside (inner more)) off in
    (ap (λ k. if k then value else shared link.0) parts.0 ∙ all.0, later_seen more shared inside value end parts.1 all.1)

seen_each : (shared : List (Name × Name)) (end : Store) → AreDifferent (inner shared) → AllByRecursion (λ link. seen shared end link.0 ≡ end link.1) shared
seen_each [] end different = tt
seen_each (link ∷ more) end different = (
  ap (λ k. if k then end link.1 else seen more end link.0) (name_test link.0),
  later_seen more (seen more end) link.0 (end link.1) end different.0 (seen_each more end different.1),
)

put_all : (more : List (Name × Name)) (shared end old : Store) → AllByRecursion (λ link. shared link.0 ≡ end link.1) more → (name : Name) → is_one_of name (outer more) ≡ true → put_back more shared old name ≡ end name
put_all [] shared end old all name on = contradiction on refl
put_all (link ∷ more) shared end old all name on = by (bytes_eq link.1 name) refl (put_all more shared end old all.1 name)
  where
    by : (k : Bool) → bytes_eq link.1 name ≡ k → (is_one_of name (outer more) ≡ true → put_back more shared old name ≡ end name)
        → (if k then shared link.0 else put_back more shared old name) ≡ end name
    by true is deeper = all.0 ∙ ap end (same_name link.1 name is)
    by false is deeper = deeper (subst (λ k. (k || is_one_of name (outer more)) ≡ true) (bytes_eq-sym name link.1 ∙ is) on)

-- the caller's store after a call
pub put_back_is : (shared : List (Name × Name)) (old end : Store) → AreDifferent (inner shared) → KeepsOthers shared old end → put_back shared (seen shared end) old ≡ end
put_back_is shared old end different others =
    fun_ext (λ name.
    by_test (is_one_of name (outer shared)) (put_all shared (seen shared end) end old (seen_each shared end different) name)
    (λ off. put_back_others shared (seen shared end) old name off ∙ sym (others name off)))

module _ (setting : Setting) where
  -- the function of a number that a name has
  fun_is : {number : ℕ} (callee : Name) {fun : FunTree} → Some number ≡ number_of setting.funs callee → fun_named setting callee ≡ Some fun → slice_get setting.funs number ≡ Some fun
  fun_is {number} callee {fun} numbered named = ap (option_and_then (slice_get setting.funs)) numbered ∙ named

  -- the activation of the function of a number
  pub activation_is : (number n : ℕ) (fun : FunTree) → slice_get setting.funs number ≡ Some fun → activation_of setting fun n ≡ record { types = type_at setting number; bound = n }
  activation_is number n fun at =
      ap (λ (o : Option FunTree). record { types = λ name. option_and_then (λ variables. variable_type variables name) (option_map (end_variables setting) o); bound = n }) (sym at)

  zero_is : (number : ℕ) (ty : Ty) (fun : FunTree) (value : Value) → result_at setting number ≡ Some ty → slice_get setting.funs number ≡ Some fun → zero_of setting fun.result ≡ Some value → zero_value ty ≡ value
  zero_is number ty fun value result at is =
      some_value (sym (ap (option_map zero_value) (sym (ap (option_and_then (λ (f : FunTree). type_of setting f.result)) at) ∙ result)) ∙ is)

  module _ (at : Pos) (assigns : Bool) (target : NameTree) (number : ℕ) (old : State) (removes : assigns ≡ false) where
    pub zero_unheld : (new : State) (e : RunFault) → None ≡ old.store target.text → RunsWithoutBody {A = Unit {0}} setting at assigns target number old new (Err e)
    zero_unheld new e none = record {
      assigned = λ fun value end is at_number cleared adds. contradiction is removes;
      removed = λ fun value end is at_number cleared adds. not_both (sym none) (added adds);
      unmet = λ fun held value bare is at_number cleared adds differ. not_both (sym none) (added adds);
    }

    module _ (held cleared : Value) (ty : Ty) (bare : State) (result : result_at setting number ≡ Some ty) (is_cleared : cleared ≡ zero_value ty) (mine : Adds target.text held bare old) where
      pub zero_differs : (new : State) (e : RunFault) → held ≢ cleared → e ≡ fault.Stuck reasons.Unmet at → RunsWithoutBody {A = Unit {0}} setting at assigns target number old new (Err e)
      zero_differs new e differ told = record {
        assigned = λ fun value end is at_number zero_value_is adds. contradiction is removes;
        removed = λ fun value end is at_number zero_value_is adds. absurd (differ (adds_value mine adds ∙ sym (is_cleared ∙ zero_is number ty fun value result at_number zero_value_is)));
        unmet = λ fun other value bare2 is at_number zero_value_is adds differ2. stops_with (Unit {0}) Unmet at e reasons.Unmet told refl;
      }

      pub zero_removed : held ≡ cleared → RunsWithoutBody {A = Unit {0}} setting at assigns target number old bare (Ok tt)
      zero_removed same = record {
        assigned = λ fun value end is at_number zero_value_is adds. contradiction is removes;
        removed = λ fun value end is at_number zero_value_is adds. adds_bare mine adds;
        unmet = λ fun other value bare2 is at_number zero_value_is adds differ. differ (adds_value adds mine ∙ same ∙ is_cleared ∙ zero_is number ty fun value result at_number zero_value_is);
      }

  module _ (act : Activation) (at : Pos) (target callee : NameTree) (bound : Option BoundTree) (args : List NameTree) (old : State) where
    abbrev call : Bool → StmtTree
    call assigns = LetStmt at assigns target (CallRhs callee bound args)

    named_run : {P : Type 0} (assigns : Bool) {end : State} → Runs setting act (call assigns) old end → ((fun : FunTree) → fun_named setting callee.text ≡ Some fun → P) → P
    named_run true (RunsCall fun n named is unused body others) f = f fun named
    named_run false (RunsUncall fun n named is unused body others) f = f fun named
    named_run true (RunsCallZero fun value named is cleared adds) f = f fun named
    named_run false (RunsUncallZero fun value named is cleared adds) f = f fun named

    named_stick : {P : Type 0} (assigns : Bool) {why : Reason} {place : Pos} → Sticks setting act (call assigns) old why place → ((fun : FunTree) → fun_named setting callee.text ≡ Some fun → P) → P
    named_stick true (StuckCall fun n named is body) f = f fun named
    named_stick false (StuckUncall fun n named is body) f = f fun named
    named_stick false (StuckUncallZero fun held value named is adds cleared differ) f = f fun named

    pub call_unknown : (depth : ℕ) (assigns : Bool) (new : State) (e : RunFault) → None ≡ number_of setting.funs callee.text → FollowsWithin {A = Unit {0}} setting act depth true (call assigns) old new (Err e)
    call_unknown depth assigns new e none within = record {
      ran = λ end runs. named_run assigns runs (λ fun named. absurd (none-some fun (ap (option_and_then (slice_get setting.funs)) none ∙ named)));
      stuck = λ why place sticks. named_stick assigns sticks (λ fun named. absurd (none-some fun (ap (option_and_then (slice_get setting.funs)) none ∙ named)));
    }

    module _ (number : ℕ) (numbered : Some number ≡ number_of setting.funs callee.text) where
      pub call_zero : (depth : ℕ) (assigns : Bool) (new : State) (r : Result (Unit {0}) RunFault) → None ≡ callee_bound act.bound bound → RunsWithoutBody setting at assigns target number old new r
          → FollowsWithin setting act depth true (call assigns) old new r
      call_zero depth assigns new r none without_body within = record { ran = ran assigns without_body; stuck = stuck assigns without_body }
        where
          ran : (assigns : Bool) → RunsWithoutBody setting at assigns target number old new r → (end : State) → Runs setting act (call assigns) old end → Goes (new ≡ end) r
          ran true w end (RunsCall fun n named is unused body others) = not_both (sym none) is
          ran false w end (RunsUncall fun n named is unused body others) = not_both (sym none) is
          ran true w end (RunsCallZero fun value named is cleared adds) = w.assigned fun value end refl (fun_is callee.text numbered named) cleared adds
          ran false w end (RunsUncallZero fun value named is cleared adds) = w.removed fun value end refl (fun_is callee.text numbered named) cleared adds

          stuck : (assigns : Bool) → RunsWithoutBody setting at assigns target number old new r → (why : Reason) (place : Pos) → Sticks setting act (call assigns) old why place → Stops why place r
          stuck true w why place (StuckCall fun n named is body) = not_both (sym none) is
          stuck false w why place (StuckUncall fun n named is body) = not_both (sym none) is
          stuck false w why place (StuckUncallZero {bare = bare} fun held value named is adds cleared differ) = w.unmet fun held value bare refl (fun_is callee.text numbered named) cleared adds differ

      module _ (fun : FunTree) (n : ℕ) (there : slice_get setting.funs number ≡ Some fun) (runs_with : Some n ≡ callee_bound act.bound bound) where
        same_fun : {other : FunTree} → fun_named setting callee.text ≡ Some other → other ≡ fun
        same_fun named = same_some (fun_is callee.text numbered named) there

        same_bound : {m : ℕ} → callee_bound act.bound bound ≡ Some m → m ≡ n
        same_bound is = some_value (sym (runs_with ∙ is))

        body_within : {depth : ℕ} (assigns : Bool) → IsWithin setting depth act.bound (call assigns) → (deeper : ℕ) × (depth ≡ suc deeper) × IsWithin setting deeper n fun.body
        body_within assigns (WithinCall {depth = deeper} other m named is body) =
            (deeper, refl, subst₂ (λ (k : ℕ) (f : FunTree). IsWithin setting deeper k f.body) (same_bound is) (same_fun named) body)
        body_within assigns (WithinCallZero is) = not_both is (sym runs_with)

        body_run : (assigns : Bool) {end : State} → Runs setting act (call assigns) old end
            → Runs setting (activation_of setting fun n) (directed assigns fun.body) (seen_by (links fun target args) old) (seen_by (links fun target args) end) × KeepsOthers (links fun target args) old.store end.store
        body_run true {end} (RunsCall other m named is unused body others) = (
          subst₂ (λ f k. Runs setting (activation_of setting f k) f.body (seen_by (links f target args) old) (seen_by (links f target args) end)) (same_fun named) (same_bound is) body,
          subst (λ f. KeepsOthers (links f target args) old.store end.store) (same_fun named) others,
        )
        body_run false {end} (RunsUncall other m named is unused body others) = (
          subst₂ (λ f k. Runs setting (activation_of setting f k) (reverse_of f.body) (seen_by (links f target args) old) (seen_by (links f target args) end)) (same_fun named) (same_bound is) body,
          subst (λ f. KeepsOthers (links f target args) old.store end.store) (same_fun named) others,
        )
        body_run true (RunsCallZero other value named is cleared adds) = not_both is (sym runs_with)
        body_run false (RunsUncallZero other value named is cleared adds) = not_both is (sym runs_with)

        body_stick : (assigns : Bool) {why : Reason} {place : Pos} → Sticks setting act (call assigns) old why place
            → Sticks setting (activation_of setting fun n) (directed assigns fun.body) (seen_by (links fun target args) old) why place
        body_stick true {why} {place} (StuckCall other m named is body) =
            subst₂ (λ f k. Sticks setting (activation_of setting f k) f.body (seen_by (links f target args) old) why place) (same_fun named) (same_bound is) body
        body_stick false {why} {place} (StuckUncall other m named is body) =
            subst₂ (λ f k. Sticks setting (activation_of setting f k) (reverse_of f.body) (seen_by (links f target args) old) why place) (same_fun named) (same_bound is) body
        body_stick false (StuckUncallZero other held value named is adds cleared differ) = not_both is (sym runs_with)

        module _ (depth : ℕ) (assigns : Bool) (within : IsWithin setting depth act.bound (call assigns)) (entered mid : State) (enters : entered ≡ seen_by (links fun target args) old) where
          body_follows : (r : Result (Unit {0}) RunFault) → FollowsInside setting (record { types = type_at setting number; bound = n }) depth assigns fun.body entered mid r
              → Follows setting (activation_of setting fun n) (directed assigns fun.body) (seen_by (links fun target args) old) mid r
          body_follows r inside =
              let parts = body_within assigns within in
              subst₂ (λ (a : Activation) (s : State). Follows setting a (directed assigns fun.body) s mid r) (sym (activation_is number n fun there)) enters (inside parts.0 parts.1 parts.2)

          pub call_stopped : (new : State) (e : RunFault) → FollowsInside {A = Unit {0}} setting (record { types = type_at setting number; bound = n }) depth assigns fun.body entered mid (Err e)
              → Follows {A = Unit {0}} setting act (call assigns) old new (Err e)
          call_stopped new e inside =
              let follows = body_follows (Err e) inside in
              record {
                ran = λ end runs. goes_never (mid ≡ seen_by (links fun target args) end) (new ≡ end) e (follows.ran (seen_by (links fun target args) end) (body_run assigns runs).0);
                stuck = λ why place sticks. follows.stuck why place (body_stick assigns sticks);
              }

          pub call_done : (new : State) → HaveDifferentNames setting → FollowsInside {A = Unit {0}} setting (record { types = type_at setting number; bound = n }) depth assigns fun.body entered mid (Ok tt)
              → new ≡ record mid { store = put_back (links fun target args) mid.store old.store } → Follows {A = Unit {0}} setting act (call assigns) old new (Ok tt)
          call_done new different inside after =
              let follows = body_follows (Ok tt) inside in
              record {
                ran = λ end runs.
                    let body = body_run assigns runs in
                    let same = follows.ran (seen_by (links fun target args) end) body.0 in
                    let apart = named_run assigns runs (λ other named. links_different fun target args (subst (λ (f : FunTree). AreDifferent (f.returned.text ∷ map (λ param. param.name.text) f.params)) (same_fun named) (different callee.text other named))) in
                    after
                    ∙ ap (λ (s : State). record s { store = put_back (links fun target args) s.store old.store }) same
                    ∙ ap (λ (s : Store). record end { store = s }) (put_back_is (links fun target args) old.store end.store apart body.1);
                stuck = λ why place sticks. follows.stuck why place (body_stick assigns sticks);
              }

-- the names of each function of a resolved program are different
pub names_differ : (resolved : Resolved) → HaveDifferentNames (resolved_setting resolved)
names_differ resolved =
    ∥∥₁_elim resolved.typed (λ x y. λ i name fun named. different_prop (fun.returned.text ∷ param_names fun) (x name fun named) (y name fun named) i)
    (λ tables. funs_different (resolved_setting resolved) (funs_fit resolved.tables.types.widths (program_tree resolved.program.now) (types_in resolved.tables.types.table.entries) tables.typed))
