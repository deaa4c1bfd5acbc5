use Rattle.std.proofs.Common.{◌∙◌, ap, ap₂, sym, subst, refl, List, map, length, Ok, Err, option_map}
use Rattle.std.proofs.lemmas.List.{length-map}
use Rattle.std.proofs.lemmas.Option.{none-some}
use Rattle.tw_text.specs.declared.limits.TheConstants.{DEPTH_LIMIT}
use Rattle.tw_syntax.specs.Programs.{FunTree, fun_tree}
use Rattle.tw_types.specs.FromCode.{value_of}
use Rattle.tw_resolve.specs.Resolved.{resolved_setting}
use Rattle.tw_state.specs.FromCode.{listed_of, state_at}
use Rattle.tw_state.specs.Listed as lists
use Rattle.tw_state.specs.Listed.{names_at_end}
use Rattle.tw_state.specs.FreeCells.{memory_of}
use Rattle.tw_state.specs.FromCode.{names_at}
use Rattle.tw_state.specs.States.{Name, State, IsWellFormed}
use Rattle.tw_state.specs.StateLines.{IsState}
use Rattle.tw_state.proofs.Calls.{AreDifferent}
use Rattle.tw_state.proofs.Basics.{same_some, some_value}
use Rattle.tw_interp.specs.declared.fault.RunFault.TheVariants as fault
use Rattle.tw_state.specs.Depth.{EntryIsWithin}
use Rattle.tw_interp.specs.Frames.{store_of}
use Rattle.tw_interp.specs.Machines.{state_of}
use Rattle.tw_interp.specs.Numbered.{numbered_names}
use Rattle.tw_interp.specs.Runs.{FollowsEntry, IsAnswerOf, IsFaultOf, first_side, last_side}
use Rattle.tw_interp.proofs.EntryAnswers.{if_err, by_sound, fault_is, new_is_answer, values_at_end, end_different, answer_is, loaded_at}
use Rattle.tw_interp.proofs.Loading.{enough_vars, listed_are, listed_numbered}
use Rattle.tw_interp.proofs.runner.Runner.run.Goals as goal

pub returns-in_err-run_machine-clause-fault : goal.returns-in_err-run_machine-clause-fault
returns-in_err-run_machine-clause-fault c =
    let resolved = c.args.self.now.checked.now.resolved in
    let setting = resolved_setting resolved in
    let fun = fun_tree c.fun_at-fun.result.now in
    let entry = c.args.self.now.entry in
    let given = listed_of c.args.state in
    let back = c.args.back in
    let there = c.fun_at-fun.ensures in
    let names = numbered_names setting entry.fun in
    let body = c.body-body.result in
    let is_body = c.body-body.ensures fun there in
    let are = listed_are setting entry.fun fun body is_body in
    let state = subst (λ (f : FunTree). IsState setting (first_side back) f given) (same_some c.requires.given.1 there) c.requires.given.2 in
    let formed : IsWellFormed (memory_of given) = record { chain = state.well_formed.chain; links = state.well_formed.links; once = state.well_formed.once } in
    let within = subst (λ (f : FunTree). EntryIsWithin setting DEPTH_LIMIT f entry.bound) (same_some c.requires.depth.1 there) c.requires.depth.2 in
    let loaded = loaded_at setting fun given back state.typed (store_of names c.in_ok-frame.frame)
    (c.in_ok-frame.ensures names (listed_numbered setting entry.fun fun body is_body)
    (enough_vars fun body (first_side back) (length c.deref.result.now) are (ap length c.deref.ensures.value ∙ sym (length-map c.args.state.store.items value_of) ∙ state.typed.counted))
    ∙ ap₂ (λ (l : List Name) vals. lists.store_of l (map value_of vals)) are c.deref.ensures.value) in
    let e = c.in_err-run_machine.field-0.0 in
    if_err (λ z. ∥ IsFaultOf setting entry.fun entry.bound back given z ∥₁) c.from_residual-in_err-run_machine.result e c.from_residual-in_err-run_machine.ensures.1
    (by_sound resolved c.args.self.now.checked.now.right entry.fun fun there (IsFaultOf setting entry.fun entry.bound back given e) (λ sound is.
    ∣ (
      fun,
      there,
      fault_is setting sound fun is entry.bound given formed back state.typed (state_of names c.run_machine.new.machine) e
          (subst (λ (s : State). FollowsEntry {A = Unit {0}} setting fun entry.bound back s (state_of names c.run_machine.new.machine) (Err e)) loaded (c.in_err-run_machine.ensures fun there within)),
    ) ∣₁))

pub returns-in_err-values-clause-fault : goal.returns-in_err-values-clause-fault
returns-in_err-values-clause-fault c =
    let given = listed_of c.args.state in
    if_err (λ z. ∥ IsFaultOf (resolved_setting c.args.self.now.checked.now.resolved) c.args.self.now.entry.fun c.args.self.now.entry.bound c.args.back given z ∥₁) c.from_residual-in_err-values.result fault.Memory c.from_residual-in_err-values.ensures.1
    ∣ (fun_tree c.fun_at-fun.result.now, c.fun_at-fun.ensures, tt) ∣₁

pub returns-in_default-clause-fault : goal.returns-in_default-clause-fault
returns-in_default-clause-fault c =
    let resolved = c.args.self.now.checked.now.resolved in
    let setting = resolved_setting resolved in
    let fun = fun_tree c.fun_at-fun.result.now in
    let entry = c.args.self.now.entry in
    let given = listed_of c.args.state in
    let back = c.args.back in
    let there = c.fun_at-fun.ensures in
    let names = numbered_names setting entry.fun in
    let body = c.body-body.result in
    let is_body = c.body-body.ensures fun there in
    let are = listed_are setting entry.fun fun body is_body in
    let new = state_of names c.run_machine.new.machine in
    let state = subst (λ (f : FunTree). IsState setting (first_side back) f given) (same_some c.requires.given.1 there) c.requires.given.2 in
    let formed : IsWellFormed (memory_of given) = record { chain = state.well_formed.chain; links = state.well_formed.links; once = state.well_formed.once } in
    let within = subst (λ (f : FunTree). EntryIsWithin setting DEPTH_LIMIT f entry.bound) (same_some c.requires.depth.1 there) c.requires.depth.2 in
    let loaded = loaded_at setting fun given back state.typed (store_of names c.in_ok-frame.frame)
    (c.in_ok-frame.ensures names (listed_numbered setting entry.fun fun body is_body)
    (enough_vars fun body (first_side back) (length c.deref.result.now) are (ap length c.deref.ensures.value ∙ sym (length-map c.args.state.store.items value_of) ∙ state.typed.counted))
    ∙ ap₂ (λ (l : List Name) vals. lists.store_of l (map value_of vals)) are c.deref.ensures.value) in
    by_sound resolved c.args.self.now.checked.now.right entry.fun fun there (IsFaultOf setting entry.fun entry.bound back given c.no_rule.result) (λ sound is.
    let has = new_is_answer setting sound fun is entry.bound given formed back state.typed new
    (subst (λ (s : State). FollowsEntry setting fun entry.bound back s new (Ok tt)) loaded (c.in_ok-run_machine.ensures fun there within)) in
    let values = values_at_end setting sound fun is entry.bound given formed back (state_at (first_side back) fun given) new has in
    let counted = values.counted ∙ sym (ap (λ side. length (names_at side fun)) c.last_side.ensures) ∙ sym c.name_count-count.ensures in
    let found = c.in_ok-values.ensures names values.values (listed_numbered setting entry.fun fun body is_body)
    (subst AreDifferent (sym are) (end_different setting sound fun is entry.bound given formed))
    (enough_vars fun body (last_side back) c.name_count-count.result are (c.name_count-count.ensures ∙ ap (λ side. length (names_at side fun)) c.last_side.ensures)) counted
    (values.lists_all ∙ ap (λ (l : List Name). lists.store_of l values.values) (sym are)) in
    absurd (none-some values.values (sym (ap (option_map (λ vals. map value_of vals.items)) c.in_default.is) ∙ found)))

pub returns-clause-answer : goal.returns-clause-answer
returns-clause-answer c =
    let resolved = c.args.self.now.checked.now.resolved in
    let setting = resolved_setting resolved in
    let fun = fun_tree c.fun_at-fun.result.now in
    let entry = c.args.self.now.entry in
    let given = listed_of c.args.state in
    let back = c.args.back in
    let there = c.fun_at-fun.ensures in
    let names = numbered_names setting entry.fun in
    let body = c.body-body.result in
    let is_body = c.body-body.ensures fun there in
    let are = listed_are setting entry.fun fun body is_body in
    let new = state_of names c.run_machine.new.machine in
    let state = subst (λ (f : FunTree). IsState setting (first_side back) f given) (same_some c.requires.given.1 there) c.requires.given.2 in
    let formed : IsWellFormed (memory_of given) = record { chain = state.well_formed.chain; links = state.well_formed.links; once = state.well_formed.once } in
    let within = subst (λ (f : FunTree). EntryIsWithin setting DEPTH_LIMIT f entry.bound) (same_some c.requires.depth.1 there) c.requires.depth.2 in
    let loaded = loaded_at setting fun given back state.typed (store_of names c.in_ok-frame.frame)
    (c.in_ok-frame.ensures names (listed_numbered setting entry.fun fun body is_body)
    (enough_vars fun body (first_side back) (length c.deref.result.now) are (ap length c.deref.ensures.value ∙ sym (length-map c.args.state.store.items value_of) ∙ state.typed.counted))
    ∙ ap₂ (λ (l : List Name) vals. lists.store_of l (map value_of vals)) are c.deref.ensures.value) in
    let answer = listed_of (record { free = c.run_machine.new.machine.free; cells = c.run_machine.new.machine.cells; store = c.in-Some.values }) in
    by_sound resolved c.args.self.now.checked.now.right entry.fun fun there (IsAnswerOf setting entry.fun entry.bound back given answer) (λ sound is.
    let has = new_is_answer setting sound fun is entry.bound given formed back state.typed new
    (subst (λ (s : State). FollowsEntry setting fun entry.bound back s new (Ok tt)) loaded (c.in_ok-run_machine.ensures fun there within)) in
    let values = values_at_end setting sound fun is entry.bound given formed back (state_at (first_side back) fun given) new has in
    let counted = values.counted ∙ sym (ap (λ side. length (names_at side fun)) c.last_side.ensures) ∙ sym c.name_count-count.ensures in
    let found = c.in_ok-values.ensures names values.values (listed_numbered setting entry.fun fun body is_body)
    (subst AreDifferent (sym are) (end_different setting sound fun is entry.bound given formed))
    (enough_vars fun body (last_side back) c.name_count-count.result are (c.name_count-count.ensures ∙ ap (λ side. length (names_at side fun)) c.last_side.ensures)) counted
    (values.lists_all ∙ ap (λ (l : List Name). lists.store_of l values.values) (sym are)) in
    ∣ (fun, there, answer_is setting sound fun is entry.bound given formed back new answer has refl refl (some_value (sym (ap (option_map (λ vals. map value_of vals.items)) c.in-Some.is) ∙ found))) ∣₁)
