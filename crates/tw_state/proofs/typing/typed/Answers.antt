use Rattle.std.proofs.Common.{◌∙◌, sym, ap, subst, length, map, take}
use Rattle.std.proofs.lemmas.List.{length-map}
use Rattle.std.specs.Bool.{Decides}
use Rattle.tw_syntax.specs.Programs.{fun_tree}
use Rattle.tw_resolve.specs.Resolved.{resolved_setting}
use Rattle.tw_types.specs.FromCode.{value_of}
use Rattle.tw_state.specs.FromCode.{listed_of}
use Rattle.tw_state.specs.Listed.{HaveTypes, names_at_end}
use Rattle.tw_state.specs.Steps.{fun_types}
use Rattle.tw_state.specs.TypedLists.{IsTypedMemory}
use Rattle.tw_state.proofs.EntryNames.{names_taken}
use Rattle.tw_state.proofs.TypedStates.{entry_memory, entry_tested}
use Rattle.tw_state.proofs.typing.typed.Goals as goal

pub returns-then-not-memory_typed : goal.returns-then-not-memory_typed
returns-then-not-memory_typed c = (
  (λ k. cc),
  (λ entry.
      sym c.if-not-memory_typed.true
      ∙ c.memory_typed.ensures.1 (subst (λ w. IsTypedMemory w c.targets.result.now (listed_of c.args.state.now)) (sym c.widths.ensures) (entry_memory c.args.checked.now c.args.entry.fun c.args.side (listed_of c.args.state.now) (fun_tree c.fun_at-fun.result.now) c.fun_at-fun.ensures c.targets.result.now c.targets.ensures entry))),
)

pub returns : goal.returns
returns c =
    let setting = resolved_setting c.args.checked.now.resolved in
    let fun = fun_tree c.fun_at-fun.result.now in
    let counted = sym c.len.ensures ∙ c.if-len-name_count.false ∙ c.name_count.ensures in
    entry_tested c.args.checked.now c.args.entry.fun c.args.side (listed_of c.args.state.now) fun c.fun_at-fun.ensures c.targets.result.now c.targets.ensures c.values_typed.result
    (take (length c.deref.result.now) (names_at_end fun))
    (names_taken c.args.side fun (length c.deref.result.now) (c.deref.ensures.len ∙ counted))
    (length-map c.args.state.now.store.items value_of ∙ ap length (sym c.deref.ensures.value) ∙ c.deref.ensures.len ∙ counted)
    (subst (λ w. IsTypedMemory w c.targets.result.now (listed_of c.args.state.now)) c.widths.ensures (c.memory_typed.ensures.0 c.if-not-memory_typed.false))
    (subst (λ values. Decides c.values_typed.result (HaveTypes setting.widths (fun_types setting fun) (take (length c.deref.result.now) (names_at_end fun)) (map value_of values))) c.deref.ensures.value c.values_typed.ensures)
