use Rattle.std.proofs.Common.{◌≡◌, ◌∙◌, true, false, sym, ap, refl}
use Rattle.tw_syntax.specs.Types.{UnitType, UintType, BoolType, PtrType, written_tree, written_kind_tree}
use Rattle.tw_types.specs.FromCode.{ty_of}
use Rattle.tw_resolve.specs.Searches.{names_in}
use Rattle.tw_resolve.proofs.Visiting.{leaf_visited, typed_visited, pair_visited, name_opened, name_met, opened_steps, tasks_if, is_some_as, was_new, was_there}
use Rattle.tw_resolve.proofs.alias_search.visit.Goals as goal

pub returns-in-Unit-clause-state : goal.returns-in-Unit-clause-state
returns-in-Unit-clause-state c =
    let at = c.args.written.now.at in
    leaf_visited _ _ _ _ _ _ c.requires.state (UnitType at) (ap (written_kind_tree at) c.in-Unit.is) (λ name. refl)

pub returns-in-Uint-clause-state : goal.returns-in-Uint-clause-state
returns-in-Uint-clause-state c =
    let at = c.args.written.now.at in
    leaf_visited _ _ _ _ _ _ c.requires.state (UintType at) (ap (written_kind_tree at) c.in-Uint.is) (λ name. refl)

pub returns-in-Bool-clause-state : goal.returns-in-Bool-clause-state
returns-in-Bool-clause-state c =
    let at = c.args.written.now.at in
    leaf_visited _ _ _ _ _ _ c.requires.state (BoolType at) (ap (written_kind_tree at) c.in-Bool.is) (λ name. refl)

pub returns-in-Ptr-clause-state : goal.returns-in-Ptr-clause-state
returns-in-Ptr-clause-state c =
    let at = c.args.written.now.at in
    leaf_visited _ _ _ _ _ _ c.requires.state (PtrType at (written_tree c.in-Ptr.field-0.now)) (ap (written_kind_tree at) c.in-Ptr.is) (λ name. refl)

pub returns-in_ok-push-in-Pair-2-clause-state : goal.returns-in_ok-push-in-Pair-2-clause-state
returns-in_ok-push-in-Pair-2-clause-state c =
    let at = c.args.written.now.at in
    let opened : c.push-in-Pair.new.self.opened ≡ c.args.search.now.opened = c.push-in-Pair.ensures.opened ∙ c.push.ensures.opened in
    pair_visited _ _ _ _ _ _ c.requires.state _ at (written_tree c.in-Pair.first.now) (written_tree c.in-Pair.second.now) _ _
    (ap (λ names. names_in names.set.keys) opened) (ap (written_kind_tree at) c.in-Pair.is) c.in_ok-push-in-Pair.ensures.tasks c.in_ok-push-in-Pair-2.ensures.tasks

pub returns-then-is_some-clause-state : goal.returns-then-is_some-clause-state
returns-then-is_some-clause-state c =
    let at = c.args.written.now.at in
    let has = is_some_as (λ sized. ty_of sized.ty) c.get.result _ true c.get.ensures.found c.if-is_some.ensures in
    typed_visited _ _ _ _ _ _ c.requires.state at c.in-Named.name.now (ap (written_kind_tree at) c.in-Named.is) has

pub returns-then-branch-clause-state : goal.returns-then-branch-clause-state
returns-then-branch-clause-state c =
    let at = c.args.written.now.at in
    let last = tasks_if _ _ _ _ c.if-branch.true c.in_ok-open-in-Named.ensures.tasks in
    name_opened _ _ _ _ _ _ c.requires.state c.requires.resolved _ at c.in-Named.name.now _ (ap (written_kind_tree at) c.in-Named.is) c.in_ok-open-in-Named.ensures.opened last

pub returns-then-branch-clause-smaller : goal.returns-then-branch-clause-smaller
returns-then-branch-clause-smaller c =
    let at = c.args.written.now.at in
    let last = tasks_if _ _ _ _ c.if-branch.true c.in_ok-open-in-Named.ensures.tasks in
    let new = was_new _ (sym c.if-branch.true ∙ c.in_ok-open-in-Named.ensures.new) in
    opened_steps _ _ _ _ at c.in-Named.name.now _ _ (ap (written_kind_tree at) c.in-Named.is) new c.in_ok-open-in-Named.ensures.opened last

pub refuse_recursion-requires : goal.refuse_recursion-requires
refuse_recursion-requires c =
    let at = c.args.written.now.at in
    let none = is_some_as (λ sized. ty_of sized.ty) c.get.result _ false c.get.ensures.found c.if-is_some.ensures in
    let there = was_there _ (sym c.if-branch.false ∙ c.in_ok-open-in-Named.ensures.new) in
    name_met _ _ _ _ _ _ c.requires.state at c.in-Named.name.now (ap (written_kind_tree at) c.in-Named.is) there none
