use Rattle.std.proofs.Common.{◌∙◌, ◌∷◌, sym, ap, subst, refl, arith}
use Rattle.tw_syntax.specs.Types.{UnitType, UintType, BoolType, PtrType, written_tree, written_kind_tree}
use Rattle.tw_resolve.specs.Declarations.{declared_as}
use Rattle.tw_resolve.specs.Entries.{aliases_in}
use Rattle.tw_resolve.specs.Reaching.{waiting_in}
use Rattle.tw_resolve.specs.Searches.{names_in}
use Rattle.tw_resolve.proofs.Reaching.{IsReaching, reaching_start, reaching_done, leaf_on_top, pair_on_top, itself_on_top, name_on_top, name_steps, not_declared}
use Rattle.tw_resolve.proofs.Stacks.{on_top, empty}
use Rattle.tw_resolve.proofs.recursion.contains_itself.Goals as goal

pub returns-in_default : goal.returns-in_default
returns-in_default c = (λ no. absurd (cc no), λ recursive. absurd (not_declared c.in_default.ensures recursive))

pub loop-written-init : goal.loop-written-init
loop-written-init c =
    let declared = declared_as (aliases_in c.args.aliases.now.table.entries) in
    let body = written_tree c.in-Some.body.now in
    let top = on_top (λ written. written_tree written.now) c.new-waiting.result.items c.push.new.self.items c.in-Some.body c.in_ok-push.ensures.items in
    let alone = top ∙ ap (λ items. body ∷ waiting_in items) c.new-waiting.ensures.items in
    subst (IsReaching declared c.args.name.now (names_in c.new-reached.result.set.keys)) (sym alone)
    (reaching_start declared c.args.name.now body _ (sym c.in-Some.ensures) c.new-reached.ensures)

pub loop-written-preserved-in-Unit : goal.loop-written-preserved-in-Unit
loop-written-preserved-in-Unit c =
    let top = on_top (λ written. written_tree written.now) c.pop.new.self.items c.loop-written.waiting.items c.in-Some-pop.written c.in-Some-pop.ensures.items in
    let at = c.in-Some-pop.written.now.at in
    leaf_on_top _ _ _ _ _ _ top c.loop-written.invariant (UnitType at) (ap (written_kind_tree at) c.in-Unit.is) (λ name. refl)

pub loop-written-preserved-in-Uint : goal.loop-written-preserved-in-Uint
loop-written-preserved-in-Uint c =
    let top = on_top (λ written. written_tree written.now) c.pop.new.self.items c.loop-written.waiting.items c.in-Some-pop.written c.in-Some-pop.ensures.items in
    let at = c.in-Some-pop.written.now.at in
    leaf_on_top _ _ _ _ _ _ top c.loop-written.invariant (UintType at) (ap (written_kind_tree at) c.in-Uint.is) (λ name. refl)

pub loop-written-preserved-in-Bool : goal.loop-written-preserved-in-Bool
loop-written-preserved-in-Bool c =
    let top = on_top (λ written. written_tree written.now) c.pop.new.self.items c.loop-written.waiting.items c.in-Some-pop.written c.in-Some-pop.ensures.items in
    let at = c.in-Some-pop.written.now.at in
    leaf_on_top _ _ _ _ _ _ top c.loop-written.invariant (BoolType at) (ap (written_kind_tree at) c.in-Bool.is) (λ name. refl)

pub loop-written-preserved-in-Ptr : goal.loop-written-preserved-in-Ptr
loop-written-preserved-in-Ptr c =
    let top = on_top (λ written. written_tree written.now) c.pop.new.self.items c.loop-written.waiting.items c.in-Some-pop.written c.in-Some-pop.ensures.items in
    let at = c.in-Some-pop.written.now.at in
    leaf_on_top _ _ _ _ _ _ top c.loop-written.invariant (PtrType at (written_tree c.in-Ptr.field-0.now)) (ap (written_kind_tree at) c.in-Ptr.is) (λ name. refl)

pub loop-written-preserved-in-Continue-branch-2 : goal.loop-written-preserved-in-Continue-branch-2
loop-written-preserved-in-Continue-branch-2 c =
    let top = on_top (λ written. written_tree written.now) c.pop.new.self.items c.loop-written.waiting.items c.in-Some-pop.written c.in-Some-pop.ensures.items in
    let at = c.in-Some-pop.written.now.at in
    pair_on_top _ _ _ _ _ _ top c.loop-written.invariant at (written_tree c.in-Pair.first.now) (written_tree c.in-Pair.second.now) _
    (ap (written_kind_tree at) c.in-Pair.is) c.in_ok-push_halves-in-Pair.ensures

pub returns-then-eq : goal.returns-then-eq
returns-then-eq c =
    let top = on_top (λ written. written_tree written.now) c.pop.new.self.items c.loop-written.waiting.items c.in-Some-pop.written c.in-Some-pop.ensures.items in
    let at = c.in-Some-pop.written.now.at in
    (λ yes. itself_on_top _ _ _ _ _ _ top c.loop-written.invariant at c.in-Named.next.now (ap (written_kind_tree at) c.in-Named.is) (sym c.if-eq.ensures), λ recursive. refl)

pub loop-written-smaller : goal.loop-written-smaller
loop-written-smaller c =
    let top = on_top (λ written. written_tree written.now) c.pop.new.self.items c.loop-written.waiting.items c.in-Some-pop.written c.in-Some-pop.ensures.items in
    let at = c.in-Some-pop.written.now.at in
    name_steps (aliases_in c.args.aliases.now.table.entries) (names_in c.loop-written.reached.set.keys) (names_in c.follow.new.reached.set.keys) _ _ _ _ at c.in-Named.next.now
    top (ap (written_kind_tree at) c.in-Named.is) c.in_ok-follow-in-Named.ensures.reached c.in_ok-follow-in-Named.ensures.waiting

pub loop-written-preserved : goal.loop-written-preserved
loop-written-preserved c =
    let top = on_top (λ written. written_tree written.now) c.pop.new.self.items c.loop-written.waiting.items c.in-Some-pop.written c.in-Some-pop.ensures.items in
    let at = c.in-Some-pop.written.now.at in
    name_on_top _ _ _ _ _ _ top c.loop-written.invariant _ at c.in-Named.next.now _ (ap (written_kind_tree at) c.in-Named.is)
    c.in_ok-follow-in-Named.ensures.reached (sym c.if-eq.ensures) c.in_ok-follow-in-Named.ensures.waiting

pub returns : goal.returns
returns c =
    let declared = declared_as (aliases_in c.args.aliases.now.table.entries) in
    let reached = names_in c.loop-written.reached.set.keys in
    let none = ap waiting_in (empty c.loop-written.waiting.items (omega (arith, c.loop-written.waiting.ok.0, c.in_default-pop.ensures.cases.0))) in
    let done = subst (IsReaching declared c.args.name.now reached) none c.loop-written.invariant in
    (λ no. absurd (cc no), λ recursive. absurd (reaching_done declared c.args.name.now reached done recursive))
