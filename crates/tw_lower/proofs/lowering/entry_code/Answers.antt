use Rattle.std.proofs.Common.{◌≡◌, ◌∙◌, ap, sym, subst, arith, ℕ, Some, None}
use Rattle.std.proofs.lemmas.Option.{slice_get_within}
use Rattle.tw_syntax.specs.Programs.{FunTree, fun_tree}
use Rattle.tw_syntax.specs.Statements.{StmtTree}
use Rattle.tw_code.specs.Trees.{CodeTree, code_tree}
use Rattle.tw_resolve.specs.Resolved.{resolved_setting}
use Rattle.tw_resolve.specs.Setting.{Setting}
use Rattle.tw_state.specs.Steps.{running_bound}
use Rattle.tw_state.proofs.Basics.{same_some}
use Rattle.tw_frames.specs.declared.regions.WireLayout.{WireLayout}
use Rattle.tw_frames.specs.Frames.{Frame}
use Rattle.tw_frames.specs.Layout.{entry_frame}
use Rattle.tw_frames.specs.Regions.{IsFrame}
use Rattle.tw_lower.specs.FrameWires.{plain_frame}
use Rattle.tw_lower.specs.Lowering.{CanLower, Lowers, LowersEntry, LowersBody, LowersNoBody}
use Rattle.tw_lower.proofs.CheckedEntry.{checked_can_lower}
use Rattle.tw_lower.proofs.EntryFrame.{entry_is_frame}
use Rattle.tw_lower.proofs.lowering.entry_code.Goals as goal

pub returns-in_default : goal.returns-in_default
returns-in_default c =
    let none : running_bound c.args.entry.bound ≡ None = sym c.running_bound.ensures.number ∙ c.in_default.is in
    λ fun found.
    subst (LowersEntry (resolved_setting c.args.checked.now.resolved) c.args.layout.now fun c.args.entry.bound) (sym (ap code_tree c.in_ok-try_alloc.ensures ∙ c.sequence.ensures)) (LowersNoBody none)

pub fun_at-requires : goal.fun_at-requires
fun_at-requires c = slice_get_within _ c.args.entry.fun c.requires.entry.fun c.requires.entry.at

-- the function of the entry, and its number
pub lower_stmts-requires-clause-can : goal.lower_stmts-requires-clause-can
lower_stmts-requires-clause-can c =
    let checked = c.args.checked.now in
    let setting = resolved_setting checked.resolved in
    let fun = fun_tree c.fun_at.result.now in
    let own : running_bound c.args.entry.bound ≡ Some c.in-Some.own = sym c.running_bound.ensures.number ∙ c.in-Some.is in
    let held = c.in_ok-frame.ensures in
    let same : plain_frame c.in_ok-frame.frame ≡ entry_frame setting fun c.args.layout.now = held.frame fun c.fun_at.ensures in
    let can = checked_can_lower checked c.args.entry c.args.layout.now c.requires.layout fun c.fun_at.ensures (c.requires.built fun c.fun_at.ensures) c.in-Some.own own in
    moved_can fun.body (sym held.program) (sym held.layout) (sym same) can
  where
    moved_can : {setting other : Setting} {layout next : WireLayout} {frame last : Frame} (s : StmtTree) → setting ≡ other → layout ≡ next → frame ≡ last → CanLower setting layout frame s → CanLower other next last s
    moved_can s p q r can = subst (λ (x : Setting × WireLayout × Frame). CanLower x.0 x.1 x.2 s) (λ i. (p i, q i, r i)) can

pub lower_stmts-requires-clause-ifs : goal.lower_stmts-requires-clause-ifs
lower_stmts-requires-clause-ifs c =
    let checked = c.args.checked.now in
    let setting = resolved_setting checked.resolved in
    let fun = fun_tree c.fun_at.result.now in
    let own : running_bound c.args.entry.bound ≡ Some c.in-Some.own = sym c.running_bound.ensures.number ∙ c.in-Some.is in
    let held = c.in_ok-frame.ensures in
    let same : plain_frame c.in_ok-frame.frame ≡ entry_frame setting fun c.args.layout.now = held.frame fun c.fun_at.ensures in
    let good : IsFrame setting c.args.layout.now fun (entry_frame setting fun c.args.layout.now) = entry_is_frame setting c.args.entry c.args.layout.now c.requires.layout fun c.fun_at.ensures c.in-Some.own own in
    let regions = c.requires.layout.regions in
    omega (arith, ap (λ (f : Frame). f.ifs) same, good.ifs_before_next, good.next_before_scratch, regions.scratch, regions.flags, regions.ladder, c.requires.layout.within)

pub returns : goal.returns
returns c =
    let checked = c.args.checked.now in
    let setting = resolved_setting checked.resolved in
    let own : running_bound c.args.entry.bound ≡ Some c.in-Some.own = sym c.running_bound.ensures.number ∙ c.in-Some.is in
    let held = c.in_ok-frame.ensures in
    λ fun found.
    let same_fun : fun_tree c.fun_at.result.now ≡ fun = same_some c.fun_at.ensures found in
    let same : plain_frame c.in_ok-frame.frame ≡ entry_frame setting fun c.args.layout.now = held.frame fun found in
    subst (LowersEntry setting c.args.layout.now fun c.args.entry.bound) (sym (ap code_tree c.in_ok-try_alloc-2.ensures))
    (LowersBody c.in-Some.own own (moved_code held.program held.layout same held.own (ap (λ (f : FunTree). f.body) same_fun) c.in_ok-code.ensures.lowered))
  where
    moved_code : {setting other : Setting} {layout next : WireLayout} {frame last : Frame} {own number : ℕ} {s t : StmtTree} {code : CodeTree} → setting ≡ other → layout ≡ next → frame ≡ last → own ≡ number → s ≡ t → Lowers setting layout frame own 0 s code
        → Lowers other next last number 0 t code
    moved_code {code = code} p q r n s lowers = subst (λ (x : Setting × WireLayout × Frame × ℕ × StmtTree). Lowers x.0 x.1 x.2 x.3 0 x.4 code) (λ i. (p i, q i, r i, n i, s i)) lowers
