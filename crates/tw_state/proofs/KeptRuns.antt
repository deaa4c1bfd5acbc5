-- Held names keep their values.
use Rattle.std.proofs.Common.{◌≡◌, ◌∙◌, refl, sym, ap, Bool, true, false, ◌||◌, List, [], ◌∷◌, Option, Some, None, is_some, bytes_eq}
use Rattle.std.specs.List.{AllByRecursion}
use Rattle.tw_syntax.specs.Names.{NameTree}
use Rattle.tw_syntax.specs.Programs.{ParamTree, FunTree}
use Rattle.tw_syntax.specs.Statements.{StmtTree}
use Rattle.tw_types.specs.Types.{Ty}
use Rattle.tw_types.specs.Values.{Value}
use Rattle.tw_resolve.specs.Declarations.{is_one_of}
use Rattle.tw_resolve.specs.Setting.{Setting}
use Rattle.tw_resolve.proofs.Texts.{bytes_eq-sym}
use Rattle.tw_check.specs.Names.{Names}
use Rattle.tw_check.specs.Liveness.{texts, live_after}
use Rattle.tw_check.specs.Right.{IsOperand, Right, RightNothing, RightThen, RightLet, RightUnlet, RightSwap, RightMemSwap, RightIf, RightIfElse, RightWith, RightBlock, RightSkip}
use Rattle.tw_check.proofs.NameSets.{with_name-kept, names_differ}
use Rattle.tw_check.proofs.Ends.{right_ends, held_stays}
use Rattle.tw_state.specs.States.{Name, State}
use Rattle.tw_state.specs.Parts.{with_value_at}
use Rattle.tw_state.specs.Steps.{Activation, live_names, IsPadded, param_links, links}
use Rattle.tw_state.specs.Semantics.{Runs, RunsNothing, RunsSkip, RunsThen, RunsBlock, RunsLet, RunsUnlet, RunsSwap, RunsMemSwapNull, RunsMemSwap, RunsIf, RunsIfElse, RunsIfNot, RunsWith, RunsCall, RunsUncall, RunsCallZero, RunsUncallZero, RunsAlloc, RunsAllocNone, RunsFree, RunsFreeNone}
use Rattle.tw_state.proofs.Basics.{contradiction}
use Rattle.tw_state.proofs.Parts.{with_value_at-other}
use Rattle.tw_state.proofs.SingleSteps.{added_others}
use Rattle.tw_state.proofs.Calls.{outer}
use Rattle.tw_state.proofs.TypedTrees.{StmtFits, reverse_fits, FunsFit}
use Rattle.tw_state.proofs.LiveRuns.{FunsRight, lives}

-- a padded name that is live on both sides or on none keeps its value
padded_kept : (ty : Option Ty) (x y : Option Value) → IsPadded ty x y → is_some y ≡ is_some x → y ≡ x
padded_kept ty None None padded live = refl
padded_kept ty (Some x) (Some y) padded live = ap Some (sym padded)
padded_kept ty None (Some y) padded live = contradiction {test = true} refl live
padded_kept ty (Some x) None padded live = contradiction {test = true} refl (sym live)

-- a held name is no argument of a call
not_argument : (held bare : Names) (target : NameTree) (args : List NameTree) → AllByRecursion (IsOperand held bare target true) args → (name : Name) → held name ≡ true → is_one_of name (texts args) ≡ false
not_argument held bare target [] operands name is_held = refl
not_argument held bare target (arg ∷ args) operands name is_held =
    ap (λ k. k || is_one_of name (texts args)) (bytes_eq-sym name arg.text ∙ names_differ held arg.text name operands.0.free is_held)
    ∙ not_argument held bare target args operands.1 name is_held

outer_among : (name : Name) (params : List ParamTree) (args : List NameTree) → is_one_of name (texts args) ≡ false → is_one_of name (outer (param_links params args)) ≡ false
outer_among name [] args none = refl
outer_among name (param ∷ params) [] none = refl
outer_among name (param ∷ params) (arg ∷ args) none = by (bytes_eq name arg.text) none (outer_among name params args)
  where
    by : (k : Bool) → (k || is_one_of name (texts args)) ≡ false → (is_one_of name (texts args) ≡ false → is_one_of name (outer (param_links params args)) ≡ false) → (k || is_one_of name (outer (param_links params args))) ≡ false
    by true none deeper = none
    by false none deeper = deeper none

-- a held name is not shared with a callee
not_shared : (held bare : Names) (fun : FunTree) (target : NameTree) (args : List NameTree) → held target.text ≡ false → AllByRecursion (IsOperand held bare target true) args → (name : Name) → held name ≡ true → is_one_of name (outer (links fun target args)) ≡ false
not_shared held bare fun target args free operands name is_held =
    ap (λ k. k || is_one_of name (outer (param_links fun.params args))) (bytes_eq-sym name target.text ∙ names_differ held target.text name free is_held)
    ∙ outer_among name fun.params args (not_argument held bare target args operands name is_held)

module _ (setting : Setting) (funs : FunsFit setting) (rights : FunsRight setting) where
  pub kept : {act : Activation} {s : StmtTree} {x y : State} {held before after : Names} → StmtFits setting act.types s → Right held s before after → Runs setting act s x y → live_names x.store ≡ before
      → (name : Name) → held name ≡ true → y.store name ≡ x.store name
  kept fits RightNothing RunsNothing live name is_held = refl
  kept fits RightSkip RunsSkip live name is_held = refl
  kept fits (RightThen middle a b) (RunsThen c d) live name is_held =
      kept fits.1 b d (lives setting funs rights fits.0 a c live) name is_held ∙ kept fits.0 a c live name is_held
  kept fits (RightBlock a) (RunsBlock b) live name is_held = kept fits a b live name is_held
  kept {held = held} fits (RightLet {target = target} r) (RunsLet v e a) live name is_held = added_others a name (names_differ held target.text name r.free is_held)
  kept {held = held} fits (RightUnlet {target = target} r) (RunsUnlet v e a) live name is_held = sym (added_others a name (names_differ held target.text name r.free is_held))
  kept {held = held} fits (RightSwap p q r s t) (RunsSwap {left = left} {right = right} {old = old} a) live name is_held =
      ap (λ (s : State). s.store name) a.after
      ∙ with_value_at-other (with_value_at old.store left a.y) right a.x name (names_differ held right.root.text name s is_held)
      ∙ with_value_at-other old.store left a.y name (names_differ held left.root.text name q is_held)
  kept fits (RightMemSwap p q r s) (RunsMemSwapNull a) live name is_held = refl
  kept {held = held} fits (RightMemSwap p q r s) (RunsMemSwap {place = place} {old = old} a) live name is_held =
      ap (λ (s : State). s.store name) a.after ∙ with_value_at-other old.store place a.x name (names_differ held place.root.text name r is_held)
  kept {held = held} fits (RightIf {cond = cond} c a) (RunsIf p b q) live name is_held = kept fits.1 a b live name (with_name-kept held cond.root.text name true is_held)
  kept {act} {held = held} fits (RightIf {cond = cond} {first = first} c a) (RunsIfNot {old = old} {new = new} p b q) live name is_held =
      padded_kept (act.types name) (old.store name) (new.store name) (b.padded name)
      (ap (λ (l : Names). l name) (b.after ∙ ap (live_after true first) live ∙ right_ends a)
      ∙ held_stays a name (with_name-kept held cond.root.text name true is_held)
      ∙ sym (ap (λ (l : Names). l name) live))
  kept {held = held} fits (RightIfElse {cond = cond} c a b) (RunsIf p d q) live name is_held = kept fits.1 a d live name (with_name-kept held cond.root.text name true is_held)
  kept {held = held} fits (RightIfElse {cond = cond} c a b) (RunsIfElse p d q) live name is_held = kept fits.2 b d live name (with_name-kept held cond.root.text name true is_held)
  kept {act} fits (RightWith {setup = setup} ready done a b c) (RunsWith d e f) live name is_held =
      let at_ready = lives setting funs rights fits.0 a d live in
      let at_done = lives setting funs rights fits.1 b e at_ready in
      kept (reverse_fits setting act.types setup fits.0) c f at_done name is_held ∙ kept fits.1 b e at_ready name is_held ∙ kept fits.0 a d live name is_held
  kept {held = held} fits (RightLet {target = target} {before = bare} r) (RunsCall {args = args} fun n named bound absent body keeps) live name is_held =
      keeps name (not_shared held bare fun target args r.free r.operands name is_held)
  kept {held = held} fits (RightLet {target = target} r) (RunsCallZero fun v named bound cleared a) live name is_held = added_others a name (names_differ held target.text name r.free is_held)
  kept {held = held} fits (RightUnlet {target = target} {after = bare} r) (RunsUncall {args = args} fun n named bound absent body keeps) live name is_held =
      keeps name (not_shared held bare fun target args r.free r.operands name is_held)
  kept {held = held} fits (RightUnlet {target = target} r) (RunsUncallZero fun v named bound cleared a) live name is_held = sym (added_others a name (names_differ held target.text name r.free is_held))
  kept {held = held} fits (RightLet {target = target} r) (RunsAlloc block t a) live name is_held =
      added_others a name (names_differ held target.text name r.free is_held) ∙ ap (λ (s : State). s.store name) t.after
  kept {held = held} fits (RightLet {target = target} r) (RunsAllocNone none a) live name is_held = added_others a name (names_differ held target.text name r.free is_held)
  kept {held = held} fits (RightUnlet {target = target} r) (RunsFree block a t) live name is_held =
      sym (added_others a name (names_differ held target.text name r.free is_held) ∙ ap (λ (s : State). s.store name) t.after)
  kept {held = held} fits (RightUnlet {target = target} r) (RunsFreeNone none a) live name is_held = sym (added_others a name (names_differ held target.text name r.free is_held))
