-- A statement, a function and an entry need one workspace. An entry that has a measure has one layout.
use Rattle.std.proofs.Common.{◌≡◌, ◌∙◌, refl, sym, ap, subst, arith, ℕ, Option, Result, Ok, Err, IfOk}
use Rattle.tw_syntax.specs.Programs.{FunTree}
use Rattle.tw_syntax.specs.Statements.{StmtTree}
use Rattle.tw_gate.specs.declared.gate.Level.{Level}
use Rattle.tw_code.specs.declared.code.Options.{Options}
use Rattle.tw_types.specs.Types.{Widths}
use Rattle.tw_resolve.specs.Setting.{Setting}
use Rattle.tw_check.specs.declared.entry.Entry.{Entry}
use Rattle.tw_state.proofs.Basics.{same_some, not_both}
use Rattle.tw_frames.specs.declared.measured.Measured.{Measured}
use Rattle.tw_frames.specs.declared.regions.RegionSizes.{RegionSizes}
use Rattle.tw_frames.specs.declared.regions.WireLayout.{WireLayout}
use Rattle.tw_frames.specs.declared.workspace.Workspace.{Workspace}
use Rattle.tw_frames.specs.Layout.{flag_count, ladder_size, region_sizes, in_order, IsLaidOut, HasOneLayout}
use Rattle.tw_frames.specs.Measures.{Measures, MeasuresNothing, MeasuresThen, MeasuresExpr, MeasuresAlloc, MeasuresSwap, MeasuresMemSwap, MeasuresSkip, MeasuresBlock, MeasuresElse, MeasuresIf, MeasuresWith, MeasuresCall, MeasuresCallZero, MeasuresEntry, MeasuresBody, MeasuresNoBody, IsMeasured}
use Rattle.tw_frames.specs.Regions.{AreInOrder}
use Rattle.tw_frames.specs.Workspaces.{no_workspace, shared, entered, Needs, NeedsNothing, NeedsThen, NeedsExpr, NeedsAlloc, NeedsSwap, NeedsMemSwap, NeedsSkip, NeedsBlock, NeedsElse, NeedsIf, NeedsWith, NeedsCall, NeedsCallZero, NeedsEntry, NeedsBody, NeedsNoBody}
use Rattle.tw_frames.proofs.OneMeasure.{entry_measure_determined}

-- equal parts make equal wholes
shared_same : {a b c d : Workspace} → a ≡ b → c ≡ d → shared a c ≡ shared b d
shared_same p q = λ i. shared (p i) (q i)

module _ (setting : Setting) where
  -- a statement needs one workspace
  pub needs_determined : {own : ℕ} {s : StmtTree} {a b : Workspace} → Needs setting own s a → Needs setting own s b → a ≡ b
  needs_determined NeedsNothing NeedsNothing = refl
  needs_determined (NeedsThen a b) (NeedsThen c d) = shared_same (needs_determined a c) (needs_determined b d)
  needs_determined NeedsExpr NeedsExpr = refl
  needs_determined NeedsAlloc NeedsAlloc = refl
  needs_determined NeedsSwap NeedsSwap = refl
  needs_determined NeedsMemSwap NeedsMemSwap = refl
  needs_determined NeedsSkip NeedsSkip = refl
  needs_determined (NeedsBlock a) (NeedsBlock b) = needs_determined a b
  needs_determined (NeedsElse a) (NeedsElse b) = needs_determined a b
  needs_determined (NeedsIf a b) (NeedsIf c d) = shared_same (needs_determined a c) (needs_determined b d)
  needs_determined (NeedsWith a b) (NeedsWith c d) = shared_same (needs_determined a c) (needs_determined b d)
  needs_determined (NeedsCall fun n named bound a) (NeedsCall {a = y} other m named2 bound2 b) =
      let p : other ≡ fun = same_some named2 named in
      let q : m ≡ n = same_some bound2 bound in
      let moved : Needs setting n fun.body y = subst (λ (x : FunTree × ℕ). Needs setting x.1 x.0.body y) (λ i. (p i, q i)) b in
      ap (entered setting fun) (needs_determined a moved) ∙ ap (λ f. entered setting f y) (sym p)
  needs_determined (NeedsCall fun n named bound a) (NeedsCallZero none) = not_both none bound
  needs_determined (NeedsCallZero none) (NeedsCall fun n named bound a) = not_both none bound
  needs_determined (NeedsCallZero none) (NeedsCallZero none2) = refl

  pub entry_needs_determined : {fun : FunTree} {bound : Option ℕ} {a b : Workspace} → NeedsEntry setting fun bound a → NeedsEntry setting fun bound b → a ≡ b
  entry_needs_determined {fun} (NeedsBody n is p) (NeedsBody {a = y} m is2 q) =
      ap (entered setting fun) (needs_determined p (subst (λ k. Needs setting k fun.body y) (same_some is2 is) q))
  entry_needs_determined (NeedsBody n is p) (NeedsNoBody none) = not_both none is
  entry_needs_determined (NeedsNoBody none) (NeedsBody n is p) = not_both none is
  entry_needs_determined (NeedsNoBody none) (NeedsNoBody none2) = refl

  -- what has a measure needs a workspace
  abbrev HasNeed : ℕ → StmtTree → Type 0
  HasNeed own s = (a : Workspace) × Needs setting own s a

  has_need : {own : ℕ} {s : StmtTree} {a : Measured} → Measures setting own s a → HasNeed own s
  has_need MeasuresNothing = (no_workspace, NeedsNothing)
  has_need (MeasuresThen m n) = let p = has_need m in let q = has_need n in (shared p.0 q.0, NeedsThen p.1 q.1)
  has_need MeasuresExpr = (no_workspace, NeedsExpr)
  has_need MeasuresAlloc = (no_workspace, NeedsAlloc)
  has_need MeasuresSwap = (no_workspace, NeedsSwap)
  has_need MeasuresMemSwap = (no_workspace, NeedsMemSwap)
  has_need MeasuresSkip = (no_workspace, NeedsSkip)
  has_need (MeasuresBlock m) = let p = has_need m in (p.0, NeedsBlock p.1)
  has_need (MeasuresElse m) = let p = has_need m in (p.0, NeedsElse p.1)
  has_need (MeasuresIf m n) = let p = has_need m in let q = has_need n in (shared p.0 q.0, NeedsIf p.1 q.1)
  has_need (MeasuresWith m n) = let p = has_need m in let q = has_need n in (shared p.0 q.0, NeedsWith p.1 q.1)
  has_need (MeasuresCall fun n named is m) = let p = has_need m in (entered setting fun p.0, NeedsCall fun n named is p.1)
  has_need (MeasuresCallZero none) = (no_workspace, NeedsCallZero none)

  entry_has_need : {fun : FunTree} {bound : Option ℕ} {a : Measured} → MeasuresEntry setting fun bound a → (w : Workspace) × NeedsEntry setting fun bound w
  entry_has_need {fun} (MeasuresBody n is m) = let p = has_need m in (entered setting fun p.0, NeedsBody n is p.1)
  entry_has_need (MeasuresNoBody none) = (no_workspace, NeedsNoBody none)

  module _ (entry : Entry) (options : Options) (level : Level) (most_controls : ℕ) where
    -- the layout of a function with this workspace and these `if`s
    abbrev of_parts : FunTree → Workspace → Measured → WireLayout
    of_parts fun workspace measured = in_order setting.widths (region_sizes setting fun workspace (flag_count options measured.if_depth) (ladder_size level most_controls))

    -- an entry has at most one layout
    pub layout_determined : {a b : WireLayout} → IsLaidOut setting entry options level most_controls a → IsLaidOut setting entry options level most_controls b → a ≡ b
    layout_determined p q =
        let fun : q.fun ≡ p.fun = same_some q.at p.at in
        let workspace = entry_needs_determined p.needs (subst (λ f. NeedsEntry setting f entry.bound q.workspace) fun q.needs) in
        let measured = entry_measure_determined setting p.measures (subst (λ f. MeasuresEntry setting f entry.bound q.measured) fun q.measures) in
        p.is ∙ (λ i. of_parts (sym fun i) (workspace i) (measured i)) ∙ sym q.is

    -- an entry that has a measure has one
    pub one_layout : (measured : Measured) → IsMeasured setting entry measured → HasOneLayout setting entry options level most_controls
    one_layout measured is =
        let need = entry_has_need is.measures in
        let laid : IsLaidOut setting entry options level most_controls (of_parts is.fun need.0 measured)
        = record { fun = is.fun; workspace = need.0; measured = measured; at = is.at; needs = need.1; measures = is.measures; is = refl } in
        record { layout = of_parts is.fun need.0 measured; is = laid; only = λ other also. layout_determined laid also }

-- regions that follow one another are in order
pub in_order-regions : (widths : Widths) (sizes : RegionSizes) → AreInOrder widths (in_order widths sizes)
in_order-regions widths sizes = record {
  memory = refl;
  args = omega arith;
  out = omega arith;
  frame = omega arith;
  scratch = omega arith;
  flags = omega arith;
  ladder = omega arith;
}

-- what holds of an answer's value holds of what follows from it
pub if_ok : {A E : Type 0} {P Q : A → Type 0} (result : Result A E) → ((x : A) → P x → Q x) → IfOk result P → IfOk result Q
if_ok (Ok x) follows holds = follows x holds
if_ok (Err e) follows holds = tt
