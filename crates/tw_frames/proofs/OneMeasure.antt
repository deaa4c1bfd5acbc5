-- A statement, a function and an entry have at most one measure. In a program whose calls descend they have one.
use Rattle.std.proofs.Common.{◌≡◌, ◌∙◌, ◌<◌, refl, sym, ap, subst, arith, ℕ, zero, suc, slice_get, get_or, Bool, bytes_eq, Option, Some, option_and_then}
use Rattle.std.proofs.Math.Arith.{lt_of_le-ne}
use Rattle.std.proofs.lemmas.List.Quantifiers.{position-Some}
use Rattle.std.proofs.lemmas.Option.{slice_get-get_or}
use Rattle.tw_text.specs.declared.place.Pos.{Pos}
use Rattle.tw_syntax.specs.Programs.{FunTree}
use Rattle.tw_syntax.specs.Names.{NameTree}
use Rattle.tw_syntax.specs.Statements.{StmtTree, Nothing, Then, Else, LetStmt, SwapStmt, MemSwapStmt, IfStmt, WithStmt, BlockStmt, SkipStmt}
use Rattle.tw_syntax.specs.Terms.{RhsTree, ExprRhs, CallRhs, AllocRhs}
use Rattle.tw_resolve.specs.Declarations.{Name, number_of}
use Rattle.tw_resolve.specs.Setting.{Setting}
use Rattle.tw_check.specs.declared.entry.Entry.{Entry}
use Rattle.tw_state.specs.Steps.{running_bound, callee_bound}
use Rattle.tw_state.proofs.Basics.{same_some, not_both, by_option}
use Rattle.tw_state.proofs.FreeList.{by_block}
use Rattle.tw_state.proofs.CallEnds.{Below, Earlier, Smaller, below, RhsDescends, StmtDescends}
use Rattle.tw_frames.specs.declared.measured.Measured.{Measured}
use Rattle.tw_frames.specs.Measures.{no_steps, in_turn, enclosed, under_if, one_more, Measures, MeasuresNothing, MeasuresThen, MeasuresExpr, MeasuresAlloc, MeasuresSwap, MeasuresMemSwap, MeasuresSkip, MeasuresBlock, MeasuresElse, MeasuresIf, MeasuresWith, MeasuresCall, MeasuresCallZero, MeasuresEntry, MeasuresBody, MeasuresNoBody, IsMeasured, HasOneMeasure}

-- two equal parts make equal wholes
in_turn_same : {a b c d : Measured} → a ≡ b → c ≡ d → in_turn a c ≡ in_turn b d
in_turn_same p q = λ i. in_turn (p i) (q i)

module _ (setting : Setting) where
  -- a function and its bound, from the equations of two calls
  moved : {fun other : FunTree} {n m : ℕ} {b : Measured} {f : Option FunTree} {o : Option ℕ} → f ≡ Some fun → f ≡ Some other → o ≡ Some n → o ≡ Some m
      → Measures setting m other.body b → Measures setting n fun.body b
  moved {fun} {other} {n} {m} {b} named named2 bound bound2 measures =
      let p : other ≡ fun = same_some named2 named in
      let q : m ≡ n = same_some bound2 bound in
      subst (λ (x : FunTree × ℕ). Measures setting x.1 x.0.body b) (λ i. (p i, q i)) measures

  -- a statement has one measure
  pub measure_determined : {own : ℕ} {s : StmtTree} {a b : Measured} → Measures setting own s a → Measures setting own s b → a ≡ b
  measure_determined MeasuresNothing MeasuresNothing = refl
  measure_determined (MeasuresThen a b) (MeasuresThen c d) = in_turn_same (measure_determined a c) (measure_determined b d)
  measure_determined MeasuresExpr MeasuresExpr = refl
  measure_determined MeasuresAlloc MeasuresAlloc = refl
  measure_determined MeasuresSwap MeasuresSwap = refl
  measure_determined MeasuresMemSwap MeasuresMemSwap = refl
  measure_determined MeasuresSkip MeasuresSkip = refl
  measure_determined (MeasuresBlock a) (MeasuresBlock b) = ap (λ x. one_more (enclosed x)) (measure_determined a b)
  measure_determined (MeasuresElse a) (MeasuresElse b) = measure_determined a b
  measure_determined (MeasuresIf a b) (MeasuresIf c d) =
      ap (λ x. one_more (under_if (enclosed x))) (in_turn_same (measure_determined a c) (measure_determined b d))
  measure_determined (MeasuresWith a b) (MeasuresWith c d) =
      let p = measure_determined a c in
      ap (λ x. one_more (enclosed x)) (in_turn_same (in_turn_same p (measure_determined b d)) p)
  measure_determined (MeasuresCall fun n named bound a) (MeasuresCall other m named2 bound2 b) =
      ap (λ x. one_more (enclosed x)) (measure_determined a (moved named named2 bound bound2 b))
  measure_determined (MeasuresCall fun n named bound a) (MeasuresCallZero none) = not_both none bound
  measure_determined (MeasuresCallZero none) (MeasuresCall fun n named bound a) = not_both none bound
  measure_determined (MeasuresCallZero none) (MeasuresCallZero none2) = refl

  -- a function has one measure with each bound
  pub entry_measure_determined : {fun : FunTree} {bound : Option ℕ} {a b : Measured} → MeasuresEntry setting fun bound a → MeasuresEntry setting fun bound b → a ≡ b
  entry_measure_determined {fun} (MeasuresBody n is p) (MeasuresBody {a = y} m is2 q) =
      ap enclosed (measure_determined p (subst (λ k. Measures setting k fun.body y) (same_some is2 is) q))
  entry_measure_determined (MeasuresBody n is p) (MeasuresNoBody none) = not_both none is
  entry_measure_determined (MeasuresNoBody none) (MeasuresBody n is p) = not_both none is
  entry_measure_determined (MeasuresNoBody none) (MeasuresNoBody none2) = refl

  -- an entry has at most one measure
  pub is_measured_determined : {entry : Entry} {a b : Measured} → IsMeasured setting entry a → IsMeasured setting entry b → a ≡ b
  is_measured_determined {entry} {a} {b} p q =
      entry_measure_determined p.measures (subst (λ f. MeasuresEntry setting f entry.bound b) (same_some q.at p.at) q.measures)

  -- there is a measure of this statement
  abbrev pub HasMeasure : ℕ → StmtTree → Type 0
  HasMeasure own s = (a : Measured) × Measures setting own s a

  -- each function of this number has a measure with this bound
  abbrev pub BodyMeasured : ℕ → ℕ → Type 0
  BodyMeasured k n = (fun : FunTree) → slice_get setting.funs k ≡ Some fun → HasMeasure n fun.body

  -- the calls of each function go down
  abbrev pub Descends : Type 0
  Descends = (k : ℕ) (fun : FunTree) → slice_get setting.funs k ≡ Some fun → StmtDescends setting k fun.body

  module _ (k own : ℕ) (callees : (j m : ℕ) → Below j m k own → BodyMeasured j m) (caller : FunTree) where
    -- a function of this number is there
    callee_there : (name : Name) (j : ℕ) → number_of setting.funs name ≡ Some j → (fun : FunTree) × (slice_get setting.funs j ≡ Some fun)
    callee_there name j number = (
      get_or setting.funs j caller,
      slice_get-get_or setting.funs j caller (position-Some (λ fun. bytes_eq name fun.name.text) setting.funs j caller number).0,
    )

    rhs_measured : {at : Pos} {forward : Bool} {target : NameTree} (rhs : RhsTree) → RhsDescends setting k rhs → HasMeasure own (LetStmt at forward target rhs)
    rhs_measured (ExprRhs expr) down = (one_more no_steps, MeasuresExpr)
    rhs_measured (AllocRhs to) down = (one_more no_steps, MeasuresAlloc)
    rhs_measured (CallRhs callee bound args) down =
        by_option (callee_bound own bound) (λ none. (one_more no_steps, MeasuresCallZero none))
        (λ n is.
        let fun = callee_there callee.text down.0 down.1 in
        let body = callees down.0 n (below down.2 is) fun.0 fun.1 in
        (one_more (enclosed body.0), MeasuresCall fun.0 n (ap (option_and_then (slice_get setting.funs)) down.1 ∙ fun.1) is body.1))

    -- a statement has a measure, if its callees have
    stmt_measured : (s : StmtTree) → StmtDescends setting k s → HasMeasure own s
    stmt_measured Nothing down = (no_steps, MeasuresNothing)
    stmt_measured (Then first rest) down =
        let a = stmt_measured first down.0 in
        let b = stmt_measured rest down.1 in
        (in_turn a.0 b.0, MeasuresThen a.1 b.1)
    stmt_measured (Else at stmts) down = let a = stmt_measured stmts down in (a.0, MeasuresElse a.1)
    stmt_measured (LetStmt at forward target rhs) down = rhs_measured rhs down
    stmt_measured (SwapStmt at left right) down = (one_more no_steps, MeasuresSwap)
    stmt_measured (MemSwapStmt at pointer place) down = (one_more no_steps, MeasuresMemSwap)
    stmt_measured (IfStmt at cond first other) down =
        let a = stmt_measured first down.0 in
        let b = stmt_measured other down.1 in
        (one_more (under_if (enclosed (in_turn a.0 b.0))), MeasuresIf a.1 b.1)
    stmt_measured (WithStmt at setup work) down =
        let a = stmt_measured setup down.0 in
        let b = stmt_measured work down.1 in
        (one_more (enclosed (in_turn (in_turn a.0 b.0) a.0)), MeasuresWith a.1 b.1)
    stmt_measured (BlockStmt at body) down = let a = stmt_measured body down in (one_more (enclosed a.0), MeasuresBlock a.1)
    stmt_measured (SkipStmt at) down = (one_more no_steps, MeasuresSkip)

  module _ (descends : Descends) where
    body_case : (k n : ℕ) → ((j m : ℕ) → Below j m k n → BodyMeasured j m) → BodyMeasured k n
    body_case k n callees fun found = stmt_measured k n callees fun fun.body (descends k fun found)

    -- with all smaller bounds, if all earlier functions have measures
    smaller : (k : ℕ) → ((j : ℕ) → j < k → (m : ℕ) → BodyMeasured j m) → (n m : ℕ) → m < n → BodyMeasured k m
    smaller k earlier zero m less = absurd (omega (arith, less))
    smaller k earlier (suc n) m less =
        by_block m n
        (λ same. subst (BodyMeasured k) (sym same) (body_case k n (λ j i is. down j i is (smaller k earlier n i))))
        (λ differ. smaller k earlier n m (lt_of_le-ne (omega (arith, less)) differ))
      where
        down : (j i : ℕ) → Below j i k n → (i < n → BodyMeasured k i) → BodyMeasured j i
        down j i (Earlier is) deeper = earlier j is i
        down j i (Smaller same is) deeper = subst (λ f. BodyMeasured f i) (sym same) (deeper is)

    -- all earlier functions have measures
    earlier : (k j : ℕ) → j < k → (m : ℕ) → BodyMeasured j m
    earlier zero j less m = absurd (omega (arith, less))
    earlier (suc k) j less m =
        by_block j k
        (λ same. subst (λ f. BodyMeasured f m) (sym same) (smaller k (earlier k) (suc m) m (omega arith)))
        (λ differ. earlier k j (lt_of_le-ne (omega (arith, less)) differ) m)

    -- each function has a measure with each bound
    pub bodies_measured : (k n : ℕ) → BodyMeasured k n
    bodies_measured k n = earlier (suc k) k (omega arith) n

    -- each entry has one measure
    pub one_measure : (entry : Entry) (fun : FunTree) → slice_get setting.funs entry.fun ≡ Some fun → HasOneMeasure setting entry
    one_measure entry fun found =
        by_option (running_bound entry.bound)
        (λ none. measured (no_steps) (MeasuresNoBody none))
        (λ n is. let body = bodies_measured entry.fun n fun found in measured (enclosed body.0) (MeasuresBody n is body.1))
      where
        measured : (a : Measured) → MeasuresEntry setting fun entry.bound a → HasOneMeasure setting entry
        measured a is =
            let whole : IsMeasured setting entry a = record { fun = fun; at = found; measures = is } in
            record { measured = a; is = whole; only = λ other also. is_measured_determined whole also }
