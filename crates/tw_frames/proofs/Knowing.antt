-- How the measures of pairs come to be known, in the order of their numbers.
use Rattle.std.proofs.Common.{◌≡◌, ◌∙◌, ◌≤◌, ◌<◌, ◌+◌, ◌^◌, arith, refl, sym, ap, subst, ℕ, Bool, true, false, if◌then◌else◌, nat_eq, List, length, slice_get, Some, None}
use Rattle.std.proofs.Math.Arith.{lt_of_le-ne}
use Rattle.std.proofs.lemmas.Bool.{eqb-true, eq-eqb, false≢true}
use Rattle.tw_syntax.specs.Statements.{StmtTree, Nothing, Then, Else, LetStmt, SwapStmt, MemSwapStmt, IfStmt, WithStmt, BlockStmt, SkipStmt}
use Rattle.tw_syntax.specs.Terms.{RhsTree, ExprRhs, CallRhs, AllocRhs}
use Rattle.tw_resolve.specs.Setting.{Setting}
use Rattle.tw_check.specs.declared.entry.Entry.{Entry}
use Rattle.tw_state.specs.Steps.{running_bound}
use Rattle.tw_state.proofs.Basics.{same_some, some_value, not_both, by_test, contradiction}
use Rattle.tw_state.proofs.CallEnds.{Below, Earlier, Smaller, below, RhsDescends, StmtDescends}
use Rattle.tw_frames.specs.declared.measured.Measured.{Measured}
use Rattle.tw_frames.specs.Measures.{no_steps, enclosed, capped, Measures, MeasuresEntry, MeasuresBody, MeasuresNoBody, IsMeasured}
use Rattle.tw_frames.specs.MeasureTable.{pair_number, Known, RhsMarked, StmtMarked, AreMarkedFrom, RhsKnown, StmtKnown, FindsPair, AreKnown}
use Rattle.tw_frames.proofs.OneMeasure.{Descends}

-- a pair that is below another has a smaller number
smaller_pair : {j m k n : ℕ} → Below j m k n → m < 256 → pair_number j m < pair_number k n
smaller_pair {j} {m} {k} {n} (Earlier less) small = omega (arith, less, small)
smaller_pair {j} {m} {k} {n} (Smaller same less) small = omega (arith, same, less)

module _ (setting : Setting) (marks : List Bool) (known : Known) (pair : ℕ) (are : AreKnown setting marks pair known) (k own : ℕ) (within : pair_number k own ≤ pair) (fits : pair < 2 ^ 64) where
  rhs_known : (rhs : RhsTree) → RhsDescends setting k rhs → RhsMarked setting (pair_number k own) marks own rhs → RhsKnown setting known own rhs
  rhs_known (ExprRhs expr) down marked = tt
  rhs_known (AllocRhs to) down marked = tt
  rhs_known (CallRhs callee bound args) down marked = λ j n fun a number found is measures.
      let marked_j = marked j n number is in
      let same : down.0 ≡ j = same_some down.1 number in
      let less = smaller_pair (subst (λ i. Below i n k own) same (below down.2 is)) marked_j.0 in
      (omega (arith, less, within, fits), are j n fun a marked_j.0 (omega (arith, less, within)) (marked_j.1 less) found measures)

  -- the callees of a statement are known, since calls go down
  pub stmt_known : (s : StmtTree) → StmtDescends setting k s → StmtMarked setting (pair_number k own) marks own s → StmtKnown setting known own s
  stmt_known Nothing down marked = tt
  stmt_known (Then first rest) down marked = (stmt_known first down.0 marked.0, stmt_known rest down.1 marked.1)
  stmt_known (Else at stmts) down marked = stmt_known stmts down marked
  stmt_known (LetStmt at forward target rhs) down marked = rhs_known rhs down marked
  stmt_known (SwapStmt at left right) down marked = tt
  stmt_known (MemSwapStmt at pointer place) down marked = tt
  stmt_known (IfStmt at cond first other) down marked = (stmt_known first down.0 marked.0, stmt_known other down.1 marked.1)
  stmt_known (WithStmt at setup work) down marked = (stmt_known setup down.0 marked.0, stmt_known work down.1 marked.1)
  stmt_known (BlockStmt at body) down marked = stmt_known body down marked
  stmt_known (SkipStmt at) down marked = tt

module _ (setting : Setting) (descends : Descends setting) (marks : List Bool) where
  -- no pair is known at first
  pub known_none : (known : Known) → AreKnown setting marks 0 known
  known_none known k own fun a small within is found measures = absurd (omega (arith, within))

  -- and then one more
  pub known_next : (old new : Known) (pair : ℕ) (found : Measured) → pair < 2 ^ 64 → ((q : ℕ) → new q ≡ (if nat_eq pair q then Some found else old q)) → FindsPair setting old pair found
      → AreMarkedFrom setting 0 marks → AreKnown setting marks pair old → AreKnown setting marks (pair + 1) new
  known_next old new pair found fits adds finds closed are k own fun a small within is there measures =
      by_test (nat_eq pair (pair_number k own))
      (λ here.
      let same = eqb-true pair (pair_number k own) here in
      let callees = stmt_known setting marks old pair are k own (omega (arith, same)) fits fun.body (descends k fun there) (closed k own fun small (omega arith) is there) in
      adds (pair_number k own) ∙ rw here (ap Some (finds k own fun a small same there callees measures)))
      (λ elsewhere.
      let less = lt_of_le-ne (omega (arith, within)) (λ same. contradiction (eq-eqb pair (pair_number k own) (sym same)) elsewhere) in
      adds (pair_number k own) ∙ rw elsewhere (are k own fun a small less is there measures))

  -- a pair that is not marked needs no measure
  pub known_unmarked : (known : Known) (pair : ℕ) → slice_get marks pair ≡ Some false → AreKnown setting marks pair known → AreKnown setting marks (pair + 1) known
  known_unmarked known pair unmarked are k own fun a small within is there measures =
      by_test (nat_eq pair (pair_number k own))
      (λ here. absurd (false≢true (some_value (sym unmarked ∙ ap (slice_get marks) (eqb-true pair (pair_number k own) here) ∙ is))))
      (λ elsewhere.
      let less = lt_of_le-ne (omega (arith, within)) (λ same. contradiction (eq-eqb pair (pair_number k own) (sym same)) elsewhere) in
      are k own fun a small less is there measures)

  -- the last pair is that of the entry
  pub entry_found : (known : Known) (entry : Entry) (own last : ℕ) (found : Measured) → AreMarkedFrom setting 0 marks → (AreMarkedFrom setting 0 marks → AreKnown setting marks (length marks) known)
      → running_bound entry.bound ≡ Some own → own < 256 → last ≡ pair_number entry.fun own → length marks ≡ last + 1 → slice_get marks last ≡ Some true
      → ((a : Measured) → known last ≡ Some a → found ≡ a) → (a : Measured) → IsMeasured setting entry a → found ≡ capped a
  entry_found known entry own last found closed are running small is_last len is finds a measured = by measured.measures
    where
      by : {a : Measured} → MeasuresEntry setting measured.fun entry.bound a → found ≡ capped a
      by (MeasuresBody {a = body} n is_n m) =
          finds (capped (enclosed body))
          (ap known is_last
          ∙ are closed entry.fun own measured.fun body small (omega (arith, is_last, len)) (ap (slice_get marks) (sym is_last) ∙ is) measured.at (subst (λ i. Measures setting i measured.fun.body body) (same_some is_n running) m))
      by (MeasuresNoBody none) = not_both none running

-- with the bound 0 the entry runs nothing
pub entry_none : {setting : Setting} {entry : Entry} → running_bound entry.bound ≡ None → (a : Measured) → IsMeasured setting entry a → no_steps ≡ capped a
entry_none {setting} {entry} none a measured = by measured.measures
  where
    by : {a : Measured} → MeasuresEntry setting measured.fun entry.bound a → no_steps ≡ capped a
    by (MeasuresBody n is m) = not_both none is
    by (MeasuresNoBody none2) = refl
