-- Counts that are within their limits are exact.
use Rattle.std.proofs.Common.{◌≡◌, ◌∙◌, ◌≤◌, ◌<◌, ◌^◌, ◌-◌, min, arith, sym, ap, subst, ℕ, List, [], ◌∷◌, None, Result}
use Rattle.std.proofs.lemmas.Bool.{leb-true}
use Rattle.tw_text.specs.Limits.{limit_of}
use Rattle.tw_text.specs.Places.{first_place}
use Rattle.tw_text.specs.declared.refusal.Counted.TheVariants as counted
use Rattle.tw_text.specs.declared.refusal.Fault.{Fault}
use Rattle.tw_text.specs.declared.refusal.Rule.TheVariants as rule
use Rattle.tw_resolve.specs.Demands.{Demand, demand_within, first_broken, Tries}
use Rattle.tw_resolve.specs.Setting.{Setting, reported}
use Rattle.tw_resolve.proofs.Demands.{none_broken-each}
use Rattle.tw_check.specs.declared.entry.Entry.{Entry}
use Rattle.tw_syntax.specs.Programs.{FunTree}
use Rattle.tw_syntax.specs.Statements.{StmtTree}
use Rattle.tw_frames.specs.declared.measured.Measured.{Measured}
use Rattle.tw_frames.specs.Measures.{capped, limit_rules, Measures, MeasuresNothing, MeasuresThen, MeasuresExpr, MeasuresAlloc, MeasuresSwap, MeasuresMemSwap, MeasuresSkip, MeasuresBlock, MeasuresElse, MeasuresIf, MeasuresWith, MeasuresCall, MeasuresCallZero, MeasuresEntry, MeasuresBody, MeasuresNoBody, IsMeasured, HasOneMeasure}

-- an `if` encloses blocks, so `if`s are no deeper than blocks
module _ (setting : Setting) where
  ifs_within : {own : ℕ} {s : StmtTree} {a : Measured} → Measures setting own s a → a.if_depth ≤ a.depth
  ifs_within MeasuresNothing = omega arith
  ifs_within (MeasuresThen m n) = let p = ifs_within m in let q = ifs_within n in omega (arith, p, q)
  ifs_within MeasuresExpr = omega arith
  ifs_within MeasuresAlloc = omega arith
  ifs_within MeasuresSwap = omega arith
  ifs_within MeasuresMemSwap = omega arith
  ifs_within MeasuresSkip = omega arith
  ifs_within (MeasuresBlock m) = let p = ifs_within m in omega (arith, p)
  ifs_within (MeasuresElse m) = ifs_within m
  ifs_within (MeasuresIf m n) = let p = ifs_within m in let q = ifs_within n in omega (arith, p, q)
  ifs_within (MeasuresWith m n) = let p = ifs_within m in let q = ifs_within n in omega (arith, p, q)
  ifs_within (MeasuresCall fun n named is m) = let p = ifs_within m in omega (arith, p)
  ifs_within (MeasuresCallZero none) = omega arith

  pub entry_ifs_within : {fun : FunTree} {bound : _} {a : Measured} → MeasuresEntry setting fun bound a → a.if_depth ≤ a.depth
  entry_ifs_within (MeasuresBody n is m) = let p = ifs_within m in omega (arith, p)
  entry_ifs_within (MeasuresNoBody none) = omega arith

exact : (m n l : ℕ) → min n m ≤ l → l < m → min n m ≡ n
exact m n l less far = omega (arith, less, far)

still : (m n k : ℕ) → n ≤ k → min k m ≡ k → min n m ≡ n
still m n k less is = omega (arith, less, is)

abbrev greatest : ℕ
greatest = 2 ^ 64 - 1

-- a measure that is within the limits is exact
capped_exact : (a : Measured) → a.if_depth ≤ a.depth → first_broken (limit_rules a) ≡ None → capped a ≡ a
capped_exact a ifs none =
    let each = (none_broken-each (limit_rules a)).1 none in
    let statements = exact greatest a.statements 1000000 (leb-true (reported a.statements) 1000000 each.0) (omega arith) in
    let depth = exact greatest a.depth 1000 (leb-true (reported a.depth) 1000 each.1.0) (omega arith) in
    let if_depth = still greatest a.if_depth a.depth ifs depth in
    λ i. record { statements = statements i; depth = depth i; if_depth = if_depth i }

-- the demands on capped counts are those on the counts
abbrev demands : ℕ → ℕ → List Demand
demands statements depth =
    demand_within (rule.Limit counted.Statements) first_place statements (limit_of counted.Statements)
    ∷ demand_within (rule.Limit counted.Depth) first_place depth (limit_of counted.Depth)
    ∷ []

capped_rules : (a : Measured) → limit_rules (capped a) ≡ limit_rules a
capped_rules a = λ i. demands (twice greatest a.statements i) (twice greatest a.depth i)
  where
    twice : (m n : ℕ) → min (min n m) m ≡ min n m
    twice m n = omega arith

module _ (setting : Setting) (entry : Entry) {A : Type 0} (found : Measured) (finds : (a : Measured) → IsMeasured setting entry a → found ≡ capped a) (result : Result A Fault) (tried : Tries (limit_rules found) result) where
  -- the limits are tried on the measure of the entry
  pub measure_tried : (a : Measured) → IsMeasured setting entry a → Tries (limit_rules a) result
  measure_tried a is = subst (λ rules. Tries rules result) (ap limit_rules (finds a is) ∙ capped_rules a) tried

-- if they hold, what was found is the measure
pub measure_exact : (setting : Setting) (entry : Entry) (found : Measured) → ((a : Measured) → IsMeasured setting entry a → found ≡ capped a) → HasOneMeasure setting entry → first_broken (limit_rules found) ≡ None → IsMeasured setting entry found
measure_exact setting entry found finds one none =
    let is_found = finds one.measured one.is in
    let rules = ap limit_rules is_found ∙ capped_rules one.measured in
    subst (IsMeasured setting entry) (sym (is_found ∙ capped_exact one.measured (entry_ifs_within setting one.is.measures) (ap first_broken (sym rules) ∙ none))) one.is
