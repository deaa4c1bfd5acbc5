-- An entry is nested no deeper than its measure says.
use Rattle.std.proofs.Common.{◌≡◌, ◌≤◌, ◌<◌, ◌+◌, ◌-◌, ◌^◌, max, min, arith, refl, ℕ, zero, suc, Option, None}
use Rattle.std.proofs.lemmas.Bool.{leb-true}
use Rattle.tw_text.specs.declared.limits.TheConstants.{DEPTH_LIMIT}
use Rattle.tw_syntax.specs.Programs.{FunTree}
use Rattle.tw_syntax.specs.Statements.{StmtTree, IfStmt, WithStmt, BlockStmt, LetStmt}
use Rattle.tw_syntax.specs.Terms.{CallRhs}
use Rattle.tw_resolve.specs.Demands.{first_broken}
use Rattle.tw_resolve.specs.Setting.{Setting, reported}
use Rattle.tw_resolve.proofs.Demands.{none_broken-each}
use Rattle.tw_check.specs.declared.entry.Entry.{Entry}
use Rattle.tw_state.specs.Depth.{IsWithin, WithinNothing, WithinThen, WithinElse, WithinExpr, WithinAlloc, WithinCall, WithinCallZero, WithinSwap, WithinMemSwap, WithinIf, WithinWith, WithinBlock, WithinSkip, EntryIsWithin, WithinBody, WithinNoBody, EntryWithin}
use Rattle.tw_frames.specs.declared.measured.Measured.{Measured}
use Rattle.tw_frames.specs.Measures.{Measures, MeasuresNothing, MeasuresThen, MeasuresExpr, MeasuresAlloc, MeasuresSwap, MeasuresMemSwap, MeasuresSkip, MeasuresBlock, MeasuresElse, MeasuresIf, MeasuresWith, MeasuresCall, MeasuresCallZero, MeasuresEntry, MeasuresBody, MeasuresNoBody, IsMeasured, limit_rules}

left_part : (a b most : ℕ) → max a b ≤ most → a ≤ most
left_part a b most within = omega (arith, within)

right_part : (a b most : ℕ) → max a b ≤ most → b ≤ most
right_part a b most within = omega (arith, within)

-- a block that is no deeper than this number is not empty of depth: its inside is one less deep
one_deeper : (P : ℕ → Type 0) (inner most : ℕ) → 1 + inner ≤ most → ((rest : ℕ) → inner ≤ rest → P (suc rest)) → P most
one_deeper P inner zero within f = absurd (omega (arith, within))
one_deeper P inner (suc rest) within f = f rest (omega (arith, within))

-- a count that is reported within a limit is within it
not_capped : (m n l : ℕ) → min n m ≤ l → l < m → n ≤ l
not_capped m n l less far = omega (arith, less, far)

module _ (setting : Setting) where
  -- a statement is within each depth that is at least its measured one
  pub is_within : {own : ℕ} {s : StmtTree} {a : Measured} → Measures setting own s a → (depth : ℕ) → a.depth ≤ depth → IsWithin setting depth own s
  is_within MeasuresNothing depth within = WithinNothing
  is_within (MeasuresThen {a = a} {b = b} x y) depth within = WithinThen (is_within x depth (left_part a.depth b.depth depth within)) (is_within y depth (right_part a.depth b.depth depth within))
  is_within MeasuresExpr depth within = WithinExpr
  is_within MeasuresAlloc depth within = WithinAlloc
  is_within MeasuresSwap depth within = WithinSwap
  is_within MeasuresMemSwap depth within = WithinMemSwap
  is_within MeasuresSkip depth within = WithinSkip
  is_within {own} (MeasuresBlock {at = at} {body = body} {a = a} x) depth within =
      one_deeper (λ d. IsWithin setting d own (BlockStmt at body)) a.depth depth within (λ rest inner. WithinBlock (is_within x rest inner))
  is_within (MeasuresElse x) depth within = WithinElse (is_within x depth within)
  is_within {own} (MeasuresIf {at = at} {cond = cond} {first = first} {other = other} {a = a} {b = b} x y) depth within =
      one_deeper (λ d. IsWithin setting d own (IfStmt at cond first other)) (max a.depth b.depth) depth within
      (λ rest inner. WithinIf (is_within x rest (left_part a.depth b.depth rest inner)) (is_within y rest (right_part a.depth b.depth rest inner)))
  is_within {own} (MeasuresWith {at = at} {setup = setup} {work = work} {a = a} {b = b} x y) depth within =
      one_deeper (λ d. IsWithin setting d own (WithStmt at setup work)) (max (max a.depth b.depth) a.depth) depth within
      (λ rest inner. let both = left_part (max a.depth b.depth) a.depth rest inner in
      WithinWith (is_within x rest (left_part a.depth b.depth rest both)) (is_within y rest (right_part a.depth b.depth rest both)))
  is_within {own} (MeasuresCall {callee = callee} {at = at} {forward = forward} {target = target} {bound = bound} {args = args} {a = a} fun n is_fun is_bound x) depth within =
      one_deeper (λ d. IsWithin setting d own (LetStmt at forward target (CallRhs callee bound args))) a.depth depth within
      (λ rest inner. WithinCall fun n is_fun is_bound (is_within x rest inner))
  is_within (MeasuresCallZero none) depth within = WithinCallZero none

  entry_is_within : (fun : FunTree) (bound : Option ℕ) (a : Measured) → MeasuresEntry setting fun bound a → (depth : ℕ) → a.depth ≤ depth → EntryIsWithin setting depth fun bound
  entry_is_within fun bound _ (MeasuresBody {a = a} n is x) depth within =
      one_deeper (λ d. EntryIsWithin setting d fun bound) a.depth depth within (λ rest inner. WithinBody rest n refl is (is_within x rest inner))
  entry_is_within fun bound _ (MeasuresNoBody none) depth within = WithinNoBody none

  -- an entry of a program is within each depth that is at least its measured one
  entry_within : (entry : Entry) (a : Measured) → IsMeasured setting entry a → (depth : ℕ) → a.depth ≤ depth → EntryWithin setting depth entry.fun entry.bound
  entry_within entry a measured depth within = (measured.fun, measured.at, entry_is_within measured.fun entry.bound a measured.measures depth within)

  -- an entry whose measure passes no limit is within the limit on depths
  pub entry_within_limit : (entry : Entry) (a : Measured) → IsMeasured setting entry a → first_broken (limit_rules a) ≡ None → EntryWithin setting DEPTH_LIMIT entry.fun entry.bound
  entry_within_limit entry a measured none =
      let each = (none_broken-each (limit_rules a)).1 none in
      entry_within entry a measured DEPTH_LIMIT (not_capped (2 ^ 64 - 1) a.depth 1000 (leb-true (reported a.depth) 1000 each.1.0) (omega arith))
