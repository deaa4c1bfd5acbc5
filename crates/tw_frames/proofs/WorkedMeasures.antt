-- How much a worked recursive function runs with each bound, at each width: the length of a list.
use Rattle.std.proofs.Common.{◌≡◌, ◌∙◌, ◌*◌, ◌-◌, refl, ap, subst, arith, ℕ, zero, suc, Some, None}
use Rattle.tw_text.specs.declared.refusal.Counted.TheVariants as counted
use Rattle.tw_text.specs.Places.{first_place}
use Rattle.tw_text.specs.Refusals.{passed}
use Rattle.tw_resolve.specs.Demands.{first_broken}
use Rattle.tw_types.specs.Types.{Widths}
use Rattle.tw_resolve.specs.Setting.{Setting}
use Rattle.tw_state.specs.Steps.{running_bound}
use Rattle.tw_state.proofs.WorkedLists.{setting, list_length, count_rest}
use Rattle.tw_frames.specs.declared.measured.Measured.{Measured}
use Rattle.tw_frames.specs.Measures.{one_more, limit_rules, Measures, MeasuresNothing, MeasuresThen, MeasuresExpr, MeasuresMemSwap, MeasuresElse, MeasuresIf, MeasuresWith, MeasuresCall, MeasuresCallZero, MeasuresEntry, MeasuresBody, MeasuresNoBody}
use Rattle.tw_frames.specs.MeasureExamples.{measure}
use Rattle.tw_frames.proofs.Finding.{same_counts}

-- its program with these widths
abbrev pub lists_at : Widths → Setting
lists_at widths = record setting { widths = widths }

module _ (widths : Widths) where
  -- the recursive call runs as much as an entry with a bound that is one smaller
  call_measured : {n : ℕ} {a : Measured} → MeasuresEntry (lists_at widths) list_length (Some n) a → Measures (lists_at widths) (suc n) count_rest (one_more a)
  call_measured {n} (MeasuresBody k is m) = MeasuresCall list_length k refl (ap (λ b. running_bound (Some b)) less ∙ is) m
    where
      less : suc n - 1 ≡ n
      less = omega arith
  call_measured {n} (MeasuresNoBody none) = MeasuresCallZero (ap (λ b. running_bound (Some b)) less ∙ none)
    where
      less : suc n - 1 ≡ n
      less = omega arith

  -- 15 statements, 4 blocks in one another and an `if` for each number of the bound
  pub length_measured : (n : ℕ) → MeasuresEntry (lists_at widths) list_length (Some n) (measure (15 * n) (4 * n) n)
  length_measured zero = MeasuresNoBody refl
  length_measured (suc n) =
      subst (MeasuresEntry (lists_at widths) list_length (Some (suc n))) (same_counts (omega arith) (omega arith) (omega arith))
      (MeasuresBody (suc n) refl
      (MeasuresThen (MeasuresWith (MeasuresThen MeasuresExpr MeasuresNothing)
      (MeasuresThen (MeasuresIf (MeasuresThen MeasuresExpr MeasuresNothing)
      (MeasuresElse (MeasuresThen (MeasuresWith
      (MeasuresThen MeasuresExpr (MeasuresThen MeasuresMemSwap (MeasuresThen MeasuresExpr (MeasuresThen MeasuresExpr MeasuresNothing))))
      (MeasuresThen (call_measured (length_measured n)) MeasuresNothing)) MeasuresNothing))) MeasuresNothing)) MeasuresNothing))

-- the bound 250 is accepted, and 251 is too deep
pub bound_250_is_accepted : first_broken (limit_rules (measure (15 * 250) (4 * 250) 250)) ≡ None
bound_250_is_accepted = refl

pub bound_251_is_too_deep : first_broken (limit_rules (measure (15 * 251) (4 * 251) 251)) ≡ Some (passed counted.Depth 1004 first_place)
bound_251_is_too_deep = refl
