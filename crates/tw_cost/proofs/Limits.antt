-- The limits on a price are tried in order, and counts within them are exact.
use Rattle.std.proofs.Common.{◌≡◌, ◌∙◌, ◌≤◌, ◌<◌, ◌^◌, ◌-◌, ◌++◌, min, arith, ap, subst, ℕ, List, [], ◌∷◌, Some, None, Result, Ok, Err}
use Rattle.std.proofs.lemmas.Bool.{leb-true}
use Rattle.std.specs.Result.{IsErrAnd}
use Rattle.tw_text.specs.Limits.{limit_of}
use Rattle.tw_text.specs.Places.{first_place}
use Rattle.tw_text.specs.declared.refusal.Counted.{Counted}
use Rattle.tw_text.specs.declared.refusal.Counted.TheVariants as counted
use Rattle.tw_text.specs.declared.refusal.Fault.{Fault}
use Rattle.tw_text.specs.declared.refusal.Fault.TheVariants as fault
use Rattle.tw_text.specs.declared.refusal.Refusal.{Refusal}
use Rattle.tw_text.specs.declared.refusal.Rule.TheVariants as rule
use Rattle.tw_resolve.specs.Demands.{Demand, demand_within, first_broken, Tries}
use Rattle.tw_resolve.specs.Setting.{reported}
use Rattle.tw_resolve.proofs.Demands.{first_broken-before, none_broken-each}
use Rattle.tw_resolve.proofs.Trying.{both_tried, stopped, stopped_alone, then_tried}
use Rattle.tw_frames.specs.declared.measured.Measured.{Measured}
use Rattle.tw_frames.specs.declared.regions.WireLayout.{WireLayout}
use Rattle.tw_frames.specs.Layout.{wire_rules}
use Rattle.tw_frames.specs.Measures.{limit_rules, within_limit}
use Rattle.tw_cost.specs.Prices.{price_rules}

-- the limit on a count that stops is that on the count
same_limit : (what : Counted) {found : ℕ} (n : ℕ) → found ≡ reported n → within_limit what found ≡ within_limit what n
same_limit what n is = ap (λ k. demand_within (rule.Limit what) first_place k (limit_of what)) (ap reported is ∙ twice (2 ^ 64 - 1) n)
  where
    twice : (m n : ℕ) → min (min n m) m ≡ min n m
    twice m n = omega arith

-- a count that stops, and is within a limit
abbrev pub IsExact : (limit found n : ℕ) → Type 0
IsExact limit found n = (found ≡ n) × (n ≤ limit)

exact : (what : Counted) → limit_of what < 2 ^ 64 - 1 → {found : ℕ} (n : ℕ) → found ≡ reported n → first_broken (within_limit what found ∷ []) ≡ None → IsExact (limit_of what) found n
exact what far {found} n is none =
    let within : reported found ≤ limit_of what = leb-true (reported found) (limit_of what) ((none_broken-each (within_limit what found ∷ [])).1 none).0 in
    (omega (arith, is, within, far), omega (arith, is, within, far))

pub exact_controls : {found : ℕ} (n : ℕ) → found ≡ reported n → first_broken (within_limit counted.Controls found ∷ []) ≡ None → IsExact 64 found n
exact_controls n is none = exact counted.Controls (omega arith) n is none

pub exact_lines : {found : ℕ} (n : ℕ) → found ≡ reported n → first_broken (within_limit counted.Lines found ∷ []) ≡ None → IsExact 4194304 found n
exact_lines n is none = exact counted.Lines (omega arith) n is none

module _ (measured : Measured) (most : ℕ) (layout : WireLayout) (lines : ℕ) where
  abbrev after_measure : List Demand
  after_measure = within_limit counted.Controls most ∷ (wire_rules layout ++ (within_limit counted.Lines lines ∷ []))

  -- the measure is refused
  pub refused_measure : {A C : Type 0} (why : Fault) (result : Result C Fault) → Tries {A = A} (limit_rules measured) (Err why) → IsErrAnd result (λ e. e ≡ why)
      → Tries (price_rules measured most layout lines) result
  refused_measure why result tried is = stopped (limit_rules measured) after_measure why result tried is

  module _ {A : Type 0} (x : A) (first : Tries (limit_rules measured) (Ok x)) {found : ℕ} (is_most : found ≡ reported most) where
    -- the controls are refused
    pub refused_controls : {B C : Type 0} (why : Fault) (result : Result C Fault) → Tries {A = B} (within_limit counted.Controls found ∷ []) (Err why) → IsErrAnd result (λ e. e ≡ why)
        → Tries (price_rules measured most layout lines) result
    refused_controls {B} why result tried is =
        then_tried (limit_rules measured) after_measure x result first
        (stopped (within_limit counted.Controls most ∷ []) (wire_rules layout ++ (within_limit counted.Lines lines ∷ [])) why result
        (subst (λ (rule : Demand). Tries {A = B} (rule ∷ []) (Err why)) (same_limit counted.Controls most is_most) tried) is)

    module _ {B : Type 0} (y : B) (second : Tries (within_limit counted.Controls found ∷ []) (Ok y)) where
      after_controls : {C : Type 0} (result : Result C Fault) → Tries (wire_rules layout ++ (within_limit counted.Lines lines ∷ [])) result → Tries (price_rules measured most layout lines) result
      after_controls result tried =
          then_tried (limit_rules measured) after_measure x result first
          (then_tried (within_limit counted.Controls most ∷ []) (wire_rules layout ++ (within_limit counted.Lines lines ∷ [])) y result
          (subst (λ (rule : Demand). Tries (rule ∷ []) (Ok y)) (same_limit counted.Controls most is_most) second) tried)

      -- the wires are refused
      pub refused_wires : {C : Type 0} (refusal : Refusal) → first_broken (wire_rules layout) ≡ Some refusal → Tries {A = C} (price_rules measured most layout lines) (Err (fault.Refused refusal))
      refused_wires refusal is =
          after_controls (Err (fault.Refused refusal)) (record { kept = tt; reported = first_broken-before (wire_rules layout) (within_limit counted.Lines lines ∷ []) refusal is })

      module _ (third : first_broken (wire_rules layout) ≡ None) {count : ℕ} (is_lines : count ≡ reported lines) where
        -- the lines are refused
        pub refused_lines : {C : Type 0} (why : Fault) (result : Result C Fault) → Tries {A = B} (within_limit counted.Lines count ∷ []) (Err why) → IsErrAnd result (λ e. e ≡ why)
            → Tries (price_rules measured most layout lines) result
        refused_lines why result tried is =
            after_controls result
            (then_tried (wire_rules layout) (within_limit counted.Lines lines ∷ []) layout result (record { kept = third; reported = tt })
            (stopped_alone (within_limit counted.Lines lines ∷ []) why result (subst (λ (rule : Demand). Tries {A = B} (rule ∷ []) (Err why)) (same_limit counted.Lines lines is_lines) tried) is))

        -- all are accepted
        pub accepted : {C : Type 0} (z : C) → Tries {A = B} (within_limit counted.Lines count ∷ []) (Ok y) → Tries (price_rules measured most layout lines) (Ok z)
        accepted z tried =
            after_controls (Ok z)
            (both_tried (wire_rules layout) (within_limit counted.Lines lines ∷ []) layout y z (record { kept = third; reported = tt })
            (subst (λ (rule : Demand). Tries (rule ∷ []) (Ok y)) (same_limit counted.Lines lines is_lines) tried))
