-- Laws of lists of demands.
use Rattle.std.proofs.Common.{◌≡◌, ◌↔◌, refl, Bool, true, false, ◌&&◌, if◌then◌else◌, List, [], ◌∷◌, ◌++◌, Some, None}
use Rattle.std.proofs.lemmas.Bool.{and_parts, and_from}
use Rattle.std.specs.List.{AllByRecursion}
use Rattle.tw_text.specs.declared.refusal.Refusal.{Refusal}
use Rattle.tw_resolve.specs.Demands.{Demand, all_hold, first_broken}

abbrev pub Holds : Demand → Type 0
Holds demand = demand.holds ≡ true

-- each demand holds
abbrev pub EachHolds : List Demand → Type 0
EachHolds demands = AllByRecursion Holds demands

none_broken : (demands : List Demand) → EachHolds demands → first_broken demands ≡ None
none_broken [] each = refl
none_broken (d ∷ ds) each = rw each.0 (none_broken ds each.1)

each_if_none_broken : (demands : List Demand) → first_broken demands ≡ None → EachHolds demands
each_if_none_broken [] none = tt
each_if_none_broken (d ∷ ds) none = by d.holds refl none (each_if_none_broken ds)
  where
    by : (k : Bool) → d.holds ≡ k → (if k then first_broken ds else Some d.refusal) ≡ None → (first_broken ds ≡ None → EachHolds ds) → (d.holds ≡ true) × EachHolds ds
    by true holds none rest = (holds, rest none)
    by false fails none rest = absurd (cc)

-- no demand is broken exactly if each holds
pub none_broken-each : (demands : List Demand) → EachHolds demands ↔ (first_broken demands ≡ None)
none_broken-each demands = (none_broken demands, each_if_none_broken demands)

each_if_all : (demands : List Demand) → all_hold demands ≡ true → EachHolds demands
each_if_all [] all = tt
each_if_all (d ∷ ds) all = let parts = and_parts d.holds (all_hold ds) all in (parts.0, each_if_all ds parts.1)

all_if_each : (demands : List Demand) → EachHolds demands → all_hold demands ≡ true
all_if_each [] each = refl
all_if_each (d ∷ ds) each = and_from d.holds (all_hold ds) each.0 (all_if_each ds each.1)

pub all_hold-none_broken : (demands : List Demand) → (all_hold demands ≡ true) ↔ (first_broken demands ≡ None)
all_hold-none_broken demands =
    (λ all. none_broken demands (each_if_all demands all), λ none. all_if_each demands (each_if_none_broken demands none))

pub all_hold-append : (xs ys : List Demand) → all_hold (xs ++ ys) ≡ (all_hold xs && all_hold ys)
all_hold-append [] ys = refl
all_hold-append (x ∷ xs) ys =
    elim x.holds as (λ k. (k && all_hold (xs ++ ys)) ≡ ((k && all_hold xs) && all_hold ys)) [ true ↦ all_hold-append xs ys | false ↦ refl ]

-- after demands that hold, the rest decide
pub first_broken-after_none : (xs ys : List Demand) → first_broken xs ≡ None → first_broken (xs ++ ys) ≡ first_broken ys
first_broken-after_none [] ys none = refl
first_broken-after_none (x ∷ xs) ys none =
    (elim x.holds as (λ k. (if k then first_broken xs else Some x.refusal) ≡ None → (if k then first_broken (xs ++ ys) else Some x.refusal) ≡ first_broken ys) [
      | true ↦ λ none. first_broken-after_none xs ys none
      | false ↦ λ none. absurd (cc)
    ]) none

-- a broken demand decides, whatever follows
pub first_broken-before : (xs ys : List Demand) (refusal : Refusal) → first_broken xs ≡ Some refusal → first_broken (xs ++ ys) ≡ Some refusal
first_broken-before [] ys refusal some = absurd (cc)
first_broken-before (x ∷ xs) ys refusal some =
    (elim x.holds as (λ k. (if k then first_broken xs else Some x.refusal) ≡ Some refusal → (if k then first_broken (xs ++ ys) else Some x.refusal) ≡ Some refusal) [
      | true ↦ λ some. first_broken-before xs ys refusal some
      | false ↦ λ some. some
    ]) some
