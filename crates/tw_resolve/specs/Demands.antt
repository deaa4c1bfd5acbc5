-- What the rules demand of a program: tests in the order in which they are tried. The first that fails is the refusal.
use Rattle.std.specs.Prelude.{◌≡◌, ℕ, Bool, true, false, ◌&&◌, leb, if◌then◌else◌, List, [], ◌∷◌, Option, Some, None, Result, OnOk, IfErr, refl}
use Rattle.tw_text.specs.declared.place.Pos.{Pos}
use Rattle.tw_text.specs.declared.refusal.Fault.{Fault}
use Rattle.tw_text.specs.declared.refusal.Fault.TheVariants as fault
use Rattle.tw_text.specs.declared.refusal.Refusal.{Refusal}
use Rattle.tw_text.specs.declared.refusal.Rule.{Rule}
use Rattle.tw_text.specs.declared.refusal.Rule.TheVariants as rule
use Rattle.tw_text.specs.Places.{first_place}
use Rattle.tw_text.specs.Refusals.{broken}

-- a test, and the refusal if it fails
pub record Demand : Type 0 where
  pub refusal : Refusal
  pub holds : Bool

-- the demand of a rule at a place
abbrev pub demand : Rule → Pos → Bool → Demand
demand rule at holds = record { refusal = broken rule at; holds = holds }

-- the demand that a number is within a limit
abbrev pub demand_within : Rule → Pos → ℕ → ℕ → Demand
demand_within rule at found limit =
    record { refusal = record { rule = rule; at = at; found = found; limit = limit }; holds = leb found limit }

-- whether all demands hold
abbrev pub all_hold : List Demand → Bool
all_hold [] = true
all_hold (first ∷ rest) = first.holds && all_hold rest

-- the refusal of the first demand that fails
abbrev pub first_broken : List Demand → Option Refusal
first_broken [] = None
first_broken (first ∷ rest) = if first.holds then first_broken rest else Some first.refusal

-- the refusal that a fault reports is this one; memory may run out at any time
abbrev pub IsReported : Option Refusal → Fault → Type 0
IsReported broken (fault.Refused refusal) = broken ≡ Some refusal
IsReported broken fault.Memory = Unit {0}

-- a call tries these demands: it is `Ok` only if all hold, and else reports the first that fails
pub record Tries {A : Type 0} (demands : List Demand) (result : Result A Fault) : Type 0 where
  pub kept : OnOk result (first_broken demands ≡ None)
  pub reported : IfErr result (IsReported (first_broken demands))

-- the second demand fails first
abbrev three : List Demand
three = demand rule.CallOrder first_place true ∷ demand_within rule.TypeTooDeep first_place 65 64 ∷ demand rule.BadCall first_place false ∷ []

pub second_broken : first_broken three ≡ Some (record { rule = rule.TypeTooDeep; at = first_place; found = 65; limit = 64 })
second_broken = refl

pub three_do_not_hold : all_hold three ≡ false
three_do_not_hold = refl

pub within_holds : first_broken (demand_within rule.TypeTooDeep first_place 64 64 ∷ []) ≡ None
within_holds = refl
