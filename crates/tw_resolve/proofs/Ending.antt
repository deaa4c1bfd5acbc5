-- Calls that try demands, one after the other.
use Rattle.std.proofs.Common.{◌≡◌, ◌∙◌, List, ◌++◌, Option, None, Result, Ok, Err, IsErrAnd, subst, sym}
use Rattle.tw_text.specs.declared.refusal.Fault.{Fault}
use Rattle.tw_text.specs.declared.refusal.Fault.TheVariants as fault
use Rattle.tw_text.specs.declared.refusal.Refusal.{Refusal}
use Rattle.tw_resolve.specs.Demands.{Demand, first_broken, IsReported, Tries}
use Rattle.tw_resolve.proofs.Demands.{first_broken-after_none, first_broken-before}

-- a fault that reports the first demands reports them with others behind
pub reported_before : (xs ys : List Demand) (why : Fault) → IsReported (first_broken xs) why → IsReported (first_broken (xs ++ ys)) why
reported_before xs ys (fault.Refused refusal) is = first_broken-before xs ys refusal is
reported_before xs ys fault.Memory is = tt

-- a call that ends with the fault of a call before it
pub stopped : {A : Type 0} (demands : List Demand) (why : Fault) → IsReported (first_broken demands) why → (result : Result A Fault)
    → IsErrAnd result (λ other. other ≡ why) → Tries demands result
stopped demands why is (Ok x) ends = absurd ends
stopped demands why is (Err other) ends = record { kept = tt; reported = subst (IsReported (first_broken demands)) (sym ends) is }

pub stopped_before : {A : Type 0} (xs ys : List Demand) (why : Fault) → IsReported (first_broken xs) why → (result : Result A Fault)
    → IsErrAnd result (λ other. other ≡ why) → Tries (xs ++ ys) result
stopped_before xs ys why is result ends = stopped (xs ++ ys) why (reported_before xs ys why is) result ends

-- after demands that hold, a call that tries the rest tries all
pub went_on : {A : Type 0} (xs ys : List Demand) (result : Result A Fault) → first_broken xs ≡ None → Tries ys result → Tries (xs ++ ys) result
went_on xs ys (Ok x) none tries = record { kept = first_broken-after_none xs ys none ∙ tries.kept; reported = tt }
went_on xs ys (Err why) none tries =
    record { kept = tt; reported = subst (λ (broken : Option Refusal). IsReported broken why) (sym (first_broken-after_none xs ys none)) tries.reported }

-- demands that are broken in the same way
pub as_well : {A : Type 0} (xs ys : List Demand) (result : Result A Fault) → first_broken xs ≡ first_broken ys → Tries ys result → Tries xs result
as_well xs ys (Ok x) same tries = record { kept = same ∙ tries.kept; reported = tt }
as_well xs ys (Err why) same tries = record { kept = tt; reported = subst (λ (broken : Option Refusal). IsReported broken why) (sym same) tries.reported }
