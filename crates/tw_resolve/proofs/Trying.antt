-- Calls that try demands one after the other.
use Rattle.std.proofs.Common.{◌≡◌, List, ◌++◌, Result, Ok, Err, subst}
use Rattle.std.specs.Result.{IsErrAnd}
use Rattle.tw_text.specs.declared.refusal.Fault.{Fault}
use Rattle.tw_text.specs.declared.refusal.Fault.TheVariants as fault
use Rattle.tw_resolve.specs.Demands.{Demand, first_broken, IsReported, Tries}
use Rattle.tw_resolve.specs.Expressions.{Variables}
use Rattle.tw_resolve.proofs.Demands.{first_broken-after_none, first_broken-before}

-- what a fault reports of demands, it reports of these and more
reported_before : (xs ys : List Demand) (fault : Fault) → IsReported (first_broken xs) fault → IsReported (first_broken (xs ++ ys)) fault
reported_before xs ys (fault.Refused refusal) is = first_broken-before xs ys refusal is
reported_before xs ys fault.Memory is = tt

-- the first demands are tried, and a fault ends the call
pub stopped : {A B : Type 0} (xs ys : List Demand) (fault : Fault) (result : Result B Fault)
    → Tries {A = A} xs (Err fault) → IsErrAnd result (λ e. e ≡ fault) → Tries (xs ++ ys) result
stopped xs ys fault (Err e) tries is = record { kept = tt; reported = rw is (reported_before xs ys fault tries.reported) }
stopped xs ys fault (Ok x) tries is = absurd is

pub stopped_alone : {A B : Type 0} (xs : List Demand) (fault : Fault) (result : Result B Fault)
    → Tries {A = A} xs (Err fault) → IsErrAnd result (λ e. e ≡ fault) → Tries xs result
stopped_alone xs fault (Err e) tries is = record { kept = tt; reported = rw is tries.reported }
stopped_alone xs fault (Ok x) tries is = absurd is

-- the first demands hold, and then the others are tried
pub then_tried : {A B : Type 0} (xs ys : List Demand) (x : A) (result : Result B Fault)
    → Tries xs (Ok x) → Tries ys result → Tries (xs ++ ys) result
then_tried xs ys x (Err e) first rest = record { kept = tt; reported = rw (first_broken-after_none xs ys first.kept) rest.reported }
then_tried xs ys x (Ok y) first rest = record { kept = rw (first_broken-after_none xs ys first.kept) rest.kept; reported = tt }

-- both the first demands and the others hold
pub both_tried : {A B C : Type 0} (xs ys : List Demand) (x : A) (y : B) (z : C)
    → Tries xs (Ok x) → Tries ys (Ok y) → Tries {A = C} (xs ++ ys) (Ok z)
both_tried xs ys x y z first rest = record { kept = rw (first_broken-after_none xs ys first.kept) rest.kept; reported = tt }

-- memory may run out at any time
pub out_of_memory : {B : Type 0} (xs : List Demand) (result : Result B Fault) → IsErrAnd result (λ e. e ≡ fault.Memory) → Tries xs result
out_of_memory xs (Err fault.Memory) is = record { kept = tt; reported = tt }
out_of_memory xs (Err (fault.Refused refusal)) is = absurd (cc is)
out_of_memory xs (Ok x) is = absurd is

-- the same demands decide
pub tries_same : {A : Type 0} (xs ys : List Demand) (result : Result A Fault) → first_broken xs ≡ first_broken ys → Tries ys result → Tries xs result
tries_same xs ys result same tries = record { kept = rw same tries.kept; reported = rw same tries.reported }

-- the same rules of equal variables
pub tries_at : {A : Type 0} (rules : Variables → List Demand) (old new : Variables) (result : Result A Fault) → old ≡ new → Tries (rules old) result → Tries (rules new) result
tries_at rules old new result same tries = subst (λ (v : Variables). Tries (rules v) result) same tries

pub ruleset trying = (stopped, then_tried, both_tried, out_of_memory)
