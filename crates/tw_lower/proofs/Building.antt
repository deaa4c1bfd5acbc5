-- Which statements and functions are compiled, found one after the other.
use Rattle.std.proofs.Common.{◌≡◌, Decides, refl, sym, ◌∙◌, subst, Bool, true, false, List, [], ◌∷◌, Option, Some, None}
use Rattle.std.specs.List.{AllByRecursion}
use Rattle.tw_syntax.specs.Programs.{FunTree}
use Rattle.tw_syntax.specs.Statements.{StmtTree, Nothing, Then}
use Rattle.tw_state.proofs.Basics.{contradiction}
use Rattle.tw_lower.specs.Lowering.{IsBuilt, IsBuiltFun}

-- what is left decides of all
pub record Leaves (All Left : Type 0) : Type 0 where
  pub to : Left → All
  pub from : All → Left

pub all_left : (All : Type 0) → Leaves All All
all_left All = record { to = λ all. all; from = λ all. all }

module _ {P Q : Type 0} {k : Bool} (found : Decides k P) where
  -- both parts
  pub both_decided : {m : Bool} → k ≡ true → Decides m Q → Decides m (P × Q)
  both_decided holds rest = (λ is. (found.0 holds, rest.0 is), λ both. rest.1 both.1)

  pub first_fails : k ≡ false → Decides k (P × Q)
  first_fails fails = (λ is. contradiction is fails, λ both. found.1 both.0)

  -- the first one of what is left
  pub one_less : {All : Type 0} → Leaves All (P × Q) → k ≡ true → Leaves All Q
  one_less left holds = record { to = λ rest. left.to (found.0 holds, rest); from = λ all. (left.from all).1 }

  pub one_fails : {All : Type 0} → Leaves All (P × Q) → k ≡ false → Decides false All
  one_fails left fails = (λ is. contradiction is refl, λ all. contradiction (found.1 (left.from all).0) fails)

pub none_left : {All : Type 0} → Leaves All (Unit {0}) → Decides true All
none_left left = (λ is. left.to tt, λ all. refl)

-- statements
pub stmts_left : {All : Type 0} {left other : StmtTree} → Leaves All (IsBuilt left) → left ≡ other → Leaves All (IsBuilt other)
stmts_left {All} leaves same = subst (λ s. Leaves All (IsBuilt s)) same leaves

-- functions
pub funs_left : {All : Type 0} {left other : List FunTree} → Leaves All (AllByRecursion IsBuiltFun left) → left ≡ other → Leaves All (AllByRecursion IsBuiltFun other)
funs_left {All} leaves same = subst (λ s. Leaves All (AllByRecursion IsBuiltFun s)) same leaves
