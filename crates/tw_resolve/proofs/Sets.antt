-- Types and lists of variables are sets: two proofs that two of them are equal are equal.
use Rattle.std.proofs.Common.{ℕ, List, [], Option, fold, ap}
use Rattle.std.specs.Coded.{Coded-set, code_by, coded_ℕ, coded_list}
use Rattle.std.proofs.Math.Nat.{ℕ_set}
use mathlib.Core.List as list
use mathlib.Core.Sum.{⊎_set}
use Rattle.tw_types.specs.Types.{Ty}
use Rattle.tw_types.specs.Coding.{postfix, push, pushed, top}
use Rattle.tw_resolve.specs.Declarations.{Name}
use Rattle.tw_resolve.specs.Expressions.{Variables}

types : IsSet Ty
types = Coded-set (code_by (List ℕ) (coded_list coded_ℕ) postfix (λ code. top (fold push [] code)) (λ ty. ap top (pushed ty [])))

names : IsSet Name
names = list.is_set ℕ_set

variables : IsSet Variables
variables = list.is_set (hlevel (names, types))

-- so is a type or none, and variables or none
pub found_types : IsSet (Option Ty)
found_types = hlevel (types, ⊎_set)

pub found_variable : IsSet (Option (Name × Ty))
found_variable = hlevel (names, types, ⊎_set)

pub found_names : IsSet (Option (List Name))
found_names = hlevel (list.is_set names, ⊎_set)

pub found_variables : IsSet (Option Variables)
found_variables = hlevel (variables, ⊎_set)
