-- The entry of a program: the function that a request names, with the number that it gives to its bound.
use Rattle.std.specs.Prelude.{◌≡◌, ℕ, Bool, true, not, ◌||◌, List, [], ◌∷◌, Option, Some, None, is_some, option_and_then, slice_get, codes, refl}
use Rattle.tw_text.specs.declared.refusal.Refusal.{Refusal}
use Rattle.tw_text.specs.declared.refusal.Rule.TheVariants as rule
use Rattle.tw_text.specs.Places.{first_place}
use Rattle.tw_syntax.specs.Programs.{FunTree}
use Rattle.tw_resolve.specs.Declarations.{Name, number_of}
use Rattle.tw_resolve.specs.Demands.{Demand, first_broken}
use Rattle.tw_resolve.specs.Expressions.{if_there}
use Rattle.tw_check.specs.declared.entry.Entry.{Entry}
use Rattle.tw_check.specs.Examples.{temporary_left}

-- what is wrong with an entry: 0, no function has its name; 1, its bound is missing; 2, it declares no bound, and one is given
abbrev pub bad_entry : ℕ → Refusal
bad_entry what = record { rule = rule.BadEntry; at = first_place; found = what; limit = 0 }

-- the demands on an entry; the bound of a function is a number that is given
abbrev pub entry_rules : List FunTree → Name → Option ℕ → List Demand
entry_rules funs name bound =
    let fun = option_and_then (slice_get funs) (number_of funs name) in
    record { refusal = bad_entry 0; holds = is_some (number_of funs name) }
    ∷ record { refusal = bad_entry 1; holds = if_there fun (λ fun. not (is_some fun.bound) || is_some bound) }
    ∷ record { refusal = bad_entry 2; holds = if_there fun (λ fun. is_some fun.bound || not (is_some bound)) }
    ∷ []

-- the entry is a function of the program, by its number, with a bound exactly if the function declares one
pub record IsEntry (funs : List FunTree) (entry : Entry) : Type 0 where
  pub fun : FunTree
  pub at : slice_get funs entry.fun ≡ Some fun
  pub bound : is_some fun.bound ≡ is_some entry.bound

-- the entry is the function of this name, with this bound
pub record IsEntryOf (funs : List FunTree) (name : Name) (bound : Option ℕ) (entry : Entry) : Type 0 where
  pub is_entry : IsEntry funs entry
  pub named : number_of funs name ≡ Some entry.fun
  pub given : entry.bound ≡ bound

-- `fun f(a: bool) -> bool { .. }` as the entry `f`
pub f_is_an_entry : first_broken (entry_rules (temporary_left ∷ []) (codes "f") None) ≡ None
f_is_an_entry = refl

-- as the entry `g`
pub g_is_none : first_broken (entry_rules (temporary_left ∷ []) (codes "g") (Some 1)) ≡ Some (bad_entry 0)
g_is_none = refl

-- as the entry `f` with the bound 0
pub bound_too_much : first_broken (entry_rules (temporary_left ∷ []) (codes "f") (Some 0)) ≡ Some (bad_entry 2)
bound_too_much = refl

-- `fun f[n](a: bool) -> bool { .. }` as the entry `f`
pub bound_missing : first_broken (entry_rules (record temporary_left { bound = Some temporary_left.name } ∷ []) (codes "f") None) ≡ Some (bad_entry 1)
bound_missing = refl
