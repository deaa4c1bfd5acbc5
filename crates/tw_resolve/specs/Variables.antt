-- The variables and the names that the tables of the code hold.
use denote.Bor.{Bor}
use Rattle.std.specs.Prelude.{ℕ, List, map}
use Rattle.tw_types.specs.declared.types.Ty as ty
use Rattle.tw_types.specs.FromCode.{ty_of}
use Rattle.tw_resolve.specs.Declarations.{Name}
use Rattle.tw_resolve.specs.Expressions.{Variables}

-- the variables in a table, in the order in which they were added
abbrev pub variables_in : List (Bor (List ℕ) × ty.Ty) → Variables
variables_in entries = map (λ entry. (entry.0.now, ty_of entry.1)) entries

-- the names in a set, in the order in which they were added
abbrev pub texts_in : List (Bor (List ℕ)) → List Name
texts_in keys = map (λ key. key.now) keys
