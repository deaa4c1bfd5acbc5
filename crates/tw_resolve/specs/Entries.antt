-- What the entries of the tables of the code hold.
use denote.Bor.{Bor}
use Rattle.std.specs.Prelude.{◌≡◌, ℕ, List, map, Option, option_map}
use Rattle.std.specs.Map.{lookup}
use Rattle.std.specs.Str.{bytes_eq}
use Rattle.tw_syntax.specs.declared.program.Alias.{Alias}
use Rattle.tw_syntax.specs.declared.program.Fun.{Fun}
use Rattle.tw_syntax.specs.declared.written.Written.{Written}
use Rattle.tw_syntax.specs.Programs.{AliasTree, alias_tree, FunTree, fun_tree}
use Rattle.tw_syntax.specs.Types.{WrittenTree, type_print, written_tree}
use Rattle.tw_types.specs.Types.{Ty}
use Rattle.tw_types.specs.FromCode.{ty_of}
use Rattle.tw_resolve.specs.declared.sizes.SizedTy.{SizedTy}
use Rattle.tw_resolve.specs.Declarations.{Name}

-- what a table by names holds of a name
abbrev pub found : {V : Type 0} → List (Bor (List ℕ) × V) → Name → Option V
found entries name = lookup (λ key. bytes_eq name key.now) entries

-- a value stands under the text of its tree
pub record IsNamedBy {V T : Type 0} (tree : V → T) (text : T → Name) (entry : Bor (List ℕ) × V) : Type 0 where
  pub key : entry.0.now ≡ text (tree entry.1)

-- an alias stands under its name
abbrev pub IsAlias : Bor (List ℕ) × Bor Alias → Type 0
IsAlias = IsNamedBy (λ alias. alias_tree alias.now) (λ alias. alias.name.text)

-- the aliases
abbrev pub aliases_in : List (Bor (List ℕ) × Bor Alias) → List AliasTree
aliases_in entries = map (λ entry. alias_tree entry.1.now) entries

-- a target stands under its printed form
abbrev pub IsTarget : Bor (List ℕ) × Bor Written → Type 0
IsTarget = IsNamedBy (λ written. written_tree written.now) type_print

-- the targets of pointers
abbrev pub table_targets : List (Bor (List ℕ) × Bor Written) → List WrittenTree
table_targets entries = map (λ entry. written_tree entry.1.now) entries

-- the types of the declared names
abbrev pub types_in : List (Bor (List ℕ) × SizedTy) → Name → Option Ty
types_in entries name = option_map (λ sized. ty_of sized.ty) (found entries name)

-- a function stands under its name
abbrev pub IsFun : Bor (List ℕ) × Bor Fun → Type 0
IsFun = IsNamedBy (λ fun. fun_tree fun.now) (λ fun. fun.name.text)

-- the functions
abbrev pub funs_in : List (Bor (List ℕ) × Bor Fun) → List FunTree
funs_in entries = map (λ entry. fun_tree entry.1.now) entries
