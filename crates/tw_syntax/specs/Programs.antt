-- Functions and programs without pointers.
use Rattle.std.specs.Prelude.{◌≡◌, List, [], ◌∷◌, Option, map, codes, refl}
use Rattle.std.specs.Option.{option_map}
use Rattle.tw_text.specs.declared.place.Pos.{Pos}
use Rattle.tw_syntax.specs.declared.program.Alias.{Alias}
use Rattle.tw_syntax.specs.declared.program.Decl.{Decl}
use Rattle.tw_syntax.specs.declared.program.Decl.TheVariants as decl
use Rattle.tw_syntax.specs.declared.program.Fun.{Fun}
use Rattle.tw_syntax.specs.declared.program.Param.{Param}
use Rattle.tw_syntax.specs.declared.program.Program.{Program}
use Rattle.tw_syntax.specs.declared.written.WrittenKind as kind
use Rattle.tw_syntax.specs.Examples.{lent, name, place}
use Rattle.tw_syntax.specs.Names.{NameTree, name_tree}
use Rattle.tw_syntax.specs.Types.{WrittenTree, UnitType, written_tree}
use Rattle.tw_syntax.specs.Statements.{StmtTree, stmts_tree}

-- a parameter
pub record ParamTree : Type 0 where
  pub name : NameTree
  pub ty : WrittenTree
  deriving IsSet as ParamTree-set

-- a function, and the place of its `return`
pub record FunTree : Type 0 where
  pub name : NameTree
  pub bound : Option NameTree
  pub params : List ParamTree
  pub result : WrittenTree
  pub body : StmtTree
  pub return_at : Pos
  pub returned : NameTree
  deriving IsSet as FunTree-set

-- an alias: a name for a type
pub record AliasTree : Type 0 where
  pub name : NameTree
  pub body : WrittenTree

-- a declaration
pub data DeclTree : Type 0 where
  AliasDecl : (alias : AliasTree) → DeclTree
  FunDecl : (fun : FunTree) → DeclTree

-- a program
pub record ProgramTree : Type 0 where
  pub decls : List DeclTree

-- the tree of a parameter
abbrev pub param_tree : Param → ParamTree
param_tree x = record { name = name_tree x.name; ty = written_tree x.ty.now }

-- the tree of a function
abbrev pub fun_tree : Fun → FunTree
fun_tree x = record {
  name = name_tree x.name;
  bound = option_map name_tree x.bound;
  params = map param_tree x.params.now;
  result = written_tree x.result.now;
  body = stmts_tree x.body.now;
  return_at = x.return_at;
  returned = name_tree x.returned;
}

-- the tree of an alias
abbrev pub alias_tree : Alias → AliasTree
alias_tree x = record { name = name_tree x.name; body = written_tree x.body.now }

-- the tree of a declaration
abbrev pub decl_tree : Decl → DeclTree
decl_tree (decl.Alias x) = AliasDecl (alias_tree x)
decl_tree (decl.Fun x) = FunDecl (fun_tree x)

-- the tree of a program
abbrev pub program_tree : Program → ProgramTree
program_tree x = record { decls = map decl_tree x.decls.now }

pub program_tree-alias : program_tree (record { decls = lent (decl.Alias (record { name = name (codes "t") (place 1 6); body = lent (record { at = place 1 10; kind = kind.Unit }) }) ∷ []) })
    ≡ record { decls = AliasDecl (record { name = record { text = codes "t"; at = place 1 6 }; body = UnitType (place 1 10) }) ∷ [] }
program_tree-alias = refl
