-- The trees of functions are sets: two proofs that two of them are equal are equal.
use Rattle.std.proofs.Math.Nat.{ℕ_set}
use Rattle.std.proofs.Math.Bool.{Bool-set}
use Rattle.std.proofs.Common.{ℕ, List, Option}
use mathlib.Core.List as list
use mathlib.Core.Sum.{⊎_set}
use Rattle.tw_text.specs.declared.place.Pos.{Pos}
use Rattle.tw_syntax.specs.declared.term.OpKind.{OpKind}
use Rattle.tw_syntax.specs.Names.{NameTree, NameTree-set, PathTree, PathTree-set}
use Rattle.tw_syntax.specs.Types.{WrittenTree, WrittenTree-set}
use Rattle.tw_syntax.specs.Terms.{AtomTree, AtomTree-set, ExprTree, ExprTree-set, BoundTree, BoundTree-set, RhsTree, RhsTree-set}
use Rattle.tw_syntax.specs.Statements.{StmtTree, StmtTree-set}
use Rattle.tw_syntax.specs.Programs.{ParamTree, ParamTree-set, FunTree, FunTree-set}

bytes : IsSet (List ℕ)
bytes = hlevel (list.is_set, ℕ_set)

places : IsSet Pos
places = hlevel ℕ_set

names : IsSet NameTree
names = hlevel (NameTree-set, bytes, places)

paths : IsSet PathTree
paths = hlevel (PathTree-set, bytes, names)

written_types : IsSet WrittenTree
written_types = hlevel (WrittenTree-set, bytes, places)

atoms : IsSet AtomTree
atoms = hlevel (AtomTree-set, ℕ_set, places, paths, written_types)

operators : IsSet OpKind
operators = hlevel ⊎_set

expressions : IsSet ExprTree
expressions = hlevel (ExprTree-set, places, atoms, operators)

bounds : IsSet BoundTree
bounds = hlevel (BoundTree-set, ℕ_set, names)

call_bounds : IsSet (Option BoundTree)
call_bounds = hlevel (bounds, ⊎_set)

arguments : IsSet (List NameTree)
arguments = list.is_set names

right_sides : IsSet RhsTree
right_sides = hlevel (RhsTree-set, expressions, names, call_bounds, arguments, written_types)

statements : IsSet StmtTree
statements = hlevel (StmtTree-set, Bool-set, places, names, paths, right_sides)

params : IsSet ParamTree
params = hlevel (ParamTree-set, names, written_types)

param_lists : IsSet (List ParamTree)
param_lists = list.is_set params

bound_names : IsSet (Option NameTree)
bound_names = hlevel (names, ⊎_set)

pub functions : IsSet FunTree
functions = hlevel (FunTree-set, names, bound_names, param_lists, written_types, statements, places)

-- so is one that is found or not
pub found_functions : IsSet (Option FunTree)
found_functions = hlevel (functions, ⊎_set)
