-- Written types without pointers.
use Rattle.std.specs.Prelude.{◌≡◌, ℕ, List, ◌++◌, codes, refl}
use Rattle.tw_text.specs.declared.place.Pos.{Pos}
use Rattle.tw_syntax.specs.declared.written.Written.{Written}
use Rattle.tw_syntax.specs.declared.written.WrittenKind.{WrittenKind}
use Rattle.tw_syntax.specs.declared.written.WrittenKind as kind
use Rattle.tw_syntax.specs.Examples.{lent, place}

-- a written type and the place of its first token
pub data WrittenTree : Type 0 where
  UnitType : (at : Pos) → WrittenTree
  UintType : (at : Pos) → WrittenTree
  BoolType : (at : Pos) → WrittenTree
  PairType : (at : Pos) (first second : WrittenTree) → WrittenTree
  PtrType : (at : Pos) (to : WrittenTree) → WrittenTree
  NamedType : (at : Pos) (name : List ℕ) → WrittenTree
  deriving IsSet as WrittenTree-set

-- the tree of a form of types at a place
abbrev pub written_kind_tree : Pos → WrittenKind → WrittenTree
written_kind_tree at kind.Unit = UnitType at
written_kind_tree at kind.Uint = UintType at
written_kind_tree at kind.Bool = BoolType at
written_kind_tree at (kind.Pair' p pa a q qa b) = PairType at (written_kind_tree pa a) (written_kind_tree qa b)
written_kind_tree at (kind.Ptr' p pa a) = PtrType at (written_kind_tree pa a)
written_kind_tree at (kind.Named name) = NamedType at name.now

-- the tree of a written type
abbrev pub written_tree : Written → WrittenTree
written_tree x = written_kind_tree x.at x.kind

-- the place of the first token
abbrev pub written_place : WrittenTree → Pos
written_place (UnitType at) = at
written_place (UintType at) = at
written_place (BoolType at) = at
written_place (PairType at first second) = at
written_place (PtrType at to) = at
written_place (NamedType at name) = at

-- the printed form of a written type
abbrev pub type_print : WrittenTree → List ℕ
type_print (UnitType at) = codes "()"
type_print (UintType at) = codes "uint"
type_print (BoolType at) = codes "bool"
type_print (PairType at first second) = codes "(" ++ (type_print first ++ (codes ", " ++ (type_print second ++ codes ")")))
type_print (PtrType at to) = codes "ptr<" ++ (type_print to ++ codes ">")
type_print (NamedType at name) = name

pub written_tree-ptr : written_tree (record { at = place 1 6; kind = kind.Ptr (lent (record { at = place 1 10; kind = kind.Uint })) }) ≡ PtrType (place 1 6) (UintType (place 1 10))
written_tree-ptr = refl

pub written_kind_tree-name : written_kind_tree (place 2 1) (kind.Named (lent (codes "list"))) ≡ NamedType (place 2 1) (codes "list")
written_kind_tree-name = refl

pub type_print-item : type_print (PairType (place 1 10) (UintType (place 1 11)) (PtrType (place 1 17) (NamedType (place 1 21) (codes "list")))) ≡ codes "(uint, ptr<list>)"
type_print-item = refl
