-- The tests of names, paths and types decide equality without places.
use Rattle.std.proofs.Common.{◌≡◌, refl, ap, Decides}
use Rattle.std.proofs.lemmas.Slice.Eq.{bytes_eq-Decides}
use Rattle.tw_syntax.specs.Names.{NameTree, PathTree}
use Rattle.tw_syntax.specs.Types.{WrittenTree, UnitType, UintType, BoolType, PairType, PtrType, NamedType}
use Rattle.tw_syntax.specs.Same.{same_name, same_path, same_written}
use Rattle.tw_syntax.specs.Unplaced.{unplaced_name, unplaced_path, unplaced_written}
use Rattle.tw_syntax.proofs.Deciding.{one, two, always, never}

pub name_decides : (x y : NameTree) → Decides (same_name x y) (unplaced_name x ≡ unplaced_name y)
name_decides x y = one (bytes_eq-Decides x.text y.text) (λ e. cc) (ap (λ z. z.text))

pub path_decides : (x y : PathTree) → Decides (same_path x y) (unplaced_path x ≡ unplaced_path y)
path_decides x y = two (name_decides x.root y.root) (bytes_eq-Decides x.steps y.steps) (λ e f. cc) (ap (λ z. z.root)) (ap (λ z. z.steps))

pub written_decides : (x y : WrittenTree) → Decides (same_written x y) (unplaced_written x ≡ unplaced_written y)
written_decides (UnitType p) (UnitType q) = always refl
written_decides (UintType p) (UintType q) = always refl
written_decides (BoolType p) (BoolType q) = always refl
written_decides (PairType p a b) (PairType q c d) = two (written_decides a c) (written_decides b d) (λ e f. cc) (λ e. cc) (λ e. cc)
written_decides (PtrType p a) (PtrType q b) = one (written_decides a b) (λ e. cc) (λ e. cc)
written_decides (NamedType p a) (NamedType q b) = one (bytes_eq-Decides a b) (λ e. cc) (λ e. cc)
written_decides x y = never (λ e. cc)
