-- The parts that steps lead to, and the places of written types.
use Rattle.std.proofs.Common.{◌≡◌, ℕ, List, [], ◌∷◌, None, refl}
use Rattle.tw_text.specs.declared.place.Pos.{Pos}
use Rattle.tw_syntax.specs.declared.written.WrittenKind.{WrittenKind}
use Rattle.tw_syntax.specs.declared.written.WrittenKind as kind
use Rattle.tw_syntax.specs.Types.{written_kind_tree, written_place}
use Rattle.tw_resolve.specs.Expressions.{part}

-- no part has a part
pub part_none : (steps : List ℕ) → part steps None ≡ None
part_none [] = refl
part_none (step ∷ steps) = part_none steps

-- a written type is placed at its first token
pub written_place_at : (at : Pos) (x : WrittenKind) → written_place (written_kind_tree at x) ≡ at
written_place_at at kind.Unit = refl
written_place_at at kind.Uint = refl
written_place_at at kind.Bool = refl
written_place_at at (kind.Pair' p pa a q qa b) = refl
written_place_at at (kind.Ptr' p pa a) = refl
written_place_at at (kind.Named name) = refl
