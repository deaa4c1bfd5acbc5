-- The set after a write to its table.
use denote.Bor.{Bor}
use mathlib.Core.Path.{fun_ext}
use Rattle.std.proofs.Common.{◌≡◌, ◌∙◌, ap, refl, ℕ, Bool, true, false, cond, if◌then◌else◌, List, Option, Some, unwrap_or, bytes_eq}
use Rattle.std.specs.HashMap.{HashMap, UpdatesBy}
use Rattle.std.proofs.lemmas.Map.Text.{hash_map_updates_str}
use Rattle.tw_check.specs.Names.{with_name}
use Rattle.tw_check.specs.Walks.{names_in}

-- what is found after a write is what was written, or what was found before
chosen : (k is_in : Bool) (found : Option Bool) → unwrap_or (cond k (Some is_in) found) false ≡ (if k then is_in else unwrap_or found false)
chosen true is_in found = refl
chosen false is_in found = refl

pub names_in-updated : (name : List ℕ) {S : Type 0} (old new : HashMap (Bor (List ℕ)) Bool S) (is_in : Bool) → UpdatesBy (λ x y. bytes_eq x.now y.now) (λ key. bytes_eq name key.now) old new (Some is_in) → names_in new.entries ≡ with_name (names_in old.entries) name is_in
names_in-updated name old new is_in updates =
    fun_ext (λ other. ap (λ found. unwrap_or found false) (hash_map_updates_str name old new (Some is_in) updates other) ∙ chosen (bytes_eq name other) is_in _)
