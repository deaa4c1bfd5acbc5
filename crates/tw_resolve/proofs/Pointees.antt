-- The types of targets, by number.
use Rattle.std.proofs.Common.{◌≡◌, ◌∙◌, ◌≤◌, ap, sym, refl, ℕ, List, map, length, Option, Some, None, option_map, option_and_then, slice_get}
use Rattle.std.proofs.Math.Logic.{∥∥₁_elim}
use Rattle.std.proofs.lemmas.Option.{slice_get-map, slice_get_past}
use Rattle.tw_types.specs.Table.{ty_at}
use Rattle.tw_types.specs.Types.{Ty, Target}
use Rattle.tw_resolve.specs.Setting.{Setting, type_of}
use Rattle.tw_resolve.specs.Tables.{AreTargets}
use Rattle.tw_resolve.proofs.Sets.{found_types}

-- an optional value of an optional value, flattened
abbrev flat : {A : Type 0} → Option (Option A) → Option A
flat None = None
flat (Some found) = found

flat_map : {A B : Type 0} (f : A → Option B) (o : Option A) → option_and_then f o ≡ flat (option_map f o)
flat_map f None = refl
flat_map f (Some x) = refl

known : (o : Option Target) → option_map (λ target. target.ty) o ≡ option_and_then (λ target. Some target.ty) o
known None = refl
known (Some target) = refl

found_at : (setting : Setting) (targets : List Target) (number : ℕ) → AreTargets setting targets → ty_at targets number ≡ option_and_then (type_of setting) (slice_get setting.scope.targets number)
found_at setting targets number are =
    known (slice_get targets number)
    ∙ flat_map (λ (target : Target). Some target.ty) (slice_get targets number)
    ∙ ap flat (sym (slice_get-map (λ (target : Target). Some target.ty) targets number))
    ∙ ap (λ (all : List (Option Ty)). flat (slice_get all number)) are.types
    ∙ ap flat (slice_get-map (type_of setting) setting.scope.targets number)
    ∙ sym (flat_map (type_of setting) (slice_get setting.scope.targets number))

-- the type in the table of targets is the one that the target denotes
pub pointee_is : (setting : Setting) (targets : List Target) (number : ℕ) → ∥ AreTargets setting targets ∥₁ → ty_at targets number ≡ option_and_then (type_of setting) (slice_get setting.scope.targets number)
pointee_is setting targets number are = ∥∥₁_elim are (found_types _ _) (found_at setting targets number)

-- a number past the table denotes nothing
pub pointee_past : (setting : Setting) (targets : List Target) (number : ℕ) → ∥ AreTargets setting targets ∥₁ → length targets ≤ number → None ≡ option_and_then (type_of setting) (slice_get setting.scope.targets number)
pointee_past setting targets number are past =
    sym (ap (option_map (λ (target : Target). target.ty)) (slice_get_past targets number past)) ∙ pointee_is setting targets number are
