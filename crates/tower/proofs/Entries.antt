-- The entry of a request in an accepted program: there is one, and it is a function of a sound program.
use Rattle.std.proofs.Common.{◌≡◌, ◌∙◌, ap, sym, subst, Option, slice_get}
use Rattle.std.proofs.Math.Logic.{∥∥₁_elim, ∥∥₁_prop}
use Rattle.std.proofs.Math.Path.{fun_ext}
use Rattle.tw_syntax.specs.Programs.{FunTree, ProgramTree, program_tree}
use Rattle.tw_types.specs.Types.{Widths, Ty}
use Rattle.tw_resolve.specs.Declarations.{Name, funs_of}
use Rattle.tw_resolve.specs.Denotes.{scope_of}
use Rattle.tw_resolve.specs.Entries.{types_in}
use Rattle.tw_resolve.specs.Expressions.{Types}
use Rattle.tw_resolve.specs.Programs.{IsTyped, setting_of}
use Rattle.tw_resolve.specs.Resolved.{resolved_setting}
use Rattle.tw_resolve.specs.Setting.{Setting}
use Rattle.tw_resolve.proofs.Denoting.{one_table}
use Rattle.tw_resolve.proofs.Sets.{found_types}
use Rattle.tw_check.specs.declared.checked.Checked.{Checked}
use Rattle.tw_check.specs.declared.entry.Entry.{Entry}
use Rattle.tw_check.specs.EntryPoints.{IsEntryOf}
use Rattle.tw_state.proofs.EntryFunctions.{function_of}
use Rattle.tw_state.proofs.EntryResults.{IsSound, IsFunction}
use Rattle.tw_state.proofs.SoundPrograms.{sound}
use Rattle.tw_frames.specs.declared.measured.Measured.{Measured}
use Rattle.tw_frames.specs.Measures.{IsMeasured}
use Rattle.tw_frames.proofs.OneMeasure.{is_measured_determined}
use Rattle.tower.specs.Requests.{FileRequest}
use Rattle.tower.specs.Accepted.{IsReady}
use Rattle.tower.specs.Entries.{EntryIn, setting_in, fun_in}
use Rattle.tower.proofs.Binds.{some_is}

-- a program has one table of types
one_table_of : (widths : Widths) (tree : ProgramTree) (types other : Types) → ∥ IsTyped widths tree types ∥₁ → ∥ IsTyped widths tree other ∥₁ → types ≡ other
one_table_of widths tree types other typed typed2 =
    fun_ext (λ name.
    ∥∥₁_elim typed (found_types _ _) (λ a.
    ∥∥₁_elim typed2 (found_types _ _) (λ b.
    ap (λ (found : Types). found name) (one_table (scope_of tree) types other a.are_types b.are_types))))

-- the entry is determined, and so are the types, the function and the measure
module _ (request : FileRequest) (tree : ProgramTree) (found other : EntryIn request tree) where
  same_types : found.types ≡ other.types
  same_types = one_table_of request.widths tree found.types other.types found.typed other.typed

  same_setting : setting_in found ≡ setting_in other
  same_setting = ap (setting_of request.widths tree) same_types

  same_entry : found.entry ≡ other.entry
  same_entry =
      let number = some_is found.entry.fun other.entry.fun (sym found.is_entry.named ∙ other.is_entry.named) in
      let bound = found.is_entry.given ∙ sym other.is_entry.given in
      λ i. record { fun = number i; bound = bound i }

  same_fun : fun_in found ≡ fun_in other
  same_fun = some_is (fun_in found) (fun_in other) (sym found.is_entry.is_entry.at ∙ ap (λ (e : Entry). slice_get (funs_of tree.decls) e.fun) same_entry ∙ other.is_entry.is_entry.at)

  same_measure : found.measured ≡ other.measured
  same_measure =
      is_measured_determined (setting_in other) (subst (λ (e : Entry). IsMeasured (setting_in other) e found.measured) same_entry (subst (λ (s : Setting). IsMeasured s found.entry found.measured) same_setting found.measures)) other.measures

-- what holds of the entry of a request by one finding of it holds by any other
pub moved : (request : FileRequest) (tree : ProgramTree) (found other : EntryIn request tree) (P : Setting → FunTree → Entry → Measured → Type 0) → P (setting_in found) (fun_in found) found.entry found.measured
    → P (setting_in other) (fun_in other) other.entry other.measured
moved request tree found other P is =
    subst (λ m. P (setting_in other) (fun_in other) other.entry m) (same_measure request tree found other)
    (subst (λ e. P (setting_in other) (fun_in other) e found.measured) (same_entry request tree found other)
    (subst (λ f. P (setting_in other) f found.entry found.measured) (same_fun request tree found other)
    (subst (λ s. P s (fun_in found) found.entry found.measured) (same_setting request tree found other) is)))

-- the function of the entry is one of a sound program
pub entry_right : (request : FileRequest) (tree : ProgramTree) (found : EntryIn request tree) → ∥ IsSound (setting_in found) × IsFunction (setting_in found) (fun_in found) ∥₁
entry_right request tree found =
    ∥∥₁_elim found.typed ∥∥₁_prop
    (λ are. ∣ (sound request.widths tree found.types are found.ready.accepted.right, function_of request.widths tree found.types are found.entry.fun (fun_in found) found.is_entry.is_entry.at) ∣₁)

-- an entry that was found and measured
module _ (checked : Checked) (request : FileRequest) (same : checked.resolved.tables.types.widths ≡ request.widths) (ready : IsReady request (program_tree checked.resolved.program.now)) (entry : Entry)
    (is_entry : IsEntryOf (funs_of (program_tree checked.resolved.program.now).decls) request.entry request.bound entry) (measured : Measured) (measures : IsMeasured (resolved_setting checked.resolved) entry measured) where
  abbrev tree : ProgramTree
  tree = program_tree checked.resolved.program.now

  abbrev types : Name → Option Ty
  types = types_in checked.resolved.tables.types.table.entries

  abbrev pub found_entry : EntryIn request tree
  found_entry = record {
    ready = ready;
    types = types;
    typed = subst (λ (w : Widths). ∥ IsTyped w tree types ∥₁) same (∥∥₁_elim checked.resolved.typed ∥∥₁_prop (λ are. ∣ are.typed ∣₁));
    entry = entry;
    is_entry = is_entry;
    measured = measured;
    measures = subst (λ (w : Widths). IsMeasured (setting_of w tree types) entry measured) same measures;
  }
