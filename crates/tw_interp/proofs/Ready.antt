-- What holds of a function that runs, by the functions with their numbers.
use Rattle.std.proofs.Common.{◌≡◌, ◌∙◌, ◌<◌, ap, sym, subst, arith, ℕ, zero, suc, Bool, false, if◌then◌else◌, List, [], ◌∷◌, ◌++◌, length, Option, Some, option_and_then, option_map, slice_get, unwrap_or, Result, bytes_eq}
use Rattle.std.proofs.lemmas.Option.{none-some, slice_get-map}
use Rattle.tw_text.specs.declared.place.Pos.{Pos}
use Rattle.tw_syntax.specs.Programs.{program_tree}
use Rattle.tw_types.specs.Types.{Ty}
use Rattle.tw_resolve.specs.Declarations.{AreDifferent, Name, funs_of}
use Rattle.tw_resolve.specs.Expressions.{Variables, texts_of, variable_type}
use Rattle.tw_resolve.specs.Resolved.{resolved_setting, type_at, variables_at}
use Rattle.tw_resolve.specs.Setting.{Setting}
use Rattle.tw_resolve.proofs.Each.{each_at}
use Rattle.tw_resolve.proofs.Texts.{bytes_eq-sym}
use Rattle.tw_state.specs.States.{State}
use Rattle.tw_state.proofs.Basics.{name_test, some_value}
use Rattle.tw_interp.specs.declared.activation.Activation.{Activation}
use Rattle.tw_interp.specs.declared.fault.RunFault.{RunFault}
use Rattle.tw_interp.specs.declared.runner.Runner.{Runner}
use Rattle.tw_interp.specs.Following.{PadsName, PadsSlot}
use Rattle.tw_interp.specs.Machines.{names_of, setting_of}
use Rattle.tw_interp.specs.Numbered.{numbered_names}

-- the item of a place
pub item_at : {A : Type 0} (xs : List A) (i : ℕ) → i < length xs → (x : A) × (slice_get xs i ≡ Some x)
item_at [] i inside = absurd (omega (arith, inside))
item_at (x ∷ xs) zero inside = (x, λ i. Some x)
item_at (x ∷ xs) (suc i) inside = item_at xs i (omega (arith, inside))

-- what holds of each item and of one more
pub each_pushed : {A : Type 0} (P : ℕ → A → Type 0) (xs : List A) (x : A) → ((i : ℕ) (y : A) → slice_get xs i ≡ Some y → P i y) → P (length xs) x → (i : ℕ) (y : A) → slice_get (xs ++ x ∷ []) i ≡ Some y → P i y
each_pushed P [] x each last zero y at = subst (P 0) (some_value at) last
each_pushed P [] x each last (suc i) y at = absurd (none-some y at)
each_pushed P (z ∷ zs) x each last zero y at = each zero y at
each_pushed P (z ∷ zs) x each last (suc i) y at = each_pushed (λ j. P (suc j)) zs x (λ j. each (suc j)) last i y at

-- the names of the variables of a function are different
pub different_of : (runner : Runner) (number : ℕ) → number < length (funs_of (program_tree runner.checked.now.resolved.program.now).decls) → AreDifferent (numbered_names (resolved_setting runner.checked.now.resolved) number)
different_of runner number inside =
    let fun = item_at (funs_of (program_tree runner.checked.now.resolved.program.now).decls) number inside in
    let body = item_at runner.bodies.items number (omega (arith, inside, runner.numbered.counted)) in
    (runner.numbered.each number fun.0 body.0 fun.1 body.1).different

pub names_different : (act : Activation) → AreDifferent (names_of act)
names_different act = different_of act.runner.now act.fun act.in_program

-- the name and the type of the variable of a number
module _ (setting : Setting) (fun : ℕ) (variables : Variables) (are : variables_at setting fun ≡ Some variables) (slot : ℕ) (name : Name) (ty : Ty) (there : slice_get variables slot ≡ Some (name, ty)) where
  pub named_variable : slice_get (numbered_names setting fun) slot ≡ Some name
  named_variable =
      ap (λ (o : Option Variables). slice_get (texts_of (unwrap_or o [])) slot) are ∙ slice_get-map (λ variable. variable.0) variables slot ∙ ap (option_map (λ variable. variable.0)) there

  pub typed_variable : AreDifferent (numbered_names setting fun) → type_at setting fun name ≡ Some ty
  typed_variable different =
      ap (option_and_then (λ (v : Variables). variable_type v name)) are
      ∙ looked variables slot (subst AreDifferent (ap (λ (o : Option Variables). texts_of (unwrap_or o [])) are) different) there
    where
      looked : (variables : Variables) (slot : ℕ) → AreDifferent (texts_of variables) → slice_get variables slot ≡ Some (name, ty) → variable_type variables name ≡ Some ty
      looked [] slot different there = absurd (none-some (name, ty) there)
      looked (first ∷ variables) zero different there =
          let same = some_value there in
          ap (λ k. if k then Some first.1 else variable_type variables name) (ap (λ (v : Name × Ty). bytes_eq name v.0) same ∙ name_test name) ∙ ap (λ (v : Name × Ty). Some v.1) same
      looked (first ∷ variables) (suc slot) different there =
          let at = slice_get-map (λ variable. variable.0) variables slot ∙ ap (option_map (λ variable. variable.0)) there in
          let other = bytes_eq-sym name first.0 ∙ each_at (λ n. bytes_eq first.0 n ≡ false) (texts_of variables) slot name different.0 at in
          ap (λ k. if k then Some first.1 else variable_type variables name) other ∙ looked variables slot different.1 there

-- the padding of the variable of a number by its name
pub pads_slot : (act : Activation) (variables : Variables) → variables_at (setting_of act) act.fun ≡ Some variables → (slot : ℕ) (name : Name) (ty : Ty) → slice_get variables slot ≡ Some (name, ty)
    → (at : Pos) (is_live : Bool) (old new : State) (r : Result (Unit {0}) RunFault) (live : Bool) → is_live ≡ live → PadsName (Some ty) at name live old new r
    → PadsSlot (type_at (setting_of act) act.fun) at (slice_get (names_of act) slot) is_live old new r
pads_slot act variables are slot name ty there at is_live old new r live same pads =
    let setting = setting_of act in
    subst (λ (o : Option Name). PadsSlot (type_at setting act.fun) at o is_live old new r) (sym (named_variable setting act.fun variables are slot name ty there))
    (subst (λ (t : Option Ty). PadsName t at name is_live old new r) (sym (typed_variable setting act.fun variables are slot name ty there (names_different act)))
    (subst (λ (k : Bool). PadsName (Some ty) at name k old new r) (sym same) pads))
