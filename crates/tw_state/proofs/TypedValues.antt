-- Values of typed paths and expressions have their types.
use Rattle.std.proofs.Common.{◌≡◌, ◌∙◌, ◌<◌, ◌^◌, ◌%◌, ◌+◌, ◌-◌, ◌*◌, refl, sym, ap, ap₂, subst, subst₂, is_some, true≢false, ℕ, zero, suc, Bool, true, false, not, ◌&&◌, ◌||◌, List, [], ◌∷◌, Option, Some, None, option_map, option_and_then, bytes_eq}
use Rattle.std.specs.List.{AllByRecursion}
use Rattle.std.proofs.lemmas.Option.{none-some}
use Rattle.std.proofs.lemmas.Nat.{pow_pos}
use Rattle.std.proofs.Math.Nat.{mod-lt}
use Rattle.tw_syntax.specs.declared.term.OpKind.{OpKind}
use Rattle.tw_syntax.specs.declared.term.OpKind.TheVariants as op
use Rattle.tw_syntax.specs.Names.{NameTree, PathTree}
use Rattle.tw_syntax.specs.Terms.{AtomTree, PlaceAtom, NumberAtom, TrueAtom, FalseAtom, UnitAtom, NullAtom, ZeroAtom, ExprTree, OneExpr, TwoExpr, NotExpr, OpExpr}
use Rattle.tw_bits.specs.Operators.{sum_mod, difference_mod, product_mod, is_less}
use Rattle.tw_types.specs.Types.{Widths, Ty, UnitTy, Word, Boolean, Pointer, PairTy}
use Rattle.tw_types.specs.Values.{Value, UnitValue, Number, Truth, Address, PairValue, HasType, zero_value}
use Rattle.tw_types.proofs.Zeros.{zero_value-typed}
use Rattle.tw_resolve.proofs.Each.{each_first, each_rest}
use Rattle.tw_resolve.specs.Expressions.{Types, part, type_at_path}
use Rattle.tw_resolve.specs.Setting.{Setting}
use Rattle.tw_check.specs.Liveness.{atom_names, expr_names}
use Rattle.tw_state.specs.States.{Name, Store}
use Rattle.tw_state.specs.Parts.{part_of, with_part, value_at, with_value_at}
use Rattle.tw_state.specs.Evaluation.{same_value, atom_value, negation, op_value, both, expr_value}
use Rattle.tw_state.specs.Results.{Fits}
use Rattle.tw_state.proofs.Basics.{some_value, same_some, by_option, by_test, same_name}
use Rattle.tw_state.proofs.Parts.{with_value_at-other, with_value_at-root}
use Rattle.tw_state.proofs.TypedTrees.{AtomFits, OpFits, ExprFits}

mod_below : (width n : ℕ) → n % 2 ^ width < 2 ^ width
mod_below width n = mod-lt n (pow_pos width)

-- a function of two values has a value only if both are there
both_values : {P : Type 0} (o q : Option Value) (f : Value → Value → Option Value) (value : Value) → both f o q ≡ Some value
    → ((v w : Value) → o ≡ Some v → q ≡ Some w → f v w ≡ Some value → P) → P
both_values (Some v) (Some w) f value is go = go v w refl refl is
both_values None (Some w) f value is go = absurd (none-some value is)
both_values None None f value is go = absurd (none-some value is)
both_values (Some v) None f value is go = absurd (none-some value is)

pub part-none : {P : Type 0} {ty : Ty} (steps : List ℕ) → part steps None ≡ Some ty → P
part-none {P} {ty} [] is = absurd (none-some ty is)
part-none (step ∷ steps) is = part-none steps is

-- a part of a typed value is there, and has its type
pub record TypedPart (widths : Widths) (steps : List ℕ) (value : Value) (ty : Ty) : Type 0 where
  pub part : Value
  pub is : part_of steps value ≡ Some part
  pub typed : HasType widths part ty

module _ (widths : Widths) where
  pub part_typed : (steps : List ℕ) (value : Value) (ty goal : Ty) → HasType widths value ty → part steps (Some ty) ≡ Some goal → TypedPart widths steps value goal
  part_typed [] value ty goal typed is = record { part = value; is = refl; typed = subst (HasType widths value) (some_value is) typed }
  part_typed (suc zero ∷ steps) (PairValue x y) (PairTy first second) goal typed is =
      let p = part_typed steps x first goal typed.0 is in record { part = p.part; is = p.is; typed = p.typed }
  part_typed (suc (suc zero) ∷ steps) (PairValue x y) (PairTy first second) goal typed is =
      let p = part_typed steps y second goal typed.1 is in record { part = p.part; is = p.is; typed = p.typed }
  part_typed (zero ∷ steps) value ty goal typed is = part-none steps is
  part_typed (suc (suc (suc n)) ∷ steps) value ty goal typed is = part-none steps is
  part_typed (suc zero ∷ steps) value UnitTy goal typed is = part-none steps is
  part_typed (suc zero ∷ steps) value Word goal typed is = part-none steps is
  part_typed (suc zero ∷ steps) value Boolean goal typed is = part-none steps is
  part_typed (suc zero ∷ steps) value (Pointer target) goal typed is = part-none steps is
  part_typed (suc zero ∷ steps) value (PairTy first second) goal typed is = absurd typed
  part_typed (suc (suc zero) ∷ steps) value UnitTy goal typed is = part-none steps is
  part_typed (suc (suc zero) ∷ steps) value Word goal typed is = part-none steps is
  part_typed (suc (suc zero) ∷ steps) value Boolean goal typed is = part-none steps is
  part_typed (suc (suc zero) ∷ steps) value (Pointer target) goal typed is = part-none steps is
  part_typed (suc (suc zero) ∷ steps) value (PairTy first second) goal typed is = absurd typed

  -- a typed value with another part of the same type
  pub with_part_typed : (steps : List ℕ) (value : Value) (ty goal : Ty) (new : Value) → HasType widths value ty → part steps (Some ty) ≡ Some goal → HasType widths new goal → HasType widths (with_part steps value new) ty
  with_part_typed [] value ty goal new typed is fits = subst (HasType widths new) (sym (some_value is)) fits
  with_part_typed (suc zero ∷ steps) (PairValue x y) (PairTy first second) goal new typed is fits = (with_part_typed steps x first goal new typed.0 is fits, typed.1)
  with_part_typed (suc (suc zero) ∷ steps) (PairValue x y) (PairTy first second) goal new typed is fits = (typed.0, with_part_typed steps y second goal new typed.1 is fits)
  with_part_typed (zero ∷ steps) value ty goal new typed is fits = part-none steps is
  with_part_typed (suc (suc (suc n)) ∷ steps) value ty goal new typed is fits = part-none steps is
  with_part_typed (suc zero ∷ steps) value UnitTy goal new typed is fits = part-none steps is
  with_part_typed (suc zero ∷ steps) value Word goal new typed is fits = part-none steps is
  with_part_typed (suc zero ∷ steps) value Boolean goal new typed is fits = part-none steps is
  with_part_typed (suc zero ∷ steps) value (Pointer target) goal new typed is fits = part-none steps is
  with_part_typed (suc zero ∷ steps) value (PairTy first second) goal new typed is fits = absurd typed
  with_part_typed (suc (suc zero) ∷ steps) value UnitTy goal new typed is fits = part-none steps is
  with_part_typed (suc (suc zero) ∷ steps) value Word goal new typed is fits = part-none steps is
  with_part_typed (suc (suc zero) ∷ steps) value Boolean goal new typed is fits = part-none steps is
  with_part_typed (suc (suc zero) ∷ steps) value (Pointer target) goal new typed is fits = part-none steps is
  with_part_typed (suc (suc zero) ∷ steps) value (PairTy first second) goal new typed is fits = absurd typed

  -- a value that fits the type of its name
  pub fits_typed : (ty : Option Ty) (o : Option Value) (value : Value) → o ≡ Some value → Fits widths ty o → (t : Ty) × (ty ≡ Some t) × HasType widths value t
  fits_typed (Some t) (Some v) value is fits = (t, refl, subst (λ x. HasType widths x t) (some_value is) fits)
  fits_typed None (Some v) value is fits = absurd fits
  fits_typed ty None value is fits = absurd (none-some value is)

  pub typed_fits : (ty : Option Ty) (o : Option Value) (t : Ty) (value : Value) → ty ≡ Some t → o ≡ Some value → HasType widths value t → Fits widths ty o
  typed_fits ty o t value is has typed = subst₂ (λ (a : Option Ty) (b : Option Value). Fits widths a b) (sym is) (sym has) typed

  -- the names of a store have values of their types
  abbrev pub StoreFits : Types → Store → Type 0
  StoreFits types store = (name : Name) → Fits widths (types name) (store name)

  module _ (types : Types) (store : Store) (fits : StoreFits types store) where
    -- the value at a typed path
    pub path_typed : (path : PathTree) (ty : Ty) (whole : Value) → store path.root.text ≡ Some whole → type_at_path types path ≡ Some ty → TypedPart widths path.steps whole ty
    path_typed path ty whole is typed =
        let root = fits_typed (types path.root.text) (store path.root.text) whole is (fits path.root.text) in
        part_typed path.steps whole root.0 ty root.2 (ap (part path.steps) (sym root.1) ∙ typed)

    -- a value at a typed path has its type
    pub value_at_typed : (path : PathTree) (ty : Ty) (value : Value) → type_at_path types path ≡ Some ty → value_at store path ≡ Some value → HasType widths value ty
    value_at_typed path ty value typed found = by_option (store path.root.text) absent present
      where
        absent : store path.root.text ≡ None → HasType widths value ty
        absent none = absurd (none-some value (ap (option_and_then (part_of path.steps)) (sym none) ∙ found))

        present : (whole : Value) → store path.root.text ≡ Some whole → HasType widths value ty
        present whole is =
            let p = path_typed path ty whole is typed in
            subst (λ v. HasType widths v ty) (same_some p.is (ap (option_and_then (part_of path.steps)) (sym is) ∙ found)) p.typed

    -- the store with another value of the path's type
    pub with_value_at_typed : (path : PathTree) (ty : Ty) (old new : Value) → type_at_path types path ≡ Some ty → value_at store path ≡ Some old → HasType widths new ty → StoreFits types (with_value_at store path new)
    with_value_at_typed path ty old new typed found fresh name = by_test (bytes_eq path.root.text name) same other
      where
        other : bytes_eq path.root.text name ≡ false → Fits widths (types name) (with_value_at store path new name)
        other differ = subst (Fits widths (types name)) (sym (with_value_at-other store path new name differ)) (fits name)

        root : Fits widths (types path.root.text) (with_value_at store path new path.root.text)
        root =
            by_option (store path.root.text)
            (λ none. absurd (none-some old (ap (option_and_then (part_of path.steps)) (sym none) ∙ found)))
            (λ whole is.
            let r = fits_typed (types path.root.text) (store path.root.text) whole is (fits path.root.text) in
            typed_fits (types path.root.text) (with_value_at store path new path.root.text) r.0 (with_part path.steps whole new) r.1
            (with_value_at-root store path new whole is)
            (with_part_typed path.steps whole r.0 ty new r.2 (ap (part path.steps) (sym r.1) ∙ typed) fresh))

        same : bytes_eq path.root.text name ≡ true → Fits widths (types name) (with_value_at store path new name)
        same is = subst (λ n. Fits widths (types n) (with_value_at store path new n)) (same_name path.root.text name is) root

-- an expression has a value, which has its type
pub record Evaluates (widths : Widths) (o : Option Value) (ty : Ty) : Type 0 where
  pub value : Value
  pub is : o ≡ Some value
  pub typed : HasType widths value ty

module _ (widths : Widths) where
  evaluates : {o : Option Value} {ty goal : Ty} (value : Value) → o ≡ Some value → goal ≡ ty → HasType widths value ty → Evaluates widths o goal
  evaluates {o} {ty} {goal} value is same typed = record { value = value; is = is; typed = subst (HasType widths value) (sym same) typed }

  arithmetic : (operator : OpKind) (f : ℕ → ℕ → ℕ) → ((m n : ℕ) → op_value widths operator (Number m) (Number n) ≡ Some (Number (f m n))) → ((m n : ℕ) → f m n < 2 ^ widths.word)
      → (x y : Value) (ty : Ty) → HasType widths x Word → HasType widths y Word → ty ≡ Word → Evaluates widths (op_value widths operator x y) ty
  arithmetic operator f is below (Number m) (Number n) ty p q same = evaluates (Number (f m n)) (is m n) same (below m n)
  arithmetic operator f is below (Number m) UnitValue ty p q same = absurd q
  arithmetic operator f is below (Number m) (Truth k) ty p q same = absurd q
  arithmetic operator f is below (Number m) (Address k) ty p q same = absurd q
  arithmetic operator f is below (Number m) (PairValue k l) ty p q same = absurd q
  arithmetic operator f is below UnitValue y ty p q same = absurd p
  arithmetic operator f is below (Truth k) y ty p q same = absurd p
  arithmetic operator f is below (Address k) y ty p q same = absurd p
  arithmetic operator f is below (PairValue k l) y ty p q same = absurd p

  compared : (x y : Value) (ty : Ty) → HasType widths x Word → HasType widths y Word → ty ≡ Boolean → Evaluates widths (op_value widths op.Lt x y) ty
  compared (Number m) (Number n) ty p q same = evaluates (Truth (is_less m n)) refl same tt
  compared (Number m) UnitValue ty p q same = absurd q
  compared (Number m) (Truth k) ty p q same = absurd q
  compared (Number m) (Address k) ty p q same = absurd q
  compared (Number m) (PairValue k l) ty p q same = absurd q
  compared UnitValue y ty p q same = absurd p
  compared (Truth k) y ty p q same = absurd p
  compared (Address k) y ty p q same = absurd p
  compared (PairValue k l) y ty p q same = absurd p

  logical : (operator : OpKind) (f : Bool → Bool → Bool) → ((m n : Bool) → op_value widths operator (Truth m) (Truth n) ≡ Some (Truth (f m n)))
      → (x y : Value) (ty : Ty) → HasType widths x Boolean → HasType widths y Boolean → ty ≡ Boolean → Evaluates widths (op_value widths operator x y) ty
  logical operator f is (Truth m) (Truth n) ty p q same = evaluates (Truth (f m n)) (is m n) same tt
  logical operator f is (Truth m) UnitValue ty p q same = absurd q
  logical operator f is (Truth m) (Number k) ty p q same = absurd q
  logical operator f is (Truth m) (Address k) ty p q same = absurd q
  logical operator f is (Truth m) (PairValue k l) ty p q same = absurd q
  logical operator f is UnitValue y ty p q same = absurd p
  logical operator f is (Number k) y ty p q same = absurd p
  logical operator f is (Address k) y ty p q same = absurd p
  logical operator f is (PairValue k l) y ty p q same = absurd p

  typed_as : (value : Value) {ty goal : Ty} → HasType widths value ty → ty ≡ goal → HasType widths value goal
  typed_as value {ty} {goal} typed same = subst (HasType widths value) same typed

  -- an operator on two values of its types
  pub op_evaluates : (setting : Setting) (operator : OpKind) (x y : Value) (left right ty : Ty) → OpFits setting operator left right ty → HasType widths x left → HasType widths y right
      → Evaluates widths (op_value widths operator x y) ty
  op_evaluates setting op.Add x y left right ty fits p q =
      arithmetic op.Add (sum_mod widths.word) (λ m n. refl) (λ m n. mod_below widths.word (m + n)) x y ty (typed_as x p fits.0) (typed_as y q fits.1) fits.2
  op_evaluates setting op.Sub x y left right ty fits p q =
      arithmetic op.Sub (difference_mod widths.word) (λ m n. refl) (λ m n. mod_below widths.word (2 ^ widths.word + m - n)) x y ty (typed_as x p fits.0) (typed_as y q fits.1) fits.2
  op_evaluates setting op.Mul x y left right ty fits p q =
      arithmetic op.Mul (product_mod widths.word) (λ m n. refl) (λ m n. mod_below widths.word (m * n)) x y ty (typed_as x p fits.0) (typed_as y q fits.1) fits.2
  op_evaluates setting op.Lt x y left right ty fits p q = compared x y ty (typed_as x p fits.0) (typed_as y q fits.1) fits.2
  op_evaluates setting op.Eq x y left right ty fits p q = evaluates (Truth (same_value x y)) refl fits.1 tt
  op_evaluates setting op.Ne x y left right ty fits p q = evaluates (Truth (not (same_value x y))) refl fits.1 tt
  op_evaluates setting op.And x y left right ty fits p q = logical op.And (λ m n. m && n) (λ m n. refl) x y ty (typed_as x p fits.0) (typed_as y q fits.1) fits.2
  op_evaluates setting op.Or x y left right ty fits p q = logical op.Or (λ m n. m || n) (λ m n. refl) x y ty (typed_as x p fits.0) (typed_as y q fits.1) fits.2

  negation_evaluates : (x : Value) (ty : Ty) → HasType widths x Boolean → ty ≡ Boolean → Evaluates widths (negation x) ty
  negation_evaluates (Truth k) ty p same = evaluates (Truth (not k)) refl same tt
  negation_evaluates UnitValue ty p same = absurd p
  negation_evaluates (Number k) ty p same = absurd p
  negation_evaluates (Address k) ty p same = absurd p
  negation_evaluates (PairValue k l) ty p same = absurd p

module _ (setting : Setting) (types : Types) (store : Store) (fits : StoreFits setting.widths types store) where
  -- a value of a typed atom has its type
  pub atom_typed : (atom : AtomTree) (ty : Ty) (value : Value) → AtomFits setting types atom ty → atom_value setting store atom ≡ Some value → HasType setting.widths value ty
  atom_typed (PlaceAtom at path) ty value typed is = value_at_typed setting.widths types store fits path ty value typed is
  atom_typed (NumberAtom at number) ty value typed is = subst₂ (HasType setting.widths) (some_value is) (sym typed.1) typed.0
  atom_typed (TrueAtom at) ty value typed is = subst₂ (HasType setting.widths) {x = Truth true} (some_value is) (sym typed) tt
  atom_typed (FalseAtom at) ty value typed is = subst₂ (HasType setting.widths) {x = Truth false} (some_value is) (sym typed) tt
  atom_typed (UnitAtom at) ty value typed is = subst₂ (HasType setting.widths) {x = UnitValue} (some_value is) (sym typed) tt
  atom_typed (NullAtom at to) ty value typed is = subst₂ (HasType setting.widths) (some_value is) (sym typed.1) null_typed
    where
      null_typed : HasType setting.widths (Address 0) (Pointer typed.0)
      null_typed = zero_value-typed setting.widths (Pointer typed.0)
  atom_typed (ZeroAtom at written) ty value typed is =
      subst (λ v. HasType setting.widths v ty) (some_value (sym (ap (option_map zero_value) typed) ∙ is)) (zero_value-typed setting.widths ty)

  -- each of these names has a value
  abbrev pub AllLive : List NameTree → Type 0
  AllLive names = AllByRecursion (λ name. is_some (store name.text) ≡ true) names

  -- a typed atom whose name has a value has a value
  pub atom_evaluates : (atom : AtomTree) (ty : Ty) → AtomFits setting types atom ty → AllLive (atom_names atom) → Evaluates setting.widths (atom_value setting store atom) ty
  atom_evaluates (PlaceAtom at path) ty typed live =
      by_option (store path.root.text) (λ none. absurd (true≢false (sym live.0 ∙ ap is_some none)))
      (λ whole is.
      let p = path_typed setting.widths types store fits path ty whole is typed in
      record { value = p.part; is = ap (option_and_then (part_of path.steps)) is ∙ p.is; typed = p.typed })
  atom_evaluates (NumberAtom at number) ty typed live = evaluates setting.widths (Number number) refl typed.1 typed.0
  atom_evaluates (TrueAtom at) ty typed live = evaluates setting.widths (Truth true) refl typed tt
  atom_evaluates (FalseAtom at) ty typed live = evaluates setting.widths (Truth false) refl typed tt
  atom_evaluates (UnitAtom at) ty typed live = evaluates setting.widths UnitValue refl typed tt
  atom_evaluates (NullAtom at to) ty typed live = evaluates setting.widths (Address 0) refl typed.1 (zero_value-typed setting.widths (Pointer typed.0))
  atom_evaluates (ZeroAtom at written) ty typed live = record { value = zero_value ty; is = ap (option_map zero_value) typed; typed = zero_value-typed setting.widths ty }

  -- a typed expression whose names have values has a value
  pub expr_evaluates : (expr : ExprTree) (ty : Ty) → ExprFits setting types expr ty → AllLive (expr_names expr) → Evaluates setting.widths (expr_value setting store expr) ty
  expr_evaluates (OneExpr at x) ty typed live = atom_evaluates x ty typed live
  expr_evaluates (TwoExpr at x y) ty typed live =
      let p = atom_evaluates x typed.0 typed.2 (each_first (λ name. is_some (store name.text) ≡ true) (atom_names x) (atom_names y) live) in
      let q = atom_evaluates y typed.1 typed.3 (each_rest (λ name. is_some (store name.text) ≡ true) (atom_names x) (atom_names y) live) in
      record {
        value = PairValue p.value q.value;
        is = ap₂ (both (λ first second. Some (PairValue first second))) p.is q.is;
        typed = subst (HasType setting.widths (PairValue p.value q.value)) (sym typed.4) (p.typed, q.typed);
      }
  expr_evaluates (NotExpr at x) ty typed live =
      let p = atom_evaluates x Boolean typed.0 live in
      let q = negation_evaluates setting.widths p.value ty p.typed typed.1 in
      record { value = q.value; is = ap (option_and_then negation) p.is ∙ q.is; typed = q.typed }
  expr_evaluates (OpExpr at operator x y) ty typed live =
      let p = atom_evaluates x typed.0 typed.2 (each_first (λ name. is_some (store name.text) ≡ true) (atom_names x) (atom_names y) live) in
      let q = atom_evaluates y typed.1 typed.3 (each_rest (λ name. is_some (store name.text) ≡ true) (atom_names x) (atom_names y) live) in
      let r = op_evaluates setting.widths setting operator p.value q.value typed.0 typed.1 ty typed.4 p.typed q.typed in
      record { value = r.value; is = ap₂ (both (op_value setting.widths operator)) p.is q.is ∙ r.is; typed = r.typed }

  -- a value of a typed expression has its type
  pub expr_typed : (expr : ExprTree) (ty : Ty) (value : Value) → ExprFits setting types expr ty → expr_value setting store expr ≡ Some value → HasType setting.widths value ty
  expr_typed (OneExpr at x) ty value typed is = atom_typed x ty value typed is
  expr_typed (TwoExpr at x y) ty value typed is =
      both_values (atom_value setting store x) (atom_value setting store y) (λ first second. Some (PairValue first second)) value is
      (λ v w p q r. subst₂ (HasType setting.widths) (some_value r) (sym typed.4) (atom_typed x typed.0 v typed.2 p, atom_typed y typed.1 w typed.3 q))
  expr_typed (NotExpr at x) ty value typed is =
      by_option (atom_value setting store x) (λ none. absurd (none-some value (ap (option_and_then negation) (sym none) ∙ is)))
      (λ v p.
      let q = negation_evaluates setting.widths v ty (atom_typed x Boolean v typed.0 p) typed.1 in
      subst (λ w. HasType setting.widths w ty) (same_some q.is (ap (option_and_then negation) (sym p) ∙ is)) q.typed)
  expr_typed (OpExpr at operator x y) ty value typed is =
      both_values (atom_value setting store x) (atom_value setting store y) (op_value setting.widths operator) value is
      (λ v w p q r.
      let e = op_evaluates setting.widths setting operator v w typed.0 typed.1 ty typed.4 (atom_typed x typed.0 v typed.2 p) (atom_typed y typed.1 w typed.3 q) in
      subst (λ u. HasType setting.widths u ty) (same_some e.is r) e.typed)
