-- What decides whether a statement has a result: equal values, padding, and the caller's state after a call.
use Rattle.std.proofs.Common.{◌≡◌, ◌≢◌, ◌∙◌, ◌==◌, refl, sym, ap, ap₂, subst, ℕ, Bool, true, false, ◌||◌, if◌then◌else◌, List, [], ◌∷◌, Option, Some, None, is_some, bytes_eq, Decides}
use Rattle.std.proofs.Math.Path.{fun_ext}
use Rattle.std.proofs.Math.Bool.{beq}
use Rattle.std.specs.List.{AllByRecursion}
use Rattle.std.proofs.lemmas.Option.{none-some}
use Rattle.std.proofs.lemmas.Bool.{or_parts}
use Rattle.std.proofs.lemmas.Bool.Decides.{Decides-eqb, Decides-and}
use Rattle.tw_syntax.specs.Statements.{StmtTree, Nothing, Then, Else, LetStmt, SwapStmt, MemSwapStmt, IfStmt, WithStmt, BlockStmt, SkipStmt}
use Rattle.tw_types.specs.Types.{Ty}
use Rattle.tw_types.specs.Values.{Value, UnitValue, Number, Truth, Address, PairValue, zero_value}
use Rattle.tw_resolve.specs.Declarations.{is_one_of}
use Rattle.tw_resolve.specs.Expressions.{Types}
use Rattle.tw_resolve.specs.Setting.{Setting}
use Rattle.tw_resolve.proofs.Texts.{bytes_eq-sym}
use Rattle.tw_check.specs.Names.{Names}
use Rattle.tw_check.specs.Liveness.{live_after, names_of}
use Rattle.tw_check.proofs.NameSets.{on_or_off, names_differ}
use Rattle.tw_check.proofs.Mentions.{others_stay}
use Rattle.tw_state.specs.States.{Name, Store, State, with_value, without}
use Rattle.tw_state.specs.Evaluation.{same_value}
use Rattle.tw_state.specs.Steps.{live_names, Adds, IsPadded, Pads, seen, seen_by, KeepsOthers, put_back}
use Rattle.tw_state.specs.Stuck.{LacksPad}
use Rattle.tw_state.specs.Results.{Fits}
use Rattle.tw_state.proofs.Basics.{some_value, by_test, by_option, same_name, name_test, contradiction, not_both}
use Rattle.tw_state.proofs.Calls.{AreDifferent, inner, outer, unseen}
use Rattle.tw_state.proofs.TypedTrees.{StmtFits}
use Rattle.tw_state.proofs.TypedValues.{StoreFits}

-- the test of two values decides whether they are equal
beq-Decides : (p q : Bool) → Decides (beq p q) (p ≡ q)
beq-Decides true true = (λ e. refl, λ e. refl)
beq-Decides true false = (λ e. sym e, λ e. sym e)
beq-Decides false true = (λ e. e, λ e. e)
beq-Decides false false = (λ e. refl, λ e. refl)

-- the kind of a value, by number, and its parts
abbrev kind : Value → ℕ
kind UnitValue = 0
kind (Number n) = 1
kind (Truth is) = 2
kind (Address block) = 3
kind (PairValue x y) = 4

abbrev number_in : Value → ℕ
number_in (Number n) = n
number_in (Address n) = n
number_in other = 0

abbrev truth_in : Value → Bool
truth_in (Truth is) = is
truth_in other = false

abbrev first_in : Value → Value
first_in (PairValue x y) = x
first_in other = other

abbrev second_in : Value → Value
second_in (PairValue x y) = y
second_in other = other

-- a test that fails for values of different kinds
apart : (x y : Value) → (kind x == kind y) ≡ false → Decides false (x ≡ y)
apart x y differ = (λ test. contradiction {test = true} refl (sym test), λ same. contradiction ((Decides-eqb (kind x) (kind y)).1 (ap kind same)) differ)

pub same_value-Decides : (x y : Value) → Decides (same_value x y) (x ≡ y)
same_value-Decides UnitValue UnitValue = (λ e. refl, λ e. refl)
same_value-Decides UnitValue (Number n) = apart UnitValue (Number n) refl
same_value-Decides UnitValue (Truth q) = apart UnitValue (Truth q) refl
same_value-Decides UnitValue (Address n) = apart UnitValue (Address n) refl
same_value-Decides UnitValue (PairValue c d) = apart UnitValue (PairValue c d) refl
same_value-Decides (Number m) UnitValue = apart (Number m) UnitValue refl
same_value-Decides (Number m) (Number n) = (λ e. ap Number ((Decides-eqb m n).0 e), λ e. (Decides-eqb m n).1 (ap number_in e))
same_value-Decides (Number m) (Truth q) = apart (Number m) (Truth q) refl
same_value-Decides (Number m) (Address n) = apart (Number m) (Address n) refl
same_value-Decides (Number m) (PairValue c d) = apart (Number m) (PairValue c d) refl
same_value-Decides (Truth p) UnitValue = apart (Truth p) UnitValue refl
same_value-Decides (Truth p) (Number n) = apart (Truth p) (Number n) refl
same_value-Decides (Truth p) (Truth q) = (λ e. ap Truth ((beq-Decides p q).0 e), λ e. (beq-Decides p q).1 (ap truth_in e))
same_value-Decides (Truth p) (Address n) = apart (Truth p) (Address n) refl
same_value-Decides (Truth p) (PairValue c d) = apart (Truth p) (PairValue c d) refl
same_value-Decides (Address m) UnitValue = apart (Address m) UnitValue refl
same_value-Decides (Address m) (Number n) = apart (Address m) (Number n) refl
same_value-Decides (Address m) (Truth q) = apart (Address m) (Truth q) refl
same_value-Decides (Address m) (Address n) = (λ e. ap Address ((Decides-eqb m n).0 e), λ e. (Decides-eqb m n).1 (ap number_in e))
same_value-Decides (Address m) (PairValue c d) = apart (Address m) (PairValue c d) refl
same_value-Decides (PairValue a b) UnitValue = apart (PairValue a b) UnitValue refl
same_value-Decides (PairValue a b) (Number n) = apart (PairValue a b) (Number n) refl
same_value-Decides (PairValue a b) (Truth q) = apart (PairValue a b) (Truth q) refl
same_value-Decides (PairValue a b) (Address n) = apart (PairValue a b) (Address n) refl
same_value-Decides (PairValue a b) (PairValue c d) =
    let parts = Decides-and (same_value a c) (same_value b d) (same_value-Decides a c) (same_value-Decides b d) in
    ((λ e. let p = parts.0 e in ap₂ PairValue p.0 p.1), (λ e. parts.1 (ap first_in e, ap second_in e)))

-- cases: two values are equal, or not
pub by_value : {P : Type 0} (x y : Value) → (x ≡ y → P) → (x ≢ y → P) → P
by_value x y same differ =
    by_test (same_value x y) (λ test. same ((same_value-Decides x y).0 test))
    (λ test. differ (λ is. contradiction ((same_value-Decides x y).1 is) test))

pub adds_without : (state : State) (name : Name) (value : Value) → state.store name ≡ Some value → Adds name value (record state { store = without state.store name }) state
adds_without state name value is = record { unused = rw (name_test name) refl; after = ap (λ (s : Store). record state { store = s }) (fun_ext each) }
  where
    by : (n : Name) (k : Bool) → bytes_eq name n ≡ k → state.store n ≡ (if k then Some value else if k then None else state.store n)
    by n true same = ap state.store (sym (same_name name n same)) ∙ is
    by n false other = refl

    each : (n : Name) → state.store n ≡ with_value (without state.store name) name value n
    each n = by n (bytes_eq name n) refl

-- a variable that a typed statement makes live has a type
pub becomes_typed : (setting : Setting) (types : Types) (forward : Bool) (s : StmtTree) → StmtFits setting types s → (live : Names) (name : Name) → live name ≡ false → live_after forward s live name ≡ true → (ty : Ty) × (types name ≡ Some ty)
becomes_typed setting types forward Nothing fits live name dead is = contradiction is dead
becomes_typed setting types true (Then first rest) fits live name dead is =
    by_test (live_after true first live name) (becomes_typed setting types true first fits.0 live name dead)
    (λ none. becomes_typed setting types true rest fits.1 (live_after true first live) name none is)
becomes_typed setting types false (Then first rest) fits live name dead is =
    by_test (live_after false rest live name) (becomes_typed setting types false rest fits.1 live name dead)
    (λ none. becomes_typed setting types false first fits.0 (live_after false rest live) name none is)
becomes_typed setting types forward (Else at stmts) fits live name dead is = becomes_typed setting types forward stmts fits live name dead is
becomes_typed setting types forward (LetStmt at assigns target rhs) fits live name dead is =
    by_test (bytes_eq target.text name) (λ same. (fits.0, ap types (sym (same_name target.text name same)) ∙ fits.1))
    (λ other. contradiction (sym (ap (λ k. if k then beq forward assigns else live name) other) ∙ is) dead)
becomes_typed setting types forward (SwapStmt at left right) fits live name dead is = contradiction is dead
becomes_typed setting types forward (MemSwapStmt at pointer value) fits live name dead is = contradiction is dead
becomes_typed setting types forward (IfStmt at cond first other) fits live name dead is = becomes_typed setting types forward first fits.1 live name dead is
becomes_typed setting types forward (WithStmt at setup work) fits live name dead is =
    let ready = live_after true setup live in
    let done = live_after forward work ready in
    by_test (ready name) (becomes_typed setting types true setup fits.0 live name dead)
    (λ none.
    by_test (done name) (becomes_typed setting types forward work fits.1 ready name none)
    (λ still. becomes_typed setting types false setup fits.0 done name still is))
becomes_typed setting types forward (BlockStmt at body) fits live name dead is = becomes_typed setting types forward body fits live name dead is
becomes_typed setting types forward (SkipStmt at) fits live name dead is = contradiction is dead

-- a name with a value, or the zero of its type
abbrev filled : Option Ty → Option Value → Option Value
filled ty (Some value) = Some value
filled (Some ty) None = Some (zero_value ty)
filled None None = None

-- the store after padding, with these live names
abbrev padded_store : Types → Store → Names → Store
padded_store types store live name = if live name then filled (types name) (store name) else None

-- a name that is removed is zero
abbrev IsPaddable : Types → Store → Names → Name → Type 0
IsPaddable types store live name = live name ≡ false → (value : Value) → store name ≡ Some value → (ty : Ty) → types name ≡ Some ty → value ≡ zero_value ty

-- all names that statements remove are zero, or one is not
pub data Padding (setting : Setting) (types : Types) (stmts : StmtTree) (old : State) : Type 0 where
  CanPad : (new : State) → Pads types stmts old new → ((name : Name) → live_after true stmts (live_names old.store) name ≡ true → is_some (old.store name) ≡ true → new.store name ≡ old.store name) → Padding setting types stmts old
  CannotPad : LacksPad types stmts old → Padding setting types stmts old

module _ (setting : Setting) (types : Types) (stmts : StmtTree) (old : State) (fits : StmtFits setting types stmts) (typed : StoreFits setting.widths types old.store) where
  abbrev pub after_stmts : Names
  after_stmts = live_after true stmts (live_names old.store)

  check_name : {P : Type 0} (name : Name) → (IsPaddable types old.store after_stmts name → P) → (LacksPad types stmts old → P) → P
  check_name name ok lacks =
      by_test (after_stmts name) (λ is. ok (λ dead. contradiction is dead))
      (λ dead.
      by_option (old.store name) (λ none. ok (λ d value is. not_both none is))
      (λ value is.
      by_option (types name) (λ none. ok (λ d v h ty has. not_both none has))
      (λ ty has.
      by_value value (zero_value ty)
      (λ zero. ok (λ d v h t g. some_value (sym h ∙ is) ∙ zero ∙ ap zero_value (some_value (sym has ∙ g))))
      (λ not_zero. lacks (record { name = name; value = value; ty = ty; is = is; removed = dead; typed = has; not_zero = not_zero })))))

  check_names : {P : Type 0} (names : List Name) → (AllByRecursion (IsPaddable types old.store after_stmts) names → P) → (LacksPad types stmts old → P) → P
  check_names [] ok lacks = ok tt
  check_names (name ∷ names) ok lacks = check_name name (λ first. check_names names (λ rest. ok (first, rest)) lacks) lacks

  on_list : (names : List Name) (name : Name) → is_one_of name names ≡ true → AllByRecursion (IsPaddable types old.store after_stmts) names → IsPaddable types old.store after_stmts name
  on_list [] name one all = contradiction one refl
  on_list (first ∷ rest) name one all =
      by_test (bytes_eq name first) (λ is. subst (IsPaddable types old.store after_stmts) (sym (same_name name first is)) all.0)
      (λ other. on_list rest name (subst (λ k. (k || is_one_of name rest) ≡ true) other one) all.1)

  each_paddable : AllByRecursion (IsPaddable types old.store after_stmts) (names_of stmts) → (name : Name) → IsPaddable types old.store after_stmts name
  each_paddable all name =
      on_or_off (names_of stmts) name (λ one. on_list (names_of stmts) name one all)
      (λ off dead value is ty has. contradiction (ap is_some is) (sym (others_stay true stmts (live_names old.store) name off) ∙ dead))

  padded_at : (ty : Option Ty) (o : Option Value) (k : Bool) → Fits setting.widths ty o → (k ≡ false → (value : Value) → o ≡ Some value → (t : Ty) → ty ≡ Some t → value ≡ zero_value t) → IsPadded ty o (if k then filled ty o else None)
  padded_at ty (Some value) true fits zero = refl
  padded_at (Some t) None true fits zero = refl
  padded_at None None true fits zero = tt
  padded_at (Some t) (Some value) false fits zero = zero refl value refl t refl
  padded_at None (Some value) false fits zero = absurd fits
  padded_at ty None false fits zero = tt

  live_at : (ty : Option Ty) (o : Option Value) (k : Bool) → (is_some o ≡ false → k ≡ true → (t : Ty) × (ty ≡ Some t)) → is_some (if k then filled ty o else None) ≡ k
  live_at ty (Some value) true becomes = refl
  live_at (Some t) None true becomes = refl
  live_at None None true becomes = absurd (let has = becomes refl refl in none-some has.0 has.1)
  live_at ty o false becomes = refl

  stays_at : (ty : Option Ty) (o : Option Value) (k : Bool) → k ≡ true → is_some o ≡ true → (if k then filled ty o else None) ≡ o
  stays_at ty (Some value) true is live = refl
  stays_at ty None true is live = contradiction {test = true} refl (sym live)
  stays_at ty o false is live = contradiction {test = true} refl (sym is)

  -- whether a branch that is not taken can be padded
  pub padding : ((live : Names) → live ≡ after_stmts → live_names old.store ≡ live_after false stmts live) → Padding setting types stmts old
  padding back =
      check_names (names_of stmts)
      (λ all.
      CanPad (record old { store = padded_store types old.store after_stmts })
      (record {
        head = refl;
        cells = refl;
        after = lives;
        before = back (live_names (padded_store types old.store after_stmts)) lives;
        padded = λ name. padded_at (types name) (old.store name) (after_stmts name) (typed name) (each_paddable all name);
      })
      (λ name is live. stays_at (types name) (old.store name) (after_stmts name) is live))
      CannotPad
    where
      lives : live_names (padded_store types old.store after_stmts) ≡ after_stmts
      lives = fun_ext (λ name. live_at (types name) (old.store name) (after_stmts name) (becomes_typed setting types true stmts fits (live_names old.store) name))

put_others : (shared : List (Name × Name)) (callee old : Store) (name : Name) → is_one_of name (outer shared) ≡ false → put_back shared callee old name ≡ old name
put_others [] callee old name none = refl
put_others (link ∷ more) callee old name none =
    let parts = or_parts (bytes_eq name link.1) (is_one_of name (outer more)) none in
    rw (bytes_eq-sym link.1 name, parts.0) (put_others more callee old name parts.1)

-- what the callee sees of a store depends on the shared names alone
seen_same : (shared : List (Name × Name)) (x y : Store) → ((name : Name) → is_one_of name (outer shared) ≡ true → x name ≡ y name) → (name : Name) → seen shared x name ≡ seen shared y name
seen_same [] x y same name = refl
seen_same (link ∷ more) x y same name =
    by (bytes_eq link.0 name)
    (seen_same more x y (λ n one. same n (or_true (bytes_eq n link.1) (is_one_of n (outer more)) one)) name)
  where
    or_true : (p q : Bool) → q ≡ true → (p || q) ≡ true
    or_true true q is = refl
    or_true false q is = is

    by : (k : Bool) → seen more x name ≡ seen more y name → (if k then x link.1 else seen more x name) ≡ (if k then y link.1 else seen more y name)
    by true deeper = same link.1 (ap (λ k. k || is_one_of link.1 (outer more)) (name_test link.1))
    by false deeper = deeper

seen_put : (shared : List (Name × Name)) (callee old : Store) → AreDifferent (outer shared) → (name : Name) → is_one_of name (inner shared) ≡ true → seen shared (put_back shared callee old) name ≡ callee name
seen_put [] callee old different name one = contradiction one refl
seen_put (link ∷ more) callee old different name one =
    by (bytes_eq link.0 name) (same_name link.0 name)
    (λ other. seen_same more (put_back (link ∷ more) callee old) (put_back more callee old) later name ∙ seen_put more callee old different.1 name (subst (λ k. (k || is_one_of name (inner more)) ≡ true) (bytes_eq-sym name link.0 ∙ other) one))
    refl
  where
    first : put_back (link ∷ more) callee old link.1 ≡ callee link.0
    first = rw (name_test link.1) refl

    later : (n : Name) → is_one_of n (outer more) ≡ true → put_back (link ∷ more) callee old n ≡ put_back more callee old n
    later n is = rw (names_differ (λ m. is_one_of m (outer more)) link.1 n different.0 is) refl

    by : (k : Bool) → (k ≡ true → link.0 ≡ name) → (k ≡ false → seen more (put_back (link ∷ more) callee old) name ≡ callee name) → bytes_eq link.0 name ≡ k
        → (if k then put_back (link ∷ more) callee old link.1 else seen more (put_back (link ∷ more) callee old) name) ≡ callee name
    by true is deeper e = first ∙ ap callee (is refl)
    by false is deeper e = deeper refl

-- after a call that leaves values of shared names alone, the caller's state is there
pub put_back_seen : (shared : List (Name × Name)) (callee : State) (old : Store) → AreDifferent (outer shared) → ((name : Name) → is_one_of name (inner shared) ≡ false → callee.store name ≡ None)
    → seen_by shared (record callee { store = put_back shared callee.store old }) ≡ callee
put_back_seen shared callee old different none =
    ap (λ (s : Store). record callee { store = s })
    (fun_ext (λ name.
    by_test (is_one_of name (inner shared)) (seen_put shared callee.store old different name)
    (λ off. unseen shared (put_back shared callee.store old) name off ∙ sym (none name off))))

pub put_back_others : (shared : List (Name × Name)) (callee old : Store) → KeepsOthers shared old (put_back shared callee old)
put_back_others shared callee old name none = put_others shared callee old name none
