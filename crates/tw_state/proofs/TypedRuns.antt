-- Typed statements lead from typed states to typed states.
use Rattle.std.proofs.Common.{◌≡◌, ◌∙◌, ◌≤◌, refl, sym, ap, subst, subst₂, ℕ, Bool, true, false, ◌||◌, if◌then◌else◌, List, [], ◌∷◌, length, Option, Some, None, option_map, bytes_eq}
use Rattle.std.specs.List.{AllByRecursion}
use Rattle.tw_syntax.specs.Names.{NameTree, PathTree}
use Rattle.tw_syntax.specs.Programs.{ParamTree, FunTree}
use Rattle.tw_syntax.specs.Statements.{StmtTree}
use Rattle.tw_types.specs.Types.{Ty, Pointer, block_count}
use Rattle.tw_types.specs.Values.{Value, HasType, zero_value}
use Rattle.tw_types.proofs.Zeros.{zero_value-typed}
use Rattle.tw_resolve.specs.Declarations.{is_one_of}
use Rattle.tw_resolve.specs.Expressions.{Types, type_at_path}
use Rattle.tw_resolve.specs.Setting.{Setting, type_of, pointee}
use Rattle.tw_state.specs.States.{Name, Free, Live, Store, State}
use Rattle.tw_state.specs.Parts.{with_value_at}
use Rattle.tw_state.specs.Evaluation.{zero_of}
use Rattle.tw_state.specs.Steps.{fun_types, Activation, Adds, Swaps, SwapsMemory, Takes, IsPadded, Pads, param_links, links, seen, seen_by, KeepsOthers}
use Rattle.tw_state.specs.Semantics.{Runs, RunsNothing, RunsSkip, RunsThen, RunsBlock, RunsLet, RunsUnlet, RunsSwap, RunsMemSwapNull, RunsMemSwap, RunsIf, RunsIfElse, RunsIfNot, RunsWith, RunsCall, RunsUncall, RunsCallZero, RunsUncallZero, RunsAlloc, RunsAllocNone, RunsFree, RunsFreeNone}
use Rattle.tw_state.specs.Results.{Fits, IsCell, IsTypedIn}
use Rattle.tw_state.proofs.Basics.{some_value, same_some, by_test, same_name, name_test, contradiction}
use Rattle.tw_state.proofs.Blocks.{cell_all, cell_has, cell_length}
use Rattle.tw_state.proofs.Parts.{value_other}
use Rattle.tw_state.proofs.SingleSteps.{same_target, added, added_others, taken_from}
use Rattle.tw_state.proofs.Undone.{undone}
use Rattle.tw_state.proofs.Calls.{AreDifferent, inner, outer, unseen, links_different}
use Rattle.tw_state.proofs.TypedTrees.{ArgsFit, AllocFits, StmtFits, reverse_fits, ParamFits, FunFits, FunsFit}
use Rattle.tw_state.proofs.TypedValues.{StoreFits, fits_typed, typed_fits, value_at_typed, with_value_at_typed, expr_typed}

module _ (setting : Setting) where
  -- a typed state with another typed store
  pub typed_store : {types others : Types} {old new : State} → IsTypedIn setting types old → new.head ≡ old.head → new.cells ≡ old.cells → StoreFits setting.widths others new.store → IsTypedIn setting others new
  typed_store {types} {others} {old} {new} typed head cells names = record {
    head_within = subst (λ n. n ≤ block_count setting.widths) (sym head) typed.head_within;
    all_blocks = ap length cells ∙ typed.all_blocks;
    each_cell = subst (AllByRecursion (IsCell setting)) (sym cells) typed.each_cell;
    names = names;
  }

  same_typed : {types : Types} {old new : State} → old ≡ new → IsTypedIn setting types old → IsTypedIn setting types new
  same_typed {types} {old} {new} same typed = subst (IsTypedIn setting types) same typed

  -- a name with a value of its type is added, or removed
  pub typed_added : {types : Types} {name : Name} {value : Value} {bare full : State} (ty : Ty) → types name ≡ Some ty → HasType setting.widths value ty → Adds name value bare full → IsTypedIn setting types bare → IsTypedIn setting types full
  typed_added {types} {name} {value} {bare} {full} ty is has adds typed =
      typed_store typed (ap (λ (s : State). s.head) adds.after) (ap (λ (s : State). s.cells) adds.after)
      (λ n.
      by_test (bytes_eq name n)
      (λ same. subst (λ m. Fits setting.widths (types m) (full.store m)) (same_name name n same) (typed_fits setting.widths (types name) (full.store name) ty value is (added adds) has))
      (λ other. subst (Fits setting.widths (types n)) (sym (added_others adds n other)) (typed.names n)))

  pub typed_removed : {types : Types} {name : Name} {value : Value} {bare full : State} → Adds name value bare full → IsTypedIn setting types full → IsTypedIn setting types bare
  typed_removed {types} {name} {value} {bare} {full} adds typed =
      typed_store typed (sym (ap (λ (s : State). s.head) adds.after)) (sym (ap (λ (s : State). s.cells) adds.after))
      (λ n.
      by_test (bytes_eq name n)
      (λ same. subst (λ m. Fits setting.widths (types m) (bare.store m)) (same_name name n same) (subst (Fits setting.widths (types name)) (sym adds.unused) tt))
      (λ other. subst (Fits setting.widths (types n)) (added_others adds n other) (typed.names n)))

  -- the value of a name that was added has its type
  pub added_typed : {types : Types} {name : Name} {value : Value} {bare full : State} (ty : Ty) → types name ≡ Some ty → Adds name value bare full → IsTypedIn setting types full → HasType setting.widths value ty
  added_typed {types} {name} {value} {bare} {full} ty is adds typed =
      let t = fits_typed setting.widths (types name) (full.store name) value (added adds) (typed.names name) in
      subst (HasType setting.widths value) (same_some t.1 is) t.2

  -- two values of one type are exchanged
  typed_swap : {types : Types} {left right : PathTree} {old new : State} (ty : Ty) → type_at_path types left ≡ Some ty → type_at_path types right ≡ Some ty → Swaps left right old new → IsTypedIn setting types old → IsTypedIn setting types new
  typed_swap {types} {left} {right} {old} {new} ty l r a typed =
      let x = value_at_typed setting.widths types old.store typed.names left ty a.x l a.at_left in
      let y = value_at_typed setting.widths types old.store typed.names right ty a.y r a.at_right in
      let one = with_value_at_typed setting.widths types old.store typed.names left ty a.x a.y l a.at_left y in
      same_typed (sym a.after)
      (typed_store typed refl refl
      (with_value_at_typed setting.widths types (with_value_at old.store left a.y) one right ty a.y a.x r
      (value_other old.store left right a.x a.y a.y a.at_left a.at_right a.apart) x))

  -- a value is exchanged with that of a block
  typed_memory : {types : Types} {pointer place : PathTree} {old new : State} (target : ℕ) (ty : Ty) → type_at_path types pointer ≡ Some (Pointer target) → pointee setting (Some (Pointer target)) ≡ Some ty → type_at_path types place ≡ Some ty
      → SwapsMemory types pointer place old new → IsTypedIn setting types old → IsTypedIn setting types new
  typed_memory {types} {pointer} {place} {old} {new} target ty p content q a typed =
      let targets : target ≡ a.target = same_target (same_some p a.of_target) in
      let denotes : pointee setting (Some (Pointer a.target)) ≡ Some ty = subst (λ n. pointee setting (Some (Pointer n)) ≡ Some ty) targets content in
      let cell = cell_has (IsCell setting) old.cells a.block (Live a.target a.x) typed.each_cell a.in_cell in
      let x : HasType setting.widths a.x ty = subst (HasType setting.widths a.x) (same_some cell.1 denotes) cell.2 in
      let y = value_at_typed setting.widths types old.store typed.names place ty a.y q a.at_place in
      same_typed (sym a.after) (record {
        head_within = typed.head_within;
        all_blocks = cell_length old.cells a.block (Live a.target a.y) ∙ typed.all_blocks;
        each_cell = cell_all (IsCell setting) old.cells a.block (Live a.target a.y) (ty, denotes, y) typed.each_cell;
        names = with_value_at_typed setting.widths types old.store typed.names place ty a.y a.x q a.at_place x;
      })

  -- names are padded
  padded_fits : (ty : Option Ty) (x y : Option Value) → IsPadded ty x y → Fits setting.widths ty x → Fits setting.widths ty y
  padded_fits ty x None padded fits = tt
  padded_fits (Some t) (Some v) (Some w) padded fits = subst (λ u. HasType setting.widths u t) padded fits
  padded_fits (Some t) None (Some w) padded fits = subst (λ u. HasType setting.widths u t) (sym padded) (zero_value-typed setting.widths t)
  padded_fits None (Some v) (Some w) padded fits = absurd fits
  padded_fits None None (Some w) padded fits = absurd padded

  typed_padded : {types : Types} {stmts : StmtTree} {old new : State} → Pads types stmts old new → IsTypedIn setting types old → IsTypedIn setting types new
  typed_padded {types} {stmts} {old} {new} pads typed =
      typed_store typed (sym pads.head) (sym pads.cells) (λ name. padded_fits (types name) (old.store name) (new.store name) (pads.padded name) (typed.names name))

  -- a block is taken, or freed
  pub typed_taken : {types : Types} {to : _} {ty : Ty} {block : ℕ} {old new : State} → AllocFits setting to ty → Takes setting to block old new → IsTypedIn setting types old → IsTypedIn setting types new
  typed_taken {types} {to} {ty} {block} {old} {new} fits t typed =
      let targets : fits.target ≡ t.target = same_some fits.numbered t.numbered in
      let denotes : pointee setting (Some (Pointer t.target)) ≡ Some fits.content = subst (λ n. pointee setting (Some (Pointer n)) ≡ Some fits.content) targets fits.denotes in
      let zeros : zero_value fits.content ≡ t.cleared = some_value (sym (ap (option_map zero_value) denotes) ∙ t.is_zero) in
      same_typed (sym t.after) (record {
        head_within = cell_has (IsCell setting) old.cells block (Free t.next) typed.each_cell t.is_free;
        all_blocks = cell_length old.cells block (Live t.target t.cleared) ∙ typed.all_blocks;
        each_cell = cell_all (IsCell setting) old.cells block (Live t.target t.cleared)
            (fits.content, denotes, subst (λ v. HasType setting.widths v fits.content) zeros (zero_value-typed setting.widths fits.content)) typed.each_cell;
        names = typed.names;
      })

  typed_freed : {types : Types} {to : _} {block : ℕ} {old new : State} → block ≤ block_count setting.widths → Takes setting to block old new → IsTypedIn setting types new → IsTypedIn setting types old
  typed_freed {types} {to} {block} {old} {new} within t typed =
      same_typed (sym (taken_from t)) (record {
        head_within = within;
        all_blocks = cell_length new.cells block (Free new.head) ∙ typed.all_blocks;
        each_cell = cell_all (IsCell setting) new.cells block (Free new.head) typed.head_within typed.each_cell;
        names = typed.names;
      })

  -- shared names have the same types for caller and callee
  abbrev pub LinksFit : Types → Types → List (Name × Name) → Type 0
  LinksFit callee caller shared = AllByRecursion (λ link. callee link.0 ≡ caller link.1) shared

  params_fit : (callee caller : Types) (params : List ParamTree) (args : List NameTree) → AllByRecursion (ParamFits setting callee) params → ArgsFit setting caller params args → LinksFit callee caller (param_links params args)
  params_fit callee caller [] args each fit = tt
  params_fit callee caller (param ∷ params) [] each fit = tt
  params_fit callee caller (param ∷ params) (arg ∷ args) each fit =
      (each.0.2 ∙ sym (fit.0.2 ∙ same_some' fit.0.1 each.0.1), params_fit callee caller params args each.1 fit.1)
    where
      same_some' : {o : Option Ty} {x y : Ty} → o ≡ Some x → o ≡ Some y → Some x ≡ Some y
      same_some' p q = sym p ∙ q

  pub links_fit : (caller : Types) (fun : FunTree) (target : NameTree) (args : List NameTree) (ty : Ty) → FunFits setting fun → caller target.text ≡ Some ty → type_of setting fun.result ≡ Some ty → ArgsFit setting caller fun.params args
      → LinksFit (fun_types setting fun) caller (links fun target args)
  links_fit caller fun target args ty fun_fits is result fit =
      (fun_fits.result.2 ∙ sym fun_fits.result.1 ∙ result ∙ sym is, params_fit (fun_types setting fun) caller fun.params args fun_fits.params fit)

  -- what a callee sees of a typed store is typed
  seen_fits : (callee caller : Types) (shared : List (Name × Name)) (store : Store) → LinksFit callee caller shared → StoreFits setting.widths caller store → StoreFits setting.widths callee (seen shared store)
  seen_fits callee caller [] store links fits name = tt
  seen_fits callee caller (link ∷ more) store links fits name =
      by (bytes_eq link.0 name)
      (λ is. subst (λ n. Fits setting.widths (callee n) (store link.1)) (same_name link.0 name is) (subst (λ ty. Fits setting.widths ty (store link.1)) (sym links.0) (fits link.1)))
      (seen_fits callee caller more store links.1 fits name)
    where
      by : (k : Bool) → (k ≡ true → Fits setting.widths (callee name) (store link.1)) → Fits setting.widths (callee name) (seen more store name) → Fits setting.widths (callee name) (if k then store link.1 else seen more store name)
      by true here there = here refl
      by false here there = there

  -- a shared name of a store of which the callee sees typed values is typed
  outer_fits : (callee caller : Types) (shared : List (Name × Name)) (store : Store) → AreDifferent (inner shared) → LinksFit callee caller shared → StoreFits setting.widths callee (seen shared store)
      → (name : Name) → is_one_of name (outer shared) ≡ true → Fits setting.widths (caller name) (store name)
  outer_fits callee caller [] store different links fits name one = contradiction one refl
  outer_fits callee caller (link ∷ more) store different links fits name one =
      by_test (bytes_eq name link.1)
      (λ is. subst (λ n. Fits setting.widths (caller n) (store n)) (sym (same_name name link.1 is)) first)
      (λ other. outer_fits callee caller more store different.1 links.1 rest name (subst (λ k. (k || is_one_of name (outer more)) ≡ true) other one))
    where
      seen_first : seen (link ∷ more) store link.0 ≡ store link.1
      seen_first = rw (name_test link.0) refl

      seen_later : (n : Name) → bytes_eq link.0 n ≡ false → seen (link ∷ more) store n ≡ seen more store n
      seen_later n other = rw other refl

      first : Fits setting.widths (caller link.1) (store link.1)
      first = subst₂ (λ (a : Option Ty) (b : Option Value). Fits setting.widths a b) links.0 seen_first (fits link.0)

      rest : StoreFits setting.widths callee (seen more store)
      rest n =
          by_test (bytes_eq link.0 n)
          (λ is. subst (λ m. Fits setting.widths (callee m) (seen more store m)) (same_name link.0 n is) (subst (Fits setting.widths (callee link.0)) (sym (unseen more store link.0 different.0)) tt))
          (λ other. subst (Fits setting.widths (callee n)) (seen_later n other) (fits n))

  pub typed_seen : {callee caller : Types} {state : State} (shared : List (Name × Name)) → LinksFit callee caller shared → IsTypedIn setting caller state → IsTypedIn setting callee (seen_by shared state)
  typed_seen {callee} {caller} {state} shared links typed = typed_store typed refl refl (seen_fits callee caller shared state.store links typed.names)

  -- the caller's state after a call is typed if what the callee sees of it is
  typed_from_seen : {callee caller : Types} {old new : State} (shared : List (Name × Name)) → AreDifferent (inner shared) → LinksFit callee caller shared → KeepsOthers shared old.store new.store
      → IsTypedIn setting caller old → IsTypedIn setting callee (seen_by shared new) → IsTypedIn setting caller new
  typed_from_seen {callee} {caller} {old} {new} shared different links keeps before typed =
      typed_store typed refl refl
      (λ name.
      by_test (is_one_of name (outer shared))
      (outer_fits callee caller shared new.store different links typed.names name)
      (λ other. subst (Fits setting.widths (caller name)) (sym (keeps name other)) (before.names name)))

  pub zero_typed : {fun other : FunTree} {o : Option FunTree} {v : Value} {ty : Ty} → o ≡ Some fun → o ≡ Some other → type_of setting other.result ≡ Some ty → zero_of setting fun.result ≡ Some v → HasType setting.widths v ty
  zero_typed {fun} {other} {o} {v} {ty} named named2 result zero =
      let same = same_some named named2 in
      subst (λ u. HasType setting.widths u ty)
      (some_value (sym (ap (option_map zero_value) result) ∙ ap (λ (f : FunTree). zero_of setting f.result) (sym same) ∙ zero))
      (zero_value-typed setting.widths ty)

module _ (setting : Setting) (funs : FunsFit setting) where
  -- typed states lead to typed states
  pub typed_after : {act : Activation} {s : StmtTree} {x y : State} → StmtFits setting act.types s → Runs setting act s x y → IsTypedIn setting act.types x → IsTypedIn setting act.types y
  typed_after fits RunsNothing typed = typed
  typed_after fits RunsSkip typed = typed
  typed_after fits (RunsThen a b) typed = typed_after fits.1 b (typed_after fits.0 a typed)
  typed_after fits (RunsBlock a) typed = typed_after fits a typed
  typed_after {act} fits (RunsLet {expr = expr} {old = old} v e a) typed =
      typed_added setting fits.0 fits.1 (expr_typed setting act.types old.store typed.names expr fits.0 v fits.2 e) a typed
  typed_after fits (RunsUnlet v e a) typed = typed_removed setting a typed
  typed_after fits (RunsSwap a) typed = typed_swap setting fits.0 fits.1 fits.2 a typed
  typed_after fits (RunsMemSwapNull a) typed = typed
  typed_after fits (RunsMemSwap a) typed = typed_memory setting fits.0 fits.1 fits.2 fits.3 fits.4 a typed
  typed_after fits (RunsIf p a q) typed = typed_after fits.1 a typed
  typed_after fits (RunsIfElse p a q) typed = typed_after fits.2 a typed
  typed_after fits (RunsIfNot p a q) typed = typed_padded setting a typed
  typed_after {act} fits (RunsWith {setup = setup} a b c) typed =
      typed_after (reverse_fits setting act.types setup fits.0) c (typed_after fits.1 b (typed_after fits.0 a typed))
  typed_after {act} fits (RunsCall {target = target} {callee = callee} {args = args} fun n named bound absent body keeps) typed =
      let call = fits.2 in
      let same = same_some call.named named in
      let fun_fits = funs callee.text fun named in
      let shared = links fun target args in
      let fit = links_fit setting act.types fun target args fits.0 fun_fits fits.1 (ap (λ (f : FunTree). type_of setting f.result) (sym same) ∙ call.result) (subst (λ (f : FunTree). ArgsFit setting act.types f.params args) same call.fit) in
      typed_from_seen setting shared (links_different fun target args fun_fits.different) fit keeps typed
      (typed_after fun_fits.body body (typed_seen setting shared fit typed))
  typed_after {act} fits (RunsUncall {target = target} {callee = callee} {args = args} fun n named bound absent body keeps) typed =
      let call = fits.2 in
      let same = same_some call.named named in
      let fun_fits = funs callee.text fun named in
      let shared = links fun target args in
      let fit = links_fit setting act.types fun target args fits.0 fun_fits fits.1 (ap (λ (f : FunTree). type_of setting f.result) (sym same) ∙ call.result) (subst (λ (f : FunTree). ArgsFit setting act.types f.params args) same call.fit) in
      typed_from_seen setting shared (links_different fun target args fun_fits.different) fit keeps typed
      (typed_after (reverse_fits setting (fun_types setting fun) fun.body fun_fits.body) body (typed_seen setting shared fit typed))
  typed_after fits (RunsCallZero fun v named bound zero adds) typed = typed_added setting fits.0 fits.1 (zero_typed setting named fits.2.named fits.2.result zero) adds typed
  typed_after fits (RunsUncallZero fun v named bound zero adds) typed = typed_removed setting adds typed
  typed_after {act} fits (RunsAlloc {target = target} {old = old} block t a) typed =
      typed_added setting (Pointer fits.2.target) (fits.1 ∙ ap Some fits.2.pointer) (subst (λ n. n ≤ block_count setting.widths) t.first typed.head_within) a (typed_taken setting fits.2 t typed)
  typed_after fits (RunsAllocNone none a) typed =
      typed_added setting (Pointer fits.2.target) (fits.1 ∙ ap Some fits.2.pointer) (zero_value-typed setting.widths (Pointer fits.2.target)) a typed
  typed_after fits (RunsFree block a t) typed =
      typed_freed setting (added_typed setting (Pointer fits.2.target) (fits.1 ∙ ap Some fits.2.pointer) a typed) t (typed_removed setting a typed)
  typed_after fits (RunsFreeNone none a) typed = typed_removed setting a typed

  -- backward as well
  pub typed_before : {act : Activation} {s : StmtTree} {x y : State} → StmtFits setting act.types s → Runs setting act s x y → IsTypedIn setting act.types y → IsTypedIn setting act.types x
  typed_before {act} {s} fits runs typed = typed_after (reverse_fits setting act.types s fits) (undone setting runs) typed
