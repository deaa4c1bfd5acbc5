-- The semantics of statements commutes with renaming of blocks.
use Rattle.std.proofs.Common.{◌≡◌, ◌∙◌, refl, sym, ap, ap₂, subst, subst₂, ℕ, true, false, List, length, Option, Some, None, option_map}
use Rattle.tw_syntax.specs.Names.{PathTree}
use Rattle.tw_syntax.specs.Statements.{StmtTree}
use Rattle.tw_syntax.specs.Types.{WrittenTree}
use Rattle.tw_types.specs.Types.{Ty, Pointer}
use Rattle.tw_types.specs.Values.{Value, Truth, Address, zero_value}
use Rattle.tw_resolve.specs.Expressions.{Types}
use Rattle.tw_resolve.specs.Setting.{Setting, type_of, pointee}
use Rattle.tw_check.specs.Liveness.{live_after}
use Rattle.tw_check.specs.Reverse.{reverse_of}
use Rattle.tw_state.specs.States.{Name, Cell, Free, Live, Store, State, with_cell}
use Rattle.tw_state.specs.Parts.{value_at, with_value_at}
use Rattle.tw_state.specs.Steps.{Activation, activation_of, links, Adds, Swaps, SwapsMemory, Takes, IsPadded, Pads, seen_by, KeepsOthers}
use Rattle.tw_state.specs.Semantics.{Runs, RunsNothing, RunsSkip, RunsThen, RunsBlock, RunsLet, RunsUnlet, RunsSwap, RunsMemSwapNull, RunsMemSwap, RunsIf, RunsIfElse, RunsIfNot, RunsWith, RunsCall, RunsUncall, RunsCallZero, RunsUncallZero, RunsAlloc, RunsAllocNone, RunsFree, RunsFreeNone}
use Rattle.tw_state.specs.Renaming.{Permutation, renamed_value, renamed_cells, renamed_store, renamed}
use Rattle.tw_state.proofs.Basics.{some_value}
use Rattle.tw_state.proofs.Blocks.{cell_length}
use Rattle.tw_state.proofs.Bijections.{IsTotal, zero_renamed, value_at_renamed, with_value_renamed, with_value_at_renamed, live_renamed, seen_renamed, expr_value_renamed, cell_at_renamed, with_cell_renamed}

taken_length : {setting : Setting} {to : WrittenTree} {name : Name} {value : Value} {block : ℕ} {old taken full : State} → Takes setting to block old taken → Adds name value taken full → length full.cells ≡ length old.cells
taken_length {setting} {to} {name} {value} {block} {old} {taken} {full} t a =
    ap (λ (s : State). length s.cells) a.after ∙ ap (λ (s : State). length s.cells) t.after ∙ cell_length old.cells block (Live t.target t.cleared)

module _ (setting : Setting) where
  -- a statement keeps the number of cells
  pub same_length : {act : Activation} {s : StmtTree} {x y : State} → Runs setting act s x y → length y.cells ≡ length x.cells
  same_length RunsNothing = refl
  same_length RunsSkip = refl
  same_length (RunsThen a b) = same_length b ∙ same_length a
  same_length (RunsBlock a) = same_length a
  same_length (RunsLet v e a) = ap (λ (s : State). length s.cells) a.after
  same_length (RunsUnlet v e a) = sym (ap (λ (s : State). length s.cells) a.after)
  same_length (RunsSwap a) = ap (λ (s : State). length s.cells) a.after
  same_length (RunsMemSwapNull a) = refl
  same_length (RunsMemSwap {old = old} a) = ap (λ (s : State). length s.cells) a.after ∙ cell_length old.cells a.block (Live a.target a.y)
  same_length (RunsIf p a q) = same_length a
  same_length (RunsIfElse p a q) = same_length a
  same_length (RunsIfNot p a q) = sym (ap length a.cells)
  same_length (RunsWith a b c) = same_length c ∙ same_length b ∙ same_length a
  same_length (RunsCall fun n named bound absent body keeps) = same_length body
  same_length (RunsUncall fun n named bound absent body keeps) = same_length body
  same_length (RunsCallZero fun v named bound cleared a) = ap (λ (s : State). length s.cells) a.after
  same_length (RunsUncallZero fun v named bound cleared a) = sym (ap (λ (s : State). length s.cells) a.after)
  same_length (RunsAlloc block t a) = taken_length t a
  same_length (RunsAllocNone none a) = ap (λ (s : State). length s.cells) a.after
  same_length (RunsFree block a t) = sym (taken_length t a)
  same_length (RunsFreeNone none a) = sym (ap (λ (s : State). length s.cells) a.after)

module _ {blocks : ℕ} (pi : Permutation blocks) where
  some_renamed : (o : Option Value) (value : Value) → o ≡ Some value → option_map (renamed_value pi.to) o ≡ Some (renamed_value pi.to value)
  some_renamed o value is = ap (option_map (renamed_value pi.to)) is

  adds_renamed : {name : Name} {value : Value} {bare full : State} → Adds name value bare full → Adds name (renamed_value pi.to value) (renamed pi bare) (renamed pi full)
  adds_renamed {name} {value} {bare} {full} a = record {
    unused = ap (option_map (renamed_value pi.to)) a.unused;
    after = ap (renamed pi) a.after ∙ ap (λ (s : Store). record (renamed pi bare) { store = s }) (with_value_renamed pi bare.store name value);
  }

  at_renamed : (store : Store) (path : PathTree) (value : Value) → value_at store path ≡ Some value → value_at (renamed_store pi store) path ≡ Some (renamed_value pi.to value)
  at_renamed store path value is = value_at_renamed pi store path ∙ some_renamed (value_at store path) value is

  swaps_renamed : {left right : PathTree} {old new : State} → Swaps left right old new → Swaps left right (renamed pi old) (renamed pi new)
  swaps_renamed {left} {right} {old} {new} a = record {
    x = renamed_value pi.to a.x;
    y = renamed_value pi.to a.y;
    at_left = at_renamed old.store left a.x a.at_left;
    at_right = at_renamed old.store right a.y a.at_right;
    apart = a.apart;
    after =
        ap (renamed pi) a.after
        ∙ ap (λ (s : Store). record (renamed pi old) { store = s })
        (with_value_at_renamed pi (with_value_at old.store left a.y) right a.x
        ∙ ap (λ s. with_value_at s right (renamed_value pi.to a.x)) (with_value_at_renamed pi old.store left a.y));
  }

  padded_renamed : (ty : Option Ty) (x y : Option Value) → IsPadded ty x y → IsPadded ty (option_map (renamed_value pi.to) x) (option_map (renamed_value pi.to) y)
  padded_renamed ty None None p = p
  padded_renamed ty (Some x) (Some y) p = ap (renamed_value pi.to) p
  padded_renamed (Some ty) None (Some y) p = ap (renamed_value pi.to) p ∙ zero_renamed pi ty
  padded_renamed (Some ty) (Some x) None p = ap (renamed_value pi.to) p ∙ zero_renamed pi ty
  padded_renamed None None (Some y) p = p
  padded_renamed None (Some x) None p = p

  pads_renamed : {types : Types} {stmts : StmtTree} {old new : State} → Pads types stmts old new → Pads types stmts (renamed pi old) (renamed pi new)
  pads_renamed {types} {stmts} {old} {new} a = record {
    head = ap pi.to a.head;
    cells = ap (renamed_cells pi) a.cells;
    after = live_renamed pi new.store ∙ a.after ∙ sym (ap (live_after true stmts) (live_renamed pi old.store));
    before = live_renamed pi old.store ∙ a.before ∙ sym (ap (live_after false stmts) (live_renamed pi new.store));
    padded = λ name. padded_renamed (types name) (old.store name) (new.store name) (a.padded name);
  }

  module _ (total : IsTotal pi) where
    memory_renamed : {types : Types} {pointer place : PathTree} {old new : State} → length old.cells ≡ blocks → SwapsMemory types pointer place old new → SwapsMemory types pointer place (renamed pi old) (renamed pi new)
    memory_renamed {types} {pointer} {place} {old} {new} len a = record {
      block = pi.to a.block;
      target = a.target;
      x = renamed_value pi.to a.x;
      y = renamed_value pi.to a.y;
      points = at_renamed old.store pointer (Address a.block) a.points;
      of_target = a.of_target;
      in_cell = cell_at_renamed pi total old.cells len a.block (Live a.target a.x) a.in_cell;
      at_place = at_renamed old.store place a.y a.at_place;
      apart = a.apart;
      after =
          ap (renamed pi) a.after
          ∙ ap₂ (λ (c : List Cell) (s : Store). record (renamed pi old) { cells = c; store = s })
          (with_cell_renamed pi total old.cells len a.block (Live a.target a.x) (Live a.target a.y) a.in_cell)
          (with_value_at_renamed pi old.store place a.x);
    }

    zero_is_renamed : {value : Value} (o : Option Ty) → option_map zero_value o ≡ Some value → renamed_value pi.to value ≡ value
    zero_is_renamed {value} (Some ty) is = subst (λ v. renamed_value pi.to v ≡ v) (some_value is) (zero_renamed pi ty)
    zero_is_renamed None is = absurd (cc)

    takes_renamed : {setting : Setting} {to : WrittenTree} {block : ℕ} {old new : State} → length old.cells ≡ blocks → Takes setting to block old new → Takes setting to (pi.to block) (renamed pi old) (renamed pi new)
    takes_renamed {setting} {to} {block} {old} {new} len t = record {
      target = t.target;
      cleared = t.cleared;
      next = pi.to t.next;
      numbered = t.numbered;
      is_zero = t.is_zero;
      first = ap pi.to t.first;
      is_free = cell_at_renamed pi total old.cells len block (Free t.next) t.is_free;
      after =
          ap (renamed pi) t.after
          ∙ ap (λ (c : List Cell). record (renamed pi old) { head = pi.to t.next; cells = c })
          (with_cell_renamed pi total old.cells len block (Free t.next) (Live t.target t.cleared) t.is_free
          ∙ ap (λ v. with_cell (renamed_cells pi old.cells) (pi.to block) (Live t.target v)) (zero_is_renamed (pointee setting (Some (Pointer t.target))) t.is_zero));
    }

    pub added_zero_renamed : (o : Option Ty) {name : Name} {value : Value} {bare full : State} → option_map zero_value o ≡ Some value → Adds name value bare full → Adds name value (renamed pi bare) (renamed pi full)
    added_zero_renamed o {name} {value} {bare} {full} is a =
        subst (λ v. Adds name v (renamed pi bare) (renamed pi full)) (zero_is_renamed o is) (adds_renamed a)

    null_renamed : {name : Name} {bare full : State} → Adds name (Address 0) bare full → Adds name (Address 0) (renamed pi bare) (renamed pi full)
    null_renamed {name} {bare} {full} a = subst (λ n. Adds name (Address n) (renamed pi bare) (renamed pi full)) pi.to_null (adds_renamed a)

    seen_by_renamed : (shared : List (Name × Name)) (state : State) → renamed pi (seen_by shared state) ≡ seen_by shared (renamed pi state)
    seen_by_renamed shared state = ap (λ (s : Store). record (renamed pi state) { store = s }) (sym (seen_renamed pi shared state.store))

    others_renamed : (shared : List (Name × Name)) (old new : Store) → KeepsOthers shared old new → KeepsOthers shared (renamed_store pi old) (renamed_store pi new)
    others_renamed shared old new keeps name other = ap (option_map (renamed_value pi.to)) (keeps name other)

    module _ (setting : Setting) where
      -- a statement leads from the renamed state to the renamed state
      pub runs_renamed : {act : Activation} {s : StmtTree} {x y : State} → length x.cells ≡ blocks → Runs setting act s x y → Runs setting act s (renamed pi x) (renamed pi y)
      runs_renamed len RunsNothing = RunsNothing
      runs_renamed len RunsSkip = RunsSkip
      runs_renamed len (RunsThen a b) = RunsThen (runs_renamed len a) (runs_renamed (same_length setting a ∙ len) b)
      runs_renamed len (RunsBlock a) = RunsBlock (runs_renamed len a)
      runs_renamed len (RunsLet {expr = expr} {old = old} v e a) =
          RunsLet (renamed_value pi.to v) (expr_value_renamed pi total setting old.store expr ∙ ap (option_map (renamed_value pi.to)) e) (adds_renamed a)
      runs_renamed len (RunsUnlet {expr = expr} {new = new} v e a) =
          RunsUnlet (renamed_value pi.to v) (expr_value_renamed pi total setting new.store expr ∙ ap (option_map (renamed_value pi.to)) e) (adds_renamed a)
      runs_renamed len (RunsSwap a) = RunsSwap (swaps_renamed a)
      runs_renamed len (RunsMemSwapNull {pointer = pointer} {state = state} a) = RunsMemSwapNull (at_renamed state.store pointer (Address 0) a ∙ ap (λ n. Some (Address n)) pi.to_null)
      runs_renamed len (RunsMemSwap a) = RunsMemSwap (memory_renamed len a)
      runs_renamed len (RunsIf {cond = cond} {old = old} {new = new} p a q) =
          RunsIf (at_renamed old.store cond (Truth true) p) (runs_renamed len a) (at_renamed new.store cond (Truth true) q)
      runs_renamed len (RunsIfElse {cond = cond} {old = old} {new = new} p a q) =
          RunsIfElse (at_renamed old.store cond (Truth false) p) (runs_renamed len a) (at_renamed new.store cond (Truth false) q)
      runs_renamed len (RunsIfNot {cond = cond} {old = old} {new = new} p a q) =
          RunsIfNot (at_renamed old.store cond (Truth false) p) (pads_renamed a) (at_renamed new.store cond (Truth false) q)
      runs_renamed len (RunsWith a b c) =
          let ready = same_length setting a ∙ len in
          RunsWith (runs_renamed len a) (runs_renamed ready b) (runs_renamed (same_length setting b ∙ ready) c)
      runs_renamed {act} len (RunsCall {target = target} {args = args} {old = old} {new = new} fun n named bound absent body keeps) =
          RunsCall fun n named bound (ap (option_map (renamed_value pi.to)) absent)
          (subst₂ (Runs setting (activation_of setting fun n) fun.body) (seen_by_renamed (links fun target args) old) (seen_by_renamed (links fun target args) new) (runs_renamed len body))
          (others_renamed (links fun target args) old.store new.store keeps)
      runs_renamed {act} len (RunsUncall {target = target} {args = args} {old = old} {new = new} fun n named bound absent body keeps) =
          RunsUncall fun n named bound (ap (option_map (renamed_value pi.to)) absent)
          (subst₂ (Runs setting (activation_of setting fun n) (reverse_of fun.body)) (seen_by_renamed (links fun target args) old) (seen_by_renamed (links fun target args) new) (runs_renamed len body))
          (others_renamed (links fun target args) old.store new.store keeps)
      runs_renamed len (RunsCallZero fun v named bound cleared a) = RunsCallZero fun v named bound cleared (added_zero_renamed (type_of setting fun.result) cleared a)
      runs_renamed len (RunsUncallZero fun v named bound cleared a) = RunsUncallZero fun v named bound cleared (added_zero_renamed (type_of setting fun.result) cleared a)
      runs_renamed len (RunsAlloc block t a) = RunsAlloc (pi.to block) (takes_renamed len t) (adds_renamed a)
      runs_renamed len (RunsAllocNone none a) = RunsAllocNone (ap pi.to none ∙ pi.to_null) (null_renamed a)
      runs_renamed len (RunsFree block a t) = RunsFree (pi.to block) (adds_renamed a) (takes_renamed (sym (taken_length t a) ∙ len) t)
      runs_renamed len (RunsFreeNone none a) = RunsFreeNone (ap pi.to none ∙ pi.to_null) (null_renamed a)
