-- Single steps are determined, and go back.
use Rattle.std.proofs.Common.{◌≡◌, ◌≢◌, ◌∙◌, refl, sym, ap, ap₂, subst, ℕ, Bool, true, false, List, Option, Some, None, is_some, bytes_eq}
use Rattle.std.proofs.Math.Path.{fun_ext}
use Rattle.std.proofs.lemmas.Option.{none-some}
use Rattle.tw_syntax.specs.Names.{PathTree}
use Rattle.tw_syntax.specs.Statements.{StmtTree}
use Rattle.tw_syntax.specs.Types.{WrittenTree}
use Rattle.tw_types.specs.Types.{Ty, Pointer}
use Rattle.tw_types.specs.Values.{Value, Address}
use Rattle.tw_resolve.specs.Expressions.{Types}
use Rattle.tw_resolve.specs.Setting.{Setting}
use Rattle.tw_check.specs.Names.{Names}
use Rattle.tw_check.specs.Reverse.{reverse_of}
use Rattle.tw_check.proofs.Reversal.{live_after-reverse_of}
use Rattle.tw_state.specs.States.{Name, Cell, Free, Live, Store, State, with_value, cell_at, with_cell}
use Rattle.tw_state.specs.Parts.{value_at, with_value_at}
use Rattle.tw_state.specs.Evaluation.{zero_of_target}
use Rattle.tw_state.specs.Steps.{Adds, Swaps, SwapsMemory, Takes, IsPadded, Pads, live_names}
use Rattle.tw_state.proofs.Basics.{some_value, same_some, by_test, same_name, name_test, contradiction}
use Rattle.tw_state.proofs.Blocks.{cell_put, cell_twice, cell_back, same_link}
use Rattle.tw_state.proofs.Parts.{value_put, value_twice, value_back, value_other, values_swap, overlap-sym}

pub same_state : {x y : State} → x.head ≡ y.head → x.cells ≡ y.cells → x.store ≡ y.store → x ≡ y
same_state {x} {y} head cells store =
    ap (λ (h : ℕ). record x { head = h }) head
    ∙ ap (λ (c : List Cell). record x { head = y.head; cells = c }) cells
    ∙ ap (λ (s : Store). record y { store = s }) store

-- an address is determined by its value
pub same_address : {x y : ℕ} → Address x ≡ Address y → x ≡ y
same_address {x} {y} same = ap block same
  where
    block : Value → ℕ
    block (Address n) = n
    block other = 0

-- the target of a pointer is determined by its type
pub same_target : {x y : ℕ} → Pointer x ≡ Pointer y → x ≡ y
same_target {x} {y} same = ap target same
  where
    target : Ty → ℕ
    target (Pointer n) = n
    target other = 0

pub same_live : {target other : ℕ} {x y : Value} → Live target x ≡ Live other y → x ≡ y
same_live {target} {other} {x} {y} same = ap value same
  where
    value : Cell → Value
    value (Free next) = x
    value (Live number v) = v

pub not_live_and_free : {P : Type 0} {o : Option Cell} {next target : ℕ} {value : Value} → o ≡ Some (Free next) → o ≡ Some (Live target value) → P
not_live_and_free p q = absurd (differ (some_value (sym p ∙ q)))
  where
    is_free : Cell → Bool
    is_free (Free next) = true
    is_free (Live target value) = false

    differ : {next target : ℕ} {value : Value} → Free next ≡ Live target value → ⊥
    differ same = contradiction {test = true} refl (ap is_free same)

-- the value that was added
pub added : {name : Name} {value : Value} {bare full : State} → Adds name value bare full → full.store name ≡ Some value
added {name} {value} {bare} {full} adds = ap (λ (s : State). s.store name) adds.after ∙ (rw (name_test name) refl)

pub added_others : {name : Name} {value : Value} {bare full : State} → Adds name value bare full → (other : Name) → bytes_eq name other ≡ false → full.store other ≡ bare.store other
added_others {name} {value} {bare} {full} adds other differ = ap (λ (s : State). s.store other) adds.after ∙ (rw differ refl)

pub adds_value : {name : Name} {x y : Value} {bare other full : State} → Adds name x bare full → Adds name y other full → x ≡ y
adds_value a b = same_some (added a) (added b)

pub adds_bare : {name : Name} {x y : Value} {bare other full : State} → Adds name x bare full → Adds name y other full → bare ≡ other
adds_bare {name} {x} {y} {bare} {other} {full} a b =
    same_state (sym (ap (λ (s : State). s.head) a.after) ∙ ap (λ (s : State). s.head) b.after) (sym (ap (λ (s : State). s.cells) a.after) ∙ ap (λ (s : State). s.cells) b.after)
    (fun_ext (λ n.
    by_test (bytes_eq name n)
    (λ is. subst (λ m. bare.store m ≡ other.store m) (same_name name n is) (a.unused ∙ sym b.unused))
    (λ differ. sym (added_others a n differ) ∙ added_others b n differ)))

pub adds_full : {name : Name} {x y : Value} {bare full other : State} → x ≡ y → Adds name x bare full → Adds name y bare other → full ≡ other
adds_full {name} {x} {y} {bare} {full} {other} same a b =
    a.after ∙ ap (λ value. record bare { store = with_value bare.store name value }) same ∙ sym b.after

-- exchanged values
pub swaps_determined : {left right : PathTree} {old new other : State} → Swaps left right old new → Swaps left right old other → new ≡ other
swaps_determined {left} {right} {old} {new} {other} a b =
    a.after
    ∙ ap₂ (λ y x. record old { store = with_value_at (with_value_at old.store left y) right x }) (same_some a.at_right b.at_right) (same_some a.at_left b.at_left)
    ∙ sym b.after

pub swaps_back : {left right : PathTree} {old new : State} → Swaps left right old new → Swaps left right new old
swaps_back {left} {right} {old} {new} a =
    let one = with_value_at old.store left a.y in
    let left_one = value_put old.store left a.x a.y a.at_left in
    let right_one = value_other old.store left right a.x a.y a.y a.at_left a.at_right a.apart in
    let back_apart = overlap-sym right left ∙ a.apart in
    let store_is : new.store ≡ with_value_at one right a.x = ap (λ (s : State). s.store) a.after in
    let left_two : value_at new.store left ≡ Some a.y = ap (λ s. value_at s left) store_is ∙ value_other one right left a.y a.y a.x right_one left_one back_apart in
    let right_two : value_at new.store right ≡ Some a.x = ap (λ s. value_at s right) store_is ∙ value_put one right a.y a.x right_one in
    record {
      x = a.y;
      y = a.x;
      at_left = left_two;
      at_right = right_two;
      apart = a.apart;
      after = same_state (sym (ap (λ (s : State). s.head) a.after)) (sym (ap (λ (s : State). s.cells) a.after))
          (sym (ap (λ s. with_value_at (with_value_at s left a.x) right a.y) store_is
          ∙ ap (λ s. with_value_at s right a.y) (values_swap one right left a.y a.y a.x a.x right_one left_one back_apart)
          ∙ ap (λ s. with_value_at (with_value_at s right a.x) right a.y) (value_twice old.store left a.x a.y a.x a.at_left ∙ value_back old.store left a.x a.at_left)
          ∙ value_twice old.store right a.y a.x a.y a.at_right
          ∙ value_back old.store right a.y a.at_right));
    }

-- a value exchanged with that of a block
pub memory_determined : {types : Types} {pointer place : PathTree} {old new other : State} → SwapsMemory types pointer place old new → SwapsMemory types pointer place old other → new ≡ other
memory_determined {types} {pointer} {place} {old} {new} {other} a b =
    let block = same_address (same_some a.points b.points) in
    let target = same_target (same_some a.of_target b.of_target) in
    let x = same_live (same_some a.in_cell (ap (cell_at old.cells) block ∙ b.in_cell)) in
    let y = same_some a.at_place b.at_place in
    a.after
    ∙ ap₂ (λ n t. record old { cells = with_cell old.cells n (Live t a.y); store = with_value_at old.store place a.x }) block target
    ∙ ap₂ (λ u v. record old { cells = with_cell old.cells b.block (Live b.target u); store = with_value_at old.store place v }) y x
    ∙ sym b.after

pub memory_back : {types : Types} {pointer place : PathTree} {old new : State} → SwapsMemory types pointer place old new → SwapsMemory types pointer place new old
memory_back {types} {pointer} {place} {old} {new} a =
    let store_is : new.store ≡ with_value_at old.store place a.x = ap (λ (s : State). s.store) a.after in
    let cells_are : new.cells ≡ with_cell old.cells a.block (Live a.target a.y) = ap (λ (s : State). s.cells) a.after in
    record {
      block = a.block;
      target = a.target;
      x = a.y;
      y = a.x;
      points = ap (λ s. value_at s pointer) store_is ∙ value_other old.store place pointer a.y (Address a.block) a.x a.at_place a.points (overlap-sym place pointer ∙ a.apart);
      of_target = a.of_target;
      in_cell = ap (λ c. cell_at c a.block) cells_are ∙ cell_put old.cells a.block (Live a.target a.y) (Live a.target a.x) a.in_cell;
      at_place = ap (λ s. value_at s place) store_is ∙ value_put old.store place a.y a.x a.at_place;
      apart = a.apart;
      after = same_state (sym (ap (λ (s : State). s.head) a.after))
          (sym (ap (λ c. with_cell c a.block (Live a.target a.x)) cells_are ∙ cell_twice old.cells a.block (Live a.target a.y) (Live a.target a.x) ∙ cell_back old.cells a.block (Live a.target a.x) a.in_cell))
          (sym (ap (λ s. with_value_at s place a.y) store_is ∙ value_twice old.store place a.y a.x a.y a.at_place ∙ value_back old.store place a.y a.at_place));
    }

-- the block that is taken, and the state before it
pub takes_determined : {setting : Setting} {to : WrittenTree} {block other : ℕ} {old new last : State} → Takes setting to block old new → Takes setting to other old last
    → (block ≡ other) × (new ≡ last)
takes_determined {setting} {to} {block} {other} {old} {new} {last} a b =
    let same : block ≡ other = sym a.first ∙ b.first in
    let next = same_link (some_value (sym a.is_free ∙ (ap (cell_at old.cells) same ∙ b.is_free))) in
    let target = same_some a.numbered b.numbered in
    let cleared = same_some a.is_zero (ap (zero_of_target setting) target ∙ b.is_zero) in (
      same,
      a.after
          ∙ ap₂ (λ n m. record old { head = m; cells = with_cell old.cells n (Live a.target a.cleared) }) same next
          ∙ ap₂ (λ t v. record old { head = b.next; cells = with_cell old.cells other (Live t v) }) target cleared
          ∙ sym b.after,
    )

pub taken_from : {setting : Setting} {to : WrittenTree} {block : ℕ} {old new : State} → Takes setting to block old new
    → old ≡ record new { head = block; cells = with_cell new.cells block (Free new.head) }
taken_from {setting} {to} {block} {old} {new} a =
    let head_is : new.head ≡ a.next = ap (λ (s : State). s.head) a.after in
    let cells_are : new.cells ≡ with_cell old.cells block (Live a.target a.cleared) = ap (λ (s : State). s.cells) a.after in
    same_state a.first
    (sym (ap₂ (λ c n. with_cell c block (Free n)) cells_are head_is
    ∙ cell_twice old.cells block (Live a.target a.cleared) (Free a.next)
    ∙ cell_back old.cells block (Free a.next) a.is_free))
    (sym (ap (λ (s : State). s.store) a.after))

pub takes_back : {setting : Setting} {to : WrittenTree} {block other : ℕ} {old last new : State} → block ≡ other → Takes setting to block old new → Takes setting to other last new → old ≡ last
takes_back {setting} {to} {block} {other} {old} {last} {new} same a b =
    taken_from a ∙ ap (λ n. record new { head = n; cells = with_cell new.cells n (Free new.head) }) same ∙ sym (taken_from b)

-- the block that is taken is not null
pub taken_is_block : {setting : Setting} {to : WrittenTree} {block : ℕ} {old new : State} → Takes setting to block old new → block ≢ 0
taken_is_block {setting} {to} {block} {old} {new} a null = none-some (Free a.next) (ap (cell_at old.cells) (sym null) ∙ a.is_free)

-- padded names
padded_once : (ty : Option Ty) (o x y : Option Value) → is_some x ≡ is_some y → IsPadded ty o x → IsPadded ty o y → x ≡ y
padded_once ty o None None live p q = refl
padded_once ty (Some v) (Some x) (Some y) live p q = ap Some (sym p ∙ q)
padded_once (Some ty) None (Some x) (Some y) live p q = ap Some (p ∙ sym q)
padded_once None None (Some x) (Some y) live p q = absurd p
padded_once ty o None (Some y) live p q = contradiction {test = true} refl (sym live)
padded_once ty o (Some x) None live p q = contradiction {test = true} refl live

pub pads_determined : {types : Types} {stmts : StmtTree} {old new other : State} → Pads types stmts old new → Pads types stmts old other → new ≡ other
pads_determined {types} {stmts} {old} {new} {other} a b =
    same_state (sym a.head ∙ b.head) (sym a.cells ∙ b.cells)
    (fun_ext (λ name. padded_once (types name) (old.store name) (new.store name) (other.store name) (ap (λ (live : Names). live name) (a.after ∙ sym b.after)) (a.padded name) (b.padded name)))

padded_back : (ty : Option Ty) (x y : Option Value) → IsPadded ty x y → IsPadded ty y x
padded_back ty None None p = p
padded_back ty (Some x) (Some y) p = sym p
padded_back (Some ty) None (Some y) p = p
padded_back (Some ty) (Some x) None p = p
padded_back None None (Some y) p = absurd p
padded_back None (Some x) None p = absurd p

pub pads_back : {types : Types} {stmts : StmtTree} {old new : State} → Pads types stmts old new → Pads types (reverse_of stmts) new old
pads_back {types} {stmts} {old} {new} a = record {
  head = sym a.head;
  cells = sym a.cells;
  after = a.before ∙ sym (live_after-reverse_of true stmts (live_names new.store));
  before = a.after ∙ sym (live_after-reverse_of false stmts (live_names old.store));
  padded = λ name. padded_back (types name) (old.store name) (new.store name) (a.padded name);
}
