-- How gates that are given one after the other join, by the laws of a taker.
use Rattle.std.proofs.Common.{◌≡◌, ◌↔◌, sym, subst, ℕ, Bool, true, false, List, [], ◌∷◌, ◌++◌, Result, Ok, Err, arith}
use Rattle.std.specs.List.{AllByRecursion}
use Rattle.tw_gate.specs.declared.out.Stopped.{Stopped}
use Rattle.tw_gate.specs.Gates.{PlainGate}
use Rattle.tw_gate.specs.Taking.{Gave}
use Rattle.tw_gate.proofs.Taking.{gave_none, gave_then, gave_prefix}
use Rattle.tw_code.specs.Trees.{CodeTree, WithCode, ConjCode}
use Rattle.tw_code.specs.Emission.{emitted, CanTake}
use Rattle.tw_code.proofs.Lists.{all_prefix, all_suffix}

-- what gives the rest from the second state on gives the whole from the first state on
abbrev pub Completes : {O : Type 0} → (O → O → List PlainGate → Type 0) → (O → O → List PlainGate → Type 0) → (O → ℕ) → O → O → List PlainGate → List PlainGate → Type 0
Completes {O} took broke faults start now rest whole = (end : O) (result : Result (Unit {0}) Stopped) → Gave took broke faults now end result rest → Gave took broke faults start end result whole

module _ {O : Type 0} {took broke : O → O → List PlainGate → Type 0} {faults : O → ℕ}
    (both : (a b c : O) (xs ys : List PlainGate) → took a b xs → took b c ys → took a c (xs ++ ys))
    (later : (a b c : O) (xs ys : List PlainGate) → took a b xs → broke b c ys → broke a c (xs ++ ys)) where
  -- the next gates were taken
  pub completes_next : (start now next : O) (first left rest whole : List PlainGate) → left ≡ first ++ rest → Completes took broke faults start now left whole → Gave took broke faults now next (Ok tt) first
      → Completes took broke faults start next rest whole
  completes_next start now next first left rest whole e completes gave end result after =
      completes end result (subst (Gave took broke faults now end result) (sym e) (gave_then both later gave after))

module _ {O : Type 0} {took broke : O → O → List PlainGate → Type 0} {faults : O → ℕ} (none : (a : O) → took a a []) where
  -- no gates are left
  pub completes_all : (start now : O) (left whole : List PlainGate) → left ≡ [] → Completes took broke faults start now left whole → Gave took broke faults start now (Ok tt) whole
  completes_all start now left whole e completes = completes now (Ok tt) (subst (Gave took broke faults now now (Ok tt)) (sym e) (gave_none none now))

module _ {O : Type 0} {took broke : O → O → List PlainGate → Type 0} {faults : O → ℕ}
    (longer : (a b : O) (xs ys : List PlainGate) → broke a b xs → broke a b (xs ++ ys)) where
  -- the taker stopped in the next gates
  pub completes_stop : (start now next : O) (stop : Stopped) (first left rest whole : List PlainGate) → left ≡ first ++ rest → Completes took broke faults start now left whole
      → Gave took broke faults now next (Err stop) first → Gave took broke faults start next (Err stop) whole
  completes_stop start now next stop first left rest whole e completes gave =
      completes next (Err stop) (subst (Gave took broke faults now next (Err stop)) (sym e) (gave_prefix longer rest gave))

module _ {O : Type 0} (took : O → O → List PlainGate → Type 0) (fits : O → PlainGate → Type 0)
    (stays : (a b : O) (xs : List PlainGate) (gate : PlainGate) → took a b xs → fits a gate ↔ fits b gate) where
  -- what a taker can take, it can take after it took other gates
  pub can_later : (a b : O) (xs ys : List PlainGate) (room same : ℕ) → same ≡ room → took a b xs → AllByRecursion (CanTake fits a room) ys → AllByRecursion (CanTake fits b same) ys
  can_later a b xs [] room same e taken all = tt
  can_later a b xs (gate ∷ ys) room same e taken all =
      ((omega (arith, all.0.0, e), (stays a b xs gate taken).0 all.0.1), can_later a b xs ys room same e taken all.1)

-- a property of the gates of a setup, a work and the setup undone is a property of the gates of each of the three
around : (P : PlainGate → Type 0) (xs ys zs : List PlainGate) → AllByRecursion P (xs ++ (ys ++ zs)) → AllByRecursion P xs × AllByRecursion P ys × AllByRecursion P zs
around P xs ys zs all =
    let others = all_suffix P xs (ys ++ zs) all in
    (all_prefix P xs (ys ++ zs) all, all_prefix P ys zs others, all_suffix P ys zs others)

pub with_parts : (P : PlainGate → Type 0) (code setup work : CodeTree) (backward : Bool) (present : List ℕ) → code ≡ WithCode setup work → AllByRecursion P (emitted code backward present)
    → AllByRecursion P (emitted setup false present) × AllByRecursion P (emitted work backward present) × AllByRecursion P (emitted setup true present)
with_parts P code setup work backward present is all =
    around P (emitted setup false present) (emitted work backward present) (emitted setup true present) (subst (λ (x : CodeTree). AllByRecursion P (emitted x backward present)) is all)

pub conj_parts : (P : PlainGate → Type 0) (code setup work : CodeTree) (backward : Bool) (present : List ℕ) → code ≡ ConjCode setup work → AllByRecursion P (emitted code backward present)
    → AllByRecursion P (emitted setup false []) × AllByRecursion P (emitted work backward present) × AllByRecursion P (emitted setup true [])
conj_parts P code setup work backward present is all =
    around P (emitted setup false []) (emitted work backward present) (emitted setup true []) (subst (λ (x : CodeTree). AllByRecursion P (emitted x backward present)) is all)
