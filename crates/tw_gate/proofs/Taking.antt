-- How calls that give gates to one taker join, by the taker's laws.
use Rattle.std.proofs.Common.{◌∙◌, refl, ℕ, List, [], ◌++◌, Result, Ok, Err, arith}
use Rattle.tw_gate.specs.declared.out.Stopped.{Stopped}
use Rattle.tw_gate.specs.Gates.{PlainGate}
use Rattle.tw_gate.specs.Taking.{Gave}

module _ {O : Type 0} {took broke : O → O → List PlainGate → Type 0} {faults : O → ℕ} where
  -- no gates are the empty list taken
  pub gave_none : ((a : O) → took a a []) → (a : O) → Gave took broke faults a a (Ok tt) []
  gave_none none a = record { whole = none a; broken = tt; cause = tt; steady = refl }

  -- if xs was taken, the outcome for ys is the outcome for both
  pub gave_then : ((a b c : O) (xs ys : List PlainGate) → took a b xs → took b c ys → took a c (xs ++ ys)) → ((a b c : O) (xs ys : List PlainGate) → took a b xs → broke b c ys → broke a c (xs ++ ys))
      → {a b c : O} {result : Result (Unit {0}) Stopped} {xs ys : List PlainGate} → Gave took broke faults a b (Ok tt) xs → Gave took broke faults b c result ys → Gave took broke faults a c result (xs ++ ys)
  gave_then both later {result = Ok u} first second = record {
    whole = both _ _ _ _ _ first.whole second.whole;
    broken = tt;
    cause = tt;
    steady = second.steady ∙ first.steady;
  }
  gave_then both later {result = Err e} first second = record {
    whole = tt;
    broken = later _ _ _ _ _ first.whole second.broken;
    cause = omega (arith, first.steady, second.cause);
    steady = tt;
  }

  -- a break in xs is a break in every longer list
  pub gave_prefix : ((a b : O) (xs ys : List PlainGate) → broke a b xs → broke a b (xs ++ ys))
      → {a b : O} {stop : Stopped} {xs : List PlainGate} (ys : List PlainGate) → Gave took broke faults a b (Err stop) xs → Gave took broke faults a b (Err stop) (xs ++ ys)
  gave_prefix longer ys first = record { whole = tt; broken = longer _ _ _ ys first.broken; cause = first.cause; steady = tt }
