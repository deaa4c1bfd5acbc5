-- What a sink that is lent to a taker of gates took.
use Rattle.std.specs.Prelude.{◌≡◌, ℕ, List, [], ◌∷◌, Option, Some, codes, refl}
use Rattle.std.specs.Fmt.{digits}
use Rattle.std.specs.Borrow.{MutBor}
use Rattle.tw_io.specs.Devices.{Appends, AppendsPrefix}
use Rattle.tw_gate.specs.Gates.{PlainGate, H, HasWiresBelow}
use Rattle.tw_text.specs.declared.limits.TheConstants.{WIRES_LIMIT}
use Rattle.tw_gatetext.specs.Text.{lines, HasFewControls}

-- a gate that a file may have on some number of wires: its controls and its wires are within their limits
pub record FitsLine (gate : PlainGate) : Type 0 where
  pub few : HasFewControls gate
  pub low : HasWiresBelow WIRES_LIMIT gate

-- the sink took the lines of these gates, and is the sink that was lent
pub record TookLines {K : Type 0} (taken : K → Option (List ℕ)) (old new : MutBor K) (gates : List PlainGate) : Type 0 where
  pub same_sink : new.ghost_name ≡ old.ghost_name
  pub whole : Appends (taken old.now) (taken new.now) (lines gates)

-- the sink took a prefix of the lines of these gates, and is the sink that was lent
pub record BrokeLines {K : Type 0} (taken : K → Option (List ℕ)) (old new : MutBor K) (gates : List PlainGate) : Type 0 where
  pub same_sink : new.ghost_name ≡ old.ghost_name
  pub front : AppendsPrefix (taken old.now) (taken new.now) (lines gates)

-- a sink took the line of a gate
pub TookLines-one : (sink : MutBor (List ℕ)) → TookLines Some (record sink { now = codes "x 1\n" }) (record sink { now = codes "x 1\nh 2\n" }) (H 2 ∷ [])
unfolding digits
TookLines-one sink = record { same_sink = refl; whole = refl }

-- a sink took two bytes of the line of a gate
pub BrokeLines-two : (sink : MutBor (List ℕ)) → BrokeLines Some (record sink { now = codes "x 1\n" }) (record sink { now = codes "x 1\nh " }) (H 2 ∷ [])
unfolding digits
BrokeLines-two sink = record {
  same_sink = refl;
  front = record { prefix = codes "h "; suffix = codes "2\n"; split = refl; taken = refl };
}
