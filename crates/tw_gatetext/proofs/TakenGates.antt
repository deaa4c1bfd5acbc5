-- Gate lines that were taken one after the other.
use Rattle.std.proofs.Common.{◌≡◌, subst, ℕ, ◌+◌, ◌*◌, ◌≤◌, List, [], ◌∷◌, ◌++◌, length, ◌⊎◌, inl, inr, refl, arith, add_assoc}
use Rattle.std.proofs.lemmas.List.{length_push}
use Rattle.tw_gate.specs.Gates.{PlainGate}
use Rattle.tw_gate.specs.Weight.{gate_weight, t_count}
use Rattle.tw_gate.proofs.Inverse.{t_count-append}
use Rattle.tw_gatetext.specs.Text.{HasFewControls}
use Rattle.tw_gatetext.specs.Lines.{Head, InBody, StepsTo, Reaches, Line}
use Rattle.tw_gatetext.specs.Refused.{IsRefusedText}
use Rattle.tw_gatetext.specs.Reading.{IsRefusedLine}
use Rattle.tw_gatetext.specs.declared.file.GateFault.{GateFault}
use Rattle.tw_gatetext.specs.declared.file.GateFault.TheVariants as fault
use Rattle.tw_gatetext.proofs.Bounds.{gate_weight-le}
use Rattle.tw_gatetext.proofs.HeaderLines.{refused_after}

-- This number of gate lines after a header was taken: these gates, of this T-count. This suffix of the bytes is left.
pub record HasTaken (head : Head) (bytes : List ℕ) (lines : ℕ) (gates : List PlainGate) (count : ℕ) (rest : List ℕ) : Type 0 where
  pub chain : (all : List ℕ) → Reaches all 5 (InBody head []) bytes → Reaches all (5 + lines) (InBody head gates) rest
  pub each : length gates ≡ lines
  pub counted : count ≡ t_count gates
  pub small : count ≤ 875 * lines

pub taken-none : (head : Head) (bytes : List ℕ) (gates : List PlainGate) → gates ≡ [] → HasTaken head bytes 0 gates 0 bytes
taken-none head bytes gates none = rw none (record { chain = λ all chain. chain; each = refl; counted = refl; small = omega arith })

taken_push : (head : Head) (bytes : List ℕ) (lines : ℕ) (gates : List PlainGate) (count : ℕ) (rest : List ℕ) (gate : PlainGate) (weight : ℕ) (behind : List ℕ) → HasTaken head bytes lines gates count rest
    → StepsTo (InBody head gates) rest (InBody head (gates ++ gate ∷ [])) behind → weight ≡ gate_weight gate → HasFewControls gate → HasTaken head bytes (lines + 1) (gates ++ gate ∷ []) (count + weight) behind
taken_push head bytes lines gates count rest gate weight behind so step weighs few =
    record {
      chain = λ all chain. subst (λ (k : ℕ). Reaches all k (InBody head (gates ++ gate ∷ [])) behind) (add_assoc 5 lines 1) (Line (5 + lines) (InBody head gates) rest _ behind (so.chain all chain) step);
      each = omega (arith, length_push gates gate, so.each);
      counted = omega (arith, t_count-append gates (gate ∷ []), so.counted);
      small = omega (arith, gate_weight-le gate few, so.small);
    }

-- one more gate was taken
pub taken-more : (head : Head) (bytes : List ℕ) (lines : ℕ) (gates : List PlainGate) (count : ℕ) (rest : List ℕ) (after : List PlainGate) (weight : ℕ) (behind : List ℕ) → HasTaken head bytes lines gates count rest
    → StepsTo (InBody head gates) rest (InBody head after) behind → ((gate : PlainGate) × (after ≡ gates ++ gate ∷ []) × (weight ≡ gate_weight gate) × HasFewControls gate)
    → HasTaken head bytes (lines + 1) after (count + weight) behind
taken-more head bytes lines gates count rest after weight behind so step taken =
    rw taken.1 (taken_push head bytes lines gates count rest taken.0 weight behind so (rw taken.1 at step) taken.2 taken.3)

-- the T-count of the gates so far and one more is bounded
pub taken-small : (head : Head) (bytes : List ℕ) (lines : ℕ) (gates : List PlainGate) (count : ℕ) (rest : List ℕ) (after : List PlainGate) (weight : ℕ) → HasTaken head bytes lines gates count rest
    → ((gate : PlainGate) × (after ≡ gates ++ gate ∷ []) × (weight ≡ gate_weight gate) × HasFewControls gate) → count + weight ≤ 875 * (lines + 1)
taken-small head bytes lines gates count rest after weight so taken = omega (arith, gate_weight-le taken.0 taken.3, so.small, taken.2)

-- the next line is refused
pub taken-wrong : (head : Head) (bytes : List ℕ) (lines : ℕ) (gates : List PlainGate) (count : ℕ) (rest : List ℕ) (why : GateFault) → HasTaken head bytes lines gates count rest
    → IsRefusedLine (InBody head gates) rest (6 + lines) why → (all : List ℕ) → Reaches all 5 (InBody head []) bytes → IsRefusedText all why
taken-wrong head bytes lines gates count rest why so refused all chain =
    refused_after all (5 + lines) (InBody head gates) rest why (so.chain all chain) (subst (λ (line : ℕ). IsRefusedLine (InBody head gates) rest line why) (omega arith) refused)

-- the next line was not taken: out of memory, or it is refused
pub taken-refused : (head : Head) (bytes : List ℕ) (lines : ℕ) (gates : List PlainGate) (count : ℕ) (rest : List ℕ) (why : GateFault) → HasTaken head bytes lines gates count rest
    → (why ≡ fault.Memory) ⊎ IsRefusedLine (InBody head gates) rest (6 + lines) why → (all : List ℕ) → Reaches all 5 (InBody head []) bytes → (why ≡ fault.Memory) ⊎ IsRefusedText all why
taken-refused head bytes lines gates count rest why so (inl memory) all chain = inl memory
taken-refused head bytes lines gates count rest why so (inr refused) all chain = inr (taken-wrong head bytes lines gates count rest why so refused all chain)
