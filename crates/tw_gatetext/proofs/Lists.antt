-- How the pieces of a line and of a file are concatenated.
use Rattle.std.proofs.Math.Seq.{take-append_seam}
use Rattle.std.proofs.Common.{◌≡◌, ◌≤◌, ◌-◌, ◌∙◌, ap, arith, take, length-append, ℕ, List, [], ◌∷◌, ◌++◌, length, decimal, codes, Option, Result, Ok, Err, refl, append_assoc, append-nil}
use Rattle.std.specs.List.{AllByRecursion}
use Rattle.tw_io.specs.declared.device.WriteFault.{WriteFault}
use Rattle.tw_io.specs.Devices.{Wrote}
use Rattle.tw_io.proofs.Devices.{wrote_then, wrote_prefix, wrote_none}
use Rattle.tw_gate.specs.Gates.{PlainGate, X}
use Rattle.tw_gatetext.specs.declared.file.GateFile.{GateFile}
use Rattle.tw_gatetext.specs.Files.{plain_file}
use Rattle.tw_gatetext.specs.Text.{x_words, spaced, line, lines, header, last_line, file_text}

-- a property of all elements of a list and of one more is a property of all elements of the longer list
pub all_push : {X : Type 0} (P : X → Type 0) (xs : List X) (x : X) → AllByRecursion P xs → P x → AllByRecursion P (xs ++ x ∷ [])
all_push P [] x all last = (last, tt)
all_push P (y ∷ xs) x all last = (all.0, all_push P xs x all.1 last)

-- the front of a text, by the length of the rest
pub front_part : (text front rest : List ℕ) → text ≡ front ++ rest → take (length text - length rest) text ≡ front
front_part text front rest is =
    let size : length text - length rest ≡ length front = omega (arith, ap length is, length-append front rest) in
    ap (λ (n : ℕ). take n text) size ∙ ap (take (length front)) is ∙ take-append_seam front rest

pub rest_fits : (text front rest : List ℕ) → text ≡ front ++ rest → length rest ≤ length text
rest_fits text front rest is = omega (arith, ap length is, length-append front rest)

pub spaced-append : (xs ys : List ℕ) → spaced (xs ++ ys) ≡ spaced xs ++ spaced ys
spaced-append [] ys = refl
spaced-append (x ∷ xs) ys = rw (spaced-append xs ys) (simp append_assoc)

-- the bytes that the line of an X gate is composed of, after those that were there
pub x_line-pushed : (controls : List ℕ) (target : ℕ) (start begun all : List ℕ) → begun ≡ start ++ (x_words (length controls) ++ spaced controls) → all ≡ (begun ++ (codes " " ++ decimal target)) ++ codes "\n" → all ≡ start ++ line (X controls target)
x_line-pushed controls target start begun all words pushed = pushed ∙ rw (words, spaced-append controls (target ∷ [])) (simp (append_assoc, append-nil))

-- if the first gate was written whole, the outcome for the others is the outcome for all
pub gate_then : {K : Type 0} (taken : K → Option (List ℕ)) (faults : K → ℕ) (a b c : K) (result : Result (Unit {0}) WriteFault) (gates : List PlainGate) (first : PlainGate) (others : List PlainGate) → gates ≡ first ∷ others
    → Wrote taken faults a b (Ok tt) (line first) → Wrote taken faults b c result (lines others) → Wrote taken faults a c result (lines gates)
gate_then taken faults a b c result gates first others split wrote later = rw split (wrote_then taken faults a b c result (line first) (lines others) wrote later)

-- a break in the first gate is a break in the lines of all
pub gate_broke : {K : Type 0} (taken : K → Option (List ℕ)) (faults : K → ℕ) (a b : K) (fault : WriteFault) (gates : List PlainGate) (first : PlainGate) (others : List PlainGate) → gates ≡ first ∷ others
    → Wrote taken faults a b (Err fault) (line first) → Wrote taken faults a b (Err fault) (lines gates)
gate_broke taken faults a b fault gates first others split wrote = rw split (wrote_prefix taken faults a b fault (line first) (lines others) wrote)

pub gates_done : {K : Type 0} (taken : K → Option (List ℕ)) (faults : K → ℕ) (a : K) (gates : List PlainGate) → gates ≡ [] → Wrote taken faults a a (Ok tt) (lines gates)
gates_done taken faults a gates none = rw none (wrote_none taken faults a)

-- the pieces of the text of a file in memory, whose gates are counted first
pub listed_file_text : (file : GateFile) (count : ℕ) → count ≡ length file.gates → file_text (plain_file file) ≡ header file.level file.wires count file.t_count ++ (lines file.gates ++ last_line)
unfolding file_text
listed_file_text file count counted = rw counted refl
