-- Bytes that begin with a file: which file, its length, and that they are not refused.
use Rattle.std.proofs.Common.{◌≡◌, ◌≢◌, ◌∙◌, ap, sym, ℕ, ◌+◌, ◌-◌, ◌≤◌, List, length, drop, ◌⊎◌, inl, inr, arith, length-append}
use Rattle.std.proofs.Math.Seq.{drop-append_seam}
use Rattle.tw_gatetext.specs.declared.file.GateFault.{GateFault}
use Rattle.tw_gatetext.specs.declared.file.GateFault.TheVariants as fault
use Rattle.tw_gatetext.specs.Text.{File, file_text}
use Rattle.tw_gatetext.specs.Files.{BeginsWith}
use Rattle.tw_gatetext.specs.Refused.{IsRefusedText}
use Rattle.tw_gatetext.proofs.Bounds.{file_text-prefix_free}
use Rattle.tw_gatetext.proofs.Refusals.{no_file, one_refusal}

pub one_file : (bytes : List ℕ) (file other : File) (rest rest' : List ℕ) → BeginsWith bytes file rest → BeginsWith bytes other rest' → other ≡ file
one_file bytes file other rest rest' begins begins' =
    (file_text-prefix_free other file rest' rest begins'.valid begins.valid (sym begins'.text ∙ begins.text)).0

lengths : (bytes : List ℕ) (file : File) (rest : List ℕ) → BeginsWith bytes file rest → length bytes ≡ length (file_text file) + length rest
lengths bytes file rest begins = ap length begins.text ∙ length-append (file_text file) rest

pub shorter : (bytes : List ℕ) (file : File) (rest : List ℕ) → BeginsWith bytes file rest → length rest ≤ length bytes
shorter bytes file rest begins = omega (arith, lengths bytes file rest begins)

pub size : (bytes : List ℕ) (file : File) (rest : List ℕ) → BeginsWith bytes file rest → length bytes - length rest ≡ length (file_text file)
size bytes file rest begins = omega (arith, lengths bytes file rest begins)

-- the rest is the suffix after this number of bytes
pub dropped : (bytes : List ℕ) (file : File) (rest : List ℕ) → BeginsWith bytes file rest → BeginsWith bytes file (drop (length bytes - length rest) bytes)
dropped bytes file rest begins =
    let behind = ap (λ (n : ℕ). drop n bytes) (size bytes file rest begins) ∙ ap (drop (length (file_text file))) begins.text ∙ drop-append_seam (file_text file) rest in
    rw behind begins

-- if reading ends without a file and memory does not run out, the bytes are refused
refusal : (bytes : List ℕ) (why : GateFault) → (why ≡ fault.Memory) ⊎ IsRefusedText bytes why → why ≢ fault.Memory → IsRefusedText bytes why
refusal bytes why (inl memory) other = absurd (other memory)
refusal bytes why (inr refused) other = refused

pub stopped-no_file : (bytes : List ℕ) (why : GateFault) → (why ≡ fault.Memory) ⊎ IsRefusedText bytes why → why ≢ fault.Memory → (file : File) (rest : List ℕ) → ¬ BeginsWith bytes file rest
stopped-no_file bytes why stopped other file rest = no_file bytes why file rest (refusal bytes why stopped other)

pub stopped-one : (bytes : List ℕ) (why : GateFault) → (why ≡ fault.Memory) ⊎ IsRefusedText bytes why → why ≢ fault.Memory → (other : GateFault) → IsRefusedText bytes other → other ≡ why
stopped-one bytes why stopped no_memory other = one_refusal bytes why other (refusal bytes why stopped no_memory)
