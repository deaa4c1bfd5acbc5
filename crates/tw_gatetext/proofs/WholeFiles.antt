-- The chains of right lines to a whole file are the valid files.
use Rattle.std.proofs.Common.{◌≡◌, ◌∙◌, ap, sym, subst, subst₂, ℕ, ◌+◌, ◌<◌, ◌≤◌, ◌^◌, List, [], ◌∷◌, ◌++◌, length, codes, decimal, refl, arith, append_assoc, append-nil}
use Rattle.std.specs.List.{AllByRecursion}
use Rattle.std.proofs.lemmas.List.{append_cancel_left, length_push}
use Rattle.tw_text.proofs.Decimals.{digit_run-decimal}
use Rattle.tw_gate.specs.declared.gate.Level.{Level}
use Rattle.tw_gate.specs.Gates.{PlainGate}
use Rattle.tw_gate.specs.Weight.{t_count}
use Rattle.tw_gatetext.specs.Text.{File, level_word, line, lines, last_line, header, file_text}
use Rattle.tw_gatetext.specs.TakingLaws.{lines-append}
use Rattle.tw_gatetext.specs.Valid.{FitsLevel, FitsWires, IsValid}
use Rattle.tw_gatetext.specs.Files.{BeginsWith}
use Rattle.tw_gatetext.specs.Numerals.{IsNumeral, Word}
use Rattle.tw_gatetext.specs.Lines.{Head, Progress, AtVersion, AtLevel, AtWires, AtGates, AtTCount, InBody, Whole, IsBodyLine, OfGate, Last, IsRight, Reaches, Start, Line}
use Rattle.tw_gatetext.proofs.OneToOne.{header-nested}
use Rattle.tw_gatetext.proofs.Bounds.{small_header}
use Rattle.tw_gatetext.proofs.RightLines.{valued}
use Rattle.tw_gatetext.proofs.DigitRuns.{numeral-read}
use Rattle.tw_gatetext.proofs.Chains.{sound}

-- the text up to the line of a keyword and a value
abbrev valued_line : List ℕ → List ℕ → List ℕ → List ℕ
valued_line before word value = before ++ (word ++ (value ++ codes "\n"))

-- the text up to the number of wires, to the number of gates, and up to the T-count
abbrev to_wires : Level → ℕ → List ℕ
to_wires level wires = valued_line (valued_line (codes "tower-gates 1\n") (codes "level ") (level_word level)) (codes "wires ") (decimal wires)

abbrev to_gates : Level → ℕ → ℕ → List ℕ
to_gates level wires gates = valued_line (to_wires level wires) (codes "gates ") (decimal gates)

abbrev to_body : Head → List PlainGate → List ℕ
to_body head gates = valued_line (to_gates head.level head.wires head.gates) (codes "t-count ") head.t_count ++ lines gates

-- the text of the lines so far
abbrev told : Progress → List ℕ
told AtVersion = []
told AtLevel = codes "tower-gates 1\n"
told (AtWires level) = valued_line (codes "tower-gates 1\n") (codes "level ") (level_word level)
told (AtGates level wires) = to_wires level wires
told (AtTCount level wires gates) = to_gates level wires gates
told (InBody head gates) = to_body head gates
told (Whole head gates) = to_body head gates ++ last_line

joined : (a b c : List ℕ) → a ++ (b ++ (c ++ [])) ≡ (a ++ b) ++ c
joined a b c = simp (append_assoc, append-nil)

told_body : (head : Head) (gates : List PlainGate) (text : List ℕ) (next : Progress) → IsBodyLine head gates text next → told next ≡ told (InBody head gates) ++ text
told_body head gates text next (OfGate gate more level wires is comes) =
    let begun = valued_line (to_gates head.level head.wires head.gates) (codes "t-count ") head.t_count in
    ap told comes ∙ ap (λ (t : List ℕ). begun ++ t) (lines-append gates (gate ∷ [])) ∙ joined begun (lines gates) (line gate) ∙ ap (λ (t : List ℕ). to_body head gates ++ t) (sym is)
told_body head gates text next (Last all is comes) = rw (comes, is) refl

told_step : (progress : Progress) (text : List ℕ) (next : Progress) → IsRight progress text next → told next ≡ told progress ++ text
told_step AtVersion text next right = rw (right.1, right.0) refl
told_step AtLevel text next right = rw (right.2, right.1) refl
told_step (AtWires level) text next right = rw (right.4, right.3) refl
told_step (AtGates level wires) text next right = rw (right.3, right.2) refl
told_step (AtTCount level wires gates) text next right = rw (right.3, right.2, append-nil) refl
told_step (InBody head gates) text next right = told_body head gates text next right
told_step (Whole head gates) text next right = absurd right

told_chain : (bytes : List ℕ) (count : ℕ) (at : Progress) (rest : List ℕ) → Reaches bytes count at rest → bytes ≡ told at ++ rest
told_chain bytes count at rest Start = refl
told_chain bytes count at rest (Line before progress behind next after chain step) =
    told_chain bytes before progress behind chain
    ∙ ap (λ (t : List ℕ). told progress ++ t) step.parts
    ∙ sym (append_assoc (told progress) step.text after)
    ∙ ap (λ (t : List ℕ). t ++ after) (sym (told_step progress step.text next step.right))

-- the file of a header and gates
abbrev pub file_of : Head → List PlainGate → File
file_of head gates = record { level = head.level; wires = head.wires; t_count = t_count gates; gates = gates }

flat : (version word_1 a word_2 b word_3 c word_4 d all end rest : List ℕ)
    → (((valued_line (valued_line (valued_line (valued_line version word_1 a) word_2 b) word_3 c) word_4 d) ++ all) ++ end) ++ rest
    ≡ version ++ (word_1 ++ (a ++ (codes "\n" ++ (word_2 ++ (b ++ (codes "\n" ++ (word_3 ++ (c ++ (codes "\n" ++ (word_4 ++ (d ++ (codes "\n" ++ ((all ++ end) ++ rest)))))))))))))
flat version word_1 a word_2 b word_3 c word_4 d all end rest = simp append_assoc

told-file : (head : Head) (gates : List PlainGate) (rest : List ℕ) → length gates ≡ head.gates → head.t_count ≡ decimal (t_count gates)
    → told (Whole head gates) ++ rest ≡ file_text (file_of head gates) ++ rest
unfolding file_text
told-file head gates rest all counted = rw (← all, counted)
    (flat (codes "tower-gates 1\n") (codes "level ") (level_word head.level) (codes "wires ") (decimal head.wires) (codes "gates ") (decimal (length gates)) (codes "t-count ") (decimal (t_count gates)) (lines gates) last_line rest
    ∙ sym (header-nested head.level head.wires (length gates) (t_count gates) ((lines gates ++ last_line) ++ rest))
    ∙ sym (append_assoc (header head.level head.wires (length gates) (t_count gates)) (lines gates ++ last_line) rest))

pub reaches_file : (bytes : List ℕ) (count : ℕ) (head : Head) (gates : List PlainGate) (rest : List ℕ) → Reaches bytes count (Whole head gates) rest → head.t_count ≡ decimal (t_count gates)
    → BeginsWith bytes (file_of head gates) rest
reaches_file bytes count head gates rest chain counted =
    let whole = sound bytes count (Whole head gates) rest chain in
    let limits = whole.0.limits in
    record {
      valid = record {
        some_wires = limits.some_wires;
        few_wires = limits.few_wires;
        few_gates = omega (arith, limits.few_gates, whole.1);
        fit_level = whole.0.level;
        fit_wires = whole.0.wires;
        counted = refl;
      };
      text = told_chain bytes count (Whole head gates) rest chain ∙ told-file head gates rest whole.1 counted;
    }

-- the parts of the text of a file: its header, then the lines of its gates, then the rest
pub text_parts : (bytes : List ℕ) (n : ℕ) (head : Head) (gates : List PlainGate) (behind end rest : List ℕ) (sum : ℕ) → Reaches bytes 5 (InBody head []) behind → Reaches bytes n (InBody head gates) end → end ≡ last_line ++ rest
    → BeginsWith bytes (record { level = head.level; wires = head.wires; t_count = sum; gates = gates }) rest
    → (bytes ≡ header head.level head.wires (length gates) sum ++ behind) × (behind ≡ lines gates ++ end)
unfolding file_text
text_parts bytes n head gates behind end rest sum first chain last begins =
    let begun = valued_line (to_gates head.level head.wires head.gates) (codes "t-count ") head.t_count in
    let short : bytes ≡ begun ++ behind = told_chain bytes 5 (InBody head []) behind first ∙ ap (λ (t : List ℕ). t ++ behind) (append-nil begun) in
    let long : bytes ≡ begun ++ (lines gates ++ end) = told_chain bytes n (InBody head gates) end chain ∙ append_assoc begun (lines gates) end in
    let split : behind ≡ lines gates ++ end = append_cancel_left begun behind (lines gates ++ end) (sym short ∙ long) in
    let head_text = header head.level head.wires (length gates) sum in (
      begins.text ∙ append_assoc head_text (lines gates ++ last_line) rest
          ∙ ap (λ (t : List ℕ). head_text ++ t) (append_assoc (lines gates) last_line rest ∙ ap (λ (t : List ℕ). lines gates ++ t) (sym last) ∙ sym split),
      split,
    )

-- the same, with the sum of the T-counts
pub reaches_file_with : (bytes : List ℕ) (count : ℕ) (head : Head) (sum : ℕ) (gates : List PlainGate) (rest : List ℕ) → Reaches bytes count (Whole head gates) rest → head.t_count ≡ decimal (t_count gates) → sum ≡ t_count gates
    → BeginsWith bytes (record { level = head.level; wires = head.wires; t_count = sum; gates = gates }) rest
reaches_file_with bytes count head sum gates rest chain counted is =
    subst (λ (t : ℕ). BeginsWith bytes (record { level = head.level; wires = head.wires; t_count = t; gates = gates }) rest) (sym is) (reaches_file bytes count head gates rest chain counted)

IsNumeral-decimal : (n : ℕ) → n < 2 ^ 64 → IsNumeral (decimal n)
IsNumeral-decimal n small =
    let run = digit_run-decimal n 10 [] small refl in
    numeral-read (decimal n ++ codes "\n") (decimal n) n (sym run) (Word small run)

-- one more right line
more : (bytes : List ℕ) (count : ℕ) (at : Progress) (behind text rest : List ℕ) (next : Progress) → behind ≡ text ++ rest → IsRight at text next → Reaches bytes count at behind
    → Reaches bytes (count + 1) next rest
more bytes count at behind text rest next parts right chain = Line count at behind next rest chain (record { text = text; parts = parts; right = right })

-- the lines of gates
more_gates : (bytes : List ℕ) (m n : ℕ) (head : Head) (done gates : List PlainGate) (behind rest : List ℕ) → n ≡ m + length gates → behind ≡ lines gates ++ rest
    → AllByRecursion (FitsLevel head.level) gates → AllByRecursion (FitsWires head.wires) gates → length done + length gates ≤ head.gates → Reaches bytes m (InBody head done) behind
    → Reaches bytes n (InBody head (done ++ gates)) rest
more_gates bytes m n head done [] behind rest count parts level wires few chain =
    let same : m ≡ n = omega arith in
    subst₂ (λ (k : ℕ) (gs : List PlainGate). Reaches bytes k (InBody head gs) rest) same (sym (append-nil done)) (subst (λ (b : List ℕ). Reaches bytes m (InBody head done) b) parts chain)
more_gates bytes m n head done (gate ∷ gates) behind rest count parts level wires few chain =
    let step = more bytes m (InBody head done) behind (line gate) (lines gates ++ rest) (InBody head (done ++ gate ∷ [])) (parts ∙ append_assoc (line gate) (lines gates) rest)
    (OfGate gate (omega arith) level.0 wires.0 refl refl) chain in
    let others = more_gates bytes (m + 1) n head (done ++ gate ∷ []) gates (lines gates ++ rest) rest (omega arith) refl level.1 wires.1 (omega (arith, length_push done gate)) step in
    subst (λ (gs : List PlainGate). Reaches bytes n (InBody head gs) rest) (append_assoc done (gate ∷ []) gates) others

-- the values of the header lines of a file
abbrev pub head_of : File → Head
head_of file = record { level = file.level; wires = file.wires; gates = length file.gates; t_count = decimal file.t_count }

-- a line of a keyword and a value, and the rest
valued_front : (word value rest : List ℕ) → word ++ (value ++ (codes "\n" ++ rest)) ≡ (word ++ (value ++ codes "\n")) ++ rest
valued_front word value rest = sym (valued word value _ rest refl)

header_reaches : (bytes : List ℕ) (file : File) (rest : List ℕ) → IsValid file → bytes ≡ header file.level file.wires (length file.gates) file.t_count ++ rest → Reaches bytes 5 (InBody (head_of file) []) rest
header_reaches bytes file rest valid is =
    let parts = is ∙ header-nested file.level file.wires (length file.gates) file.t_count rest in
    let small = (small_header file valid).t_count in
    let version = more bytes 0 AtVersion bytes (codes "tower-gates 1\n") _ AtLevel parts (refl, refl) Start in
    let level = more bytes 1 AtLevel _ _ _ (AtWires file.level) (valued_front (codes "level ") (level_word file.level) _) (file.level, refl, refl) version in
    let wires = more bytes 2 (AtWires file.level) _ _ _ (AtGates file.level file.wires) (valued_front (codes "wires ") (decimal file.wires) _)
    (file.wires, valid.some_wires, valid.few_wires, refl, refl) level in
    let gates = more bytes 3 (AtGates file.level file.wires) _ _ _ (AtTCount file.level file.wires (length file.gates)) (valued_front (codes "gates ") (decimal (length file.gates)) _)
    (length file.gates, valid.few_gates, refl, refl) wires in
    more bytes 4 (AtTCount file.level file.wires (length file.gates)) _ _ _ (InBody (head_of file) []) (valued_front (codes "t-count ") (decimal file.t_count) rest)
    (decimal file.t_count, IsNumeral-decimal file.t_count small, refl, refl) gates

pub file_reaches : (bytes : List ℕ) (file : File) (rest : List ℕ) → BeginsWith bytes file rest → Reaches bytes (length file.gates + 6) (Whole (head_of file) file.gates) rest
unfolding file_text
file_reaches bytes file rest begins =
    let valid = begins.valid in
    let behind = (lines file.gates ++ last_line) ++ rest in
    let head = header_reaches bytes file behind valid (begins.text ∙ append_assoc (header file.level file.wires (length file.gates) file.t_count) (lines file.gates ++ last_line) rest) in
    let body = more_gates bytes 5 (length file.gates + 5) (head_of file) [] file.gates behind (last_line ++ rest) (omega arith) (append_assoc (lines file.gates) last_line rest)
    valid.fit_level valid.fit_wires (omega arith) head in
    let all = more bytes (length file.gates + 5) (InBody (head_of file) file.gates) (last_line ++ rest) last_line rest (Whole (head_of file) file.gates) refl (Last refl refl refl) body in
    subst (λ (k : ℕ). Reaches bytes k (Whole (head_of file) file.gates) rest) (omega arith) all
