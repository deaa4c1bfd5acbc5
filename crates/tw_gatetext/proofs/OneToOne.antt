-- The text of a file determines the file, and no text is a proper prefix of another.
use Rattle.std.proofs.Common.{◌≡◌, ◌∙◌, ap, sym, ℕ, List, [], ◌∷◌, ◌++◌, length, decimal, codes, if◌then◌else◌, refl, append_assoc}
use Rattle.std.specs.List.{AllByRecursion}
use Rattle.std.specs.Str.{bytes_eq}
use Rattle.tw_gate.specs.Gates.{PlainGate, X, H, T, Tdg}
use Rattle.tw_gate.specs.declared.gate.Level.{Level}
use Rattle.tw_gate.specs.declared.gate.Level.TheVariants as levels
use Rattle.std.proofs.lemmas.List.{append_cancel_left}
use Rattle.tw_gatetext.specs.Text.{File, x_words, spaced, line, lines, level_word, header, last_line, file_text}
use Rattle.tw_gatetext.specs.LineWords.{letters, numbers_of}
use Rattle.tw_gatetext.proofs.Delimited.{Lacks, Small, word-delimited, decimal_line-delimited, numbers-delimited}

pub line-letters : (gate : PlainGate) (xs : List ℕ) → line gate ++ xs ≡ letters gate ++ (spaced (numbers_of gate) ++ (codes "\n" ++ xs))
line-letters (X [] target) xs = simp append_assoc
line-letters (X (a ∷ []) target) xs = simp append_assoc
line-letters (X (a ∷ b ∷ []) target) xs = simp append_assoc
line-letters (X (a ∷ b ∷ c ∷ rest) target) xs =
    append_assoc (x_words (length (a ∷ b ∷ c ∷ rest))) (spaced (a ∷ b ∷ c ∷ (rest ++ target ∷ [])) ++ codes "\n") xs ∙ simp append_assoc
line-letters (H wire) xs = simp append_assoc
line-letters (T wire) xs = simp append_assoc
line-letters (Tdg wire) xs = simp append_assoc

-- no letter is a space
letters-lack : (gate : PlainGate) → Lacks 32 (letters gate)
letters-lack (X [] target) = (refl, tt)
letters-lack (X (a ∷ []) target) = (refl, (refl, tt))
letters-lack (X (a ∷ b ∷ []) target) = (refl, (refl, (refl, tt)))
letters-lack (X (a ∷ b ∷ c ∷ rest) target) = (refl, (refl, (refl, tt)))
letters-lack (H wire) = (refl, tt)
letters-lack (T wire) = (refl, tt)
letters-lack (Tdg wire) = (refl, (refl, (refl, tt)))

abbrev with_control : ℕ → PlainGate → PlainGate
with_control control (X controls target) = X (control ∷ controls) target
with_control control gate = gate

-- the X gate of its controls and its target
abbrev x_gate : List ℕ → PlainGate
x_gate [] = H 0
x_gate (n ∷ []) = X [] n
x_gate (n ∷ m ∷ rest) = with_control n (x_gate (m ∷ rest))

x_gate-controls : (controls : List ℕ) (target : ℕ) → x_gate (controls ++ target ∷ []) ≡ X controls target
x_gate-controls [] target = refl
x_gate-controls (a ∷ []) target = refl
x_gate-controls (a ∷ b ∷ controls) target = ap (with_control a) (x_gate-controls (b ∷ controls) target)

abbrev wire_of : List ℕ → ℕ
wire_of [] = 0
wire_of (n ∷ rest) = n

abbrev without_first : List ℕ → List ℕ
without_first [] = []
without_first (n ∷ rest) = rest

-- the gate of its letters and numbers
abbrev gate_of : List ℕ → List ℕ → PlainGate
gate_of word ns =
    if bytes_eq word (codes "h") then H (wire_of ns)
    else if bytes_eq word (codes "t") then T (wire_of ns)
    else if bytes_eq word (codes "tdg") then Tdg (wire_of ns)
    else if bytes_eq word (codes "mcx") then x_gate (without_first ns)
    else x_gate ns

gate_of-letters : (gate : PlainGate) → gate_of (letters gate) (numbers_of gate) ≡ gate
gate_of-letters (X [] target) = refl
gate_of-letters (X (a ∷ []) target) = refl
gate_of-letters (X (a ∷ b ∷ []) target) = refl
gate_of-letters (X (a ∷ b ∷ c ∷ rest) target) = x_gate-controls (a ∷ b ∷ c ∷ rest) target
gate_of-letters (H wire) = refl
gate_of-letters (T wire) = refl
gate_of-letters (Tdg wire) = refl

-- the letters and the numbers of a line determine its gate
pub gate-told : (gate other : PlainGate) → letters gate ≡ letters other → numbers_of gate ≡ numbers_of other → gate ≡ other
gate-told gate other word numbers = sym (gate_of-letters gate) ∙ rw (word, numbers) (gate_of-letters other)

-- the numbers begin with a space
spaces : (gate : PlainGate) (xs : List ℕ) → (rest : List ℕ) × (spaced (numbers_of gate) ++ xs ≡ 32 ∷ rest)
spaces (X [] target) xs = (_, refl)
spaces (X (a ∷ []) target) xs = (_, refl)
spaces (X (a ∷ b ∷ []) target) xs = (_, refl)
spaces (X (a ∷ b ∷ c ∷ rest) target) xs = (_, refl)
spaces (H wire) xs = (_, refl)
spaces (T wire) xs = (_, refl)
spaces (Tdg wire) xs = (_, refl)

-- the numbers of the gate's line are below 2 ^ 64
abbrev pub HasSmallNumbers : PlainGate → Type 0
HasSmallNumbers gate = AllByRecursion Small (numbers_of gate)

pub line-delimited : (gate other : PlainGate) (xs ys : List ℕ) → HasSmallNumbers gate → HasSmallNumbers other → line gate ++ xs ≡ line other ++ ys → (gate ≡ other) × (xs ≡ ys)
line-delimited gate other xs ys small small' e =
    let behind = spaces gate (codes "\n" ++ xs) in
    let behind' = spaces other (codes "\n" ++ ys) in
    let nested = sym (line-letters gate xs) ∙ e ∙ line-letters other ys in
    let words = word-delimited 32 (letters gate) (letters other) behind.0 behind'.0 (letters-lack gate) (letters-lack other) (rw (← behind.1, ← behind'.1) nested) in
    let rest = numbers-delimited (numbers_of gate) (numbers_of other) xs ys small small' (behind.1 ∙ ap (λ t. 32 ∷ t) words.1 ∙ sym behind'.1) in
    (gate-told gate other words.0 rest.0, rest.1)

pub lines-delimited : (gates others : List PlainGate) (xs ys : List ℕ) → AllByRecursion HasSmallNumbers gates → AllByRecursion HasSmallNumbers others → length gates ≡ length others → lines gates ++ xs ≡ lines others ++ ys → (gates ≡ others) × (xs ≡ ys)
lines-delimited [] [] xs ys small small' count e = (refl, e)
lines-delimited [] (other ∷ others) xs ys small small' count e = cc
lines-delimited (gate ∷ gates) [] xs ys small small' count e = cc
lines-delimited (gate ∷ gates) (other ∷ others) xs ys small small' count e =
    let nested = sym (append_assoc (line gate) (lines gates) xs) ∙ e ∙ append_assoc (line other) (lines others) ys in
    let first = line-delimited gate other _ _ small.0 small'.0 nested in
    let more = lines-delimited gates others xs ys small.1 small'.1 (cc) first.1 in
    let same = first.0 in
    let same_rest = more.0 in
    (cc, more.1)

-- the level of a word
abbrev level_of : List ℕ → Level
level_of word = if bytes_eq word (codes "mcx") then levels.Mcx else if bytes_eq word (codes "tof") then levels.Tof else levels.T

level_of-word : (level : Level) → level_of (level_word level) ≡ level
level_of-word levels.Mcx = refl
level_of-word levels.Tof = refl
level_of-word levels.T = refl

level_word-lacks : (level : Level) → Lacks 10 (level_word level)
level_word-lacks levels.Mcx = (refl, (refl, (refl, tt)))
level_word-lacks levels.Tof = (refl, (refl, (refl, tt)))
level_word-lacks levels.T = (refl, tt)

pub level-delimited : (level other : Level) (xs ys : List ℕ) → level_word level ++ (codes "\n" ++ xs) ≡ level_word other ++ (codes "\n" ++ ys) → (level ≡ other) × (xs ≡ ys)
level-delimited level other xs ys e =
    let both = word-delimited 10 (level_word level) (level_word other) xs ys (level_word-lacks level) (level_word-lacks other) e in
    (sym (level_of-word level) ∙ rw both.0 (level_of-word other), both.1)

pub header-nested : (level : Level) (wires gates t_count : ℕ) (xs : List ℕ) → header level wires gates t_count ++ xs
    ≡ codes "tower-gates 1\nlevel " ++ (level_word level ++ (codes "\n" ++ (codes "wires " ++ (decimal wires ++ (codes "\n" ++ (codes "gates " ++ (decimal gates ++ (codes "\n" ++ (codes "t-count " ++ (decimal t_count ++ (codes "\n" ++ xs)))))))))))
unfolding header
header-nested level wires gates t_count xs = simp append_assoc

-- the numbers of a header are below 2 ^ 64
pub record HasSmallHeader (file : File) : Type 0 where
  pub wires : Small file.wires
  pub gates : Small (length file.gates)
  pub t_count : Small file.t_count

header-delimited : (file other : File) (xs ys : List ℕ) → HasSmallHeader file → HasSmallHeader other
    → header file.level file.wires (length file.gates) file.t_count ++ xs ≡ header other.level other.wires (length other.gates) other.t_count ++ ys
    → (file.level ≡ other.level) × (file.wires ≡ other.wires) × (length file.gates ≡ length other.gates) × (file.t_count ≡ other.t_count) × (xs ≡ ys)
header-delimited file other xs ys small small' e =
    let nested = sym (header-nested file.level file.wires (length file.gates) file.t_count xs) ∙ e ∙ header-nested other.level other.wires (length other.gates) other.t_count ys in
    let level = level-delimited file.level other.level _ _ (append_cancel_left (codes "tower-gates 1\nlevel ") _ _ nested) in
    let wires = decimal_line-delimited file.wires other.wires _ _ small.wires small'.wires (append_cancel_left (codes "wires ") _ _ level.1) in
    let gates = decimal_line-delimited (length file.gates) (length other.gates) _ _ small.gates small'.gates (append_cancel_left (codes "gates ") _ _ wires.1) in
    let t_count = decimal_line-delimited file.t_count other.t_count _ _ small.t_count small'.t_count (append_cancel_left (codes "t-count ") _ _ gates.1) in
    (level.0, wires.0, gates.0, t_count.0, t_count.1)

same_file : (file other : File) → file.level ≡ other.level → file.wires ≡ other.wires → file.t_count ≡ other.t_count → file.gates ≡ other.gates → file ≡ other
same_file file other level wires t_count gates =
    let made : Level → ℕ → ℕ → List PlainGate → File = λ l w t g. record { level = l; wires = w; t_count = t; gates = g } in
    let same : made file.level file.wires file.t_count file.gates ≡ made other.level other.wires other.t_count other.gates = rw (level, wires, t_count, gates) refl in
    same

pub file_text-delimited : (file other : File) (xs ys : List ℕ) → HasSmallHeader file → HasSmallHeader other → AllByRecursion HasSmallNumbers file.gates → AllByRecursion HasSmallNumbers other.gates
    → file_text file ++ xs ≡ file_text other ++ ys → (file ≡ other) × (xs ≡ ys)
unfolding file_text
file_text-delimited file other xs ys head head' small small' e =
    let nested =
    sym (append_assoc (header file.level file.wires (length file.gates) file.t_count) (lines file.gates ++ last_line) xs)
    ∙ e
    ∙ append_assoc (header other.level other.wires (length other.gates) other.t_count) (lines other.gates ++ last_line) ys in
    let first = header-delimited file other _ _ head head' nested in
    let gates = lines-delimited file.gates other.gates (last_line ++ xs) (last_line ++ ys) small small' first.2
    (sym (append_assoc (lines file.gates) last_line xs) ∙ first.4 ∙ append_assoc (lines other.gates) last_line ys) in
    (same_file file other first.0 first.1 first.3 gates.0, append_cancel_left last_line xs ys gates.1)
