-- The text of a gate file, version 1.
use Rattle.std.specs.Prelude.{◌≡◌, ℕ, zero, suc, ◌≤◌, List, [], ◌∷◌, ◌++◌, length, codes, decimal, refl}
use Rattle.std.specs.Fmt.{digits}
use Rattle.tw_gate.specs.declared.gate.Level.{Level}
use Rattle.tw_gate.specs.declared.gate.Level.TheVariants as levels
use Rattle.tw_gate.specs.Gates.{PlainGate, X, H, T, Tdg, example}
use Rattle.tw_text.specs.declared.limits.TheConstants.{CONTROLS_LIMIT}

-- a gate file: its level, its number of wires, its T-count, and its gates
pub record File : Type 0 where
  pub level : Level
  pub wires : ℕ
  pub t_count : ℕ
  pub gates : List PlainGate

-- the keyword of a level
abbrev pub level_word : Level → List ℕ
level_word levels.Mcx = codes "mcx"
level_word levels.Tof = codes "tof"
level_word levels.T = codes "t"

-- the letters that begin the line of an X gate, by its number of controls
abbrev pub x_words : ℕ → List ℕ
x_words zero = codes "x"
x_words (suc zero) = codes "cx"
x_words (suc (suc zero)) = codes "ccx"
x_words controls = codes "mcx " ++ decimal controls

-- numbers, each after a space
abbrev pub spaced : List ℕ → List ℕ
spaced [] = []
spaced (n ∷ ns) = codes " " ++ (decimal n ++ spaced ns)

-- the line of a gate
abbrev pub line : PlainGate → List ℕ
line (X controls target) = x_words (length controls) ++ (spaced (controls ++ target ∷ []) ++ codes "\n")
line (H wire) = codes "h" ++ (spaced (wire ∷ []) ++ codes "\n")
line (T wire) = codes "t" ++ (spaced (wire ∷ []) ++ codes "\n")
line (Tdg wire) = codes "tdg" ++ (spaced (wire ∷ []) ++ codes "\n")

-- the lines of gates, in order
abbrev pub lines : List PlainGate → List ℕ
lines [] = []
lines (gate ∷ gates) = line gate ++ lines gates

-- the five header lines: version, level, number of wires, number of gates, T-count
unfoldable pub header : Level → ℕ → ℕ → ℕ → List ℕ
header level wires gates t_count =
    codes "tower-gates 1\nlevel " ++ (level_word level ++ (codes "\nwires " ++ (decimal wires ++ (codes "\ngates " ++ (decimal gates ++ (codes "\nt-count " ++ (decimal t_count ++ codes "\n")))))))

-- the last line
abbrev pub last_line : List ℕ
last_line = codes "end\n"

-- the one text of a file
unfoldable pub file_text : File → List ℕ
file_text file = header file.level file.wires (length file.gates) file.t_count ++ (lines file.gates ++ last_line)

-- a gate has no more controls than a file may have
abbrev pub HasFewControls : PlainGate → Type 0
HasFewControls (X controls target) = length controls ≤ CONTROLS_LIMIT
HasFewControls _ = Unit {0}

pub spaced-two : spaced (5 ∷ 12 ∷ []) ≡ codes " 5 12"
unfolding digits
spaced-two = refl

pub x_words-three : x_words 3 ≡ codes "mcx 3"
unfolding digits
x_words-three = refl

pub line-three_controls : line (X (0 ∷ 1 ∷ 2 ∷ []) 3) ≡ codes "mcx 3 0 1 2 3\n"
unfolding digits
line-three_controls = refl

pub line-flip : line (X [] 12) ≡ codes "x 12\n"
unfolding digits
line-flip = refl

pub line-tdg : line (Tdg 0) ≡ codes "tdg 0\n"
unfolding digits
line-tdg = refl

-- the five example gates on seven wires
abbrev pub example_file : File
example_file = record { level = levels.Mcx; wires = 7; t_count = 7; gates = example }

pub file_text-example : file_text example_file ≡ codes "tower-gates 1\nlevel mcx\nwires 7\ngates 5\nt-count 7\ncx 2 5\ncx 3 6\nccx 5 6 4\ncx 3 6\ncx 2 5\nend\n"
unfolding file_text header digits
file_text-example = refl
