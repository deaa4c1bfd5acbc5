-- The laws of lines of bits: a text determines its states, is not both right and refused, and is refused for at most one reason.
use Rattle.std.proofs.Common.{◌≡◌, ◌≢◌, ◌∙◌, ap, sym, refl, ℕ, ◌+◌, ◌<◌, ◌≤◌, Bool, true, false, List, [], ◌∷◌, ◌++◌, length, append_assoc, length-append, arith}
use Rattle.tw_sim.specs.BitLines.{bit_digit, bit_line, bit_lines, HaveWires, AreLinesOf, HasNoLine, AreRefused, WrongLine, TooMany}
use Rattle.tw_sim.specs.declared.lines.LinesFault.{LinesFault}
use Rattle.tw_sim.specs.declared.lines.LinesFault.TheVariants as fault

bit_digit-tells : (a b : Bool) → bit_digit a ≡ bit_digit b → a ≡ b
bit_digit-tells false false e = refl
bit_digit-tells true true e = refl
bit_digit-tells false true e = absurd (omega arith)
bit_digit-tells true false e = absurd (omega arith)

-- a line determines its bits, and the text after it
bit_line-tells : (bits other : List Bool) (rest behind : List ℕ) → length bits ≡ length other → bit_line bits ++ rest ≡ bit_line other ++ behind → (bits ≡ other) × (rest ≡ behind)
bit_line-tells [] [] rest behind count e = (refl, cc)
bit_line-tells [] (b ∷ other) rest behind count e = cc
bit_line-tells (a ∷ bits) [] rest behind count e = cc
bit_line-tells (a ∷ bits) (b ∷ other) rest behind count e =
    let first = bit_digit-tells a b (cc) in
    let others = bit_line-tells bits other rest behind (cc) (cc) in
    let same = others.0 in
    (cc, others.1)

bit_line-some : (bits : List Bool) (rest : List ℕ) → [] ≢ bit_line bits ++ rest
bit_line-some [] rest e = cc
bit_line-some (b ∷ bits) rest e = cc

-- right lines that are a prefix of right lines are the first of them
pub bit_lines-prefix : (wires : ℕ) (states front : List (List Bool)) (rest : List ℕ) → HaveWires wires states → HaveWires wires front → bit_lines states ≡ bit_lines front ++ rest →
    (left : List (List Bool)) × (states ≡ front ++ left) × HaveWires wires left × (rest ≡ bit_lines left)
bit_lines-prefix wires states [] rest wide wide' e = (states, refl, wide, sym e)
bit_lines-prefix wires [] (bits ∷ front) rest wide wide' e = absurd (bit_line-some bits _ (e ∙ append_assoc (bit_line bits) (bit_lines front) rest))
bit_lines-prefix wires (first ∷ states) (bits ∷ front) rest wide wide' e =
    let both = bit_line-tells first bits _ _ (wide.0 ∙ sym wide'.0) (e ∙ append_assoc (bit_line bits) (bit_lines front) rest) in
    let more = bit_lines-prefix wires states front rest wide.1 wide'.1 both.1 in
    let same = both.0 in
    let others = more.1 in
    (more.0, (cc), more.2, more.3)

-- a text determines its states
pub bit_lines-injective : (wires : ℕ) (states other : List (List Bool)) → HaveWires wires states → HaveWires wires other → bit_lines states ≡ bit_lines other → states ≡ other
bit_lines-injective wires [] [] wide wide' e = refl
bit_lines-injective wires [] (bits ∷ other) wide wide' e = absurd (bit_line-some bits _ e)
bit_lines-injective wires (bits ∷ states) [] wide wide' e = absurd (bit_line-some bits _ (sym e))
bit_lines-injective wires (bits ∷ states) (bits' ∷ other) wide wide' e =
    let both = bit_line-tells bits bits' _ _ (wide.0 ∙ sym wide'.0) e in
    let same = both.0 in
    let others = bit_lines-injective wires states other wide.1 wide'.1 both.1 in
    cc

-- if no line follows, there are no more right lines at the start
bit_lines-most : (wires : ℕ) (states other : List (List Bool)) (rest behind : List ℕ) → HaveWires wires states → HaveWires wires other → HasNoLine wires rest → bit_lines states ++ rest ≡ bit_lines other ++ behind → length other ≤ length states
bit_lines-most wires states [] rest behind wide wide' none e = omega arith
bit_lines-most wires [] (bits ∷ other) rest behind wide wide' none e = absurd (none bits _ wide'.0 (e ∙ append_assoc (bit_line bits) (bit_lines other) behind))
bit_lines-most wires (first ∷ states) (bits ∷ other) rest behind wide wide' none e =
    let nested = sym (append_assoc (bit_line first) (bit_lines states) rest) ∙ e ∙ append_assoc (bit_line bits) (bit_lines other) behind in
    let both = bit_line-tells first bits _ _ (wide.0 ∙ sym wide'.0) nested in
    omega (arith, bit_lines-most wires states other rest behind wide.1 wide'.1 none both.1)

no_line_left : (wires : ℕ) (left : List (List Bool)) (rest : List ℕ) → HaveWires wires left → rest ≡ bit_lines left → rest ≢ [] → HasNoLine wires rest → ⊥
no_line_left wires [] rest wide is some none = some is
no_line_left wires (bits ∷ left) rest wide is some none = none bits (bit_lines left) wide.0 is

some_left : (left : List (List Bool)) (rest : List ℕ) → rest ≡ bit_lines left → rest ≢ [] → 0 < length left
some_left [] rest is some = absurd (some is)
some_left (bits ∷ left) rest is some = omega arith

-- right lines are not refused
pub right_not_refused : (wires : ℕ) (text : List ℕ) (states : List (List Bool)) (why : LinesFault) → AreLinesOf wires text states → ¬ AreRefused wires text why
right_not_refused wires text states why right (WrongLine front rest spelled wide few some none is) =
    let split = bit_lines-prefix wires states front rest right.wide wide (sym right.spelled ∙ spelled) in
    no_line_left wires split.0 rest split.2 split.3 some none
right_not_refused wires text states why right (TooMany front rest spelled wide many some is) =
    let split = bit_lines-prefix wires states front rest right.wide wide (sym right.spelled ∙ spelled) in
    omega (arith, right.few, many, some_left split.0 rest split.3 some, ap length split.1, length-append front split.0)

-- a text is refused for at most one reason
pub one_reason : (wires : ℕ) (text : List ℕ) (why other : LinesFault) → AreRefused wires text why → AreRefused wires text other → other ≡ why
one_reason wires text why other (WrongLine states rest spelled wide few some none is) (WrongLine states' rest' spelled' wide' few' some' none' is') =
    let most = bit_lines-most wires states states' rest rest' wide wide' none (sym spelled ∙ spelled') in
    let most' = bit_lines-most wires states' states rest' rest wide' wide none' (sym spelled' ∙ spelled) in
    let count : length states' + 1 ≡ length states + 1 = omega arith in
    is' ∙ ap fault.BitsLength count ∙ sym is
one_reason wires text why other (WrongLine states rest spelled wide few some none is) (TooMany states' rest' spelled' wide' many some' is') =
    absurd (omega (arith, bit_lines-most wires states states' rest rest' wide wide' none (sym spelled ∙ spelled')))
one_reason wires text why other (TooMany states rest spelled wide many some is) (WrongLine states' rest' spelled' wide' few some' none' is') =
    absurd (omega (arith, bit_lines-most wires states' states rest' rest wide' wide none' (sym spelled' ∙ spelled)))
one_reason wires text why other (TooMany states rest spelled wide many some is) (TooMany states' rest' spelled' wide' many' some' is') = is' ∙ sym is
