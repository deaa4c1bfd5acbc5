-- Right lines read one by one.
use Rattle.std.proofs.Common.{◌≡◌, ◌≢◌, ◌∙◌, ap, sym, refl, ℕ, ◌+◌, ◌<◌, nat_eq, Bool, true, false, List, [], ◌∷◌, ◌++◌, length, append_assoc, append-nil, length-append, arith}
use Rattle.std.proofs.lemmas.Bool.{eqb-true}
use Rattle.std.proofs.lemmas.List.{nil_from_length}
use Rattle.tw_text.specs.declared.limits.TheConstants.{STATES_LIMIT}
use Rattle.tw_sim.specs.BitLines.{bit_line, bit_lines, HaveWires, HasNoLine, AreRefused, WrongLine, TooMany, too_many}
use Rattle.tw_sim.specs.declared.lines.LinesFault.TheVariants as fault

pub bit_lines-append : (states more : List (List Bool)) → bit_lines (states ++ more) ≡ bit_lines states ++ bit_lines more
bit_lines-append [] more = refl
bit_lines-append (bits ∷ states) more =
    ap (λ rest. bit_line bits ++ rest) (bit_lines-append states more) ∙ sym (append_assoc (bit_line bits) (bit_lines states) (bit_lines more))

pub HaveWires-append : (wires : ℕ) (states more : List (List Bool)) → HaveWires wires states → HaveWires wires more → HaveWires wires (states ++ more)
HaveWires-append wires [] more wide wide' = wide'
HaveWires-append wires (bits ∷ states) more wide wide' = (wide.0, HaveWires-append wires states more wide.1 wide')

-- this number of right lines precedes the rest
pub record AreRead (wires : ℕ) (text rest : List ℕ) (count : ℕ) : Type 0 where
  pub states : List (List Bool)
  pub spelled : text ≡ bit_lines states ++ rest
  pub wide : HaveWires wires states
  pub many : length states ≡ count

-- one more right line precedes the rest
pub read_more : {wires : ℕ} {text rest : List ℕ} {count : ℕ} (behind : List ℕ) → AreRead wires text rest count → (bits : List Bool) × (length bits ≡ wires) × (rest ≡ bit_line bits ++ behind) → AreRead wires text behind (count + 1)
read_more behind read line = record {
  states = read.states ++ line.0 ∷ [];
  spelled =
      read.spelled
      ∙ ap (λ rest. bit_lines read.states ++ rest) line.2
      ∙ sym (append_assoc (bit_lines read.states) (bit_line line.0) behind)
      ∙ ap (λ lines. lines ++ behind) (ap (λ last. bit_lines read.states ++ last) (sym (append-nil (bit_line line.0))) ∙ sym (bit_lines-append read.states (line.0 ∷ [])));
  wide = HaveWires-append _ read.states (line.0 ∷ []) read.wide (line.1, tt);
  many = omega (arith, read.many, length-append read.states (line.0 ∷ []));
}

-- what `is_empty` returns
pub no_bytes : (rest : List ℕ) (empty : Bool) → empty ≡ nat_eq (length rest) 0 → empty ≡ true → rest ≡ []
no_bytes rest empty is other = nil_from_length rest (eqb-true (length rest) 0 (sym is ∙ other))

pub some_bytes : (rest : List ℕ) (empty : Bool) → empty ≡ nat_eq (length rest) 0 → empty ≡ false → rest ≢ []
some_bytes [] empty is other = λ e. cc
some_bytes (byte ∷ rest) empty is other = λ e. cc

-- no line follows the right lines
pub read_wrong : {wires : ℕ} {text rest : List ℕ} {count : ℕ} → AreRead wires text rest count → count < STATES_LIMIT → rest ≢ [] → HasNoLine wires rest → AreRefused wires text (fault.BitsLength (count + 1))
read_wrong {rest} read few some none =
    WrongLine read.states rest read.spelled read.wide (omega (arith, read.many)) some none (ap (λ n. fault.BitsLength (n + 1)) (sym read.many))

-- as many right lines as the limit are followed by more
pub read_many : {wires : ℕ} {text rest : List ℕ} {count : ℕ} → AreRead wires text rest count → count ≡ STATES_LIMIT → rest ≢ [] → AreRefused wires text (fault.Over too_many)
read_many {rest} read many some = TooMany read.states rest read.spelled read.wide (read.many ∙ many) some refl
