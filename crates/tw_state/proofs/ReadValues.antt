-- Values of a type, by cases, and the texts of pairs.
use Rattle.std.proofs.Common.{◌≡◌, ◌∙◌, refl, ap, ap₂, sym, subst₂, arith, ℕ, ◌<◌, ◌≤◌, ◌^◌, nat_eq, Bool, true, false, List, [], ◌∷◌, ◌++◌, codes, decimal, append_assoc, None}
use Rattle.std.proofs.Math.Nat.{pow-le-pow_right}
use Rattle.std.proofs.lemmas.List.{append_cancel_left}
use Rattle.std.proofs.lemmas.Nat.{pow_pos}
use Rattle.tw_text.specs.Prefix.{after}
use Rattle.tw_text.proofs.Decimals.{decimal-delimited}
use Rattle.tw_types.specs.Types.{Widths, AreInRange, Ty, UnitTy, Word, Boolean, Pointer, PairTy, block_count}
use Rattle.tw_types.specs.Values.{Value, UnitValue, Number, Truth, Address, PairValue, HasType}
use Rattle.tw_state.specs.StateText.{value_text}
use Rattle.tw_state.specs.Reading.{Delimits, IsValueBefore}
use Rattle.tw_state.proofs.ReadPrefixes.{not_after}

pub pair_text : (x y : Value) (tail : List ℕ) → value_text (PairValue x y) ++ tail ≡ codes "(" ++ (value_text x ++ (codes ", " ++ (value_text y ++ (codes ")" ++ tail))))
pair_text x y tail =
    ap (λ t. codes "(" ++ t) (append_assoc (value_text x) (codes ", " ++ (value_text y ++ codes ")")) tail
    ∙ ap (λ t. value_text x ++ (codes ", " ++ t)) (append_assoc (value_text y) (codes ")") tail))

module _ (widths : Widths) where
  pub unit_only : (value : Value) → HasType widths value UnitTy → value ≡ UnitValue
  unit_only UnitValue typed = refl
  unit_only (Number n) typed = absurd typed
  unit_only (Truth is) typed = absurd typed
  unit_only (Address block) typed = absurd typed
  unit_only (PairValue x y) typed = absurd typed

  pub word_only : (value : Value) → HasType widths value Word → (n : ℕ) × (value ≡ Number n) × (n < 2 ^ widths.word)
  word_only UnitValue typed = absurd typed
  word_only (Number n) typed = (n, refl, typed)
  word_only (Truth is) typed = absurd typed
  word_only (Address block) typed = absurd typed
  word_only (PairValue x y) typed = absurd typed

  pub truth_only : (value : Value) → HasType widths value Boolean → (is : Bool) × (value ≡ Truth is)
  truth_only UnitValue typed = absurd typed
  truth_only (Number n) typed = absurd typed
  truth_only (Truth is) typed = (is, refl)
  truth_only (Address block) typed = absurd typed
  truth_only (PairValue x y) typed = absurd typed

  pub address_only : (target : ℕ) (value : Value) → HasType widths value (Pointer target) → (block : ℕ) × (value ≡ Address block) × (block ≤ block_count widths)
  address_only target UnitValue typed = absurd typed
  address_only target (Number n) typed = absurd typed
  address_only target (Truth is) typed = absurd typed
  address_only target (Address block) typed = (block, refl, typed)
  address_only target (PairValue x y) typed = absurd typed

  pub pair_only : (first second : Ty) (value : Value) → HasType widths value (PairTy first second) → (x : Value) × (y : Value) × (value ≡ PairValue x y) × HasType widths x first × HasType widths y second
  pair_only first second UnitValue typed = absurd typed
  pair_only first second (Number n) typed = absurd typed
  pair_only first second (Truth is) typed = absurd typed
  pair_only first second (Address block) typed = absurd typed
  pair_only first second (PairValue x y) typed = (x, y, refl, typed.0, typed.1)

  -- bytes that do not begin with a parenthesis begin with no pair
  pub no_pair : (first second : Ty) (bytes tail : List ℕ) → None ≡ after (codes "(") bytes → IsValueBefore widths (PairTy first second) tail bytes None
  no_pair first second bytes tail none value rest typed e =
      let p = pair_only first second value typed in
      not_after (codes "(") bytes _ none (e ∙ ap (λ v. value_text v ++ (tail ++ rest)) p.2 ∙ pair_text p.0 p.1 (tail ++ rest))

-- a number before a text that delimits it is determined
pub one_number : (n m : ℕ) (t u : List ℕ) → n < 2 ^ 64 → m < 2 ^ 64 → Delimits t → Delimits u → decimal n ++ t ≡ decimal m ++ u → (n ≡ m) × (t ≡ u)
one_number n m [] u small small' d d' e = absurd d
one_number n m (c ∷ t) [] small small' d d' e = absurd d'
one_number n m (c ∷ t) (b ∷ u) small small' d d' e = decimal-delimited n m c b t u small small' d d' e

starts_with_t : List ℕ → Bool
starts_with_t [] = false
starts_with_t (c ∷ text) = nat_eq c 116

one_truth : (is other : Bool) (t u : List ℕ) → value_text (Truth is) ++ t ≡ value_text (Truth other) ++ u → (is ≡ other) × (t ≡ u)
unfolding starts_with_t
one_truth true true t u e = (refl, append_cancel_left (codes "true") t u e)
one_truth false false t u e = (refl, append_cancel_left (codes "false") t u e)
one_truth true false t u e = let wrong : true ≡ false = ap starts_with_t e in absurd (cc)
one_truth false true t u e = let wrong : false ≡ true = ap starts_with_t e in absurd (cc)

module _ (widths : Widths) (range : AreInRange widths) where
  small_word : (n : ℕ) → n < 2 ^ widths.word → n < 2 ^ 64
  small_word n within = let power : 2 ^ widths.word ≤ 2 ^ 64 = pow-le-pow_right {n = 2} (omega arith) {i = widths.word} {j = 64} (omega (arith, range.word_to)) in omega (arith, power, within)

  small_address : (block : ℕ) → block ≤ block_count widths → block < 2 ^ 64
  small_address block within = let power : 2 ^ widths.addr ≤ 2 ^ 64 = pow-le-pow_right {n = 2} (omega arith) {i = widths.addr} {j = 64} (omega (arith, range.addr_to)) in omega (arith, power, within, pow_pos widths.addr)

  -- a value of a type before a text that begins with no digit is determined
  pub one_value : (ty : Ty) (x y : Value) (t u : List ℕ) → Delimits t → Delimits u → HasType widths x ty → HasType widths y ty → value_text x ++ t ≡ value_text y ++ u → (x ≡ y) × (t ≡ u)
  one_value UnitTy x y t u d d' typed typed' e =
      let a = unit_only widths x typed in
      let b = unit_only widths y typed' in
      (a ∙ sym b, append_cancel_left (codes "()") t u (subst₂ (λ v w. value_text v ++ t ≡ value_text w ++ u) a b e))
  one_value Word x y t u d d' typed typed' e =
      let a = word_only widths x typed in
      let b = word_only widths y typed' in
      let both = one_number a.0 b.0 t u (small_word a.0 a.2) (small_word b.0 b.2) d d' (subst₂ (λ v w. value_text v ++ t ≡ value_text w ++ u) a.1 b.1 e) in
      (a.1 ∙ ap Number both.0 ∙ sym b.1, both.1)
  one_value Boolean x y t u d d' typed typed' e =
      let a = truth_only widths x typed in
      let b = truth_only widths y typed' in
      let both = one_truth a.0 b.0 t u (subst₂ (λ v w. value_text v ++ t ≡ value_text w ++ u) a.1 b.1 e) in
      (a.1 ∙ ap Truth both.0 ∙ sym b.1, both.1)
  one_value (Pointer target) x y t u d d' typed typed' e =
      let a = address_only widths target x typed in
      let b = address_only widths target y typed' in
      let both = one_number a.0 b.0 t u (small_address a.0 a.2) (small_address b.0 b.2) d d' (append_cancel_left (codes "@") _ _ (subst₂ (λ v w. value_text v ++ t ≡ value_text w ++ u) a.1 b.1 e)) in
      (a.1 ∙ ap Address both.0 ∙ sym b.1, both.1)
  one_value (PairTy first second) x y t u d d' typed typed' e =
      let a = pair_only widths first second x typed in
      let b = pair_only widths first second y typed' in
      let whole = subst₂ (λ v w. value_text v ++ t ≡ value_text w ++ u) a.2 b.2 e in
      let parts = append_cancel_left (codes "(") _ _ (sym (pair_text a.0 a.1 t) ∙ whole ∙ pair_text b.0 b.1 u) in
      let one = one_value first a.0 b.0 _ _ refl refl a.3 b.3 parts in
      let two = one_value second a.1 b.1 _ _ refl refl a.4 b.4 (append_cancel_left (codes ", ") _ _ one.1) in
      (a.2 ∙ ap₂ PairValue one.0 two.0 ∙ sym b.2, append_cancel_left (codes ")") t u two.1)

  module _ (first second : Ty) (bytes behind : List ℕ) (opened : bytes ≡ codes "(" ++ behind) where
    -- the text after the parenthesis
    inside : (value : Value) (x y : Value) (tail : List ℕ) → value ≡ PairValue x y → bytes ≡ value_text value ++ tail → behind ≡ value_text x ++ (codes ", " ++ (value_text y ++ (codes ")" ++ tail)))
    inside value x y tail is e =
        append_cancel_left (codes "(") _ _ (sym opened ∙ e ∙ ap (λ v. value_text v ++ tail) is ∙ pair_text x y tail)

    pub no_first : (tail : List ℕ) → IsValueBefore widths first (codes ", ") behind None → IsValueBefore widths (PairTy first second) tail bytes None
    no_first tail none value rest typed e =
        let p = pair_only widths first second value typed in
        none p.0 _ p.3 (inside value p.0 p.1 (tail ++ rest) p.2 e)

    module _ (x : Value) (middle : List ℕ) (x_typed : HasType widths x first) (is_first : behind ≡ value_text x ++ (codes ", " ++ middle)) where
      after_first : (value : Value) (v w : Value) (tail : List ℕ) → value ≡ PairValue v w → HasType widths v first → bytes ≡ value_text value ++ tail → middle ≡ value_text w ++ (codes ")" ++ tail)
      after_first value v w tail is typed e =
          append_cancel_left (codes ", ") _ _ (one_value first x v _ _ refl refl x_typed typed (sym is_first ∙ inside value v w tail is e)).1

      pub no_second : (tail : List ℕ) → IsValueBefore widths second (codes ")") middle None → IsValueBefore widths (PairTy first second) tail bytes None
      no_second tail none value rest typed e =
          let p = pair_only widths first second value typed in
          none p.1 _ p.4 (after_first value p.0 p.1 (tail ++ rest) p.2 p.3 e)

      module _ (y : Value) (end : List ℕ) (y_typed : HasType widths y second) (is_second : middle ≡ value_text y ++ (codes ")" ++ end)) where
        pub no_tail : (tail : List ℕ) → None ≡ after tail end → IsValueBefore widths (PairTy first second) tail bytes None
        no_tail tail none value rest typed e =
            let p = pair_only widths first second value typed in
            let two = one_value second y p.1 _ _ refl refl y_typed p.4 (sym is_second ∙ after_first value p.0 p.1 (tail ++ rest) p.2 p.3 e) in
            not_after tail end rest none (append_cancel_left (codes ")") _ _ two.1)

        pub whole_pair : (tail rest : List ℕ) → end ≡ tail ++ rest → bytes ≡ value_text (PairValue x y) ++ (tail ++ rest)
        whole_pair tail rest is =
            opened ∙ ap (λ t. codes "(" ++ t) (is_first ∙ ap (λ t. value_text x ++ (codes ", " ++ t)) (is_second ∙ ap (λ t. value_text y ++ (codes ")" ++ t)) is))
            ∙ sym (pair_text x y (tail ++ rest))
