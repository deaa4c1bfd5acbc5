-- The values that are given to the keys, and the settings that they make.
use Rattle.std.proofs.Common.{◌≡◌, ◌∙◌, ap, sym, subst, ℕ, ◌<◌, ◌≤◌, ◌^◌, Bool, true, false, if◌then◌else◌, List, [], ◌∷◌, ◌++◌, length, decimal, Option, Some, None, is_some, IfSome, option_map, option_to_list, arith, append-nil, refl}
use Rattle.std.specs.Option.{IfNone}
use denote.Ref.{Bor}
use Rattle.std.specs.List.{flat_map}
use Rattle.std.proofs.lemmas.Fmt.{decimal_injective}
use Rattle.tw_types.specs.Types.{Widths, AreInRange}
use Rattle.tower.specs.declared.options.Key.{Key}
use Rattle.tower.specs.declared.options.Key.TheVariants as key
use Rattle.tower.specs.declared.settings.Settings as code
use Rattle.tower.specs.Requests.{Settings, Choice, choice_words, values_of, number_value, wanted, greatest_bound, AreOptions}
use Rattle.tower.specs.Given.{settings_seen, value_given, value_text, given_to, AreGiven, AreNotGiven, SpellWidths, SetWidths, SetNumber}
use Rattle.tower.proofs.Choices.{Continues, continues, nil_cons, head_is}

-- what holds if nothing is found
pub if_missing : {A : Type 0} {P : Type 0} (found : Option A) → (found ≡ None → P) → IfNone found P
if_missing None holds = holds refl
if_missing (Some x) holds = tt

pub none_is_none : {A : Type 0} (found : Option A) → is_some found ≡ true → found ≡ None → ⊥
none_is_none None there is = absurd (cc there)
none_is_none (Some x) there is = absurd (cc is)

-- numbers

once : {A : Type 0} (value : Option A) → length (option_to_list value) ≤ 1
once None = omega arith
once (Some x) = omega arith

one_number : (most : ℕ) (m n : Option ℕ) → most < 2 ^ 64 → IfSome m (λ i. i ≤ most) → IfSome n (λ i. i ≤ most) → number_value m ≡ number_value n → m ≡ n
one_number most None None small x y e = refl
one_number most (Some i) (Some j) small x y e = ap Some (decimal_injective i j (omega (arith, small, x)) (omega (arith, small, y)) (head_is _ _ [] [] e))
one_number most None (Some j) small x y e = absurd (nil_cons _ _ e)
one_number most (Some i) None small x y e = absurd (nil_cons _ _ (sym e))

-- widths

same_widths : (w w' a a' : ℕ) → w ≡ w' → a ≡ a' → ◌≡◌ {A = Widths} (record { word = w; addr = a }) (record { word = w'; addr = a' })
same_widths w w' a a' e f = cc

-- widths in range that are spelled the same are the same
one_spelling : (widths other : Widths) → AreInRange widths → AreInRange other → decimal widths.word ≡ decimal other.word → decimal widths.addr ≡ decimal other.addr → widths ≡ other
one_spelling widths other x y word addr =
    same_widths _ _ _ _ (decimal_injective widths.word other.word (omega (arith, x.word_to)) (omega (arith, y.word_to)) word)
    (decimal_injective widths.addr other.addr (omega (arith, x.addr_to)) (omega (arith, y.addr_to)) addr)

one_widths : (u v : Option Widths) → IfSome u AreInRange → IfSome v AreInRange → number_value (option_map (λ widths. widths.word) u) ≡ number_value (option_map (λ widths. widths.word) v)
    → number_value (option_map (λ widths. widths.addr) u) ≡ number_value (option_map (λ widths. widths.addr) v) → u ≡ v
one_widths None None x y word addr = refl
one_widths (Some u) (Some v) x y word addr = ap Some (one_spelling u v x y (head_is _ _ [] [] word) (head_is _ _ [] [] addr))
one_widths None (Some v) x y word addr = absurd (nil_cons _ _ word)
one_widths (Some u) None x y word addr = absurd (nil_cons _ _ (sym word))

-- widths out of range are spelled by nothing
pub out_of_range : (word addr : List ℕ) (w a : ℕ) → w < 2 ^ 32 → a < 2 ^ 32 → word ≡ decimal w → addr ≡ decimal a → (AreInRange (record { word = w; addr = a }) → ⊥) → (widths : Widths) → SpellWidths word addr widths → ⊥
out_of_range word addr w a small narrow is too out widths spell =
    let range = spell.in_range in
    let same : widths.word ≡ w = decimal_injective _ _ (omega (arith, range.word_to)) (omega (arith, small)) (sym spell.word_is ∙ is) in
    let same' : widths.addr ≡ a = decimal_injective _ _ (omega (arith, range.addr_to)) (omega (arith, narrow)) (sym spell.addr_is ∙ too) in
    out (record { word_from = subst (λ n. 1 ≤ n) same range.word_from; word_to = rw (sym same) range.word_to; addr_from = subst (λ n. 1 ≤ n) same' range.addr_from; addr_to = rw (sym same') range.addr_to })

pub spelled_widths : (word addr : List ℕ) (widths : Widths) → SpellWidths word addr widths → SetWidths (word ∷ []) (addr ∷ []) (Some widths)
spelled_widths word addr widths spell = record { word_is = ap (λ w. w ∷ []) spell.word_is; addr_is = ap (λ w. w ∷ []) spell.addr_is; in_range = spell.in_range }

pub unspelled_widths : (word addr : List ℕ) → ((widths : Widths) → SpellWidths word addr widths → ⊥) → (widths : Option Widths) → SetWidths (word ∷ []) (addr ∷ []) widths → ⊥
unspelled_widths word addr none None set = nil_cons _ _ (sym set.word_is)
unspelled_widths word addr none (Some widths) set = none widths (record { word_is = head_is _ _ [] [] set.word_is; addr_is = head_is _ _ [] [] set.addr_is; in_range = set.in_range })

-- one width alone sets no widths
pub word_alone : (word : List ℕ) (widths : Option Widths) → SetWidths (word ∷ []) [] widths → ⊥
word_alone word None set = nil_cons _ _ (sym set.word_is)
word_alone word (Some widths) set = nil_cons _ _ set.addr_is

pub addr_alone : (addr : List ℕ) (widths : Option Widths) → SetWidths [] (addr ∷ []) widths → ⊥
addr_alone addr None set = nil_cons _ _ (sym set.addr_is)
addr_alone addr (Some widths) set = nil_cons _ _ set.word_is

pub no_number : (most : ℕ) (text : List ℕ) → ((n : ℕ) → n ≤ most → text ≡ decimal n → ⊥) → (number : Option ℕ) → SetNumber most (text ∷ []) number → ⊥
no_number most text none None set = nil_cons _ _ (sym set.is)
no_number most text none (Some n) set = none n set.in_range (head_is _ _ [] [] set.is)

-- options and settings

one_text : (e f : Option (List ℕ)) → option_to_list e ≡ option_to_list f → e ≡ f
one_text None None e = refl
one_text (Some x) (Some y) e = ap Some (head_is _ _ [] [] e)
one_text None (Some y) e = absurd (nil_cons _ _ e)
one_text (Some x) None e = absurd (nil_cons _ _ (sym e))

one_flag : (x y : Bool) → ◌≡◌ {A = List (List ℕ)} (if x then [] ∷ [] else []) (if y then [] ∷ [] else []) → x ≡ y
one_flag true true e = refl
one_flag false false e = refl
one_flag true false e = cc
one_flag false true e = cc

-- settings are determined by their fields
same_settings : (x y : Settings) → x.widths ≡ y.widths → x.entry ≡ y.entry → x.bound ≡ y.bound → x.inverse ≡ y.inverse → x.back ≡ y.back → x.level ≡ y.level → x.flatten ≡ y.flatten → x.narrow ≡ y.narrow → x.side ≡ y.side → x ≡ y
same_settings x y widths entry bound inverse back level flatten narrow side = λ i. record {
  widths = widths i;
  entry = entry i;
  bound = bound i;
  inverse = inverse i;
  back = back i;
  level = level i;
  flatten = flatten i;
  narrow = narrow i;
  side = side i;
}

-- arguments are the options of at most one settings
pub one_settings : (words : List (List ℕ)) (settings other : Settings) → AreOptions words settings → AreOptions words other → settings ≡ other
one_settings words settings other x y = by_rest (continues x.choices y.choices [] (sym x.spelled ∙ y.spelled ∙ sym (append-nil _)))
  where
    by_values : ((k : Key) → wanted settings k ≡ wanted other k) → settings ≡ other
    by_values same =
        same_settings settings other
        (one_widths settings.widths other.widths x.widths_in_range y.widths_in_range (same key.Word) (same key.Addr))
        (one_text settings.entry other.entry (same key.Entry))
        (one_number greatest_bound settings.bound other.bound (omega arith) x.bound_in_range y.bound_in_range (same key.Bound))
        (one_flag settings.inverse other.inverse (same key.Inverse))
        (one_flag settings.back other.back (same key.Back))
        (one_text settings.level other.level (same key.Level))
        (one_text settings.flatten other.flatten (same key.Flatten))
        (one_text settings.narrow other.narrow (same key.Narrow))
        (one_text settings.side other.side (same key.Side))

    by_rest : Continues x.choices y.choices [] → settings ≡ other
    by_rest further = by_list further.more further.spelled further.each
      where
        by_list : (more : List Choice) → [] ≡ flat_map choice_words more → ((k : Key) → values_of k x.choices ≡ values_of k y.choices ++ values_of k more) → settings ≡ other
        by_list [] spelled each = by_values (λ k. sym (x.values k) ∙ (each k ∙ (append-nil (values_of k y.choices) ∙ y.values k)))
        by_list (choice ∷ more) spelled each = absurd (nil_cons _ _ spelled)

-- options that were read have the values of the settings that they make
same_given : (words : List (List ℕ)) (values : List (Option (Bor (List ℕ)))) (settings : Settings) → AreGiven words [] values → AreOptions words settings → (k : Key) → given_to values k ≡ wanted settings k
same_given words values settings given are = by_rest (continues are.choices given.choices [] (sym are.spelled ∙ given.spelled))
  where
    by_rest : Continues are.choices given.choices [] → (k : Key) → given_to values k ≡ wanted settings k
    by_rest further = by_list further.more further.spelled further.each
      where
        by_list : (more : List Choice) → [] ≡ flat_map choice_words more → ((k : Key) → values_of k are.choices ≡ values_of k given.choices ++ values_of k more) → (k : Key) → given_to values k ≡ wanted settings k
        by_list [] spelled each k = sym (given.each k) ∙ (sym (append-nil (values_of k given.choices)) ∙ (sym (each k) ∙ are.values k))
        by_list (choice ∷ more) spelled each k = absurd (nil_cons _ _ spelled)

flag_once : (flag : Bool) → length {A = List ℕ} (if flag then [] ∷ [] else []) ≤ 1
flag_once true = omega arith
flag_once false = omega arith

wanted_once : (settings : Settings) (k : Key) → length (wanted settings k) ≤ 1
wanted_once settings key.Word = once _
wanted_once settings key.Addr = once _
wanted_once settings key.Entry = once _
wanted_once settings key.Bound = once _
wanted_once settings key.Inverse = flag_once settings.inverse
wanted_once settings key.Back = flag_once settings.back
wanted_once settings key.Level = once _
wanted_once settings key.Flatten = once _
wanted_once settings key.Narrow = once _
wanted_once settings key.Side = once _

-- arguments of which one is no option, or is given twice, make no settings
pub no_options : (words : List (List ℕ)) → AreNotGiven words → (settings : Settings) → AreOptions words settings → ⊥
no_options words none settings are = none are.choices are.spelled (λ k. rw (are.values k) (wanted_once settings k))

-- so do options whose values set no widths, or no bound
pub no_widths : (words : List (List ℕ)) (values : List (Option (Bor (List ℕ)))) → AreGiven words [] values
    → ((widths : Option Widths) → SetWidths (given_to values key.Word) (given_to values key.Addr) widths → ⊥) → (settings : Settings) → AreOptions words settings → ⊥
no_widths words values given none settings are =
    let same = same_given words values settings given are in
    none settings.widths (record { word_is = same key.Word; addr_is = same key.Addr; in_range = are.widths_in_range })

pub no_bound : (words : List (List ℕ)) (values : List (Option (Bor (List ℕ)))) → AreGiven words [] values
    → ((bound : Option ℕ) → SetNumber greatest_bound (given_to values key.Bound) bound → ⊥) → (settings : Settings) → AreOptions words settings → ⊥
no_bound words values given none settings are = none settings.bound (record { is = same_given words values settings given are key.Bound; in_range = are.bound_in_range })

-- the settings have the values of these options
pub record HaveValues (values : List (Option (Bor (List ℕ)))) (settings : code.Settings) : Type 0 where
  pub widths : SetWidths (given_to values key.Word) (given_to values key.Addr) settings.widths
  pub bound : SetNumber greatest_bound (given_to values key.Bound) settings.bound
  pub entry : settings.entry ≡ value_given values key.Entry
  pub inverse : settings.inverse ≡ is_some (value_given values key.Inverse)
  pub back : settings.back ≡ is_some (value_given values key.Back)
  pub level : settings.level ≡ value_given values key.Level
  pub flatten : settings.flatten ≡ value_given values key.Flatten
  pub narrow : settings.narrow ≡ value_given values key.Narrow
  pub side : settings.side ≡ value_given values key.Side

-- options that were read make the settings with their values
pub are_options : (words : List (List ℕ)) (values : List (Option (Bor (List ℕ)))) (settings : code.Settings) → AreGiven words [] values → HaveValues values settings → AreOptions words (settings_seen settings)
are_options words values settings given have = record {
  choices = given.choices;
  spelled = given.spelled ∙ append-nil _;
  values = λ k. given.each k ∙ each k;
  widths_in_range = have.widths.in_range;
  bound_in_range = have.bound.in_range;
}
  where
    flag : (value : Option (Bor (List ℕ))) → ◌≡◌ {A = List (List ℕ)} (option_to_list (option_map (λ (text : Bor (List ℕ)). []) value)) (if is_some value then [] ∷ [] else [])
    flag None = refl
    flag (Some text) = refl

    flag_value : Bool → List (List ℕ)
    flag_value is = if is then [] ∷ [] else []

    each : (k : Key) → given_to values k ≡ wanted (settings_seen settings) k
    each key.Word = have.widths.word_is
    each key.Addr = have.widths.addr_is
    each key.Entry = ap value_text (sym have.entry)
    each key.Bound = have.bound.is
    each key.Inverse = flag (value_given values key.Inverse) ∙ ap flag_value (sym have.inverse)
    each key.Back = flag (value_given values key.Back) ∙ ap flag_value (sym have.back)
    each key.Level = ap value_text (sym have.level)
    each key.Flatten = ap value_text (sym have.flatten)
    each key.Narrow = ap value_text (sym have.narrow)
    each key.Side = ap value_text (sym have.side)
