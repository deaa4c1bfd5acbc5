-- Options and the arguments that they are written as: arguments are options in at most one way.
use Rattle.std.proofs.Common.{◌≡◌, ◌∙◌, ap, sym, subst, ℕ, zero, suc, ◌+◌, ◌<◌, ◌≤◌, ◌==◌, Bool, true, false, cond, if◌then◌else◌, List, [], ◌∷◌, ◌++◌, length, drop, Option, Some, None, option_map, option_to_list, slice_get, set, ◌≢◌, get_or-set_same, get_or-set_other, arith, append_assoc, append-nil, length-append, refl}
use denote.Ref.{Bor}
use Rattle.std.specs.Str.{bytes_eq}
use Rattle.std.specs.List.{flat_map}
use Rattle.std.proofs.lemmas.Bool.Decides.{Decides-eqb, not_from_Decides}
use Rattle.std.proofs.lemmas.Grind.{flat_map-append}
use Rattle.std.proofs.lemmas.Slice.Eq.{bytes_eq-Decides}
use Rattle.tower.specs.declared.options.Key.{Key}
use Rattle.tower.specs.declared.options.Key.TheVariants as key
use Rattle.tower.specs.Requests.{Choice, key_text, is_flag, key_place, choice_words, values_of}
use Rattle.tower.specs.Given.{keys, key_among, IsChoiceAt, IsNoChoiceAt, value_given, given_to, AreGiven, AreNotGiven}
use Rattle.tower.proofs.Binds.{some_is}

-- keys, their texts and their places

key_among-text : (k : Key) → key_among (key_text k) keys ≡ Some k
key_among-text key.Word = refl
key_among-text key.Addr = refl
key_among-text key.Entry = refl
key_among-text key.Bound = refl
key_among-text key.Inverse = refl
key_among-text key.Back = refl
key_among-text key.Level = refl
key_among-text key.Flatten = refl
key_among-text key.Narrow = refl
key_among-text key.Side = refl

pub key_among-is : (word : List ℕ) (list : List Key) (k : Key) → key_among word list ≡ Some k → word ≡ key_text k
key_among-is word [] k e = cc
key_among-is word (first ∷ rest) k e = by_test (bytes_eq word (key_text first)) refl e (key_among-is word rest k)
  where
    by_test : (same : Bool) → bytes_eq word (key_text first) ≡ same → cond same (Some first) (key_among word rest) ≡ Some k → (key_among word rest ≡ Some k → word ≡ key_text k) → word ≡ key_text k
    by_test true same h further = (bytes_eq-Decides word (key_text first)).0 same ∙ ap key_text (some_is first k h)
    by_test false other h further = further h

one_key : (k other : Key) → key_text k ≡ key_text other → k ≡ other
one_key k other e = some_is k other (sym (key_among-text k) ∙ ap (λ word. key_among word keys) e ∙ key_among-text other)

abbrev key_at : ℕ → Key
key_at zero = key.Word
key_at (suc zero) = key.Addr
key_at (suc (suc zero)) = key.Entry
key_at (suc (suc (suc zero))) = key.Bound
key_at (suc (suc (suc (suc zero)))) = key.Inverse
key_at (suc (suc (suc (suc (suc zero))))) = key.Back
key_at (suc (suc (suc (suc (suc (suc zero)))))) = key.Level
key_at (suc (suc (suc (suc (suc (suc (suc zero))))))) = key.Flatten
key_at (suc (suc (suc (suc (suc (suc (suc (suc zero)))))))) = key.Narrow
key_at (suc (suc (suc (suc (suc (suc (suc (suc (suc n))))))))) = key.Side

key_at-place : (k : Key) → key_at (key_place k) ≡ k
key_at-place key.Word = refl
key_at-place key.Addr = refl
key_at-place key.Entry = refl
key_at-place key.Bound = refl
key_at-place key.Inverse = refl
key_at-place key.Back = refl
key_at-place key.Level = refl
key_at-place key.Flatten = refl
key_at-place key.Narrow = refl
key_at-place key.Side = refl

pub one_place : (k other : Key) → key_place k ≡ key_place other → k ≡ other
one_place k other e = sym (key_at-place k) ∙ ap key_at e ∙ key_at-place other

pub head_is : {A : Type 0} (x y : A) (xs ys : List A) → x ∷ xs ≡ y ∷ ys → x ≡ y
head_is x y xs ys e = cc

pub tail_is : {A : Type 0} (x y : A) (xs ys : List A) → x ∷ xs ≡ y ∷ ys → xs ≡ ys
tail_is x y xs ys e = cc

pub nil_cons : {A : Type 0} (x : A) (xs : List A) → [] ≡ x ∷ xs → ⊥
nil_cons x xs e = cc

-- the value of an option, as `values_of` has it
abbrev value : Key → List ℕ → List ℕ
value k v = if is_flag k then [] else v

-- the values of options after a first one
abbrev put : (same : Bool) (v : List ℕ) (vs : List (List ℕ)) → List (List ℕ)
put same v vs = if same then v ∷ vs else vs

put-append : (same : Bool) (v : List ℕ) (vs ws : List (List ℕ)) → put same v (vs ++ ws) ≡ put same v vs ++ ws
put-append true v vs ws = refl
put-append false v vs ws = refl

pub values_of-append : (k : Key) (xs ys : List Choice) → values_of k (xs ++ ys) ≡ values_of k xs ++ values_of k ys
values_of-append k [] ys = refl
values_of-append k (x ∷ xs) ys =
    ap (put (key_place x.0 == key_place k) (value k x.1)) (values_of-append k xs ys) ∙ put-append (key_place x.0 == key_place k) (value k x.1) (values_of k xs) (values_of k ys)

-- arguments that begin with these options continue with further ones
pub record Continues (all front : List Choice) (rest : List (List ℕ)) : Type 0 where
  pub more : List Choice
  pub spelled : rest ≡ flat_map choice_words more
  pub each : (k : Key) → values_of k all ≡ values_of k front ++ values_of k more

-- two lists of arguments that begin with an option, without it
record SameFirst (k other : Key) (v w : List ℕ) (rest more : List (List ℕ)) : Type 0 where
  same_key : k ≡ other
  same_value : value k v ≡ value k w
  same_rest : rest ≡ more

same_words : (flag : Bool) (v w : List ℕ) (rest more : List (List ℕ)) → (if flag then [] else v ∷ []) ++ rest ≡ (if flag then [] else w ∷ []) ++ more → ((if flag then [] else v) ≡ (if flag then [] else w)) × (rest ≡ more)
same_words true v w rest more e = (refl, e)
same_words false v w rest more e = (head_is v w rest more e, tail_is v w rest more e)

same_first : (k other : Key) (v w : List ℕ) (rest more : List (List ℕ)) → choice_words (k, v) ++ rest ≡ choice_words (other, w) ++ more → SameFirst k other v w rest more
same_first k other v w rest more e =
    let same = one_key k other (head_is (key_text k) (key_text other) _ _ e) in
    let tails : (if is_flag other then [] else v ∷ []) ++ rest ≡ (if is_flag other then [] else w ∷ []) ++ more = subst (λ (i : Key). (if is_flag i then [] else v ∷ []) ++ rest ≡ (if is_flag other then [] else w ∷ []) ++ more) same (tail_is (key_text k) (key_text other) ((if is_flag k then [] else v ∷ []) ++ rest) ((if is_flag other then [] else w ∷ []) ++ more) e) in
    let parts = same_words (is_flag other) v w rest more tails in
    record { same_key = same; same_value = subst (λ (i : Key). value i v ≡ value i w) (sym same) parts.0; same_rest = parts.1 }

pub continues : (all front : List Choice) (rest : List (List ℕ)) → flat_map choice_words all ≡ flat_map choice_words front ++ rest → Continues all front rest
continues all [] rest e = record { more = all; spelled = sym e; each = λ k. refl }
continues [] (first ∷ front) rest e = absurd (nil_cons _ _ e)
continues ((k, v) ∷ all) ((other, w) ∷ front) rest e =
    let same = same_first k other v w (flat_map choice_words all) (flat_map choice_words front ++ rest) (e ∙ append_assoc (choice_words (other, w)) (flat_map choice_words front) rest) in
    let further = continues all front rest same.same_rest in
    record { more = further.more; spelled = further.spelled; each = λ j. by_test j same further (key_place k == key_place j) refl }
  where
    by_test : (j : Key) (same : SameFirst k other v w (flat_map choice_words all) (flat_map choice_words front ++ rest)) (further : Continues all front rest) (is : Bool) → (key_place k == key_place j) ≡ is →
        values_of j ((k, v) ∷ all) ≡ values_of j ((other, w) ∷ front) ++ values_of j further.more
    by_test j same further true is =
        let here : value j v ≡ value j w = subst (λ (i : Key). value i v ≡ value i w) (one_place k j ((Decides-eqb (key_place k) (key_place j)).0 is)) same.same_value in
        rw (is, sym same.same_key, is, here, further.each j) refl
    by_test j same further false is = rw (is, sym same.same_key, is, further.each j) refl

-- the option at the start of arguments

pub drop_at : {A : Type 0} → (xs : List A) (i : ℕ) (x : A) → slice_get xs i ≡ Some x → drop i xs ≡ x ∷ drop (suc i) xs
drop_at [] i x e = cc
drop_at (y ∷ ys) zero x e = ap (λ z. z ∷ ys) (some_is y x e)
drop_at (y ∷ ys) (suc i) x e = drop_at ys i x e

pub flag_here : (words more : List (List ℕ)) (word v : List ℕ) (k : Key) → words ≡ word ∷ more → word ≡ key_text k → is_flag k ≡ true → IsChoiceAt words k v
flag_here words more word v k e same flag = rw (e, same, flag) (refl, omega arith)

pub value_here : (words more : List (List ℕ)) (word v : List ℕ) (k : Key) → words ≡ word ∷ v ∷ more → word ≡ key_text k → is_flag k ≡ false → IsChoiceAt words k v
value_here words more word v k e same flag = rw (e, same, flag) (refl, omega arith)

pub no_key_here : (words more : List (List ℕ)) (word : List ℕ) → words ≡ word ∷ more → key_among word keys ≡ None → IsNoChoiceAt words
no_key_here words more word e none choice rest spelled =
    let same = head_is word (key_text choice.0) _ _ (sym e ∙ spelled) in
    let found : None ≡ Some choice.0 = sym none ∙ ap (λ w. key_among w keys) same ∙ key_among-text choice.0 in cc

no_words : (flag : Bool) (v : List ℕ) (rest : List (List ℕ)) → flag ≡ false → [] ≡ (if flag then [] else v ∷ []) ++ rest → ⊥
no_words true v rest flag e = cc
no_words false v rest flag e = nil_cons v rest e

pub no_value_here : (words : List (List ℕ)) (word : List ℕ) (k : Key) → words ≡ word ∷ [] → word ≡ key_text k → is_flag k ≡ false → IsNoChoiceAt words
no_value_here words word k e same flag choice rest spelled =
    let k_is = one_key choice.0 k (sym (head_is word (key_text choice.0) [] _ (sym e ∙ spelled)) ∙ same) in
    no_words (is_flag choice.0) choice.1 rest (ap is_flag k_is ∙ flag) (tail_is word (key_text choice.0) [] ((if is_flag choice.0 then [] else choice.1 ∷ []) ++ rest) (sym e ∙ spelled))

-- options of which each is given at most once, read from the left

-- the options that were read, followed by one more
pub one_more : (words rest more : List (List ℕ)) (values : List (Option (Bor (List ℕ)))) (k : Key) (v : Bor (List ℕ)) → key_place k < length values → AreGiven words rest values → value_given values k ≡ None →
    rest ≡ choice_words (k, v.now) ++ more → AreGiven words more (set values (key_place k) (Some v))
one_more words rest more values k v within given free e = record {
  choices = given.choices ++ (k, v.now) ∷ [];
  spelled = given.spelled ∙ ap (λ r. flat_map choice_words given.choices ++ r) e
      ∙ (sym (append_assoc (flat_map choice_words given.choices) (choice_words (k, v.now)) more)
      ∙ ap (λ front. front ++ more) (sym (flat_map-append choice_words given.choices ((k, v.now) ∷ []) ∙ ap (λ r. flat_map choice_words given.choices ++ r) (append-nil (choice_words (k, v.now))))));
  each = λ j. values_of-append j given.choices ((k, v.now) ∷ []) ∙ by_test j (key_place k == key_place j) refl;
}
  where
    by_test : (j : Key) (is : Bool) → (key_place k == key_place j) ≡ is → values_of j given.choices ++ values_of j ((k, v.now) ∷ []) ≡ given_to (set values (key_place k) (Some v)) j
    by_test j true is =
        let same = one_place k j ((Decides-eqb (key_place k) (key_place j)).0 is) in
        let none : values_of j given.choices ≡ [] = given.each j ∙ ap (λ (o : Option (Bor (List ℕ))). option_to_list (option_map (λ text. if is_flag j then [] else text.now) o)) (ap (value_given values) (sym same) ∙ free) in
        rw (is, none, sym same, get_or-set_same values (key_place k) (Some v) None within) refl
    by_test j false is =
        let apart : key_place j ≢ key_place k = λ e. not_from_Decides _ (Decides-eqb (key_place k) (key_place j)) is (sym e) in
        rw (is, get_or-set_other values (key_place k) (key_place j) (Some v) None apart) (append-nil _ ∙ given.each j)

-- if no option follows, the arguments are no options
pub not_given : (words rest : List (List ℕ)) (values : List (Option (Bor (List ℕ)))) → AreGiven words rest values → rest ≢ [] → IsNoChoiceAt rest → AreNotGiven words
not_given words rest values given some none choices e once = by_more (continues choices given.choices rest (sym e ∙ given.spelled))
  where
    by_more : Continues choices given.choices rest → ⊥
    by_more further = by_list further.more further.spelled
      where
        by_list : (more : List Choice) → rest ≡ flat_map choice_words more → ⊥
        by_list [] spelled = some spelled
        by_list (choice ∷ more) spelled = none choice (flat_map choice_words more) spelled

-- if a key follows that was given before, the arguments are not options of which each is given at most once
pub given_twice : (words rest more : List (List ℕ)) (values : List (Option (Bor (List ℕ)))) (k : Key) (v : List ℕ) → AreGiven words rest values → value_given values k ≢ None → rest ≡ choice_words (k, v) ++ more → AreNotGiven words
given_twice words rest more values k v given before e choices all once =
    let front = continues choices given.choices rest (sym all ∙ given.spelled) in
    let next = continues front.more ((k, v) ∷ []) more (sym front.spelled ∙ e ∙ sym (ap (λ (f : List (List ℕ)). f ++ more) (append-nil (choice_words (k, v))))) in
    let same : (key_place k == key_place k) ≡ true = (Decides-eqb (key_place k) (key_place k)).1 refl in
    let two : length (values_of k choices) ≡ length (given_to values k) + length (values_of k ((k, v) ∷ []) ++ values_of k next.more) =
    ap length (front.each k ∙ (ap (λ vs. vs ++ values_of k front.more) (given.each k) ∙ ap (λ vs. given_to values k ++ vs) (next.each k))) ∙ length-append (given_to values k) _ in
    let later : 1 ≤ length (values_of k ((k, v) ∷ []) ++ values_of k next.more) = rw same (omega arith) in
    omega (arith, once k, two, later, has_one (value_given values k) before)
  where
    has_one : (o : Option (Bor (List ℕ))) → o ≢ None → 1 ≤ length (option_to_list (option_map (λ (text : Bor (List ℕ)). if is_flag k then [] else text.now) o))
    has_one None some = absurd (some refl)
    has_one (Some text) some = omega arith
