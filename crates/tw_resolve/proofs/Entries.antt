-- What is found in the tables of the code, and what an insertion keeps.
use denote.Bor.{Bor}
use Rattle.std.proofs.Common.{◌≡◌, ◌∙◌, ◌<◌, ◌≤◌, suc, arith, ◌||◌, ℕ, Bool, true, false, cond, List, [], ◌∷◌, map, Option, Some, None, option_map, is_some, IfSome, Result, Ok, Err, OnOk, OnErr, position, length, ap, sym, subst, refl, bytes_eq}
use Rattle.std.specs.List.{AllByRecursion, position_or_len}
use Rattle.std.specs.Map.{lookup, keys_of}
use Rattle.std.proofs.lemmas.List.{length-map}
use Rattle.std.proofs.lemmas.Slice.Eq.{bytes_eq-Decides}
use Rattle.indexmap.specs.IndexMap.{insert_entry}
use Rattle.tw_syntax.specs.declared.program.Alias.{Alias}
use Rattle.tw_syntax.specs.Programs.{alias_tree}
use Rattle.tw_syntax.specs.Types.{WrittenTree}
use Rattle.tw_resolve.specs.Declarations.{Name, is_one_of, declared_as}
use Rattle.tw_resolve.specs.Entries.{IsNamedBy, IsAlias, aliases_in}
use Rattle.tw_resolve.proofs.Each.{each_always, each_weaker}

-- what is found has what all values have
pub found_has : {V : Type 0} (P : V → Type 0) (test : Bor (List ℕ) → Bool) (entries : List (Bor (List ℕ) × V))
    → AllByRecursion (λ entry. P entry.1) entries → IfSome (lookup test entries) P
found_has P test [] all = tt
found_has P test (entry ∷ entries) all = elim (test entry.0) as (λ k. IfSome (cond k (Some entry.1) (lookup test entries)) P)
    [ true ↦ all.0 | false ↦ found_has P test entries all.1 ]

-- the first position is the same for a test that agrees on each element
same_or_len : {X Y : Type 0} (p : X → Bool) (q : Y → Bool) (f : X → Y) (xs : List X) → AllByRecursion (λ x. p x ≡ q (f x)) xs
    → position_or_len p xs ≡ position_or_len q (map f xs)
same_or_len p q f [] same = refl
same_or_len p q f (x ∷ xs) same = rw (same.0, same_or_len p q f xs same.1) refl

same_position : {X Y : Type 0} (p : X → Bool) (q : Y → Bool) (f : X → Y) (xs : List X) → AllByRecursion (λ x. p x ≡ q (f x)) xs
    → position p xs ≡ position q (map f xs)
same_position p q f xs same = rw (same_or_len p q f xs same, length-map xs f) refl

pub position-map : {X Y : Type 0} (q : Y → Bool) (f : X → Y) (xs : List X) → position q (map f xs) ≡ position (λ x. q (f x)) xs
position-map q f xs = sym (same_position (λ x. q (f x)) q f xs (each_always _ (λ x. refl) xs))

module _ {V T : Type 0} (tree : V → T) (text : T → Name) where
  -- the trees of the entries
  abbrev trees : List (Bor (List ℕ) × V) → List T
  trees entries = map (λ entry. tree entry.1) entries

  -- the position of a text among the trees is that of its key
  pub position_of_text : (entries : List (Bor (List ℕ) × V)) → AllByRecursion (IsNamedBy tree text) entries → (name : Name)
      → position (λ key. bytes_eq name key.now) (keys_of entries) ≡ position (λ x. bytes_eq name (text x)) (trees entries)
  position_of_text entries named name =
      position-map (λ (key : Bor (List ℕ)). bytes_eq name key.now) (λ entry. entry.0) entries
      ∙ same_position (λ (entry : Bor (List ℕ) × V). bytes_eq name entry.0.now) (λ (x : T). bytes_eq name (text x)) (λ entry. tree entry.1) entries
      (each_weaker (IsNamedBy tree text) _ (λ entry is. ap (bytes_eq name) is.key) entries named)

  -- a name is the text of a tree if it is found
  pub is_one_of-found : (entries : List (Bor (List ℕ) × V)) → AllByRecursion (IsNamedBy tree text) entries → (name : Name)
      → is_one_of name (map text (trees entries)) ≡ is_some (lookup (λ key. bytes_eq name key.now) entries)
  is_one_of-found [] named name = refl
  is_one_of-found (entry ∷ entries) named name =
      ap (λ (key : Name). bytes_eq name key || is_one_of name (map text (trees entries))) (sym named.0.key)
      ∙ by (bytes_eq name entry.0.now) (is_one_of-found entries named.1 name)
    where
      by : (k : Bool) → is_one_of name (map text (trees entries)) ≡ is_some (lookup (λ key. bytes_eq name key.now) entries)
          → (k || is_one_of name (map text (trees entries))) ≡ is_some (cond k (Some entry.1) (lookup (λ key. bytes_eq name key.now) entries))
      by true same = refl
      by false same = same

  -- a value that is inserted under its own text stands under it, by each test of keys that tells texts apart
  all_insert : (eq : Bor (List ℕ) → Bor (List ℕ) → Bool) (key : Bor (List ℕ)) (value : V)
      → ((other : Bor (List ℕ)) → eq key other ≡ true → other.now ≡ key.now) → key.now ≡ text (tree value) → (entries : List (Bor (List ℕ) × V))
      → AllByRecursion (IsNamedBy tree text) entries → AllByRecursion (IsNamedBy tree text) (insert_entry eq entries key value)
  all_insert eq key value same own [] all = (record { key = own }, tt)
  all_insert eq key value same own (entry ∷ entries) all = by (eq key entry.0) refl (all_insert eq key value same own entries all.1)
    where
      by : (k : Bool) → eq key entry.0 ≡ k → AllByRecursion (IsNamedBy tree text) (insert_entry eq entries key value)
          → AllByRecursion (IsNamedBy tree text) (cond k ((entry.0, value) ∷ entries) (entry ∷ insert_entry eq entries key value))
      by true is rest = (record { key = same entry.0 is ∙ own }, all.1)
      by false is rest = (all.0, rest)

  -- entries stay, or a value is inserted under its own text: each value stands under its text
  pub named_after : {A E : Type 0} (old new : List (Bor (List ℕ) × V)) (key : Bor (List ℕ)) (value : V) (result : Result A E)
      → OnOk result (new ≡ insert_entry (λ x y. bytes_eq x.now y.now) old key value) → OnErr result (new ≡ old) → key.now ≡ text (tree value)
      → AllByRecursion (IsNamedBy tree text) old → AllByRecursion (IsNamedBy tree text) new
  named_after old new key value (Ok x) ok err own was =
      subst (AllByRecursion (IsNamedBy tree text)) (sym ok)
      (all_insert (λ x y. bytes_eq x.now y.now) key value (λ other same. sym ((bytes_eq-Decides key.now other.now).0 same)) own old was)
  named_after old new key value (Err x) ok err own was = subst (AllByRecursion (IsNamedBy tree text)) (sym err) was

pub absent : {A : Type 0} (found : Option A) → is_some found ≡ false → found ≡ None
absent None none = refl
absent (Some x) none = absurd (cc none)

-- what an alias is declared as
abbrev pub body_of : Bor Alias → WrittenTree
body_of alias = (alias_tree alias.now).body

-- the first of two aliases, or else what is found in the others
first_or_other : (k : Bool) (alias : Bor Alias) (rest : Option WrittenTree) (other : Option (Bor Alias)) → rest ≡ option_map body_of other
    → cond k (Some (body_of alias)) rest ≡ option_map body_of (cond k (Some alias) other)
first_or_other true alias rest other same = refl
first_or_other false alias rest other same = same

-- the declaration of an alias is found under its name
pub declared_as-found : (entries : List (Bor (List ℕ) × Bor Alias)) → AllByRecursion IsAlias entries → (name : Name)
    → declared_as (aliases_in entries) name ≡ option_map body_of (lookup (λ key. bytes_eq name key.now) entries)
declared_as-found [] keyed name = refl
declared_as-found (entry ∷ entries) keyed name =
    ap (λ (key : Name). cond (bytes_eq name key) (Some (body_of entry.1)) (declared_as (aliases_in entries) name)) (sym keyed.0.key)
    ∙ first_or_other (bytes_eq name entry.0.now) entry.1 (declared_as (aliases_in entries) name) (lookup (λ key. bytes_eq name key.now) entries)
    (declared_as-found entries keyed.1 name)

-- an insertion adds at most one entry
length_insert : {V : Type 0} (eq : Bor (List ℕ) → Bor (List ℕ) → Bool) (key : Bor (List ℕ)) (value : V) (entries : List (Bor (List ℕ) × V))
    → length (insert_entry eq entries key value) ≤ suc (length entries)
length_insert eq key value [] = omega arith
length_insert eq key value (entry ∷ entries) = by (eq key entry.0) (length_insert eq key value entries)
  where
    by : (k : Bool) → length (insert_entry eq entries key value) ≤ suc (length entries)
        → length (cond k ((entry.0, value) ∷ entries) (entry ∷ insert_entry eq entries key value)) ≤ suc (suc (length entries))
    by true rest = omega arith
    by false rest = omega (arith, rest)

pub few_after : {V A E : Type 0} (old new : List (Bor (List ℕ) × V)) (key : Bor (List ℕ)) (value : V) (result : Result A E) (most : ℕ)
    → OnOk result (new ≡ insert_entry (λ x y. bytes_eq x.now y.now) old key value) → OnErr result (new ≡ old) → length old < most → length new ≤ most
few_after old new key value (Ok x) most ok err few =
    let longer = length_insert (λ x y. bytes_eq x.now y.now) key value old in
    let same = ap length ok in
    omega (arith, longer, few, same)
few_after old new key value (Err x) most ok err few =
    let same = ap length err in
    omega (arith, few, same)
