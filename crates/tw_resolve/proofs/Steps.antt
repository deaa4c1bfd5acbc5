-- The steps that the searches of aliases still take.
use Rattle.std.proofs.Common.{◌≡◌, ◌∙◌, ◌||◌, if◌then◌else◌, ℕ, ◌+◌, ◌≤◌, Bool, true, false, List, [], ◌∷◌, Some, bytes_eq, ap, sym, subst, refl, arith}
use Rattle.std.proofs.lemmas.Slice.Eq.{bytes_eq-Decides}
use Rattle.tw_syntax.specs.Programs.{AliasTree}
use Rattle.tw_syntax.specs.Types.{WrittenTree}
use Rattle.tw_resolve.specs.Declarations.{Name, declared_as}
use Rattle.tw_resolve.specs.Searches.{part_count, alias_steps}

share : (k m : Bool) (n : ℕ) → (k ≡ true → m ≡ true) → (if m then 0 else n) ≤ (if k then 0 else n)
share true m n kept = rw (kept refl) (omega arith)
share false true n kept = omega arith
share false false n kept = omega arith

-- one more name takes no step back
pub steps_stay : (reached after : Name → Bool) (name : Name) → ((other : Name) → after other ≡ (reached other || bytes_eq other name))
    → (aliases : List AliasTree) → alias_steps after aliases ≤ alias_steps reached aliases
steps_stay reached after name more [] = omega arith
steps_stay reached after name more (alias ∷ aliases) =
    let text = alias.name.text in
    let here = share (reached text) (after text) (1 + part_count alias.body) (λ is. more text ∙ rw is refl) in
    let rest = steps_stay reached after name more aliases in
    omega arith

-- the name of an alias takes its steps
pub steps_once : (reached after : Name → Bool) (name : Name) (body : WrittenTree) → ((other : Name) → after other ≡ (reached other || bytes_eq other name))
    → reached name ≡ false → (aliases : List AliasTree) → declared_as aliases name ≡ Some body
    → alias_steps after aliases + (1 + part_count body) ≤ alias_steps reached aliases
steps_once reached after name body more new [] is = absurd (cc is)
steps_once reached after name body more new (alias ∷ aliases) is =
    by (bytes_eq name alias.name.text) refl is (steps_once reached after name body more new aliases)
  where
    text : Name
    text = alias.name.text

    by : (k : Bool) → bytes_eq name alias.name.text ≡ k → (if k then Some alias.body else declared_as aliases name) ≡ Some body
        → (declared_as aliases name ≡ Some body → alias_steps after aliases + (1 + part_count body) ≤ alias_steps reached aliases)
        → alias_steps after (alias ∷ aliases) + (1 + part_count body) ≤ alias_steps reached (alias ∷ aliases)
    by true same body_is rest =
        let equal : name ≡ alias.name.text = (bytes_eq-Decides name alias.name.text).0 same in
        let was : reached alias.name.text ≡ false = subst (λ (n : Name). reached n ≡ false) equal new in
        let itself : bytes_eq alias.name.text name ≡ true = (bytes_eq-Decides alias.name.text name).1 (sym equal) in
        let now : after alias.name.text ≡ true = more alias.name.text ∙ rw (was, itself) refl in
        let parts : part_count alias.body ≡ part_count body = ap part_count (some alias.body body body_is) in
        let others = steps_stay reached after name more aliases in
        rw (was, now) (omega arith)
      where
        some : (x y : WrittenTree) → Some x ≡ Some y → x ≡ y
        some x y e = cc e
    by false differs body_is rest =
        let here = share (reached alias.name.text) (after alias.name.text) (1 + part_count alias.body) (λ is. more alias.name.text ∙ rw is refl) in
        let below = rest body_is in
        omega arith
