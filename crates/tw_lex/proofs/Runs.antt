-- Runs of characters that pass a test.
use Rattle.std.proofs.Common.{◌≡◌, ◌∙◌, ap, sym, ℕ, Bool, true, ◌+◌, List, [], ◌∷◌, ◌++◌, append_assoc, length-append, refl, arith}
use Rattle.std.proofs.lemmas.Bool.{and_parts}
use Rattle.std.specs.List.{list_all}
use Rattle.std.specs.Str.{chars}
use Rattle.std.proofs.lemmas.List.Folds.{list_all-append}
use Rattle.tw_text.specs.Suffixes.{Begins}
use Rattle.tw_text.proofs.Suffixes.{ends_with_both}
use Rattle.tw_lex.specs.Tokens.{Ends}
use Rattle.tw_lex.specs.Scans.{Runs}

pub runs_none : (test : ℕ → Bool) (text : List ℕ) → Runs test text text 0
runs_none test text = record { run = []; parts = refl; all = refl; counted = refl; short = omega arith; suffix = record { prefix = []; parts = refl } }

pub runs_more : (test : ℕ → Bool) (text rest following : List ℕ) (c count : ℕ) → Runs test text rest count → Begins rest c following → test c ≡ true → Runs test text following (count + 1)
runs_more test text rest following c count r b passed = record {
  run = r.run ++ c ∷ [];
  parts = r.parts ∙ ap (λ x. r.run ++ x) b.spelled ∙ sym (append_assoc r.run (c ∷ []) (chars following));
  all = list_all-append test r.run (c ∷ []) ∙ rw (r.all, passed) refl;
  counted = omega (arith, r.counted, length-append r.run (c ∷ []));
  short = omega (arith, r.short, b.shorter);
  suffix = ends_with_both text rest following r.suffix b.suffix;
}

-- two runs that end in one text are one
pub same_run : (test : ℕ → Bool) (xs ys mid nid : List ℕ) → list_all test xs ≡ true → list_all test ys ≡ true → Ends test mid → Ends test nid → xs ++ mid ≡ ys ++ nid → (xs ≡ ys) × (mid ≡ nid)
same_run test [] [] mid nid a b m n e = (refl, e)
same_run test [] (y ∷ ys) mid nid a b m n e =
    let none = rw e at m in
    let some = and_parts (test y) (list_all test ys) b in cc
same_run test (x ∷ xs) [] mid nid a b m n e =
    let none = rw (← e) at n in
    let some = and_parts (test x) (list_all test xs) a in cc
same_run test (x ∷ xs) (y ∷ ys) mid nid a b m n e =
    let prefix = and_parts (test x) (list_all test xs) a in
    let prefix' = and_parts (test y) (list_all test ys) b in
    let tails : xs ++ mid ≡ ys ++ nid = cc in
    let rest = same_run test xs ys mid nid prefix.1 prefix'.1 m n tails in
    let head : x ≡ y = cc in
    (cc, rest.1)
