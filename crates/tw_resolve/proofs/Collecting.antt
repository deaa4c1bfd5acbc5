-- Targets that are added one after the other.
use denote.Bor.{Bor}
use Rattle.std.proofs.Common.{Result, Ok, Err, OnOk, ◌≡◌, ◌∙◌, ℕ, List, [], ◌∷◌, ◌++◌, fold, ap, sym, refl}
use Rattle.std.proofs.lemmas.List.Sums.{fold-append}
use Rattle.tw_syntax.specs.declared.written.Written.{Written}
use Rattle.tw_syntax.specs.Types.{WrittenTree}
use Rattle.tw_resolve.specs.Collects.{Collects}
use Rattle.tw_resolve.specs.Declarations.{with_target}
use Rattle.tw_resolve.specs.Entries.{table_targets}

pub collects_none : (table : List (Bor (List ℕ) × Bor Written)) → Collects table table []
collects_none table = record { all = refl }

pub collects_one : (old new : List (Bor (List ℕ) × Bor Written)) (to : WrittenTree) → table_targets new ≡ with_target (table_targets old) to → Collects old new (to ∷ [])
collects_one old new to is = record { all = is }

pub collects_then : {old mid new : List (Bor (List ℕ) × Bor Written)} {xs ys : List WrittenTree} → Collects old mid xs → Collects mid new ys → Collects old new (xs ++ ys)
collects_then {old} {mid} {new} {xs} {ys} first second = record {
  all = second.all ∙ ap (λ (targets : List WrittenTree). fold with_target targets ys) first.all ∙ sym (fold-append with_target (table_targets old) xs ys);
}

-- the same, if the second call succeeds
pub collects_then_ok : {A E : Type 0} {old mid : List (Bor (List ℕ) × Bor Written)} {xs : List WrittenTree} (new : List (Bor (List ℕ) × Bor Written)) (ys : List WrittenTree) (result : Result A E)
    → Collects old mid xs → OnOk result (Collects mid new ys) → OnOk result (Collects old new (xs ++ ys))
collects_then_ok new ys (Ok x) first second = collects_then first second
collects_then_ok new ys (Err why) first second = tt
