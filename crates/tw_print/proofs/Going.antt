-- Printing one text after another.
use Rattle.std.proofs.Common.{◌≡◌, ◌∙◌, ap, sym, subst, ℕ, List, [], ◌++◌, append_assoc, Option, refl}
use Rattle.tw_io.specs.Devices.{Rose}
use Rattle.tw_io.proofs.Devices.{appends_nothing, appends_both, appends_prefix_longer, appends_prefix_then}
use Rattle.tw_print.specs.declared.progress.Progress.{Progress}
use Rattle.tw_print.specs.declared.progress.Progress.TheVariants.{Going, Broken}
use Rattle.tw_print.specs.Progress.{Failed, GoesOn, Goes}

on_then : {K : Type 0} (taken : K → Option (List ℕ)) (faults : K → ℕ) (a b c : K) (p q r : Progress) (xs ys : List ℕ) → GoesOn taken faults a b p q xs → GoesOn taken faults b c q r ys → GoesOn taken faults a c p r (xs ++ ys)
on_then taken faults a b c Going Going Going xs ys first next = record { whole = appends_both _ _ _ xs ys first.whole next.whole; steady = next.steady ∙ first.steady }
on_then taken faults a b c Going Going Broken xs ys first next = record { front = appends_prefix_then _ _ _ xs ys first.whole next.front; cause = subst (λ (count : ℕ). Rose count (faults c)) first.steady next.cause }
on_then {K} taken faults a b c Going Broken Broken xs ys first next = subst (λ (k : K). Failed taken faults a k (xs ++ ys)) (sym next) (record { front = appends_prefix_longer _ _ xs ys first.front; cause = first.cause })
on_then taken faults a b c Broken Broken Broken xs ys first next = next ∙ first
on_then taken faults a b c Going Broken Going xs ys first next = absurd next
on_then taken faults a b c Broken Going r xs ys first next = absurd first
on_then taken faults a b c Broken Broken Going xs ys first next = absurd next

-- one text, then another
pub goes_then : {K : Type 0} {taken : K → Option (List ℕ)} {faults : K → ℕ} {a b c : K} {p q r : Progress} {xs ys : List ℕ} →
    Goes taken faults a b p q xs → Goes taken faults b c q r ys → Goes taken faults a c p r (xs ++ ys)
goes_then first next = record { on = on_then _ _ _ _ _ _ _ _ _ _ first.on next.on }

-- the empty text
pub goes_none : {K : Type 0} (taken : K → Option (List ℕ)) (faults : K → ℕ) (a : K) (p : Progress) → Goes taken faults a a p p []
goes_none taken faults a Going = record { on = record { whole = appends_nothing (taken a); steady = refl } }
goes_none taken faults a Broken = record { on = refl }

-- a line whose last part has the newline
pub ends_two : (xs ys zs end : List ℕ) → (xs ++ (ys ++ zs)) ++ end ≡ xs ++ (ys ++ (zs ++ end))
ends_two xs ys zs end = append_assoc xs (ys ++ zs) end ∙ ap (λ x. xs ++ x) (append_assoc ys zs end)

pub ends_three : (xs ys zs us end : List ℕ) → (xs ++ (ys ++ (zs ++ us))) ++ end ≡ xs ++ (ys ++ (zs ++ (us ++ end)))
ends_three xs ys zs us end = append_assoc xs (ys ++ (zs ++ us)) end ∙ ap (λ x. xs ++ x) (ends_two ys zs us end)
