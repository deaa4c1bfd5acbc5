-- When a number after a keyword passes its limit.
use Rattle.std.proofs.Common.{◌≡◌, ◌∙◌, ap, sym, ℕ, ◌≤◌, List, Some, None, arith}
use Rattle.std.proofs.lemmas.Fmt.{decimal_injective}
use Rattle.tw_text.specs.Limits.{limit_of}
use Rattle.tw_text.specs.Prefix.{after}
use Rattle.tw_text.specs.declared.refusal.Refusal.{Refusal}
use Rattle.tw_text.proofs.Prefixes.{after-append}
use Rattle.tw_gatetext.specs.Numerals.{Shows, Word, Larger}
use Rattle.tw_gatetext.specs.Refused.{Limit, PassesLimit}
use Rattle.tw_gatetext.proofs.DigitRuns.{not_after}

-- a text shows at most one number
pub shows_one : (text : List ℕ) (n m : ℕ) → Shows text n → Shows text m → n ≡ m
shows_one text n m (Word small is) (Word small' is') = decimal_injective n m small small' (sym is ∙ is')
shows_one text n m (Word small is) (Larger larger greatest) = absurd (larger.no_word n small is)
shows_one text n m (Larger larger greatest) (Word small is) = absurd (larger.no_word m small is)
shows_one text n m (Larger larger greatest) (Larger larger' greatest') = greatest ∙ sym greatest'

-- the number that passes a limit is the one that the suffix after the keyword shows
shown_behind : (limit : Limit) (bytes behind : List ℕ) (refusal : Refusal) → Some behind ≡ after limit.word bytes → (passes : PassesLimit limit bytes refusal) → Shows behind passes.found
shown_behind limit bytes behind refusal found passes =
    let other : Some passes.behind ≡ Some behind = sym (after-append limit.word passes.behind) ∙ ap (after limit.word) (sym passes.begins) ∙ sym found in
    let same : passes.behind ≡ behind = cc in
    rw same at passes.shows

pub no_word : (limit : Limit) (bytes : List ℕ) → None ≡ after limit.word bytes → (refusal : Refusal) → PassesLimit limit bytes refusal → ⊥
no_word limit bytes none refusal passes = not_after limit.word bytes passes.behind none passes.begins

pub no_number : (limit : Limit) (bytes behind : List ℕ) → Some behind ≡ after limit.word bytes → ((n : ℕ) → Shows behind n → ⊥) → (refusal : Refusal) → PassesLimit limit bytes refusal → ⊥
no_number limit bytes behind found none refusal passes = none passes.found (shown_behind limit bytes behind refusal found passes)

pub within_limit : (limit : Limit) (bytes behind : List ℕ) (number : ℕ) → Some behind ≡ after limit.word bytes → Shows behind number → number ≤ limit_of limit.what → (refusal : Refusal) → PassesLimit limit bytes refusal → ⊥
within_limit limit bytes behind number found shows within refusal passes =
    absurd (omega (arith, passes.above, shows_one behind passes.found number (shown_behind limit bytes behind refusal found passes) shows))
