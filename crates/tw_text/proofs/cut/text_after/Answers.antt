use Rattle.std.proofs.Common.{◌≡◌, ◌++◌, ℕ, List, Option, Some, None, IfSome, Bor, MatchOption}
use Rattle.std.specs.Option.{IfNone}
use Rattle.std.specs.Str.{chars, IsUtf8}
use Rattle.std.specs.Str.Pattern.{FindsTextPrefix, StripsPrefix}
use Rattle.tw_text.specs.Suffixes.{Follows}
use Rattle.tw_text.proofs.Suffixes.{follows, no_prefix}
use Rattle.tw_text.proofs.cut.text_after.Goals as goal

found : (text prefix : List ℕ) (r : Option (Bor (List ℕ))) → IsUtf8 prefix → MatchOption r (FindsTextPrefix prefix text None) (λ x. StripsPrefix (FindsTextPrefix prefix) text x.now) → IfSome r (λ rest. Follows text prefix rest.now)
found text prefix None utf8 h = tt
found text prefix (Some x) utf8 h = follows text prefix x.now utf8 h

missed : (text prefix : List ℕ) (r : Option (Bor (List ℕ))) → IsUtf8 text → IsUtf8 prefix → MatchOption r (FindsTextPrefix prefix text None) (λ x. StripsPrefix (FindsTextPrefix prefix) text x.now) → IfNone r ((mid : List ℕ) → chars text ≡ chars prefix ++ mid → ⊥)
missed text prefix None utf8 utf8' h = no_prefix text prefix utf8 utf8' h
missed text prefix (Some x) utf8 utf8' h = tt

pub returns-clause-some : goal.returns-clause-some
returns-clause-some c = found c.args.text.now c.args.prefix.now c.strip_prefix.result c.utf8.prefix c.strip_prefix.ensures.cases

pub returns-clause-none : goal.returns-clause-none
returns-clause-none c = missed c.args.text.now c.args.prefix.now c.strip_prefix.result c.utf8.text c.utf8.prefix c.strip_prefix.ensures.cases
