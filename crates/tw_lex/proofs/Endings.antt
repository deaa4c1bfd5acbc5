-- Where a text's pieces end: at its end, or where none stands.
use Rattle.std.proofs.Common.{◌≡◌, ◌∙◌, ap, sym, ℕ, List, Result, Ok, Err, IfOk, refl}
use Rattle.tw_text.specs.declared.place.Pos.{Pos}
use Rattle.tw_text.specs.declared.refusal.Refusal.{Refusal}
use Rattle.tw_text.specs.declared.refusal.Fault.{Fault}
use Rattle.tw_text.specs.declared.refusal.Rule.{Rule}
use Rattle.tw_text.specs.declared.refusal.Rule.TheVariants as rule
use Rattle.tw_text.specs.Places.{first_place}
use Rattle.tw_lex.specs.Tokens.{Lexed, HasTokens, StopsAt}
use Rattle.tw_lex.specs.Scans.{IsNoToken}
use Rattle.tw_lex.proofs.Splits.{one_reading, one_stop}

-- a text that stops at a place is refused there
pub refused_at : (cs : List ℕ) (at : Pos) (r : Refusal) → StopsAt cs first_place at → record { rule = rule.Token; at = at; found = 0; limit = 0 } ≡ r → IsNoToken cs r
refused_at cs at r stops is = rw (← is) (record { rule = refl; found = refl; limit = refl; stops = stops })

pub only_reading : {A : Type 0} (cs : List ℕ) (toks : A → List Lexed) (r : Result A Fault) → IfOk r (λ v. HasTokens cs first_place (toks v)) → IfOk r (λ v. (other : List Lexed) → HasTokens cs first_place other → other ≡ toks v)
only_reading cs toks (Ok v) h = λ other k. one_reading cs first_place (toks v) other h k
only_reading cs toks (Err e) h = tt

same_refusal : (a b : Refusal) → a.rule ≡ b.rule → a.at ≡ b.at → a.found ≡ b.found → a.limit ≡ b.limit → a ≡ b
same_refusal a b rule at found limit =
    ap (λ (x : Rule). record { rule = x; at = a.at; found = a.found; limit = a.limit }) rule ∙ ap (λ (x : Pos). record { rule = b.rule; at = x; found = a.found; limit = a.limit }) at
    ∙ ap (λ (x : ℕ). record { rule = b.rule; at = b.at; found = x; limit = a.limit }) found ∙ ap (λ (x : ℕ). record { rule = b.rule; at = b.at; found = b.found; limit = x }) limit

-- a text is refused in one way
pub one_refusal : (cs : List ℕ) (r other : Refusal) → IsNoToken cs r → IsNoToken cs other → other ≡ r
one_refusal cs r other n m =
    same_refusal other r (m.rule ∙ sym n.rule) (one_stop cs first_place other.at r.at m.stops n.stops) (m.found ∙ sym n.found) (m.limit ∙ sym n.limit)
