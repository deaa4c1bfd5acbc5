-- A sink that is lent to a taker of gates obeys the laws of takers.
use Rattle.std.proofs.Common.{◌≡◌, ◌∙◌, ap, sym, ℕ, List, [], ◌∷◌, ◌++◌, Option, append_assoc, refl}
use Rattle.std.specs.Borrow.{MutBor}
use Rattle.tw_io.proofs.Devices.{appends_nothing, appends_both, appends_prefix_longer, appends_prefix_then}
use Rattle.tw_gate.specs.Gates.{PlainGate}
use Rattle.tw_gatetext.specs.Text.{line, lines}
use Rattle.tw_gatetext.specs.Taking.{TookLines, BrokeLines}

pub lines-append : (xs ys : List PlainGate) → lines (xs ++ ys) ≡ lines xs ++ lines ys
lines-append [] ys = refl
lines-append (gate ∷ xs) ys = ap (λ (rest : List ℕ). line gate ++ rest) (lines-append xs ys) ∙ sym (append_assoc (line gate) (lines xs) (lines ys))

module _ {K : Type 0} (taken : K → Option (List ℕ)) where
  -- an unchanged sink took no line
  pub lines_none : (a : MutBor K) → TookLines taken a a []
  lines_none a = record { same_sink = refl; whole = appends_nothing (taken a.now) }

  -- the lines of xs taken, then those of ys, are those of both taken
  pub lines_both : (a b c : MutBor K) (xs ys : List PlainGate) → TookLines taken a b xs → TookLines taken b c ys → TookLines taken a c (xs ++ ys)
  lines_both a b c xs ys first second = record {
    same_sink = second.same_sink ∙ first.same_sink;
    whole = rw (lines-append xs ys) (appends_both (taken a.now) (taken b.now) (taken c.now) (lines xs) (lines ys) first.whole second.whole);
  }

  -- the lines of xs taken, then a prefix of those of ys, are a prefix of those of both taken
  pub lines_later : (a b c : MutBor K) (xs ys : List PlainGate) → TookLines taken a b xs → BrokeLines taken b c ys → BrokeLines taken a c (xs ++ ys)
  lines_later a b c xs ys first second = record {
    same_sink = second.same_sink ∙ first.same_sink;
    front = rw (lines-append xs ys) (appends_prefix_then (taken a.now) (taken b.now) (taken c.now) (lines xs) (lines ys) first.whole second.front);
  }

  -- a prefix of the lines of xs is a prefix of those of a longer list
  pub lines_longer : (a b : MutBor K) (xs ys : List PlainGate) → BrokeLines taken a b xs → BrokeLines taken a b (xs ++ ys)
  lines_longer a b xs ys first = record {
    same_sink = first.same_sink;
    front = rw (lines-append xs ys) (appends_prefix_longer (taken a.now) (taken b.now) (lines xs) (lines ys) first.front);
  }
