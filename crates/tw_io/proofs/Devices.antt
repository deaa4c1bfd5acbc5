-- Composition of calls on one device: what two calls in sequence take from a source or give to a sink.
use Rattle.std.proofs.Common.{ℕ, List, [], ◌++◌, Option, Some, None, Result, Ok, Err, refl, sym, ap, subst, ◌∙◌, append_assoc, append-nil}
use Rattle.tw_io.specs.declared.device.WriteFault.{WriteFault}
use Rattle.tw_io.specs.Devices.{Rose, Takes, Appends, AppendsPrefix, Wrote}

-- xs and then ys compose to xs ++ ys
pub takes_both : (a b c : Option (List ℕ)) (xs ys : List ℕ) → Takes a b xs → Takes b c ys → Takes a c (xs ++ ys)
takes_both None None None xs ys first second = tt
takes_both None None (Some c) xs ys first second = absurd second
takes_both None (Some b) c xs ys first second = absurd first
takes_both (Some a) None c xs ys first second = absurd first
takes_both (Some a) (Some b) None xs ys first second = absurd second
takes_both (Some a) (Some b) (Some c) xs ys first second =
    first ∙ ap (λ (rest : List ℕ). xs ++ rest) second ∙ sym (append_assoc xs ys c)

-- a sink that is unchanged took nothing
pub appends_nothing : (taken : Option (List ℕ)) → Appends taken taken []
appends_nothing None = tt
appends_nothing (Some bytes) = sym (append-nil bytes)

-- xs and then ys compose to xs ++ ys
pub appends_both : (a b c : Option (List ℕ)) (xs ys : List ℕ) → Appends a b xs → Appends b c ys → Appends a c (xs ++ ys)
appends_both None None None xs ys first second = tt
appends_both None None (Some c) xs ys first second = absurd second
appends_both None (Some b) c xs ys first second = absurd first
appends_both (Some a) None c xs ys first second = absurd first
appends_both (Some a) (Some b) None xs ys first second = absurd second
appends_both (Some a) (Some b) (Some c) xs ys first second =
    second ∙ ap (λ (taken : List ℕ). taken ++ ys) first ∙ append_assoc a xs ys

-- a prefix of xs is a prefix of a longer text
pub appends_prefix_longer : (a b : Option (List ℕ)) (xs ys : List ℕ) → AppendsPrefix a b xs → AppendsPrefix a b (xs ++ ys)
appends_prefix_longer a b xs ys part = record {
  prefix = part.prefix;
  suffix = part.suffix ++ ys;
  split = ap (λ (text : List ℕ). text ++ ys) part.split ∙ append_assoc part.prefix part.suffix ys;
  taken = part.taken;
}

-- xs whole and then a prefix of ys compose to a prefix of xs ++ ys
pub appends_prefix_then : (a b c : Option (List ℕ)) (xs ys : List ℕ) → Appends a b xs → AppendsPrefix b c ys → AppendsPrefix a c (xs ++ ys)
appends_prefix_then a b c xs ys first part = record {
  prefix = xs ++ part.prefix;
  suffix = part.suffix;
  split = ap (λ (text : List ℕ). xs ++ text) part.split ∙ sym (append_assoc xs part.prefix part.suffix);
  taken = appends_both a b c xs part.prefix first part.taken;
}

-- a sink that is as it was has the empty text written to it
pub wrote_none : {K : Type 0} (taken : K → Option (List ℕ)) (faults : K → ℕ) (a : K) → Wrote taken faults a a (Ok tt) []
wrote_none taken faults a = record { whole = appends_nothing (taken a); broken = tt; cause = tt; steady = refl }

-- xs whole, then what is written of ys, is what is written of both
pub wrote_then : {K : Type 0} (taken : K → Option (List ℕ)) (faults : K → ℕ) (a b c : K) (result : Result (Unit {0}) WriteFault) (xs ys : List ℕ) → Wrote taken faults a b (Ok tt) xs → Wrote taken faults b c result ys → Wrote taken faults a c result (xs ++ ys)
wrote_then taken faults a b c (Ok u) xs ys first second = record {
  whole = appends_both (taken a) (taken b) (taken c) xs ys first.whole second.whole;
  broken = tt;
  cause = tt;
  steady = second.steady ∙ first.steady;
}
wrote_then taken faults a b c (Err e) xs ys first second = record {
  whole = tt;
  broken = appends_prefix_then (taken a) (taken b) (taken c) xs ys first.whole second.broken;
  cause = subst (λ (count : ℕ). Rose count (faults c)) first.steady second.cause;
  steady = tt;
}

-- a fault within xs is a fault within any longer text
pub wrote_prefix : {K : Type 0} (taken : K → Option (List ℕ)) (faults : K → ℕ) (a b : K) (fault : WriteFault) (xs ys : List ℕ) → Wrote taken faults a b (Err fault) xs → Wrote taken faults a b (Err fault) (xs ++ ys)
wrote_prefix taken faults a b fault xs ys first = record {
  whole = tt;
  broken = appends_prefix_longer (taken a) (taken b) xs ys first.broken;
  cause = first.cause;
  steady = tt;
}
