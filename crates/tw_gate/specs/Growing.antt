-- A list of gates takes gates by the laws of takers.
use Rattle.std.proofs.Common.{◌∙◌, ap, sym, List, [], ◌++◌, append_assoc, append-nil, refl}
use Rattle.tw_gate.specs.Gates.{PlainGate}
use Rattle.tw_gate.specs.Taking.{Grew, GrewPrefix}

-- an unchanged list took nothing
pub grew_none : (a : List PlainGate) → Grew a a []
grew_none a = sym (append-nil a)

-- xs taken, then ys, is both taken
pub grew_both : (a b c xs ys : List PlainGate) → Grew a b xs → Grew b c ys → Grew a c (xs ++ ys)
grew_both a b c xs ys first second = second ∙ ap (λ (prefix : List PlainGate). prefix ++ ys) first ∙ append_assoc a xs ys

-- xs taken, then a prefix of ys, is a prefix of both taken
pub grew_prefix_later : (a b c xs ys : List PlainGate) → Grew a b xs → GrewPrefix b c ys → GrewPrefix a c (xs ++ ys)
grew_prefix_later a b c xs ys first part = record {
  prefix = xs ++ part.prefix;
  rest = part.rest;
  split = ap (λ (more : List PlainGate). xs ++ more) part.split ∙ sym (append_assoc xs part.prefix part.rest);
  grew = grew_both a b c xs part.prefix first part.grew;
}

-- a prefix of xs is a prefix of a longer list
pub grew_prefix_longer : (a b xs ys : List PlainGate) → GrewPrefix a b xs → GrewPrefix a b (xs ++ ys)
grew_prefix_longer a b xs ys part = record {
  prefix = part.prefix;
  rest = part.rest ++ ys;
  split = ap (λ (begun : List PlainGate). begun ++ ys) part.split ∙ append_assoc part.prefix part.rest ys;
  grew = part.grew;
}

-- an unchanged list took a prefix of every list
pub grew_prefix_none : (a xs : List PlainGate) → GrewPrefix a a xs
grew_prefix_none a xs = record { prefix = []; rest = xs; split = refl; grew = grew_none a }
