-- Pieces put behind a chunk one after the other.
use Rattle.std.proofs.Common.{◌≡◌, ◌∙◌, ap, sym, ℕ, List, [], ◌++◌, Option, Result, Ok, Err, append_assoc, append-nil}
use Rattle.tw_io.specs.declared.device.WriteFault.{WriteFault}
use Rattle.tw_io.specs.Devices.{Wrote}
use Rattle.tw_io.proofs.Devices.{wrote_none, wrote_then, wrote_prefix}
use Rattle.tw_gatetext.specs.Inverting.{Put}

module _ {K : Type 0} (taken : K → Option (List ℕ)) (faults : K → ℕ) where
  -- the piece is behind the chunk
  pub put_kept : (a : K) (before now piece : List ℕ) → now ≡ before ++ piece → Put taken faults a a (Ok tt) before now piece
  put_kept a before now piece is = record { whole = ([], wrote_none taken faults a, sym is); broken = tt }

  -- the chunk was written, and the outcome for the piece is the outcome for both
  pub put_flushed : (a b c : K) (result : Result (Unit {0}) WriteFault) (before now piece : List ℕ) → now ≡ [] → Wrote taken faults a b (Ok tt) before → Wrote taken faults b c result piece
      → Put taken faults a c result before now piece
  put_flushed a b c (Ok u) before now piece none first second =
      record {
        whole = (before ++ piece, wrote_then taken faults a b c (Ok tt) before piece first second, rw none (sym (append-nil (before ++ piece))));
        broken = tt;
      }
  put_flushed a b c (Err e) before now piece none first second =
      record { whole = tt; broken = wrote_then taken faults a b c (Err e) before piece first second }

  -- the chunk was not written whole
  pub put_broke : (a b : K) (fault : WriteFault) (before now piece : List ℕ) → Wrote taken faults a b (Err fault) before → Put taken faults a b (Err fault) before now piece
  put_broke a b fault before now piece wrote = record { whole = tt; broken = wrote_prefix taken faults a b fault before piece wrote }

  -- two pieces put one after the other are put as one
  pub put_both : (a b c : K) (result : Result (Unit {0}) WriteFault) (before mid now p q : List ℕ) → Put taken faults a b (Ok tt) before mid p → Put taken faults b c result mid now q
      → Put taken faults a c result before now (p ++ q)
  put_both a b c (Ok u) before mid now p q first second =
      let w = first.whole.0 in
      let v = second.whole.0 in
      record {
        whole = (
          w ++ v,
          wrote_then taken faults a b c (Ok tt) w v first.whole.1 second.whole.1,
          sym (append_assoc before p q) ∙ ap (λ (t : List ℕ). t ++ q) first.whole.2 ∙ append_assoc w mid q ∙ ap (λ (t : List ℕ). w ++ t) second.whole.2 ∙ sym (append_assoc w v now),
        );
        broken = tt;
      }
  put_both a b c (Err e) before mid now p q first second =
      let w = first.whole.0 in
      record {
        whole = tt;
        broken = rw (sym (append_assoc before p q) ∙ ap (λ (t : List ℕ). t ++ q) first.whole.2 ∙ append_assoc w mid q)
            (wrote_then taken faults a b c (Err e) w (mid ++ q) first.whole.1 second.broken);
      }

  -- a break in the first of two pieces is a break in both as one
  pub put_broke_first : (a b : K) (fault : WriteFault) (before mid now p q : List ℕ) → Put taken faults a b (Err fault) before mid p → Put taken faults a b (Err fault) before now (p ++ q)
  put_broke_first a b fault before mid now p q first =
      record { whole = tt; broken = rw (sym (append_assoc before p q)) (wrote_prefix taken faults a b fault (before ++ p) q first.broken) }
