use Rattle.std.proofs.Common.{◌≡◌, ℕ, List, ◌++◌, take, drop, Option, sym, ap, ◌∙◌, take-append-drop}
use Rattle.tw_io.specs.Devices.{Appends}
use Rattle.tw_io.specs.Buffer.{Buffered, HandedOver}
use Rattle.tw_io.proofs.buffered.BufferedSink.flush.Goals as goal

-- the first bytes of the buffer were taken, and the others are left
handed : {K : Type 0} (taken : K → Option (List ℕ)) (old new : Buffered K) (count : ℕ) → new.pending ≡ drop count old.pending → Appends (taken old.sink) (taken new.sink) (take count old.pending) → HandedOver taken old new
handed taken old new count left took = record {
  prefix = take count old.pending;
  split = sym (take-append-drop count old.pending) ∙ ap (λ (rest : List ℕ). take count old.pending ++ rest) (sym left);
  took = took;
}

pub returns-clause-handed_over : goal.returns-clause-handed_over
returns-clause-handed_over g c =
    rw (← c.self.view_is) (handed _ _ _ c.write_prefix-count.result c.drop_prefix.ensures.items (rw c.deref.ensures.value at c.write_prefix-count.ensures.bytes))
