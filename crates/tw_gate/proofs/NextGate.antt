-- The next gate of a list, and the rest after it.
use Rattle.std.proofs.Common.{◌≡◌, ◌∙◌, ap, sym, ℕ, ◌+◌, Bool, List, ◌∷◌, drop, slice_get, Some}
use Rattle.std.proofs.lemmas.List.{drop_more}
use Rattle.std.proofs.lemmas.Option.{slice_get_within, get_or_from_slice_get}
use Rattle.tw_gate.specs.Gates.{PlainGate, act_gate, act}

-- the item at a place, and those after it
pub drop_at : {A : Type 0} (list : List A) (place : ℕ) (item : A) → slice_get list place ≡ Some item → drop place list ≡ item ∷ drop (place + 1) list
drop_at list place item is =
    drop_more list place item (slice_get_within list place item is) ∙ ap (λ i. i ∷ drop (place + 1) list) (get_or_from_slice_get list place item item is)

-- one gate applied, then the rest, is the list from that gate on
pub act-next : (list : List PlainGate) (place : ℕ) (gate : PlainGate) (bits after end : List Bool) → slice_get list place ≡ Some gate → after ≡ act_gate gate bits → act (drop place list) bits ≡ end →
    act (drop (place + 1) list) after ≡ end
act-next list place gate bits after end is acted done =
    ap (act (drop (place + 1) list)) acted ∙ (ap (λ (gates : List PlainGate). act gates bits) (sym (drop_at list place gate is)) ∙ done)
