use Rattle.std.proofs.Common.{ℕ, ◌+◌, ◌-◌, List, ◌++◌, length, take, drop, Option, sym, ap, ◌∙◌, subst, rules}
use Rattle.std.proofs.Math.Seq.{take-add}
use Rattle.std.proofs.lemmas.List.{take_rest}
use Rattle.tw_io.specs.Devices.{Appends}
use Rattle.tw_io.proofs.Devices.{appends_both}
use Rattle.tw_io.proofs.writing.write_prefix.Goals as goal

-- a prefix of a piece was taken, then some bytes of its suffix
sent_more : (a b c : Option (List ℕ)) (piece : List ℕ) (done count : ℕ) → Appends a b (take done piece) → Appends b c (take count (take (length piece - done) (drop done piece))) → Appends a c (take (done + count) piece)
sent_more a b c piece done count first second =
    let text = ap (take count) (take_rest piece done) in
    let all = ap (λ (more : List ℕ). take done piece ++ more) text ∙ sym (take-add done count piece) in
    subst (λ (sent : List ℕ). Appends a c sent) all (appends_both a b c _ _ first second)

pub loop-done-preserved : goal.loop-done-preserved
loop-done-preserved g c = record {
  sent = sent_more _ _ _ _ _ _ c.loop-done.invariant.sent c.in-Ok.ensures.bytes;
  within = search rules;
  steady = search rules;
  untouched = search rules;
}
