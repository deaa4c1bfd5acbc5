use Rattle.std.proofs.Common.{ℕ, ◌<◌, List, length, take, drop, Option, sym, take-append-drop, length-drop, arith}
use Rattle.tw_io.specs.Devices.{Appends, AppendsProperPrefix}
use Rattle.tw_io.proofs.writing.write_all.Goals as goal

-- fewer bytes of a piece than all were taken
sent_part : (a b : Option (List ℕ)) (piece : List ℕ) (done : ℕ) → done < length piece → Appends a b (take done piece) → AppendsProperPrefix a b piece
sent_part a b piece done more sent = record {
  taken = record { prefix = take done piece; suffix = drop done piece; split = sym (take-append-drop done piece); taken = sent };
  proper = omega (arith, length-drop {A = ℕ});
}

pub returns-else-write_prefix-piece-clause-unfinished :
    goal.returns-else-write_prefix-piece-clause-unfinished
returns-else-write_prefix-piece-clause-unfinished g c =
    sent_part _ _ _ _ (omega (arith, c.write_prefix.ensures.within)) c.write_prefix.ensures.bytes

pub returns-else-write_prefix-piece-clause-wrote :
    goal.returns-else-write_prefix-piece-clause-wrote
returns-else-write_prefix-piece-clause-wrote g c =
    let more : c.write_prefix.result < length c.args.piece.now = omega (arith, c.write_prefix.ensures.within) in
    record {
      whole = tt;
      broken = (sent_part _ _ _ _ more c.write_prefix.ensures.bytes).taken;
      cause = c.write_prefix.ensures.cause more;
      steady = tt;
    }
