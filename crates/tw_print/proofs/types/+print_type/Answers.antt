use Rattle.tw_print.proofs.Going.{goes_then}
use Rattle.tw_print.proofs.types.+print_type.Goals as goal

pub returns-in-Pair : goal.returns-in-Pair
returns-in-Pair g t c =
    rw c.in-Pair.is (goes_then c.text-progress.ensures (goes_then c.print_type-progress.ensures (goes_then c.text-progress-in-Pair.ensures (goes_then c.print_type-progress-in-Pair.ensures c.text-in-Pair.ensures))))

pub returns-in-Ptr : goal.returns-in-Ptr
returns-in-Ptr g t c = rw c.in-Ptr.is (goes_then c.text-progress-in-Ptr.ensures (goes_then c.print_type-progress-in-Ptr.ensures c.text-in-Ptr.ensures))
