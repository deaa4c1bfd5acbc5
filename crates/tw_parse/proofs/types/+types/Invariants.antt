use Rattle.std.proofs.Common.{◌+◌, ◌*◌}
use Rattle.tw_parse.proofs.types.+types.Given as goal

abbrev pub decreases-written : goal.decreases-written
decreases-written l = 4 * l.room + 3

abbrev pub decreases-ptr : goal.decreases-ptr
decreases-ptr l = 4 * l.room + 2

abbrev pub decreases-paren : goal.decreases-paren
decreases-paren l = 4 * l.room + 2

abbrev pub decreases-pair : goal.decreases-pair
decreases-pair l = 4 * l.room + 4

abbrev pub decreases-type_argument : goal.decreases-type_argument
decreases-type_argument l = 4 * l.room + 1
