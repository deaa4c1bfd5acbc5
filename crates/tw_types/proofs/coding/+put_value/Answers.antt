use Rattle.std.proofs.Common.{rules}
use Rattle.tw_types.specs.Types.{size}
use Rattle.tw_types.specs.FromCode.{ty_of, value_of}
use Rattle.tw_types.proofs.Encoding.{pair_written}
use Rattle.tw_types.proofs.coding.+put_value.Goals as goal

pub returns-in-Pair-Pair-clause-bits : goal.returns-in-Pair-Pair-clause-bits
returns-in-Pair-Pair-clause-bits t c =
    search (rules, pair_written c.args.widths (value_of c.in-Pair-Pair.x.value) (value_of c.in-Pair-Pair.y.value) (ty_of c.in-Pair-Pair.first.now) (size c.args.widths (ty_of c.in-Pair-Pair.second.now)))
