use Rattle.tw_syntax.specs.Programs.{program_tree}
use Rattle.tw_syntax.specs.Types.{written_tree}
use Rattle.tw_resolve.proofs.Asking.{written_type}
use Rattle.tw_resolve.proofs.resolved.Resolved.type_written.Goals as goal

pub returns : goal.returns
returns c =
    let resolved = c.args.self.now in
    written_type (program_tree resolved.program.now) resolved.tables (written_tree c.args.written.now) c.ty_of_written.result resolved.typed c.ty_of_written.ensures
