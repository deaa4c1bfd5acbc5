use Rattle.std.proofs.Common.{map}
use Rattle.tw_syntax.specs.Programs.{decl_tree}
use Rattle.tw_check.proofs.RightDecls.{right_exactly_if_none_broken}
use Rattle.tw_check.proofs.checked.check.Goals as goal

pub new-requires : goal.new-requires
new-requires c = record { right = (right_exactly_if_none_broken (map decl_tree c.args.resolved.program.now.decls.now)).1 c.in_ok-check_decls.ensures.kept }
