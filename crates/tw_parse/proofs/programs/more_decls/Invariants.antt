use Rattle.std.proofs.Common.{◌-◌, map}
use Rattle.tw_syntax.specs.Programs.{decl_tree}
use Rattle.tw_lex.specs.Left.{left_of}
use Rattle.tw_parse.specs.reading.Steps.{all_at, put_first}
use Rattle.tw_parse.specs.reading.Statements.{is_more, decl_at}
use Rattle.tw_parse.proofs.code.Many.{Reads}
use Rattle.tw_parse.proofs.programs.more_decls.Given as goal

abbrev pub invariant-loop : goal.invariant-loop
invariant-loop l =
    Reads is_more (decl_at l.fn.room) (map decl_tree l.decls.items) (l.count - l.counter) (left_of l.cursor)
    (put_first (decl_tree l.fn.first) (all_at is_more (decl_at l.fn.room) (left_of l.initial.cursor)))
