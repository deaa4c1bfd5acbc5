-- The parts of a function as the code has them, without pointers.
use Rattle.std.specs.Prelude.{map}
use Rattle.std.specs.Option.{option_map}
use Rattle.tw_syntax.specs.Names.{name_tree}
use Rattle.tw_syntax.specs.Types.{written_tree}
use Rattle.tw_syntax.specs.Statements.{stmt_tree}
use Rattle.tw_syntax.specs.Programs.{param_tree}
use Rattle.tw_parse.specs.declared.functions.Title.{Title as GivenTitle}
use Rattle.tw_parse.specs.declared.functions.Interface.{Interface as GivenInterface}
use Rattle.tw_parse.specs.declared.functions.Return.{Return as GivenReturn}
use Rattle.tw_parse.specs.declared.functions.Body.{Body as GivenBody}
use Rattle.tw_parse.specs.reading.Statements.{Title, Interface, Return, Body}

abbrev pub title_of : GivenTitle → Title
title_of x = record { name = name_tree x.name; bound = option_map name_tree x.bound }

abbrev pub interface_of : GivenInterface → Interface
interface_of x = record { params = map param_tree x.params.now; result = written_tree x.result.now }

abbrev pub return_of : GivenReturn → Return
return_of x = record { at = x.at; name = name_tree x.name }

abbrev pub body_of : GivenBody → Body
body_of x = record { stmts = map stmt_tree x.stmts.now; last = return_of x.last }
