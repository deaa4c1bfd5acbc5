-- The tokens that a cursor has left.
use Rattle.std.specs.Prelude.{List}
use Rattle.tw_lex.specs.declared.cursor.Cursor.{Cursor}
use Rattle.tw_lex.specs.Tokens.{Lexed}
use Rattle.tw_lex.specs.Cursors.{from_token}

unfoldable pub left_of : Cursor → List Lexed
left_of cursor = from_token cursor.current cursor.tokens.0
