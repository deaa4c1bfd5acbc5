-- The automaton without a limit on its brackets, and where it stands after some tokens.
use Rattle.std.proofs.Common.{List, [], ◌∷◌, Option, Some, None}
use Rattle.tw_lex.specs.Tokens.{Lexed}
use Rattle.tw_parse.proofs.automaton.Transitions.{Expected, Next, move}

-- what is awaited after a move
abbrev pub moved : Next → (List Expected → Option (List Expected)) → Option (List Expected)
moved (Next.Take st) go = go st
moved (Next.Open st) go = go st
moved (Next.Shut st) go = go st
moved Next.Pop go = None
moved Next.Stop go = None

-- what is awaited after these tokens
abbrev pub walk : List Lexed → List Expected → Option (List Expected)
walk [] st = Some st
walk (t ∷ ts) st = moved (move t.lexeme st) (walk ts)
