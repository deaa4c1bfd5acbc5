use Rattle.std.proofs.Common.{true, false, ◌∷◌, ◌++◌, replicate, refl}
use Rattle.tw_lex.proofs.Classes.{told}
use Rattle.tw_lex.proofs.run.is_name_char.Goals as goal

pub returns-then-c-lt128 : goal.returns-then-c-lt128
returns-then-c-lt128 c =
    told (replicate 48 false ++ (replicate 10 true ++ (replicate 7 false ++ (replicate 26 true ++ (replicate 4 false ++ (true ∷ false ∷ (replicate 26 true ++ replicate 5 false))))))) c.args.c refl refl c.if-c-lt128.true
