-- The automaton follows the readers of numbers, paths and atoms.
use Rattle.std.proofs.Common.{◌≡◌, refl, ℕ, zero, suc, List, [], ◌∷◌, length, Bool, true, false, if◌then◌else◌, Ok, Err}
use Rattle.std.proofs.Math.Dec.{eqb-suc-zero}
use Rattle.tw_lex.specs.declared.symbol.Symbol.TheVariants as symbols
use Rattle.tw_parse.specs.declared.error.Rejection.TheVariants.{Syntax}
use Rattle.tw_lex.specs.Tokens.{Lexeme, Name, Number, Sign, Lexed}
use Rattle.tw_parse.specs.reading.Steps.{is_component, is_bound_number, leads, all_at, take_bound_number, take_component}
use Rattle.tw_parse.specs.reading.Terms.{type_at, step_at, path_at, unit_at, null_at, zero_at, plain_atom_at, atom_with, atom_at}
use Rattle.tw_parse.proofs.automaton.Transitions.{Expected, Step', Small', Steps', Path', Atom', Next, when, settled, move, went, run}
use Rattle.tw_parse.proofs.tokens.Words.{tok}
use Rattle.tw_parse.proofs.reading.Runs.{follow, Reads, ReadsAt, bind, done}
use Rattle.tw_parse.proofs.reading.RunsTypes.{runs_mark, runs_angle, inside_type}
use Rattle.tw_parse.proofs.reading.RunsLists.{Turn, runs_all}
use Rattle.tw_parse.proofs.reading.SaysPaths.{step_shorter}

number_taken : (is : Bool) (room value : ℕ) (ts : List Lexed) (st : List Expected)
    → went (settled (when is (Next.Take st)) (move (Number value) st)) room (run ts) (suc (length ts)) ≡ follow (if is then Ok (value, ts) else Err (Syntax (suc (length ts)))) room st
unfolding follow
number_taken true room value ts st = refl
number_taken false room value ts st = refl

runs_small_at : (room : ℕ) (w : Lexeme) → ReadsAt Small' take_bound_number room w
unfolding take_bound_number follow
runs_small_at room (Number value) p ts st = record { same = number_taken (is_bound_number value) room value ts st }
runs_small_at room w p ts st = record { same = refl }

pub runs_small : (room : ℕ) → Reads Small' take_bound_number room
unfolding take_bound_number follow
runs_small room [] st = record { same = refl }
runs_small room (t ∷ ts) st = runs_small_at room t.lexeme t.at ts st

runs_half_at : (room : ℕ) (w : Lexeme) → ReadsAt Step' take_component room w
unfolding take_component follow
runs_half_at room (Number value) p ts st = record { same = number_taken (is_component value) room value ts st }
runs_half_at room w p ts st = record { same = refl }

runs_half : (room : ℕ) → Reads Step' take_component room
unfolding take_component follow
runs_half room [] st = record { same = refl }
runs_half room (t ∷ ts) st = runs_half_at room t.lexeme t.at ts st

steps_turn : (room : ℕ) (st : List Expected) (ts : List Lexed) → Turn step_at room (Steps' ∷ st) st (leads symbols.Dot ts) ts
unfolding step_at
steps_turn room st [] = refl
steps_turn room st (t ∷ ts) = go t.lexeme
  where
    go : (w : Lexeme) → Turn step_at room (Steps' ∷ st) st (leads symbols.Dot (tok w t.at ∷ ts)) (tok w t.at ∷ ts)
    go (Sign symbols.Dot) = runs_half room ts (Steps' ∷ st)
    go w = refl

runs_steps : (room : ℕ) → Reads Steps' (all_at (leads symbols.Dot) step_at) room
runs_steps room ts st = runs_all (leads symbols.Dot) step_at room (Steps' ∷ st) st refl (steps_turn room st) step_shorter ts

runs_path_at : (room : ℕ) (w : Lexeme) → ReadsAt Path' path_at room w
unfolding path_at follow
runs_path_at room (Name text) p ts st = bind (runs_steps room ts st) (λ steps. done)
runs_path_at room w p ts st = record { same = refl }

pub runs_path : (room : ℕ) → Reads Path' path_at room
unfolding path_at follow
runs_path room [] st = record { same = refl }
runs_path room (t ∷ ts) st = runs_path_at room t.lexeme t.at ts st

runs_atom_at : (room : ℕ) (w : Lexeme) → ReadsAt Atom' (atom_with room) room w
unfolding atom_with plain_atom_at unit_at null_at zero_at path_at follow
runs_atom_at zero (Sign symbols.OpenParen) p ts st = record { same = refl }
runs_atom_at (suc room) (Sign symbols.OpenParen) p ts st = rw (eqb-suc-zero room) (bind (runs_mark symbols.CloseParen refl room ts st) (λ close. done))
runs_atom_at room (Sign symbols.Null) p ts st = bind (runs_angle (type_at room) room (inside_type room) ts st) (λ to. done)
runs_atom_at room (Sign symbols.Default) p ts st = bind (runs_angle (type_at room) room (inside_type room) ts st) (λ of. done)
runs_atom_at room (Name text) p ts st = bind (runs_path room (tok (Name text) p ∷ ts) st) (λ path. done)
runs_atom_at room w p ts st = record { same = refl }

pub runs_atom : (room : ℕ) → Reads Atom' (atom_at (suc room)) room
unfolding atom_at atom_with plain_atom_at path_at follow
runs_atom room [] st = record { same = refl }
runs_atom room (t ∷ ts) st = runs_atom_at room t.lexeme t.at ts st
