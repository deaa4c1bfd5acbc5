-- Worked lines of a text of states, and a chain that is refused at its head.
use Rattle.std.proofs.Common.{◌≡◌, ◌==◌, ◌∙◌, refl, ap, sym, arith, ℕ, true, List, [], ◌∷◌, codes, count_by, None}
use Rattle.std.specs.Fmt.{digits}
use Rattle.tw_text.specs.declared.refusal.StateWhy.TheVariants as state_why
use Rattle.tw_types.specs.Values.{Truth}
use Rattle.tw_resolve.specs.Programs.{setting_of}
use Rattle.tw_resolve.specs.Setting.{Setting}
use Rattle.tw_state.specs.declared.state.Side.TheVariants as side
use Rattle.tw_state.specs.declared.state_fault.StateFault.TheVariants as fault
use Rattle.tw_state.specs.States.{Free, Links, cell_at, IsWellFormed}
use Rattle.tw_state.specs.FromCode.{ListedState, state_at}
use Rattle.tw_state.specs.StateLines.{AtHead, InState, begun, IsWhole, IsLine, HeadLine, CellLine, NameLine, Separator, Reaches, Start, Line, states_text}
use Rattle.tw_state.specs.StateRefusals.{Broken, IsRefusedText, WrongChain}
use Rattle.tw_state.specs.Examples.{one_bit, main, program}
use Rattle.std.proofs.lemmas.Option.{none-some}

-- addresses of one bit, so there is one block
abbrev setting : Setting
setting = setting_of one_bit program (λ name. None)

abbrev with_cell_free : ListedState
with_cell_free = record { head = 0; cells = Free 0 ∷ []; values = [] }

abbrev whole : ListedState
whole = record { head = 0; cells = Free 0 ∷ []; values = Truth true ∷ Truth true ∷ [] }

pub head_is_right : IsLine setting side.Start main (AtHead []) (codes "free 1\n") (InState [] (begun 1))
unfolding digits
head_is_right = HeadLine [] 1 (omega arith)

pub cell_is_right : IsLine setting side.Start main (InState [] (begun 0)) (codes "1 free 0\n") (InState [] with_cell_free)
unfolding digits
cell_is_right = CellLine [] (begun 0) (Free 0) (omega arith) (omega arith)

pub name_is_right : IsLine setting side.Start main (InState [] with_cell_free) (codes "a true\n") (InState [] (record { head = 0; cells = Free 0 ∷ []; values = Truth true ∷ [] }))
name_is_right = NameLine [] with_cell_free (codes "a") (Truth true) refl refl tt

-- the head misses the free block 1
misses : ¬ IsWellFormed (state_at side.Start main whole)
misses formed = no_chain formed.chain formed.links (formed.once 1 0 refl)
  where
    no_chain : (chain : List ℕ) → Links (Free 0 ∷ []) 0 chain → count_by (λ passed. passed == 1) chain ≡ 1 → ⊥
    no_chain [] links once = omega (arith, once)
    no_chain (block ∷ chain) links once = none-some (Free links.1.0) (sym (sym links.1.1 ∙ ap (cell_at (Free 0 ∷ [])) (sym links.0)))

-- the state of this text is reported at line 1, after its line 4
pub chain_at_head : IsRefusedText setting side.Start main (codes "free 0\n1 free 0\na true\nb true\n") (fault.BadState 1 state_why.Chain)
unfolding digits
chain_at_head =
    WrongChain 1 4 [] whole []
    (Line 3 _ _ _ _ (Line 2 _ _ _ _ (Line 1 _ _ _ _ (Line 0 _ _ _ _ Start (record { text = codes "free 0\n"; parts = refl; right = HeadLine [] 0 (omega arith) }))
    (record { text = codes "1 free 0\n"; parts = refl; right = CellLine [] (begun 0) (Free 0) (omega arith) (omega arith) }))
    (record { text = codes "a true\n"; parts = refl; right = NameLine [] with_cell_free (codes "a") (Truth true) refl refl tt }))
    (record { text = codes "b true\n"; parts = refl; right = NameLine [] _ (codes "b") (Truth true) refl refl tt }))
    (Broken [] whole (record { all_blocks = refl; all_names = refl }) misses) refl refl

-- two states have a separator between them
pub two_states : states_text setting side.Start main (whole ∷ whole ∷ []) ≡ codes "free 0\n1 free 0\na true\nb true\n--\nfree 0\n1 free 0\na true\nb true\n"
unfolding digits
two_states = refl
