-- The present controls as a list.
use Rattle.std.specs.Prelude.{ℕ, List, ◌∷◌}
use Rattle.tw_code.specs.declared.present.Present.{Present, Given, Under'}

-- the present controls: the wires of the `If`s, innermost first, and then those given for the whole code
abbrev pub present_list : Present → List ℕ
present_list (Given controls) = controls.now
present_list (Under' wire p outer) = wire ∷ present_list outer
