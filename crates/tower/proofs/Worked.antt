-- Worked examples: the whole answers to arguments and inputs.
use Rattle.std.proofs.Common.{◌≡◌, ◌≢◌, ℕ, true, false, List, [], ◌∷◌, codes, Some, None, arith, refl}
use Rattle.std.specs.Fmt.{digits}
use Rattle.tw_text.specs.declared.diagnostic.Diagnostic.TheVariants as diagnostic
use Rattle.tw_text.specs.declared.refusal.Rule.TheVariants as rule
use Rattle.tw_text.specs.Refusals.{broken}
use Rattle.tw_parse.proofs.Worked.{main_tree, main_is_source, refused_text-is}
use Rattle.tw_gate.specs.declared.gate.Level.TheVariants as levels
use Rattle.tw_gatetext.specs.Text.{example_file, file_text, header}
use Rattle.tw_gatetext.proofs.Examples.{IsValid-example}
use Rattle.tower.specs.declared.options.Key.{Key}
use Rattle.tower.specs.declared.options.Key.TheVariants as key
use Rattle.tower.specs.Requests.{Request, Format, Simulate, Invert, Settings, values_of, wanted, request_from, AreOptions, Asks, IsUsage}
use Rattle.tower.specs.Sources.{OnTree, NoProgram}
use Rattle.tower.specs.Outcomes.{Prints, Refuses}
use Rattle.tower.specs.GateInputs.{OnPrefix}
use Rattle.tower.specs.Invert as invert
use Rattle.tower.specs.Simulate.{AfterMark, OnStates, OnLines}
use Rattle.tower.specs.Answer.{Answer, OnInput, Usage}

nothing_asked : IsUsage []
nothing_asked request asks = let e = asks.spelled in cc

-- a command without options
abbrev no_settings : Settings
no_settings = record { widths = None; entry = None; bound = None; inverse = false; back = false; level = None; flatten = None; narrow = None; side = None }

nothing_given : AreOptions [] no_settings
nothing_given = record { choices = []; spelled = refl; values = each; widths_in_range = tt; bound_in_range = tt }
  where
    each : (k : Key) → values_of k [] ≡ wanted no_settings k
    each key.Word = refl
    each key.Addr = refl
    each key.Entry = refl
    each key.Bound = refl
    each key.Inverse = refl
    each key.Back = refl
    each key.Level = refl
    each key.Flatten = refl
    each key.Narrow = refl
    each key.Side = refl

asks_alone : (command : List ℕ) (request : Request) → request_from command no_settings ≡ Some request → Asks (command ∷ []) request
asks_alone command request is = record { command = command; options = []; spelled = refl; settings = no_settings; are_options = nothing_given; request_is = is }

-- no arguments, and any input
pub answer_to_nothing : (bytes : List ℕ) → Answer [] bytes (Refuses diagnostic.Usage)
answer_to_nothing bytes = Usage nothing_asked refl

-- `invert` on the example file, whose gates are their own inverse
pub answer_to_invert : Answer (codes "invert" ∷ [])
    (codes "tower-gates 1\nlevel mcx\nwires 7\ngates 5\nt-count 7\ncx 2 5\ncx 3 6\nccx 5 6 4\ncx 3 6\ncx 2 5\nend\n")
    (Prints (codes "tower-gates 1\nlevel mcx\nwires 7\ngates 5\nt-count 7\ncx 2 5\ncx 3 6\nccx 5 6 4\ncx 3 6\ncx 2 5\nend\n"))
unfolding file_text header digits
answer_to_invert = OnInput Invert (asks_alone (codes "invert") Invert refl) (omega arith) (OnPrefix example_file [] (record { valid = IsValid-example; text = refl }) (invert.AtEnd refl refl))

mcx_is_not_t : levels.Mcx ≢ levels.T
mcx_is_not_t e = cc

-- `sim` on the example file and one basis state
pub answer_to_sim : Answer (codes "sim" ∷ [])
    (codes "tower-gates 1\nlevel mcx\nwires 7\ngates 5\nt-count 7\ncx 2 5\ncx 3 6\nccx 5 6 4\ncx 3 6\ncx 2 5\nend\n%%\n1011000\n")
    (Prints (codes "1011100\n"))
unfolding file_text header digits
answer_to_sim = OnInput Simulate (asks_alone (codes "sim") Simulate refl) (omega arith) (OnPrefix example_file (codes "%%\n1011000\n") (record { valid = IsValid-example; text = refl })
    (OnLines mcx_is_not_t (codes "1011000\n") (AfterMark refl)
    (OnStates ((true ∷ false ∷ true ∷ true ∷ false ∷ false ∷ false ∷ []) ∷ []) (record { spelled = refl; wide = (refl, tt); few = omega arith }) refl)))

-- `format` on a program of one function
pub answer_to_format : Answer (codes "format" ∷ []) (codes "fun main(a: bool, b: bool) -> bool { let c <- a && b; return c; }")
    (Prints (codes "fun main(a: bool, b: bool) -> bool {\n  let c <- a && b;\n  return c;\n}\n"))
answer_to_format = OnInput Format (asks_alone (codes "format") Format refl) (omega arith) (OnTree main_tree main_is_source refl)

-- `format` on a program in which `;` stands where an expression must begin
pub answer_to_refused : Answer (codes "format" ∷ []) (codes "fun main(a: bool) -> bool { let c <- ; return c; }")
    (Refuses (diagnostic.Refused (broken rule.Syntax (record { line = 1; col = 38 }))))
answer_to_refused = OnInput Format (asks_alone (codes "format") Format refl) (omega arith) (NoProgram (broken rule.Syntax (record { line = 1; col = 38 })) refused_text-is refl)
