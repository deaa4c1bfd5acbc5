-- Worked examples: the whole answer of `compile` to a program of one conjunction.
use Rattle.std.proofs.Common.{◌≡◌, ℕ, false, List, [], ◌∷◌, codes, flat_map, lit≤, Some, None, arith, refl}
use Rattle.std.specs.Fmt.{digits}
use Rattle.tw_parse.proofs.Worked.{main_tree, main_is_source}
use Rattle.tw_gatetext.specs.Text.{example_file, file_text, header}
use Rattle.tw_code.specs.Rows.{Row, row}
use Rattle.tw_code.specs.Trees.{CodeTree, Then, Nothing, FlipCode, ConjCode, sequence}
use Rattle.tw_check.specs.declared.entry.Entry.{Entry}
use Rattle.tw_state.specs.Examples.{one_bit, main}
use Rattle.tw_state.proofs.WorkedEntry.{main_is_typed, main_is_right}
use Rattle.tw_frames.specs.declared.measured.Measured.{Measured}
use Rattle.tw_frames.specs.declared.regions.WireLayout.{WireLayout}
use Rattle.tw_frames.specs.Inventory.{InventoryBody, InventoryThen, InventoryExpr, InventoryNothing}
use Rattle.tw_frames.specs.Measures.{MeasuresBody, MeasuresThen, MeasuresExpr, MeasuresNothing}
use Rattle.tw_frames.specs.Workspaces.{NeedsBody, NeedsThen, NeedsExpr, NeedsNothing}
use Rattle.tw_lower.specs.Lowering.{LowersBody, LowersThen, LowersLet, LowersNothing}
use Rattle.tw_lower.specs.Operands.{CodeAnd}
use Rattle.tower.specs.declared.options.Key.{Key}
use Rattle.tower.specs.declared.options.Key.TheVariants as key
use Rattle.tower.specs.Requests.{FileRequest, Compile, Settings, Choice, choice_words, values_of, wanted, Asks}
use Rattle.tower.specs.Answer.{Answer, OnInput}
use Rattle.tower.specs.CircuitEntries.{IsWithinLimits}
use Rattle.tower.specs.Compile.{IsFileOf, Written}
use Rattle.tower.specs.Entries.{EntryIn, setting_in}
use Rattle.tower.specs.Outcomes.{Prints}
use Rattle.tower.specs.Sources.{OnTree}

-- `compile --word 1 --addr 1 --entry main`
abbrev request : FileRequest
request = record { widths = one_bit; entry = codes "main"; bound = None; inverse = false }

abbrev choices : List Choice
choices = (key.Word, codes "1") ∷ (key.Addr, codes "1") ∷ (key.Entry, codes "main") ∷ []

asked : Asks (codes "compile" ∷ flat_map choice_words choices) (Compile request)
unfolding digits
asked = record {
  command = codes "compile";
  options = flat_map choice_words choices;
  spelled = refl;
  settings = settings;
  are_options = record {
    choices = choices;
    spelled = refl;
    values = each;
    widths_in_range = record { word_from = lit≤ tt; word_to = lit≤ tt; addr_from = lit≤ tt; addr_to = lit≤ tt };
    bound_in_range = tt;
  };
  request_is = refl;
}
  where
    settings : Settings
    settings = record {
      widths = Some one_bit;
      entry = Some (codes "main");
      bound = None;
      inverse = false;
      back = false;
      level = None;
      flatten = None;
      narrow = None;
      side = None;
    }

    each : (k : Key) → values_of k choices ≡ wanted settings k
    each key.Word = refl
    each key.Addr = refl
    each key.Entry = refl
    each key.Bound = refl
    each key.Inverse = refl
    each key.Back = refl
    each key.Level = refl
    each key.Flatten = refl
    each key.Narrow = refl
    each key.Side = refl

-- the entry is the one function, of one statement
abbrev entry : Entry
entry = record { fun = 0; bound = None }

abbrev measured : Measured
measured = record { statements = 1; depth = 1; if_depth = 0 }

abbrev found : EntryIn request main_tree
found = record {
  ready = record { accepted = record { typed = ∣ ((λ name. None), main_is_typed) ∣₁; right = (main_is_right, tt) }; entry = refl };
  types = λ name. None;
  typed = ∣ main_is_typed ∣₁;
  entry = entry;
  is_entry = record { is_entry = record { fun = main; at = refl; bound = refl }; named = refl; given = refl };
  measured = measured;
  measures = record { fun = main; at = refl; measures = MeasuresBody 0 refl (MeasuresThen MeasuresExpr MeasuresNothing) };
}

-- the memory is on wires 0 and 1, `a` and `b` are on 2 and 3, `c` on 4, and the operands are copied to 5 and 6
abbrev layout : WireLayout
layout = record { block = 1; args = 2; out = 4; frame = 5; scratch = 5; flags = 7; ladder = 7; wires = 7 }

abbrev rows : List Row
rows = row 1 1 ∷ row 1 1 ∷ row 1 1 ∷ row 1 1 ∷ row 1 2 ∷ []

limits : IsWithinLimits (setting_in found) entry measured layout
limits = record {
  rows = rows;
  circuit = record {
    inventory = record { fun = main; at = refl; is = InventoryBody 0 refl (InventoryThen InventoryExpr InventoryNothing) };
    laid_out = record {
      fun = main;
      workspace = record { frames = 0; scratch = 2 };
      measured = measured;
      at = refl;
      needs = NeedsBody 0 refl (NeedsThen NeedsExpr NeedsNothing);
      measures = MeasuresBody 0 refl (MeasuresThen MeasuresExpr MeasuresNothing);
      is = refl;
    };
  };
  within = refl;
}

-- the operands are copied, then both control the flip of `c`, and then the copies are undone
abbrev code : CodeTree
code = Then (ConjCode (sequence (sequence (FlipCode (2 ∷ []) 5 ∷ []) ∷ sequence (FlipCode (3 ∷ []) 6 ∷ []) ∷ [])) (FlipCode (5 ∷ 6 ∷ []) 4)) Nothing

file : IsFileOf (setting_in found) entry measured false example_file
unfolding limits
file = record { layout = layout; limits = limits; code = code; lowered = LowersBody 0 refl (LowersThen (LowersLet CodeAnd) LowersNothing); is = refl }

-- `compile` on the program of two parameters
pub answer_to_compile : Answer (codes "compile" ∷ codes "--word" ∷ codes "1" ∷ codes "--addr" ∷ codes "1" ∷ codes "--entry" ∷ codes "main" ∷ [])
    (codes "fun main(a: bool, b: bool) -> bool { let c <- a && b; return c; }")
    (Prints (codes "tower-gates 1\nlevel mcx\nwires 7\ngates 5\nt-count 7\ncx 2 5\ncx 3 6\nccx 5 6 4\ncx 3 6\ncx 2 5\nend\n"))
unfolding file_text header digits
answer_to_compile = OnInput (Compile request) asked (omega arith) (OnTree main_tree main_is_source (Written (record { no_bound = refl; body = (tt, tt) }, tt) found example_file file refl))
