-- The gates of the code of an entry make a valid file, and implement the entry.
use Rattle.std.proofs.Common.{◌≡◌, ◌∙◌, ◌≤◌, ◌<◌, ◌^◌, ◌-◌, ap, sym, subst, arith, ℕ, Bool, true, false, List, [], ◌∷◌, Option, None}
use Rattle.std.proofs.lemmas.Bool.{leb-true}
use Rattle.std.specs.List.{AllByRecursion, count_by}
use Rattle.tw_syntax.specs.Programs.{FunTree}
use Rattle.tw_gate.specs.declared.gate.Level.TheVariants as levels
use Rattle.tw_gate.specs.Gates.{PlainGate, X, act, IsProper, IsClassical, HasWiresBelow}
use Rattle.tw_gatetext.specs.Valid.{FitsLevel, FitsWires, IsValid}
use Rattle.tw_code.specs.Counts.{neither, counts, has_controls}
use Rattle.tw_code.specs.Emission.{emitted, HasControlsUpTo}
use Rattle.tw_code.specs.Meaning.{mean}
use Rattle.tw_code.specs.Rows.{Row, gates_in, most_controls}
use Rattle.tw_code.specs.Trees.{CodeTree}
use Rattle.tw_code.specs.Wires.{UsesWiresBelow}
use Rattle.tw_code.proofs.Counting.{counts-emitted, few-emitted}
use Rattle.tw_code.proofs.Emission.{act-emitted, below-emitted, classical-emitted, inverse-emitted, proper-emitted}
use Rattle.tw_code.proofs.Wires.{each_weaker}
use Rattle.tw_resolve.specs.Demands.{first_broken}
use Rattle.tw_resolve.specs.Setting.{Setting, reported}
use Rattle.tw_resolve.proofs.Demands.{none_broken-each}
use Rattle.tw_state.specs.declared.state.Side.TheVariants as side
use Rattle.tw_state.specs.States.{State, IsWellFormed}
use Rattle.tw_state.specs.Results.{RunsEntry, RunsBody, RunsNoBody, HasResult}
use Rattle.tw_state.specs.EntryEncoding.{encoded_on}
use Rattle.tw_state.proofs.EntryEncodings.{entry_encoding-injective}
use Rattle.tw_state.proofs.FreeList.{formed_same, formed_after}
use Rattle.tw_state.proofs.RenamedResults.{result_renamed}
use Rattle.tw_frames.specs.declared.measured.Measured.{Measured}
use Rattle.tw_frames.specs.declared.regions.WireLayout.{WireLayout}
use Rattle.tw_frames.specs.Inventory.{line_total}
use Rattle.tw_frames.specs.Regions.{AreInOrder}
use Rattle.tw_cost.proofs.Totals.{none_above, t_total-gates, line_total-gates}
use Rattle.tw_lower.proofs.SimulatedEntry.{IsEntryCode}
use Rattle.tower.specs.CircuitEntries.{circuit_rules}
use Rattle.tower.specs.Compile.{file_with}
use Rattle.tower.specs.Implements.{Implements}

-- a number that is reported as one within a limit is within it
unreported : (found limit : ℕ) → reported found ≤ limit → limit < 2 ^ 64 - 1 → found ≤ limit
unreported found limit within far = omega (arith, within)

-- the numbers of an entry that breaks no limit
pub record AreWithin (rows : List Row) (layout : WireLayout) : Type 0 where
  pub controls : most_controls rows ≤ 64
  pub wires : layout.wires ≤ 1048576
  pub lines : line_total levels.Mcx rows ≤ 4194304

pub are_within : (measured : Measured) (rows : List Row) (layout : WireLayout) → first_broken (circuit_rules measured rows layout) ≡ None → AreWithin rows layout
are_within measured rows layout none =
    let each = (none_broken-each (circuit_rules measured rows layout)).1 none in
    record {
      controls = unreported (most_controls rows) 64 (leb-true _ _ each.1.1.0) (omega arith);
      wires = unreported layout.wires 1048576 (leb-true _ _ each.1.1.1.0) (omega arith);
      lines = unreported (line_total levels.Mcx rows) 4194304 (leb-true _ _ each.1.1.1.1.0) (omega arith);
    }

-- lists of gates
fit_mcx : (most : ℕ) → most ≤ 64 → (gates : List PlainGate) → AllByRecursion IsClassical gates → AllByRecursion (HasControlsUpTo most) gates → AllByRecursion (FitsLevel levels.Mcx) gates
fit_mcx most few [] classical room = tt
fit_mcx most few (X controls target ∷ gates) classical room = (omega (arith, few, room.0), fit_mcx most few gates classical.1 room.1)
fit_mcx most few (gate ∷ gates) classical room = absurd classical.0

fit_wires : (wires : ℕ) (gates : List PlainGate) → AllByRecursion IsProper gates → AllByRecursion (HasWiresBelow wires) gates → AllByRecursion (FitsWires wires) gates
fit_wires wires [] proper below = tt
fit_wires wires (gate ∷ gates) proper below = ((proper.0, below.0), fit_wires wires gates proper.1 below.1)

-- a result is well-formed, as the state is
formed : {setting : Setting} {fun : FunTree} {bound : Option ℕ} {start end : State} → IsWellFormed start → RunsEntry setting fun bound start end → IsWellFormed end
formed {setting} good (RunsBody n running runs) = formed_after setting runs good
formed good (RunsNoBody result none cleared adds) = formed_same (sym (ap (λ (s : State). s.head) adds.after)) (sym (ap (λ (s : State). s.cells) adds.after)) good

module _ (setting : Setting) (fun : FunTree) (bound : Option ℕ) (layout : WireLayout) (code : CodeTree) (is_code : IsEntryCode setting layout fun bound code) where
  -- the gates do what the code does
  acts : (backward : Bool) (bits : List Bool) → act (emitted code backward []) bits ≡ mean code backward bits
  acts backward bits = act-emitted code backward [] is_code.proper tt bits

  abbrev gates : List PlainGate
  gates = emitted code false []

  pub implements : Implements setting fun bound levels.Mcx layout.wires gates
  implements = record {
    at_start = is_code.simulates.at_start;
    at_end = is_code.simulates.at_end;
    takes = λ start end has. takes start end has;
    undoes = λ start end has.
        ap (λ (list : List PlainGate). act list (encoded_on layout.wires setting side.End fun end)) (inverse-emitted code false [])
        ∙ acts true (encoded_on layout.wires setting side.End fun end)
        ∙ is_code.simulates.undoes start end has;
    renames = λ pi start end has. let moved = result_renamed setting pi has in (moved, takes _ _ moved);
    injective_at_start = entry_encoding-injective layout.wires setting side.Start fun;
    injective_at_end = entry_encoding-injective layout.wires setting side.End fun;
    result_well_formed = λ start end has. formed has.well_formed has.runs;
  }
    where
      takes : (start end : State) → HasResult setting fun bound start end → act gates (encoded_on layout.wires setting side.Start fun start) ≡ encoded_on layout.wires setting side.End fun end
      takes start end has = acts false (encoded_on layout.wires setting side.Start fun start) ∙ is_code.simulates.takes start end has

  module _ (rows : List Row) (counted : (wanted : ℕ) → counts neither code 0 wanted ≡ gates_in rows wanted) where
    -- no gate has more controls than the inventory
    pub few : (backward : Bool) → AllByRecursion (HasControlsUpTo (most_controls rows)) (emitted code backward [])
    few backward = few-emitted (most_controls rows) code backward [] (λ wanted more. counted wanted ∙ none_above rows wanted more)

    by_controls : (wanted : ℕ) → count_by (has_controls wanted) gates ≡ gates_in rows wanted
    by_controls wanted = counts-emitted code false [] wanted ∙ counted wanted

    classical : AllByRecursion IsClassical gates
    classical = classical-emitted code false []

    -- within the limits the file is valid
    pub valid : 1 ≤ setting.widths.addr → AreInOrder setting.widths layout → AreWithin rows layout → IsValid (file_with false rows layout code)
    valid some_addr regions within = record {
      some_wires = omega (arith, some_addr, regions.memory, regions.args, regions.out, regions.frame, regions.scratch, regions.flags, regions.ladder);
      few_wires = within.wires;
      few_gates = subst (λ n. n ≤ 4194304) (line_total-gates gates rows classical by_controls) within.lines;
      fit_level = fit_mcx (most_controls rows) within.controls gates classical (few false);
      fit_wires = fit_wires layout.wires gates (proper-emitted code false [] is_code.proper tt tt) (below-emitted layout.wires code false [] below tt);
      counted = t_total-gates gates rows classical by_controls;
    }
      where
        below : UsesWiresBelow layout.wires code
        below = each_weaker (λ wire. wire < layout.flags) (λ wire. wire < layout.wires) (λ wire before. omega (arith, before, regions.flags, regions.ladder)) code is_code.below
