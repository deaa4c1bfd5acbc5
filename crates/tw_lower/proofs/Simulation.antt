-- The simulation: the code of a statement takes the bits of a state to the bits of the state after the statement.
use Rattle.std.proofs.Common.{◌≡◌, ◌∙◌, ◌<◌, ◌+◌, ap, sym, refl, ℕ, suc, Bool, true, false, Some, arith}
use Rattle.tw_syntax.specs.Names.{PathTree}
use Rattle.tw_syntax.specs.Programs.{FunTree}
use Rattle.tw_syntax.specs.Terms.{ExprRhs}
use Rattle.tw_syntax.specs.Statements.{StmtTree, Nothing, Else, LetStmt, IfStmt, WithStmt}
use Rattle.tw_types.specs.Types.{Boolean}
use Rattle.tw_types.specs.Values.{Truth}
use Rattle.tw_code.specs.Trees.{CodeTree}
use Rattle.tw_code.specs.Wires.{IsUnused}
use Rattle.tw_code.specs.Functions.{Bits, mean_wires}
use Rattle.tw_code.proofs.WireMeaning.{undo}
use Rattle.tw_resolve.specs.Expressions.{type_at_path}
use Rattle.tw_resolve.specs.Setting.{Setting}
use Rattle.tw_check.proofs.Reversal.{reverse_of-reverse_of}
use Rattle.tw_state.specs.States.{State}
use Rattle.tw_state.specs.Parts.{value_at}
use Rattle.tw_state.specs.Steps.{Pads}
use Rattle.tw_state.specs.Results.{IsTypedIn}
use Rattle.tw_state.specs.Semantics.{Runs, RunsNothing, RunsSkip, RunsThen, RunsBlock, RunsLet, RunsUnlet, RunsIf, RunsIfElse, RunsIfNot, RunsWith}
use Rattle.tw_state.proofs.TypedTrees.{StmtFits, FunsFit}
use Rattle.tw_state.proofs.TypedRuns.{typed_after}
use Rattle.tw_state.proofs.Undone.{of_same, undone}
use Rattle.tw_frames.specs.declared.regions.WireLayout.{WireLayout}
use Rattle.tw_frames.specs.Frames.{Frame, if_count, if_wire}
use Rattle.tw_frames.specs.Regions.{Owns, IsFrame}
use Rattle.tw_lower.specs.Operands.{path_wire}
use Rattle.tw_lower.specs.Lowering.{Lowers, LowersNothing, LowersThen, LowersLet, LowersIf, LowersIfElse, LowersWith, LowersBlock, LowersSkip, CanLower}
use Rattle.tw_lower.specs.StateBits.{state_bits, running}
use Rattle.tw_lower.proofs.Branches.{IsCondition, if_does, if_else_does}
use Rattle.tw_lower.proofs.ExprCodes.{AddValues}
use Rattle.tw_lower.proofs.LoweredWires.{HasRoom, first_room, rest_room, let_adds, cond_other, if_unused, uses, proper_code}

-- the bits of states in a frame: those of a condition, of the wires of `if`s, and of padded states
pub record HasStateBits (setting : Setting) (fun : FunTree) (frame : Frame) : Type 0 where
  pub owned : (cond : PathTree) → type_at_path frame.types cond ≡ Some Boolean → Owns setting.widths frame cond.root.text (path_wire setting frame cond)
  pub cond_reads : (cond : PathTree) (state : State) (is : Bool) → type_at_path frame.types cond ≡ Some Boolean → IsTypedIn setting frame.types state → value_at state.store cond ≡ Some (Truth is)
      → state_bits setting frame state (path_wire setting frame cond) ≡ is
  pub if_empty : (state : State) (number : ℕ) → IsTypedIn setting frame.types state → number < if_count fun.body → state_bits setting frame state (if_wire frame number) ≡ false
  pub padded : (stmts : StmtTree) (old new : State) → IsTypedIn setting frame.types old → Pads frame.types stmts old new → state_bits setting frame old ≡ state_bits setting frame new

module _ (setting : Setting) (funs : FunsFit setting) (layout : WireLayout) (fun : FunTree) (frame : Frame) (good : IsFrame setting layout fun frame) (add_values : AddValues setting layout frame) (bits : HasStateBits setting fun frame) where
  abbrev pub Room : ℕ → StmtTree → Type 0
  Room number s = HasRoom setting layout fun frame good add_values bits.owned number s

  -- the condition of an `if` in states before and after a branch
  condition : (cond : PathTree) (number : ℕ) (old new : State) (is : Bool) → type_at_path frame.types cond ≡ Some Boolean → number < if_count fun.body → IsTypedIn setting frame.types old → IsTypedIn setting frame.types new
      → value_at old.store cond ≡ Some (Truth is) → value_at new.store cond ≡ Some (Truth is)
      → IsCondition (path_wire setting frame cond) (if_wire frame number) (state_bits setting frame old) (state_bits setting frame new) is
  condition cond number old new is typed small at_old at_new before after = record {
    before = bits.cond_reads cond old is typed at_old before;
    after = bits.cond_reads cond new is typed at_new after;
    other = cond_other setting layout fun frame good add_values bits.owned cond number typed small;
    empty = bits.if_empty old number at_old small;
  }

  -- the wire of an enclosing `if` is not used
  unused : (outer from : ℕ) {own : ℕ} {s : StmtTree} {code : CodeTree} → Lowers setting layout frame own from s code → StmtFits setting frame.types s → CanLower setting layout frame s → Room from s
      → outer < if_count fun.body → outer < from → IsUnused (if_wire frame outer) code
  unused outer from {code = code} lowers fits can room small later =
      if_unused setting layout fun frame good add_values bits.owned outer from _ small later code (uses setting layout fun frame good add_values bits.owned lowers fits can room)

  pub simulates : {own number : ℕ} {s : StmtTree} {code : CodeTree} {old new : State} → Lowers setting layout frame own number s code → StmtFits setting frame.types s → CanLower setting layout frame s → Room number s
      → IsTypedIn setting frame.types old → Runs setting (running frame own) s old new → mean_wires code false (state_bits setting frame old) ≡ state_bits setting frame new
  simulates LowersNothing fits can room typed RunsNothing = refl
  simulates {number = number} (LowersThen {first = first} {rest = rest} {b = b} one others) fits can room typed (RunsThen runs more) =
      ap (mean_wires b false) (simulates one fits.0 can.0 (first_room setting layout fun frame good add_values bits.owned number _ first rest refl room.ifs room.scratch) typed runs)
      ∙ simulates others fits.1 can.1 (rest_room setting layout fun frame good add_values bits.owned number _ first rest refl room.ifs room.scratch) (typed_after setting funs fits.0 runs typed) more
  simulates {old = old} {new = new} (LowersLet is) fits can room typed (RunsLet value has adds) = (let_adds setting layout fun frame good add_values bits.owned is fits can room).adds value old new typed has adds
  simulates {own = own} {old = old} {new = new} (LowersLet {target = target} {at = at} {expr = expr} is) fits can room typed (RunsUnlet value has adds) =
      (let_adds setting layout fun frame good add_values bits.owned is fits can room).removes value new old (typed_after setting funs {act = running frame own} {s = LetStmt at false target (ExprRhs expr)} {x = old} {y = new} fits (RunsUnlet value has adds) typed) has adds
  simulates {own = own} {number = number} {old = old} {new = new} (LowersIf {at = at} {cond = cond} {first = first} {taken = body} one) fits can room typed (RunsIf before runs after) =
      let inner : Room (suc number) first = first_room setting layout fun frame good add_values bits.owned (suc number) _ first Nothing refl (omega (arith, room.ifs)) room.scratch in
      if_does _ _ body _ _ true (condition cond number old new true fits.0 (omega (arith, room.ifs)) typed (typed_after setting funs {act = running frame own} {s = IfStmt at cond first Nothing} {x = old} {y = new} fits (RunsIf before runs after) typed) before after)
      (unused number (suc number) one fits.1 can.0 inner (omega (arith, room.ifs)) (omega arith)) (simulates one fits.1 can.0 inner typed runs)
  simulates {own = own} {number = number} {old = old} {new = new} (LowersIf {at = at} {cond = cond} {first = first} {taken = body} one) fits can room typed (RunsIfNot before pads after) =
      let inner : Room (suc number) first = first_room setting layout fun frame good add_values bits.owned (suc number) _ first Nothing refl (omega (arith, room.ifs)) room.scratch in
      if_does _ _ body _ _ false (condition cond number old new false fits.0 (omega (arith, room.ifs)) typed (typed_after setting funs {act = running frame own} {s = IfStmt at cond first Nothing} {x = old} {y = new} fits (RunsIfNot before pads after) typed) before after)
      (unused number (suc number) one fits.1 can.0 inner (omega (arith, room.ifs)) (omega arith)) (bits.padded first old new typed pads)
  simulates {own = own} {number = number} {old = old} {new = new} (LowersIfElse {at = at} {else_at = else_at} {cond = cond} {first = first} {other = other} {taken = body} {skipped = rest} one others) fits can room typed (RunsIf before runs after) =
      let inner : Room (suc number) first = first_room setting layout fun frame good add_values bits.owned (suc number) _ first other refl (omega (arith, room.ifs)) room.scratch in
      let outer : Room (suc number + if_count first) other = rest_room setting layout fun frame good add_values bits.owned (suc number) _ first other refl (omega (arith, room.ifs)) room.scratch in
      if_else_does _ _ body rest _ _ true (condition cond number old new true fits.0 (omega (arith, room.ifs)) typed (typed_after setting funs {act = running frame own} {s = IfStmt at cond first (Else else_at other)} {x = old} {y = new} fits (RunsIf before runs after) typed) before after)
      (unused number (suc number) one fits.1 can.0 inner (omega (arith, room.ifs)) (omega arith)) (unused number (suc number + if_count first) others fits.2 can.1 outer (omega (arith, room.ifs)) (omega arith))
      (simulates one fits.1 can.0 inner typed runs)
  simulates {own = own} {number = number} {old = old} {new = new} (LowersIfElse {at = at} {else_at = else_at} {cond = cond} {first = first} {other = other} {taken = body} {skipped = rest} one others) fits can room typed (RunsIfElse before runs after) =
      let inner : Room (suc number) first = first_room setting layout fun frame good add_values bits.owned (suc number) _ first other refl (omega (arith, room.ifs)) room.scratch in
      let outer : Room (suc number + if_count first) other = rest_room setting layout fun frame good add_values bits.owned (suc number) _ first other refl (omega (arith, room.ifs)) room.scratch in
      if_else_does _ _ body rest _ _ false (condition cond number old new false fits.0 (omega (arith, room.ifs)) typed (typed_after setting funs {act = running frame own} {s = IfStmt at cond first (Else else_at other)} {x = old} {y = new} fits (RunsIfElse before runs after) typed) before after)
      (unused number (suc number) one fits.1 can.0 inner (omega (arith, room.ifs)) (omega arith)) (unused number (suc number + if_count first) others fits.2 can.1 outer (omega (arith, room.ifs)) (omega arith))
      (simulates others fits.2 can.1 outer typed runs)
  simulates {own = own} {number = number} {old = old} {new = new} (LowersWith {at = at} {setup = setup} {work = work} {a = a} {b = b} before inner) fits can room typed (RunsWith ready done undoing) =
      let setup_room : Room number setup = first_room setting layout fun frame good add_values bits.owned number _ setup work refl room.ifs room.scratch in
      let work_room : Room (number + if_count setup) work = rest_room setting layout fun frame good add_values bits.owned number _ setup work refl room.ifs room.scratch in
      let at_ready = typed_after setting funs fits.0 ready typed in
      let at_new = typed_after setting funs {act = running frame own} {s = WithStmt at setup work} {x = old} {y = new} fits (RunsWith ready done undoing) typed in
      let again = of_same setting (reverse_of-reverse_of setup) (undone setting undoing) in
      ap (λ (x : Bits). mean_wires a true (mean_wires b false x)) (simulates before fits.0 can.0 setup_room typed ready)
      ∙ ap (mean_wires a true) (simulates inner fits.1 can.1 work_room at_ready done ∙ sym (simulates before fits.0 can.0 setup_room at_new again))
      ∙ undo a false (state_bits setting frame new) (proper_code setting layout fun frame good add_values bits.owned before fits.0 can.0 setup_room)
  simulates (LowersBlock inner) fits can room typed (RunsBlock runs) = simulates inner fits can (record { ifs = room.ifs; scratch = room.scratch }) typed runs
  simulates LowersSkip fits can room typed RunsSkip = refl
