-- The wires that the code of a statement uses, and that it is proper.
use Rattle.std.proofs.Common.{◌≡◌, ◌≢◌, ◌≤◌, ◌<◌, ◌+◌, subst, refl, ℕ, suc, max, Some, arith}
use Rattle.tw_syntax.specs.Names.{NameTree, PathTree}
use Rattle.tw_syntax.specs.Terms.{ExprTree, ExprRhs}
use Rattle.tw_syntax.specs.Statements.{StmtTree, Nothing, Else, LetStmt, IfStmt}
use Rattle.tw_syntax.specs.Programs.{FunTree}
use Rattle.tw_types.specs.Types.{Boolean}
use Rattle.tw_code.specs.Trees.{CodeTree}
use Rattle.tw_code.specs.Wires.{EachWire, IsUnused, IsProperCode}
use Rattle.tw_code.proofs.Wires.{each_weaker}
use Rattle.tw_resolve.specs.Expressions.{type_at_path}
use Rattle.tw_resolve.specs.Setting.{Setting}
use Rattle.tw_state.proofs.TypedTrees.{StmtFits}
use Rattle.tw_frames.specs.declared.regions.WireLayout.{WireLayout}
use Rattle.tw_frames.specs.Frames.{Frame, if_count, if_wire}
use Rattle.tw_frames.specs.Regions as regions
use Rattle.tw_frames.specs.Regions.{Owns, IsFrame}
use Rattle.tw_frames.specs.Scratch.{stmt_scratch}
use Rattle.tw_lower.specs.Operands.{path_wire, IsExprCode}
use Rattle.tw_lower.specs.Lowering.{Lowers, LowersNothing, LowersThen, LowersLet, LowersIf, LowersIfElse, LowersWith, LowersBlock, LowersSkip, CanLower}
use Rattle.tw_lower.proofs.ExprCodes.{IsOfFrame, OfName, OfScratch, OfIf, AddsValue, AddValues}

max-left : (a b at end : ℕ) → at + max a b ≤ end → at + a ≤ end
max-left a b at end fits = omega (arith, fits)

max-right : (a b at end : ℕ) → at + max a b ≤ end → at + b ≤ end
max-right a b at end fits = omega (arith, fits)

module _ (setting : Setting) (layout : WireLayout) (fun : FunTree) (frame : Frame) (good : IsFrame setting layout fun frame) (add_values : AddValues setting layout frame)
    (owned : (cond : PathTree) → type_at_path frame.types cond ≡ Some Boolean → Owns setting.widths frame cond.root.text (path_wire setting frame cond)) where
  -- there are wires for the `if`s of a statement from this number on, and scratch for its expressions
  pub record HasRoom (number : ℕ) (s : StmtTree) : Type 0 where
    pub ifs : number + if_count s ≤ if_count fun.body
    pub scratch : layout.scratch + stmt_scratch setting frame.types s ≤ layout.flags

  -- more `if`s
  pub wider : (from to first last : ℕ) → first ≤ from → to ≤ last → (code : CodeTree) → EachWire (IsOfFrame setting layout frame from to) code → EachWire (IsOfFrame setting layout frame first last) code
  wider from to first last before after code uses = each_weaker (IsOfFrame setting layout frame from to) (IsOfFrame setting layout frame first last) wire_of code uses
    where
      wire_of : (wire : ℕ) → IsOfFrame setting layout frame from to wire → IsOfFrame setting layout frame first last wire
      wire_of wire (OfName name owns) = OfName name owns
      wire_of wire (OfScratch at_scratch below) = OfScratch at_scratch below
      wire_of wire (OfIf at_first below) = OfIf (omega (arith, before, at_first)) (omega (arith, after, below))

  -- the wire of an `if` is not used by code of later ones
  pub if_unused : (number from to : ℕ) → number < if_count fun.body → number < from → (code : CodeTree) → EachWire (IsOfFrame setting layout frame from to) code → IsUnused (if_wire frame number) code
  if_unused number from to small later code uses = each_weaker (IsOfFrame setting layout frame from to) (λ used. if_wire frame number ≢ used) other code uses
    where
      of_if : regions.OfIf fun frame (if_wire frame number)
      of_if = record { from_start = omega arith; before_end = omega (arith, small) }

      other : (wire : ℕ) → IsOfFrame setting layout frame from to wire → if_wire frame number ≢ wire
      other wire (OfName name owns) same = good.ifs_apart name wire owns (subst (regions.OfIf fun frame) same of_if)
      other wire (OfScratch at_scratch below) same = absurd (omega (arith, same, at_scratch, small, good.ifs_before_next, good.next_before_scratch))
      other wire (OfIf at_first below) same = absurd (omega (arith, same, at_first, later))

  -- code of an expression, in a statement with any `if`s
  of_expr : (from to : ℕ) (code : CodeTree) → EachWire (IsOfFrame setting layout frame 0 0) code → EachWire (IsOfFrame setting layout frame from to) code
  of_expr from to code uses = each_weaker (IsOfFrame setting layout frame 0 0) (IsOfFrame setting layout frame from to) wire_of code uses
    where
      wire_of : (wire : ℕ) → IsOfFrame setting layout frame 0 0 wire → IsOfFrame setting layout frame from to wire
      wire_of wire (OfName name owns) = OfName name owns
      wire_of wire (OfScratch at_scratch below) = OfScratch at_scratch below
      wire_of wire (OfIf at_first below) = absurd (omega (arith, at_first, below))

  -- the parts of a statement have room if it has
  pub first_room : (number ifs : ℕ) (first rest : StmtTree) → ifs ≡ if_count first + if_count rest → number + ifs ≤ if_count fun.body
      → layout.scratch + max (stmt_scratch setting frame.types first) (stmt_scratch setting frame.types rest) ≤ layout.flags → HasRoom number first
  first_room number ifs first rest all few fits = record { ifs = omega (arith, all, few); scratch = max-left _ _ layout.scratch layout.flags fits }

  pub rest_room : (number ifs : ℕ) (first rest : StmtTree) → ifs ≡ if_count first + if_count rest → number + ifs ≤ if_count fun.body
      → layout.scratch + max (stmt_scratch setting frame.types first) (stmt_scratch setting frame.types rest) ≤ layout.flags → HasRoom (number + if_count first) rest
  rest_room number ifs first rest all few fits = record { ifs = omega (arith, all, few); scratch = max-right _ _ layout.scratch layout.flags fits }

  -- the code of an expression, by the contract of expressions
  pub let_adds : {number : ℕ} {at forward : _} {target : NameTree} {expr : ExprTree} {code : CodeTree} → IsExprCode setting frame layout.scratch (frame.wire target.text) expr code
      → StmtFits setting frame.types (LetStmt at forward target (ExprRhs expr)) → CanLower setting layout frame (LetStmt at forward target (ExprRhs expr)) → HasRoom number (LetStmt at forward target (ExprRhs expr))
      → AddsValue setting layout frame target.text expr code
  let_adds {target = target} {expr = expr} {code = code} is fits can room = add_values target expr code fits.0 is fits.1 fits.2 can room.scratch

  -- the wire of a condition is that of its variable, and no wire of an `if`
  cond_of : (cond : PathTree) (from to : ℕ) → type_at_path frame.types cond ≡ Some Boolean → IsOfFrame setting layout frame from to (path_wire setting frame cond)
  cond_of cond from to typed = OfName cond.root.text (owned cond typed)

  pub cond_other : (cond : PathTree) (number : ℕ) → type_at_path frame.types cond ≡ Some Boolean → number < if_count fun.body → if_wire frame number ≢ path_wire setting frame cond
  cond_other cond number typed small same =
      good.ifs_apart cond.root.text (path_wire setting frame cond) (owned cond typed) (subst (regions.OfIf fun frame) same (record { from_start = omega arith; before_end = omega (arith, small) }))

  -- the wire of an `if`
  own_of : (number from to : ℕ) → from ≤ number → number < to → IsOfFrame setting layout frame from to (if_wire frame number)
  own_of number from to after before = OfIf (omega (arith, after)) (omega (arith, before))

  pub uses : {own number : ℕ} {s : StmtTree} {code : CodeTree} → Lowers setting layout frame own number s code → StmtFits setting frame.types s → CanLower setting layout frame s → HasRoom number s
      → EachWire (IsOfFrame setting layout frame number (number + if_count s)) code
  uses LowersNothing fits can room = tt
  uses {number = number} (LowersThen {first = first} {rest = rest} {a = a} {b = b} one others) fits can room = (
    wider _ _ _ _ (omega arith) (omega arith) a (uses one fits.0 can.0 (first_room number _ first rest refl room.ifs room.scratch)),
    wider _ _ _ _ (omega arith) (omega arith) b (uses others fits.1 can.1 (rest_room number _ first rest refl room.ifs room.scratch)),
  )
  uses (LowersLet is) fits can room = of_expr _ _ _ (let_adds is fits can room).uses
  uses {number = number} (LowersIf {at = at} {cond = cond} {first = first} {taken = a} one) fits can room =
      let mine : IsOfFrame setting layout frame number (number + if_count (IfStmt at cond first Nothing)) (if_wire frame number) = own_of number number _ (omega arith) (omega arith) in
      (((cond_of cond _ _ fits.0, tt), mine), ((mine, wider _ _ _ _ (omega arith) (omega arith) a (uses one fits.1 can.0 (first_room (suc number) _ first Nothing refl (omega (arith, room.ifs)) room.scratch))), tt))
  uses {number = number} (LowersIfElse {at = at} {else_at = else_at} {cond = cond} {first = first} {other = other} {taken = a} {skipped = b} one others) fits can room =
      let mine : IsOfFrame setting layout frame number (number + if_count (IfStmt at cond first (Else else_at other))) (if_wire frame number) = own_of number number _ (omega arith) (omega arith) in (
        ((cond_of cond _ _ fits.0, tt), mine),
        (
          (mine, wider _ _ _ _ (omega arith) (omega arith) a (uses one fits.1 can.0 (first_room (suc number) _ first other refl (omega (arith, room.ifs)) room.scratch))),
          (((tt, mine), (mine, wider _ _ _ _ (omega arith) (omega arith) b (uses others fits.2 can.1 (rest_room (suc number) _ first other refl (omega (arith, room.ifs)) room.scratch)))), tt),
        ),
      )
  uses {number = number} (LowersWith {setup = setup} {work = work} {a = a} {b = b} before inner) fits can room = (
    wider _ _ _ _ (omega arith) (omega arith) a (uses before fits.0 can.0 (first_room number _ setup work refl room.ifs room.scratch)),
    wider _ _ _ _ (omega arith) (omega arith) b (uses inner fits.1 can.1 (rest_room number _ setup work refl room.ifs room.scratch)),
  )
  uses (LowersBlock inner) fits can room = uses inner fits can (record { ifs = room.ifs; scratch = room.scratch })
  uses LowersSkip fits can room = tt

  pub proper_code : {own number : ℕ} {s : StmtTree} {code : CodeTree} → Lowers setting layout frame own number s code → StmtFits setting frame.types s → CanLower setting layout frame s → HasRoom number s
      → IsProperCode code
  proper_code LowersNothing fits can room = tt
  proper_code {number = number} (LowersThen {first = first} {rest = rest} one others) fits can room =
      (proper_code one fits.0 can.0 (first_room number _ first rest refl room.ifs room.scratch), proper_code others fits.1 can.1 (rest_room number _ first rest refl room.ifs room.scratch))
  proper_code (LowersLet is) fits can room = (let_adds is fits can room).proper
  proper_code {number = number} (LowersIf {cond = cond} {first = first} {taken = a} one) fits can room =
      let inner = first_room (suc number) _ first Nothing refl (omega (arith, room.ifs)) room.scratch in
      ((((cond_other cond number fits.0 (omega (arith, room.ifs)), tt), (tt, tt))), ((if_unused number _ _ (omega (arith, room.ifs)) (omega arith) a (uses one fits.1 can.0 inner), proper_code one fits.1 can.0 inner), tt))
  proper_code {number = number} (LowersIfElse {cond = cond} {first = first} {other = other} {taken = a} {skipped = b} one others) fits can room =
      let inner = first_room (suc number) _ first other refl (omega (arith, room.ifs)) room.scratch in
      let outer = rest_room (suc number) _ first other refl (omega (arith, room.ifs)) room.scratch in
      let small : number < if_count fun.body = omega (arith, room.ifs) in (
        ((cond_other cond number fits.0 small, tt), (tt, tt)),
        (
          (if_unused number _ _ small (omega arith) a (uses one fits.1 can.0 inner), proper_code one fits.1 can.0 inner),
          (((tt, tt), (if_unused number _ _ small (omega arith) b (uses others fits.2 can.1 outer), proper_code others fits.2 can.1 outer)), tt),
        ),
      )
  proper_code {number = number} (LowersWith {setup = setup} {work = work} before inner) fits can room =
      (proper_code before fits.0 can.0 (first_room number _ setup work refl room.ifs room.scratch), proper_code inner fits.1 can.1 (rest_room number _ setup work refl room.ifs room.scratch))
  proper_code (LowersBlock inner) fits can room = proper_code inner fits can (record { ifs = room.ifs; scratch = room.scratch })
  proper_code LowersSkip fits can room = tt
