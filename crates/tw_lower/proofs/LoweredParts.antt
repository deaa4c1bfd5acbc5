-- The code of statements, part after part.
use Rattle.std.proofs.Common.{◌≡◌, ◌∙◌, sym, ap, subst, subst₂, refl, arith, add-one, ℕ, suc, ◌+◌, Bool, List, [], ◌∷◌, ◌++◌, map, Result, Ok, Err, IfOk, OnOk}
use Rattle.std.proofs.lemmas.List.{map-append}
use Rattle.std.proofs.lemmas.Result.{IfOk-weaker}
use Rattle.tw_text.specs.declared.place.Pos.{Pos}
use Rattle.tw_syntax.specs.Names.{NameTree, PathTree}
use Rattle.tw_syntax.specs.Statements.{StmtTree, Nothing, Then, Else, LetStmt, IfStmt, WithStmt, BlockStmt}
use Rattle.tw_syntax.specs.Terms.{ExprTree, RhsTree, ExprRhs}
use Rattle.tw_code.specs.declared.code.Code.{Code}
use Rattle.tw_code.specs.Trees.{CodeTree, WithCode, code_tree, sequence}
use Rattle.tw_code.specs.Trees as code
use Rattle.tw_resolve.specs.Setting.{Setting}
use Rattle.tw_frames.specs.declared.regions.WireLayout.{WireLayout}
use Rattle.tw_arith.specs.Operands.{EndsWithin}
use Rattle.tw_frames.specs.Frames.{Frame, if_count, if_wire}
use Rattle.tw_lower.specs.Operands.{IsExprCode, path_wire}
use Rattle.tw_lower.specs.Lowering.{CanLower, Lowers, LowersNothing, LowersThen, LowersLet, LowersIf, LowersIfElse, LowersWith, LowersBlock, if_tree, if_else_tree}

-- codes in order, and then one more
abbrev pub joined : List CodeTree → CodeTree → CodeTree
joined [] rest = rest
joined (first ∷ codes) rest = code.Then first (joined codes rest)

joined_nothing : (codes : List CodeTree) → joined codes code.Nothing ≡ sequence codes
joined_nothing [] = refl
joined_nothing (first ∷ codes) = ap (code.Then first) (joined_nothing codes)

joined_last : (codes : List CodeTree) (last rest : CodeTree) → joined (codes ++ last ∷ []) rest ≡ joined codes (code.Then last rest)
joined_last [] last rest = refl
joined_last (first ∷ codes) last rest = ap (code.Then first) (joined_last codes last rest)

next_is : (number : ℕ) → number + 1 ≡ suc number
next_is number = omega arith

module _ (setting : Setting) (layout : WireLayout) (frame : Frame) (own : ℕ) where
  -- the parts are the code of the first statements: with the code of those that are left they are the code of all
  pub record AreLowered (first number : ℕ) (all left : StmtTree) (parts : List Code) : Type 0 where
    pub can : CanLower setting layout frame left
    pub count : number + if_count left ≡ first + if_count all
    pub lowered : (rest : CodeTree) → Lowers setting layout frame own number left rest → Lowers setting layout frame own first all (joined (map code_tree parts) rest)

  pub none_lowered : (first : ℕ) (all : StmtTree) → CanLower setting layout frame all → AreLowered first first all all []
  none_lowered first all can = record { can = can; count = refl; lowered = λ rest is. is }

  pub one_more : {first number next : ℕ} {all left stmt rest : StmtTree} {parts : List Code} (part : Code) → AreLowered first number all left parts → left ≡ Then stmt rest
      → next ≡ number + if_count stmt → Lowers setting layout frame own number stmt (code_tree part) → AreLowered first next all rest (parts ++ part ∷ [])
  one_more {first} {number} {next} {all} {left} {stmt} {rest} {parts} part before is counted lowers = record {
    can = (subst (CanLower setting layout frame) is before.can).1;
    count = let total = before.count in let count = ap if_count is in omega (arith, total, count, counted);
    lowered = λ after later.
        subst (Lowers setting layout frame own first all) (sym (ap (λ codes. joined codes after) (map-append code_tree parts (part ∷ [])) ∙ joined_last (map code_tree parts) (code_tree part) after))
        (before.lowered (code.Then (code_tree part) after)
        (subst (λ s. Lowers setting layout frame own number s (code.Then (code_tree part) after)) (sym is) (LowersThen lowers (subst (λ n. Lowers setting layout frame own n rest after) counted later))));
  }

  pub all_lowered : {first number : ℕ} {all left : StmtTree} {parts : List Code} → AreLowered first number all left parts → left ≡ Nothing → Lowers setting layout frame own first all (sequence (map code_tree parts))
  all_lowered {first} {number} {all} {left} {parts} done is =
      subst (Lowers setting layout frame own first all) (joined_nothing (map code_tree parts))
      (done.lowered code.Nothing (subst (λ s. Lowers setting layout frame own number s code.Nothing) (sym is) LowersNothing))

  pub all_counted : {first number : ℕ} {all left : StmtTree} {parts : List Code} → AreLowered first number all left parts → left ≡ Nothing → number ≡ first + if_count all
  all_counted done is = let total = done.count in let none = ap if_count is in omega (arith, total, none)

  -- an assignment
  pub let_lowered : (out : ℕ) (target : NameTree) (rhs : RhsTree) (expr : ExprTree) (code : CodeTree) → out ≡ frame.wire target.text → rhs ≡ ExprRhs expr → IsExprCode setting frame layout.scratch out expr code
      → (at : Pos) (forward : Bool) (number : ℕ) → Lowers setting layout frame own number (LetStmt at forward target rhs) code
  let_lowered out target rhs expr code is same made at forward number =
      subst (λ (r : RhsTree). Lowers setting layout frame own number (LetStmt at forward target r) code) (sym same)
      (LowersLet {target = target} (subst (λ w. IsExprCode setting frame layout.scratch w expr code) is made))

  module _ {E : Type 0} (result : Result Code E) (number : ℕ) where
    -- an `if`
    pub if_lowered : (cond : PathTree) (first other : StmtTree) (wire : ℕ) (taken : CodeTree) → wire ≡ path_wire setting frame cond → other ≡ Nothing
        → Lowers setting layout frame own (number + 1) first taken → IfOk result (λ code. code_tree code ≡ if_tree wire (frame.ifs + number) taken)
        → IfOk result (λ code. (at : Pos) → Lowers setting layout frame own number (IfStmt at cond first other) (code_tree code))
    if_lowered cond first other wire taken reads none one made =
        IfOk-weaker result _ _
        (λ code is at.
        subst₂ (λ (s : StmtTree) (c : CodeTree). Lowers setting layout frame own number s c) (ap (IfStmt at cond first) (sym none)) (sym (is ∙ ap (λ w. if_tree w (frame.ifs + number) taken) reads))
        (LowersIf (subst (λ n. Lowers setting layout frame own n first taken) (add-one number) one)))
        made

    pub if_else_lowered : (cond : PathTree) (first other : StmtTree) (else_at : Pos) (stmts : StmtTree) (wire next : ℕ) (taken skipped : CodeTree) → wire ≡ path_wire setting frame cond → other ≡ Else else_at stmts
        → Lowers setting layout frame own (number + 1) first taken → next ≡ number + 1 + if_count first → Lowers setting layout frame own next stmts skipped
        → IfOk result (λ code. code_tree code ≡ if_else_tree wire (frame.ifs + number) taken skipped)
        → IfOk result (λ code. (at : Pos) → Lowers setting layout frame own number (IfStmt at cond first other) (code_tree code))
    if_else_lowered cond first other else_at stmts wire next taken skipped reads same one later rest made =
        IfOk-weaker result _ _
        (λ code is at.
        subst₂ (λ (s : StmtTree) (c : CodeTree). Lowers setting layout frame own number s c) (ap (IfStmt at cond first) (sym same)) (sym (is ∙ ap (λ w. if_else_tree w (frame.ifs + number) taken skipped) reads))
        (LowersIfElse (subst (λ n. Lowers setting layout frame own n first taken) (add-one number) one)
        (subst (λ n. Lowers setting layout frame own n stmts skipped) (later ∙ ap (λ n. n + if_count first) (add-one number)) rest)))
        made

    -- a statement that is an `if`
    pub if_stmt_lowered : (stmt : StmtTree) (at : Pos) (cond : PathTree) (first other : StmtTree) → stmt ≡ IfStmt at cond first other
        → IfOk result (λ code. (at : Pos) → Lowers setting layout frame own number (IfStmt at cond first other) (code_tree code))
        → IfOk result (λ code. Lowers setting layout frame own number stmt (code_tree code))
    if_stmt_lowered stmt at cond first other same made =
        IfOk-weaker result _ _ (λ code is. subst (λ (s : StmtTree). Lowers setting layout frame own number s (code_tree code)) (sym same) (is at)) made

    -- a `with`
    pub with_lowered : (stmt : StmtTree) (at : Pos) (setup work : StmtTree) (next : ℕ) (a b : CodeTree) → stmt ≡ WithStmt at setup work → Lowers setting layout frame own number setup a
        → next ≡ number + if_count setup → Lowers setting layout frame own next work b → IfOk result (λ code. code_tree code ≡ WithCode a b)
        → IfOk result (λ code. Lowers setting layout frame own number stmt (code_tree code))
    with_lowered stmt at setup work next a b same before later inner made =
        IfOk-weaker result _ _
        (λ code is.
        subst₂ (λ (s : StmtTree) (c : CodeTree). Lowers setting layout frame own number s c) (sym same) (sym is)
        (LowersWith before (subst (λ n. Lowers setting layout frame own n work b) later inner)))
        made

    -- a block
    pub block_lowered : (stmt : StmtTree) (at : Pos) (body : StmtTree) → stmt ≡ BlockStmt at body → IfOk result (λ code. Lowers setting layout frame own number body (code_tree code))
        → IfOk result (λ code. Lowers setting layout frame own number stmt (code_tree code))
    block_lowered stmt at body same made =
        IfOk-weaker result _ _ (λ code is. subst (λ (s : StmtTree). Lowers setting layout frame own number s (code_tree code)) (sym same) (LowersBlock is)) made

  -- the first statement that is left
  pub first_can : {first number : ℕ} {all left stmt rest : StmtTree} {parts : List Code} → AreLowered first number all left parts → left ≡ Then stmt rest → CanLower setting layout frame stmt
  first_can before is = (subst (CanLower setting layout frame) is before.can).0

  pub first_ends : (ifs : ℕ) {first number : ℕ} {all left stmt rest : StmtTree} {parts : List Code} → EndsWithin (ifs + first) (if_count all) → AreLowered first number all left parts → left ≡ Then stmt rest
      → EndsWithin (ifs + number) (if_count stmt)
  first_ends ifs ends before is = let total = before.count in let count = ap if_count is in omega (arith, ends, total, count)

  -- the code of an `if`, from that of its branches
  pub lowered_if : {number wire if_at : ℕ} {cond : PathTree} {first : StmtTree} {taken c : CodeTree} (at : Pos) → wire ≡ path_wire setting frame cond → if_at ≡ if_wire frame number
      → Lowers setting layout frame own (number + 1) first taken → c ≡ if_tree wire if_at taken → Lowers setting layout frame own number (IfStmt at cond first Nothing) c
  lowered_if {number} {wire} {if_at} {cond} {first} {taken} at wire_is own_is lowers is =
      subst (Lowers setting layout frame own number (IfStmt at cond first Nothing)) (sym (is ∙ (λ i. if_tree (wire_is i) (own_is i) taken)))
      (LowersIf (subst (λ n. Lowers setting layout frame own n first taken) (next_is number) lowers))

  pub lowered_if_else : {number next wire if_at : ℕ} {cond : PathTree} {first other : StmtTree} {taken skipped c : CodeTree} (at else_at : Pos) → wire ≡ path_wire setting frame cond → if_at ≡ if_wire frame number
      → Lowers setting layout frame own (number + 1) first taken → next ≡ number + 1 + if_count first → Lowers setting layout frame own next other skipped
      → c ≡ if_else_tree wire if_at taken skipped → Lowers setting layout frame own number (IfStmt at cond first (Else else_at other)) c
  lowered_if_else {number} {next} {wire} {if_at} {cond} {first} {other} {taken} {skipped} at else_at wire_is own_is lowers next_at later is =
      subst (Lowers setting layout frame own number (IfStmt at cond first (Else else_at other))) (sym (is ∙ (λ i. if_else_tree (wire_is i) (own_is i) taken skipped)))
      (LowersIfElse (subst (λ n. Lowers setting layout frame own n first taken) (next_is number) lowers)
      (subst (λ n. Lowers setting layout frame own n other skipped) (next_at ∙ ap (λ n. n + if_count first) (next_is number)) later))

-- what holds whatever the answer is holds of an answer that is Ok
pub if_answered : {A E : Type 0} {P : Type 0} (result : Result A E) → P → OnOk result P
if_answered (Ok value) holds = holds
if_answered (Err e) holds = tt
