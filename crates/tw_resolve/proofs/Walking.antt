-- Checks of statements, one after the other.
use Rattle.std.proofs.Common.{◌≡◌, ◌∙◌, ◌<◌, ◌+◌, ap, sym, ℕ, List, drop, length, get_or, Some, Result, Ok, Err}
use Rattle.std.specs.Result.{IsErrAnd}
use Rattle.std.proofs.lemmas.List.{at_drop_more}
use Rattle.tw_text.specs.declared.place.Pos.{Pos}
use Rattle.tw_text.specs.declared.refusal.Fault.{Fault}
use Rattle.tw_syntax.specs.declared.statement.Stmt.{Stmt}
use Rattle.tw_syntax.specs.Names.{PathTree}
use Rattle.tw_syntax.specs.Programs.{FunTree}
use Rattle.tw_syntax.specs.Statements.{StmtTree, Then, IfStmt, WithStmt, stmt_tree, stmts_tree}
use Rattle.tw_types.specs.Types.{Boolean}
use Rattle.tw_resolve.specs.Checked.{TriesInto, Checks}
use Rattle.tw_resolve.specs.Demands.{Demand, first_broken, Tries}
use Rattle.tw_resolve.specs.Setting.{Setting}
use Rattle.tw_resolve.specs.Expressions.{Variables, path_rules}
use Rattle.tw_resolve.specs.Statements.{variables_after, stmt_rules}
use Rattle.tw_resolve.proofs.Demands.{first_broken-after_none}
use Rattle.tw_resolve.proofs.Trying.{stopped, then_tried, tries_same}

-- a check that stops leaves any variables
into_err : {A : Type 0} (demands : List Demand) (wanted new : Variables) (result : Result A Fault) (fault : Fault)
    → Tries demands result → IsErrAnd result (λ e. e ≡ fault) → TriesInto demands wanted new result
into_err demands wanted new (Err e) fault tries is = record { tried = tries; after = tt }
into_err demands wanted new (Ok x) fault tries is = absurd is

module _ (setting : Setting) (number : ℕ) (fun : FunTree) where
  -- a tree in place of an equal one
  pub checks_at : {A : Type 0} (stmt other : StmtTree) (old new : Variables) (result : Result A Fault)
      → stmt ≡ other → Checks setting number fun other old new result → Checks setting number fun stmt old new result
  checks_at stmt other old new result same checks = rw same checks

  -- two parts, one after the other
  pub with_stopped : {A B : Type 0} (at : Pos) (first rest : StmtTree) (old middle new : Variables) (fault : Fault) (result : Result B Fault)
      → Checks {A = A} setting number fun first old middle (Err fault) → IsErrAnd result (λ e. e ≡ fault)
      → Checks setting number fun (WithStmt at first rest) old new result
  with_stopped at first rest old middle new fault result checks is = into_err _ _ _ result fault (stopped _ _ fault result checks.tried is) is

  pub with_checked : {A B : Type 0} (at : Pos) (first rest : StmtTree) (old middle new : Variables) (x : A) (result : Result B Fault)
      → Checks setting number fun first old middle (Ok x) → Checks setting number fun rest middle new result
      → Checks setting number fun (WithStmt at first rest) old new result
  with_checked at first rest old middle new x result one two =
      let other : Checks setting number fun rest (variables_after setting old first) new result = rw (← one.after) two in
      record { tried = then_tried _ _ x result one.tried other.tried; after = other.after }

  -- a condition, and then two parts
  pub if_then : {A B : Type 0} (at : Pos) (cond : PathTree) (first rest : StmtTree) (old new : Variables) (x : A) (result : Result B Fault)
      → Tries (path_rules old (Some Boolean) cond) (Ok x) → Checks setting number fun (WithStmt at first rest) old new result
      → Checks setting number fun (IfStmt at cond first rest) old new result
  if_then at cond first rest old new x result tries checks =
      record { tried = then_tried (path_rules old (Some Boolean) cond) _ x result tries checks.tried; after = checks.after }

  -- the statements of a list, one after the other
  module _ (stmts : List Stmt) (i : ℕ) (other : Stmt) (within : i < length stmts) where
    next : stmts_tree (drop i stmts) ≡ Then (stmt_tree (get_or stmts i other)) (stmts_tree (drop (i + 1) stmts))
    next = at_drop_more stmts_tree stmts i other within

    pub next_stopped : {A B : Type 0} (old middle new : Variables) (fault : Fault) (result : Result B Fault)
        → Checks {A = A} setting number fun (stmt_tree (get_or stmts i other)) old middle (Err fault) → IsErrAnd result (λ e. e ≡ fault)
        → Checks setting number fun (stmts_tree (drop i stmts)) old new result
    next_stopped old middle new fault result checks is =
        rw next (into_err _ _ _ result fault (stopped _ _ fault result checks.tried is) is)

    pub next_kept : {A : Type 0} (old middle : Variables) (x : A) → Checks setting number fun (stmt_tree (get_or stmts i other)) old middle (Ok x)
        → first_broken (stmt_rules setting number fun old (stmts_tree (drop i stmts))) ≡ first_broken (stmt_rules setting number fun middle (stmts_tree (drop (i + 1) stmts)))
    next_kept old middle x checks =
        ap (λ (s : StmtTree). first_broken (stmt_rules setting number fun old s)) next
        ∙ first_broken-after_none (stmt_rules setting number fun old (stmt_tree (get_or stmts i other))) _ checks.tried.kept
        ∙ ap (λ (v : Variables). first_broken (stmt_rules setting number fun v (stmts_tree (drop (i + 1) stmts)))) (sym checks.after)

    pub next_after : {A : Type 0} (old middle : Variables) (x : A) → Checks setting number fun (stmt_tree (get_or stmts i other)) old middle (Ok x)
        → variables_after setting old (stmts_tree (drop i stmts)) ≡ variables_after setting middle (stmts_tree (drop (i + 1) stmts))
    next_after old middle x checks =
        ap (variables_after setting old) next ∙ ap (λ (v : Variables). variables_after setting v (stmts_tree (drop (i + 1) stmts))) (sym checks.after)

  -- a list that is checked from here on
  pub checks_from : {A : Type 0} (whole rest : StmtTree) (start old new : Variables) (result : Result A Fault)
      → first_broken (stmt_rules setting number fun start whole) ≡ first_broken (stmt_rules setting number fun old rest)
      → variables_after setting start whole ≡ variables_after setting old rest
      → Checks setting number fun rest old new result → Checks setting number fun whole start new result
  checks_from whole rest start old new result demands after checks =
      record { tried = tries_same _ _ result demands checks.tried; after = rw after checks.after }
