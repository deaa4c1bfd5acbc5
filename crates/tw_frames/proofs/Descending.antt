-- The calls of each function of an accepted program go down.
use Rattle.std.proofs.Common.{◌≡◌, ◌∙◌, refl, sym, subst, ℕ, zero, suc, ◌+◌, arith, Bool, true, false, ◌&&◌, ltb, ◌==◌, List, [], ◌∷◌, slice_get, Option, Some, None}
use Rattle.std.proofs.Math.Bool.{Bool-set}
use Rattle.std.proofs.Math.Logic.{∥∥₁_elim}
use Rattle.std.proofs.lemmas.Bool.{and_parts, ltb-true, lt-ltb, eqb-true, eq-eqb, false≢true}
use Rattle.std.proofs.lemmas.Option.{none-some}
use Rattle.tw_syntax.specs.Programs.{FunTree, ProgramTree, program_tree}
use Rattle.tw_syntax.specs.Statements.{StmtTree, Nothing, Then, Else, LetStmt, SwapStmt, MemSwapStmt, IfStmt, WithStmt, BlockStmt, SkipStmt}
use Rattle.tw_syntax.specs.Terms.{BoundTree, FixedBound, SameBound, LessBound, RhsTree, ExprRhs, CallRhs, AllocRhs}
use Rattle.tw_resolve.specs.Declarations.{number_of}
use Rattle.tw_resolve.specs.Entries.{types_in}
use Rattle.tw_resolve.specs.Expressions.{may_call}
use Rattle.tw_resolve.specs.Resolved.{resolved_setting}
use Rattle.tw_resolve.specs.Setting.{Setting}
use Rattle.tw_resolve.specs.declared.tables.Tables.{Tables}
use Rattle.tw_check.specs.declared.checked.Checked.{Checked}
use Rattle.tw_state.proofs.Basics.{some_value, by_option, by_test}
use Rattle.tw_state.proofs.CallEnds.{MayCall, CallsEarlier, CallsItself, IsLess, RhsDescends, StmtDescends}
use Rattle.tw_state.proofs.EntryFunctions.{function_of, function_of-number}
use Rattle.tw_state.proofs.SoundPrograms.{sound}
use Rattle.tw_frames.proofs.OneMeasure.{Descends}

-- whether a bound is the caller's own, less a positive number
is_less : Option BoundTree → Bool
is_less (Some (LessBound name number)) = ltb 0 number
is_less (Some (FixedBound number)) = false
is_less (Some (SameBound name)) = false
is_less None = false

-- whether a function of a program may be called, if it is there
may_go : ℕ → Option BoundTree → Option ℕ → Bool
may_go k bound None = false
may_go k bound (Some j) = may_call k j (is_less bound)

module _ (setting : Setting) where
  -- whether each call of a statement goes down
  rhs_test : ℕ → RhsTree → Bool
  rhs_test k (CallRhs callee bound args) = may_go k bound (number_of setting.funs callee.text)
  rhs_test k (ExprRhs expr) = true
  rhs_test k (AllocRhs to) = true

  stmt_test : ℕ → StmtTree → Bool
  stmt_test k Nothing = true
  stmt_test k (Then first rest) = stmt_test k first && stmt_test k rest
  stmt_test k (Else at stmts) = stmt_test k stmts
  stmt_test k (LetStmt at forward target rhs) = rhs_test k rhs
  stmt_test k (SwapStmt at left right) = true
  stmt_test k (MemSwapStmt at pointer value) = true
  stmt_test k (IfStmt at cond first other) = stmt_test k first && stmt_test k other
  stmt_test k (WithStmt at setup work) = stmt_test k setup && stmt_test k work
  stmt_test k (BlockStmt at body) = stmt_test k body
  stmt_test k (SkipStmt at) = true

  funs_test : ℕ → List FunTree → Bool
  funs_test k [] = true
  funs_test k (fun ∷ funs) = stmt_test k fun.body && funs_test (suc k) funs

less_holds : (bound : Option BoundTree) → IsLess bound → is_less bound ≡ true
unfolding is_less
less_holds (Some (LessBound name number)) less = lt-ltb 0 number less
less_holds (Some (FixedBound number)) less = absurd less
less_holds (Some (SameBound name)) less = absurd less
less_holds None less = absurd less

less_is : (bound : Option BoundTree) → is_less bound ≡ true → IsLess bound
unfolding is_less
less_is (Some (LessBound name number)) test = ltb-true 0 number test
less_is (Some (FixedBound number)) test = absurd (false≢true test)
less_is (Some (SameBound name)) test = absurd (false≢true test)
less_is None test = absurd (false≢true test)

may_holds : (k j : ℕ) (bound : Option BoundTree) → MayCall k j bound → may_call k j (is_less bound) ≡ true
may_holds k j bound (CallsEarlier less) = rw (lt-ltb j k less) refl
may_holds k j bound (CallsItself same less) =
    rw (less_holds bound less, eq-eqb j k same) (by_test (ltb j k) (λ is. rw is refl) (λ is. rw is refl))

may_is : (k j : ℕ) (bound : Option BoundTree) → may_call k j (is_less bound) ≡ true → MayCall k j bound
may_is k j bound test =
    by_test (ltb j k) (λ is. CallsEarlier (ltb-true j k is))
    (λ is.
    let both = and_parts (j == k) (is_less bound) (rw is at test) in
    CallsItself (eqb-true j k both.0) (less_is bound both.1))

module _ (setting : Setting) where
  rhs_holds : (k : ℕ) (rhs : RhsTree) → RhsDescends setting k rhs → rhs_test setting k rhs ≡ true
  unfolding rhs_test may_go
  rhs_holds k (CallRhs callee bound args) down = rw down.1 (may_holds k down.0 bound down.2)
  rhs_holds k (ExprRhs expr) down = refl
  rhs_holds k (AllocRhs to) down = refl

  rhs_is : (k : ℕ) (rhs : RhsTree) → rhs_test setting k rhs ≡ true → RhsDescends setting k rhs
  unfolding rhs_test may_go
  rhs_is k (CallRhs callee bound args) test =
      by_option (number_of setting.funs callee.text) (λ none. absurd (false≢true (rw none at test)))
      (λ j is. (j, is, may_is k j bound (rw is at test)))
  rhs_is k (ExprRhs expr) test = tt
  rhs_is k (AllocRhs to) test = tt

  both_hold : (x y : Bool) → x ≡ true → y ≡ true → (x && y) ≡ true
  both_hold x y p q = rw (p, q) refl

  stmt_holds : (k : ℕ) (s : StmtTree) → StmtDescends setting k s → stmt_test setting k s ≡ true
  unfolding stmt_test
  stmt_holds k Nothing down = refl
  stmt_holds k (Then first rest) down = both_hold _ _ (stmt_holds k first down.0) (stmt_holds k rest down.1)
  stmt_holds k (Else at stmts) down = stmt_holds k stmts down
  stmt_holds k (LetStmt at forward target rhs) down = rhs_holds k rhs down
  stmt_holds k (SwapStmt at left right) down = refl
  stmt_holds k (MemSwapStmt at pointer value) down = refl
  stmt_holds k (IfStmt at cond first other) down = both_hold _ _ (stmt_holds k first down.0) (stmt_holds k other down.1)
  stmt_holds k (WithStmt at setup work) down = both_hold _ _ (stmt_holds k setup down.0) (stmt_holds k work down.1)
  stmt_holds k (BlockStmt at body) down = stmt_holds k body down
  stmt_holds k (SkipStmt at) down = refl

  stmt_is : (k : ℕ) (s : StmtTree) → stmt_test setting k s ≡ true → StmtDescends setting k s
  unfolding stmt_test
  stmt_is k Nothing test = tt
  stmt_is k (Then first rest) test = let both = and_parts (stmt_test setting k first) (stmt_test setting k rest) test in (stmt_is k first both.0, stmt_is k rest both.1)
  stmt_is k (Else at stmts) test = stmt_is k stmts test
  stmt_is k (LetStmt at forward target rhs) test = rhs_is k rhs test
  stmt_is k (SwapStmt at left right) test = tt
  stmt_is k (MemSwapStmt at pointer value) test = tt
  stmt_is k (IfStmt at cond first other) test = let both = and_parts (stmt_test setting k first) (stmt_test setting k other) test in (stmt_is k first both.0, stmt_is k other both.1)
  stmt_is k (WithStmt at setup work) test = let both = and_parts (stmt_test setting k setup) (stmt_test setting k work) test in (stmt_is k setup both.0, stmt_is k work both.1)
  stmt_is k (BlockStmt at body) test = stmt_is k body test
  stmt_is k (SkipStmt at) test = tt

  funs_hold : (start : ℕ) (funs : List FunTree) → ((k : ℕ) (fun : FunTree) → slice_get funs k ≡ Some fun → StmtDescends setting (start + k) fun.body) → funs_test setting start funs ≡ true
  unfolding funs_test
  funs_hold start [] all = refl
  funs_hold start (fun ∷ funs) all =
      both_hold _ _ (stmt_holds start fun.body (subst (λ k. StmtDescends setting k fun.body) (omega arith) (all 0 fun refl)))
      (funs_hold (suc start) funs (λ k other is. subst (λ n. StmtDescends setting n other.body) (omega arith) (all (suc k) other is)))

  funs_are : (start : ℕ) (funs : List FunTree) → funs_test setting start funs ≡ true → (k : ℕ) (fun : FunTree) → slice_get funs k ≡ Some fun → StmtDescends setting (start + k) fun.body
  unfolding funs_test
  funs_are start [] test k fun found = absurd (none-some fun found)
  funs_are start (first ∷ funs) test zero fun found =
      let both = and_parts (stmt_test setting start first.body) (funs_test setting (suc start) funs) test in
      let same : first ≡ fun = some_value found in
      subst (λ (f : FunTree). StmtDescends setting (start + 0) f.body) same (subst (λ k. StmtDescends setting k first.body) (omega arith) (stmt_is start first.body both.0))
  funs_are start (first ∷ funs) test (suc k) fun found =
      let both = and_parts (stmt_test setting start first.body) (funs_test setting (suc start) funs) test in
      subst (λ n. StmtDescends setting n fun.body) (omega arith) (funs_are (suc start) funs both.1 k fun found)

-- in an accepted program the calls of each function go down
pub accepted_descends : (checked : Checked) → Descends (resolved_setting checked.resolved)
accepted_descends checked k fun found =
    subst (λ n. StmtDescends setting n fun.body) (sym (from_zero k))
    (funs_are setting 0 setting.funs
    (∥∥₁_elim checked.resolved.typed (Bool-set _ _)
    (λ are. ∥∥₁_elim checked.right (Bool-set _ _)
    (λ right.
    let types = types_in tables.types.table.entries in
    let is_sound = sound tables.types.widths program types are.typed right in
    funs_hold setting 0 setting.funs
    (λ j other there.
    let function = function_of tables.types.widths program types are.typed j other there in
    let same = function_of-number tables.types.widths program types are.typed j other there in
    subst (λ n. StmtDescends setting n other.body) (same ∙ from_zero j) (is_sound.descend function.name function.number other function.numbered function.named)))))
    k fun found)
  where
    from_zero : (n : ℕ) → n ≡ 0 + n
    from_zero n = omega arith

    program : ProgramTree
    program = program_tree checked.resolved.program.now

    tables : Tables
    tables = checked.resolved.tables

    setting : Setting
    setting = resolved_setting checked.resolved
