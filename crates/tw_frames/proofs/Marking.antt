-- How marks of pairs grow while statements are visited.
use Rattle.std.proofs.Common.{◌≡◌, ◌≢◌, ◌∙◌, ◌≤◌, ◌<◌, ◌+◌, arith, refl, sym, ap, subst, ℕ, Bool, true, false, List, length, drop, get_or, slice_get, Some}
use Rattle.std.proofs.Math.Arith.{lt_of_le-ne}
use Rattle.std.proofs.lemmas.Bool.{false≢true}
use Rattle.std.proofs.lemmas.List.{at_drop_more}
use Rattle.tw_text.specs.declared.place.Pos.{Pos}
use Rattle.tw_syntax.specs.declared.statement.Stmt.{Stmt}
use Rattle.tw_syntax.specs.Names.{PathTree}
use Rattle.tw_syntax.specs.Programs.{FunTree}
use Rattle.tw_syntax.specs.Statements.{StmtTree, Nothing, Then, Else, LetStmt, SwapStmt, MemSwapStmt, IfStmt, WithStmt, BlockStmt, SkipStmt, stmt_tree, stmts_tree}
use Rattle.tw_syntax.specs.Terms.{RhsTree, ExprRhs, CallRhs, AllocRhs}
use Rattle.tw_resolve.specs.Setting.{Setting}
use Rattle.tw_state.proofs.Basics.{some_value}
use Rattle.tw_state.proofs.FreeList.{by_block}
use Rattle.tw_frames.specs.MeasureTable.{pair_number, RhsMarked, StmtMarked, MarksMore, MarksCalls, AreMarkedFrom}

-- marks grow twice
pub more_twice : {pair : ℕ} {a b c : List Bool} → MarksMore pair a b → MarksMore pair b c → MarksMore pair a c
more_twice first rest = record {
  len = rest.len ∙ first.len;
  grows = λ q is. rest.grows q (first.grows q is);
  keeps = λ q later. rest.keeps q later ∙ first.keeps q later;
}

module _ (setting : Setting) (pair : ℕ) where
  -- what is marked stays so
  rhs_stays : (old new : List Bool) (own : ℕ) → ((q : ℕ) → slice_get old q ≡ Some true → slice_get new q ≡ Some true)
      → (rhs : RhsTree) → RhsMarked setting pair old own rhs → RhsMarked setting pair new own rhs
  rhs_stays old new own grows (ExprRhs expr) marked = tt
  rhs_stays old new own grows (AllocRhs to) marked = tt
  rhs_stays old new own grows (CallRhs callee bound args) marked =
      λ j n number is. let there = marked j n number is in (there.0, λ earlier. grows (pair_number j n) (there.1 earlier))

  pub stmt_stays : (old new : List Bool) (own : ℕ) → ((q : ℕ) → slice_get old q ≡ Some true → slice_get new q ≡ Some true)
      → (s : StmtTree) → StmtMarked setting pair old own s → StmtMarked setting pair new own s
  stmt_stays old new own grows Nothing marked = tt
  stmt_stays old new own grows (Then first rest) marked = (stmt_stays old new own grows first marked.0, stmt_stays old new own grows rest marked.1)
  stmt_stays old new own grows (Else at stmts) marked = stmt_stays old new own grows stmts marked
  stmt_stays old new own grows (LetStmt at forward target rhs) marked = rhs_stays old new own grows rhs marked
  stmt_stays old new own grows (SwapStmt at left right) marked = tt
  stmt_stays old new own grows (MemSwapStmt at pointer place) marked = tt
  stmt_stays old new own grows (IfStmt at cond first other) marked = (stmt_stays old new own grows first marked.0, stmt_stays old new own grows other marked.1)
  stmt_stays old new own grows (WithStmt at setup work) marked = (stmt_stays old new own grows setup marked.0, stmt_stays old new own grows work marked.1)
  stmt_stays old new own grows (BlockStmt at body) marked = stmt_stays old new own grows body marked
  stmt_stays old new own grows (SkipStmt at) marked = tt

module _ (setting : Setting) (pair own : ℕ) where
  -- no statements mark nothing
  pub marks_none : (marks : List Bool) → MarksCalls setting pair own Nothing marks marks
  marks_none marks = record { more = record { len = refl; grows = λ q is. is; keeps = λ q later. refl }; marked = λ within. tt }

  -- one after the other
  pub marks_then : {first rest : StmtTree} {a b c : List Bool} → MarksCalls setting pair own first a b → MarksCalls setting pair own rest b c → MarksCalls setting pair own (Then first rest) a c
  marks_then {first} {rest} {a} {b} {c} one two = record {
    more = more_twice one.more two.more;
    marked = λ within. (stmt_stays setting pair b c own two.more.grows first (one.marked within), two.marked (subst (λ n. pair ≤ n) (sym one.more.len) within));
  }

  -- a statement of a list, and then the rest
  pub marks_next : (stmts : List Stmt) (i : ℕ) (other : Stmt) → i < length stmts → {a b c : List Bool} → MarksCalls setting pair own (stmt_tree (get_or stmts i other)) a b
      → MarksCalls setting pair own (stmts_tree (drop (i + 1) stmts)) b c → MarksCalls setting pair own (stmts_tree (drop i stmts)) a c
  marks_next stmts i other within one two = rw (at_drop_more stmts_tree stmts i other within) (marks_then one two)

  pub marks_with : {at : Pos} {first rest : StmtTree} {a b c : List Bool} → MarksCalls setting pair own first a b → MarksCalls setting pair own rest b c → MarksCalls setting pair own (WithStmt at first rest) a c
  marks_with one two = let both = marks_then one two in record { more = both.more; marked = both.marked }

  pub marks_if : {at : Pos} {cond : PathTree} {first rest : StmtTree} {a b c : List Bool} → MarksCalls setting pair own first a b → MarksCalls setting pair own rest b c → MarksCalls setting pair own (IfStmt at cond first rest) a c
  marks_if one two = let both = marks_then one two in record { more = both.more; marked = both.marked }

  pub marks_block : {at : Pos} {body : StmtTree} {a b : List Bool} → MarksCalls setting pair own body a b → MarksCalls setting pair own (BlockStmt at body) a b
  marks_block one = record { more = one.more; marked = one.marked }

  pub marks_else : {at : Pos} {stmts : StmtTree} {a b : List Bool} → MarksCalls setting pair own stmts a b → MarksCalls setting pair own (Else at stmts) a b
  marks_else one = record { more = one.more; marked = one.marked }

  pub marks_here : {old new : List Bool} → MarksMore pair old new
      → ((k own : ℕ) (fun : FunTree) → own < 256 → pair ≡ pair_number k own → slice_get setting.funs k ≡ Some fun → pair ≤ length old → StmtMarked setting pair new own fun.body)
      → pair < length old → AreMarkedFrom setting (pair + 1) old → AreMarkedFrom setting pair new
  marks_here {old} {new} more marked within later k number fun small from is there =
      by_block (pair_number k number) pair
      (λ same. subst (λ n. StmtMarked setting n new number fun.body) (sym same) (marked k number fun small (sym same) there (omega (arith, within))))
      (λ differ.
      stmt_stays setting (pair_number k number) old new number more.grows fun.body
      (later k number fun small (after (pair_number k number) from differ) (sym (more.keeps (pair_number k number) from) ∙ is) there))
    where
      after : (q : ℕ) → pair ≤ q → q ≢ pair → pair + 1 ≤ q
      after q from differ = let less = lt_of_le-ne from (λ same. differ (sym same)) in omega (arith, less)

  pub marks_nothing_here : (marks : List Bool) → slice_get marks pair ≡ Some false → AreMarkedFrom setting (pair + 1) marks → AreMarkedFrom setting pair marks
  marks_nothing_here marks unmarked later k number fun small from is there =
      by_block (pair_number k number) pair
      (λ same. absurd (false≢true (some_value (sym unmarked ∙ ap (slice_get marks) (sym same) ∙ is))))
      (λ differ. later k number fun small (after (pair_number k number) from differ) is there)
    where
      after : (q : ℕ) → pair ≤ q → q ≢ pair → pair + 1 ≤ q
      after q from differ = let less = lt_of_le-ne from (λ same. differ (sym same)) in omega (arith, less)
