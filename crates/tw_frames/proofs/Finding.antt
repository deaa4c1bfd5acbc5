-- The measures that the code finds are the defined ones, capped.
use Rattle.std.proofs.Common.{◌≡◌, ◌∙◌, ◌≤◌, ◌<◌, ◌+◌, ◌^◌, ◌-◌, max, min, arith, refl, sym, ap, subst, ℕ, Bool, List, length, drop, get_or, slice_get, Option, option_and_then}
use Rattle.std.proofs.lemmas.List.{at_drop_more, drop_all}
use Rattle.std.proofs.lemmas.Option.{none-some}
use Rattle.tw_text.specs.declared.place.Pos.{Pos}
use Rattle.tw_syntax.specs.declared.statement.Stmt.{Stmt}
use Rattle.tw_syntax.specs.Names.{NameTree, PathTree}
use Rattle.tw_syntax.specs.Statements.{StmtTree, Nothing, Then, Else, LetStmt, IfStmt, WithStmt, BlockStmt, stmt_tree, stmts_tree}
use Rattle.tw_syntax.specs.Terms.{BoundTree, CallRhs}
use Rattle.tw_resolve.specs.Declarations.{number_of}
use Rattle.tw_resolve.specs.Setting.{Setting}
use Rattle.tw_state.proofs.Basics.{by_option}
use Rattle.tw_frames.specs.declared.measured.Measured.{Measured}
use Rattle.tw_frames.specs.Measures.{no_steps, in_turn, enclosed, under_if, one_more, capped, Measures, MeasuresNothing, MeasuresThen, MeasuresBlock, MeasuresElse, MeasuresIf, MeasuresWith, MeasuresCall, MeasuresCallZero}
use Rattle.tw_frames.specs.MeasureTable.{Known, FindsCallee, Finds}

-- a capped count of capped parts is the capped count of the parts
min_sum : (m a b : ℕ) → min (min a m + min b m) m ≡ min (a + b) m
min_sum m a b = omega arith

min_max : (m a b : ℕ) → min (max (min a m) (min b m)) m ≡ min (max a b) m
min_max m a b = omega arith

min_more : (m a : ℕ) → min (1 + min a m) m ≡ min (1 + a) m
min_more m a = omega arith

min_twice : (m a : ℕ) → min (min a m) m ≡ min a m
min_twice m a = omega arith

abbrev greatest : ℕ
greatest = 2 ^ 64 - 1

abbrev pub of_counts : ℕ → ℕ → ℕ → Measured
of_counts statements depth if_depth = record { statements = statements; depth = depth; if_depth = if_depth }

pub same_counts : {a b c x y z : ℕ} → a ≡ x → b ≡ y → c ≡ z → of_counts a b c ≡ of_counts x y z
same_counts p q r = λ i. of_counts (p i) (q i) (r i)

pub capped_twice : (a : Measured) → capped (capped a) ≡ capped a
capped_twice a = same_counts (min_twice greatest a.statements) (min_twice greatest a.depth) (min_twice greatest a.if_depth)

capped_in_turn : (a b : Measured) → capped (in_turn (capped a) (capped b)) ≡ capped (in_turn a b)
capped_in_turn a b = same_counts (min_sum greatest a.statements b.statements) (min_max greatest a.depth b.depth) (min_max greatest a.if_depth b.if_depth)

capped_enclosed : (a : Measured) → capped (enclosed (capped a)) ≡ capped (enclosed a)
capped_enclosed a = same_counts (min_twice greatest a.statements) (min_more greatest a.depth) (min_twice greatest a.if_depth)

capped_under_if : (a : Measured) → capped (under_if (capped a)) ≡ capped (under_if a)
capped_under_if a = same_counts (min_twice greatest a.statements) (min_twice greatest a.depth) (min_more greatest a.if_depth)

capped_one_more : (a : Measured) → capped (one_more (capped a)) ≡ capped (one_more a)
capped_one_more a = same_counts (min_more greatest a.statements) (min_twice greatest a.depth) (min_twice greatest a.if_depth)

in_turn_nothing : (a : Measured) → in_turn a no_steps ≡ a
in_turn_nothing a = same_counts (omega arith) (omega arith) (omega arith)

nothing_in_turn : (a : Measured) → in_turn no_steps a ≡ a
nothing_in_turn a = same_counts (omega arith) (omega arith) (omega arith)

in_turn_assoc : (a b c : Measured) → in_turn (in_turn a b) c ≡ in_turn a (in_turn b c)
in_turn_assoc a b c = same_counts (omega arith) (omega arith) (omega arith)

-- the parts of a sum may be capped before
capped_left : (a b : Measured) → capped (in_turn (capped a) b) ≡ capped (in_turn a b)
capped_left a b = sym (capped_in_turn (capped a) b) ∙ ap (λ x. capped (in_turn x (capped b))) (capped_twice a) ∙ capped_in_turn a b

capped_right : (a b : Measured) → capped (in_turn a (capped b)) ≡ capped (in_turn a b)
capped_right a b = sym (capped_in_turn a (capped b)) ∙ ap (λ x. capped (in_turn (capped a) x)) (capped_twice b) ∙ capped_in_turn a b

module _ (setting : Setting) (known : Known) (own : ℕ) where
  pub found_nothing : Finds setting known own Nothing no_steps
  found_nothing there a measures = by measures
    where
      by : {a : Measured} → Measures setting own Nothing a → no_steps ≡ capped a
      by MeasuresNothing = refl

  -- one after the other
  pub found_then : {first rest : StmtTree} {x y : Measured} → Finds setting known own first x → Finds setting known own rest y → Finds setting known own (Then first rest) (capped (in_turn x y))
  found_then {first} {rest} {x} {y} one two there a measures = by measures
    where
      by : {a : Measured} → Measures setting own (Then first rest) a → capped (in_turn x y) ≡ capped a
      by (MeasuresThen {a = p} {b = q} m n) =
          ap (λ z. capped (in_turn z y)) (one there.0 p m) ∙ ap (λ z. capped (in_turn (capped p) z)) (two there.1 q n) ∙ capped_in_turn p q

  pub found_block : {at : Pos} {body : StmtTree} {x y z : Measured} → Finds setting known own body x → y ≡ capped (enclosed x) → z ≡ capped (one_more y) → Finds setting known own (BlockStmt at body) z
  found_block {at} {body} {x} {y} {z} one is_y is_z there a measures = is_z ∙ ap (λ v. capped (one_more v)) is_y ∙ by measures
    where
      by : {a : Measured} → Measures setting own (BlockStmt at body) a → capped (one_more (capped (enclosed x))) ≡ capped a
      by (MeasuresBlock {a = p} m) =
          ap (λ v. capped (one_more (capped (enclosed v)))) (one there p m) ∙ ap (λ v. capped (one_more v)) (capped_enclosed p) ∙ capped_one_more (enclosed p)

  pub found_else : {at : Pos} {stmts : StmtTree} {x : Measured} → Finds setting known own stmts x → Finds setting known own (Else at stmts) x
  found_else {at} {stmts} {x} one there a measures = by measures
    where
      by : {a : Measured} → Measures setting own (Else at stmts) a → x ≡ capped a
      by (MeasuresElse {a = p} m) = one there p m

  pub found_if : {at : Pos} {cond : PathTree} {first other : StmtTree} {x y both block under all : Measured} → Finds setting known own first x → Finds setting known own other y
      → both ≡ capped (in_turn x y) → block ≡ capped (enclosed both) → under ≡ capped (under_if block) → all ≡ capped (one_more under) → Finds setting known own (IfStmt at cond first other) all
  found_if {at} {cond} {first} {other} {x} {y} {both} {block} {under} {all} one two is_both is_block is_under is_all there a measures =
      is_all ∙ ap (λ v. capped (one_more v)) (is_under ∙ ap (λ v. capped (under_if v)) (is_block ∙ ap (λ v. capped (enclosed v)) is_both)) ∙ by measures
    where
      by : {a : Measured} → Measures setting own (IfStmt at cond first other) a → capped (one_more (capped (under_if (capped (enclosed (capped (in_turn x y))))))) ≡ capped a
      by (MeasuresIf {a = p} {b = q} m n) =
          ap (λ v. capped (one_more (capped (under_if (capped (enclosed v)))))) (found_then one two there (in_turn p q) (MeasuresThen m n))
          ∙ ap (λ v. capped (one_more (capped (under_if v)))) (capped_enclosed (in_turn p q))
          ∙ ap (λ v. capped (one_more v)) (capped_under_if (enclosed (in_turn p q)))
          ∙ capped_one_more (under_if (enclosed (in_turn p q)))

  pub found_with : {at : Pos} {setup work : StmtTree} {x y both three block all : Measured} → Finds setting known own setup x → Finds setting known own work y
      → both ≡ capped (in_turn x y) → three ≡ capped (in_turn both x) → block ≡ capped (enclosed three) → all ≡ capped (one_more block) → Finds setting known own (WithStmt at setup work) all
  found_with {at} {setup} {work} {x} {y} {both} {three} {block} {all} one two is_both is_three is_block is_all there a measures =
      is_all ∙ ap (λ v. capped (one_more v)) (is_block ∙ ap (λ v. capped (enclosed v)) (is_three ∙ ap (λ v. capped (in_turn v x)) is_both)) ∙ by measures
    where
      by : {a : Measured} → Measures setting own (WithStmt at setup work) a → capped (one_more (capped (enclosed (capped (in_turn (capped (in_turn x y)) x))))) ≡ capped a
      by (MeasuresWith {a = p} {b = q} m n) =
          ap (λ v. capped (one_more (capped (enclosed v))))
          (ap (λ v. capped (in_turn v x)) (found_then one two there (in_turn p q) (MeasuresThen m n))
          ∙ ap (λ v. capped (in_turn (capped (in_turn p q)) v)) (one there.0 p m)
          ∙ capped_in_turn (in_turn p q) p)
          ∙ ap (λ v. capped (one_more v)) (capped_enclosed (in_turn (in_turn p q) p))
          ∙ capped_one_more (enclosed (in_turn (in_turn p q) p))

  -- a call
  pub found_call : {callee : NameTree} {bound : Option BoundTree} {found all : Measured} → FindsCallee setting known own callee bound found → all ≡ capped (one_more found)
      → (at : Pos) (forward : Bool) (target : NameTree) (args : List NameTree) → Finds setting known own (LetStmt at forward target (CallRhs callee bound args)) all
  found_call {callee} {bound} {found} {all} finds is_all at forward target args there a measures = is_all ∙ by measures
    where
      by : {a : Measured} → Measures setting own (LetStmt at forward target (CallRhs callee bound args)) a → capped (one_more found) ≡ capped a
      by (MeasuresCall {a = p} fun n named is m) =
          by_option (number_of setting.funs callee.text) (λ none. absurd (none-some fun (ap (option_and_then (slice_get setting.funs)) (sym none) ∙ named)))
          (λ j number.
          let at_j = ap (option_and_then (slice_get setting.funs)) (sym number) ∙ named in
          ap (λ v. capped (one_more v)) (let body = there j n fun p number at_j is m in finds.runs j n (capped (enclosed p)) number is body.0 body.1) ∙ capped_one_more (enclosed p))
      by (MeasuresCallZero none) = ap (λ v. capped (one_more v)) (finds.none none)

  -- the statements of a list: those before are counted, and the rest follow
  abbrev pub LeftOf : StmtTree → StmtTree → Measured → Type 0
  LeftOf whole rest total = (capped total ≡ total) × ((found : Measured) → Finds setting known own rest found → Finds setting known own whole (capped (in_turn total found)))

  pub left_first : (whole : StmtTree) → LeftOf whole whole no_steps
  left_first whole = (refl, λ found finds there a measures. ap (λ v. capped v) (nothing_in_turn found) ∙ ap (λ v. capped v) (finds there a measures) ∙ capped_twice a)

  pub left_next : (whole : StmtTree) (stmts : List Stmt) (i : ℕ) (other : Stmt) → i < length stmts → {total found new : Measured} → LeftOf whole (stmts_tree (drop i stmts)) total
      → Finds setting known own (stmt_tree (get_or stmts i other)) found → new ≡ capped (in_turn total found) → LeftOf whole (stmts_tree (drop (i + 1) stmts)) new
  left_next whole stmts i other within {total} {found} {new} left finds is = (
    ap (λ v. capped v) is ∙ capped_twice (in_turn total found) ∙ sym is,
    λ rest finds_rest there a measures.
        ap (λ v. capped (in_turn v rest)) is ∙ capped_left (in_turn total found) rest ∙ ap (λ v. capped v) (in_turn_assoc total found rest) ∙ sym (capped_right total (in_turn found rest))
        ∙ left.1 (capped (in_turn found rest)) (subst (λ s. Finds setting known own s (capped (in_turn found rest))) (sym (at_drop_more stmts_tree stmts i other within)) (found_then finds finds_rest)) there a measures,
  )

  left_last : (whole : StmtTree) (total : Measured) → LeftOf whole Nothing total → Finds setting known own whole total
  left_last whole total left there a measures =
      sym left.0 ∙ ap (λ v. capped v) (sym (in_turn_nothing total)) ∙ left.1 no_steps found_nothing there a measures

  -- at the end of the list
  pub left_done : (whole : StmtTree) (stmts : List Stmt) (i : ℕ) (total : Measured) → length stmts ≤ i → LeftOf whole (stmts_tree (drop i stmts)) total → Finds setting known own whole total
  left_done whole stmts i total past left = left_last whole total (subst (λ xs. LeftOf whole (stmts_tree xs) total) (drop_all i stmts past) left)
