-- A worked recursive function: the length of a list in memory.
use Rattle.std.proofs.Common.{◌≡◌, ◌∙◌, ◌==◌, refl, sym, ap, subst, ℕ, Bool, true, false, ◌||◌, if◌then◌else◌, List, [], ◌∷◌, Some, None, option_and_then, bytes_eq, codes}
use Rattle.std.proofs.Math.Path.{fun_ext}
use Rattle.std.proofs.lemmas.Bool.{or_parts}
use Rattle.tw_syntax.specs.declared.term.OpKind.TheVariants as op
use Rattle.tw_syntax.specs.Examples.{place}
use Rattle.tw_syntax.specs.Names.{NameTree, PathTree}
use Rattle.tw_syntax.specs.Programs.{FunTree, AliasDecl, FunDecl, ProgramTree}
use Rattle.tw_syntax.specs.Statements.{StmtTree, Nothing, Then, Else, LetStmt, MemSwapStmt, IfStmt, WithStmt}
use Rattle.tw_syntax.specs.Terms.{AtomTree, PlaceAtom, NumberAtom, NullAtom, ZeroAtom, LessBound, ExprRhs, CallRhs, OneExpr, OpExpr}
use Rattle.tw_syntax.specs.Types.{WrittenTree, UintType, PairType, PtrType, NamedType}
use Rattle.tw_bits.specs.Operators.{sum_mod}
use Rattle.tw_types.specs.Types.{Word, Pointer, PairTy}
use Rattle.tw_types.specs.Values.{Value, Number, Truth, Address, PairValue}
use Rattle.tw_resolve.specs.Programs.{setting_of}
use Rattle.tw_resolve.specs.Setting.{Setting}
use Rattle.tw_resolve.proofs.Texts.{bytes_eq-sym}
use Rattle.tw_check.specs.Reverse.{reverse_of}
use Rattle.tw_state.specs.States.{Name, Cell, Free, Live, Store, State, empty, with_value, cell_at, with_cell}
use Rattle.tw_state.specs.Parts.{part_of}
use Rattle.tw_state.specs.Evaluation.{op_value, both}
use Rattle.tw_state.specs.Steps.{Activation, activation_of, callee_bound, links, seen, KeepsOthers}
use Rattle.tw_state.specs.Semantics.{Runs, RunsNothing, RunsThen, RunsLet, RunsUnlet, RunsMemSwap, RunsIf, RunsIfElse, RunsWith, RunsCall, RunsCallZero}
use Rattle.tw_state.proofs.Undone.{undone}
use Rattle.tw_state.proofs.WorkedRuns.{with_value-swap, with_value_at-added}

-- names, paths and atoms at a line and a column
abbrev named : List ℕ → ℕ → ℕ → NameTree
named text line col = record { text = text; at = place line col }

abbrev whole : List ℕ → ℕ → ℕ → PathTree
whole text line col = record { root = named text line col; steps = [] }

abbrev variable : List ℕ → ℕ → ℕ → AtomTree
variable text line col = PlaceAtom (place line col) (whole text line col)

abbrev list : ℕ → ℕ → WrittenTree
list line col = NamedType (place line col) (codes "list")

-- `let e <- xs == null<list>;`
abbrev test_end : StmtTree
test_end = LetStmt (place 4 5) true (named (codes "e") 4 9) (ExprRhs (OpExpr (place 4 14) op.Eq (variable (codes "xs") 4 14) (NullAtom (place 4 20) (list 4 25))))

-- `let out <- acc;`
abbrev give_acc : StmtTree
give_acc = LetStmt (place 7 7) true (named (codes "out") 7 11) (ExprRhs (OneExpr (place 7 18) (variable (codes "acc") 7 18)))

-- `let t <- default<list>; *xs <-> t; let next <- t.2; let r <- acc + 1;`
abbrev take_item : StmtTree
take_item =
    Then (LetStmt (place 10 9) true (named (codes "t") 10 13) (ExprRhs (OneExpr (place 10 18) (ZeroAtom (place 10 18) (list 10 26)))))
    (Then (MemSwapStmt (place 11 9) (whole (codes "xs") 11 10) (whole (codes "t") 11 17))
    (Then (LetStmt (place 12 9) true (named (codes "next") 12 13) (ExprRhs (OneExpr (place 12 21) (PlaceAtom (place 12 21) (record { root = named (codes "t") 12 21; steps = 2 ∷ [] })))))
    (Then (LetStmt (place 13 9) true (named (codes "r") 13 13) (ExprRhs (OpExpr (place 13 18) op.Add (variable (codes "acc") 13 18) (NumberAtom (place 13 24) 1)))) Nothing)))

-- `let out <- length[n - 1](next, r);`
abbrev pub count_rest : StmtTree
count_rest = LetStmt (place 15 9) true (named (codes "out") 15 13) (CallRhs (named (codes "length") 15 20) (Some (LessBound (named (codes "n") 15 27) 1)) (named (codes "next") 15 34 ∷ named (codes "r") 15 40 ∷ []))

-- `type list = (uint, ptr<list>);` and
-- `fun length[n](xs: ptr<list>, acc: uint) -> uint { with { <test_end> } do { if e { <give_acc> } else { with { <take_item> } do { <count_rest> } } } return out; }`
abbrev choice : StmtTree
choice = IfStmt (place 6 5) (whole (codes "e") 6 8) (Then give_acc Nothing) (Else (place 8 7) (Then (WithStmt (place 9 7) take_item (Then count_rest Nothing)) Nothing))

abbrev pub list_length : FunTree
list_length = record {
  name = named (codes "length") 2 5;
  bound = Some (named (codes "n") 2 12);
  params = record { name = named (codes "xs") 2 15; ty = PtrType (place 2 19) (list 2 23) } ∷ record { name = named (codes "acc") 2 30; ty = UintType (place 2 35) } ∷ [];
  result = UintType (place 2 44);
  body = Then (WithStmt (place 3 3) (Then test_end Nothing) (Then choice Nothing)) Nothing;
  return_at = place 19 3;
  returned = named (codes "out") 19 10;
}

abbrev pub lists : ProgramTree
lists = record { decls = AliasDecl (record { name = named (codes "list") 1 6; body = PairType (place 1 13) (UintType (place 1 14)) (PtrType (place 1 20) (list 1 24)) }) ∷ FunDecl list_length ∷ [] }

-- in words of 3 bits and addresses of 2
abbrev pub setting : Setting
setting = setting_of (record { word = 3; addr = 2 }) lists (λ name. if bytes_eq name (codes "list") then Some (PairTy Word (Pointer 0)) else None)

abbrev act : ℕ → Activation
act n = activation_of setting list_length n

-- a memory with this store
abbrev at : ℕ → List Cell → Store → State
at head cells store = record { head = head; cells = cells; store = store }

-- an item, and the item that is left in a block while the rest is counted
abbrev item : ℕ → ℕ → Value
item v next = PairValue (Number v) (Address next)

-- a store with the parameters, and without the other names
record HasParams (store : Store) (block count : ℕ) : Type 0 where
  pub xs : store (codes "xs") ≡ Some (Address block)
  pub acc : store (codes "acc") ≡ Some (Number count)
  pub e : store (codes "e") ≡ None
  pub t : store (codes "t") ≡ None
  pub next : store (codes "next") ≡ None
  pub r : store (codes "r") ≡ None
  pub out : store (codes "out") ≡ None

-- with this bound the function gives this result for the list at a block
Counts : List Cell → ℕ → ℕ → ℕ → ℕ → Type 0
Counts cells block n acc result =
    (head : ℕ) (store : Store) → HasParams store block acc → Runs setting (act n) list_length.body (at head cells store) (at head cells (with_value store (codes "out") (Number result)))

-- the value of `xs == null<list>`
at_end : (store : Store) (block : ℕ) (is : Bool) → store (codes "xs") ≡ Some (Address block) → (block == 0) ≡ is
    → both (op_value setting.widths op.Eq) (option_and_then (part_of []) (store (codes "xs"))) (Some (Address 0)) ≡ Some (Truth is)
at_end store block is xs test = ap (λ o. both (op_value setting.widths op.Eq) (option_and_then (part_of []) o) (Some (Address 0))) xs ∙ ap (λ k. Some (Truth k)) test

-- around the test: what is chosen gives the result
around : (n head : ℕ) (cells : List Cell) (store : Store) (block result : ℕ) (is : Bool) → store (codes "xs") ≡ Some (Address block) → store (codes "e") ≡ None → (block == 0) ≡ is
    → Runs setting (act n) choice (at head cells (with_value store (codes "e") (Truth is))) (at head cells (with_value (with_value store (codes "e") (Truth is)) (codes "out") (Number result)))
    → Runs setting (act n) list_length.body (at head cells store) (at head cells (with_value store (codes "out") (Number result)))
around n head cells store block result is xs no_e test chosen =
    RunsThen
    (RunsWith {ready = at head cells (with_value store (codes "e") (Truth is))} {done = at head cells (with_value (with_value store (codes "e") (Truth is)) (codes "out") (Number result))}
    (RunsThen (RunsLet (Truth is) (at_end store block is xs test) (record { unused = no_e; after = refl })) RunsNothing)
    (RunsThen chosen RunsNothing)
    (RunsThen RunsNothing
    (RunsUnlet (Truth is) (at_end store block is xs test)
    (record { unused = no_e; after = ap (at head cells) (with_value-swap store (codes "e") (codes "out") (Truth is) (Number result) refl) }))))
    RunsNothing

-- the empty list: the result is what was counted so far
counts_none : (cells : List Cell) (n acc : ℕ) → Counts cells 0 n acc acc
unfolding Counts
counts_none cells n acc head store has =
    around n head cells store 0 acc true has.xs has.e refl
    (RunsIf refl
    (RunsThen (RunsLet (Number acc) (ap (option_and_then (part_of [])) has.acc) (record { unused = has.out; after = refl })) RunsNothing)
    refl)

-- the names of an item: `t`, `next` and `r`
abbrev with_item : Store → ℕ → ℕ → ℕ → Store
with_item store v next r = with_value (with_value (with_value store (codes "t") (item v next)) (codes "next") (Address next)) (codes "r") (Number r)

-- an item is taken out of its block
takes_item : (n head : ℕ) (cells : List Cell) (store : Store) (block acc v next : ℕ) → store (codes "xs") ≡ Some (Address block) → store (codes "acc") ≡ Some (Number acc) → store (codes "t") ≡ None → store (codes "next") ≡ None → store (codes "r") ≡ None
    → cell_at cells block ≡ Some (Live 0 (item v next))
    → Runs setting (act n) take_item (at head cells store) (at head (with_cell cells block (Live 0 (item 0 0))) (with_item store v next (sum_mod 3 acc 1)))
takes_item n head cells store block acc v next xs is_acc t no_next no_r cell =
    RunsThen {between = at head cells (with_value store (codes "t") (item 0 0))} (RunsLet (item 0 0) refl (record { unused = t; after = refl }))
    (RunsThen {between = at head (with_cell cells block (Live 0 (item 0 0))) (with_value store (codes "t") (item v next))}
    (RunsMemSwap (record {
      block = block;
      target = 0;
      x = item v next;
      y = item 0 0;
      points = ap (option_and_then (part_of [])) xs;
      of_target = refl;
      in_cell = cell;
      at_place = refl;
      apart = refl;
      after = ap (at head (with_cell cells block (Live 0 (item 0 0)))) (sym (with_value_at-added store (whole (codes "t") 11 17) (item 0 0) (item v next)));
    }))
    (RunsThen (RunsLet (Address next) refl (record { unused = no_next; after = refl }))
    (RunsThen
    (RunsLet (Number (sum_mod 3 acc 1)) (ap (λ o. both (op_value setting.widths op.Add) (option_and_then (part_of []) o) (Some (Number 1))) is_acc) (record { unused = no_r; after = refl }))
    RunsNothing)))

-- the names that the call shares
abbrev shared : List (Name × Name)
shared = links list_length (named (codes "out") 15 13) (named (codes "next") 15 34 ∷ named (codes "r") 15 40 ∷ [])

-- around the call: what it gives is the result
around_item : (n head : ℕ) (cells : List Cell) (store : Store) (block acc v next result : ℕ) → HasParams store block acc → (block == 0) ≡ false → cell_at cells block ≡ Some (Live 0 (item v next))
    → ((inner : Store) → inner (codes "xs") ≡ Some (Address block) → inner (codes "out") ≡ None → inner (codes "acc") ≡ Some (Number acc)
    → Runs setting (act n) count_rest (at head (with_cell cells block (Live 0 (item 0 0))) (with_item inner v next (sum_mod 3 acc 1)))
    (at head (with_cell cells block (Live 0 (item 0 0))) (with_value (with_item inner v next (sum_mod 3 acc 1)) (codes "out") (Number result))))
    → Runs setting (act n) list_length.body (at head cells store) (at head cells (with_value store (codes "out") (Number result)))
around_item n head cells store block acc v next result has some cell call =
    around n head cells store block result false has.xs has.e some
    (RunsIfElse refl
    (RunsThen
    (RunsWith
    {ready = at head (with_cell cells block (Live 0 (item 0 0))) (with_item outside v next (sum_mod 3 acc 1))}
    {done = at head (with_cell cells block (Live 0 (item 0 0))) (with_value (with_item outside v next (sum_mod 3 acc 1)) (codes "out") (Number result))}
    (takes_item n head cells outside block acc v next has.xs has.acc has.t has.next has.r cell)
    (RunsThen (call outside has.xs has.out has.acc) RunsNothing)
    (subst (λ s. Runs setting (act n) (reverse_of take_item) (at head (with_cell cells block (Live 0 (item 0 0))) s) (at head cells (with_value outside (codes "out") (Number result)))) in_order
    (undone setting (takes_item n head cells (with_value outside (codes "out") (Number result)) block acc v next has.xs has.acc has.t has.next has.r cell))))
    RunsNothing)
    refl)
  where
    outside : Store
    outside = with_value store (codes "e") (Truth false)

    in_order : with_item (with_value outside (codes "out") (Number result)) v next (sum_mod 3 acc 1) ≡ with_value (with_item outside v next (sum_mod 3 acc 1)) (codes "out") (Number result)
    in_order =
        ap (λ s. with_value (with_value s (codes "next") (Address next)) (codes "r") (Number (sum_mod 3 acc 1))) (with_value-swap outside (codes "out") (codes "t") (Number result) (item v next) refl)
        ∙ ap (λ s. with_value s (codes "r") (Number (sum_mod 3 acc 1))) (with_value-swap (with_value outside (codes "t") (item v next)) (codes "out") (codes "next") (Number result) (Address next) refl)
        ∙ with_value-swap (with_value (with_value outside (codes "t") (item v next)) (codes "next") (Address next)) (codes "out") (codes "r") (Number result) (Number (sum_mod 3 acc 1)) refl

-- with a bound that leaves no call the result is 0
counts_zero : (cells : List Cell) (block n acc v next : ℕ) → (block == 0) ≡ false → cell_at cells block ≡ Some (Live 0 (item v next)) → callee_bound n (Some (LessBound (named (codes "n") 15 27) 1)) ≡ None → Counts cells block n acc 0
unfolding Counts
counts_zero cells block n acc v next some cell none head store has =
    around_item n head cells store block acc v next 0 has some cell
    (λ inner xs no_out is_acc. RunsCallZero list_length (Number 0) refl none refl (record { unused = no_out; after = refl }))

-- an item, and then the rest with a smaller bound
counts_item : (cells : List Cell) (block n m acc v next result : ℕ) → (block == 0) ≡ false → cell_at cells block ≡ Some (Live 0 (item v next)) → callee_bound n (Some (LessBound (named (codes "n") 15 27) 1)) ≡ Some m
    → Counts (with_cell cells block (Live 0 (item 0 0))) next m (sum_mod 3 acc 1) result → Counts cells block n acc result
unfolding Counts
counts_item cells block n m acc v next result some cell bound rest head store has =
    around_item n head cells store block acc v next result has some cell
    (λ inner xs no_out is_acc.
    let old = with_item inner v next (sum_mod 3 acc 1) in
    RunsCall list_length m refl bound no_out
    (subst (λ s. Runs setting (act m) list_length.body (at head (with_cell cells block (Live 0 (item 0 0))) (seen shared (with_item inner v next (sum_mod 3 acc 1)))) (at head (with_cell cells block (Live 0 (item 0 0))) s)) (seen_out inner)
    (rest head (seen shared old) (record { xs = refl; acc = refl; e = refl; t = refl; next = refl; r = refl; out = no_out })))
    (keeps inner))
  where
    seen_out : (inner : Store) → with_value (seen shared (with_item inner v next (sum_mod 3 acc 1))) (codes "out") (Number result) ≡ seen shared (with_value (with_item inner v next (sum_mod 3 acc 1)) (codes "out") (Number result))
    seen_out inner = fun_ext (λ name. by (bytes_eq (codes "out") name) (bytes_eq (codes "xs") name) (bytes_eq (codes "acc") name))
      where
        by : (k l m : Bool) → (if k then Some (Number result) else if k then inner (codes "out") else if l then Some (Address next) else if m then Some (Number (sum_mod 3 acc 1)) else None)
            ≡ (if k then Some (Number result) else if l then Some (Address next) else if m then Some (Number (sum_mod 3 acc 1)) else None)
        by true l m = refl
        by false l m = refl

    keeps : (inner : Store) → KeepsOthers shared (with_item inner v next (sum_mod 3 acc 1)) (with_value (with_item inner v next (sum_mod 3 acc 1)) (codes "out") (Number result))
    keeps inner name none =
        ap (λ k. if k then Some (Number result) else with_item inner v next (sum_mod 3 acc 1) name)
        (bytes_eq-sym (codes "out") name ∙ (or_parts (bytes_eq name (codes "out")) (bytes_eq name (codes "next") || (bytes_eq name (codes "r") || false)) none).0)

-- `free 3; 1 live list (5, @2); 2 live list (7, @0); 3 free 0`
abbrev two_items : List Cell
two_items = Live 0 (item 5 2) ∷ Live 0 (item 7 0) ∷ Free 0 ∷ []

-- `xs @1; acc 0`
abbrev parameters : Store
parameters = with_value (with_value empty (codes "xs") (Address 1)) (codes "acc") (Number 0)

abbrev has_parameters : HasParams parameters 1 0
has_parameters = record { xs = refl; acc = refl; e = refl; t = refl; next = refl; r = refl; out = refl }

-- with the bound 3 the result is 2
pub length_is_2 : Runs setting (act 3) list_length.body (at 3 two_items parameters) (at 3 two_items (with_value parameters (codes "out") (Number 2)))
unfolding Counts
length_is_2 =
    counts_item two_items 1 3 2 0 5 2 2 refl refl refl
    (counts_item (Live 0 (item 0 0) ∷ Live 0 (item 7 0) ∷ Free 0 ∷ []) 2 2 1 1 7 0 2 refl refl refl
    (counts_none (Live 0 (item 0 0) ∷ Live 0 (item 0 0) ∷ Free 0 ∷ []) 1 2))
    3 parameters has_parameters

-- with the bound 2 it is 0, since the bound is too small
pub bound_is_too_small : Runs setting (act 2) list_length.body (at 3 two_items parameters) (at 3 two_items (with_value parameters (codes "out") (Number 0)))
unfolding Counts
bound_is_too_small =
    counts_item two_items 1 2 1 0 5 2 0 refl refl refl
    (counts_zero (Live 0 (item 0 0) ∷ Live 0 (item 7 0) ∷ Free 0 ∷ []) 2 1 1 7 0 refl refl refl)
    3 parameters has_parameters
