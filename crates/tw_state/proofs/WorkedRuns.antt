-- Worked examples of the semantics whose states are equal by laws of stores: exchanges, padding, `with` and calls.
use Rattle.std.proofs.Common.{◌≡◌, ◌∙◌, refl, sym, ap, Bool, true, false, ◌||◌, if◌then◌else◌, [], ◌∷◌, Some, None, option_map, bytes_eq, codes}
use Rattle.std.proofs.Math.Path.{fun_ext}
use Rattle.std.proofs.lemmas.Bool.{or_parts}
use Rattle.tw_syntax.specs.Examples.{place}
use Rattle.tw_syntax.specs.Names.{PathTree}
use Rattle.tw_syntax.specs.Programs.{FunTree}
use Rattle.tw_syntax.specs.Statements.{StmtTree, Nothing, Then, LetStmt, SwapStmt, MemSwapStmt, WithStmt}
use Rattle.tw_syntax.specs.Terms.{LessBound, SameBound, ExprRhs, CallRhs, NotExpr}
use Rattle.tw_syntax.specs.Types.{BoolType}
use Rattle.tw_types.specs.Types.{Boolean}
use Rattle.tw_types.specs.Values.{Value, Number, Truth, Address, PairValue}
use Rattle.tw_resolve.proofs.Texts.{bytes_eq-sym}
use Rattle.tw_check.specs.Names.{Names, with_name}
use Rattle.tw_check.proofs.NameSets.{with_name-back}
use Rattle.tw_state.specs.States.{Name, Free, Live, Store, State, empty, with_value}
use Rattle.tw_state.specs.Parts.{with_part, with_value_at}
use Rattle.tw_state.specs.Steps.{Activation, live_names, IsPadded, callee_bound, links, KeepsOthers}
use Rattle.tw_state.specs.Semantics.{Runs, RunsNothing, RunsThen, RunsLet, RunsUnlet, RunsSwap, RunsMemSwap, RunsIfNot, RunsWith, RunsCall, RunsCallZero}
use Rattle.tw_state.specs.Derivations.{named, path, half, variable, copied, assign, unassign, program, of_pointers, of_truths, fresh, only, adds, remove_x, c_and_x, p_and_v}
use Rattle.tw_state.proofs.Basics.{same_name, contradiction}
use Rattle.tw_state.proofs.LiveRuns.{live_added}
use Rattle.tw_state.proofs.Undone.{undone}

-- names are added in any order
pub with_value-swap : (store : Store) (a b : Name) (x y : Value) → bytes_eq a b ≡ false → with_value (with_value store a x) b y ≡ with_value (with_value store b y) a x
with_value-swap store a b x y differ = fun_ext (λ n. by n (bytes_eq a n) (bytes_eq b n) refl refl)
  where
    by : (n : Name) (k l : Bool) → bytes_eq a n ≡ k → bytes_eq b n ≡ l → (if l then Some y else if k then Some x else store n) ≡ (if k then Some x else if l then Some y else store n)
    by n true true p q = contradiction (ap (λ m. bytes_eq a m) (same_name b n q) ∙ p) differ
    by n true false p q = refl
    by n false true p q = refl
    by n false false p q = refl

-- the value at a path of the name that was added
pub with_value_at-added : (store : Store) (path : PathTree) (x new : Value) → with_value_at (with_value store path.root.text x) path new ≡ with_value store path.root.text (with_part path.steps x new)
with_value_at-added store path x new = fun_ext (λ n. by n (bytes_eq path.root.text n))
  where
    by : (n : Name) (k : Bool) → (if k then option_map (λ whole. with_part path.steps whole new) (if k then Some x else store n) else if k then Some x else store n) ≡ (if k then Some (with_part path.steps x new) else store n)
    by n true = refl
    by n false = refl

-- `p.1 <-> v;` exchanges a half of `p` with `v`
pub half_is_exchanged : (act : Activation) → Runs (program []) act (SwapStmt (place 1 1) (half (codes "p") 1 1) (path (codes "v") 9))
    (fresh (with_value (only (codes "v") (Truth false)) (codes "p") (PairValue (Truth true) (Number 7))))
    (fresh (with_value (only (codes "p") (PairValue (Truth false) (Number 7))) (codes "v") (Truth true)))
half_is_exchanged act =
    RunsSwap (record {
      x = Truth true;
      y = Truth false;
      at_left = refl;
      at_right = refl;
      apart = refl;
      after = ap fresh (sym (
          ap (λ s. with_value_at s (path (codes "v") 9) (Truth true))
          (with_value_at-added (only (codes "v") (Truth false)) (half (codes "p") 1 1) (PairValue (Truth true) (Number 7)) (Truth false)
          ∙ with_value-swap empty (codes "v") (codes "p") (Truth false) (PairValue (Truth false) (Number 7)) refl)
          ∙ with_value_at-added (only (codes "p") (PairValue (Truth false) (Number 7))) (path (codes "v") 9) (Truth false) (Truth true)));
    })

-- `1 live bool true`, and blocks 2 and 3 are free
abbrev one_true : Bool → Store → State
one_true value store = record { head = 2; cells = Live 0 (Truth value) ∷ Free 3 ∷ Free 0 ∷ []; store = store }

-- `*p <-> v;` with `p @1` exchanges `v false` with the `true` in block 1
pub block_is_exchanged : Runs (program []) of_pointers (MemSwapStmt (place 1 50) (path (codes "p") 51) (path (codes "v") 57)) (one_true true (p_and_v 1 false)) (one_true false (p_and_v 1 true))
block_is_exchanged =
    RunsMemSwap (record {
      block = 1;
      target = 0;
      x = Truth true;
      y = Truth false;
      points = refl;
      of_target = refl;
      in_cell = refl;
      at_place = refl;
      apart = refl;
      after = ap (one_true false) (sym (with_value_at-added (only (codes "p") (Address 1)) (path (codes "v") 57) (Truth false) (Truth true)));
    })

-- `if c { let x -> true; }` from `c false; x false` runs no branch, and removes x
pub zero_is_removed : Runs (program []) of_truths remove_x (fresh (c_and_x false false)) (fresh (only (codes "c") (Truth false)))
zero_is_removed =
    RunsIfNot refl (record {
      head = refl;
      cells = refl;
      after = sym (ap (λ (l : Names). with_name l (codes "x") false) added_x ∙ with_name-back (live_names (only (codes "c") (Truth false))) (codes "x") false true refl);
      before = added_x;
      padded = λ name. padded_x name (bytes_eq (codes "x") name) refl (bytes_eq (codes "c") name);
    }) refl
  where
    added_x : live_names (c_and_x false false) ≡ with_name (live_names (only (codes "c") (Truth false))) (codes "x") true
    added_x = live_added (adds (codes "x") (Truth false) (fresh (only (codes "c") (Truth false))) refl)

    padded_x : (name : Name) (k : Bool) → bytes_eq (codes "x") name ≡ k → (l : Bool) → IsPadded (Some Boolean) (if k then Some (Truth false) else if l then Some (Truth false) else None) (if l then Some (Truth false) else None)
    padded_x name true is true = refl
    padded_x name true is false = refl
    padded_x name false is true = refl
    padded_x name false is false = tt

-- `with { let t <- a; } do { let c <- not t; }`
abbrev negated_copy : StmtTree
negated_copy = WithStmt (place 1 1) (Then (assign 8 (codes "t") (copied (codes "a") 17)) Nothing) (Then (LetStmt (place 1 27) true (named (codes "c") 31) (ExprRhs (NotExpr (place 1 36) (variable (codes "t") 40)))) Nothing)

-- from `a true` to `a true; c false`, and t is gone
pub t_is_undone : (act : Activation) → Runs (program []) act negated_copy (fresh (only (codes "a") (Truth true))) (fresh (with_value (only (codes "a") (Truth true)) (codes "c") (Truth false)))
t_is_undone act =
    RunsWith {ready = fresh (with_value (only (codes "a") (Truth true)) (codes "t") (Truth true))} {done = fresh (with_value (with_value (only (codes "a") (Truth true)) (codes "t") (Truth true)) (codes "c") (Truth false))}
    (RunsThen (RunsLet (Truth true) refl (adds (codes "t") (Truth true) (fresh (only (codes "a") (Truth true))) refl)) RunsNothing)
    (RunsThen (RunsLet (Truth false) refl (adds (codes "c") (Truth false) (fresh (with_value (only (codes "a") (Truth true)) (codes "t") (Truth true))) refl)) RunsNothing)
    (RunsThen RunsNothing (RunsUnlet (Truth true) refl (record { unused = refl; after = ap fresh (with_value-swap (only (codes "a") (Truth true)) (codes "t") (codes "c") (Truth true) (Truth false) refl) })))

-- `fun g(y: bool) -> bool { let r <- not y; return r; }`
abbrev g : FunTree
g = record {
  name = named (codes "g") 5;
  bound = None;
  params = record { name = named (codes "y") 7; ty = BoolType (place 1 10) } ∷ [];
  result = BoolType (place 1 19);
  body = Then (LetStmt (place 1 26) true (named (codes "r") 30) (ExprRhs (NotExpr (place 1 35) (variable (codes "y") 39)))) Nothing;
  return_at = place 1 42;
  returned = named (codes "r") 49;
}

-- `let x <- g(a);`
abbrev call_of_g : StmtTree
call_of_g = assign 1 (codes "x") (CallRhs (named (codes "g") 10) None (named (codes "a") 12 ∷ []))

-- from `a true` to `a true; x false`
pub g_is_called : (act : Activation) → Runs (program (g ∷ [])) act call_of_g (fresh (only (codes "a") (Truth true))) (fresh (with_value (only (codes "a") (Truth true)) (codes "x") (Truth false)))
g_is_called act = RunsCall g 0 refl refl refl (RunsThen (RunsLet (Truth false) refl (record { unused = refl; after = ap fresh (fun_ext (λ n. by (bytes_eq (codes "r") n) (bytes_eq (codes "y") n))) })) RunsNothing) keeps
  where
    by : (k l : Bool) → (if k then Some (Truth false) else if l then Some (Truth true) else None) ≡ (if k then Some (Truth false) else if k then None else if l then Some (Truth true) else None)
    by true l = refl
    by false l = refl

    keeps : KeepsOthers (links g (named (codes "x") 1) (named (codes "a") 12 ∷ [])) (only (codes "a") (Truth true)) (with_value (only (codes "a") (Truth true)) (codes "x") (Truth false))
    keeps name none = rw (bytes_eq-sym (codes "x") name ∙ (or_parts (bytes_eq name (codes "x")) (bytes_eq name (codes "a") || false) none).0) refl

-- `let x -> g(a);` leads back
pub g_is_uncalled : (act : Activation) → Runs (program (g ∷ [])) act (unassign 1 (codes "x") (CallRhs (named (codes "g") 10) None (named (codes "a") 12 ∷ []))) (fresh (with_value (only (codes "a") (Truth true)) (codes "x") (Truth false))) (fresh (only (codes "a") (Truth true)))
g_is_uncalled act = undone (program (g ∷ [])) (g_is_called act)

-- `fun h[n](y: bool) -> bool { .. }` has the body of g
abbrev h : FunTree
h = record g { name = named (codes "h") 5; bound = Some (named (codes "n") 7) }

-- in a function with the bound 2, `let x <- h[n - 3](a);` runs no body, and x is false
pub bound_is_zero : (types : _) → Runs (program (h ∷ [])) (record { types = types; bound = 2 }) (assign 1 (codes "x") (CallRhs (named (codes "h") 10) (Some (LessBound (named (codes "n") 12) 3)) (named (codes "a") 18 ∷ []))) (fresh (only (codes "a") (Truth true))) (fresh (with_value (only (codes "a") (Truth true)) (codes "x") (Truth false)))
bound_is_zero types = RunsCallZero h (Truth false) refl refl refl (adds (codes "x") (Truth false) (fresh (only (codes "a") (Truth true))) refl)

-- the bounds `n - 3`, `n - 1` and `n` where n is 2, and a callee without a bound
pub bound_below_zero : callee_bound 2 (Some (LessBound (named (codes "n") 1) 3)) ≡ None
bound_below_zero = refl

pub bound_one_less : callee_bound 2 (Some (LessBound (named (codes "n") 1) 1)) ≡ Some 1
bound_one_less = refl

pub bound_same : callee_bound 2 (Some (SameBound (named (codes "n") 1))) ≡ Some 2
bound_same = refl

pub no_bound : callee_bound 2 None ≡ Some 0
no_bound = refl
