-- How the measures of functions are found: the pairs of a function and the number of its bound that calls reach, and the measure of each.
use Rattle.std.specs.Prelude.{◌≡◌, ◌≤◌, ◌<◌, ◌+◌, ◌*◌, ◌^◌, ℕ, Bool, true, List, length, slice_get, Option, Some, None}
use Rattle.tw_syntax.specs.Names.{NameTree}
use Rattle.tw_syntax.specs.Programs.{FunTree}
use Rattle.tw_syntax.specs.Statements.{StmtTree, Nothing, Then, Else, LetStmt, SwapStmt, MemSwapStmt, IfStmt, WithStmt, BlockStmt, SkipStmt}
use Rattle.tw_syntax.specs.Terms.{BoundTree, RhsTree, ExprRhs, CallRhs, AllocRhs}
use Rattle.tw_resolve.specs.Declarations.{number_of}
use Rattle.tw_resolve.specs.Setting.{Setting}
use Rattle.tw_state.specs.Steps.{callee_bound}
use Rattle.tw_frames.specs.declared.measured.Measured.{Measured}
use Rattle.tw_frames.specs.Measures.{no_steps, enclosed, capped, Measures}

-- the number of a pair of a function and the number of its bound
abbrev pub pair_number : ℕ → ℕ → ℕ
pair_number fun own = fun * 256 + own

-- a call runs the body of the pair with this number
pub record RunsPair (setting : Setting) (own : ℕ) (callee : NameTree) (bound : Option BoundTree) (pair : ℕ) : Type 0 where
  pub fun : ℕ
  pub number : ℕ
  pub is_fun : number_of setting.funs callee.text ≡ Some fun
  pub is_number : callee_bound own bound ≡ Some number
  pub small : number < 256
  pub is_pair : pair ≡ pair_number fun number

-- the earlier pairs that a right side calls are marked
abbrev pub RhsMarked : Setting → ℕ → List Bool → ℕ → RhsTree → Type 0
RhsMarked setting pair marks own (CallRhs callee bound args) =
    (j n : ℕ) → number_of setting.funs callee.text ≡ Some j → callee_bound own bound ≡ Some n
    → (n < 256) × (pair_number j n < pair → slice_get marks (pair_number j n) ≡ Some true)
RhsMarked setting pair marks own (ExprRhs expr) = Unit {0}
RhsMarked setting pair marks own (AllocRhs to) = Unit {0}

-- the earlier pairs that a statement calls are marked
abbrev pub StmtMarked : Setting → ℕ → List Bool → ℕ → StmtTree → Type 0
StmtMarked setting pair marks own Nothing = Unit {0}
StmtMarked setting pair marks own (Then first rest) = StmtMarked setting pair marks own first × StmtMarked setting pair marks own rest
StmtMarked setting pair marks own (Else at stmts) = StmtMarked setting pair marks own stmts
StmtMarked setting pair marks own (LetStmt at forward target rhs) = RhsMarked setting pair marks own rhs
StmtMarked setting pair marks own (SwapStmt at left right) = Unit {0}
StmtMarked setting pair marks own (MemSwapStmt at pointer place) = Unit {0}
StmtMarked setting pair marks own (IfStmt at cond first other) = StmtMarked setting pair marks own first × StmtMarked setting pair marks own other
StmtMarked setting pair marks own (WithStmt at setup work) = StmtMarked setting pair marks own setup × StmtMarked setting pair marks own work
StmtMarked setting pair marks own (BlockStmt at body) = StmtMarked setting pair marks own body
StmtMarked setting pair marks own (SkipStmt at) = Unit {0}

-- more pairs before the given one are marked
pub record MarksMore (pair : ℕ) (old new : List Bool) : Type 0 where
  pub len : length new ≡ length old
  pub grows : (q : ℕ) → slice_get old q ≡ Some true → slice_get new q ≡ Some true
  pub keeps : (q : ℕ) → pair ≤ q → slice_get new q ≡ slice_get old q

-- more pairs before the given one are marked, among them those that a statement calls
pub record MarksCalls (setting : Setting) (pair own : ℕ) (s : StmtTree) (old new : List Bool) : Type 0 where
  pub more : MarksMore pair old new
  pub marked : pair ≤ length old → StmtMarked setting pair new own s

-- from the given pair on, the earlier pairs that a marked pair calls are marked
abbrev pub AreMarkedFrom : Setting → ℕ → List Bool → Type 0
AreMarkedFrom setting pair marks =
    (k own : ℕ) (fun : FunTree) → own < 256 → pair ≤ pair_number k own → slice_get marks (pair_number k own) ≡ Some true
    → slice_get setting.funs k ≡ Some fun → StmtMarked setting (pair_number k own) marks own fun.body

-- the measures that are known, by the numbers of pairs
abbrev pub Known : Type 0
Known = ℕ → Option Measured

-- the measures of all callees of a right side are known; their pairs have numbers that a `usize` holds
abbrev pub RhsKnown : Setting → Known → ℕ → RhsTree → Type 0
RhsKnown setting known own (CallRhs callee bound args) =
    (j n : ℕ) (fun : FunTree) (a : Measured) → number_of setting.funs callee.text ≡ Some j → slice_get setting.funs j ≡ Some fun
    → callee_bound own bound ≡ Some n → Measures setting n fun.body a
    → (pair_number j n < 2 ^ 64) × (known (pair_number j n) ≡ Some (capped (enclosed a)))
RhsKnown setting known own (ExprRhs expr) = Unit {0}
RhsKnown setting known own (AllocRhs to) = Unit {0}

-- the measures of all callees of a statement are known
abbrev pub StmtKnown : Setting → Known → ℕ → StmtTree → Type 0
StmtKnown setting known own Nothing = Unit {0}
StmtKnown setting known own (Then first rest) = StmtKnown setting known own first × StmtKnown setting known own rest
StmtKnown setting known own (Else at stmts) = StmtKnown setting known own stmts
StmtKnown setting known own (LetStmt at forward target rhs) = RhsKnown setting known own rhs
StmtKnown setting known own (SwapStmt at left right) = Unit {0}
StmtKnown setting known own (MemSwapStmt at pointer place) = Unit {0}
StmtKnown setting known own (IfStmt at cond first other) = StmtKnown setting known own first × StmtKnown setting known own other
StmtKnown setting known own (WithStmt at setup work) = StmtKnown setting known own setup × StmtKnown setting known own work
StmtKnown setting known own (BlockStmt at body) = StmtKnown setting known own body
StmtKnown setting known own (SkipStmt at) = Unit {0}

-- this is the capped measure of the body of a callee, if it is known; with the bound 0 nothing runs
pub record FindsCallee (setting : Setting) (known : Known) (own : ℕ) (callee : NameTree) (bound : Option BoundTree) (found : Measured) : Type 0 where
  pub runs : (j n : ℕ) (body : Measured) → number_of setting.funs callee.text ≡ Some j → callee_bound own bound ≡ Some n
      → pair_number j n < 2 ^ 64 → known (pair_number j n) ≡ Some body → found ≡ body
  pub none : callee_bound own bound ≡ None → found ≡ no_steps

-- this is the capped measure of a statement, if those of its callees are known
abbrev pub Finds : Setting → Known → ℕ → StmtTree → Measured → Type 0
Finds setting known own s found = StmtKnown setting known own s → (a : Measured) → Measures setting own s a → found ≡ capped a

-- this is the capped measure of the function of a pair, if those of its callees are known
abbrev pub FindsPair : Setting → Known → ℕ → Measured → Type 0
FindsPair setting known pair found =
    (k own : ℕ) (fun : FunTree) (a : Measured) → own < 256 → pair ≡ pair_number k own → slice_get setting.funs k ≡ Some fun
    → StmtKnown setting known own fun.body → Measures setting own fun.body a → found ≡ capped (enclosed a)

-- the measures of all marked pairs before the given one are known
abbrev pub AreKnown : Setting → List Bool → ℕ → Known → Type 0
AreKnown setting marks pair known =
    (k own : ℕ) (fun : FunTree) (a : Measured) → own < 256 → pair_number k own < pair
    → slice_get marks (pair_number k own) ≡ Some true → slice_get setting.funs k ≡ Some fun → Measures setting own fun.body a
    → known (pair_number k own) ≡ Some (capped (enclosed a))
