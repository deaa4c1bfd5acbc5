-- Worked examples of layouts and frames. Each program stands on one line, as in its comment.
use Rattle.std.specs.Prelude.{◌≡◌, ℕ, true, false, List, [], ◌∷◌, Some, None, map, codes, refl}
use Rattle.tw_text.specs.declared.refusal.Counted.TheVariants as counted
use Rattle.tw_text.specs.Places.{first_place}
use Rattle.tw_text.specs.Refusals.{passed}
use Rattle.tw_syntax.specs.declared.term.OpKind.TheVariants as op
use Rattle.tw_syntax.specs.Examples.{place}
use Rattle.tw_syntax.specs.Programs.{FunTree}
use Rattle.tw_syntax.specs.Statements.{StmtTree, Nothing, Then, Else, SwapStmt, IfStmt}
use Rattle.tw_syntax.specs.Terms.{ZeroAtom, RhsTree, ExprRhs, CallRhs, OneExpr, NotExpr, OpExpr}
use Rattle.tw_syntax.specs.Types.{WrittenTree, BoolType, PairType}
use Rattle.tw_gate.specs.declared.gate.Level.TheVariants as levels
use Rattle.tw_code.specs.declared.code.Options.{Options}
use Rattle.tw_types.specs.Types.{Widths}
use Rattle.tw_resolve.specs.Demands.{first_broken}
use Rattle.tw_resolve.specs.Setting.{Setting}
use Rattle.tw_check.specs.declared.entry.Entry.{Entry}
use Rattle.tw_state.specs.Derivations.{named, path, half, variable, truth, assign, unassign}
use Rattle.tw_state.specs.Examples.{one_bit, main, main_setting}
use Rattle.tw_frames.specs.declared.regions.RegionSizes.{RegionSizes}
use Rattle.tw_frames.specs.declared.regions.WireLayout.{WireLayout}
use Rattle.tw_frames.specs.declared.workspace.Workspace.{Workspace}
use Rattle.tw_frames.specs.Frames.{Frame, if_count, if_wire, callee_frame}
use Rattle.tw_frames.specs.Layout.{in_order, wire_rules, entry_frame, IsLaidOut}
use Rattle.tw_frames.specs.Measures.{Measures, MeasuresNothing, MeasuresThen, MeasuresExpr, MeasuresSwap, MeasuresIf, MeasuresCall, MeasuresEntry, MeasuresBody, MeasuresNoBody}
use Rattle.tw_frames.specs.MeasureExamples.{only, measure, recursive}
use Rattle.tw_frames.specs.Workspaces.{Needs, NeedsNothing, NeedsThen, NeedsExpr, NeedsSwap, NeedsIf, NeedsCall, NeedsEntry, NeedsBody, NeedsNoBody}

-- a program without pointers and declared types
abbrev pub plain_program : Widths → List FunTree → Setting
plain_program widths funs = record { widths = widths; scope = record { declared = λ name. None; targets = [] }; types = λ name. None; funs = funs }

-- `bool`
abbrev pub truth_type : WrittenTree
truth_type = BoolType (place 1 1)

-- a function without a bound: its name, the names of its parameters, all `bool`, the type of its result, its body, and the result
abbrev pub fun_of : List ℕ → List (List ℕ) → WrittenTree → StmtTree → List ℕ → FunTree
fun_of name params ty body returned = record {
  name = named name 5;
  bound = None;
  params = map (λ param. record { name = named param 10; ty = truth_type }) params;
  result = ty;
  body = body;
  return_at = place 1 60;
  returned = named returned 67;
}

-- the function of this number as an entry without a bound
abbrev pub entry : ℕ → Entry
entry number = record { fun = number; bound = None }

-- both rewritings, or all but flattening
abbrev pub all_options : Options
all_options = record { flatten = true; narrow = true }

abbrev pub unflattened : Options
unflattened = record { flatten = false; narrow = true }

-- this number of wires for a block, these first wires, and all wires
abbrev pub wires : (block args out frame scratch flags ladder all : ℕ) → WireLayout
wires block args out frame scratch flags ladder all =
    record { block = block; args = args; out = out; frame = frame; scratch = scratch; flags = flags; ladder = ladder; wires = all }

abbrev pub workspace : (frames scratch : ℕ) → Workspace
workspace frames scratch = record { frames = frames; scratch = scratch }

-- `let target <- x && y;`
abbrev pub conjoin : List ℕ → List ℕ → List ℕ → StmtTree
conjoin target x y = assign 40 target (ExprRhs (OpExpr (place 1 49) op.And (variable x 49) (variable y 54)))

-- `fun main(a: bool, b: bool) -> bool { let c <- a && b; return c; }`: head and block at 0 and 1, a at 2, b at 3, c at 4, and two copies
pub conjunction_on_7_wires : IsLaidOut main_setting (entry 0) all_options levels.Mcx 2 (wires 1 2 4 5 5 7 7 7)
conjunction_on_7_wires = record {
  fun = main;
  workspace = workspace 0 2;
  measured = measure 1 1 0;
  at = refl;
  needs = NeedsBody 0 refl (NeedsThen NeedsExpr NeedsNothing);
  measures = MeasuresBody 0 refl (MeasuresThen MeasuresExpr MeasuresNothing);
  is = refl;
}

-- `fun main(a: bool, b: bool, d: bool) -> bool { if a { let c <- b && d; } return c; }`
abbrev pub under_if : FunTree
under_if = fun_of (codes "main") (codes "a" ∷ codes "b" ∷ codes "d" ∷ []) truth_type (only (IfStmt (place 1 47) (path (codes "a") 50) (only (conjoin (codes "c") (codes "b") (codes "d"))) Nothing)) (codes "c")

abbrev pub if_program : Setting
if_program = plain_program one_bit (under_if ∷ [])

if_needs : NeedsEntry if_program under_if None (workspace 1 2)
if_needs = NeedsBody 0 refl (NeedsThen (NeedsIf (NeedsThen NeedsExpr NeedsNothing) NeedsNothing) NeedsNothing)

if_measures : MeasuresEntry if_program under_if None (measure 2 2 1)
if_measures = MeasuresBody 0 refl (MeasuresThen (MeasuresIf (MeasuresThen MeasuresExpr MeasuresNothing) MeasuresNothing) MeasuresNothing)

-- 9 wires, of which wire 6 is that of the `if`. Its gate of three controls takes one wire more at the levels `tof` and `t`
pub under_if_on_9_wires : IsLaidOut if_program (entry 0) all_options levels.Mcx 3 (wires 1 2 5 6 7 9 9 9)
under_if_on_9_wires = record { fun = under_if; workspace = workspace 1 2; measured = measure 2 2 1; at = refl; needs = if_needs; measures = if_measures; is = refl }

pub ladder_at_tof : IsLaidOut if_program (entry 0) all_options levels.Tof 3 (wires 1 2 5 6 7 9 9 10)
ladder_at_tof = record { fun = under_if; workspace = workspace 1 2; measured = measure 2 2 1; at = refl; needs = if_needs; measures = if_measures; is = refl }

pub ladder_at_t : IsLaidOut if_program (entry 0) all_options levels.T 3 (wires 1 2 5 6 7 9 9 10)
ladder_at_t = record { fun = under_if; workspace = workspace 1 2; measured = measure 2 2 1; at = refl; needs = if_needs; measures = if_measures; is = refl }

-- `fun main(a: bool, b: bool, d: bool, e: bool) -> (bool, bool) { if b { if a { let c <- d && e; let g <- e && d; } }
-- let r <- default<(bool, bool)>; r.1 <-> c; r.2 <-> g; let c -> false; let g -> false; return r; }`
abbrev inner_if : StmtTree
inner_if =
    IfStmt (place 1 64) (path (codes "a") 67) (Then (conjoin (codes "c") (codes "d") (codes "e")) (only (conjoin (codes "g") (codes "e") (codes "d")))) Nothing

abbrev pub nested_ifs : FunTree
nested_ifs = fun_of (codes "main") (codes "a" ∷ codes "b" ∷ codes "d" ∷ codes "e" ∷ []) (PairType (place 1 40) truth_type truth_type)
    (Then (IfStmt (place 1 57) (path (codes "b") 60) (only inner_if) Nothing)
    (Then (assign 110 (codes "r") (ExprRhs (OneExpr (place 1 119) (ZeroAtom (place 1 119) (PairType (place 1 127) truth_type truth_type)))))
    (Then (SwapStmt (place 1 142) (half (codes "r") 142 1) (path (codes "c") 150))
    (Then (SwapStmt (place 1 153) (half (codes "r") 153 2) (path (codes "g") 161))
    (Then (unassign 164 (codes "c") (truth false 173)) (only (unassign 180 (codes "g") (truth false 189))))))))
    (codes "r")

abbrev pub nested_program : Setting
nested_program = plain_program one_bit (nested_ifs ∷ [])

nested_needs : NeedsEntry nested_program nested_ifs None (workspace 4 2)
nested_needs =
    NeedsBody 0 refl
    (NeedsThen (NeedsIf (NeedsThen (NeedsIf (NeedsThen NeedsExpr (NeedsThen NeedsExpr NeedsNothing)) NeedsNothing) NeedsNothing) NeedsNothing)
    (NeedsThen NeedsExpr (NeedsThen NeedsSwap (NeedsThen NeedsSwap (NeedsThen NeedsExpr (NeedsThen NeedsExpr NeedsNothing))))))

nested_measures : MeasuresEntry nested_program nested_ifs None (measure 9 3 2)
nested_measures =
    MeasuresBody 0 refl
    (MeasuresThen (MeasuresIf (MeasuresThen (MeasuresIf (MeasuresThen MeasuresExpr (MeasuresThen MeasuresExpr MeasuresNothing)) MeasuresNothing) MeasuresNothing) MeasuresNothing)
    (MeasuresThen MeasuresExpr (MeasuresThen MeasuresSwap (MeasuresThen MeasuresSwap (MeasuresThen MeasuresExpr (MeasuresThen MeasuresExpr MeasuresNothing))))))

-- the frame has `c`, `g` and two `if`s, from wire 8 on; without flattening there are 14 wires, and with it one flag more
pub nested_ifs_on_14_wires : IsLaidOut nested_program (entry 0) unflattened levels.Mcx 4 (wires 1 2 6 8 12 14 14 14)
nested_ifs_on_14_wires = record { fun = nested_ifs; workspace = workspace 4 2; measured = measure 9 3 2; at = refl; needs = nested_needs; measures = nested_measures; is = refl }

pub nested_ifs_on_15_wires : IsLaidOut nested_program (entry 0) all_options levels.Mcx 2 (wires 1 2 6 8 12 14 15 15)
nested_ifs_on_15_wires = record { fun = nested_ifs; workspace = workspace 4 2; measured = measure 9 3 2; at = refl; needs = nested_needs; measures = nested_measures; is = refl }

-- its `if`s have the wires 10 and 11, `c` has 8, `g` has 9, and `r` has 6 and 7
abbrev of_nested_ifs : Frame
of_nested_ifs = entry_frame nested_program nested_ifs (wires 1 2 6 8 12 14 15 15)

pub wires_of_nested_ifs : map of_nested_ifs.wire of_nested_ifs.names ≡ 2 ∷ 3 ∷ 4 ∷ 5 ∷ 6 ∷ 8 ∷ 9 ∷ []
wires_of_nested_ifs = refl

pub ifs_of_nested_ifs : (if_wire of_nested_ifs 0 ≡ 10) × (if_wire of_nested_ifs 1 ≡ 11) × (of_nested_ifs.next ≡ 12)
ifs_of_nested_ifs = (refl, refl, refl)

-- `if a { if b { .. } } else { if d { .. } }` has three `if`s
pub three_ifs : if_count (IfStmt (place 1 1) (path (codes "a") 4) (only inner_if) (Else (place 1 20) (only inner_if))) ≡ 3
three_ifs = refl

-- `let target <- not x;`, and its reverse
abbrev negation : List ℕ → RhsTree
negation x = ExprRhs (NotExpr (place 1 49) (variable x 53))

-- `let target <- callee(x);`
abbrev call : List ℕ → List ℕ → RhsTree
call callee x = CallRhs (named callee 49) None (named x 51 ∷ [])

-- `fun f(x: bool) -> bool { let t <- not x; let y <- not t; let t -> not x; return y; }`
abbrev f : FunTree
f = fun_of (codes "f") (codes "x" ∷ []) truth_type
    (Then (assign 26 (codes "t") (negation (codes "x"))) (Then (assign 42 (codes "y") (negation (codes "t"))) (only (unassign 58 (codes "t") (negation (codes "x")))))) (codes "y")

-- `fun g(x: bool) -> bool { let s <- f(x); let y <- s && x; let s -> f(x); return y; }`
abbrev g : FunTree
g = fun_of (codes "g") (codes "x" ∷ []) truth_type
    (Then (assign 26 (codes "s") (call (codes "f") (codes "x"))) (Then (conjoin (codes "y") (codes "s") (codes "x")) (only (unassign 58 (codes "s") (call (codes "f") (codes "x")))))) (codes "y")

-- `fun h(a: bool) -> bool { let u <- g(a); let v <- f(a); let r <- u == v; let v -> f(a); let u -> g(a); return r; }`
abbrev h : FunTree
h = fun_of (codes "h") (codes "a" ∷ []) truth_type
    (Then (assign 26 (codes "u") (call (codes "g") (codes "a")))
    (Then (assign 41 (codes "v") (call (codes "f") (codes "a")))
    (Then (assign 56 (codes "r") (ExprRhs (OpExpr (place 1 65) op.Eq (variable (codes "u") 65) (variable (codes "v") 70))))
    (Then (unassign 73 (codes "v") (call (codes "f") (codes "a"))) (only (unassign 88 (codes "u") (call (codes "g") (codes "a"))))))))
    (codes "r")

abbrev calls : Setting
calls = plain_program one_bit (f ∷ g ∷ h ∷ [])

-- f enters no function, g enters f, and h enters both
needs_of_f : Needs calls 0 f.body (workspace 0 0)
needs_of_f = NeedsThen NeedsExpr (NeedsThen NeedsExpr (NeedsThen NeedsExpr NeedsNothing))

needs_of_g : Needs calls 0 g.body (workspace 1 1)
needs_of_g = NeedsThen (NeedsCall f 0 refl refl needs_of_f) (NeedsThen NeedsExpr (NeedsThen (NeedsCall f 0 refl refl needs_of_f) NeedsNothing))

needs_of_h : Needs calls 0 h.body (workspace 2 2)
needs_of_h =
    NeedsThen (NeedsCall g 0 refl refl needs_of_g)
    (NeedsThen (NeedsCall f 0 refl refl needs_of_f)
    (NeedsThen NeedsExpr
    (NeedsThen (NeedsCall f 0 refl refl needs_of_f) (NeedsThen (NeedsCall g 0 refl refl needs_of_g) NeedsNothing))))

f_runs : Measures calls 0 f.body (measure 3 0 0)
f_runs = MeasuresThen MeasuresExpr (MeasuresThen MeasuresExpr (MeasuresThen MeasuresExpr MeasuresNothing))

g_runs : Measures calls 0 g.body (measure 9 1 0)
g_runs = MeasuresThen (MeasuresCall f 0 refl refl f_runs) (MeasuresThen MeasuresExpr (MeasuresThen (MeasuresCall f 0 refl refl f_runs) MeasuresNothing))

h_runs : Measures calls 0 h.body (measure 29 2 0)
h_runs =
    MeasuresThen (MeasuresCall g 0 refl refl g_runs)
    (MeasuresThen (MeasuresCall f 0 refl refl f_runs)
    (MeasuresThen MeasuresExpr
    (MeasuresThen (MeasuresCall f 0 refl refl f_runs) (MeasuresThen (MeasuresCall g 0 refl refl g_runs) MeasuresNothing))))

-- the longest chain of calls is h, g, f: two local variables in h and one in each of the others. The scratch is that of `&&` in g, or of
-- `==` in h
pub calls_on_10_wires : IsLaidOut calls (entry 2) all_options levels.Mcx 2 (wires 1 2 3 4 8 10 10 10)
calls_on_10_wires = record { fun = h; workspace = workspace 4 2; measured = measure 29 3 0; at = refl; needs = NeedsBody 0 refl needs_of_h; measures = MeasuresBody 0 refl h_runs; is = refl }

-- the frame of h; that of g in h; that of f in g; and that of f in h, which begins where that of g did
abbrev of_h : Frame
of_h = entry_frame calls h (wires 1 2 3 4 8 10 10 10)

abbrev of_g : Frame
of_g = callee_frame calls of_h g (named (codes "u") 30) (named (codes "a") 36 ∷ [])

abbrev of_f_in_g : Frame
of_f_in_g = callee_frame calls of_g f (named (codes "s") 30) (named (codes "x") 36 ∷ [])

abbrev of_f_in_h : Frame
of_f_in_h = callee_frame calls of_h f (named (codes "v") 45) (named (codes "a") 51 ∷ [])

-- a, r, u, v in h; then x, y, s in g; then x, y, t in f
pub wires_of_h : (map of_h.wire of_h.names ≡ 2 ∷ 3 ∷ 4 ∷ 5 ∷ []) × (of_h.next ≡ 6)
wires_of_h = (refl, refl)

pub wires_of_g : (map of_g.wire of_g.names ≡ 2 ∷ 4 ∷ 6 ∷ []) × (of_g.next ≡ 7)
wires_of_g = (refl, refl)

pub wires_of_f_in_g : (map of_f_in_g.wire of_f_in_g.names ≡ 2 ∷ 6 ∷ 7 ∷ []) × (of_f_in_g.next ≡ 8)
wires_of_f_in_g = (refl, refl)

pub wires_of_f_in_h : (map of_f_in_h.wire of_f_in_h.names ≡ 2 ∷ 5 ∷ 6 ∷ []) × (of_f_in_h.next ≡ 7)
wires_of_f_in_h = (refl, refl)

-- a recursive function with the bound 0 is not entered: no frames, no scratch and no flags
pub no_frame_with_bound_0 : IsLaidOut (plain_program one_bit (recursive ∷ [])) (record { fun = 0; bound = Some 0 }) all_options levels.Mcx 0 (wires 1 2 3 4 4 4 4 4)
no_frame_with_bound_0 = record { fun = recursive; workspace = workspace 0 0; measured = measure 0 0 0; at = refl; needs = NeedsNoBody refl; measures = MeasuresNoBody refl; is = refl }

-- 255 blocks of 4096 bits, 2040 bits of parameters and 2048 of the result are accepted, and one bit more is not
abbrev large : ℕ → RegionSizes
large args = record { block = 4096; args = args; out = 2048; frames = 0; scratch = 0; flags = 0; ladder = 0 }

abbrev wide : Widths
wide = record { word = 32; addr = 8 }

pub largest_is_accepted : first_broken (wire_rules (in_order wide (large 2040))) ≡ None
largest_is_accepted = refl

pub one_more_is_refused : first_broken (wire_rules (in_order wide (large 2041))) ≡ Some (passed counted.Wires 1048577 first_place)
one_more_is_refused = refl
