-- The tests of statements, functions and programs decide equality without places.
use Rattle.std.proofs.Common.{◌≡◌, refl, ap, Decides, map}
use Rattle.std.specs.Option.{option_map}
use Rattle.std.specs.Cmp.{booleans_Decides}
use Rattle.tw_syntax.specs.Programs.{ParamTree, FunTree, AliasTree, DeclTree, AliasDecl, FunDecl, ProgramTree}
use Rattle.tw_syntax.specs.Statements.{StmtTree, Nothing, Then, Else, LetStmt, SwapStmt, MemSwapStmt, IfStmt, WithStmt, BlockStmt, SkipStmt}
use Rattle.tw_syntax.specs.Same.{same_alias, same_decl, same_fun, same_head, same_name, same_param, same_program, same_stmt}
use Rattle.tw_syntax.specs.Unplaced.{unplaced_alias, unplaced_decl, unplaced_fun, unplaced_name, unplaced_param, unplaced_program, unplaced_stmt, unplaced_written}
use Rattle.tw_syntax.proofs.Deciding.{one, both, two, three, always, never, each_decides, optional_decides}
use Rattle.tw_syntax.proofs.DecidedTypes.{name_decides, path_decides, written_decides}
use Rattle.tw_syntax.proofs.DecidedTerms.{rhs_decides}

pub stmt_decides : (x y : StmtTree) → Decides (same_stmt x y) (unplaced_stmt x ≡ unplaced_stmt y)
stmt_decides Nothing Nothing = always refl
stmt_decides (Then x xs) (Then y ys) = two (stmt_decides x y) (stmt_decides xs ys) (λ e f. cc) (λ e. cc) (λ e. cc)
stmt_decides (Else p xs) (Else q ys) = one (stmt_decides xs ys) (λ e. cc) (λ e. cc)
stmt_decides (LetStmt p f x r) (LetStmt q g y s) =
    three (booleans_Decides f g) (name_decides x y) (rhs_decides r s) (λ e h i. cc) (λ e. cc) (λ e. cc) (λ e. cc)
stmt_decides (SwapStmt p a b) (SwapStmt q c d) = two (path_decides a c) (path_decides b d) (λ e f. cc) (λ e. cc) (λ e. cc)
stmt_decides (MemSwapStmt p a b) (MemSwapStmt q c d) = two (path_decides a c) (path_decides b d) (λ e f. cc) (λ e. cc) (λ e. cc)
stmt_decides (IfStmt p c xs vs) (IfStmt q d ys ws) =
    two (path_decides c d) (both (stmt_decides xs ys) (stmt_decides vs ws))
    (λ e h. let f = h.0 in let g = h.1 in cc) (λ e. cc) (λ e. (cc, cc))
stmt_decides (WithStmt p xs vs) (WithStmt q ys ws) = two (stmt_decides xs ys) (stmt_decides vs ws) (λ e f. cc) (λ e. cc) (λ e. cc)
stmt_decides (BlockStmt p xs) (BlockStmt q ys) = one (stmt_decides xs ys) (λ e. cc) (λ e. cc)
stmt_decides (SkipStmt p) (SkipStmt q) = always refl
stmt_decides x y = never (λ e. cc)

param_decides : (x y : ParamTree) → Decides (same_param x y) (unplaced_param x ≡ unplaced_param y)
param_decides x y = two (name_decides x.name y.name) (written_decides x.ty y.ty) (λ e f. cc) (ap (λ z. z.name)) (ap (λ z. z.ty))

alias_decides : (x y : AliasTree) → Decides (same_alias x y) (unplaced_alias x ≡ unplaced_alias y)
alias_decides x y = two (name_decides x.name y.name) (written_decides x.body y.body) (λ e f. cc) (ap (λ z. z.name)) (ap (λ z. z.body))

-- the heads of two functions are equal without places
record SameHead (x y : FunTree) : Type 0 where
  pub name : unplaced_name x.name ≡ unplaced_name y.name
  pub bound : option_map unplaced_name x.bound ≡ option_map unplaced_name y.bound
  pub params : map unplaced_param x.params ≡ map unplaced_param y.params
  pub result : unplaced_written x.result ≡ unplaced_written y.result

head_decides : (x y : FunTree) → Decides (same_head x y) (SameHead x y)
head_decides x y =
    let name = name_decides x.name y.name in
    let bound = optional_decides same_name unplaced_name name_decides x.bound y.bound in
    let params = each_decides same_param unplaced_param param_decides x.params y.params in
    three (both name bound) params (written_decides x.result y.result)
    (λ h e f. record { name = h.0; bound = h.1; params = e; result = f })
    (λ h. (h.name, h.bound)) (λ h. h.params) (λ h. h.result)

fun_decides : (x y : FunTree) → Decides (same_fun x y) (unplaced_fun x ≡ unplaced_fun y)
fun_decides x y =
    three (head_decides x y) (stmt_decides x.body y.body) (name_decides x.returned y.returned)
    (λ h e f. let a = h.name in let b = h.bound in let c = h.params in let d = h.result in cc)
    (λ e. record { name = ap (λ z. z.name) e; bound = ap (λ z. z.bound) e; params = ap (λ z. z.params) e; result = ap (λ z. z.result) e })
    (ap (λ z. z.body)) (ap (λ z. z.returned))

decl_decides : (x y : DeclTree) → Decides (same_decl x y) (unplaced_decl x ≡ unplaced_decl y)
decl_decides (AliasDecl x) (AliasDecl y) = one (alias_decides x y) (λ e. cc) (λ e. cc)
decl_decides (FunDecl x) (FunDecl y) = one (fun_decides x y) (λ e. cc) (λ e. cc)
decl_decides x y = never (λ e. cc)

pub program_decides : (x y : ProgramTree) → Decides (same_program x y) (unplaced_program x ≡ unplaced_program y)
program_decides x y = one (each_decides same_decl unplaced_decl decl_decides x.decls y.decls) (λ e. cc) (ap (λ z. z.decls))
