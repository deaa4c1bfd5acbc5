-- Statements, functions and programs with every place set to no place, and what becomes of their tokens and trees.
use Rattle.std.proofs.Common.{◌≡◌, refl, ap, [], ◌∷◌, map, true, false}
use Rattle.std.specs.Option.{option_map}
use Rattle.tw_syntax.specs.Unplaced.{no_place, unplaced_name, unplaced_stmt, unplaced_param, unplaced_fun, unplaced_decl}
use Rattle.tw_syntax.specs.Statements as tree
use Rattle.tw_syntax.specs.Programs.{FunDecl, AliasDecl}
use Rattle.tw_parse.specs.Statements.{StmtForm, stmt_text, BlockForm, block_text, StmtsForm, stmts_text, ParamForm, param_text, MoreParamsForm, more_params_text, ParamsForm, params_text, FunBoundForm, fun_bound_text, FunForm, fun_text, DeclForm, decl_text, ProgramForm, program_text}
use Rattle.tw_parse.specs.Trees.{named, stmt_tree, block_place, block_tree, stmts_tree, param_tree, more_params_tree, params_tree, fun_bound_tree, fun_tree, decl_tree, decls_tree}
use Rattle.tw_parse.proofs.forms.UnplacedTerms.{Unplaces, unplaced_type_form, unplaced_path_form, unplaced_rhs_form, after, type_text-unplaced, path_text-unplaced, rhs_text-unplaced, type_tree-unplaced, path_tree-unplaced, rhs_tree-unplaced}

-- The forms without their places.

abbrev mutual
  pub unplaced_stmt_form : StmtForm → StmtForm
  unplaced_stmt_form (StmtForm.Let p n name q rhs r) = StmtForm.Let no_place no_place name no_place (unplaced_rhs_form rhs) no_place
  unplaced_stmt_form (StmtForm.Unlet p n name q rhs r) = StmtForm.Unlet no_place no_place name no_place (unplaced_rhs_form rhs) no_place
  unplaced_stmt_form (StmtForm.Swap left p right q) = StmtForm.Swap (unplaced_path_form left) no_place (unplaced_path_form right) no_place
  unplaced_stmt_form (StmtForm.MemSwap p left q right r) = StmtForm.MemSwap no_place (unplaced_path_form left) no_place (unplaced_path_form right) no_place
  unplaced_stmt_form (StmtForm.If p cond body) = StmtForm.If no_place (unplaced_path_form cond) (unplaced_block_form body)
  unplaced_stmt_form (StmtForm.IfElse p cond body q other) =
      StmtForm.IfElse no_place (unplaced_path_form cond) (unplaced_block_form body) no_place (unplaced_block_form other)
  unplaced_stmt_form (StmtForm.With p setup q work) = StmtForm.With no_place (unplaced_block_form setup) no_place (unplaced_block_form work)
  unplaced_stmt_form (StmtForm.Block block) = StmtForm.Block (unplaced_block_form block)
  unplaced_stmt_form (StmtForm.Skip p q) = StmtForm.Skip no_place no_place

  pub unplaced_block_form : BlockForm → BlockForm
  unplaced_block_form (BlockForm.Braces p stmts q) = BlockForm.Braces no_place (unplaced_stmts_form stmts) no_place

  pub unplaced_stmts_form : StmtsForm → StmtsForm
  unplaced_stmts_form StmtsForm.NoStmts = StmtsForm.NoStmts
  unplaced_stmts_form (StmtsForm.Stmts first rest) = StmtsForm.Stmts (unplaced_stmt_form first) (unplaced_stmts_form rest)

abbrev pub unplaced_param_form : ParamForm → ParamForm
unplaced_param_form param = record { at = no_place; name = param.name; colon = no_place; ty = unplaced_type_form param.ty }

abbrev pub unplaced_more_params_form : MoreParamsForm → MoreParamsForm
unplaced_more_params_form MoreParamsForm.NoMoreParams = MoreParamsForm.NoMoreParams
unplaced_more_params_form (MoreParamsForm.MoreParams p param rest) = MoreParamsForm.MoreParams no_place (unplaced_param_form param) (unplaced_more_params_form rest)

abbrev pub unplaced_params_form : ParamsForm → ParamsForm
unplaced_params_form ParamsForm.NoParams = ParamsForm.NoParams
unplaced_params_form (ParamsForm.Params param rest) = ParamsForm.Params (unplaced_param_form param) (unplaced_more_params_form rest)

abbrev pub unplaced_fun_bound_form : FunBoundForm → FunBoundForm
unplaced_fun_bound_form FunBoundForm.NoFunBound = FunBoundForm.NoFunBound
unplaced_fun_bound_form (FunBoundForm.FunBound p n name q) = FunBoundForm.FunBound no_place no_place name no_place

abbrev pub unplaced_fun_form : FunForm → FunForm
unplaced_fun_form fun = record {
  at = no_place;
  name_at = no_place;
  name = fun.name;
  bound = unplaced_fun_bound_form fun.bound;
  paren = no_place;
  params = unplaced_params_form fun.params;
  paren_end = no_place;
  arrow = no_place;
  result = unplaced_type_form fun.result;
  begin = no_place;
  body = unplaced_stmts_form fun.body;
  return_at = no_place;
  returned_at = no_place;
  returned = fun.returned;
  semicolon = no_place;
  end = no_place;
}

abbrev pub unplaced_decl_form : DeclForm → DeclForm
unplaced_decl_form (DeclForm.Alias p n name q body r) = DeclForm.Alias no_place no_place name no_place (unplaced_type_form body) no_place
unplaced_decl_form (DeclForm.Fun fun) = DeclForm.Fun (unplaced_fun_form fun)

abbrev pub unplaced_program_form : ProgramForm → ProgramForm
unplaced_program_form (ProgramForm.Last decl) = ProgramForm.Last (unplaced_decl_form decl)
unplaced_program_form (ProgramForm.Decls decl rest) = ProgramForm.Decls (unplaced_decl_form decl) (unplaced_program_form rest)

-- The text of a form without its places is the form's text without places.

mutual
  pub stmt_text-unplaced : (c : StmtForm) → Unplaces (stmt_text (unplaced_stmt_form c)) (stmt_text c)
  stmt_text-unplaced (StmtForm.Let p n name q rhs r) k l e = after (after (after (rhs_text-unplaced rhs _ _ (after e))))
  stmt_text-unplaced (StmtForm.Unlet p n name q rhs r) k l e = after (after (after (rhs_text-unplaced rhs _ _ (after e))))
  stmt_text-unplaced (StmtForm.Swap left p right q) k l e = path_text-unplaced left _ _ (after (path_text-unplaced right _ _ (after e)))
  stmt_text-unplaced (StmtForm.MemSwap p left q right r) k l e = after (path_text-unplaced left _ _ (after (path_text-unplaced right _ _ (after e))))
  stmt_text-unplaced (StmtForm.If p cond body) k l e = after (path_text-unplaced cond _ _ (block_text-unplaced body k l e))
  stmt_text-unplaced (StmtForm.IfElse p cond body q other) k l e =
      after (path_text-unplaced cond _ _ (block_text-unplaced body _ _ (after (block_text-unplaced other k l e))))
  stmt_text-unplaced (StmtForm.With p setup q work) k l e = after (block_text-unplaced setup _ _ (after (block_text-unplaced work k l e)))
  stmt_text-unplaced (StmtForm.Block block) k l e = block_text-unplaced block k l e
  stmt_text-unplaced (StmtForm.Skip p q) k l e = after (after e)

  pub block_text-unplaced : (c : BlockForm) → Unplaces (block_text (unplaced_block_form c)) (block_text c)
  block_text-unplaced (BlockForm.Braces p stmts q) k l e = after (stmts_text-unplaced stmts _ _ (after e))

  pub stmts_text-unplaced : (c : StmtsForm) → Unplaces (stmts_text (unplaced_stmts_form c)) (stmts_text c)
  stmts_text-unplaced StmtsForm.NoStmts k l e = e
  stmts_text-unplaced (StmtsForm.Stmts first rest) k l e = stmt_text-unplaced first _ _ (stmts_text-unplaced rest k l e)

pub param_text-unplaced : (c : ParamForm) → Unplaces (param_text (unplaced_param_form c)) (param_text c)
param_text-unplaced c k l e = after (after (type_text-unplaced c.ty k l e))

pub more_params_text-unplaced : (c : MoreParamsForm) → Unplaces (more_params_text (unplaced_more_params_form c)) (more_params_text c)
more_params_text-unplaced MoreParamsForm.NoMoreParams k l e = e
more_params_text-unplaced (MoreParamsForm.MoreParams p param rest) k l e = after (param_text-unplaced param _ _ (more_params_text-unplaced rest k l e))

pub params_text-unplaced : (c : ParamsForm) → Unplaces (params_text (unplaced_params_form c)) (params_text c)
params_text-unplaced ParamsForm.NoParams k l e = e
params_text-unplaced (ParamsForm.Params param rest) k l e = param_text-unplaced param _ _ (more_params_text-unplaced rest k l e)

pub fun_bound_text-unplaced : (c : FunBoundForm) → Unplaces (fun_bound_text (unplaced_fun_bound_form c)) (fun_bound_text c)
fun_bound_text-unplaced FunBoundForm.NoFunBound k l e = e
fun_bound_text-unplaced (FunBoundForm.FunBound p n name q) k l e = after (after (after e))

pub fun_text-unplaced : (c : FunForm) → Unplaces (fun_text (unplaced_fun_form c)) (fun_text c)
fun_text-unplaced c k l e =
    after (after (fun_bound_text-unplaced c.bound _ _ (after (params_text-unplaced c.params _ _ (
    after (after (type_text-unplaced c.result _ _ (after (stmts_text-unplaced c.body _ _ (
    after (after (after (after e)))))))))))))

pub decl_text-unplaced : (c : DeclForm) → Unplaces (decl_text (unplaced_decl_form c)) (decl_text c)
decl_text-unplaced (DeclForm.Alias p n name q body r) k l e = after (after (after (type_text-unplaced body _ _ (after e))))
decl_text-unplaced (DeclForm.Fun fun) k l e = fun_text-unplaced fun k l e

pub program_text-unplaced : (c : ProgramForm) → Unplaces (program_text (unplaced_program_form c)) (program_text c)
program_text-unplaced (ProgramForm.Last decl) k l e = decl_text-unplaced decl k l e
program_text-unplaced (ProgramForm.Decls decl rest) k l e = decl_text-unplaced decl _ _ (program_text-unplaced rest k l e)

-- The tree of a form without its places is the form's tree without places.

pub block_place-unplaced : (c : BlockForm) → block_place (unplaced_block_form c) ≡ no_place
block_place-unplaced (BlockForm.Braces p stmts q) = refl

mutual
  pub stmt_tree-unplaced : (c : StmtForm) → stmt_tree (unplaced_stmt_form c) ≡ unplaced_stmt (stmt_tree c)
  stmt_tree-unplaced (StmtForm.Let p n name q rhs r) = ap (tree.LetStmt no_place true (named name no_place)) (rhs_tree-unplaced rhs)
  stmt_tree-unplaced (StmtForm.Unlet p n name q rhs r) = ap (tree.LetStmt no_place false (named name no_place)) (rhs_tree-unplaced rhs)
  stmt_tree-unplaced (StmtForm.Swap left p right q) = λ i. tree.SwapStmt no_place (path_tree-unplaced left i) (path_tree-unplaced right i)
  stmt_tree-unplaced (StmtForm.MemSwap p left q right r) = λ i. tree.MemSwapStmt no_place (path_tree-unplaced left i) (path_tree-unplaced right i)
  stmt_tree-unplaced (StmtForm.If p cond body) = λ i. tree.IfStmt no_place (path_tree-unplaced cond i) (block_tree-unplaced body i) tree.Nothing
  stmt_tree-unplaced (StmtForm.IfElse p cond body q other) =
      λ i. tree.IfStmt no_place (path_tree-unplaced cond i) (block_tree-unplaced body i) (tree.Else no_place (block_tree-unplaced other i))
  stmt_tree-unplaced (StmtForm.With p setup q work) = λ i. tree.WithStmt no_place (block_tree-unplaced setup i) (block_tree-unplaced work i)
  stmt_tree-unplaced (StmtForm.Block block) = λ i. tree.BlockStmt (block_place-unplaced block i) (block_tree-unplaced block i)
  stmt_tree-unplaced (StmtForm.Skip p q) = refl

  pub block_tree-unplaced : (c : BlockForm) → block_tree (unplaced_block_form c) ≡ unplaced_stmt (block_tree c)
  block_tree-unplaced (BlockForm.Braces p stmts q) = stmts_tree-unplaced stmts

  pub stmts_tree-unplaced : (c : StmtsForm) → stmts_tree (unplaced_stmts_form c) ≡ unplaced_stmt (stmts_tree c)
  stmts_tree-unplaced StmtsForm.NoStmts = refl
  stmts_tree-unplaced (StmtsForm.Stmts first rest) = λ i. tree.Then (stmt_tree-unplaced first i) (stmts_tree-unplaced rest i)

pub param_tree-unplaced : (c : ParamForm) → param_tree (unplaced_param_form c) ≡ unplaced_param (param_tree c)
param_tree-unplaced c = λ i. record { name = named c.name no_place; ty = type_tree-unplaced c.ty i }

pub more_params_tree-unplaced : (c : MoreParamsForm) → more_params_tree (unplaced_more_params_form c) ≡ map unplaced_param (more_params_tree c)
more_params_tree-unplaced MoreParamsForm.NoMoreParams = refl
more_params_tree-unplaced (MoreParamsForm.MoreParams p param rest) = λ i. param_tree-unplaced param i ∷ more_params_tree-unplaced rest i

pub params_tree-unplaced : (c : ParamsForm) → params_tree (unplaced_params_form c) ≡ map unplaced_param (params_tree c)
params_tree-unplaced ParamsForm.NoParams = refl
params_tree-unplaced (ParamsForm.Params param rest) = λ i. param_tree-unplaced param i ∷ more_params_tree-unplaced rest i

pub fun_bound_tree-unplaced : (c : FunBoundForm) → fun_bound_tree (unplaced_fun_bound_form c) ≡ option_map unplaced_name (fun_bound_tree c)
fun_bound_tree-unplaced FunBoundForm.NoFunBound = refl
fun_bound_tree-unplaced (FunBoundForm.FunBound p n name q) = refl

pub fun_tree-unplaced : (c : FunForm) → fun_tree (unplaced_fun_form c) ≡ unplaced_fun (fun_tree c)
fun_tree-unplaced c = λ i. record {
  name = named c.name no_place;
  bound = fun_bound_tree-unplaced c.bound i;
  params = params_tree-unplaced c.params i;
  result = type_tree-unplaced c.result i;
  body = stmts_tree-unplaced c.body i;
  return_at = no_place;
  returned = named c.returned no_place;
}

pub decl_tree-unplaced : (c : DeclForm) → decl_tree (unplaced_decl_form c) ≡ unplaced_decl (decl_tree c)
decl_tree-unplaced (DeclForm.Alias p n name q body r) = λ i. AliasDecl (record { name = named name no_place; body = type_tree-unplaced body i })
decl_tree-unplaced (DeclForm.Fun fun) = ap FunDecl (fun_tree-unplaced fun)

pub decls_tree-unplaced : (c : ProgramForm) → decls_tree (unplaced_program_form c) ≡ map unplaced_decl (decls_tree c)
decls_tree-unplaced (ProgramForm.Last decl) = λ i. decl_tree-unplaced decl i ∷ []
decls_tree-unplaced (ProgramForm.Decls decl rest) = λ i. decl_tree-unplaced decl i ∷ decls_tree-unplaced rest i
