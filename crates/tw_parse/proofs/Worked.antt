-- Worked examples: a program with its tree, and a source that is refused.
use Rattle.std.proofs.Common.{[], ◌∷◌, codes, None, true, refl}
use Rattle.std.specs.Str.{chars, is_utf8}
use Rattle.std.proofs.lemmas.Str.{IsUtf8-from_is_utf8}
use Rattle.tw_text.specs.declared.refusal.Rule.TheVariants as rule
use Rattle.tw_text.specs.Refusals.{broken}
use Rattle.tw_lex.proofs.Worked.{column, main_text, main_tokens, main_has_tokens, refused_text, refused_tokens, refused_has_tokens}
use Rattle.tw_syntax.specs.declared.term.OpKind.TheVariants as op
use Rattle.tw_syntax.specs.Types.{BoolType}
use Rattle.tw_syntax.specs.Terms.{PlaceAtom, OpExpr, ExprRhs}
use Rattle.tw_syntax.specs.Statements as tree
use Rattle.tw_syntax.specs.Programs.{FunTree, FunDecl, ProgramTree}
use Rattle.tw_parse.specs.Grammar.{Bool, NoSteps, Place, And, Op, Plain}
use Rattle.tw_parse.specs.Statements.{Let, NoStmts, Stmts, NoMoreParams, MoreParams, Params, NoFunBound, Fun, Last, ProgramForm}
use Rattle.tw_parse.specs.Trees.{named, HasTree}
use Rattle.tw_parse.specs.Prefixes.{IsSyntaxAt}
use Rattle.tw_parse.specs.Sources.{IsSource, IsRefused, Program}
use Rattle.tw_parse.proofs.automaton.Verdicts.{verdict-accept, verdict-fail}

-- `fun main(a: bool, b: bool) -> bool { let c <- a && b; return c; }`
abbrev pub main_fun : FunTree
main_fun = record {
  name = named (codes "main") (column 5);
  bound = None;
  params =
      record { name = named (codes "a") (column 10); ty = BoolType (column 13) }
      ∷ record { name = named (codes "b") (column 19); ty = BoolType (column 22) } ∷ [];
  result = BoolType (column 31);
  body = tree.Then (tree.LetStmt (column 38) true (named (codes "c") (column 42)) (ExprRhs (OpExpr (column 47) op.And
      (PlaceAtom (column 47) (record { root = named (codes "a") (column 47); steps = [] }))
      (PlaceAtom (column 52) (record { root = named (codes "b") (column 52); steps = [] }))))) tree.Nothing;
  return_at = column 55;
  returned = named (codes "c") (column 62);
}

abbrev pub main_tree : ProgramTree
main_tree = record { decls = FunDecl main_fun ∷ [] }

-- the rules of the grammar by which its tokens are a program
main_form : ProgramForm
main_form = Last (Fun (record {
  at = column 1;
  name_at = column 5;
  name = codes "main";
  bound = NoFunBound;
  paren = column 9;
  params = Params (record { at = column 10; name = codes "a"; colon = column 11; ty = Bool (column 13) })
      (MoreParams (column 17) (record { at = column 19; name = codes "b"; colon = column 20; ty = Bool (column 22) }) NoMoreParams);
  paren_end = column 26;
  arrow = column 28;
  result = Bool (column 31);
  begin = column 36;
  body = Stmts (Let (column 38) (column 42) (codes "c") (column 44) (Plain (Op
      (Place (record { at = column 47; root = codes "a"; steps = NoSteps })) And (column 49)
      (Place (record { at = column 52; root = codes "b"; steps = NoSteps })))) (column 53)) NoStmts;
  return_at = column 55;
  returned_at = column 62;
  returned = codes "c";
  semicolon = column 63;
  end = column 65;
}))

pub main_has_tree : HasTree main_tokens main_tree
unfolding main_form
main_has_tree = ((main_form, refl), refl)

pub main_is_source : IsSource main_text main_tree
unfolding is_utf8 chars lib.Utf8.encode
main_is_source = record {
  text = IsUtf8-from_is_utf8 main_text refl;
  toks = main_tokens;
  has = main_has_tokens;
  has_tree = main_has_tree;
  shallow = ((verdict-accept main_tokens).0 refl).1;
}

-- the tokens up to `<-` are a viable prefix, and `;`, with five tokens left, does not continue it
pub refused_at_semicolon : IsSyntaxAt refused_tokens 5
refused_at_semicolon = (verdict-fail refused_tokens 5).0 refl

pub refused_text-is : IsRefused refused_text (broken rule.Syntax (column 38))
unfolding is_utf8 chars lib.Utf8.encode
refused_text-is = Program (record {
  text = IsUtf8-from_is_utf8 refused_text refl;
  toks = refused_tokens;
  left = 5;
  has = refused_has_tokens;
  at = refused_at_semicolon;
  is = refl;
})
