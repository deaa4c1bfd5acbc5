-- The printed form of a source's tree reads back as that tree.
use Rattle.std.proofs.Common.{◌≡◌, sym, subst, ℕ, List, [], refl}
use Rattle.std.proofs.lemmas.List.{append-nil}
use Rattle.std.proofs.lemmas.Str.{IsUtf8-nil, chars-nil}
use Rattle.tw_text.specs.declared.place.Pos.{Pos}
use Rattle.tw_text.specs.Places.{first_place}
use Rattle.tw_syntax.specs.Programs.{ProgramTree}
use Rattle.tw_parse.specs.Sources.{IsSource}
use Rattle.tw_parse.specs.Statements.{ProgramForm, program_text}
use Rattle.tw_parse.specs.Trees.{decls_tree, HasTree}
use Rattle.tw_lex.specs.Tokens.{Lexed}
use Rattle.tw_parse.proofs.Elsewhere.{same_lexemes}
use Rattle.tw_print.specs.Programs.{program_print}
use Rattle.tw_print.specs.ReadBack.{ReadsBack}
use Rattle.tw_print.proofs.Spelling.{Clear, ReadAt, Leads, AllGood}
use Rattle.tw_print.proofs.GoodWords.{good_words}
use Rattle.tw_print.proofs.SpeltPrograms.{decls_spelt}

read_nothing : (at : Pos) → ReadAt [] at []
read_nothing at = record { others = []; has = record { pieces = []; end = at; splits = (refl, refl, refl) }; same = refl }

leads_nothing : Leads Clear [] []
leads_nothing = record {
  text = IsUtf8-nil;
  read = λ at. subst (λ (cs : List ℕ). ReadAt cs at []) (sym chars-nil) (read_nothing at);
  ends = rw chars-nil refl;
}

-- what the printed form of a tree of the grammar is parsed as
form_leads : (form : ProgramForm) → AllGood (program_text form []) → Leads Clear (program_print (record { decls = decls_tree form })) (program_text form [])
form_leads form good =
    subst (λ (bytes : List ℕ). Leads Clear bytes (program_text form [])) (append-nil (program_print (record { decls = decls_tree form }))) ((decls_spelt form).leads good [] leads_nothing)

tree_leads : (tree : ProgramTree) (toks : List Lexed) → HasTree toks tree → AllGood toks → Leads Clear (program_print tree) toks
tree_leads tree toks has good =
    let form = has.0.0 in
    let is : program_text form [] ≡ toks = sym has.0.1 in
    let printed = form_leads form (subst AllGood has.0.1 good) in
    subst (λ (t : ProgramTree). Leads Clear (program_print t) toks) (sym has.1) (subst (λ (ts : List Lexed). Leads Clear (program_print (record { decls = decls_tree form })) ts) is printed)

-- the tree of a source
pub reads_back : (tree : ProgramTree) (source : List ℕ) → IsSource source tree → ReadsBack tree
reads_back tree source s =
    let leads = tree_leads tree s.toks s.has_tree (good_words source first_place s.toks s.text s.has) in
    let r = leads.read first_place in
    let w = same_lexemes s.toks r.others tree r.same s.has_tree s.shallow in
    record {
      again = w.0;
      source = record { text = leads.text; toks = r.others; has = r.has; has_tree = w.1; shallow = w.2 };
      same = w.3;
    }
