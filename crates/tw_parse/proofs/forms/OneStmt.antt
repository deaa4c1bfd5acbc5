-- Tokens begin with at most one statement, block or list of statements.
use Rattle.std.proofs.Common.{◌≡◌, refl, ℕ, List, ◌∷◌, sym}
use Rattle.tw_text.specs.declared.place.Pos.{Pos}
use Rattle.tw_lex.specs.declared.symbol.Symbol.{Symbol}
use Rattle.tw_lex.specs.declared.symbol.Symbol.TheVariants as symbols
use Rattle.tw_lex.specs.Tokens.{Lexed, name_at, sign_at}
use Rattle.tw_parse.specs.Grammar.{PathForm, path_text, RhsForm, rhs_text}
use Rattle.tw_parse.specs.Statements.{StmtForm, stmt_text, BlockForm, block_text, StmtsForm, stmts_text}
use Rattle.tw_parse.proofs.forms.OneExpr.{same, name-same, Lacks, begins, path-same}
use Rattle.tw_parse.proofs.forms.OneRhs.{EndsCall, rhs-same}

-- a list of statements ends before these tokens
pub record EndsStmts (k : List Lexed) : Type 0 where
  pub no_else : Lacks symbols.Else k
  pub no_stmt : (c : StmtForm) (l : List Lexed) → k ≡ stmt_text c l → ⊥

stmt-not_close : (c : StmtForm) (p : Pos) (k l : List Lexed) → sign_at symbols.CloseBrace p ∷ k ≡ stmt_text c l → ⊥
stmt-not_close (StmtForm.Block (BlockForm.Braces q stmts r)) p k l e = cc ((same e).lexeme)
stmt-not_close c p k l e = cc ((same e).lexeme)

stmt-not_return : (c : StmtForm) (p : Pos) (k l : List Lexed) → sign_at symbols.Return p ∷ k ≡ stmt_text c l → ⊥
stmt-not_return (StmtForm.Block (BlockForm.Braces q stmts r)) p k l e = cc ((same e).lexeme)
stmt-not_return c p k l e = cc ((same e).lexeme)

pub close-ends : (p : Pos) (k : List Lexed) → EndsStmts (sign_at symbols.CloseBrace p ∷ k)
close-ends p k = record { no_else = refl; no_stmt = λ c l e. stmt-not_close c p k l e }

pub return-ends : (p : Pos) (k : List Lexed) → EndsStmts (sign_at symbols.Return p ∷ k)
return-ends p k = record { no_else = refl; no_stmt = λ c l e. stmt-not_return c p k l e }

stmt-no_else : (c : StmtForm) (k : List Lexed) → Lacks symbols.Else (stmt_text c k)
stmt-no_else (StmtForm.Block (BlockForm.Braces p stmts q)) k = refl
stmt-no_else c k = refl

stmts-no_else : (c : StmtsForm) (k : List Lexed) → Lacks symbols.Else k → Lacks symbols.Else (stmts_text c k)
stmts-no_else StmtsForm.NoStmts k h = h
stmts-no_else (StmtsForm.Stmts first rest) k h = stmt-no_else first (stmts_text rest k)

block-no_step : (c : BlockForm) (k : List Lexed) → Lacks symbols.Dot (block_text c k)
block-no_step (BlockForm.Braces p stmts q) k = refl

semicolon-ends : (p : Pos) (k : List Lexed) → EndsCall (sign_at symbols.Semicolon p ∷ k)
semicolon-ends p k = record { expr = record { dot = refl; op = refl }; paren = refl; bracket = refl }

-- path "<->" path ";"
record OneSwap (left other : PathForm) (p p' : Pos) (right back : PathForm) (q q' : Pos) (k l : List Lexed) : Type 0 where
  first : left ≡ other
  sign : p ≡ p'
  second : right ≡ back
  end : q ≡ q'
  rest : k ≡ l

swap-same : (left other : PathForm) (p p' : Pos) (right back : PathForm) (q q' : Pos) (k l : List Lexed)
    → path_text left (sign_at symbols.Swap p ∷ path_text right (sign_at symbols.Semicolon q ∷ k)) ≡ path_text other (sign_at symbols.Swap p' ∷ path_text back (sign_at symbols.Semicolon q' ∷ l))
    → OneSwap left other p p' right back q q' k l
swap-same left other p p' right back q q' k l e =
    let first = path-same left other (sign_at symbols.Swap p ∷ path_text right (sign_at symbols.Semicolon q ∷ k)) (sign_at symbols.Swap p' ∷ path_text back (sign_at symbols.Semicolon q' ∷ l)) refl refl e in
    let sign = same first.1 in
    let second = path-same right back (sign_at symbols.Semicolon q ∷ k) (sign_at symbols.Semicolon q' ∷ l) refl refl sign.rest in
    let last = same second.1 in
    record { first = first.0; sign = sign.at; second = second.0; end = last.at; rest = last.rest }

-- a `let` in either direction
let-same : (form : Pos → Pos → List ℕ → Pos → RhsForm → Pos → StmtForm) {arrow : Symbol} (p p' n n' : Pos) (x y : List ℕ) (q q' : Pos) (rhs rhs' : RhsForm) (r r' : Pos) (k l : List Lexed)
    → sign_at symbols.Let p ∷ name_at x n ∷ sign_at arrow q ∷ rhs_text rhs (sign_at symbols.Semicolon r ∷ k) ≡ sign_at symbols.Let p' ∷ name_at y n' ∷ sign_at arrow q' ∷ rhs_text rhs' (sign_at symbols.Semicolon r' ∷ l)
    → (form p n x q rhs r ≡ form p' n' y q' rhs' r') × (k ≡ l)
let-same form p p' n n' x y q q' rhs rhs' r r' k l e =
    let first = same e in
    let name = same first.rest in
    let arrow = same name.rest in
    let h = rhs-same rhs rhs' (sign_at symbols.Semicolon r ∷ k) (sign_at symbols.Semicolon r' ∷ l) (semicolon-ends r k) (semicolon-ends r' l) arrow.rest in
    let last = same h.1 in
    (cc (first.at, name.at, name-same name.lexeme, arrow.at, h.0, last.at), last.rest)

mutual
  pub stmt-same : (c d : StmtForm) (k l : List Lexed) → Lacks symbols.Else k → Lacks symbols.Else l → stmt_text c k ≡ stmt_text d l → (c ≡ d) × (k ≡ l)
  stmt-same (StmtForm.Let p n x q rhs r) (StmtForm.Let p' n' y q' rhs' r') k l hk hl e = let-same StmtForm.Let p p' n n' x y q q' rhs rhs' r r' k l e
  stmt-same (StmtForm.Unlet p n x q rhs r) (StmtForm.Unlet p' n' y q' rhs' r') k l hk hl e = let-same StmtForm.Unlet p p' n n' x y q q' rhs rhs' r r' k l e
  stmt-same (StmtForm.Let p n x q rhs r) (StmtForm.Unlet p' n' y q' rhs' r') k l hk hl e = absurd (cc ((same (same (same e).rest).rest).lexeme))
  stmt-same (StmtForm.Unlet p n x q rhs r) (StmtForm.Let p' n' y q' rhs' r') k l hk hl e = absurd (cc ((same (same (same e).rest).rest).lexeme))
  stmt-same (StmtForm.Swap left p right q) (StmtForm.Swap other p' back q') k l hk hl e =
      let h = swap-same left other p p' right back q q' k l e in
      (cc (h.first, h.sign, h.second, h.end), h.rest)
  stmt-same (StmtForm.MemSwap s left p right q) (StmtForm.MemSwap s' other p' back q') k l hk hl e =
      let star = same e in
      let h = swap-same left other p p' right back q q' k l star.rest in
      (cc (star.at, h.first, h.sign, h.second, h.end), h.rest)
  stmt-same (StmtForm.If p cond body) (StmtForm.If p' other body') k l hk hl e =
      let first = same e in
      let path = path-same cond other (block_text body k) (block_text body' l) (block-no_step body k) (block-no_step body' l) first.rest in
      let block = block-same body body' k l path.1 in
      (cc (first.at, path.0, block.0), block.1)
  stmt-same (StmtForm.IfElse p cond body q block) (StmtForm.IfElse p' other body' q' block') k l hk hl e =
      let first = same e in
      let path = path-same cond other (block_text body (sign_at symbols.Else q ∷ block_text block k)) (block_text body' (sign_at symbols.Else q' ∷ block_text block' l)) (block-no_step body _) (block-no_step body' _) first.rest in
      let one = block-same body body' (sign_at symbols.Else q ∷ block_text block k) (sign_at symbols.Else q' ∷ block_text block' l) path.1 in
      let other_wise = same one.1 in
      let two = block-same block block' k l other_wise.rest in
      (cc (first.at, path.0, one.0, other_wise.at, two.0), two.1)
  stmt-same (StmtForm.If p cond body) (StmtForm.IfElse p' other body' q' block') k l hk hl e =
      let path = path-same cond other (block_text body k) (block_text body' (sign_at symbols.Else q' ∷ block_text block' l)) (block-no_step body k) (block-no_step body' _) (same e).rest in
      let block = block-same body body' k (sign_at symbols.Else q' ∷ block_text block' l) path.1 in
      absurd (begins symbols.Else q' k (block_text block' l) hk refl block.1)
  stmt-same (StmtForm.IfElse p cond body q block) (StmtForm.If p' other body') k l hk hl e =
      let path = path-same cond other (block_text body (sign_at symbols.Else q ∷ block_text block k)) (block_text body' l) (block-no_step body _) (block-no_step body' l) (same e).rest in
      let one = block-same body body' (sign_at symbols.Else q ∷ block_text block k) l path.1 in
      absurd (begins symbols.Else q l (block_text block k) hl refl (sym one.1))
  stmt-same (StmtForm.With p setup q work) (StmtForm.With p' setup' q' work') k l hk hl e =
      let first = same e in
      let one = block-same setup setup' (sign_at symbols.Do q ∷ block_text work k) (sign_at symbols.Do q' ∷ block_text work' l) first.rest in
      let middle = same one.1 in
      let two = block-same work work' k l middle.rest in
      (cc (first.at, one.0, middle.at, two.0), two.1)
  stmt-same (StmtForm.Block (BlockForm.Braces p stmts q)) (StmtForm.Block (BlockForm.Braces p' stmts' q')) k l hk hl e =
      let first = same e in
      let h = stmts-same stmts stmts' (sign_at symbols.CloseBrace q ∷ k) (sign_at symbols.CloseBrace q' ∷ l) (close-ends q k) (close-ends q' l) first.rest in
      let last = same h.1 in
      (cc (first.at, h.0, last.at), last.rest)
  stmt-same (StmtForm.Skip p q) (StmtForm.Skip p' q') k l hk hl e =
      let first = same e in
      let last = same first.rest in
      (cc (first.at, last.at), last.rest)
  stmt-same (StmtForm.Block (BlockForm.Braces p stmts q)) d k l hk hl e = absurd (cc ((same e).lexeme))
  stmt-same c (StmtForm.Block (BlockForm.Braces p stmts q)) k l hk hl e = absurd (cc ((same e).lexeme))
  stmt-same c d k l hk hl e = absurd (cc ((same e).lexeme))

  pub block-same : (c d : BlockForm) (k l : List Lexed) → block_text c k ≡ block_text d l → (c ≡ d) × (k ≡ l)
  block-same (BlockForm.Braces p stmts q) (BlockForm.Braces p' stmts' q') k l e =
      let first = same e in
      let h = stmts-same stmts stmts' (sign_at symbols.CloseBrace q ∷ k) (sign_at symbols.CloseBrace q' ∷ l) (close-ends q k) (close-ends q' l) first.rest in
      let last = same h.1 in
      (cc (first.at, h.0, last.at), last.rest)

  pub stmts-same : (c d : StmtsForm) (k l : List Lexed) → EndsStmts k → EndsStmts l → stmts_text c k ≡ stmts_text d l → (c ≡ d) × (k ≡ l)
  stmts-same StmtsForm.NoStmts StmtsForm.NoStmts k l hk hl e = (refl, e)
  stmts-same StmtsForm.NoStmts (StmtsForm.Stmts first rest) k l hk hl e = absurd (hk.no_stmt first (stmts_text rest l) e)
  stmts-same (StmtsForm.Stmts first rest) StmtsForm.NoStmts k l hk hl e = absurd (hl.no_stmt first (stmts_text rest k) (sym e))
  stmts-same (StmtsForm.Stmts first rest) (StmtsForm.Stmts other others) k l hk hl e =
      let one = stmt-same first other (stmts_text rest k) (stmts_text others l) (stmts-no_else rest k hk.no_else) (stmts-no_else others l hl.no_else) e in
      let h = stmts-same rest others k l hk hl one.1 in
      (cc (one.0, h.0), h.1)
