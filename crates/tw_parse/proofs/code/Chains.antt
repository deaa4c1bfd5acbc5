-- The tree of statements as the chain of their trees.
use Rattle.std.proofs.Common.{◌≡◌, List, [], ◌∷◌, map, refl, ap}
use Rattle.tw_syntax.specs.declared.statement.Stmt.{Stmt}
use Rattle.tw_syntax.specs.Statements.{Then, stmt_tree, stmts_tree}
use Rattle.tw_parse.specs.reading.Statements.{chain}

pub stmts_tree-chain : (stmts : List Stmt) → stmts_tree stmts ≡ chain (map stmt_tree stmts)
stmts_tree-chain [] = refl
stmts_tree-chain (x ∷ xs) = ap (Then (stmt_tree x)) (stmts_tree-chain xs)

-- the same under a name that attributes can cite
pub ruleset chains = stmts_tree-chain
