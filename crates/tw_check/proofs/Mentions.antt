-- A statement changes the liveness only of names that it mentions, and of each independently of the others.
use Rattle.std.proofs.Common.{◌≡◌, refl, ap, sym, ◌∙◌, ℕ, Bool, true, false, if◌then◌else◌, List, ◌++◌, bytes_eq, Decides}
use mathlib.Core.Bool.{beq}
use Rattle.std.proofs.lemmas.Bool.{or_parts}
use Rattle.tw_resolve.proofs.Each.{each_weaker}
use Rattle.tw_syntax.specs.Statements.{StmtTree, Nothing, Then, Else, LetStmt, SwapStmt, MemSwapStmt, IfStmt, WithStmt, BlockStmt, SkipStmt}
use Rattle.tw_resolve.proofs.Texts.{bytes_eq-sym}
use Rattle.tw_check.specs.Names.{Names, is_one_of, agree_on}
use Rattle.tw_check.specs.Liveness.{rhs_names, texts, names_of, live_after}
use Rattle.tw_check.specs.Right.{Right}
use Rattle.tw_check.proofs.NameSets.{Agree, same_if_agree, same-Decides, off-append, with_name-other}
use Rattle.tw_check.proofs.Ends.{right_ends}

pub others_stay : (forward : Bool) (s : StmtTree) (live : Names) (name : List ℕ) → is_one_of name (names_of s) ≡ false → live_after forward s live name ≡ live name
others_stay forward Nothing live name off = refl
others_stay true (Then first rest) live name off =
    let parts = off-append name (names_of first) (names_of rest) off in
    others_stay true rest (live_after true first live) name parts.1 ∙ others_stay true first live name parts.0
others_stay false (Then first rest) live name off =
    let parts = off-append name (names_of first) (names_of rest) off in
    others_stay false first (live_after false rest live) name parts.0 ∙ others_stay false rest live name parts.1
others_stay forward (Else at stmts) live name off = others_stay forward stmts live name off
others_stay forward (LetStmt at assigns target rhs) live name off =
    with_name-other live target.text name (beq forward assigns)
    (bytes_eq-sym target.text name ∙ (or_parts (bytes_eq name target.text) (is_one_of name (texts (rhs_names rhs))) off).0)
others_stay forward (SwapStmt at left right) live name off = refl
others_stay forward (MemSwapStmt at pointer value) live name off = refl
others_stay forward (IfStmt at cond first other) live name off =
    let rest = (or_parts (bytes_eq name cond.root.text) _ off).1 in
    others_stay forward first live name ((off-append name (names_of first) (names_of other) rest).0)
others_stay forward (WithStmt at setup work) live name off =
    let parts = off-append name (names_of setup) (names_of work) off in
    let ready = live_after true setup live in
    others_stay false setup (live_after forward work ready) name parts.0
    ∙ others_stay forward work ready name parts.1
    ∙ others_stay true setup live name parts.0
others_stay forward (BlockStmt at body) live name off = others_stay forward body live name off
others_stay forward (SkipStmt at) live name off = refl

-- whether a name is live after a statement depends only on whether it was live before
pub live_after-at : (forward : Bool) (s : StmtTree) (x y : Names) (name : List ℕ) → x name ≡ y name → live_after forward s x name ≡ live_after forward s y name
live_after-at forward Nothing x y name same = same
live_after-at true (Then first rest) x y name same =
    live_after-at true rest (live_after true first x) (live_after true first y) name (live_after-at true first x y name same)
live_after-at false (Then first rest) x y name same =
    live_after-at false first (live_after false rest x) (live_after false rest y) name (live_after-at false rest x y name same)
live_after-at forward (Else at stmts) x y name same = live_after-at forward stmts x y name same
live_after-at forward (LetStmt at assigns target rhs) x y name same =
    ap (λ is_in. if bytes_eq target.text name then beq forward assigns else is_in) same
live_after-at forward (SwapStmt at left right) x y name same = same
live_after-at forward (MemSwapStmt at pointer value) x y name same = same
live_after-at forward (IfStmt at cond first other) x y name same = live_after-at forward first x y name same
live_after-at forward (WithStmt at setup work) x y name same =
    let ready_x = live_after true setup x in
    let ready_y = live_after true setup y in
    live_after-at false setup (live_after forward work ready_x) (live_after forward work ready_y) name
    (live_after-at forward work ready_x ready_y name (live_after-at true setup x y name same))
live_after-at forward (BlockStmt at body) x y name same = live_after-at forward body x y name same
live_after-at forward (SkipStmt at) x y name same = same

-- off the names of two branches, both end alike
branches_off : (first other : StmtTree) (live : Names) (name : List ℕ) → is_one_of name (names_of first ++ names_of other) ≡ false → live_after true first live name ≡ live_after true other live name
branches_off first other live name off =
    let parts = off-append name (names_of first) (names_of other) off in
    others_stay true first live name parts.0 ∙ sym (others_stay true other live name parts.1)

pub branches_alike : (first other : StmtTree) (live : Names) → Agree (names_of first ++ names_of other) (live_after true first live) (live_after true other live) → live_after true first live ≡ live_after true other live
branches_alike first other live agree =
    same_if_agree (names_of first ++ names_of other) (live_after true first live) (live_after true other live) agree (branches_off first other live)

-- the test of `BranchesDiffer`: the branches end with the same live names
pub branches_alike-Decides : (first other : StmtTree) (live : Names) → Decides (agree_on (names_of first ++ names_of other) (live_after true first live) (live_after true other live)) (live_after true first live ≡ live_after true other live)
branches_alike-Decides first other live =
    same-Decides (names_of first ++ names_of other) (live_after true first live) (live_after true other live) (branches_off first other live)

-- a right statement keeps the liveness of a name that it does not mention
pub right_stays : {held : Names} {s : StmtTree} {before after : Names} → Right held s before after → (name : List ℕ) → is_one_of name (names_of s) ≡ false → after name ≡ before name
right_stays {s = s} {before = before} right name off = sym (ap (λ (live : Names). live name) (right_ends right)) ∙ others_stay true s before name off

pub agree_after : {held : Names} {s : StmtTree} {x y : Names} → Right held s x y → (z : Names) (names : List (List ℕ)) → Agree names x z → Agree names y (live_after true s z)
agree_after {s = s} {x = x} {y = y} right z names agree =
    each_weaker (λ name. x name ≡ z name) (λ name. y name ≡ live_after true s z name)
    (λ name same. sym (ap (λ (live : Names). live name) (right_ends right)) ∙ live_after-at true s x z name same) names agree
