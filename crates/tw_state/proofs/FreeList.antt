-- Well-formed states lead to well-formed states: the free list passes each free block once.
use Rattle.std.proofs.Common.{◌≡◌, ◌≢◌, ◌∙◌, ◌+◌, ◌==◌, cond, refl, sym, ap, subst, subst₂, arith, true≢false, ℕ, List, [], ◌∷◌, count_by, Some}
use Rattle.std.specs.List.{AllByRecursion}
use Rattle.std.proofs.lemmas.Option.{none-some}
use Rattle.std.proofs.lemmas.Bool.Decides.{Decides-eqb}
use Rattle.std.proofs.lemmas.List.Sums.{sum_by-cons}
use Rattle.tw_syntax.specs.Statements.{StmtTree}
use Rattle.tw_types.specs.Values.{Value}
use Rattle.tw_resolve.specs.Setting.{Setting}
use Rattle.tw_state.specs.States.{Name, Cell, Free, Live, State, cell_at, with_cell, Links, IsWellFormed}
use Rattle.tw_state.specs.Steps.{Activation, Adds, Takes}
use Rattle.tw_state.specs.Semantics.{Runs, RunsNothing, RunsSkip, RunsThen, RunsBlock, RunsLet, RunsUnlet, RunsSwap, RunsMemSwapNull, RunsMemSwap, RunsIf, RunsIfElse, RunsIfNot, RunsWith, RunsCall, RunsUncall, RunsCallZero, RunsUncallZero, RunsAlloc, RunsAllocNone, RunsFree, RunsFreeNone}
use Rattle.tw_state.proofs.Basics.{some_value, by_test}
use Rattle.tw_state.proofs.Blocks.{cell_put, cell_other, same_link}
use Rattle.tw_state.proofs.SingleSteps.{not_live_and_free, taken_from}

-- how often a chain passes a block
abbrev passes : ℕ → List ℕ → ℕ
passes block chain = count_by (λ passed. passed == block) chain

-- cases: two blocks are the same, or not
pub by_block : {P : Type 0} (x y : ℕ) → (x ≡ y → P) → (x ≢ y → P) → P
by_block x y same differ =
    by_test (x == y) (λ test. same ((Decides-eqb x y).0 test))
    (λ test. differ (λ is. absurd (true≢false (sym ((Decides-eqb x y).1 is) ∙ test))))

pass_same : (block : ℕ) (chain : List ℕ) → passes block (block ∷ chain) ≡ 1 + passes block chain
pass_same block chain =
    sum_by-cons (λ passed. cond (passed == block) 1 0) block chain
    ∙ ap (λ k. cond k 1 0 + passes block chain) ((Decides-eqb block block).1 refl)

pass_other : (block passed : ℕ) (chain : List ℕ) → passed ≢ block → passes block (passed ∷ chain) ≡ passes block chain
pass_other block passed chain differ =
    sum_by-cons (λ other. cond (other == block) 1 0) passed chain
    ∙ by_test (passed == block) (λ test. absurd (differ ((Decides-eqb passed block).0 test)))
    (λ test. ap (λ k. cond k 1 0 + passes block chain) test ∙ omega arith)

-- the chain does not pass the block
abbrev pub IsApart : ℕ → List ℕ → Type 0
IsApart block chain = AllByRecursion (λ passed. passed ≢ block) chain

apart_if_none : (block : ℕ) (chain : List ℕ) → passes block chain ≡ 0 → IsApart block chain
apart_if_none block [] none = tt
apart_if_none block (passed ∷ chain) none =
    let deeper = apart_if_none block chain in
    by_block passed block
    (λ same. absurd (let more = pass_same block chain in let here = subst (λ b. passes block (b ∷ chain) ≡ 0) same none in omega (arith, more, here)))
    (λ differ. (differ, deeper (sym (pass_other block passed chain differ) ∙ none)))

none_if_apart : (block : ℕ) (chain : List ℕ) → IsApart block chain → passes block chain ≡ 0
none_if_apart block [] apart = refl
none_if_apart block (passed ∷ chain) apart = pass_other block passed chain apart.0 ∙ none_if_apart block chain apart.1

-- links past other blocks stay
links_kept : (cells : List Cell) (block : ℕ) (cell : Cell) (address : ℕ) (chain : List ℕ) → IsApart block chain → Links cells address chain → Links (with_cell cells block cell) address chain
links_kept cells block cell address [] apart links = links
links_kept cells block cell address (passed ∷ chain) apart links =
    (links.0, (links.1.0, cell_other cells block passed cell (λ same. apart.0 (sym same)) ∙ links.1.1, links_kept cells block cell links.1.0 chain apart.1 links.1.2))

-- the chain passes no live block
live_apart : (cells : List Cell) (block target : ℕ) (value : Value) (address : ℕ) (chain : List ℕ) → cell_at cells block ≡ Some (Live target value) → Links cells address chain → IsApart block chain
live_apart cells block target value address [] live links = tt
live_apart cells block target value address (passed ∷ chain) live links =
    ((λ same. not_live_and_free links.1.1 (ap (cell_at cells) same ∙ live)), live_apart cells block target value links.1.0 chain live links.1.2)

-- each free block is passed once
abbrev IsOnce : List Cell → List ℕ → Type 0
IsOnce cells chain = (block next : ℕ) → cell_at cells block ≡ Some (Free next) → passes block chain ≡ 1

-- another block than the live one that was put there
other_free : (cells : List Cell) (block target : ℕ) (value : Value) (old : Cell) → cell_at cells block ≡ Some old → (other next : ℕ) → cell_at (with_cell cells block (Live target value)) other ≡ Some (Free next) → block ≢ other
other_free cells block target value old found other next free same =
    not_live_and_free free (ap (cell_at (with_cell cells block (Live target value))) (sym same) ∙ cell_put cells block (Live target value) old found)

-- states of the same memory
pub formed_same : {old new : State} → old.head ≡ new.head → old.cells ≡ new.cells → IsWellFormed old → IsWellFormed new
formed_same {old} {new} head cells formed = record {
  chain = formed.chain;
  links = subst₂ (λ c h. Links c h formed.chain) cells head formed.links;
  once = subst (λ c. IsOnce c formed.chain) cells formed.once;
}

-- the value of a live block changes
formed_live : {old : State} (block target other : ℕ) (x y : Value) → cell_at old.cells block ≡ Some (Live target x) → IsWellFormed old → IsWellFormed (record old { cells = with_cell old.cells block (Live other y) })
formed_live {old} block target other x y live formed = record {
  chain = formed.chain;
  links = links_kept old.cells block (Live other y) old.head formed.chain (live_apart old.cells block target x old.head formed.chain live formed.links) formed.links;
  once = λ b next free.
      let differ = other_free old.cells block other y (Live target x) live b next free in
      formed.once b next (sym (cell_other old.cells block b (Live other y) differ) ∙ free);
}

module _ (setting : Setting) where
  formed_taken : {to : _} {block : ℕ} {old new : State} → Takes setting to block old new → IsWellFormed old → IsWellFormed new
  formed_taken {to} {block} {old} {new} t formed = by formed.chain formed.links formed.once
    where
      made : (chain : List ℕ) → Links old.cells t.next chain → IsOnce old.cells (block ∷ chain) → IsWellFormed (record old { head = t.next; cells = with_cell old.cells block (Live t.target t.cleared) })
      made chain links once = record {
        chain = chain;
        links = links_kept old.cells block (Live t.target t.cleared) t.next chain
            (apart_if_none block chain (let more = pass_same block chain in let one = once block t.next t.is_free in omega (arith, more, one))) links;
        once = λ b next free.
            let differ = other_free old.cells block t.target t.cleared (Free t.next) t.is_free b next free in
            sym (pass_other b block chain differ) ∙ once b next (sym (cell_other old.cells block b (Live t.target t.cleared) differ) ∙ free);
      }

      by : (chain : List ℕ) → Links old.cells old.head chain → IsOnce old.cells chain → IsWellFormed new
      by [] links once = absurd (none-some (Free t.next) (ap (cell_at old.cells) (sym links ∙ t.first) ∙ t.is_free))
      by (passed ∷ chain) links once =
          let same : passed ≡ block = sym links.0 ∙ t.first in
          let next = same_link (some_value (sym links.1.1 ∙ (ap (cell_at old.cells) same ∙ t.is_free))) in
          subst IsWellFormed (sym t.after)
          (made chain (subst (λ n. Links old.cells n chain) next links.1.2) (subst (λ b. IsOnce old.cells (b ∷ chain)) same once))

  formed_freed : {to : _} {block : ℕ} {old new : State} → Takes setting to block old new → IsWellFormed new → IsWellFormed old
  formed_freed {to} {block} {old} {new} t formed =
      let live : cell_at new.cells block ≡ Some (Live t.target t.cleared) = ap (λ (s : State). cell_at s.cells block) t.after ∙ cell_put old.cells block (Live t.target t.cleared) (Free t.next) t.is_free in
      let apart = live_apart new.cells block t.target t.cleared new.head formed.chain live formed.links in
      subst IsWellFormed (sym (taken_from t)) (record {
        chain = block ∷ formed.chain;
        links = (refl, (new.head, cell_put new.cells block (Free new.head) (Live t.target t.cleared) live, links_kept new.cells block (Free new.head) new.head formed.chain apart formed.links));
        once = λ b next free.
            by_block block b
            (λ same. subst (λ c. passes c (block ∷ formed.chain) ≡ 1) same
            (pass_same block formed.chain ∙ ap (λ n. 1 + n) (none_if_apart block formed.chain apart)))
            (λ differ. pass_other b block formed.chain differ ∙ formed.once b next (sym (cell_other new.cells block b (Free new.head) differ) ∙ free));
      })

  formed_added : {name : Name} {value : Value} {bare full : State} → Adds name value bare full → IsWellFormed bare → IsWellFormed full
  formed_added adds formed = formed_same (sym (ap (λ (s : State). s.head) adds.after)) (sym (ap (λ (s : State). s.cells) adds.after)) formed

  formed_removed : {name : Name} {value : Value} {bare full : State} → Adds name value bare full → IsWellFormed full → IsWellFormed bare
  formed_removed adds formed = formed_same (ap (λ (s : State). s.head) adds.after) (ap (λ (s : State). s.cells) adds.after) formed

  -- a statement keeps a state well-formed
  pub formed_after : {act : Activation} {s : StmtTree} {x y : State} → Runs setting act s x y → IsWellFormed x → IsWellFormed y
  formed_after RunsNothing formed = formed
  formed_after RunsSkip formed = formed
  formed_after (RunsThen a b) formed = formed_after b (formed_after a formed)
  formed_after (RunsBlock a) formed = formed_after a formed
  formed_after (RunsLet v e a) formed = formed_added a formed
  formed_after (RunsUnlet v e a) formed = formed_removed a formed
  formed_after (RunsSwap a) formed = formed_same (sym (ap (λ (s : State). s.head) a.after)) (sym (ap (λ (s : State). s.cells) a.after)) formed
  formed_after (RunsMemSwapNull a) formed = formed
  formed_after (RunsMemSwap {old = old} a) formed =
      formed_same (sym (ap (λ (s : State). s.head) a.after)) (sym (ap (λ (s : State). s.cells) a.after)) (formed_live a.block a.target a.target a.x a.y a.in_cell formed)
  formed_after (RunsIf p a q) formed = formed_after a formed
  formed_after (RunsIfElse p a q) formed = formed_after a formed
  formed_after (RunsIfNot p a q) formed = formed_same a.head a.cells formed
  formed_after (RunsWith a b c) formed = formed_after c (formed_after b (formed_after a formed))
  formed_after (RunsCall fun n named bound absent body keeps) formed = formed_same refl refl (formed_after body (formed_same refl refl formed))
  formed_after (RunsUncall fun n named bound absent body keeps) formed = formed_same refl refl (formed_after body (formed_same refl refl formed))
  formed_after (RunsCallZero fun v named bound cleared adds) formed = formed_added adds formed
  formed_after (RunsUncallZero fun v named bound cleared adds) formed = formed_removed adds formed
  formed_after (RunsAlloc block t a) formed = formed_added a (formed_taken t formed)
  formed_after (RunsAllocNone none a) formed = formed_added a formed
  formed_after (RunsFree block a t) formed = formed_freed t (formed_removed a formed)
  formed_after (RunsFreeNone none a) formed = formed_removed a formed
