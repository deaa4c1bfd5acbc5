-- Whether single statements have a result or are stuck, from typed and well-formed states.
use Rattle.std.proofs.Common.{◌≡◌, ◌≢◌, ◌∙◌, ◌≤◌, refl, sym, ap, subst, ℕ, Bool, true, false, not, List, [], ◌∷◌, Option, Some, None, is_some, option_map, option_and_then}
use Rattle.std.specs.List.{AllByRecursion}
use Rattle.std.proofs.lemmas.Option.{none-some}
use Rattle.tw_text.specs.declared.place.Pos.{Pos}
use Rattle.tw_syntax.specs.Names.{NameTree, PathTree}
use Rattle.tw_syntax.specs.Statements.{StmtTree, Nothing, Then, Else, LetStmt, SwapStmt, MemSwapStmt, IfStmt, WithStmt, BlockStmt}
use Rattle.tw_syntax.specs.Terms.{ExprRhs, AllocRhs, ExprTree}
use Rattle.tw_syntax.specs.Types.{WrittenTree}
use Rattle.tw_types.specs.Types.{Widths, Ty, Boolean, Pointer, block_count}
use Rattle.tw_types.specs.Values.{Value, UnitValue, Number, Truth, Address, PairValue, HasType, zero_value}
use Rattle.tw_resolve.specs.Expressions.{Types, type_at_path}
use Rattle.tw_resolve.specs.Setting.{Setting}
use Rattle.tw_check.specs.Names.{Names}
use Rattle.tw_check.specs.Liveness.{expr_names, live_after}
use Rattle.tw_check.specs.Right.{overlap}
use Rattle.tw_check.specs.Reverse.{reverse_of}
use Rattle.tw_state.specs.States.{Name, Cell, Free, Live, Store, State, with_value, without, IsWellFormed, Links, cell_at, with_cell}
use Rattle.tw_state.specs.Parts.{part_of, value_at, with_value_at}
use Rattle.tw_state.specs.Steps.{Activation, live_names, Adds, Takes}
use Rattle.tw_state.specs.Semantics.{Runs, RunsThen, RunsBlock, RunsLet, RunsUnlet, RunsSwap, RunsMemSwapNull, RunsMemSwap, RunsIf, RunsIfElse, RunsIfNot, RunsWith, RunsAlloc, RunsAllocNone, RunsFree, RunsFreeNone}
use Rattle.tw_state.specs.Stuck.{Reason, Unmet, Wild, Dirty, Pad, IsNotLive, Sticks, StuckFirst, StuckRest, StuckBlock, StuckUnlet, StuckMemSwap, StuckIf, StuckIfElse, StuckPad, StuckSetup, StuckWork, StuckUndo, StuckFreeNull, StuckFreeWild, StuckFreeDirty}
use Rattle.tw_state.specs.Results.{IsTypedIn}
use Rattle.tw_state.proofs.Basics.{some_value, by_option, contradiction}
use Rattle.tw_state.proofs.Blocks.{cell_put, cell_twice, cell_back}
use Rattle.tw_state.proofs.SingleSteps.{same_state, not_live_and_free}
use Rattle.tw_state.proofs.FreeList.{by_block}
use Rattle.tw_state.proofs.TypedTrees.{ExprFits, AllocFits, StmtFits}
use Rattle.tw_state.proofs.TypedValues.{StoreFits, path_typed, expr_evaluates}
use Rattle.tw_state.proofs.TypedRuns.{typed_removed, added_typed}
use Rattle.tw_state.proofs.Deciding.{by_value, adds_without, Padding, CanPad, CannotPad, padding}

-- from this state the statement has a result, or is stuck
pub data Ends (setting : Setting) (act : Activation) (s : StmtTree) (x : State) : Type 0 where
  HasEnd : (y : State) → Runs setting act s x y → Ends setting act s x
  IsStuck : (reason : Reason) (place : Pos) → Sticks setting act s x reason place → Ends setting act s x

-- the value of a typed path whose root is live
pub record ValueThere (widths : Widths) (o : Option Value) (ty : Ty) : Type 0 where
  pub value : Value
  pub is : o ≡ Some value
  pub typed : HasType widths value ty

pub live_value : (store : Store) (live : Names) (name : Name) → live_names store ≡ live → live name ≡ true → (value : Value) × (store name ≡ Some value)
live_value store live name same is =
    by_option (store name) (λ none. contradiction {test = true} refl (sym is ∙ ap (λ (l : Names). l name) (sym same) ∙ ap is_some none)) (λ value found. (value, found))

pub dead_value : (store : Store) (live : Names) (name : Name) → live_names store ≡ live → live name ≡ false → store name ≡ None
dead_value store live name same is =
    by_option (store name) (λ none. none) (λ value found. contradiction {test = true} refl (sym (ap is_some found) ∙ ap (λ (l : Names). l name) same ∙ is))

pub path_there : (widths : Widths) (types : Types) (store : Store) → StoreFits widths types store → (path : PathTree) (ty : Ty) → type_at_path types path ≡ Some ty → (whole : Value) → store path.root.text ≡ Some whole → ValueThere widths (value_at store path) ty
path_there widths types store fits path ty typed whole is =
    let p = path_typed widths types store fits path ty whole is typed in
    record { value = p.part; is = ap (option_and_then (part_of path.steps)) is ∙ p.is; typed = p.typed }

-- values of pointers and of truth values
as_address : {P : Type 0} (widths : Widths) (value : Value) (target : ℕ) → HasType widths value (Pointer target) → ((block : ℕ) → value ≡ Address block → block ≤ block_count widths → P) → P
as_address widths (Address block) target typed go = go block refl typed
as_address widths UnitValue target typed go = absurd typed
as_address widths (Number n) target typed go = absurd typed
as_address widths (Truth k) target typed go = absurd typed
as_address widths (PairValue x y) target typed go = absurd typed

as_truth : {P : Type 0} (widths : Widths) (value : Value) → HasType widths value Boolean → (value ≡ Truth true → P) → (value ≡ Truth false → P) → P
as_truth widths (Truth true) typed is not = is refl
as_truth widths (Truth false) typed is not = not refl
as_truth widths UnitValue typed is not = absurd typed
as_truth widths (Number n) typed is not = absurd typed
as_truth widths (Address k) typed is not = absurd typed
as_truth widths (PairValue x y) typed is not = absurd typed

-- a block has a cell, which is live with this target, or not
live_or_not : {P : Type 0} (state : State) (block target : ℕ) → ((value : Value) → cell_at state.cells block ≡ Some (Live target value) → P) → (IsNotLive state block target → P) → P
live_or_not {P} state block target live wild = by (cell_at state.cells block) refl
  where
    of_live : Cell → ℕ
    of_live (Free next) = 0
    of_live (Live number value) = number

    is_live : Cell → Bool
    is_live (Free next) = false
    is_live (Live number value) = true

    by : (o : Option Cell) → cell_at state.cells block ≡ o → P
    by None e = wild (λ value is. none-some (Live target value) (sym e ∙ is))
    by (Some (Free next)) e = wild (λ value is. not_live_and_free e is)
    by (Some (Live number value)) e =
        by_block number target (λ same. live value (e ∙ ap (λ n. Some (Live n value)) same))
        (λ differ. wild (λ other is. differ (ap of_live (some_value (sym e ∙ is)))))

-- the first free block of a well-formed state
head_free : (x : State) → IsWellFormed x → x.head ≢ 0 → (next : ℕ) × (cell_at x.cells x.head ≡ Some (Free next))
head_free x formed some = by formed.chain formed.links
  where
    by : (chain : List ℕ) → Links x.cells x.head chain → (next : ℕ) × (cell_at x.cells x.head ≡ Some (Free next))
    by [] links = absurd (some links)
    by (block ∷ chain) links = (links.1.0, ap (cell_at x.cells) links.0 ∙ links.1.1)

-- a cleared live block is taken from the state in which it is free
free_takes : {setting : Setting} {to : WrittenTree} {ty : Ty} (fits : AllocFits setting to ty) (taken : State) (block : ℕ) → cell_at taken.cells block ≡ Some (Live fits.target (zero_value fits.content))
    → Takes setting to block (record taken { head = block; cells = with_cell taken.cells block (Free taken.head) }) taken
free_takes {setting} {to} {ty} fits taken block live = record {
  target = fits.target;
  cleared = zero_value fits.content;
  next = taken.head;
  numbered = fits.numbered;
  is_zero = ap (option_map zero_value) fits.denotes;
  first = refl;
  is_free = cell_put taken.cells block (Free taken.head) (Live fits.target (zero_value fits.content)) live;
  after = same_state refl
      (sym (cell_twice taken.cells block (Free taken.head) (Live fits.target (zero_value fits.content)) ∙ cell_back taken.cells block (Live fits.target (zero_value fits.content)) live)) refl;
}

module _ (setting : Setting) (act : Activation) where
  -- statements in order, and the parts of statements
  pub then_ends : {first rest : StmtTree} {x : State} → Ends setting act first x → ((y : State) → Runs setting act first x y → Ends setting act rest y) → Ends setting act (Then first rest) x
  then_ends {first} {rest} {x} (HasEnd y runs) next = by (next y runs)
    where
      by : Ends setting act rest y → Ends setting act (Then first rest) x
      by (HasEnd z more) = HasEnd z (RunsThen runs more)
      by (IsStuck reason place stuck) = IsStuck reason place (StuckRest runs stuck)
  then_ends (IsStuck reason place stuck) next = IsStuck reason place (StuckFirst stuck)

  pub block_ends : {at : Pos} {body : StmtTree} {x : State} → Ends setting act body x → Ends setting act (BlockStmt at body) x
  block_ends (HasEnd y runs) = HasEnd y (RunsBlock runs)
  block_ends (IsStuck reason place stuck) = IsStuck reason place (StuckBlock stuck)

  pub with_ends : {at : Pos} {setup work : StmtTree} {x : State} → Ends setting act setup x → ((y : State) → Runs setting act setup x y → Ends setting act work y)
      → ((y z : State) → Runs setting act setup x y → Runs setting act work y z → Ends setting act (reverse_of setup) z) → Ends setting act (WithStmt at setup work) x
  with_ends {at} {setup} {work} {x} (HasEnd y runs) next last = by (next y runs) (last y)
    where
      at_last : (z : State) → Runs setting act work y z → Ends setting act (reverse_of setup) z → Ends setting act (WithStmt at setup work) x
      at_last z more (HasEnd end undo) = HasEnd end (RunsWith runs more undo)
      at_last z more (IsStuck reason place stuck) = IsStuck reason place (StuckUndo runs more stuck)

      by : Ends setting act work y → ((z : State) → Runs setting act setup x y → Runs setting act work y z → Ends setting act (reverse_of setup) z) → Ends setting act (WithStmt at setup work) x
      by (HasEnd z more) last = at_last z more (last z runs more)
      by (IsStuck reason place stuck) last = IsStuck reason place (StuckWork runs stuck)
  with_ends (IsStuck reason place stuck) next last = IsStuck reason place (StuckSetup stuck)

  -- a branch that is taken, if the condition stays
  pub taken_ends : {at : Pos} {cond : PathTree} {first other : StmtTree} {x : State} → value_at x.store cond ≡ Some (Truth true) → ((y : State) → Runs setting act first x y → value_at y.store cond ≡ value_at x.store cond)
      → Ends setting act first x → Ends setting act (IfStmt at cond first other) x
  taken_ends is stays (HasEnd y runs) = HasEnd y (RunsIf is runs (stays y runs ∙ is))
  taken_ends is stays (IsStuck reason place stuck) = IsStuck reason place (StuckIf is stuck)

  pub else_ends : {at else_at : Pos} {cond : PathTree} {first other : StmtTree} {x : State} → value_at x.store cond ≡ Some (Truth false) → ((y : State) → Runs setting act other x y → value_at y.store cond ≡ value_at x.store cond)
      → Ends setting act other x → Ends setting act (IfStmt at cond first (Else else_at other)) x
  else_ends is stays (HasEnd y runs) = HasEnd y (RunsIfElse is runs (stays y runs ∙ is))
  else_ends is stays (IsStuck reason place stuck) = IsStuck reason place (StuckIfElse is stuck)

  module _ (x : State) (typed : IsTypedIn setting act.types x) where
    -- the condition of an `if`
    pub cond_ends : {P : Type 0} (cond : PathTree) (whole : Value) → type_at_path act.types cond ≡ Some Boolean → x.store cond.root.text ≡ Some whole
        → (value_at x.store cond ≡ Some (Truth true) → P) → (value_at x.store cond ≡ Some (Truth false) → P) → P
    cond_ends cond whole fits is holds fails =
        let v = path_there setting.widths act.types x.store typed.names cond Boolean fits whole is in
        as_truth setting.widths v.value v.typed (λ e. holds (v.is ∙ ap Some e)) (λ e. fails (v.is ∙ ap Some e))

    -- an assignment of an expression
    pub let_ends : {at : Pos} {target : NameTree} {expr : ExprTree} (ty : Ty) → ExprFits setting act.types expr ty → x.store target.text ≡ None → AllByRecursion (λ name. is_some (x.store name.text) ≡ true) (expr_names expr)
        → Ends setting act (LetStmt at true target (ExprRhs expr)) x
    let_ends {at} {target} {expr} ty fits unused live =
        let e = expr_evaluates setting act.types x.store typed.names expr ty fits live in
        HasEnd (record x { store = with_value x.store target.text e.value }) (RunsLet e.value e.is (record { unused = unused; after = refl }))

    -- an un-assignment of an expression
    pub unlet_ends : {at : Pos} {target : NameTree} {expr : ExprTree} (ty : Ty) (held : Value) → ExprFits setting act.types expr ty → x.store target.text ≡ Some held → AllByRecursion (λ name. is_some (without x.store target.text name.text) ≡ true) (expr_names expr)
        → Ends setting act (LetStmt at false target (ExprRhs expr)) x
    unlet_ends {at} {target} {expr} ty held fits is live =
        let bare = record x { store = without x.store target.text } in
        let adds = adds_without x target.text held is in
        let e = expr_evaluates setting act.types (without x.store target.text) (typed_removed setting adds typed).names expr ty fits live in
        by_value held e.value
        (λ same. HasEnd (record x { store = without x.store target.text }) (RunsUnlet e.value e.is (subst (λ v. Adds target.text v (record x { store = without x.store target.text }) x) same adds)))
        (λ differ. IsStuck Unmet at (StuckUnlet {bare = record x { store = without x.store target.text }} held e.value adds e.is differ))

    -- an exchange of two parts
    pub swap_ends : {at : Pos} {left right : PathTree} (ty : Ty) (p q : Value) → type_at_path act.types left ≡ Some ty → type_at_path act.types right ≡ Some ty → x.store left.root.text ≡ Some p → x.store right.root.text ≡ Some q → overlap left right ≡ false
        → Ends setting act (SwapStmt at left right) x
    swap_ends {at} {left} {right} ty p q l r is_p is_q apart =
        let v = path_there setting.widths act.types x.store typed.names left ty l p is_p in
        let w = path_there setting.widths act.types x.store typed.names right ty r q is_q in
        HasEnd (record x { store = with_value_at (with_value_at x.store left w.value) right v.value })
        (RunsSwap (record { x = v.value; y = w.value; at_left = v.is; at_right = w.is; apart = apart; after = refl }))

    -- an exchange with a block
    pub memory_ends : {at : Pos} {pointer place : PathTree} (target : ℕ) (ty : Ty) (p q : Value) → type_at_path act.types pointer ≡ Some (Pointer target) → type_at_path act.types place ≡ Some ty → x.store pointer.root.text ≡ Some p → x.store place.root.text ≡ Some q → overlap pointer place ≡ false
        → Ends setting act (MemSwapStmt at pointer place) x
    memory_ends {at} {pointer} {place} target ty p q l r is_p is_q apart =
        let v = path_there setting.widths act.types x.store typed.names pointer (Pointer target) l p is_p in
        let w = path_there setting.widths act.types x.store typed.names place ty r q is_q in
        as_address setting.widths v.value target v.typed
        (λ block is within.
        let points = v.is ∙ ap Some is in
        by_block block 0
        (λ null. HasEnd x (RunsMemSwapNull (points ∙ ap (λ n. Some (Address n)) null)))
        (λ some.
        live_or_not x block target
        (λ value live.
        HasEnd (record x { cells = with_cell x.cells block (Live target w.value); store = with_value_at x.store place value })
        (RunsMemSwap (record { block = block; target = target; x = value; y = w.value; points = points; of_target = l; in_cell = live; at_place = w.is; apart = apart; after = refl })))
        (λ wild. IsStuck Wild at (StuckMemSwap block target points some l wild))))

    -- an allocation, and its reverse
    pub alloc_ends : {at : Pos} {target : NameTree} {to : WrittenTree} (ty : Ty) → AllocFits setting to ty → x.store target.text ≡ None → IsWellFormed x → Ends setting act (LetStmt at true target (AllocRhs to)) x
    alloc_ends {at} {target} {to} ty fits unused formed =
        by_block x.head 0
        (λ null. HasEnd (record x { store = with_value x.store target.text (Address 0) }) (RunsAllocNone null (record { unused = unused; after = refl })))
        (λ some.
        let free = head_free x formed some in
        let cells = with_cell x.cells x.head (Live fits.target (zero_value fits.content)) in
        HasEnd (record x { head = free.0; cells = cells; store = with_value x.store target.text (Address x.head) })
        (RunsAlloc {taken = record x { head = free.0; cells = cells }} x.head
        (record { target = fits.target; cleared = zero_value fits.content; next = free.0; numbered = fits.numbered; is_zero = ap (option_map zero_value) fits.denotes; first = refl; is_free = free.1; after = refl })
        (record { unused = unused; after = refl })))

    pub free_ends : {at : Pos} {target : NameTree} {to : WrittenTree} (ty : Ty) (held : Value) → AllocFits setting to ty → act.types target.text ≡ Some ty → x.store target.text ≡ Some held → Ends setting act (LetStmt at false target (AllocRhs to)) x
    free_ends {at} {target} {to} ty held fits has is =
        let bare = record x { store = without x.store target.text } in
        as_address setting.widths held fits.target (added_typed setting (Pointer fits.target) (has ∙ ap Some fits.pointer) (adds_without x target.text held is) typed)
        (λ block same within.
        let adds : Adds target.text (Address block) bare x = subst (λ v. Adds target.text v (record x { store = without x.store target.text }) x) same (adds_without x target.text held is) in
        by_block block 0
        (λ null.
        let null_adds = subst (λ n. Adds target.text (Address n) (record x { store = without x.store target.text }) x) null adds in
        by_block x.head 0
        (λ none. HasEnd (record x { store = without x.store target.text }) (RunsFreeNone none null_adds))
        (λ used. IsStuck Unmet at (StuckFreeNull null_adds used)))
        (λ some.
        live_or_not bare block fits.target
        (λ value live.
        by_value value (zero_value fits.content)
        (λ zero.
        HasEnd (record x { head = block; cells = with_cell x.cells block (Free x.head); store = without x.store target.text })
        (RunsFree block adds (free_takes fits (record x { store = without x.store target.text }) block (live ∙ ap (λ v. Some (Live fits.target v)) zero))))
        (λ dirty. IsStuck Dirty at (StuckFreeDirty block fits.target value (zero_value fits.content) adds fits.numbered live (ap (option_map zero_value) fits.denotes) dirty)))
        (λ wild. IsStuck Wild at (StuckFreeWild block fits.target adds some fits.numbered wild))))

    -- an `if` without `else` whose branch is not taken
    pub pad_ends : {at : Pos} {cond : PathTree} {first : StmtTree} → StmtFits setting act.types first → value_at x.store cond ≡ Some (Truth false)
        → ((live : Names) → live ≡ live_after true first (live_names x.store) → live_names x.store ≡ live_after false first live)
        → live_after true first (live_names x.store) cond.root.text ≡ true → is_some (x.store cond.root.text) ≡ true
        → Ends setting act (IfStmt at cond first Nothing) x
    pad_ends {at} {cond} {first} fits is back stays live = by (padding setting act.types first x fits typed.names back)
      where
        by : Padding setting act.types first x → Ends setting act (IfStmt at cond first Nothing) x
        by (CanPad new pads same) = HasEnd new (RunsIfNot is pads (ap (option_and_then (part_of cond.steps)) (same cond.root.text stays live) ∙ is))
        by (CannotPad lacks) = IsStuck Pad at (StuckPad is lacks)
