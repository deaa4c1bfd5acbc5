-- Whether calls have a result or are stuck, if the bodies of their callees have a result or are stuck.
use Rattle.std.proofs.Common.{◌≡◌, ◌∙◌, ◌<◌, ◌-◌, refl, sym, ap, subst, arith, ℕ, zero, suc, Bool, true, false, ◌||◌, List, [], ◌∷◌, map, Option, Some, None, is_some, option_map, bytes_eq}
use Rattle.std.specs.List.{AllByRecursion}
use Rattle.std.proofs.lemmas.Option.{none-some}
use Rattle.std.proofs.lemmas.Bool.{or_parts}
use Rattle.tw_text.specs.declared.place.Pos.{Pos}
use Rattle.tw_syntax.specs.Names.{NameTree}
use Rattle.tw_syntax.specs.Programs.{ParamTree, FunTree}
use Rattle.tw_syntax.specs.Statements.{StmtTree, Nothing, Then, Else, LetStmt, SwapStmt, MemSwapStmt, IfStmt, WithStmt, BlockStmt, SkipStmt}
use Rattle.tw_syntax.specs.Terms.{BoundTree, FixedBound, SameBound, LessBound, RhsTree, CallRhs}
use Rattle.tw_types.specs.Types.{Ty}
use Rattle.tw_types.specs.Values.{Value, zero_value}
use Rattle.tw_resolve.specs.Declarations.{is_one_of, number_of}
use Rattle.tw_resolve.specs.Expressions.{Types, fun_named}
use Rattle.tw_resolve.specs.Setting.{Setting}
use Rattle.tw_resolve.proofs.Texts.{bytes_eq-sym}
use Rattle.tw_check.specs.Names.{Names}
use Rattle.tw_check.specs.Liveness.{texts, param_names, live_at_start, live_at_end}
use Rattle.tw_check.specs.Reverse.{reverse_of}
use Rattle.tw_check.specs.Right.{IsOperand, Assigns}
use Rattle.tw_check.proofs.NameSets.{with_name-same, with_name-other}
use Rattle.tw_check.proofs.Undoing.{right-reverse_of}
use Rattle.tw_state.specs.States.{Name, State, IsWellFormed, with_value, without}
use Rattle.tw_state.specs.Steps.{fun_types, Activation, activation_of, live_names, Adds, running_bound, callee_bound, param_links, links, seen_by, put_back}
use Rattle.tw_state.specs.Semantics.{Runs, RunsCall, RunsUncall, RunsCallZero, RunsUncallZero}
use Rattle.tw_state.specs.Stuck.{Unmet, StuckCall, StuckUncall, StuckUncallZero}
use Rattle.tw_state.specs.Results.{IsTypedIn}
use Rattle.tw_state.proofs.Basics.{same_some, by_option, name_test}
use Rattle.tw_state.proofs.Calls.{AreDifferent, inner}
use Rattle.tw_state.proofs.TypedTrees.{ArgsFit, CallFits, reverse_fits, FunFits, FunsFit}
use Rattle.tw_state.proofs.TypedRuns.{typed_seen, links_fit}
use Rattle.tw_state.proofs.LiveRuns.{outer_params, seen_at_start, seen_at_end, operands_live, FunsRight, lives}
use Rattle.tw_state.proofs.Deciding.{by_value, adds_without, put_back_seen, put_back_others}
use Rattle.tw_state.proofs.Ending.{Ends, HasEnd, IsStuck, live_value, dead_value}

-- a call goes to an earlier function, or to the same one with a smaller bound
pub data Below (j m k n : ℕ) : Type 0 where
  Earlier : j < k → Below j m k n
  Smaller : j ≡ k → m < n → Below j m k n

-- the bound is the caller's own, less a positive number
abbrev pub IsLess : Option BoundTree → Type 0
IsLess (Some (LessBound name number)) = 0 < number
IsLess bound = ⊥

-- the function of this number may call another one with this bound
pub data MayCall (k j : ℕ) (bound : Option BoundTree) : Type 0 where
  CallsEarlier : j < k → MayCall k j bound
  CallsItself : j ≡ k → IsLess bound → MayCall k j bound

pub below : {k j : ℕ} {bound : Option BoundTree} {own n : ℕ} → MayCall k j bound → callee_bound own bound ≡ Some n → Below j n k own
below (CallsEarlier earlier) is = Earlier earlier
below {bound = Some (LessBound name number)} {own = own} {n = n} (CallsItself same less) is = Smaller same (by (own - number) refl is)
  where
    by : (m : ℕ) → own - number ≡ m → running_bound (Some m) ≡ Some n → n < own
    by zero e is = absurd (none-some n is)
    by (suc m) e is = let same : suc m ≡ n = same_some refl is in omega (arith, e, same, less)
below {bound = Some (FixedBound number)} (CallsItself same less) is = absurd less
below {bound = Some (SameBound name)} (CallsItself same less) is = absurd less
below {bound = None} (CallsItself same less) is = absurd less

module _ (setting : Setting) where
  -- each call of the statement goes down
  abbrev pub RhsDescends : ℕ → RhsTree → Type 0
  RhsDescends k (CallRhs callee bound args) = (j : ℕ) × (number_of setting.funs callee.text ≡ Some j) × MayCall k j bound
  RhsDescends k rhs = Unit {0}

  abbrev pub StmtDescends : ℕ → StmtTree → Type 0
  StmtDescends k Nothing = Unit {0}
  StmtDescends k (Then first rest) = StmtDescends k first × StmtDescends k rest
  StmtDescends k (Else at stmts) = StmtDescends k stmts
  StmtDescends k (LetStmt at forward target rhs) = RhsDescends k rhs
  StmtDescends k (SwapStmt at left right) = Unit {0}
  StmtDescends k (MemSwapStmt at pointer value) = Unit {0}
  StmtDescends k (IfStmt at cond first other) = StmtDescends k first × StmtDescends k other
  StmtDescends k (WithStmt at setup work) = StmtDescends k setup × StmtDescends k work
  StmtDescends k (BlockStmt at body) = StmtDescends k body
  StmtDescends k (SkipStmt at) = Unit {0}

  abbrev pub FunsDescend : Type 0
  FunsDescend = (name : Name) (k : ℕ) (fun : FunTree) → number_of setting.funs name ≡ Some k → fun_named setting name ≡ Some fun → StmtDescends k fun.body

  -- the body of this function, and its reverse, end from each typed and well-formed state
  pub record BodyEnds (fun : FunTree) (n : ℕ) (x : State) : Type 0 where
    pub forward : live_names x.store ≡ live_at_start fun → Ends setting (activation_of setting fun n) fun.body x
    pub backward : live_names x.store ≡ live_at_end fun → Ends setting (activation_of setting fun n) (reverse_of fun.body) x

  abbrev pub BodiesEnd : ℕ → ℕ → Type 0
  BodiesEnd j m = (name : Name) (fun : FunTree) → number_of setting.funs name ≡ Some j → fun_named setting name ≡ Some fun
      → (x : State) → IsTypedIn setting (fun_types setting fun) x → IsWellFormed x → BodyEnds fun m x

inner_params : (setting : Setting) (types : Types) (params : List ParamTree) (args : List NameTree) → ArgsFit setting types params args → inner (param_links params args) ≡ map (λ param. param.name.text) params
inner_params setting types [] [] fit = refl
inner_params setting types (param ∷ params) (arg ∷ args) fit = ap (λ names. param.name.text ∷ names) (inner_params setting types params args fit.1)
inner_params setting types [] (arg ∷ args) fit = absurd fit
inner_params setting types (param ∷ params) [] fit = absurd fit

-- a target that is no operand is none of them
not_operand : (held bare : Names) (target : NameTree) (written : Bool) (args : List NameTree) → AllByRecursion (IsOperand held bare target written) args → is_one_of target.text (texts args) ≡ false
not_operand held bare target written [] operands = refl
not_operand held bare target written (arg ∷ args) operands =
    ap (λ k. k || is_one_of target.text (texts args)) operands.0.other ∙ not_operand held bare target written args operands.1

module _ (setting : Setting) (funs : FunsFit setting) (rights : FunsRight setting) (act : Activation) where
  module _ (x : State) (typed : IsTypedIn setting act.types x) (formed : IsWellFormed x) (target callee : NameTree) (bound : Option BoundTree) (args : List NameTree) (ty : Ty)
      (has : act.types target.text ≡ Some ty) (call : CallFits setting act.types callee args ty) where
    fun_fits : FunFits setting call.fun
    fun_fits = funs callee.text call.fun call.named

    pub callee_typed : IsTypedIn setting (fun_types setting call.fun) (seen_by (links call.fun target args) x)
    callee_typed = typed_seen setting (links call.fun target args) (links_fit setting act.types call.fun target args ty fun_fits has call.result call.fit) typed

    -- the caller's state after a callee that ends with these live names
    returns : (held bare : Names) (y : State) (live : Names) → AllByRecursion (IsOperand held bare target true) args → live_names y.store ≡ live
        → ((name : Name) → is_one_of name (inner (links call.fun target args)) ≡ false → live name ≡ false)
        → seen_by (links call.fun target args) (record y { store = put_back (links call.fun target args) y.store x.store }) ≡ y
    returns held bare y live operands is off =
        put_back_seen (links call.fun target args) y x.store
        (subst (λ names. (is_one_of target.text names ≡ false) × AreDifferent names) (sym (outer_params setting act.types call.fun.params args call.fit)) (not_operand held bare target true args operands, call.once))
        (λ name none. dead_value y.store live name is (off name none))

    inner_parts : (name : Name) → is_one_of name (inner (links call.fun target args)) ≡ false → (bytes_eq call.fun.returned.text name ≡ false) × (is_one_of name (param_names call.fun) ≡ false)
    inner_parts name none =
        let parts = or_parts (bytes_eq name call.fun.returned.text) (is_one_of name (inner (param_links call.fun.params args))) none in
        (bytes_eq-sym call.fun.returned.text name ∙ parts.0, ap (is_one_of name) (sym (inner_params setting act.types call.fun.params args call.fit)) ∙ parts.1)

    off_end : (name : Name) → is_one_of name (inner (links call.fun target args)) ≡ false → live_at_end call.fun name ≡ false
    off_end name none = let parts = inner_parts name none in with_name-other (live_at_start call.fun) call.fun.returned.text name true parts.0 ∙ parts.1

    off_start : (name : Name) → is_one_of name (inner (links call.fun target args)) ≡ false → live_at_start call.fun name ≡ false
    off_start name none = (inner_parts name none).1

    pub call_ends : {at : Pos} {held before after : Names} → Assigns held target (CallRhs callee bound args) before after → live_names x.store ≡ before → ((n : ℕ) → callee_bound act.bound bound ≡ Some n → BodyEnds setting call.fun n (seen_by (links call.fun target args) x))
        → Ends setting act (LetStmt at true target (CallRhs callee bound args)) x
    call_ends {at} {held} {before} {after} r live bodies = by_option (callee_bound act.bound bound) zero_bound running
      where
        unused : x.store target.text ≡ None
        unused = dead_value x.store before target.text live r.dead

        zero_bound : callee_bound act.bound bound ≡ None → Ends setting act (LetStmt at true target (CallRhs callee bound args)) x
        zero_bound none =
            HasEnd (record x { store = with_value x.store target.text (zero_value ty) })
            (RunsCallZero call.fun (zero_value ty) call.named none (ap (option_map zero_value) call.result) (record { unused = unused; after = refl }))

        at_start : live_names (seen_by (links call.fun target args) x).store ≡ live_at_start call.fun
        at_start = seen_at_start setting act.types call.fun target args call.fit fun_fits.different x.store unused
            (operands_live held before target true x.store args (λ name differ. ap (λ (l : Names). l name) live) r.operands)

        done : (n : ℕ) → callee_bound act.bound bound ≡ Some n → Ends setting (activation_of setting call.fun n) call.fun.body (seen_by (links call.fun target args) x) → Ends setting act (LetStmt at true target (CallRhs callee bound args)) x
        done n is (HasEnd y runs) =
            let back = returns held before y (live_at_end call.fun) r.operands (lives setting funs rights fun_fits.body (rights callee.text call.fun call.named) runs at_start) off_end in
            HasEnd (record y { store = put_back (links call.fun target args) y.store x.store })
            (RunsCall call.fun n call.named is unused
            (subst (Runs setting (activation_of setting call.fun n) call.fun.body (seen_by (links call.fun target args) x)) (sym back) runs)
            (put_back_others (links call.fun target args) y.store x.store))
        done n is (IsStuck reason place stuck) = IsStuck reason place (StuckCall call.fun n call.named is stuck)

        running : (n : ℕ) → callee_bound act.bound bound ≡ Some n → Ends setting act (LetStmt at true target (CallRhs callee bound args)) x
        running n is = done n is ((bodies n is).forward at_start)

    pub uncall_ends : {at : Pos} {held before after : Names} → Assigns held target (CallRhs callee bound args) after before → live_names x.store ≡ before → ((n : ℕ) → callee_bound act.bound bound ≡ Some n → BodyEnds setting call.fun n (seen_by (links call.fun target args) x))
        → Ends setting act (LetStmt at false target (CallRhs callee bound args)) x
    uncall_ends {at} {held} {before} {after} r live bodies = by_option (callee_bound act.bound bound) zero_bound running
      where
        is_live : before target.text ≡ true
        is_live = ap (λ (l : Names). l target.text) r.after ∙ with_name-same after target.text true

        value : (v : Value) × (x.store target.text ≡ Some v)
        value = live_value x.store before target.text live is_live

        zero_bound : callee_bound act.bound bound ≡ None → Ends setting act (LetStmt at false target (CallRhs callee bound args)) x
        zero_bound none =
            by_value value.0 (zero_value ty)
            (λ same.
            HasEnd (record x { store = without x.store target.text })
            (RunsUncallZero call.fun (zero_value ty) call.named none (ap (option_map zero_value) call.result)
            (subst (λ v. Adds target.text v (record x { store = without x.store target.text }) x) same (adds_without x target.text value.0 value.1))))
            (λ differ. IsStuck Unmet at (StuckUncallZero call.fun value.0 (zero_value ty) call.named none (adds_without x target.text value.0 value.1) (ap (option_map zero_value) call.result) differ))

        at_end : live_names (seen_by (links call.fun target args) x).store ≡ live_at_end call.fun
        at_end = seen_at_end setting act.types call.fun target args call.fit fun_fits.different x.store (ap is_some value.1)
            (operands_live held after target true x.store args (λ name differ. ap (λ (l : Names). l name) (live ∙ r.after) ∙ with_name-other after target.text name true differ) r.operands)

        target_put : (y : State) → put_back (links call.fun target args) y.store x.store target.text ≡ y.store call.fun.returned.text
        target_put y = rw (name_test target.text) refl

        done : (n : ℕ) → callee_bound act.bound bound ≡ Some n → Ends setting (activation_of setting call.fun n) (reverse_of call.fun.body) (seen_by (links call.fun target args) x) → Ends setting act (LetStmt at false target (CallRhs callee bound args)) x
        done n is (HasEnd y runs) =
            let at_start = lives setting funs rights (reverse_fits setting (fun_types setting call.fun) call.fun.body fun_fits.body) (right-reverse_of.0 (rights callee.text call.fun call.named)) runs at_end in
            let back = returns held after y (live_at_start call.fun) r.operands at_start off_start in
            HasEnd (record y { store = put_back (links call.fun target args) y.store x.store })
            (RunsUncall call.fun n call.named is
            (target_put y ∙ dead_value y.store (live_at_start call.fun) call.fun.returned.text at_start fun_fits.different.0)
            (subst (Runs setting (activation_of setting call.fun n) (reverse_of call.fun.body) (seen_by (links call.fun target args) x)) (sym back) runs)
            (put_back_others (links call.fun target args) y.store x.store))
        done n is (IsStuck reason place stuck) = IsStuck reason place (StuckUncall call.fun n call.named is stuck)

        running : (n : ℕ) → callee_bound act.bound bound ≡ Some n → Ends setting act (LetStmt at false target (CallRhs callee bound args)) x
        running n is = done n is ((bodies n is).backward at_end)
