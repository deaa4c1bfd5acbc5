-- The live names after a statement are those that the rules of reversibility compute, and held names keep their values.
use Rattle.std.proofs.Common.{◌≡◌, ◌∙◌, refl, sym, ap, subst, Bool, true, false, ◌||◌, if◌then◌else◌, List, [], ◌∷◌, map, Option, Some, None, is_some, option_map, bytes_eq}
use Rattle.std.proofs.Math.Path.{fun_ext}
use Rattle.std.specs.List.{AllByRecursion}
use Rattle.tw_syntax.specs.Names.{NameTree, PathTree}
use Rattle.tw_syntax.specs.Programs.{ParamTree, FunTree}
use Rattle.tw_syntax.specs.Statements.{StmtTree}
use Rattle.tw_types.specs.Values.{Value}
use Rattle.tw_resolve.specs.Declarations.{is_one_of}
use Rattle.tw_resolve.specs.Expressions.{Types, fun_named}
use Rattle.tw_resolve.specs.Setting.{Setting}
use Rattle.tw_resolve.proofs.Texts.{bytes_eq-sym}
use Rattle.tw_check.specs.Names.{Names, with_name}
use Rattle.tw_check.specs.Liveness.{live_after, texts, param_names, live_at_start, live_at_end}
use Rattle.tw_check.specs.Right.{IsOperand, IsRight, Right, RightNothing, RightThen, RightLet, RightUnlet, RightSwap, RightMemSwap, RightIf, RightIfElse, RightWith, RightBlock, RightSkip}
use Rattle.tw_check.proofs.NameSets.{with_name-same, with_name-other, with_name-back, with_name-kept, names_differ}
use Rattle.tw_check.proofs.Ends.{right_ends}
use Rattle.tw_check.proofs.Undoing.{right-reverse_of}
use Rattle.tw_state.specs.States.{Name, Store, State}
use Rattle.tw_state.specs.Parts.{with_part, with_value_at}
use Rattle.tw_state.specs.Steps.{fun_types, Activation, live_names, Adds, param_links, links, seen, KeepsOthers}
use Rattle.tw_state.specs.Semantics.{Runs, RunsNothing, RunsSkip, RunsThen, RunsBlock, RunsLet, RunsUnlet, RunsSwap, RunsMemSwapNull, RunsMemSwap, RunsIf, RunsIfElse, RunsIfNot, RunsWith, RunsCall, RunsUncall, RunsCallZero, RunsUncallZero, RunsAlloc, RunsAllocNone, RunsFree, RunsFreeNone}
use Rattle.tw_state.proofs.Basics.{same_some, by_test, same_name, name_test, contradiction}
use Rattle.tw_state.proofs.SingleSteps.{added, added_others}
use Rattle.tw_state.proofs.Calls.{AreDifferent, outer}
use Rattle.tw_state.proofs.TypedTrees.{ArgsFit, StmtFits, reverse_fits, FunsFit}

-- a name that is added becomes live
pub live_added : {name : Name} {value : Value} {bare full : State} → Adds name value bare full → live_names full.store ≡ with_name (live_names bare.store) name true
live_added {name} {value} {bare} {full} adds =
    fun_ext (λ n.
    by_test (bytes_eq name n)
    (λ is. subst (λ m. is_some (full.store m) ≡ with_name (live_names bare.store) name true m) (same_name name n is) (ap is_some (added adds) ∙ sym (with_name-same (live_names bare.store) name true)))
    (λ other. ap is_some (added_others adds n other) ∙ sym (with_name-other (live_names bare.store) name n true other)))

pub live_removed : {name : Name} {value : Value} {bare full : State} {live : Names} → live name ≡ false → live_names full.store ≡ with_name live name true → Adds name value bare full → live_names bare.store ≡ live
live_removed {name} {value} {bare} {full} {live} dead is adds =
    sym (with_name-back (live_names bare.store) name false true (ap is_some adds.unused))
    ∙ ap (λ (l : Names). with_name l name false) (sym (live_added adds) ∙ is)
    ∙ with_name-back live name false true dead

pub live_put : (store : Store) (path : PathTree) (value : Value) → live_names (with_value_at store path value) ≡ live_names store
live_put store path value = fun_ext (λ name. by (bytes_eq path.root.text name) (store name))
  where
    inside : (o : Option Value) → is_some (option_map (λ whole. with_part path.steps whole value) o) ≡ is_some o
    inside None = refl
    inside (Some whole) = refl

    by : (k : Bool) (o : Option Value) → is_some (if k then option_map (λ whole. with_part path.steps whole value) o else o) ≡ is_some o
    by true o = inside o
    by false o = refl

-- the names of parameters
abbrev names_of_params : List ParamTree → List Name
names_of_params params = map (λ param. param.name.text) params

module _ (setting : Setting) (types : Types) where
  -- the names of the caller that a call shares, besides the target, are the arguments
  pub outer_params : (params : List ParamTree) (args : List NameTree) → ArgsFit setting types params args → outer (param_links params args) ≡ texts args
  outer_params [] [] fit = refl
  outer_params (param ∷ params) (arg ∷ args) fit = ap (λ names. arg.text ∷ names) (outer_params params args fit.1)
  outer_params [] (arg ∷ args) fit = absurd fit
  outer_params (param ∷ params) [] fit = absurd fit

  -- if the arguments are live, the callee sees its parameters
  seen_params : (params : List ParamTree) (args : List NameTree) (store : Store) → ArgsFit setting types params args → AllByRecursion (λ arg. is_some (store arg.text) ≡ true) args
      → (name : Name) → is_some (seen (param_links params args) store name) ≡ is_one_of name (names_of_params params)
  seen_params [] [] store fit live name = refl
  seen_params (param ∷ params) (arg ∷ args) store fit live name =
      by (bytes_eq param.name.text name) (bytes_eq-sym name param.name.text) (seen_params params args store fit.1 live.1 name)
    where
      by : (k : Bool) → bytes_eq name param.name.text ≡ k → is_some (seen (param_links params args) store name) ≡ is_one_of name (names_of_params params)
          → is_some (if k then store arg.text else seen (param_links params args) store name) ≡ (bytes_eq name param.name.text || is_one_of name (names_of_params params))
      by true is deeper = live.0 ∙ sym (ap (λ k. k || is_one_of name (names_of_params params)) is)
      by false other deeper = deeper ∙ sym (ap (λ k. k || is_one_of name (names_of_params params)) other)
  seen_params [] (arg ∷ args) store fit live name = absurd fit
  seen_params (param ∷ params) [] store fit live name = absurd fit

  -- if the callee sees its parameters, the arguments are live
  live_args : (params : List ParamTree) (args : List NameTree) (store : Store) → ArgsFit setting types params args → AreDifferent (names_of_params params)
      → ((name : Name) → is_one_of name (names_of_params params) ≡ true → is_some (seen (param_links params args) store name) ≡ true)
      → (name : Name) → is_one_of name (texts args) ≡ true → is_some (store name) ≡ true
  live_args [] [] store fit different sees name one = contradiction one refl
  live_args (param ∷ params) (arg ∷ args) store fit different sees name one =
      by_test (bytes_eq name arg.text)
      (λ is. subst (λ n. is_some (store n) ≡ true) (sym (same_name name arg.text is)) first)
      (λ other. live_args params args store fit.1 different.1 rest name (subst (λ k. (k || is_one_of name (texts args)) ≡ true) other one))
    where
      seen_first : seen (param_links (param ∷ params) (arg ∷ args)) store param.name.text ≡ store arg.text
      seen_first = rw (name_test param.name.text) refl

      seen_later : (n : Name) → bytes_eq param.name.text n ≡ false → seen (param_links (param ∷ params) (arg ∷ args)) store n ≡ seen (param_links params args) store n
      seen_later n other = rw other refl

      first : is_some (store arg.text) ≡ true
      first = ap is_some (sym seen_first) ∙ sees param.name.text (ap (λ k. k || is_one_of param.name.text (names_of_params params)) (name_test param.name.text))

      rest : (n : Name) → is_one_of n (names_of_params params) ≡ true → is_some (seen (param_links params args) store n) ≡ true
      rest n is =
          let differ = names_differ (λ m. is_one_of m (names_of_params params)) param.name.text n different.0 is in
          ap is_some (sym (seen_later n differ))
          ∙ sees n (ap (λ k. k || is_one_of n (names_of_params params)) (bytes_eq-sym n param.name.text ∙ differ) ∙ is)
  live_args [] (arg ∷ args) store fit different sees name one = absurd fit
  live_args (param ∷ params) [] store fit different sees name one = absurd fit

-- an operand is live and not the target
operand_at : (held bare : Names) (target : NameTree) (written : Bool) (args : List NameTree) → AllByRecursion (IsOperand held bare target written) args → (name : Name) → is_one_of name (texts args) ≡ true → bare name ≡ true
operand_at held bare target written [] each name one = contradiction one refl
operand_at held bare target written (arg ∷ args) each name one =
    let deeper = operand_at held bare target written args each.1 name in
    by_test (bytes_eq name arg.text)
    (λ is. ap bare (same_name name arg.text is) ∙ each.0.live)
    (λ other. deeper (subst (λ k. (k || is_one_of name (texts args)) ≡ true) other one))

pub operands_live : (held bare : Names) (target : NameTree) (written : Bool) (store : Store) (names : List NameTree) → ((name : Name) → bytes_eq target.text name ≡ false → is_some (store name) ≡ bare name)
    → AllByRecursion (IsOperand held bare target written) names → AllByRecursion (λ arg. is_some (store arg.text) ≡ true) names
operands_live held bare target written store [] agree each = tt
operands_live held bare target written store (name ∷ names) agree each =
    (agree name.text each.0.other ∙ each.0.live, operands_live held bare target written store names agree each.1)

module _ (setting : Setting) (types : Types) (fun : FunTree) (target : NameTree) (args : List NameTree) (fit : ArgsFit setting types fun.params args) (different : AreDifferent (fun.returned.text ∷ param_names fun)) where
  abbrev pub shared : List (Name × Name)
  shared = links fun target args

  seen_returned : (store : Store) → seen shared store fun.returned.text ≡ store target.text
  seen_returned store = rw (name_test fun.returned.text) refl

  seen_other : (store : Store) (name : Name) → bytes_eq fun.returned.text name ≡ false → seen shared store name ≡ seen (param_links fun.params args) store name
  seen_other store name other = rw other refl

  -- what the callee sees at its start and at its end
  pub seen_at_start : (store : Store) → store target.text ≡ None → AllByRecursion (λ arg. is_some (store arg.text) ≡ true) args → live_names (seen shared store) ≡ live_at_start fun
  seen_at_start store absent live =
      fun_ext (λ name.
      by_test (bytes_eq fun.returned.text name)
      (λ is. subst (λ n. is_some (seen shared store n) ≡ live_at_start fun n) (same_name fun.returned.text name is) (ap is_some (seen_returned store ∙ absent) ∙ sym different.0))
      (λ other. ap is_some (seen_other store name other) ∙ seen_params setting types fun.params args store fit live name))

  pub seen_at_end : (store : Store) → is_some (store target.text) ≡ true → AllByRecursion (λ arg. is_some (store arg.text) ≡ true) args → live_names (seen shared store) ≡ live_at_end fun
  seen_at_end store present live =
      fun_ext (λ name.
      by_test (bytes_eq fun.returned.text name)
      (λ is.
      subst (λ n. is_some (seen shared store n) ≡ live_at_end fun n) (same_name fun.returned.text name is)
      (ap is_some (seen_returned store) ∙ present ∙ sym (with_name-same (live_at_start fun) fun.returned.text true)))
      (λ other.
      ap is_some (seen_other store name other) ∙ seen_params setting types fun.params args store fit live name
      ∙ sym (with_name-other (live_at_start fun) fun.returned.text name true other)))

  -- after a call, each other name than the target is live if it was
  others_after : (held bare : Names) (written : Bool) (old new : Store) → AllByRecursion (IsOperand held bare target written) args → KeepsOthers shared old new
      → ((name : Name) → bytes_eq target.text name ≡ false → is_some (old name) ≡ bare name)
      → ((name : Name) → is_one_of name (param_names fun) ≡ true → is_some (seen shared new name) ≡ true)
      → (name : Name) → bytes_eq target.text name ≡ false → is_some (new name) ≡ bare name
  others_after held bare written old new operands keeps agree sees name other =
      by_test (is_one_of name (texts args))
      (λ one. live_args setting types fun.params args new fit different.1 sees_params name one ∙ sym (operand_at held bare target written args operands name one))
      (λ none. ap is_some (keeps name (not_shared none)) ∙ agree name other)
    where
      sees_params : (n : Name) → is_one_of n (names_of_params fun.params) ≡ true → is_some (seen (param_links fun.params args) new n) ≡ true
      sees_params n is = ap is_some (sym (seen_other new n (names_differ (λ m. is_one_of m (param_names fun)) fun.returned.text n different.0 is))) ∙ sees n is

      not_shared : is_one_of name (texts args) ≡ false → is_one_of name (outer shared) ≡ false
      not_shared none =
          ap (λ k. k || is_one_of name (outer (param_links fun.params args))) (bytes_eq-sym name target.text ∙ other)
          ∙ ap (is_one_of name) (outer_params setting types fun.params args fit) ∙ none

  -- a call, and its reverse
  live_call : (held bare : Names) {full : Names} (written : Bool) (old new : State) → AllByRecursion (IsOperand held bare target written) args → full ≡ with_name bare target.text true
      → KeepsOthers shared old.store new.store → live_names old.store ≡ bare → live_names (seen shared new.store) ≡ live_at_end fun → live_names new.store ≡ full
  live_call held bare {full} written old new operands after keeps live sees =
      fun_ext each ∙ sym after
    where
      each : (name : Name) → is_some (new.store name) ≡ with_name bare target.text true name
      each name =
          by_test (bytes_eq target.text name)
          (λ is.
          subst (λ n. is_some (new.store n) ≡ with_name bare target.text true n) (same_name target.text name is)
          (ap is_some (sym (seen_returned new.store)) ∙ ap (λ (l : Names). l fun.returned.text) sees ∙ with_name-same (live_at_start fun) fun.returned.text true
          ∙ sym (with_name-same bare target.text true)))
          (λ other.
          others_after held bare written old.store new.store operands keeps (λ n differ. ap (λ (l : Names). l n) live)
          (λ n is. ap (λ (l : Names). l n) sees ∙ with_name-kept (live_at_start fun) fun.returned.text n true is) name other
          ∙ sym (with_name-other bare target.text name true other))

  live_uncall : (held bare : Names) {full : Names} (written : Bool) (old new : State) → AllByRecursion (IsOperand held bare target written) args → full ≡ with_name bare target.text true → bare target.text ≡ false
      → new.store target.text ≡ None → KeepsOthers shared old.store new.store → live_names old.store ≡ full → live_names (seen shared new.store) ≡ live_at_start fun → live_names new.store ≡ bare
  live_uncall held bare {full} written old new operands after dead absent keeps live sees =
      fun_ext (λ name.
      by_test (bytes_eq target.text name)
      (λ is. subst (λ n. is_some (new.store n) ≡ bare n) (same_name target.text name is) (ap is_some absent ∙ sym dead))
      (λ other.
      others_after held bare written old.store new.store operands keeps
      (λ n differ. ap (λ (l : Names). l n) (live ∙ after) ∙ with_name-other bare target.text n true differ)
      (λ n is. ap (λ (l : Names). l n) sees ∙ is) name other))

-- each function of the program is right
abbrev pub FunsRight : Setting → Type 0
FunsRight setting = (name : Name) (fun : FunTree) → fun_named setting name ≡ Some fun → IsRight fun

module _ (setting : Setting) (funs : FunsFit setting) (rights : FunsRight setting) where
  same_args : (types : Types) {fun other : FunTree} (args : List NameTree) → other ≡ fun → ArgsFit setting types other.params args → ArgsFit setting types fun.params args
  same_args types {fun} {other} args same fit = subst (λ (f : FunTree). ArgsFit setting types f.params args) same fit

  -- the live names after a right statement are those with which it ends
  pub lives : {act : Activation} {s : StmtTree} {x y : State} {held before after : Names} → StmtFits setting act.types s → Right held s before after → Runs setting act s x y
      → live_names x.store ≡ before → live_names y.store ≡ after
  lives fits RightNothing RunsNothing live = live
  lives fits RightSkip RunsSkip live = live
  lives fits (RightThen middle a b) (RunsThen c d) live = lives fits.1 b d (lives fits.0 a c live)
  lives fits (RightBlock a) (RunsBlock b) live = lives fits a b live
  lives fits (RightLet {target = target} r) (RunsLet v e a) live = live_added a ∙ ap (λ (l : Names). with_name l target.text true) live ∙ sym r.after
  lives fits (RightUnlet r) (RunsUnlet v e a) live = live_removed r.dead (live ∙ r.after) a
  lives fits (RightSwap p q r s t) (RunsSwap {left = left} {right = right} {old = old} a) live =
      ap (λ (s : State). live_names s.store) a.after ∙ live_put (with_value_at old.store left a.y) right a.x ∙ live_put old.store left a.y ∙ live
  lives fits (RightMemSwap p q r s) (RunsMemSwapNull a) live = live
  lives fits (RightMemSwap p q r s) (RunsMemSwap {place = place} {old = old} a) live = ap (λ (s : State). live_names s.store) a.after ∙ live_put old.store place a.x ∙ live
  lives fits (RightIf c a) (RunsIf p b q) live = lives fits.1 a b live
  lives fits (RightIf {first = first} c a) (RunsIfNot p b q) live = b.after ∙ ap (live_after true first) live ∙ right_ends a
  lives fits (RightIfElse c a b) (RunsIf p d q) live = lives fits.1 a d live
  lives fits (RightIfElse c a b) (RunsIfElse p d q) live = lives fits.2 b d live
  lives {act} fits (RightWith {setup = setup} ready done a b c) (RunsWith d e f) live =
      lives (reverse_fits setting act.types setup fits.0) c f (lives fits.1 b e (lives fits.0 a d live))
  lives {act} {held = held} fits (RightLet {target = target} {before = bare} r) (RunsCall {callee = callee} {args = args} {old = old} {new = new} fun n named bound absent body keeps) live =
      let fun_fits = funs callee.text fun named in
      let fit = same_args act.types args (same_some fits.2.named named) fits.2.fit in
      let arg_live = operands_live held bare target true old.store args (λ name differ. ap (λ (l : Names). l name) live) r.operands in
      live_call setting act.types fun target args fit fun_fits.different held bare true old new r.operands r.after keeps live
      (lives fun_fits.body (rights callee.text fun named) body (seen_at_start setting act.types fun target args fit fun_fits.different old.store absent arg_live))
  lives fits (RightLet {target = target} r) (RunsCallZero fun v named bound cleared a) live = live_added a ∙ ap (λ (l : Names). with_name l target.text true) live ∙ sym r.after
  lives {act} {held = held} fits (RightUnlet {target = target} {after = bare} r) (RunsUncall {callee = callee} {args = args} {old = old} {new = new} fun n named bound absent body keeps) live =
      let fun_fits = funs callee.text fun named in
      let fit = same_args act.types args (same_some fits.2.named named) fits.2.fit in
      let arg_live = operands_live held bare target true old.store args (λ name differ. ap (λ (l : Names). l name) (live ∙ r.after) ∙ with_name-other bare target.text name true differ) r.operands in
      let present = ap (λ (l : Names). l target.text) (live ∙ r.after) ∙ with_name-same bare target.text true in
      live_uncall setting act.types fun target args fit fun_fits.different held bare true old new r.operands r.after r.dead absent keeps live
      (lives (reverse_fits setting (fun_types setting fun) fun.body fun_fits.body) (right-reverse_of.0 (rights callee.text fun named)) body
      (seen_at_end setting act.types fun target args fit fun_fits.different old.store present arg_live))
  lives fits (RightUnlet r) (RunsUncallZero fun v named bound cleared a) live = live_removed r.dead (live ∙ r.after) a
  lives fits (RightLet {target = target} r) (RunsAlloc block t a) live =
      live_added a ∙ ap (λ (l : Names). with_name l target.text true) (ap (λ (s : State). live_names s.store) t.after ∙ live) ∙ sym r.after
  lives fits (RightLet {target = target} r) (RunsAllocNone none a) live = live_added a ∙ ap (λ (l : Names). with_name l target.text true) live ∙ sym r.after
  lives fits (RightUnlet r) (RunsFree block a t) live = sym (ap (λ (s : State). live_names s.store) t.after) ∙ live_removed r.dead (live ∙ r.after) a
  lives fits (RightUnlet r) (RunsFreeNone none a) live = live_removed r.dead (live ∙ r.after) a

  -- the live names after a right statement are those that the rules of reversibility compute
  pub live_after_runs : {act : Activation} {s : StmtTree} {x y : State} {held after : Names} → StmtFits setting act.types s → Right held s (live_names x.store) after → Runs setting act s x y → live_names y.store ≡ live_after true s (live_names x.store)
  live_after_runs fits right runs = lives fits right runs refl ∙ sym (right_ends right)
