-- The frames that the calls of an entry reach are frames in its layout.
use Rattle.std.proofs.Common.{◌≡◌, ◌∙◌, ◌≤◌, ◌+◌, max, refl, sym, ap, subst, arith, ℕ, Bool, true, false, ◌||◌, if◌then◌else◌, List, [], ◌∷◌, ◌++◌, map, slice_get, Option, Some, option_and_then, bytes_eq}
use Rattle.std.specs.List.{AllByRecursion}
use Rattle.std.proofs.lemmas.Option.{none-some}
use Rattle.std.proofs.Math.Bool.{Bool-set}
use Rattle.std.proofs.Math.Bridge.{le_prop}
use Rattle.std.proofs.Math.Logic.{∥∥₁_elim}
use Rattle.std.proofs.Math.Nat.{ℕ_set}
use Rattle.tw_syntax.specs.Names.{NameTree}
use Rattle.tw_syntax.specs.Programs.{ParamTree, FunTree, ProgramTree, program_tree}
use Rattle.tw_syntax.specs.Statements.{StmtTree}
use Rattle.tw_syntax.specs.Terms.{BoundTree}
use Rattle.tw_types.specs.Types.{Ty}
use Rattle.tw_gate.specs.declared.gate.Level.{Level}
use Rattle.tw_code.specs.declared.code.Options.{Options}
use Rattle.tw_resolve.specs.declared.tables.Tables.{Tables}
use Rattle.tw_resolve.specs.Declarations.{AreDifferent as AreDifferentNames, is_one_of, number_of}
use Rattle.tw_resolve.specs.Entries.{types_in}
use Rattle.tw_resolve.specs.Expressions.{Types, fun_named}
use Rattle.tw_resolve.specs.Resolved.{resolved_setting}
use Rattle.tw_resolve.specs.Setting.{Setting, type_of}
use Rattle.tw_resolve.proofs.Texts.{bytes_eq-sym}
use Rattle.tw_check.specs.declared.checked.Checked.{Checked}
use Rattle.tw_check.specs.declared.entry.Entry.{Entry}
use Rattle.tw_check.specs.Liveness.{param_names, texts}
use Rattle.tw_check.specs.Names.{Names}
use Rattle.tw_check.specs.Right.{IsOperand, Right, RightThen, RightLet, RightUnlet, RightIf, RightIfElse, RightWith, RightBlock}
use Rattle.tw_check.proofs.NameSets.{is_one_of-append, names_differ}
use Rattle.tw_state.specs.declared.state.Side.TheVariants as side
use Rattle.tw_state.specs.Listed.{names_at_start, names_at_end}
use Rattle.tw_state.specs.States.{Name}
use Rattle.tw_state.specs.Steps.{fun_types, links, param_links, running_bound, callee_bound}
use Rattle.tw_state.proofs.Basics.{by_test, by_option, contradiction, same_name, name_test, same_some, not_both}
use Rattle.tw_state.proofs.Calls.{AreDifferent, inner, outer}
use Rattle.tw_state.proofs.EntryFunctions.{function_of, names_different}
use Rattle.tw_state.proofs.EntryResults.{IsSound, IsFunction}
use Rattle.tw_state.proofs.LiveRuns.{outer_params}
use Rattle.tw_state.proofs.SoundPrograms.{sound}
use Rattle.tw_state.proofs.TypedRuns.{LinksFit, links_fit}
use Rattle.tw_state.proofs.TypedTrees.{ArgsFit, CallFits, StmtFits, FunFits}
use Rattle.tw_frames.specs.declared.regions.WireLayout.{WireLayout}
use Rattle.tw_frames.specs.declared.workspace.Workspace.{Workspace}
use Rattle.tw_frames.specs.Frames.{Frame, frame_size, linked_wire, local_names, callee_frame}
use Rattle.tw_frames.specs.Layout.{IsLaidOut, entry_frame, flag_count, ladder_size, region_sizes, in_order}
use Rattle.tw_code.specs.Functions.{IsIn}
use Rattle.tw_frames.specs.Regions.{Owns, IsFrame, HasCall, IsCall, InFirst, InRest, InElse, InYes, InNo, InSetup, InWork, InBlock, IsReached, ReachesEntry, ReachesCallee, AreFrames, AreInOrder}
use Rattle.tw_frames.specs.Scratch.{fun_scratch}
use Rattle.tw_frames.specs.Sizes.{name_size, names_size, type_size, wire_from}
use Rattle.tw_frames.specs.Workspaces.{entered, Needs, NeedsThen, NeedsBlock, NeedsElse, NeedsIf, NeedsWith, NeedsCall, NeedsCallZero, NeedsEntry, NeedsBody, NeedsNoBody}
use Rattle.tw_frames.proofs.FrameWires.{wire_within, wires_apart, AreLinked, frame_is}
use Rattle.tw_frames.proofs.OneLayout.{in_order-regions}

-- a target that is no operand is none of the arguments
not_among : (held bare : Names) (target : NameTree) (written : Bool) (args : List NameTree) → AllByRecursion (IsOperand held bare target written) args → is_one_of target.text (texts args) ≡ false
not_among held bare target written [] operands = refl
not_among held bare target written (arg ∷ args) operands = ap (λ k. k || is_one_of target.text (texts args)) operands.0.other ∙ not_among held bare target written args operands.1

module _ (setting : Setting) (target callee : NameTree) (bound : Option BoundTree) (args : List NameTree) where
  -- what a callee needs is part of what its caller needs
  pub record CalleeNeeds (fun : FunTree) (n : ℕ) (whole : Workspace) : Type 0 where
    pub part : Workspace
    pub needs : Needs setting n fun.body part
    pub frames : frame_size setting fun + part.frames ≤ whole.frames
    pub own_scratch : fun_scratch setting fun ≤ whole.scratch
    pub scratch : part.scratch ≤ whole.scratch

  left_of : {fun : FunTree} {n : ℕ} {a : Workspace} (b : Workspace) → CalleeNeeds fun n a → CalleeNeeds fun n (record { frames = max a.frames b.frames; scratch = max a.scratch b.scratch })
  left_of {fun} {n} {a} b c = record { part = c.part; needs = c.needs; frames = omega (arith, c.frames); own_scratch = omega (arith, c.own_scratch); scratch = omega (arith, c.scratch) }

  right_of : {fun : FunTree} {n : ℕ} (a : Workspace) {b : Workspace} → CalleeNeeds fun n b → CalleeNeeds fun n (record { frames = max a.frames b.frames; scratch = max a.scratch b.scratch })
  right_of {fun} {n} a {b} c = record { part = c.part; needs = c.needs; frames = omega (arith, c.frames); own_scratch = omega (arith, c.own_scratch); scratch = omega (arith, c.scratch) }

  pub callee_needs : {own n : ℕ} {s : StmtTree} {whole : Workspace} (fun : FunTree) → fun_named setting callee.text ≡ Some fun → callee_bound own bound ≡ Some n
      → HasCall target callee bound args s → Needs setting own s whole → CalleeNeeds fun n whole
  callee_needs {own} {n} fun named is IsCall (NeedsCall {a = a} other m named2 is2 needs) =
      let same : other ≡ fun = same_some named2 named in
      let k : m ≡ n = same_some is2 is in
      subst (λ (f : FunTree). CalleeNeeds fun n (entered setting f a)) (sym same)
      (record {
        part = a;
        needs = subst (λ (z : FunTree × ℕ). Needs setting z.1 z.0.body a) (λ i. (same i, k i)) needs;
        frames = omega arith;
        own_scratch = omega arith;
        scratch = omega arith;
      })
  callee_needs fun named is IsCall (NeedsCallZero none) = not_both none is
  callee_needs fun named is (InFirst call) (NeedsThen {a = a} {b = b} m n) = left_of b (callee_needs fun named is call m)
  callee_needs fun named is (InRest call) (NeedsThen {a = a} {b = b} m n) = right_of a (callee_needs fun named is call n)
  callee_needs fun named is (InElse call) (NeedsElse m) = callee_needs fun named is call m
  callee_needs fun named is (InYes call) (NeedsIf {a = a} {b = b} m n) = left_of b (callee_needs fun named is call m)
  callee_needs fun named is (InNo call) (NeedsIf {a = a} {b = b} m n) = right_of a (callee_needs fun named is call n)
  callee_needs fun named is (InSetup call) (NeedsWith {a = a} {b = b} m n) = left_of b (callee_needs fun named is call m)
  callee_needs fun named is (InWork call) (NeedsWith {a = a} {b = b} m n) = right_of a (callee_needs fun named is call n)
  callee_needs fun named is (InBlock call) (NeedsBlock m) = callee_needs fun named is call m

  -- a call is typed
  pub record CallIsTyped (types : Types) : Type 0 where
    pub ty : Ty
    pub target_is : types target.text ≡ Some ty
    pub call : CallFits setting types callee args ty

  pub call_typed : (types : Types) {s : StmtTree} → HasCall target callee bound args s → StmtFits setting types s → CallIsTyped types
  call_typed types IsCall fits = record { ty = fits.0; target_is = fits.1; call = fits.2 }
  call_typed types (InFirst call) fits = call_typed types call fits.0
  call_typed types (InRest call) fits = call_typed types call fits.1
  call_typed types (InElse call) fits = call_typed types call fits
  call_typed types (InYes call) fits = call_typed types call fits.1
  call_typed types (InNo call) fits = call_typed types call fits.2
  call_typed types (InSetup call) fits = call_typed types call fits.0
  call_typed types (InWork call) fits = call_typed types call fits.1
  call_typed types (InBlock call) fits = call_typed types call fits

  -- its target is no argument
  pub target_new : {s : StmtTree} → HasCall target callee bound args s → {held before after : Names} → Right held s before after → is_one_of target.text (texts args) ≡ false
  target_new IsCall {held} (RightLet {before = bare} a) = not_among held bare target true args a.operands
  target_new IsCall {held} (RightUnlet {after = bare} a) = not_among held bare target true args a.operands
  target_new (InFirst call) (RightThen middle p q) = target_new call p
  target_new (InRest call) (RightThen middle p q) = target_new call q
  target_new (InYes call) (RightIf cond p) = target_new call p
  target_new (InYes call) (RightIfElse cond p q) = target_new call p
  target_new (InNo (InElse call)) (RightIfElse cond p q) = target_new call q
  target_new (InNo IsCall) right = elim right [ ]
  target_new (InNo (InFirst call)) right = elim right [ ]
  target_new (InNo (InRest call)) right = elim right [ ]
  target_new (InNo (InYes call)) right = elim right [ ]
  target_new (InNo (InNo call)) right = elim right [ ]
  target_new (InNo (InSetup call)) right = elim right [ ]
  target_new (InNo (InWork call)) right = elim right [ ]
  target_new (InNo (InBlock call)) right = elim right [ ]
  target_new (InElse call) right = elim right [ ]
  target_new (InSetup call) (RightWith ready done p q r) = target_new call p
  target_new (InWork call) (RightWith ready done p q r) = target_new call q
  target_new (InBlock call) (RightBlock p) = target_new call p

-- the outer name of a linked name
pub record Link (callee caller : Types) (shared : List (Name × Name)) (wire own : Name → ℕ) (name : Name) : Type 0 where
  pub other : Name
  pub known : is_one_of other (outer shared) ≡ true
  pub wire_is : linked_wire shared wire own name ≡ wire other
  pub type_is : callee name ≡ caller other

module _ (setting : Setting) (callee caller : Types) (wire own : Name → ℕ) where
  -- a link of a list, and of its rest
  here : (link : Name × Name) (more : List (Name × Name)) (name : Name) → callee link.0 ≡ caller link.1 → bytes_eq link.0 name ≡ true → Link callee caller (link ∷ more) wire own name
  here link more name fit is = record {
    other = link.1;
    known = ap (λ k. k || is_one_of link.1 (outer more)) (name_test link.1);
    wire_is = ap (λ k. if k then wire link.1 else linked_wire more wire own name) is;
    type_is = ap callee (sym (same_name link.0 name is)) ∙ fit;
  }

  later : (link : Name × Name) (more : List (Name × Name)) (name : Name) → bytes_eq link.0 name ≡ false → Link callee caller more wire own name → Link callee caller (link ∷ more) wire own name
  later link more name unlike deeper = record {
    other = deeper.other;
    known = or_right (bytes_eq deeper.other link.1) (is_one_of deeper.other (outer more)) deeper.known;
    wire_is = ap (λ k. if k then wire link.1 else linked_wire more wire own name) unlike ∙ deeper.wire_is;
    type_is = deeper.type_is;
  }
    where
      or_right : (p q : Bool) → q ≡ true → (p || q) ≡ true
      or_right true q is = refl
      or_right false q is = is

  among_rest : (first : Name) (rest : List Name) (name : Name) → is_one_of name (first ∷ rest) ≡ true → bytes_eq first name ≡ false → is_one_of name rest ≡ true
  among_rest first rest name known unlike = ap (λ k. k || is_one_of name rest) (sym (bytes_eq-sym name first ∙ unlike)) ∙ known

  pub link_of : (shared : List (Name × Name)) (name : Name) → LinksFit setting callee caller shared → is_one_of name (inner shared) ≡ true → Link callee caller shared wire own name
  link_of [] name fit known = contradiction {test = true} refl (sym known)
  link_of (link ∷ more) name fit known =
      by_test (bytes_eq link.0 name) (here link more name fit.0)
      (λ unlike. later link more name unlike (link_of more name fit.1 (among_rest link.0 (inner more) name known unlike)))

  -- different names are linked to different ones
  pub record TwoLinks (shared : List (Name × Name)) (name other : Name) : Type 0 where
    pub first : Link callee caller shared wire own name
    pub second : Link callee caller shared wire own other
    pub differ : bytes_eq first.other second.other ≡ false

  pub two_links : (shared : List (Name × Name)) (name other : Name) → LinksFit setting callee caller shared → AreDifferent (outer shared) → is_one_of name (inner shared) ≡ true → is_one_of other (inner shared) ≡ true
      → bytes_eq name other ≡ false → TwoLinks shared name other
  unfolding here later link_of
  two_links [] name other fit different known also differ = contradiction {test = true} refl (sym known)
  two_links (link ∷ more) name other fit different known also differ =
      by_test (bytes_eq link.0 name)
      (λ is. by_test (bytes_eq link.0 other)
      (λ too. contradiction (ap (bytes_eq name) (sym (same_name link.0 other too) ∙ same_name link.0 name is) ∙ name_test name) differ)
      (λ unlike.
      let rest = link_of more other fit.1 (among_rest link.0 (inner more) other also unlike) in
      record {
        first = here link more name fit.0 is;
        second = later link more other unlike rest;
        differ = names_differ (λ n. is_one_of n (outer more)) link.1 rest.other different.0 rest.known;
      }))
      (λ unlike. by_test (bytes_eq link.0 other)
      (λ is.
      let rest = link_of more name fit.1 (among_rest link.0 (inner more) name known unlike) in
      record {
        first = later link more name unlike rest;
        second = here link more other fit.0 is;
        differ = bytes_eq-sym rest.other link.1 ∙ names_differ (λ n. is_one_of n (outer more)) link.1 rest.other different.0 rest.known;
      })
      (λ other_unlike.
      let deeper = two_links more name other fit.1 different.1 (among_rest link.0 (inner more) name known unlike) (among_rest link.0 (inner more) other also other_unlike) differ in
      record { first = later link more name unlike deeper.first; second = later link more other other_unlike deeper.second; differ = deeper.differ }))

-- the inner names of a call are the parameters and the result
inner_names : (setting : Setting) (types : Types) (params : List ParamTree) (args : List NameTree) → ArgsFit setting types params args → inner (param_links params args) ≡ map (λ param. param.name.text) params
inner_names setting types [] [] fit = refl
inner_names setting types (param ∷ params) (arg ∷ args) fit = ap (λ names. param.name.text ∷ names) (inner_names setting types params args fit.1)
inner_names setting types [] (arg ∷ args) fit = absurd fit
inner_names setting types (param ∷ params) [] fit = absurd fit

last_first : (name last : Name) (names : List Name) → is_one_of name (last ∷ names) ≡ is_one_of name (names ++ last ∷ [])
last_first name last names = by (bytes_eq name last) (is_one_of name names) ∙ sym (is_one_of-append name names (last ∷ []))
  where
    by : (p q : Bool) → (p || q) ≡ (q || (p || false))
    by true true = refl
    by true false = refl
    by false true = refl
    by false false = refl

module _ (setting : Setting) (layout : WireLayout) where
  -- the linked names of a callee lie apart on the wires of its caller
  module _ (caller fun : FunTree) (frame : Frame) (is_frame : IsFrame setting layout caller frame) (types_are : frame.types ≡ fun_types setting caller) (fun_fits : FunFits setting fun)
      (target callee : NameTree) (args : List NameTree) (ty : Ty) (target_is : fun_types setting caller target.text ≡ Some ty) (call : CallFits setting (fun_types setting caller) callee args ty) (named : fun_named setting callee.text ≡ Some fun)
      (new : is_one_of target.text (texts args) ≡ false) where
    same : call.fun ≡ fun
    same = same_some call.named named

    args_fit : ArgsFit setting (fun_types setting caller) fun.params args
    args_fit = subst (λ (f : FunTree). ArgsFit setting (fun_types setting caller) f.params args) same call.fit

    abbrev shared : List (Name × Name)
    shared = links fun target args

    fit : LinksFit setting (fun_types setting fun) frame.types shared
    fit =
        subst (λ types. LinksFit setting (fun_types setting fun) types shared) (sym types_are)
        (links_fit setting (fun_types setting caller) fun target args ty fun_fits target_is (ap (λ (f : FunTree). type_of setting f.result) (sym same) ∙ call.result) args_fit)

    outer_different : AreDifferent (outer shared)
    outer_different = subst (λ names. (is_one_of target.text names ≡ false) × AreDifferent names) (sym (outer_params setting (fun_types setting caller) fun.params args args_fit)) (new, call.once)

    inner_are : (name : Name) → is_one_of name (inner shared) ≡ is_one_of name (names_at_end fun)
    inner_are name =
        ap (λ names. is_one_of name (fun.returned.text ∷ names)) (inner_names setting (fun_types setting caller) fun.params args args_fit) ∙ last_first name fun.returned.text (param_names fun)

    module _ (own : Name → ℕ) where
      -- a wire of a linked name is one of the caller's name
      of_caller : (name : Name) (wire : ℕ) (link : Link (fun_types setting fun) frame.types shared frame.wire own name) → IsIn (linked_wire shared frame.wire own name) (name_size setting.widths (fun_types setting fun) name) wire
          → Owns setting.widths frame link.other wire
      of_caller name wire link lies =
          subst (λ type. IsIn (frame.wire link.other) (type_size setting.widths type) wire) link.type_is
          (subst (λ first. IsIn first (name_size setting.widths (fun_types setting fun) name) wire) link.wire_is lies)

      pub callee_linked : AreLinked setting layout fun shared (linked_wire shared frame.wire own) frame.next
      callee_linked = record {
        linked = inner_are;
        apart = λ name other known also differ wire p q.
            let two = two_links setting (fun_types setting fun) frame.types frame.wire own shared name other fit outer_different known also differ in
            is_frame.apart two.first.other two.second.other two.differ wire (of_caller name wire two.first p) (of_caller other wire two.second q);
        within = λ name wire known lies.
            let link = link_of setting (fun_types setting fun) frame.types frame.wire own shared name fit known in
            let owns = of_caller name wire link lies in
            (is_frame.after_memory link.other wire owns, is_frame.before_next link.other wire owns);
      }

-- the names of an entry are linked to themselves
abbrev twice : Name → Name × Name
twice name = (name, name)

inner_twice : (names : List Name) → inner (map twice names) ≡ names
inner_twice [] = refl
inner_twice (name ∷ names) = ap (λ rest. name ∷ rest) (inner_twice names)

linked_twice : (names : List Name) (wire own : Name → ℕ) (name : Name) → is_one_of name names ≡ true → linked_wire (map twice names) wire own name ≡ wire name
linked_twice [] wire own name known = contradiction {test = true} refl (sym known)
linked_twice (first ∷ names) wire own name known =
    by (bytes_eq first name) refl
    (λ unlike. linked_twice names wire own name (ap (λ k. k || is_one_of name names) (sym (bytes_eq-sym name first ∙ unlike)) ∙ known))
  where
    by : (k : Bool) → bytes_eq first name ≡ k → (bytes_eq first name ≡ false → linked_wire (map twice names) wire own name ≡ wire name) → (if k then wire first else linked_wire (map twice names) wire own name) ≡ wire name
    by true is deeper = ap wire (same_name first name is)
    by false unlike deeper = deeper unlike

names_size-last : (widths : _) (types : Types) (names : List Name) (last : Name) → names_size widths types (names ++ last ∷ []) ≡ names_size widths types names + name_size widths types last
names_size-last widths types [] last = omega arith
names_size-last widths types (name ∷ names) last = let rest = names_size-last widths types names last in omega (arith, rest)

module _ (setting : Setting) (layout : WireLayout) (fun : FunTree) (args_at : layout.out ≡ layout.args + names_size setting.widths (fun_types setting fun) (names_at_start fun))
    (out_at : layout.frame ≡ layout.out + name_size setting.widths (fun_types setting fun) fun.returned.text) where
  abbrev formals : List Name
  formals = names_at_end fun

  abbrev first_wires : Name → ℕ
  first_wires = wire_from setting.widths (fun_types setting fun) layout.args formals

  pub entry_linked : (own : Name → ℕ) → AreLinked setting layout fun (map twice formals) (linked_wire (map twice formals) first_wires own) layout.frame
  entry_linked own = record {
    linked = λ name. ap (is_one_of name) (inner_twice formals);
    apart = λ name other known also differ wire p q.
        wires_apart setting.widths (fun_types setting fun) formals name other layout.args (formal name known) (formal other also) differ wire (moved name known wire p) (moved other also wire q);
    within = λ name wire known lies.
        let within = wire_within setting.widths (fun_types setting fun) formals name layout.args (formal name known) in
        let owns = moved name known wire lies in
        let all = names_size-last setting.widths (fun_types setting fun) (names_at_start fun) fun.returned.text in
        (omega (arith, within.0, owns.from_start), omega (arith, within.1, owns.before_end, all, args_at, out_at));
  }
    where
      formal : (name : Name) → is_one_of name (inner (map twice formals)) ≡ true → is_one_of name formals ≡ true
      formal name known = ap (is_one_of name) (sym (inner_twice formals)) ∙ known

      moved : (name : Name) → is_one_of name (inner (map twice formals)) ≡ true → (wire : ℕ) → IsIn (linked_wire (map twice formals) first_wires own name) (name_size setting.widths (fun_types setting fun) name) wire
          → IsIn (first_wires name) (name_size setting.widths (fun_types setting fun) name) wire
      moved name known wire lies = subst (λ first. IsIn first (name_size setting.widths (fun_types setting fun) name) wire) (linked_twice formals first_wires own name (formal name known)) lies

module _ (setting : Setting) (is_sound : IsSound setting) (functions : (k : ℕ) (fun : FunTree) → slice_get setting.funs k ≡ Some fun → IsFunction setting fun) (entry : Entry) (options : Options) (level : Level) (most_controls : ℕ)
    (layout : WireLayout) (laid : IsLaidOut setting entry options level most_controls layout) where
  -- what is known of a function that is reached
  record IsThere (fun : FunTree) (own : ℕ) (frame : Frame) : Type 0 where
    pub function : IsFunction setting fun
    pub types_are : frame.types ≡ fun_types setting fun
    pub is_frame : IsFrame setting layout fun frame
    pub workspace : Workspace
    pub needs : Needs setting own fun.body workspace
    pub room : frame.next + workspace.frames ≤ layout.scratch
    pub scratch : layout.scratch + workspace.scratch ≤ layout.flags

  fits : {fun : FunTree} → IsFunction setting fun → FunFits setting fun
  fits {fun} function = is_sound.fit function.name fun function.named

  formals_different : {fun : FunTree} → IsFunction setting fun → AreDifferent (names_at_end fun)
  formals_different {fun} function = names_different side.End fun (fits function).different

  regions : AreInOrder setting.widths layout
  regions = subst (AreInOrder setting.widths) (sym laid.is) (in_order-regions setting.widths _)

  -- what the entry needs
  record EntryNeeds (fun : FunTree) (own : ℕ) (whole : Workspace) : Type 0 where
    pub part : Workspace
    pub needs : Needs setting own fun.body part
    pub is : whole ≡ entered setting fun part

  entry_needs : {fun : FunTree} {own : ℕ} {whole : Workspace} → running_bound entry.bound ≡ Some own → NeedsEntry setting fun entry.bound whole → EntryNeeds fun own whole
  entry_needs {fun} running (NeedsBody {a = a} n is needs) = record { part = a; needs = subst (λ k. Needs setting k fun.body a) (same_some is running) needs; is = refl }
  entry_needs running (NeedsNoBody none) = not_both none running

  -- where the regions of the entry are
  record Regions (fun : FunTree) : Type 0 where
    pub args : layout.out ≡ layout.args + names_size setting.widths (fun_types setting fun) (names_at_start fun)
    pub out : layout.frame ≡ layout.out + name_size setting.widths (fun_types setting fun) fun.returned.text
    pub frames : layout.scratch ≡ layout.frame + laid.workspace.frames
    pub scratch : layout.flags ≡ layout.scratch + laid.workspace.scratch

  regions_of : (fun : FunTree) → laid.fun ≡ fun → Regions fun
  regions_of fun same = record {
    args = subst (λ l. l.out ≡ l.args + names_size setting.widths (fun_types setting fun) (names_at_start fun)) (sym is) refl;
    out = subst (λ l. l.frame ≡ l.out + name_size setting.widths (fun_types setting fun) fun.returned.text) (sym is) refl;
    frames = subst (λ l. l.scratch ≡ l.frame + laid.workspace.frames) (sym is) refl;
    scratch = subst (λ l. l.flags ≡ l.scratch + laid.workspace.scratch) (sym is) refl;
  }
    where
      is : layout ≡ in_order setting.widths (region_sizes setting fun laid.workspace (flag_count options laid.measured.if_depth) (ladder_size level most_controls))
      is = laid.is ∙ ap (λ f. in_order setting.widths (region_sizes setting f laid.workspace (flag_count options laid.measured.if_depth) (ladder_size level most_controls))) same

  entry_there : {fun : FunTree} {own : ℕ} → slice_get setting.funs entry.fun ≡ Some fun → running_bound entry.bound ≡ Some own → IsThere fun own (entry_frame setting fun layout)
  entry_there {fun} {own} at running =
      let same : laid.fun ≡ fun = same_some laid.at at in
      let function = functions entry.fun fun at in
      let regions_are = regions_of fun same in
      let need = entry_needs running (subst (λ f. NeedsEntry setting f entry.bound laid.workspace) same laid.needs) in
      let frames = ap (λ (w : Workspace). w.frames) need.is in
      let scratch = ap (λ (w : Workspace). w.scratch) need.is in
      let links = entry_linked setting layout fun regions_are.args regions_are.out (wire_from setting.widths (fun_types setting fun) layout.frame (local_names setting fun)) in
      record {
        function = function;
        types_are = refl;
        is_frame = frame_is setting layout fun (map twice (names_at_end fun)) (wire_from setting.widths (fun_types setting fun) layout.args (names_at_end fun)) layout.frame
            (formals_different function) links (omega arith) (omega (arith, regions.args, regions.out)) (omega (arith, regions_are.frames, frames)) (omega (arith, regions_are.scratch, scratch));
        workspace = need.part;
        needs = need.needs;
        room = omega (arith, regions_are.frames, frames);
        scratch = omega (arith, regions_are.scratch, scratch);
      }

  function_named : {fun : FunTree} (name : Name) → fun_named setting name ≡ Some fun → IsFunction setting fun
  function_named {fun} name named =
      by_option (number_of setting.funs name) (λ none. absurd (none-some fun (ap (option_and_then (slice_get setting.funs)) (sym none) ∙ named)))
      (λ k is. record { name = name; number = k; numbered = is; named = named })

  callee_there : {caller fun : FunTree} {own n : ℕ} {frame : Frame} (target callee : NameTree) (bound : Option BoundTree) (args : List NameTree) → IsThere caller own frame → HasCall target callee bound args caller.body
      → fun_named setting callee.text ≡ Some fun → callee_bound own bound ≡ Some n → IsThere fun n (callee_frame setting frame fun target args)
  callee_there {caller} {fun} {own} {n} {frame} target callee bound args there call named is =
      let function = function_named callee.text named in
      let typed = call_typed setting target callee bound args (fun_types setting caller) call (fits there.function).body in
      let new = target_new setting target callee bound args call (is_sound.right there.function.name caller there.function.named) in
      let need = callee_needs setting target callee bound args fun named is call there.needs in
      let linked = callee_linked setting layout caller fun frame there.is_frame there.types_are (fits function) target callee args typed.ty typed.target_is typed.call named new
      (wire_from setting.widths (fun_types setting fun) frame.next (local_names setting fun)) in
      record {
        function = function;
        types_are = refl;
        is_frame = frame_is setting layout fun (links fun target args) frame.wire frame.next (formals_different function) linked
            (omega (arith, there.is_frame.ifs_after_result, there.is_frame.ifs_before_next)) (omega (arith, regions.args, regions.out)) (omega (arith, there.room, need.frames)) (omega (arith, there.scratch, need.own_scratch));
        workspace = need.part;
        needs = need.needs;
        room = omega (arith, there.room, need.frames);
        scratch = omega (arith, there.scratch, need.scratch);
      }

  is_there : {fun : FunTree} {own : ℕ} {frame : Frame} → IsReached setting entry layout fun own frame → IsThere fun own frame
  is_there (ReachesEntry at running) = entry_there at running
  is_there (ReachesCallee {target = target} {callee = callee} {bound = bound} {args = args} reached call named is) = callee_there target callee bound args (is_there reached) call named is

  pub are_frames : AreFrames setting entry layout
  are_frames fun own frame reached = (is_there reached).is_frame

-- there is one proof that frames are in a layout
different_prop : (names : List Name) → IsProp (AreDifferentNames names)
different_prop [] x y = refl
different_prop (name ∷ names) x y = λ i. (each_prop names x.0 y.0 i, different_prop names x.1 y.1 i)
  where
    each_prop : (others : List Name) → IsProp (AllByRecursion (λ other. bytes_eq name other ≡ false) others)
    each_prop [] p q = refl
    each_prop (other ∷ others) p q = λ i. (Bool-set _ _ p.0 q.0 i, each_prop others p.1 q.1 i)

never_twice : (p q : ⊥) → p ≡ q
never_twice p q = absurd p

frame_prop : (setting : Setting) (layout : WireLayout) (fun : FunTree) (frame : Frame) → IsProp (IsFrame setting layout fun frame)
frame_prop setting layout fun frame x y = λ i. record {
  different = different_prop frame.names x.different y.different i;
  known = λ name ty is. Bool-set _ _ (x.known name ty is) (y.known name ty is) i;
  apart = λ name other differ wire p q. never_twice (x.apart name other differ wire p q) (y.apart name other differ wire p q) i;
  ifs_apart = λ name wire p q. never_twice (x.ifs_apart name wire p q) (y.ifs_apart name wire p q) i;
  after_memory = λ name wire owns. le_prop (x.after_memory name wire owns) (y.after_memory name wire owns) i;
  before_next = λ name wire owns. le_prop (x.before_next name wire owns) (y.before_next name wire owns) i;
  ifs_after_result = le_prop x.ifs_after_result y.ifs_after_result i;
  ifs_before_next = ℕ_set _ _ x.ifs_before_next y.ifs_before_next i;
  next_before_scratch = le_prop x.next_before_scratch y.next_before_scratch i;
  scratch = le_prop x.scratch y.scratch i;
}

frames_prop : (setting : Setting) (entry : Entry) (layout : WireLayout) → IsProp (AreFrames setting entry layout)
frames_prop setting entry layout x y = λ i fun own frame reached. frame_prop setting layout fun frame (x fun own frame reached) (y fun own frame reached) i

-- in an accepted program
pub checked_frames : (checked : Checked) (entry : Entry) (options : Options) (level : Level) (most_controls : ℕ) (layout : WireLayout) → IsLaidOut (resolved_setting checked.resolved) entry options level most_controls layout
    → AreFrames (resolved_setting checked.resolved) entry layout
checked_frames checked entry options level most_controls layout laid =
    ∥∥₁_elim checked.resolved.typed (frames_prop setting entry layout)
    (λ are. ∥∥₁_elim checked.right (frames_prop setting entry layout)
    (λ right.
    let types = types_in tables.types.table.entries in
    are_frames setting (sound tables.types.widths program types are.typed right) (function_of tables.types.widths program types are.typed) entry options level most_controls layout laid))
  where
    program : ProgramTree
    program = program_tree checked.resolved.program.now

    tables : Tables
    tables = checked.resolved.tables

    setting : Setting
    setting = resolved_setting checked.resolved
