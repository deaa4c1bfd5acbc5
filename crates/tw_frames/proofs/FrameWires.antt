-- The wires of a frame: the names that lie one after the other are apart, and so are the linked names, the local variables and the `if`s.
use Rattle.std.proofs.Common.{◌≡◌, ◌∙◌, ◌≤◌, ◌<◌, ◌+◌, refl, sym, ap, subst, arith, ℕ, Bool, true, false, ◌||◌, not, if◌then◌else◌, filter, List, [], ◌∷◌, ◌++◌, map, Some, bytes_eq}
use Rattle.std.specs.List.{AllByRecursion}
use Rattle.std.proofs.lemmas.Bool.{or_parts}
use Rattle.tw_syntax.specs.Programs.{FunTree}
use Rattle.tw_types.specs.Types.{Widths, Ty}
use Rattle.tw_resolve.specs.Declarations.{AreDifferent, is_one_of}
use Rattle.tw_resolve.specs.Expressions.{Types, Variables, texts_of, variable_type}
use Rattle.tw_resolve.specs.Programs.{end_variables}
use Rattle.tw_resolve.specs.Setting.{Setting}
use Rattle.tw_resolve.proofs.Texts.{bytes_eq-sym}
use Rattle.tw_check.proofs.NameSets.{is_one_of-append, names_differ}
use Rattle.tw_check.specs.Liveness.{param_names}
use Rattle.tw_state.specs.Listed.{names_at_end}
use Rattle.tw_state.specs.States.{Name}
use Rattle.tw_state.specs.Steps.{fun_types}
use Rattle.tw_state.proofs.Basics.{by_option, by_test, contradiction, same_name, name_test}
use Rattle.tw_state.proofs.Calls.{AreDifferent as AreOthers, inner}
use Rattle.tw_frames.specs.declared.regions.WireLayout.{WireLayout}
use Rattle.tw_frames.specs.Frames.{Frame, frame_from, frame_size, linked_wire, local_names}
use Rattle.tw_code.specs.Functions.{IsIn, AreDisjoint}
use Rattle.tw_frames.specs.Regions.{Owns, IsFrame}
use Rattle.tw_frames.specs.Scratch.{fun_scratch}
use Rattle.tw_frames.specs.Sizes.{name_size, names_size, type_size, wire_from}
use Rattle.tw_frames.proofs.Locals.{variables_different}
use Rattle.tw_frames.proofs.Wires.{one_of_others}

module _ (widths : Widths) (types : Types) where
  -- a name among others lies within their wires
  pub wire_within : (names : List Name) (name : Name) (first : ℕ) → is_one_of name names ≡ true
      → (first ≤ wire_from widths types first names name) × (wire_from widths types first names name + name_size widths types name ≤ first + names_size widths types names)
  wire_within [] name first known = contradiction {test = true} refl (sym known)
  wire_within (other ∷ names) name first known =
      by (bytes_eq other name) (wire_from widths types (first + name_size widths types other) names name)
      (λ differs. wire_within names name (first + name_size widths types other) (one_of_others name other names known differs)) refl
    where
      by : (test : Bool) (next : ℕ) → (bytes_eq other name ≡ false → (first + name_size widths types other ≤ next) × (next + name_size widths types name ≤ first + name_size widths types other + names_size widths types names))
          → bytes_eq other name ≡ test
          → (first ≤ (if test then first else next)) × ((if test then first else next) + name_size widths types name ≤ first + (name_size widths types other + names_size widths types names))
      by true next deeper tested = let same = ap (name_size widths types) (same_name other name tested) in (omega arith, omega (arith, same))
      by false next deeper tested = let there = deeper tested in (omega (arith, there.0), omega (arith, there.1))

  -- two names among others lie apart
  pub wires_apart : (names : List Name) (name other : Name) (first : ℕ) → is_one_of name names ≡ true → is_one_of other names ≡ true → bytes_eq name other ≡ false
      → AreDisjoint (IsIn (wire_from widths types first names name) (name_size widths types name)) (IsIn (wire_from widths types first names other) (name_size widths types other))
  wires_apart [] name other first known also differ = contradiction {test = true} refl (sym known)
  wires_apart (head ∷ names) name other first known also differ =
      by (bytes_eq head name) (bytes_eq head other) (wire_from widths types next names name) (wire_from widths types next names other) refl refl
      (λ no. (wire_within names name next (one_of_others name head names known no)).0)
      (λ no. (wire_within names other next (one_of_others other head names also no)).0)
      (λ no not_other. wires_apart names name other next (one_of_others name head names known no) (one_of_others other head names also not_other) differ)
    where
      next : ℕ
      next = first + name_size widths types head

      by : (k l : Bool) (m n : ℕ) → bytes_eq head name ≡ k → bytes_eq head other ≡ l → (bytes_eq head name ≡ false → next ≤ m) → (bytes_eq head other ≡ false → next ≤ n)
          → (bytes_eq head name ≡ false → bytes_eq head other ≡ false → AreDisjoint (IsIn m (name_size widths types name)) (IsIn n (name_size widths types other)))
          → AreDisjoint (IsIn (if k then first else m) (name_size widths types name)) (IsIn (if l then first else n) (name_size widths types other))
      by true true m n p q above also_above deeper = contradiction (ap (bytes_eq name) (sym (same_name head other q) ∙ same_name head name p) ∙ name_test name) differ
      by true false m n p q above also_above deeper = λ wire x y.
          let after = also_above q in
          let same = ap (name_size widths types) (same_name head name p) in
          omega (arith, after, same, x.before_end, y.from_start)
      by false true m n p q above also_above deeper = λ wire x y.
          let after = above p in
          let same = ap (name_size widths types) (same_name head other q) in
          omega (arith, after, same, x.from_start, y.before_end)
      by false false m n p q above also_above deeper = deeper p q

  -- a name that has wires has a type
  pub owner_typed : (name : Name) (first wire : ℕ) → IsIn first (name_size widths types name) wire → (ty : Ty) × (types name ≡ Some ty)
  owner_typed name first wire lies =
      by_option (types name)
      (λ none. let empty = ap (type_size widths) none in absurd (omega (arith, empty, lies.from_start, lies.before_end)))
      (λ ty is. (ty, is))

-- a variable with a type is one of the variables
pub typed_known : (variables : Variables) (name : Name) (ty : Ty) → variable_type variables name ≡ Some ty → is_one_of name (texts_of variables) ≡ true
typed_known [] name ty is = absurd (cc is)
typed_known (first ∷ variables) name ty is = by (bytes_eq name first.0) is (typed_known variables name ty)
  where
    by : (k : Bool) → (if k then Some first.1 else variable_type variables name) ≡ Some ty → (variable_type variables name ≡ Some ty → is_one_of name (texts_of variables) ≡ true) → (k || is_one_of name (texts_of variables)) ≡ true
    by true is deeper = refl
    by false is deeper = deeper is

-- a variable that passes a test on names is one of those that pass it
filter_known : (test : Name → Bool) (variables : Variables) (name : Name) → test name ≡ true → is_one_of name (texts_of variables) ≡ true → is_one_of name (texts_of (filter (λ variable. test variable.0) variables)) ≡ true
filter_known test [] name passes known = known
filter_known test (first ∷ variables) name passes known = by (test first.0) (bytes_eq name first.0) refl refl known (filter_known test variables name passes)
  where
    by : (k l : Bool) → test first.0 ≡ k → bytes_eq name first.0 ≡ l → (l || is_one_of name (texts_of variables)) ≡ true
        → (is_one_of name (texts_of variables) ≡ true → is_one_of name (texts_of (filter (λ variable. test variable.0) variables)) ≡ true)
        → is_one_of name (texts_of (if k then first ∷ filter (λ variable. test variable.0) variables else filter (λ variable. test variable.0) variables)) ≡ true
    by true true p q known deeper = ap (λ k. k || is_one_of name (texts_of (filter (λ variable. test variable.0) variables))) q
    by true false p q known deeper = ap (λ k. k || is_one_of name (texts_of (filter (λ variable. test variable.0) variables))) q ∙ deeper known
    by false true p q known deeper = contradiction (ap test (sym (same_name name first.0 q)) ∙ passes) p
    by false false p q known deeper = deeper known

-- the variables that pass a test are still different, and pass it
filter_differs : (test : Name → Bool) (variables : Variables) (name : Name) → AllByRecursion (λ other. bytes_eq name other ≡ false) (texts_of variables) → AllByRecursion (λ other. bytes_eq name other ≡ false) (texts_of (filter (λ variable. test variable.0) variables))
filter_differs test [] name all = tt
filter_differs test (first ∷ variables) name all = by (test first.0) (filter_differs test variables name all.1)
  where
    by : (k : Bool) → AllByRecursion (λ other. bytes_eq name other ≡ false) (texts_of (filter (λ variable. test variable.0) variables))
        → AllByRecursion (λ other. bytes_eq name other ≡ false) (texts_of (if k then first ∷ filter (λ variable. test variable.0) variables else filter (λ variable. test variable.0) variables))
    by true rest = (all.0, rest)
    by false rest = rest

filter_different : (test : Name → Bool) (variables : Variables) → AreDifferent (texts_of variables) → AreDifferent (texts_of (filter (λ variable. test variable.0) variables))
filter_different test [] different = tt
filter_different test (first ∷ variables) different = by (test first.0) (filter_different test variables different.1)
  where
    by : (k : Bool) → AreDifferent (texts_of (filter (λ variable. test variable.0) variables)) → AreDifferent (texts_of (if k then first ∷ filter (λ variable. test variable.0) variables else filter (λ variable. test variable.0) variables))
    by true rest = (filter_differs test variables first.0 different.0, rest)
    by false rest = rest

filter_passes : (test : Name → Bool) (variables : Variables) → AllByRecursion (λ name. test name ≡ true) (texts_of (filter (λ variable. test variable.0) variables))
filter_passes test [] = tt
filter_passes test (first ∷ variables) = by (test first.0) refl (filter_passes test variables)
  where
    by : (k : Bool) → test first.0 ≡ k → AllByRecursion (λ name. test name ≡ true) (texts_of (filter (λ variable. test variable.0) variables))
        → AllByRecursion (λ name. test name ≡ true) (texts_of (if k then first ∷ filter (λ variable. test variable.0) variables else filter (λ variable. test variable.0) variables))
    by true passes rest = (passes, rest)
    by false fails rest = rest

-- names that are different, and others that are none of them
differs_from : (name : Name) (names : List Name) → is_one_of name names ≡ false → AllByRecursion (λ other. bytes_eq name other ≡ false) names
differs_from name [] none = tt
differs_from name (other ∷ names) none = let parts = or_parts (bytes_eq name other) (is_one_of name names) none in (parts.0, differs_from name names parts.1)

each_append : (P : Name → Type 0) (xs ys : List Name) → AllByRecursion P xs → AllByRecursion P ys → AllByRecursion P (xs ++ ys)
each_append P [] ys all others = others
each_append P (x ∷ xs) ys all others = (all.0, each_append P xs ys all.1 others)

apart_from_all : (name : Name) (xs ys : List Name) → is_one_of name xs ≡ true → AllByRecursion (λ other. is_one_of other xs ≡ false) ys → AllByRecursion (λ other. bytes_eq name other ≡ false) ys
apart_from_all name xs [] known all = tt
apart_from_all name xs (other ∷ ys) known all = (bytes_eq-sym name other ∙ names_differ (λ n. is_one_of n xs) other name all.0 known, apart_from_all name xs ys known all.1)

-- the names of the second list are none of the first
rest_fresh : (first : Name) (xs ys : List Name) → AllByRecursion (λ other. is_one_of other (first ∷ xs) ≡ false) ys → AllByRecursion (λ other. is_one_of other xs ≡ false) ys
rest_fresh first xs [] all = tt
rest_fresh first xs (y ∷ ys) all = ((or_parts (bytes_eq y first) (is_one_of y xs) all.0).1, rest_fresh first xs ys all.1)

pub different_append : (xs ys : List Name) → AreOthers xs → AreDifferent ys → AllByRecursion (λ other. is_one_of other xs ≡ false) ys → AreDifferent (xs ++ ys)
different_append [] ys different others fresh = others
different_append (x ∷ xs) ys different others fresh = (
  each_append (λ other. bytes_eq x other ≡ false) xs ys (differs_from x xs different.0) (apart_from_all x (x ∷ xs) ys (ap (λ k. k || is_one_of x xs) (name_test x)) fresh),
  different_append xs ys different.1 others (rest_fresh x xs ys fresh),
)

module _ (setting : Setting) (fun : FunTree) where
  -- whether a name is neither a parameter nor returned
  abbrev local_test : Name → Bool
  local_test name = not (is_one_of name (map (λ param. param.name.text) fun.params) || bytes_eq name fun.returned.text)

  locals_different : AreDifferent (local_names setting fun)
  locals_different = filter_different local_test (end_variables setting fun) (variables_different setting fun)

  -- the parameters and the result
  at_end : (name : Name) → is_one_of name (names_at_end fun) ≡ (is_one_of name (param_names fun) || bytes_eq name fun.returned.text)
  at_end name = is_one_of-append name (param_names fun) (fun.returned.text ∷ []) ∙ ap (λ k. is_one_of name (param_names fun) || k) (or_false (bytes_eq name fun.returned.text))
    where
      or_false : (k : Bool) → (k || false) ≡ k
      or_false true = refl
      or_false false = refl

  locals_fresh : AllByRecursion (λ name. is_one_of name (names_at_end fun) ≡ false) (local_names setting fun)
  locals_fresh = each (local_names setting fun) (filter_passes local_test (end_variables setting fun))
    where
      fails : (k : Bool) → not k ≡ true → k ≡ false
      fails true is = sym is
      fails false is = refl

      each : (names : List Name) → AllByRecursion (λ name. local_test name ≡ true) names → AllByRecursion (λ name. is_one_of name (names_at_end fun) ≡ false) names
      each [] all = tt
      each (name ∷ names) all = (at_end name ∙ fails (is_one_of name (param_names fun) || bytes_eq name fun.returned.text) all.0, each names all.1)

  pub frame_names_different : AreOthers (names_at_end fun) → AreDifferent (names_at_end fun ++ local_names setting fun)
  frame_names_different different = different_append (names_at_end fun) (local_names setting fun) different locals_different locals_fresh

  -- a variable is a parameter or the result, or local
  pub data Place (name : Name) : Type 0 where
    Shared : is_one_of name (names_at_end fun) ≡ true → Place name
    Local : is_one_of name (names_at_end fun) ≡ false → is_one_of name (local_names setting fun) ≡ true → Place name

  pub place_of : (name : Name) (ty : Ty) → fun_types setting fun name ≡ Some ty → Place name
  place_of name ty is =
      by_test (is_one_of name (names_at_end fun)) Shared
      (λ none. Local none (filter_known local_test (end_variables setting fun) name (passes (sym (at_end name) ∙ none)) (typed_known (end_variables setting fun) name ty is)))
    where
      passes : {k : Bool} → k ≡ false → not k ≡ true
      passes is = ap not is

  pub place_known : (name : Name) → Place name → is_one_of name (names_at_end fun ++ local_names setting fun) ≡ true
  place_known name (Shared one) = is_one_of-append name (names_at_end fun) (local_names setting fun) ∙ ap (λ k. k || is_one_of name (local_names setting fun)) one
  place_known name (Local none one) = is_one_of-append name (names_at_end fun) (local_names setting fun) ∙ ap (λ k. k || is_one_of name (local_names setting fun)) none ∙ one

-- a name that is not linked lies on its own wire
pub linked_other : (shared : List (Name × Name)) (caller own : Name → ℕ) (name : Name) → is_one_of name (inner shared) ≡ false → linked_wire shared caller own name ≡ own name
linked_other [] caller own name none = refl
linked_other (link ∷ more) caller own name none =
    let parts = or_parts (bytes_eq name link.0) (is_one_of name (inner more)) none in
    ap (λ k. if k then caller link.1 else linked_wire more caller own name) (bytes_eq-sym link.0 name ∙ parts.0) ∙ linked_other more caller own name parts.1

-- the linked names lie apart, after the memory, and before the frame
pub record AreLinked (setting : Setting) (layout : WireLayout) (fun : FunTree) (shared : List (Name × Name)) (wire : Name → ℕ) (first : ℕ) : Type 0 where
  pub linked : (name : Name) → is_one_of name (inner shared) ≡ is_one_of name (names_at_end fun)
  pub apart : (name other : Name) → is_one_of name (inner shared) ≡ true → is_one_of other (inner shared) ≡ true → bytes_eq name other ≡ false
      → AreDisjoint (IsIn (wire name) (name_size setting.widths (fun_types setting fun) name)) (IsIn (wire other) (name_size setting.widths (fun_types setting fun) other))
  pub within : (name : Name) (at : ℕ) → is_one_of name (inner shared) ≡ true → IsIn (wire name) (name_size setting.widths (fun_types setting fun) name) at → (layout.args ≤ at) × (at < first)

module _ (setting : Setting) (layout : WireLayout) (fun : FunTree) (shared : List (Name × Name)) (caller : Name → ℕ) (first : ℕ) where
  abbrev frame : Frame
  frame = frame_from setting fun shared caller first

  abbrev own : Name → ℕ
  own = wire_from setting.widths (fun_types setting fun) first (local_names setting fun)

  module _ (different : AreOthers (names_at_end fun)) (links : AreLinked setting layout fun shared frame.wire first)
      (after_result : layout.frame ≤ first) (after_memory : layout.args ≤ layout.frame) (before_scratch : first + frame_size setting fun ≤ layout.scratch)
      (scratch : layout.scratch + fun_scratch setting fun ≤ layout.flags) where
    -- a wire of a name is one of the linked names', or lies among those of the local variables
    data Lying (name : Name) (wire : ℕ) : Type 0 where
      AtLink : is_one_of name (inner shared) ≡ true → Lying name wire
      AtLocal : is_one_of name (local_names setting fun) ≡ true → frame.wire name ≡ own name → first ≤ wire → wire < frame.ifs → Lying name wire

    lying : (name : Name) (wire : ℕ) → Owns setting.widths frame name wire → Lying name wire
    lying name wire owns = let typed = owner_typed setting.widths (fun_types setting fun) name (frame.wire name) wire owns in by (place_of setting fun name typed.0 typed.1)
      where
        by : Place setting fun name → Lying name wire
        by (Shared one) = AtLink (links.linked name ∙ one)
        by (Local none one) =
            let is = linked_other shared caller own name (links.linked name ∙ none) in
            let within = wire_within setting.widths (fun_types setting fun) (local_names setting fun) name first one in
            AtLocal one is (omega (arith, is, within.0, owns.from_start)) (omega (arith, is, within.1, owns.before_end))

    names_apart : (name other : Name) → bytes_eq name other ≡ false → AreDisjoint (Owns setting.widths frame name) (Owns setting.widths frame other)
    names_apart name other differ wire p q = by (lying name wire p) (lying other wire q)
      where
        by : Lying name wire → Lying other wire → ⊥
        by (AtLink one) (AtLink also) = links.apart name other one also differ wire p q
        by (AtLink one) (AtLocal also is from below) = let before = (links.within name wire one p).1 in omega (arith, before, from)
        by (AtLocal one is from below) (AtLink also) = let before = (links.within other wire also q).1 in omega (arith, before, from)
        by (AtLocal one is from below) (AtLocal also is_other from_other below_other) =
            wires_apart setting.widths (fun_types setting fun) (local_names setting fun) name other first one also differ wire
            (subst (λ n. IsIn n (name_size setting.widths (fun_types setting fun) name) wire) is p)
            (subst (λ n. IsIn n (name_size setting.widths (fun_types setting fun) other) wire) is_other q)

    before_ifs : (name : Name) (wire : ℕ) → Owns setting.widths frame name wire → (layout.args ≤ wire) × (wire < frame.ifs)
    before_ifs name wire owns = by (lying name wire owns)
      where
        by : Lying name wire → (layout.args ≤ wire) × (wire < frame.ifs)
        by (AtLink one) = let there = links.within name wire one owns in (there.0, omega (arith, there.1))
        by (AtLocal one is from below) = (omega (arith, after_memory, after_result, from), below)

    -- this is a frame of the function
    pub frame_is : IsFrame setting layout fun frame
    frame_is = record {
      different = frame_names_different setting fun different;
      known = λ name ty is. place_known setting fun name (place_of setting fun name ty is);
      apart = names_apart;
      ifs_apart = λ name wire owns of_if. let before = (before_ifs name wire owns).1 in omega (arith, before, of_if.from_start);
      after_memory = λ name wire owns. (before_ifs name wire owns).0;
      before_next = λ name wire owns. let before = (before_ifs name wire owns).1 in omega (arith, before);
      ifs_after_result = omega (arith, after_result);
      ifs_before_next = refl;
      next_before_scratch = omega (arith, before_scratch);
      scratch = scratch;
    }
