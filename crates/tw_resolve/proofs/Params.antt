-- The variables of a function: its parameters come first, and the returned one has the type of the result.
use Rattle.std.proofs.Common.{◌≡◌, ◌∙◌, ◌++◌, ◌||◌, not, Bool, true, false, if◌then◌else◌, List, [], ◌∷◌, map, fold, Option, Some, None, is_some, ap, sym, refl, bytes_eq, append_assoc, append-nil}
use Rattle.std.specs.List.{AllByRecursion}
use Rattle.std.proofs.lemmas.Bool.{and_parts, eqb-true}
use Rattle.std.proofs.lemmas.List.{map-append}
use Rattle.tw_syntax.specs.Programs.{ParamTree, FunTree}
use Rattle.tw_syntax.specs.Statements.{StmtTree, Nothing, Then, Else, LetStmt, SwapStmt, MemSwapStmt, IfStmt, WithStmt, BlockStmt, SkipStmt}
use Rattle.tw_types.specs.Types.{Ty, UnitTy, Word, Boolean, Pointer, PairTy, same_ty}
use Rattle.tw_resolve.specs.Declarations.{Name, is_one_of}
use Rattle.tw_resolve.specs.Setting.{Setting, type_of, IsKnown, fits}
use Rattle.tw_resolve.specs.Expressions.{Variables, variable_type, rhs_type}
use Rattle.tw_resolve.specs.Statements.{with_variable, variables_after}
use Rattle.tw_resolve.specs.Programs.{params_rules, param_rules, with_param, param_variables, end_variables, return_rules}
use Rattle.tw_resolve.proofs.Demands.{Holds, EachHolds}
use Rattle.tw_resolve.proofs.Each.{each_first, each_rest}

-- two types that are the same
pub same_types : (ty other : Ty) → same_ty ty other ≡ true → ty ≡ other
same_types UnitTy UnitTy is = refl
same_types Word Word is = refl
same_types Boolean Boolean is = refl
same_types (Pointer target) (Pointer other) is = ap Pointer (eqb-true target other is)
same_types (PairTy first second) (PairTy other last) is =
    let parts = and_parts (same_ty first other) (same_ty second last) is in
    (λ i. PairTy (same_types first other parts.0 i) (same_types second last parts.1 i))
same_types UnitTy Word is = absurd (cc is)
same_types UnitTy Boolean is = absurd (cc is)
same_types UnitTy (Pointer other) is = absurd (cc is)
same_types UnitTy (PairTy other last) is = absurd (cc is)
same_types Word UnitTy is = absurd (cc is)
same_types Word Boolean is = absurd (cc is)
same_types Word (Pointer other) is = absurd (cc is)
same_types Word (PairTy other last) is = absurd (cc is)
same_types Boolean UnitTy is = absurd (cc is)
same_types Boolean Word is = absurd (cc is)
same_types Boolean (Pointer other) is = absurd (cc is)
same_types Boolean (PairTy other last) is = absurd (cc is)
same_types (Pointer target) UnitTy is = absurd (cc is)
same_types (Pointer target) Word is = absurd (cc is)
same_types (Pointer target) Boolean is = absurd (cc is)
same_types (Pointer target) (PairTy other last) is = absurd (cc is)
same_types (PairTy first second) UnitTy is = absurd (cc is)
same_types (PairTy first second) Word is = absurd (cc is)
same_types (PairTy first second) Boolean is = absurd (cc is)
same_types (PairTy first second) (Pointer other) is = absurd (cc is)

-- a known type that fits a known one is the same
fitting : (needed found : Option Ty) → is_some needed ≡ true → is_some found ≡ true → fits needed found ≡ true → found ≡ needed
fitting (Some ty) (Some other) one two is = ap Some (sym (same_types ty other is))
fitting None found one two is = absurd (cc one)
fitting (Some ty) None one two is = absurd (cc two)

-- the returned variable has the type of the result
pub returned_type : (setting : Setting) (fun : FunTree) (variables : Variables) → EachHolds (return_rules setting fun variables) → IsKnown setting fun.result
    → variable_type variables fun.returned.text ≡ type_of setting fun.result
returned_type setting fun variables each known =
    fitting (type_of setting fun.result) (variable_type variables fun.returned.text) known each.0 each.1.1.0

-- a variable has a type if it is declared
pub type_there : (variables : Variables) (name : Name) → is_some (variable_type variables name) ≡ is_one_of name (map (λ variable. variable.0) variables)
type_there [] name = refl
type_there (first ∷ variables) name = by (bytes_eq name first.0) (type_there variables name)
  where
    by : (k : Bool) → is_some (variable_type variables name) ≡ is_one_of name (map (λ variable. variable.0) variables)
        → is_some (if k then Some first.1 else variable_type variables name) ≡ (k || is_one_of name (map (λ variable. variable.0) variables))
    by true rest = refl
    by false rest = rest

-- the variables are these parameters, in order, with their types
pub record AreParams (setting : Setting) (params : List ParamTree) (variables : Variables) : Type 0 where
  pub names : map (λ variable. variable.0) variables ≡ map (λ param. param.name.text) params
  pub types : map (λ variable. Some variable.1) variables ≡ map (λ param. type_of setting param.ty) params

-- a new variable comes last
with_other : (variables : Variables) (name : Name) (found : Option Ty) (ty : Ty) → found ≡ Some ty → is_some (variable_type variables name) ≡ false
    → with_variable variables name found ≡ variables ++ (name, ty) ∷ []
with_other variables name found ty is new = rw (is, new) refl

typed : (found : Option Ty) → is_some found ≡ true → (ty : Ty) × (found ≡ Some ty)
typed (Some ty) is = (ty, refl)
typed None is = absurd (cc is)

module _ (setting : Setting) where
  -- so many parameters are added to the variables, in order
  abbrev Adds : List ParamTree → Variables → Type 0
  Adds params variables = (more : Variables) × (fold (with_param setting) variables params ≡ variables ++ more) × AreParams setting params more

  not_there : (variables : Variables) (earlier : List Name) (name : Name) → map (λ variable. variable.0) variables ≡ earlier → not (is_one_of name earlier) ≡ true
      → is_some (variable_type variables name) ≡ false
  not_there variables earlier name names new = type_there variables name ∙ ap (is_one_of name) names ∙ by (is_one_of name earlier) new
    where
      by : (k : Bool) → not k ≡ true → k ≡ false
      by false is = refl
      by true is = absurd (cc is)

  params_added : (earlier : List Name) (params : List ParamTree) (variables : Variables) → map (λ variable. variable.0) variables ≡ earlier
      → EachHolds (params_rules setting earlier params) → AllByRecursion (λ param. IsKnown setting param.ty) params → Adds params variables
  params_added earlier [] variables names each known = ([], sym (append-nil variables), record { names = refl; types = refl })
  params_added earlier (param ∷ params) variables names each known =
      let own = each_first Holds (param_rules setting earlier param) (params_rules setting (earlier ++ param.name.text ∷ []) params) each in
      let rest = each_rest Holds (param_rules setting earlier param) (params_rules setting (earlier ++ param.name.text ∷ []) params) each in
      let its = typed (type_of setting param.ty) known.0 in
      let next = with_other variables param.name.text (type_of setting param.ty) its.0 its.1 (not_there variables earlier param.name.text names own.0) in
      let names_next : map (λ variable. variable.0) (variables ++ (param.name.text, its.0) ∷ []) ≡ earlier ++ param.name.text ∷ []
      = map-append (λ variable. variable.0) variables ((param.name.text, its.0) ∷ []) ∙ ap (λ (xs : List Name). xs ++ param.name.text ∷ []) names in
      let others = params_added (earlier ++ param.name.text ∷ []) params (variables ++ (param.name.text, its.0) ∷ []) names_next rest known.1 in (
        (param.name.text, its.0) ∷ others.0,
        ap (λ (v : Variables). fold (with_param setting) v params) next ∙ others.1 ∙ append_assoc variables ((param.name.text, its.0) ∷ []) others.0,
        record {
          names = ap (λ (xs : List Name). param.name.text ∷ xs) others.2.names;
          types = (λ i. sym its.1 i ∷ others.2.types i);
        },
      )

  -- the variables where the body begins are the parameters
  pub params_first : (params : List ParamTree) → EachHolds (params_rules setting [] params) → AllByRecursion (λ param. IsKnown setting param.ty) params
      → AreParams setting params (param_variables setting params)
  params_first params each known =
      let added = params_added [] params [] refl each known in
      rw added.1 added.2

  -- a statement adds variables
  abbrev IsLonger : Variables → Variables → Type 0
  IsLonger variables longer = (more : Variables) × (longer ≡ variables ++ more)

  longer_twice : (one two three : Variables) → IsLonger one two → IsLonger two three → IsLonger one three
  longer_twice one two three first second =
      (first.0 ++ second.0, second.1 ∙ ap (λ (v : Variables). v ++ second.0) first.1 ∙ append_assoc one first.0 second.0)

  longer_with : (variables : Variables) (name : Name) (found : Option Ty) → IsLonger variables (with_variable variables name found)
  longer_with variables name None = ([], sym (append-nil variables))
  longer_with variables name (Some ty) = by (is_some (variable_type variables name))
    where
      by : (k : Bool) → IsLonger variables (if k then variables else variables ++ (name, ty) ∷ [])
      by true = ([], sym (append-nil variables))
      by false = ((name, ty) ∷ [], refl)

  stays : (variables : Variables) → IsLonger variables variables
  stays variables = ([], sym (append-nil variables))

  longer_after : (variables : Variables) (stmt : StmtTree) → IsLonger variables (variables_after setting variables stmt)
  longer_after variables Nothing = stays variables
  longer_after variables (Then first rest) = longer_twice _ _ _ (longer_after variables first) (longer_after (variables_after setting variables first) rest)
  longer_after variables (Else at stmts) = longer_after variables stmts
  longer_after variables (LetStmt at true target rhs) = longer_with variables target.text (rhs_type setting variables rhs)
  longer_after variables (LetStmt at false target rhs) = stays variables
  longer_after variables (SwapStmt at left right) = stays variables
  longer_after variables (MemSwapStmt at pointer value) = stays variables
  longer_after variables (IfStmt at cond first other) = longer_twice _ _ _ (longer_after variables first) (longer_after (variables_after setting variables first) other)
  longer_after variables (WithStmt at setup work) = longer_twice _ _ _ (longer_after variables setup) (longer_after (variables_after setting variables setup) work)
  longer_after variables (BlockStmt at body) = longer_after variables body
  longer_after variables (SkipStmt at) = stays variables

  -- the variables at the end are the parameters, and then others
  pub end_after_params : (fun : FunTree) → (more : Variables) × (end_variables setting fun ≡ param_variables setting fun.params ++ more)
  end_after_params fun = longer_after (param_variables setting fun.params) fun.body
