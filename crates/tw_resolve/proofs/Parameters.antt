-- Checks of parameters, one after the other.
use Rattle.std.proofs.Common.{◌≡◌, ◌∙◌, ◌<◌, ◌+◌, ap, sym, subst, refl, ℕ, List, [], ◌∷◌, ◌++◌, map, drop, fold, length, get_or, Result, Ok, Err}
use Rattle.std.specs.Result.{IsErrAnd}
use Rattle.std.proofs.lemmas.List.{at_drop_more}
use Rattle.tw_text.specs.declared.refusal.Fault.{Fault}
use Rattle.tw_syntax.specs.declared.program.Param.{Param}
use Rattle.tw_syntax.specs.Programs.{ParamTree, param_tree}
use Rattle.tw_resolve.specs.Declarations.{Name}
use Rattle.tw_resolve.specs.Demands.{first_broken, Tries}
use Rattle.tw_resolve.specs.Setting.{Setting, type_of}
use Rattle.tw_resolve.specs.Expressions.{Variables}
use Rattle.tw_resolve.specs.Statements.{with_variable}
use Rattle.tw_resolve.specs.Programs.{param_rules, params_rules, with_param, param_variables}
use Rattle.tw_resolve.proofs.Demands.{first_broken-after_none}
use Rattle.tw_resolve.proofs.Trying.{stopped, tries_same}

-- of these parameters the last ones are left, after these names and variables
pub record AreLeft (setting : Setting) (params rest : List ParamTree) (earlier : List Name) (variables : Variables) : Type 0 where
  pub demands : first_broken (params_rules setting [] params) ≡ first_broken (params_rules setting earlier rest)
  pub after : param_variables setting params ≡ fold (with_param setting) variables rest

-- a parameter whose rules hold
pub left_next : {A : Type 0} (setting : Setting) (params rest : List ParamTree) (earlier later : List Name) (old new : Variables) (param : ParamTree) (x : A)
    → AreLeft setting params (param ∷ rest) earlier old → Tries (param_rules setting earlier param) (Ok x)
    → later ≡ earlier ++ param.name.text ∷ [] → new ≡ with_variable old param.name.text (type_of setting param.ty)
    → AreLeft setting params rest later new
left_next setting params rest earlier later old new param x left tries added is = record {
  demands = left.demands ∙ first_broken-after_none (param_rules setting earlier param) (params_rules setting (earlier ++ param.name.text ∷ []) rest) tries.kept
      ∙ ap (λ names. first_broken (params_rules setting names rest)) (sym added);
  after = left.after ∙ ap (λ (v : Variables). fold (with_param setting) v rest) (sym is);
}

-- all parameters are left
pub all_left : (setting : Setting) (params : List ParamTree) (earlier : List Name) (variables : Variables) → earlier ≡ [] → variables ≡ []
    → AreLeft setting params params earlier variables
all_left setting params earlier variables none no_types = record {
  demands = rw none refl;
  after = ap (λ (v : Variables). fold (with_param setting) v params) (sym no_types);
}

-- the parameters that are left, in place of equal ones
pub left_at : (setting : Setting) (params rest other : List ParamTree) (earlier : List Name) (variables : Variables) → rest ≡ other
    → AreLeft setting params rest earlier variables → AreLeft setting params other earlier variables
left_at setting params rest other earlier variables same left = subst (λ (xs : List ParamTree). AreLeft setting params xs earlier variables) same left

-- no parameters are left
pub none_left : (setting : Setting) (params : List ParamTree) (earlier : List Name) (variables : Variables)
    → AreLeft setting params [] earlier variables → variables ≡ param_variables setting params
none_left setting params earlier variables left = sym left.after

-- the parameters that are left: the next one, and the others
pub params_next : (params : List Param) (i : ℕ) (other : Param) → i < length params
    → map param_tree (drop i params) ≡ param_tree (get_or params i other) ∷ map param_tree (drop (i + 1) params)
params_next params i other within = at_drop_more (map param_tree) params i other within

-- a parameter that breaks a rule
pub left_stopped : {A B : Type 0} (setting : Setting) (params rest : List ParamTree) (earlier : List Name) (variables : Variables) (param : ParamTree) (fault : Fault) (result : Result B Fault)
    → AreLeft setting params (param ∷ rest) earlier variables → Tries {A = A} (param_rules setting earlier param) (Err fault) → IsErrAnd result (λ e. e ≡ fault)
    → Tries (params_rules setting [] params) result
left_stopped setting params rest earlier variables param fault result left tries is =
    tries_same _ _ result left.demands (stopped (param_rules setting earlier param) (params_rules setting (earlier ++ param.name.text ∷ []) rest) fault result tries is)
