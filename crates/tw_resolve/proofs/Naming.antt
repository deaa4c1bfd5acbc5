-- The names in sets, and the parameters that are left.
use denote.Bor.{Bor}
use Rattle.std.proofs.Common.{◌≡◌, ◌∙◌, ◌<◌, ◌++◌, length, get_or, Option, Result, Ok, Err, sym, ap, add-one, refl, ℕ, zero, suc, ◌+◌, ◌||◌, List, [], ◌∷◌, map, drop, bytes_eq}
use Rattle.std.specs.List.{list_any}
use Rattle.std.specs.Result.{IsErrAnd}
use Rattle.std.proofs.lemmas.List.{at_drop_more}
use Rattle.tw_text.specs.declared.refusal.Fault.{Fault}
use Rattle.tw_types.specs.Types.{Ty}
use Rattle.tw_resolve.specs.Demands.{first_broken, Tries}
use Rattle.tw_resolve.proofs.Demands.{first_broken-after_none}
use Rattle.tw_resolve.proofs.Trying.{stopped}
use Rattle.tw_syntax.specs.declared.name.Name.{Name as NameOfCode}
use Rattle.tw_syntax.specs.Names.{name_tree}
use Rattle.tw_syntax.specs.declared.program.Param.{Param}
use Rattle.tw_syntax.specs.Programs.{param_tree}
use Rattle.tw_resolve.specs.Declarations.{Name, is_one_of}
use Rattle.tw_resolve.specs.Setting.{Setting}
use Rattle.tw_resolve.specs.Expressions.{Variables, arg_rules, args_rules, next_params, param_type}
use Rattle.tw_resolve.specs.Variables.{texts_in}

-- a key is found if its text is one of the names
pub any-texts : (keys : List (Bor (List ℕ))) (name : Name) → list_any (λ key. bytes_eq name key.now) keys ≡ is_one_of name (texts_in keys)
any-texts [] name = refl
any-texts (key ∷ keys) name = ap (λ rest. bytes_eq name key.now || rest) (any-texts keys name)

next_params-suc : (i : ℕ) (params : List Param) → next_params (map param_tree (drop i params)) ≡ map param_tree (drop (suc i) params)
next_params-suc zero [] = refl
next_params-suc zero (param ∷ params) = refl
next_params-suc (suc i) [] = refl
next_params-suc (suc i) (param ∷ params) = next_params-suc i params

-- the parameters after the next one
pub next_params-drop : (i : ℕ) (params : List Param) → next_params (map param_tree (drop i params)) ≡ map param_tree (drop (i + 1) params)
next_params-drop i params = rw (add-one i) (next_params-suc i params)

-- the rules of arguments: those of the next one, and then those of the others
pub args_next : (setting : Setting) (variables : Variables) (earlier : List Name) (params : List Param) (args : List NameOfCode) (i : ℕ) (other : NameOfCode)
    → i < length args
    → args_rules setting variables earlier (map param_tree (drop i params)) (map name_tree (drop i args))
    ≡ arg_rules variables earlier (param_type setting (map param_tree (drop i params))) (name_tree (get_or args i other))
    ++ args_rules setting variables (earlier ++ (get_or args i other).text.now ∷ []) (map param_tree (drop (i + 1) params)) (map name_tree (drop (i + 1) args))
args_next setting variables earlier params args i other within =
    let arg = get_or args i other in
    at_drop_more (λ rest. args_rules setting variables earlier (map param_tree (drop i params)) (map name_tree rest)) args i other within
    ∙ ap (λ next. arg_rules variables earlier (param_type setting (map param_tree (drop i params))) (name_tree arg)
    ++ args_rules setting variables (earlier ++ arg.text.now ∷ []) next (map name_tree (drop (i + 1) args))) (next_params-drop i params)

-- an argument that keeps its rules, and one that does not
module _ (setting : Setting) (variables : Variables) (earlier : List Name) (params : List Param) (args : List NameOfCode) (i : ℕ) (other : NameOfCode)
    (within : i < length args) (needed : Option Ty) (is : needed ≡ param_type setting (map param_tree (drop i params))) where
  pub arg_kept : {A : Type 0} (x : A) (later : List Name) → Tries (arg_rules variables earlier needed (name_tree (get_or args i other))) (Ok x)
      → later ≡ earlier ++ (get_or args i other).text.now ∷ []
      → first_broken (args_rules setting variables earlier (map param_tree (drop i params)) (map name_tree (drop i args)))
      ≡ first_broken (args_rules setting variables later (map param_tree (drop (i + 1) params)) (map name_tree (drop (i + 1) args)))
  arg_kept x later tries added =
      ap first_broken (args_next setting variables earlier params args i other within)
      ∙ first_broken-after_none (arg_rules variables earlier (param_type setting (map param_tree (drop i params))) (name_tree (get_or args i other)))
      (args_rules setting variables (earlier ++ (get_or args i other).text.now ∷ []) (map param_tree (drop (i + 1) params)) (map name_tree (drop (i + 1) args)))
      (rw is at tries.kept)
      ∙ ap (λ names. first_broken (args_rules setting variables names (map param_tree (drop (i + 1) params)) (map name_tree (drop (i + 1) args)))) (sym added)

  pub arg_stopped : {A B : Type 0} (fault : Fault) (result : Result B Fault)
      → Tries {A = A} (arg_rules variables earlier needed (name_tree (get_or args i other))) (Err fault) → IsErrAnd result (λ e. e ≡ fault)
      → Tries (args_rules setting variables earlier (map param_tree (drop i params)) (map name_tree (drop i args))) result
  arg_stopped fault result tries exit =
      rw (args_next setting variables earlier params args i other within)
      (stopped (arg_rules variables earlier (param_type setting (map param_tree (drop i params))) (name_tree (get_or args i other)))
      (args_rules setting variables (earlier ++ (get_or args i other).text.now ∷ []) (map param_tree (drop (i + 1) params)) (map name_tree (drop (i + 1) args)))
      fault result (rw is at tries) exit)

pub ruleset naming = (next_params-drop)
