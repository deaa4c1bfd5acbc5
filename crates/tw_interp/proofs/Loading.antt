-- The variables whose values the states of an entry list.
use Rattle.std.proofs.Common.{◌≡◌, ◌∙◌, ◌≤◌, ap, ap₂, refl, arith, ℕ, List, [], ◌∷◌, ◌++◌, map, length}
use Rattle.std.proofs.lemmas.List.{length-map}
use Rattle.std.specs.List.{AllByRecursion}
use Rattle.tw_syntax.specs.Names.{NameTree}
use Rattle.tw_syntax.specs.Programs.{FunTree, ParamTree}
use Rattle.tw_resolve.specs.Setting.{Setting}
use Rattle.tw_resolve.proofs.Each.{each-append}
use Rattle.tw_check.specs.Liveness.{param_names}
use Rattle.tw_state.specs.declared.state.Side.{Side}
use Rattle.tw_state.specs.declared.state.Side.TheVariants as side
use Rattle.tw_state.specs.FromCode.{names_at}
use Rattle.tw_state.specs.Listed.{names_at_end}
use Rattle.tw_interp.specs.declared.runner.Body.{Body}
use Rattle.tw_interp.specs.declared.variable.Var.{Var}
use Rattle.tw_interp.specs.Numbered.{IsBodyOf, IsTarget, listed_names, listed_vars, numbered_names}
use Rattle.tw_interp.specs.NumberedTrees.{var_tree}

var_texts : (vars : List Var) (last : Var) → map (λ v. v.name.text.now) (vars ++ last ∷ []) ≡ map (λ (n : NameTree). n.text) (map var_tree vars) ++ last.name.text.now ∷ []
var_texts [] last = refl
var_texts (v ∷ vs) last = ap (λ l. v.name.text.now ∷ l) (var_texts vs last)

pub param_texts : (params : List ParamTree) → map (λ (n : NameTree). n.text) (map (λ param. param.name) params) ≡ map (λ param. param.name.text) params
param_texts [] = refl
param_texts (p ∷ ps) = ap (λ l. p.name.text ∷ l) (param_texts ps)

-- they are those of the tree of the function
pub listed_are : (setting : Setting) (number : ℕ) (fun : FunTree) (body : Body) → IsBodyOf setting number fun body → listed_names body ≡ names_at_end fun
listed_are setting number fun body is =
    var_texts body.params.now body.returned
    ∙ ap₂ (λ (l : List NameTree) (n : NameTree). map (λ (m : NameTree). m.text) l ++ n.text ∷ []) is.params is.returned
    ∙ ap (λ l. l ++ fun.returned.text ∷ []) (param_texts fun.params)

pub listed_numbered : (setting : Setting) (number : ℕ) (fun : FunTree) (body : Body) → IsBodyOf setting number fun body → AllByRecursion (IsTarget (numbered_names setting number)) (listed_vars body)
listed_numbered setting number fun body is = each-append (IsTarget (numbered_names setting number)) body.params.now (body.returned ∷ []) is.are_params (is.is_returned, tt)

one_longer : {A : Type 0} (xs : List A) (x : A) → length xs ≤ length (xs ++ x ∷ [])
one_longer [] x = omega arith
one_longer (y ∷ ys) x = omega (arith, one_longer ys x)

-- there are at least as many as names at a side
short_side : (at : Side) (fun : FunTree) → length (names_at at fun) ≤ length (names_at_end fun)
short_side side.Start fun = one_longer (param_names fun) fun.returned.text
short_side side.End fun = omega arith

pub enough_vars : (fun : FunTree) (body : Body) (at : Side) (n : ℕ) → listed_names body ≡ names_at_end fun → n ≡ length (names_at at fun) → n ≤ length (listed_vars body)
enough_vars fun body at n are is =
    let long : length (listed_names body) ≡ length (names_at_end fun) = ap length are in
    omega (arith, is, short_side at fun, long, length-map (listed_vars body) (λ v. v.name.text.now))
