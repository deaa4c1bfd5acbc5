-- The names that a caller and a callee share, from the last to the first.
use Rattle.std.proofs.Common.{◌≡◌, ◌∙◌, ◌+◌, ap, ap₂, sym, refl, arith, ℕ, zero, suc, List, [], ◌∷◌, map, drop, length, min, Some, slice_get}
use Rattle.std.proofs.Math.Seq.{drop-nil}
use Rattle.tw_syntax.specs.Names.{NameTree}
use Rattle.tw_syntax.specs.Programs.{FunTree, ParamTree}
use Rattle.tw_resolve.specs.Setting.{Setting}
use Rattle.tw_state.specs.Steps.{links, param_links, put_back, seen}
use Rattle.tw_state.specs.States.{Name, Store}
use Rattle.tw_interp.specs.declared.runner.Body.{Body}
use Rattle.tw_interp.specs.declared.variable.Var.{Var}
use Rattle.tw_interp.specs.Frames.{with_found}
use Rattle.tw_interp.specs.Numbered.{IsBodyOf, shared_names, shared_vars}
use Rattle.tw_interp.specs.NumberedTrees.{var_tree}
use Rattle.tw_interp.proofs.Ahead.{ahead_next}

no_args : (params : List Var) → shared_vars params [] ≡ []
no_args [] = refl
no_args (p ∷ ps) = refl

-- past the shorter of both there is nothing to share
pub links_none : (params args : List Var) (k : ℕ) → k ≡ min (length params) (length args) → shared_vars (drop k params) (drop k args) ≡ []
links_none [] args k is = rw (drop-nil {A = Var} k) refl
links_none (p ∷ ps) [] k is = rw (drop-nil {A = Var} k) (no_args (drop k (p ∷ ps)))
links_none (p ∷ ps) (a ∷ more) zero is = absurd (omega (arith, is))
links_none (p ∷ ps) (a ∷ more) (suc k) is = links_none ps more k (omega (arith, is))

module _ (params args : List Var) where
  -- the names that are shared from a place on
  abbrev pub links_from : ℕ → List (Name × Name)
  links_from i = shared_vars (drop i params) (drop i args)

  module _ (i k : ℕ) (param arg : Var) (at_param : slice_get params i ≡ Some param) (at_arg : slice_get args i ≡ Some arg) (more : k ≡ i + 1) where
    one_more : links_from i ≡ (param.name.text.now, arg.name.text.now) ∷ links_from k
    one_more = ap₂ shared_vars (ahead_next params i param at_param) (ahead_next args i arg at_arg) ∙ ap (λ (n : ℕ). (param.name.text.now, arg.name.text.now) ∷ links_from n) (sym more)

    pub entered_next : (caller now next : Store) → now ≡ seen (links_from k) caller → next ≡ with_found now param.name.text.now (caller arg.name.text.now) → next ≡ seen (links_from i) caller
    entered_next caller now next is after =
        after ∙ ap (λ s. with_found s param.name.text.now (caller arg.name.text.now)) is ∙ sym (ap (λ (l : List (Name × Name)). seen l caller) one_more)

    pub left_next : (callee old now next : Store) → now ≡ put_back (links_from k) callee old → next ≡ with_found now arg.name.text.now (callee param.name.text.now) → next ≡ put_back (links_from i) callee old
    left_next callee old now next is after =
        after ∙ ap (λ s. with_found s arg.name.text.now (callee param.name.text.now)) is ∙ sym (ap (λ (l : List (Name × Name)). put_back l callee old) one_more)

-- the texts that two lists of names share, place by place
abbrev pairs : List NameTree → List NameTree → List (Name × Name)
pairs [] others = []
pairs (name ∷ names) [] = []
pairs (name ∷ names) (other ∷ others) = (name.text, other.text) ∷ pairs names others

of_vars : (vars args : List Var) → shared_vars vars args ≡ pairs (map var_tree vars) (map var_tree args)
of_vars [] args = refl
of_vars (v ∷ vs) [] = refl
of_vars (v ∷ vs) (a ∷ more) = ap (λ (l : List (Name × Name)). (v.name.text.now, a.name.text.now) ∷ l) (of_vars vs more)

of_params : (params : List ParamTree) (others : List NameTree) → pairs (map (λ param. param.name) params) others ≡ param_links params others
of_params [] others = refl
of_params (p ∷ ps) [] = refl
of_params (p ∷ ps) (o ∷ more) = ap (λ (l : List (Name × Name)). (p.name.text, o.text) ∷ l) (of_params ps more)

shared_params : (vars args : List Var) (params : List ParamTree) → map var_tree vars ≡ map (λ param. param.name) params → shared_vars vars args ≡ param_links params (map var_tree args)
shared_params vars args params is = of_vars vars args ∙ ap (λ (l : List NameTree). pairs l (map var_tree args)) is ∙ of_params params (map var_tree args)

-- the names that a call of a function shares are those of its tree
pub shared_are : (setting : Setting) (number : ℕ) (fun : FunTree) (body : Body) (target : Var) (args : List Var) → IsBodyOf setting number fun body → shared_names body target args ≡ links fun (var_tree target) (map var_tree args)
shared_are setting number fun body target args is =
    ap₂ (λ (n : NameTree) (l : List (Name × Name)). (n.text, target.name.text.now) ∷ l) is.returned (shared_params body.params.now args fun.params is.params)
