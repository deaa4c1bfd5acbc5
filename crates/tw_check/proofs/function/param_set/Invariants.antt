use Rattle.std.proofs.Common.{◌≡◌, ℕ, ◌||◌, List, drop}
use Rattle.tw_check.specs.Names.{is_one_of}
use Rattle.tw_check.specs.Walks.{set_of, texts_of_params}
use Rattle.tw_check.proofs.function.param_set.Given as goal

abbrev pub invariant-loop-param : goal.invariant-loop-param
invariant-loop-param l =
    (name : List ℕ) → (set_of l.names name || is_one_of name (texts_of_params (drop l.param-index l.params))) ≡ is_one_of name (texts_of_params l.params)
