use Rattle.std.proofs.Common.{◌≡◌, ◌++◌, ◌∷◌, drop}
use Rattle.tw_check.specs.Walks.{texts_of, texts_of_params}
use Rattle.tw_check.proofs.function.names_of_function.Given as goal

abbrev pub invariant-loop-param : goal.invariant-loop-param
invariant-loop-param l =
    texts_of l.names.items ++ texts_of_params (drop l.param-index l.fun.params.now)
    ≡ l.fun.returned.text.now ∷ texts_of_params l.fun.params.now
