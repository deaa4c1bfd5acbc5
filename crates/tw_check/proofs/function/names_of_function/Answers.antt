use Rattle.std.proofs.Common.{◌∙◌, ap, sym, ◌++◌, append-nil}
use Rattle.std.proofs.lemmas.List.{at_drop_all}
use Rattle.tw_syntax.specs.Statements.{stmts_tree}
use Rattle.tw_check.specs.Liveness.{names_of}
use Rattle.tw_check.specs.Walks.{texts_of, texts_of_params}
use Rattle.tw_check.proofs.function.names_of_function.Goals as goal

pub returns : goal.returns
returns c =
    let params = c.args.fun.now.params.now in
    c.in_ok-push_mentioned.ensures
    ∙ ap (λ front. front ++ names_of (stmts_tree c.args.fun.now.body.now))
    (sym (append-nil (texts_of c.loop-param.names.items))
    ∙ sym (at_drop_all (λ left. texts_of c.loop-param.names.items ++ texts_of_params left) params c.loop-param.param-index c.loop-param-test.false)
    ∙ c.loop-param.invariant)
