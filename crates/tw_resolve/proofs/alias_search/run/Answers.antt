use Rattle.std.proofs.Common.{◌≡◌, ◌∙◌, ◌∷◌, Bool, true, ap, sym, subst}
use Rattle.tw_syntax.specs.Types.{written_tree}
use Rattle.tw_resolve.specs.Declarations.{Name}
use Rattle.tw_resolve.specs.Searches.{names_in, task_tree, tasks_in}
use Rattle.tw_resolve.proofs.Running.{kept_twice, resolved_kept, finding_after}
use Rattle.tw_resolve.proofs.alias_search.run.Goals as goal

pub loop-task-preserved : goal.loop-task-preserved
loop-task-preserved c =
    let tasks = c.in-Some.ensures.tasks ∙ ap (λ task. task_tree task ∷ tasks_in c.pop.new.self.tasks.items) c.in-Finish.is in
    let same = ap (λ names. names_in names.set.keys) c.pop.ensures.opened in
    record {
      kept = kept_twice c.loop-task.invariant.kept c.finish.ensures.kept;
      resolved = resolved_kept c.loop-task.tables c.finish.new.tables c.finish.ensures.kept c.loop-task.invariant.resolved;
      state = finding_after c.loop-task.tables c.finish.new.tables c.loop-task.search c.pop.new.self c.in-Finish.name.now (written_tree c.in-Finish.body.now)
          c.finish.ensures.kept c.loop-task.invariant.state tasks c.pop.ensures.opened c.in_ok-finish-in-Finish.ensures.found;
      opened = λ name is. subst (λ (names : Name → Bool). names name ≡ true) (sym same) (c.loop-task.invariant.opened name is);
    }
