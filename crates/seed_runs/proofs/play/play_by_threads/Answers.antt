use Rattle.std.proofs.Common.{refl, ◌∙◌}
use Rattle.ordered_run.specs.Pieces.{begins}
use Rattle.ordered_run.proofs.Runs.{cores-at_start}
use Rattle.seed_runs.proofs.Playing.{events-fit, events-few, statistics-are}
use Rattle.seed_runs.proofs.play.play_by_threads.Goals as goal

pub statistics_by-requires-clause-fit : goal.statistics_by-requires-clause-fit
statistics_by-requires-clause-fit g c =
    let left = c.in-Ok-turns_by_threads.finished in
    events-fit c.args.job left.machine left.journal.items left.answers.items c.in-Ok-turns_by_threads.ensures.run c.requires

pub statistics_by-requires-clause-few : goal.statistics_by-requires-clause-few
statistics_by-requires-clause-few g c =
    let left = c.in-Ok-turns_by_threads.finished in
    events-few c.args.job left.machine left.journal.items left.answers.items c.in-Ok-turns_by_threads.ensures.run c.requires

pub returns : goal.returns
returns g c =
    let left = c.in-Ok-turns_by_threads.finished in record {
      run = c.in-Ok-turns_by_threads.ensures.run;
      journal = refl;
      finish = c.in-Ok-turns_by_threads.ensures.finish;
      room =
          cores-at_start c.args.job (begins c.args.job) left.machine left.journal.items left.answers.items refl
          c.in-Ok-turns_by_threads.ensures.run c.requires _ c.in-Ok.ensures;
      statistics = λ asked.
          c.in-Ok-statistics_by.ensures
          ∙ statistics-are c.args.job left.machine left.journal.items left.answers.items c.in-Ok-turns_by_threads.ensures.run;
    }
