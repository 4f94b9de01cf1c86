use Rattle.std.proofs.Common.{◌≤◌, refl, ◌∙◌, arith}
use Rattle.std.proofs.lemmas.Bool.Decides.{nat_tests}
use Rattle.ordered_run.specs.Pieces.{begins}
use Rattle.ordered_run.proofs.Runs.{cores-at_start}
use Rattle.seed_runs.proofs.Playing.{counted-are}
use Rattle.seed_runs.proofs.play.play.Goals as goal

pub text_if-requires : goal.text_if-requires
text_if-requires c = let fits = c.requires.fits in grind (arith, nat_tests, fits)

pub returns : goal.returns
returns c =
    let left = c.in-Ok-all_turns.turned.finished in let run = c.in-Ok-all_turns.ensures.run in record {
      run = run;
      journal = c.in-Ok-all_turns.ensures.journal;
      finish = c.in-Ok-all_turns.ensures.finish;
      room = cores-at_start c.args.job (begins c.args.job) left.machine left.journal.items left.answers.items refl run c.requires _ c.in-Ok.ensures;
      statistics = λ asked.
          c.in-Ok-text_if.ensures asked
          ∙ counted-are c.args.job left.machine left.journal.items left.answers.items run c.in-Ok-all_turns.turned.count
          c.in-Ok-all_turns.ensures.counts (c.in-Ok-all_turns.ensures.on asked);
    }
