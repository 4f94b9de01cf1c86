use Rattle.std.proofs.Common.{◌≡◌, subst}
use Rattle.std.specs.Prelude.{Some, None, IfOk}
use Rattle.rayon.proofs.ListFacts.{IfOk-then}
use Rattle.run_journals.specs.Journal.{Began}
use Rattle.ordered_run.specs.Shared.{begins_with}
use Rattle.ordered_run.specs.Finishes.{IsRunOf, finish_by}
use Rattle.ordered_run.proofs.Outcomes.{unstopped-by}
use Rattle.seed_runs.proofs.play.turns_by_threads.Goals as goal

pub returns-clause-run : goal.returns-clause-run
returns-clause-run g c =
    subst (λ (b : Began). IfOk c.run_nodes.result (λ left. IsRunOf b left.machine left.journal.items left.answers.items))
    c.in-Some.ensures c.run_nodes.ensures.run

pub returns-clause-finish : goal.returns-clause-finish
returns-clause-finish g c =
    subst (λ (b : Began). IfOk c.run_nodes.result (λ left. finish_by b left.journal.items ≡ Some left.finish)) c.in-Some.ensures
    (IfOk-then c.run_nodes.result _ _ c.run_nodes.ensures.ends
    (λ left so. unstopped-by (begins_with c.in-Some.shared) left.journal.items left.finish left.machine.state.released None None so))
