use Rattle.std.proofs.Common.{List, length, ap, ◌∙◌}
use Rattle.sn_base.specs.declared.event.Answer.{Answer}
use Rattle.shared_machine.proofs.Folds.{length-answers_of}
use Rattle.node_threads.proofs.run.run_nodes.Goals as goal

pub tell-requires : goal.tell-requires
tell-requires g c = ap (λ (l : List Answer). length l) c.in-Ok-run_named.ensures.run.answers_are ∙ length-answers_of _ _
