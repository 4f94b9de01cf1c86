use Rattle.std.proofs.Common.{◌∙◌}
use Rattle.node_threads.proofs.run.run_named.Goals as goal

pub finish-requires-clause-ends : goal.finish-requires-clause-ends
finish-requires-clause-ends g c = λ outbox here.
    let ends = c.requires.ends outbox here in
    let same = c.turns-drained.ensures.end in
    (same.0.0 ∙ ends.0, same.0.1 ∙ ends.1, same.0.2 ∙ ends.2, same.0.3 ∙ ends.3)

pub returns-clause-ends : goal.returns-clause-ends
returns-clause-ends g c =
    c.finish.ensures.ends (g.C.Sink.written c.args.console.now) (g.C.Sink.faults c.args.console.now)
    (c.turns-drained.ensures.put c.requires.fresh.1)
