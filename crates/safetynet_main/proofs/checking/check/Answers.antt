use Rattle.safetynet_main.proofs.CallLaws.{follows-verdict_done, follows-verdict_broken}
use Rattle.std.proofs.Common.{refl}
use Rattle.safetynet_main.proofs.checking.check.Goals as goal

pub returns-in-Ok-put_verdict-clause-follows : goal.returns-in-Ok-put_verdict-clause-follows
returns-in-Ok-put_verdict-clause-follows g c = λ m probes was is k.
    follows-verdict_done probes c.args.job.now c.in-Ok-judge.verdict c.status.result was is _ _ c.in-Ok-judge.ensures c.status.ensures
    (c.in-Ok-put_verdict.ensures.ok k)

pub returns-in-Err-clause-follows : goal.returns-in-Err-clause-follows
returns-in-Err-clause-follows g c = λ m probes was is k.
    follows-verdict_broken probes c.args.job.now c.in-Ok-judge.verdict _ was is _ _ c.in-Ok-judge.ensures refl (c.in-Err.ensures.err k)
