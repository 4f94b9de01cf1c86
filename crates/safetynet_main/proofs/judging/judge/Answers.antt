use Rattle.std.proofs.Common.{refl, ap}
use Rattle.std.specs.Prelude.{Err}
use Rattle.safetynet_main.proofs.CallLaws.{follows-accesses_done, follows-accesses_broken}
use Rattle.safetynet_main.proofs.judging.judge.Goals as goal

pub returns-in-Ok-clause-follows : goal.returns-in-Ok-clause-follows
returns-in-Ok-clause-follows g c = λ m probes was is k.
    follows-accesses_done probes c.args.list.now c.in-Ok.verdict c.status_of.result was is k _ _ c.status_of.ensures c.in-Ok.ensures.ok

pub returns-in-Err-Sink-clause-follows : goal.returns-in-Err-Sink-clause-follows
returns-in-Err-Sink-clause-follows g c = λ m probes was is k.
    follows-accesses_broken probes c.args.list.now _ _ was is k _ _ refl
    (c.in-Err-Sink.ensures.put _ (ap (λ t. Err t) c.in-Err-Sink.field-0-is)).0

pub returns-in-Err-Sink-clause-cause : goal.returns-in-Err-Sink-clause-cause
returns-in-Err-Sink-clause-cause g c = λ e. (c.in-Err-Sink.ensures.put _ (ap (λ t. Err t) c.in-Err-Sink.field-0-is)).1

pub unreachable-requires : goal.unreachable-requires
unreachable-requires g c = c.in-Err-Refused.ensures.kinds _ (ap (λ t. Err t) c.in-Err-Refused.field-0-is)
