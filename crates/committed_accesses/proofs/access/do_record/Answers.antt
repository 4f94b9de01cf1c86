use Rattle.std.proofs.Common.{ap}
use Rattle.rv_core.specs.declared.step.Effect.{Effect}
use Rattle.committed_accesses.proofs.Attempts.{did_access}
use Rattle.committed_accesses.proofs.access.do_record.Goals as goal

pub returns-clause-access : goal.returns-clause-access
returns-clause-access c =
    did_access c.args.image.now c.args.core.now c.args.taken.now c.instruction-instruction.result c.want_by-want.result c.load_width-width.result
    c.finish_by-effect.result.write c.attempt_of-attempt.result _ c.instruction-instruction.ensures.same c.want_by-want.ensures c.load_width-width.ensures
    (ap (λ (e : Effect). e.write) c.finish_by-effect.ensures.effect) c.attempt_of-attempt.ensures c.access_by.ensures
