use Rattle.std.proofs.Common.{subst, sym}
use Rattle.rv_core.specs.Wanted.{IsInside}
use Rattle.rv_core.proofs.CoreLaws.{want_inside}
use Rattle.trace_check.proofs.core_replay.may_do.Goals as goal

pub agrees-requires : goal.agrees-requires
agrees-requires c = subst IsInside (sym c.next_step-step.ensures.want) (want_inside c.args.image.now c.args.state.now)
