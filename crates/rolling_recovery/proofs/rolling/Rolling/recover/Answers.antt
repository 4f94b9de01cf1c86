use Rattle.std.proofs.Common.{◌∙◌}
use Rattle.sn_base.specs.declared.event.Event.TheVariants.{Recover}
use Rattle.sn_machine.specs.Machine.{next_of}
use Rattle.rolling_recovery.specs.Rolling.{first_not_noted}
use Rattle.rolling_recovery.proofs.Restored.{goes, noted-by}
use Rattle.rolling_recovery.proofs.rolling.Rolling.recover.Goals as goal

pub unreachable-requires : goal.unreachable-requires
unreachable-requires c =
    let clear = noted-by (first_not_noted c.args.self) (next_of c.args.self.machine Recover).answer c.requires in
    let went = goes c.self.inside.machine (rw (← c.self.view_is) at clear.1) in
    c.in_default.not-Recovered went.undo (c.apply.ensures.applied.answer ∙ went.answer)
