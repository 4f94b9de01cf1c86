use Rattle.std.proofs.Common.{◌≤◌, refl, subst}
use Rattle.sn_machine.specs.Machine.{MachineData}
use Rattle.rolling_recovery.proofs.Invariant.{start-kept}
use Rattle.rolling_recovery.proofs.rolling.Rolling.start.Goals as goal

pub invariant_of-result : goal.invariant_of-result
invariant_of-result c =
    start-kept c.args.machine c.args.room.messages _ _ c.requires
    (subst (λ (m : MachineData). m.config.nodes ≤ 16) c.recovered.ensures.shown c.is_cut.ensures.few) c.args.room.quiet refl refl
