use Rattle.std.proofs.Common.{ap}
use Rattle.std.specs.Prelude.{◌⊎◌, ◌≤◌, ◌-◌, ◌^◌, List, length}
use Rattle.sn_io.specs.Outside.{Rose}
use Rattle.line_source.specs.Lines.{LineRead}
use Rattle.sn_machine.specs.Machine.{MachineData}
use Rattle.driven_replay.specs.Driven.{drive_on}
use Rattle.driven_replay.proofs.Ended.{of-job, of-lack, of-end, of-left}
use Rattle.driven_replay.proofs.driving.drive.Goals as goal

pub returns-clause-ok : goal.returns-clause-ok
returns-clause-ok g c =
    of-end _ c.args.job _ _ _ _ _ _ _ (ap (λ (m : MachineData). drive_on m c.args.job.showing) c.in-Some.ensures.machine) c.drive_all-ended.ensures.ok

pub returns-clause-input : goal.returns-clause-input
returns-clause-input g c = λ e.
    of-left _ c.args.job _ _ _ _ _ _
    (λ (read : List LineRead). Rose (g.L.Lines.faults c.args.lines.now) (g.L.Lines.faults c.drive_all-ended.new.lines) ⊎ (2 ^ 64 - 1 ≤ length read))
    (ap (λ (m : MachineData). drive_on m c.args.job.showing) c.in-Some.ensures.machine) (c.drive_all-ended.ensures.input e)

pub returns-clause-sink : goal.returns-clause-sink
returns-clause-sink g c = λ e.
    of-job _ _ c.args.job _ _ _ _ _ _ (ap (λ (m : MachineData). drive_on m c.args.job.showing) c.in-Some.ensures.machine) (c.drive_all-ended.ensures.sink e)

pub returns-clause-memory : goal.returns-clause-memory
returns-clause-memory g c = λ e.
    of-lack _ _ c.args.job _ _ _ _ _ _ (ap (λ (m : MachineData). drive_on m c.args.job.showing) c.in-Some.ensures.machine) (c.drive_all-ended.ensures.memory e)
