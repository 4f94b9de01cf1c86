use Rattle.std.proofs.Common.{sym, ap, ◌∙◌, arith}
use Rattle.sn_base.specs.declared.config.Config.{Config}
use Rattle.sn_base.specs.Image.{ImageData}
use Rattle.sn_base.specs.Config.{config_fits}
use Rattle.sn_model.specs.Machine.{start_of}
use Rattle.sn_machine.specs.Machine.{MachineData}
use Rattle.sn_driver.specs.Driver.{DriverData}
use Rattle.turn_orders.specs.Scheduled.{SchedulerData}
use Rattle.ordered_run.proofs.Starts.{stands-first, ready-first}
use Rattle.ordered_run.proofs.starting.start.Goals as goal

pub returns-clause-stands : goal.returns-clause-stands
returns-clause-stands c =
    let m = c.in-Ok-machine_for.machine in let room = c.in-Ok.room in let a = c.args in
    let made = c.in-Ok-machine_for.ensures in
    let config = ap (λ (t : MachineData). t.config) made in
    stands-first m c.new-driver.result c.new-scheduler.result room.generators room.journal room.answers a.seed a.budget
    c.in-Ok.ensures.journal.0 c.in-Ok.ensures.answers.0
    (ap (λ (d : DriverData). d.nodes) c.new-driver.ensures ∙ ap (λ (k : Config). k.nodes) (sym config))
    (ap (λ (t : MachineData). t.applied) made)
    (ap (λ (t : MachineData). t.state) made
    ∙ ap (λ (i : ImageData). start_of i a.config.nodes) (sym (ap (λ (t : MachineData). t.image) made))
    ∙ ap (λ (k : Config). start_of m.image k.nodes) (sym config))
    (ap (λ (d : DriverData). d.numbers) c.new-driver.ensures) (omega (arith, ap (λ (t : MachineData). t.spare) made)) c.requires.few
    (ap config_fits config ∙ c.requires.sizes) c.in-Ok.ensures.journal.1 c.in-Ok.ensures.answers.1

pub returns-clause-ready : goal.returns-clause-ready
returns-clause-ready c =
    let m = c.in-Ok-machine_for.machine in let room = c.in-Ok.room in let a = c.args in
    let nodes = ap (λ (t : MachineData). t.config.nodes) (sym c.in-Ok-machine_for.ensures) in
    ready-first m c.new-driver.result c.new-scheduler.result room.generators room.journal room.answers a.seed a.budget
    c.in-Ok.ensures.journal.0 c.in-Ok.ensures.answers.0
    (ap (λ (d : DriverData). d.nodes) c.new-driver.ensures ∙ nodes)
    (ap (λ (d : SchedulerData). d.seed) c.new-scheduler.ensures)
    (ap (λ (d : SchedulerData). d.workers) c.new-scheduler.ensures ∙ nodes)
    (ap (λ (d : SchedulerData). d.had) c.new-scheduler.ensures) c.in-Ok.ensures.drawn.0 (c.in-Ok.ensures.drawn.1 ∙ nodes)

pub returns-clause-fresh : goal.returns-clause-fresh
returns-clause-fresh c = ap (λ (t : MachineData). t.state.released) c.in-Ok-machine_for.ensures
