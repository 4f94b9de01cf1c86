use Rattle.machine_states.proofs.Blocks.{dead-none, dead-next}
use Rattle.machine_states.proofs.net.add_each_dead.Goals as goal

pub switches-init : goal.switches-init
switches-init c = dead-none c.args.text.now.items c.args.machine.now.state.fabric.net.dead

pub switches-preserved : goal.switches-preserved
switches-preserved c =
    dead-next c.args.text.now.items c.switches.text.items _ c.switches.number c.args.machine.now.state.fabric.net.dead c.switches.others _
    c.switches.invariant c.in_ok-others.ensures
