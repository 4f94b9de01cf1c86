use Rattle.machine_states.proofs.Parts.{homes-none, homes-next}
use Rattle.machine_states.proofs.state.add_each_home.Goals as goal

pub homes-init : goal.homes-init
homes-init c = homes-none c.args.text.now.items c.args.machine.now.image c.args.machine.now.state

pub homes-preserved : goal.homes-preserved
homes-preserved c =
    homes-next c.args.text.now.items c.homes.text.items _ c.homes.number c.new.result c.args.machine.now.image c.args.machine.now.state c.homes.others _
    c.new.ensures c.homes.invariant c.in_ok-others.ensures
