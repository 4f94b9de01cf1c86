use Rattle.state_lines.proofs.Opens.{opens-none, opens-next}
use Rattle.state_lines.proofs.unready.add_each_open.Goals as goal

pub numbers-init : goal.numbers-init
numbers-init c = opens-none c.args.text.now.items c.args.machine.now.state.fabric c.args.node c.args.k

pub numbers-preserved : goal.numbers-preserved
numbers-preserved c =
    opens-next c.args.text.now.items c.numbers.text.items _ c.numbers.number c.new.result c.args.machine.now.state.fabric c.args.node c.args.k
    c.numbers.others _ c.new.ensures c.numbers.invariant c.in_ok-others.ensures
