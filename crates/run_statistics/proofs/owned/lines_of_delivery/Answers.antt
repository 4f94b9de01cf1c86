use Rattle.std.proofs.Common.{◌<◌, subst}
use Rattle.run_statistics.proofs.TakenLines.{receiver-there, lines-taken, lines-left}
use Rattle.run_statistics.proofs.owned.lines_of_delivery.Goals as goal

pub lines_of_message-requires : goal.lines_of_message-requires
lines_of_message-requires c =
    subst (λ n. c.in-Ok.message.now.to < n) c.net-net.ensures.nodes
    (receiver-there c.net-net.result.now c.args.id c.in-Ok.message.now c.in-Ok.ensures.message c.count-count.ensures.sound.placed)

pub returns-in-Ok-clause-lines : goal.returns-in-Ok-clause-lines
returns-in-Ok-clause-lines c =
    lines-taken c.args.machine.now.state.fabric c.net-net.result.now c.args.id c.net-net.ensures.carried c.in-Ok.message.now
    c.lines_of_message.result c.in-Ok.ensures.message c.lines_of_message.ensures.lines

pub returns-in-Err-clause-lines : goal.returns-in-Err-clause-lines
returns-in-Err-clause-lines c =
    lines-left c.args.machine.now.state.fabric c.net-net.result.now c.args.id c.net-net.ensures.carried _ c.in-Err.ensures.fault
