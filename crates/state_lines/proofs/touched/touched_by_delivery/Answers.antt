use Rattle.std.proofs.Common.{◌∙◌, ◌<◌, subst}
use Rattle.state_lines.proofs.TouchedLaws.{taken-parts, receiver-there, nothing-taken}
use Rattle.state_lines.proofs.touched.touched_by_delivery.Goals as goal

pub returns-in-Ok-clause-parts : goal.returns-in-Ok-clause-parts
returns-in-Ok-clause-parts c = λ count.
    c.touched_by_message.ensures.parts count
    ∙ taken-parts c.net-net.result.now c.args.machine.now.state.fabric.net c.args.id c.net-net.ensures.carried c.in-Ok.message.now
    c.in-Ok.ensures.message

pub returns-in-Ok-clause-there : goal.returns-in-Ok-clause-there
returns-in-Ok-clause-there c =
    c.touched_by_message.ensures.there c.args.machine.now.config.nodes
    (subst (λ n. c.in-Ok.message.now.to < n) c.net-net.ensures.nodes
    (receiver-there c.net-net.result.now c.args.id c.in-Ok.message.now c.in-Ok.ensures.message c.count-count.ensures.sound.placed))

pub returns-in-Err-clause-parts : goal.returns-in-Err-clause-parts
returns-in-Err-clause-parts c = λ count.
    absurd (nothing-taken c.args.machine.now.image c.args.machine.now.config c.args.machine.now.state c.net-net.result.now c.args.id
    c.net-net.ensures.carried _ c.in-Err.ensures.fault c.requires.taken)
