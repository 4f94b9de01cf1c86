use Rattle.std.proofs.Common.{ap, ◌∙◌, length}
use Rattle.rv_core.specs.Execution.{in_of}
use Rattle.sn_history.specs.History.{reads_of}
use Rattle.sn_machine.specs.Machine.{MachineData}
use Rattle.sn_machine.proofs.Lists.{reads-are_in}
use Rattle.sn_machine.proofs.view.View.taken.Goals as goal

pub returns : goal.returns
returns c =
    c.count_reads.ensures ∙ ap (reads_of c.args.node) c.committed.ensures
    ∙ reads-are_in c.args.node c.machine.inside.hardware.history.committed
    ∙ ap (λ (d : MachineData). length (in_of c.args.node d.state.committed)) (c.machine.view_is ∙ c.self.view_is)
