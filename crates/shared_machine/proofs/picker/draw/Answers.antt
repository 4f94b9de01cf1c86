use Rattle.std.proofs.Common.{◌∙◌}
use Rattle.run_journals.specs.Journal.{turns_of}
use Rattle.shared_machine.proofs.Draws.{drawn-next}
use Rattle.shared_machine.proofs.picker.draw.Goals as goal

pub returns-clause-drawn : goal.returns-clause-drawn
returns-clause-drawn c = λ seed journal event drawn.
    drawn-next seed c.args.worker event journal c.args.pickers.now.items c.draw.new.self drawn c.requires
    (c.draw.ensures seed c.args.worker (turns_of c.args.worker journal)
    (c.index_mut.ensures.value ∙ drawn.each c.args.worker c.index_mut.result.now c.requires))
