use Rattle.std.proofs.Common.{refl, sym, subst}
use Rattle.sn_machine.specs.Resumed.{saved_by, HasContents}
use Rattle.sn_machine.proofs.ResumedLists.{cores-count}
use Rattle.sn_machine.proofs.ResumedParts.{parts-resumed}
use Rattle.sn_machine.proofs.hardware.Hardware.at_cut.Goals as goal

pub resumed_processors-requires-clause-cores : goal.resumed_processors-requires-clause-cores
resumed_processors-requires-clause-cores c =
    cores-count c.args.image.now c.args.config.nodes c.args.records.now c.args.flat.now c.requires.flat

pub returns : goal.returns
returns c =
    parts-resumed _ c.args.image.now (saved_by c.args.config c.args.marks c.args.owners.now c.args.given.now c.args.records.now)
    c.args.flat.now c.as_slice.result.now c.requires.flat
    (subst (HasContents c.args.flat.now.memory) (sym c.as_slice.ensures.value) c.in_ok-contents.ensures) c.in_ok-fabric.ensures
    c.in_ok-processors.ensures c.at.ensures c.in_ok-history.ensures c.in_ok-output.ensures.0 c.in_ok-output.ensures.1 refl
