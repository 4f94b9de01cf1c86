use Rattle.safetynet_main.proofs.files.load.Goals as goal

pub unreachable-requires : goal.unreachable-requires
unreachable-requires g c = c.requires.files _ c.in-Demo.is
