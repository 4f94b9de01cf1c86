use Rattle.fabric_bounds.proofs.laws.what_is_bounded.Goals as goal

pub returns-clause-logs : goal.returns-clause-logs
returns-clause-logs c = λ config s n k l. k.2.logs n l

pub returns-clause-net : goal.returns-clause-net
returns-clause-net c = λ config s k. k.2.net

pub returns-clause-frames : goal.returns-clause-frames
returns-clause-frames c = λ config s n k l. k.2.frames n l
