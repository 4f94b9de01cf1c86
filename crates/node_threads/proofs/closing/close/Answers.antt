use Rattle.node_threads.proofs.Turns.{fewer-left}
use Rattle.node_threads.proofs.closing.close.Goals as goal

pub turns-smaller : goal.turns-smaller
turns-smaller g c = let ok = c.in-Ok.ensures.ok in fewer-left c.turns.locked c.turn.new.self 0 _ _ ok.0 ok.1
