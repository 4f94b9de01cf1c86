use Rattle.run_journals.proofs.Draws.{generator_at-first, generator_at-next}
use Rattle.run_journals.proofs.laws.picks_are_drawn.Goals as goal

pub returns-clause-first : goal.returns-clause-first
returns-clause-first c = generator_at-first

pub returns-clause-next : goal.returns-clause-next
returns-clause-next c = generator_at-next
