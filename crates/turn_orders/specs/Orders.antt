-- Whose turn is next.
use Rattle.std.specs.Prelude.{ℕ, ◌%◌}
use Rattle.run_journals.specs.Picks.{pick_of}
use Rattle.turn_orders.specs.declared.order.Order.{Order}
use Rattle.turn_orders.specs.declared.order.Order.TheVariants.{Round, Drawn}

-- a scheduler draws as a worker of this number would, and no worker has it: 2^64 over the golden ratio
abbrev pub scheduler : ℕ
scheduler = 0x9E3779B97F4A7C15

-- the worker of a turn, of so many workers, the first turn being turn 0: in rounds, the turn's number counts round the workers; else
-- the scheduler's word of that turn does
abbrev pub worker_of : Order → ℕ → ℕ → ℕ → ℕ
worker_of Round seed workers turn = turn % workers
worker_of Drawn seed workers turn = pick_of seed scheduler turn % workers
