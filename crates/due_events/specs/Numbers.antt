-- What a driver counts of the events that it has applied, from the events and their answers alone.
use Rattle.std.specs.Prelude.{ℕ, ◌+◌, List, slice_index, slice_set, replicate, Option, Some, None}
use Rattle.sn_base.specs.declared.event.Event.{Event}
use Rattle.sn_base.specs.declared.event.Event.TheVariants.{Step, Edge, Hop, Deliver, Lose, Report}
use Rattle.sn_base.specs.declared.event.Answer.{Answer}
use Rattle.sn_base.specs.declared.event.Answer.TheVariants.{Retired, Edged, Reported, Validated, Recovered, CutOff}

-- the events so far; those since the last validation or recovery; those that moved or lost a message; for each of 16 nodes,
-- the instructions that it retired since its last edge or the last recovery; for each, the checkpoint that it reported last,
-- which a recovery sets to the recovery point; and the two nodes that a recovery found cut off
pub record Numbers : Type 0 where
  pub done : ℕ
  pub since : ℕ
  pub moves : ℕ
  pub retired : List ℕ
  pub told : List ℕ
  pub cut_off : Option (ℕ × ℕ)

-- the start
abbrev pub first_numbers : Numbers
first_numbers = record { done = 0; since = 0; moves = 0; retired = replicate 16 0; told = replicate 16 0; cut_off = None }

-- whatever the answer is

-- whether an event is one that moves or loses a message, as a number
abbrev pub moves_by : Event → ℕ
moves_by (Hop id) = 1
moves_by (Deliver id) = 1
moves_by (Lose id) = 1
moves_by _ = 0

abbrev pub numbers_with_event : Numbers → Event → Numbers
numbers_with_event x event = record x { done = x.done + 1; since = x.since + 1; moves = x.moves + moves_by event }

-- by its answer

-- an instruction of the node retired
abbrev pub with_retired : Numbers → Event → Numbers
with_retired x (Step n) = record x { retired = slice_set x.retired n (slice_index x.retired n + 1) }
with_retired x _ = x

-- the node's next interval began
abbrev pub with_edge : Numbers → Event → Numbers
with_edge x (Edge n) = record x { retired = slice_set x.retired n 0 }
with_edge x _ = x

-- the node told of checkpoint k
abbrev pub with_report : Numbers → Event → ℕ → Numbers
with_report x (Report n) k = record x { told = slice_set x.told n k }
with_report x _ k = x

abbrev pub with_answer : Numbers → Event → Answer → Numbers
with_answer x event Retired = with_retired x event
with_answer x event (Edged k) = with_edge x event
with_answer x event (Reported k) = with_report x event k
with_answer x event (Validated k) = record x { since = 0 }
with_answer x event (Recovered undo) = record x { since = 0; retired = replicate 16 0; told = replicate 16 undo.to }
with_answer x event (CutOff a b) = record x { cut_off = Some (a, b) }
with_answer x event _ = x

-- the numbers after an event
abbrev pub numbers_after : Numbers → Event → Answer → Numbers
numbers_after x event answer = with_answer (numbers_with_event x event) event answer
