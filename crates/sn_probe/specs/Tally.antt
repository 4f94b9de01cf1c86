-- A tally of how often each kind of event came.
use Rattle.std.specs.Prelude.{ℕ, ◌+◌, ◌-◌, ◌^◌, min, List, slice_set, slice_index, Option, Some, None}
use Rattle.sn_base.specs.declared.event.Event.{Event}
use Rattle.sn_base.specs.declared.event.Event.TheVariants.{Step, Evict, Edge, Hop, Deliver, Lose, Kill, Report, Validate, Recover, Input}

-- the place of an event's kind; a byte of input has none
abbrev pub place_of : Event → Option ℕ
place_of (Step node) = Some 0
place_of (Evict node block) = Some 1
place_of (Edge node) = Some 2
place_of (Hop message) = Some 3
place_of (Deliver message) = Some 4
place_of (Lose message) = Some 5
place_of (Kill switch) = Some 6
place_of (Report node) = Some 7
place_of Validate = Some 8
place_of Recover = Some 9
place_of (Input node byte) = None

-- one more at a place, which stops at the greatest number of 64 bits
abbrev pub tally_with_one : List ℕ → Option ℕ → List ℕ
tally_with_one tally None = tally
tally_with_one tally (Some place) = slice_set tally place (min (slice_index tally place + 1) (2 ^ 64 - 1))
