-- How long an interval that has ended waits for its validation.
use Rattle.std.specs.Prelude.{ℕ, zero, suc, ◌-◌, Bool, true, ◌&&◌, nat_le, if◌then◌else◌, List, [], ◌∷◌, ◌++◌}
use Rattle.sn_base.specs.declared.event.Answer.{Answer}
use Rattle.sn_base.specs.declared.event.Answer.TheVariants.{Edged, Validated, Recovered}
use Rattle.sn_model.specs.Fabric.{Fabric, node_at}
use Rattle.run_statistics.specs.declared.intervals.Moment.{Moment}
use Rattle.run_statistics.specs.declared.intervals.IntervalStatistics.{IntervalStatistics}
use Rattle.run_statistics.specs.Spreads.{no_spread, spread_with}

abbrev pub no_intervals : IntervalStatistics
no_intervals = record { ended = []; events = no_spread; instructions = no_spread }

-- whether the first so many nodes are in this interval or in a later one
abbrev pub are_in : ℕ → Fabric → ℕ → Bool
are_in k s zero = true
are_in k s (suc n) = are_in k s n && nat_le k (node_at s n).now

-- an interval ends when the last node leaves it
abbrev pub with_edge : IntervalStatistics → Moment → Bool → IntervalStatistics
with_edge x at last = if last then record x { ended = x.ended ++ at ∷ [] } else x

-- the first of those that have ended is validated
abbrev pub with_validation : IntervalStatistics → Moment → List Moment → IntervalStatistics
with_validation x at [] = x
with_validation x at (end ∷ others) = record {
  ended = others;
  events = spread_with x.events (at.event - end.event);
  instructions = spread_with x.instructions (at.retired - end.retired);
}

-- after an event at this moment, which had this answer and left this fabric of so many nodes
abbrev pub intervals_with : IntervalStatistics → Moment → Answer → ℕ → Fabric → IntervalStatistics
intervals_with x at (Edged k) nodes s = with_edge x at (are_in k s nodes)
intervals_with x at (Validated k) nodes s = with_validation x at x.ended
intervals_with x at (Recovered undo) nodes s = record x { ended = [] }
intervals_with x at _ nodes s = x
