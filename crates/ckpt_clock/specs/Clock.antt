-- A node's place in logical time.
use Rattle.std.specs.Prelude.{ℕ, ◌+◌, ◌≤◌}
use Rattle.sn_base.specs.declared.limits.TheConstants.{CHECKPOINTS}

-- the interval that runs, and the recovery point that the node knows
pub record ClockData : Type 0 where
  pub interval : ℕ
  pub known : ℕ

-- how many checkpoints a node may have above the recovery point that it knows
abbrev pub most_ahead : ℕ
most_ahead = CHECKPOINTS

-- the known recovery point isn't ahead of the clock, nor too far behind it
pub record IsClock (c : ClockData) : Type 0 where
  pub reached : c.known ≤ c.interval
  pub near : c.interval ≤ c.known + most_ahead
