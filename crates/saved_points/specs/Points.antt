-- What is saved after a run, and when there is no more of it than may be saved.
use Rattle.std.specs.Prelude.{◌+◌, ◌≤◌, List, length}
use Rattle.sn_base.specs.Image.{ImageData}
use Rattle.sn_base.specs.declared.config.Config.{Config}
use Rattle.sn_base.specs.declared.event.Event.{Event}
use Rattle.sn_saved.specs.Saved.{Saved, saved_of, most_saved, most_applied}
use Rattle.consistent_cuts.specs.Origins.{Origin, applied_at, reached_from}

-- the recovery point of the machine after these events, from where its run began
abbrev pub saved_after : ImageData → Config → Origin → List Event → Saved
saved_after image config origin events = saved_of config (reached_from image config origin events) (applied_at origin + length events)

-- no more events were applied, no more bytes given and no more records committed than may be saved
pub record MayBeSaved (saved : Saved) : Type 0 where
  pub events : saved.marks.applied ≤ most_applied
  pub bytes : length saved.given ≤ most_saved
  pub records : length saved.committed ≤ most_saved
