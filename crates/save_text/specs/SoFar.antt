-- What holds of what was read so far.
use Rattle.std.specs.Prelude.{◌≡◌, ◌≤◌, true}
use Rattle.sn_base.specs.Config.{config_fits}
use Rattle.sn_saved.specs.Saved.{marks_fit}
use Rattle.save_text.specs.Parts.{rank_of}
use Rattle.save_text.specs.Reading.{Reading}

-- there are at most 16 nodes; once they were read, the sizes fit, and so do the numbers
pub record IsSoFar (r : Reading) : Type 0 where
  pub few : r.saved.config.nodes ≤ 16
  pub fits : 2 ≤ rank_of r.part → config_fits r.saved.config ≡ true
  pub numbers : 3 ≤ rank_of r.part → marks_fit r.saved.marks ≡ true
