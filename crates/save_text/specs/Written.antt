-- Which values are written and read back.
use Rattle.std.specs.Prelude.{◌<◌}
use Rattle.std.specs.List.{All}
use Rattle.sn_saved.specs.Saved.{Saved}
use Rattle.sn_text.specs.Written.{IsRecordOf}

-- the bytes and the records are numbers of their types
pub record HasValues (saved : Saved) : Type 0 where
  pub bytes : All (λ byte. byte.1 < 256) saved.given
  pub records : All (IsRecordOf saved.config.nodes) saved.committed
