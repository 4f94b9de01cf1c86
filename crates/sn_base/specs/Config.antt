-- The ranges of a machine's sizes.
use Rattle.std.specs.Prelude.{ℕ, Bool, ◌&&◌, nat_le}
use Rattle.sn_base.specs.declared.config.Config.{Config}

-- whether a number lies between two others, which it may be
abbrev pub lies_in : ℕ → ℕ → ℕ → Bool
lies_in least greatest number = nat_le least number && nat_le number greatest

abbrev pub config_fits : Config → Bool
config_fits c = lies_in 1 16 c.nodes && lies_in 1 256 c.sets && lies_in 1 16 c.ways && lies_in 4 4096 c.log
