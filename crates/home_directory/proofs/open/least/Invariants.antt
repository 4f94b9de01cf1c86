use Rattle.std.proofs.Common.{◌≡◌, drop}
use Rattle.home_directory.specs.Home.{lesser_of}
use Rattle.home_directory.specs.Open.{least_in}
use Rattle.home_directory.proofs.open.least.Given as goal

-- what was found, with what is left, is what all have
abbrev pub invariant-opens : goal.invariant-opens
invariant-opens l = lesser_of l.least (least_in (drop l.open-index l.opens)) ≡ least_in l.opens
