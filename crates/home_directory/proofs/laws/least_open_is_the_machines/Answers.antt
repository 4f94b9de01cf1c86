use Rattle.home_directory.proofs.LeastBegun.{least-begun}
use Rattle.home_directory.proofs.laws.least_open_is_the_machines.Goals as goal

pub returns : goal.returns
returns c s home now is count same = least-begun s.homes home.entries home.nodes home.node now is.inside is.few count is.filled same
