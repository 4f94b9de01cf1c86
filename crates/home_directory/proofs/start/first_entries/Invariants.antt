use Rattle.std.proofs.Common.{◌≡◌, ◌-◌}
use Rattle.home_directory.specs.Home.{places_of}
use Rattle.home_directory.proofs.Starts.{begun}
use Rattle.home_directory.proofs.start.first_entries.Given as goal

-- the first entries are there, and the others are the usual one yet
abbrev pub invariant-places : goal.invariant-places
invariant-places l = l.entries ≡ begun l.image l.node l.nodes l.place (places_of l.node l.nodes - l.place)
