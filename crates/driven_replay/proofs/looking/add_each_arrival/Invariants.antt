use Rattle.std.proofs.Common.{◌≡◌, ◌++◌, drop, false}
use Rattle.std.specs.Prelude.{map}
use Rattle.sn_fabric.specs.Nets.{flight_as}
use Rattle.state_json.specs.Json.{with_commas}
use Rattle.driven_replay.specs.Looks.{arrival_text}
use Rattle.driven_replay.proofs.looking.add_each_arrival.Given as goal

abbrev pub invariant-messages : goal.invariant-messages
invariant-messages l =
    l.text.items ++ with_commas l.others (map arrival_text (map flight_as (drop l.place l.net.flights)))
    ≡ l.initial.text.items ++ with_commas false (map arrival_text (map flight_as l.net.flights))
