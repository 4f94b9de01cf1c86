use Rattle.std.proofs.Common.{◌≡◌, ◌++◌, drop, false}
use Rattle.std.specs.Prelude.{map}
use Rattle.sn_fabric.specs.Nets.{flight_as}
use Rattle.state_json.specs.Json.{with_commas}
use Rattle.state_json.specs.Messages.{flight_text}
use Rattle.machine_states.proofs.net.add_each_flight.Given as goal

abbrev pub invariant-messages : goal.invariant-messages
invariant-messages l =
    l.text.items ++ with_commas l.others (map flight_text (map flight_as (drop l.place l.net.flights)))
    ≡ l.initial.text.items ++ with_commas false (map flight_text (map flight_as l.net.flights))
