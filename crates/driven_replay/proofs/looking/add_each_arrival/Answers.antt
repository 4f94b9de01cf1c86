use Rattle.std.proofs.Common.{◌∙◌, sym, ap, ◌++◌, drop, ◌+◌, ◌<◌, length, get_or, true, arith}
use Rattle.std.specs.Prelude.{map}
use Rattle.switch_net.specs.declared.flight.Flight.{Flight as Carried}
use Rattle.state_json.specs.Json.{with_commas}
use Rattle.sn_fabric.specs.Nets.{flight_as}
use Rattle.shown_states.proofs.Lists.{things-more, things-end}
use Rattle.driven_replay.specs.Looks.{arrival_text}
use Rattle.driven_replay.proofs.Arrivals.{arrival-there}
use Rattle.driven_replay.proofs.looking.add_each_arrival.Goals as goal

pub messages-preserved : goal.messages-preserved
messages-preserved c =
    let x : Carried = record { message = c.message-switch.result.0.now; at = c.message-switch.result.1 } in
    let b : c.messages.place < length c.args.net.now.flights = omega (arith, c.messages-test.true, c.count-place-end.ensures.count) in
    let there = arrival-there c.args.net.now.flights c.messages.place x b c.message-switch.ensures in
    ap (λ t. t ++ with_commas true (map arrival_text (map flight_as (drop (c.messages.place + 1) c.args.net.now.flights))))
    (c.in_ok-add_arrival.ensures ∙ ap (λ t. c.add_comma.new.text.items ++ t) there
    ∙ ap (λ t. t ++ arrival_text (flight_as (get_or c.args.net.now.flights c.messages.place x))) c.in_ok-add_comma.ensures)
    ∙ sym (things-more arrival_text flight_as c.messages.text.items c.messages.others c.args.net.now.flights c.messages.place x b)
    ∙ c.messages.invariant

pub returns : goal.returns
returns c =
    sym (things-end arrival_text flight_as c.messages.text.items c.messages.others c.args.net.now.flights c.messages.place
    (omega (arith, c.messages-test.false, c.count-place-end.ensures.count)))
    ∙ c.messages.invariant
