use Rattle.std.proofs.Common.{◌≡◌, ℕ, false, List, [], ◌++◌, get_or, map, filter_map, Option, Some, sym, ap, ◌∙◌, subst, arith}
use Rattle.std.specs.List.{All}
use Rattle.sn_base.specs.declared.event.Event.{Event}
use Rattle.sn_model.specs.Fabric.{Net}
use Rattle.sn_model.specs.Net.{flight_of}
use Rattle.due_events.specs.Lists.{delivery, hop}
use Rattle.sn_driver.specs.Found.{HasFound}
use Rattle.sn_driver.proofs.Arrivals.{own_in_flight}
use Rattle.sn_driver.proofs.Marks.{no_deliveries, no_hops}
use Rattle.sn_driver.proofs.places.find_moves.Goals as goal

pub find_deliveries-requires-clause-room : goal.find_deliveries-requires-clause-room
find_deliveries-requires-clause-room c = let e = (c.none-found.ensures c.args.machine.now.config.nodes).count in omega (arith, e)

pub find_hops-requires : goal.find_hops-requires
find_hops-requires c =
    let e = (c.none-found.ensures c.args.machine.now.config.nodes).count in
    let l = c.find_deliveries.ensures.few in
    record { room = omega (arith, e, l) }

pub returns-then-overview-from-clause-found : goal.returns-then-overview-from-clause-found
returns-then-overview-from-clause-found c =
    let m = c.args.machine.now in
    let ds = filter_map (λ place. place) (map (delivery m.image m.config m.state c.args.node) m.state.fabric.net.flights) in
    c.find_hops.ensures.found ds (c.find_deliveries.ensures.found [] (c.none-found.ensures m.config.nodes))

pub returns-then-overview-from-clause-few : goal.returns-then-overview-from-clause-few
returns-then-overview-from-clause-few c =
    let e = (c.none-found.ensures c.args.machine.now.config.nodes).count in
    let l = c.find_deliveries.ensures.few in
    let k = c.find_hops.ensures.few in
    omega (arith, e, l, k)

pub returns-else-overview-from-clause-found : goal.returns-else-overview-from-clause-found
returns-else-overview-from-clause-found c =
    let m = c.args.machine.now in
    let fs = m.state.fabric.net.flights in
    let net = c.net.result.now in
    let carried = c.net.ensures.carried in
    let no_mark = ap (λ (k : ℕ). get_or c.args.overview.now.occupied k false) (sym (c.from.ensures ∙ c.number.ensures.same)) ∙ c.if-overview-from.false in
    let elsewhere = c.requires.seen.marked c.args.node no_mark in
    let own = subst (λ flights. All (λ f. flight_of fs f.message.id ≡ Some f) flights) (ap (λ (x : Net). x.flights) carried)
    (own_in_flight m.image m.config m.state net carried c.count-count.ensures.sound) in
    let hs = filter_map (λ (o : Option Event). o) (map (hop c.args.node) fs) in
    subst (λ events. HasFound m.config.nodes events c.none-found.result)
    (sym (ap (λ (ds : List Event). ds ++ hs) (no_deliveries c.args.node fs elsewhere m.image m.config m.state own) ∙ no_hops c.args.node fs elsewhere))
    (c.none-found.ensures m.config.nodes)

pub returns-else-overview-from-clause-few : goal.returns-else-overview-from-clause-few
returns-else-overview-from-clause-few c = let e = (c.none-found.ensures c.args.machine.now.config.nodes).count in omega (arith, e)
