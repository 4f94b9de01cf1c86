use Rattle.std.proofs.Common.{◌≡◌, ◌<◌, ◌++◌, length, map, take, filter_map, Some, None, sym, ap, subst, arith}
use Rattle.std.proofs.lemmas.List.{length-map}
use Rattle.sn_model.specs.Fabric.{Net}
use Rattle.due_events.specs.Nets.{flight_as}
use Rattle.due_events.specs.Lists.{hop}
use Rattle.sn_driver.specs.Found.{HasFound}
use Rattle.sn_driver.proofs.FirstPlaces.{more-some, more-none, at_map}
use Rattle.sn_driver.proofs.places.find_hops.Goals as goal
use Rattle.sn_driver.proofs.places.find_hops.Goals.{in-Some, in_default}

pub places-preserved : goal.places-preserved
places-preserved c =
    let m = c.args.machine.now in
    let n = m.config.nodes in
    let fs = m.state.fabric.net.flights in
    let g = hop c.args.node in
    let ps = map g fs in
    let k = c.places.place in
    let same : length (map flight_as c.net.result.now.flights) ≡ length fs = ap (λ (x : Net). length x.flights) c.net.ensures.carried in
    let here : k < length fs = let e = c.count-flights.ensures.count in let t = c.places-test.true in omega (arith, same, e, t, length-map c.net.result.now.flights flight_as) in
    let l : k < length ps = omega (arith, here, length-map fs g) in
    let before = c.places.invariant.few in
    elim c.match-hop.branch [
      | in-Some w ↦ rw w.found-is (record {
        few = let e = w.add.ensures.count in omega (arith, e, before);
        found = λ events h. subst (λ es. HasFound n es w.add.new.self) (sym (more-some ps k l events w.in-Some.event (at_map g fs k (Some w.in-Some.event) here w.in-Some.ensures.same)))
            (w.add.ensures.found n (events ++ filter_map (λ place. place) (take k ps)) w.in-Some.ensures.fits (c.places.invariant.found events h));
      })
      | in_default w ↦ rw w.found-is (record {
        few = omega (arith, before);
        found = λ events h. subst (λ es. HasFound n es c.places.found) (sym (more-none ps k l events (at_map g fs k None here w.in_default.ensures.same))) (c.places.invariant.found events h);
      })
    ]
