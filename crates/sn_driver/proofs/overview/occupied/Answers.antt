use Rattle.std.proofs.Common.{◌≡◌, ◌<◌, ◌≤◌, ℕ, ◌/◌, true, false, length, map, slice_get, IfSome, refl, sym, ap, ◌∙◌, subst, arith}
use Rattle.std.proofs.lemmas.List.{length-map, length-set}
use Rattle.route_plan.specs.Grid.{node_of}
use Rattle.sn_model.specs.Fabric.{Net}
use Rattle.due_events.specs.Nets.{flight_as}
use Rattle.sn_driver.specs.Overview.{stands_at}
use Rattle.sn_driver.proofs.Arrivals.{at_place}
use Rattle.sn_driver.proofs.Marks.{more_marked, all_whole}
use Rattle.sn_driver.proofs.overview.occupied.Goals as goal

pub places-preserved : goal.places-preserved
places-preserved c =
    let fs = c.args.machine.now.state.fabric.net.flights in
    let same : length (map flight_as c.net.result.now.flights) ≡ length fs = ap (λ (x : Net). length x.flights) c.net.ensures.carried in
    let here : c.places.place < length fs =
    let e = c.count-place-end.ensures.count in let t = c.places-test.true in omega (arith, same, e, t, length-map c.net.result.now.flights flight_as) in
    let inside : c.from.result < length c.places.occupied = omega (arith, c.from.ensures, c.number.ensures.small, c.places.invariant.nodes) in
    let at = subst (λ flights. IfSome (slice_get flights c.places.place) (λ f. node_of f.place ≡ c.from.result)) (ap (λ (x : Net). x.flights) c.net-in-places.ensures.carried)
    (at_place (λ f. f ≡ f) (λ f. node_of f.place ≡ c.from.result) _ c.net-in-places.result.now.flights c.places.place (λ k d l. refl) c.message-switch.ensures
    (λ g own is. ap (λ (switch : ℕ). switch / 2) (sym (c.number.ensures.same ∙ is.1)) ∙ sym c.from.ensures)) in
    record {
      nodes = omega (arith, length-set c.places.occupied c.from.result true, c.places.invariant.nodes);
      marked = more_marked c.places.occupied fs c.places.place c.from.result inside here at c.places.invariant.marked;
    }

pub returns : goal.returns
returns c =
    let fs = c.args.machine.now.state.fabric.net.flights in
    let same : length (map flight_as c.net.result.now.flights) ≡ length fs = ap (λ (x : Net). length x.flights) c.net.ensures.carried in
    let few : length fs ≤ c.places.place =
    let e = c.count-place-end.ensures.count in let t = c.places-test.false in omega (arith, same, e, t, length-map c.net.result.now.flights flight_as) in
    λ n e. all_whole (λ f. stands_at n f ≡ false) fs c.places.place few (c.places.invariant.marked n e)
