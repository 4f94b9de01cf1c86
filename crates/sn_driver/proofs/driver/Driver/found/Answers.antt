use Rattle.std.proofs.Common.{◌≡◌, ◌<◌, ◌++◌, length, map, take, filter_map, sym, ap, ◌∙◌, subst, append-nil, arith}
use Rattle.due_events.specs.Lists.{delivery, hop, own_places}
use Rattle.sn_driver.specs.Found.{HasFound}
use Rattle.sn_driver.proofs.FirstPlaces.{more-some, more-none, kept-all}
use Rattle.sn_driver.proofs.driver.Driver.found.Goals as goal
use Rattle.sn_driver.proofs.driver.Driver.found.Goals.{in-Some, in_default}

pub own-init : goal.own-init
own-init c =
    let m = c.args.machine.now in
    let n = m.config.nodes in
    let ds = filter_map (λ place. place) (map (delivery m.image m.config m.state c.args.node) m.state.fabric.net.flights) in
    let hs = filter_map (λ place. place) (map (hop c.args.node) m.state.fabric.net.flights) in
    let l = c.find_moves-found.ensures.few in
    record {
      few = omega (arith, l);
      found = subst (λ events. HasFound n events c.find_moves-found.result) (sym (append-nil (ds ++ hs))) c.find_moves-found.ensures.found;
    }

pub own-preserved : goal.own-preserved
own-preserved c =
    let m = c.args.machine.now in
    let n = m.config.nodes in
    let messages = filter_map (λ place. place) (map (delivery m.image m.config m.state c.args.node) m.state.fabric.net.flights)
    ++ filter_map (λ place. place) (map (hop c.args.node) m.state.fabric.net.flights) in
    let ps = own_places c.args.self.now.rules m.image m.config m.state c.args.self.now.numbers c.args.node in
    let k = c.own.place in
    let l : k < length ps = c.own-test.true in
    let before = c.own.invariant.few in
    elim c.match-own_event.branch [
      | in-Some w ↦ rw w.found-is (record {
        few = let e = w.add.ensures.count in omega (arith, e, before);
        found = subst (λ events. HasFound n events w.add.new.self) (sym (more-some ps k l messages w.in-Some.event w.in-Some.ensures.same))
            (w.add.ensures.found n (messages ++ filter_map (λ place. place) (take k ps)) w.in-Some.ensures.fits c.own.invariant.found);
      })
      | in_default w ↦ rw w.found-is (record {
        few = omega (arith, before);
        found = subst (λ events. HasFound n events c.own.found) (sym (more-none ps k l messages w.in_default.ensures.same)) c.own.invariant.found;
      })
    ]

pub returns : goal.returns
returns c =
    let m = c.args.machine.now in
    let n = m.config.nodes in
    let ds = map (delivery m.image m.config m.state c.args.node) m.state.fabric.net.flights in
    let hs = map (hop c.args.node) m.state.fabric.net.flights in
    let os = own_places c.args.self.now.rules m.image m.config m.state c.args.self.now.numbers c.args.node in
    let all : c.own.place ≡ 5 = omega (arith, c.own-test.false, c.own.auto) in
    record {
      found = subst (λ events. HasFound n events c.own.found)
          (ap (λ k. (filter_map (λ place. place) ds ++ filter_map (λ place. place) hs) ++ filter_map (λ place. place) (take k os)) all ∙ kept-all ds hs os)
          c.own.invariant.found;
    }
