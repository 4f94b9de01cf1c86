use Rattle.std.proofs.Common.{◌≡◌, ℕ, suc, ◌+◌, ◌-◌, ◌%◌, sym, ap, ◌∙◌, arith}
use Rattle.std.proofs.lemmas.Nat.{mod_below}
use Rattle.sn_base.specs.declared.config.Config.{Config}
use Rattle.due_events.specs.Due.{event_picked, first_picked}
use Rattle.due_events.specs.Lists.{list_of}
use Rattle.sn_driver.proofs.Turns.{picked_here, picked_later}
use Rattle.sn_driver.proofs.driver.Driver.first_picked.Goals as goal

pub returns-then-is_some-clause-same : goal.returns-then-is_some-clause-same
returns-then-is_some-clause-same c =
    let m = c.args.machine.now in
    let d = c.args.self.now in
    let nodes : c.config.result.now.nodes ≡ m.config.nodes = ap (λ (q : Config). q.nodes) c.config.ensures.same in
    let left = m.config.nodes - (c.turns._turn + 1) in
    let is = c.picked-picked.ensures.same ∙ ap (λ (n : ℕ). event_picked c.args.pick (list_of d.rules m.image m.config m.state d.numbers n)) c.numbered.ensures in
    picked_here d.rules m.image m.config m.state d.numbers c.args.pick left c.turns.number c.picked-picked.result is (sym c.if-is_some.ensures)
    ∙ c.turns.invariant.same (suc left) (omega (arith, nodes, c.turns-test.true))

pub turns-preserved : goal.turns-preserved
turns-preserved c =
    let m = c.args.machine.now in
    let d = c.args.self.now in
    let nodes : c.config.result.now.nodes ≡ m.config.nodes = ap (λ (q : Config). q.nodes) c.config.ensures.same in
    let is = c.picked-picked.ensures.same ∙ ap (λ (n : ℕ). event_picked c.args.pick (list_of d.rules m.image m.config m.state d.numbers n)) c.numbered.ensures in
    record {
      here = rw nodes (mod_below (c.turns.number + 1) m.config.nodes (omega (arith, c.turns.invariant.here)));
      same = λ left e.
          ap (λ (k : ℕ). first_picked d.rules m.image m.config m.state d.numbers c.args.pick left ((c.turns.number + 1) % k)) nodes
          ∙ sym (picked_later d.rules m.image m.config m.state d.numbers c.args.pick left c.turns.number c.picked-picked.result is (sym c.if-is_some.ensures))
          ∙ c.turns.invariant.same (suc left) (omega (arith, e));
    }

pub returns-clause-same : goal.returns-clause-same
returns-clause-same c =
    let nodes : c.config.result.now.nodes ≡ c.args.machine.now.config.nodes = ap (λ (q : Config). q.nodes) c.config.ensures.same in
    c.turns.invariant.same 0 (omega (arith, nodes, c.turns-test.false, c.turns.auto))
