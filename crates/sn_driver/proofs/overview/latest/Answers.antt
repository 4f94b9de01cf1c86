use Rattle.std.proofs.Common.{◌≡◌, ◌≤◌, ap, length, arith}
use Rattle.sn_base.specs.declared.config.Config.{Config}
use Rattle.sn_driver.proofs.Latest.{behind_it}
use Rattle.sn_driver.proofs.overview.latest.Goals as goal

pub returns : goal.returns
returns c =
    let s = c.args.machine.now.state.fabric in
    let nodes : c.config.result.now.nodes ≡ c.args.machine.now.config.nodes = ap (λ (q : Config). q.nodes) c.config.ensures.same in
    let now = c.recovered-view.ensures.consistent in
    let count : length s.nodes ≡ c.args.machine.now.config.nodes = (now.consistent now.origin now.events now.led).count in
    let few : length s.nodes ≤ c.nodes.number = omega (arith, count, nodes, c.nodes-test.false) in
    let one = c.nodes.invariant.one in
    behind_it s c.nodes.latest one.0 (omega (arith, one.1, count)) one.2 (λ k l. c.nodes.invariant.above k (omega (arith, l, few)))
