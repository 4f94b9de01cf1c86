use Rattle.std.proofs.Common.{◌∙◌, arith}
use Rattle.sn_fabric.specs.Parts.{Parts}
use Rattle.sn_fabric.proofs.Named.{block-here, entry-is}
use Rattle.sn_fabric.proofs.Fabric.home.Goals as goal

pub returns-clause-here : goal.returns-clause-here
returns-clause-here c =
    let p : Parts = record {
      units = c.self.inside.units.items;
      homes = c.self.inside.homes.items;
      net = c.self.inside.net;
      point = c.self.inside.point;
    } in
    block-here c.self.inside.config p c.self.invariant.0 c.from.result c.args.block c.index.result.now
    (c.from.ensures ∙ c.number.ensures.same ∙ c.home-home.ensures) c.index.ensures

pub returns-clause-entry : goal.returns-clause-entry
returns-clause-entry c =
    let p : Parts = record {
      units = c.self.inside.units.items;
      homes = c.self.inside.homes.items;
      net = c.self.inside.net;
      point = c.self.inside.point;
    } in
    rw (← c.self.view_is)
    (entry-is c.self.inside.config p c.self.invariant.0 c.from.result c.args.block c.index.result.now
    (c.from.ensures ∙ c.number.ensures.same ∙ c.home-home.ensures) c.index.ensures
    (omega (arith, c.number-number.ensures.small, c.number-number.ensures.same)))
