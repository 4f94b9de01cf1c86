use Rattle.std.proofs.Common.{◌∙◌, arith}
use Rattle.std.specs.Prelude.{option_copied}
use Rattle.sn_fabric.proofs.Named.{named-is}
use Rattle.sn_fabric.proofs.Fabric.owner_at.Goals as goal

pub returns : goal.returns
returns c =
    rw (← c.self.view_is)
    (named-is c.self.inside.config
    (record {
      units = c.self.inside.units.items;
      homes = c.self.inside.homes.items;
      net = c.self.inside.net;
      point = c.self.inside.point;
    }) c.self.invariant.0 c.from-place.result c.args.block c.index.result.now
    (c.from-place.ensures ∙ c.number.ensures.same ∙ c.home-home.ensures) c.index.ensures
    c.index-2.result.now (option_copied c.old_at.result) c.owner-owner.result c.owner_by.result c.args.k
    (omega (arith, c.number-number.ensures.small, c.number-number.ensures.same))
    c.index-2.ensures c.old_at.ensures.old c.owner-owner.ensures c.owner_by.ensures)
