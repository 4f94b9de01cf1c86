use Rattle.std.proofs.Common.{sym, ap, ◌∙◌, arith}
use Rattle.std.specs.Prelude.{option_copied}
use Rattle.home_directory.specs.Home.{owner_of}
use Rattle.sn_fabric.proofs.HeldAt.{kept-name}
use Rattle.sn_fabric.proofs.Fabric.content_at_home.Goals as goal

pub content-requires-clause-owned : goal.content-requires-clause-owned
content-requires-clause-owned c =
    ap owner_of (sym (kept-name c.self.inside.config
    (record {
      units = c.self.inside.units.items;
      homes = c.self.inside.homes.items;
      net = c.self.inside.net;
      point = c.self.inside.point;
    }) c.self.invariant.0 c.from-place.result c.args.block c.index-in-None.result.now
    (c.from-place.ensures ∙ c.number.ensures.same ∙ c.home-home.ensures) c.index-in-None.ensures
    c.index.result.now (option_copied c.old_at.result) c.args.k
    (omega (arith, c.number-number.ensures.small, c.number-number.ensures.same)) c.index.ensures c.old_at.ensures.old
    (sym c.in-None.ensures) (rw (← c.self.view_is) at c.requires)))
    ∙ (rw (← c.self.view_is) at c.requires)

pub returns-in-None : goal.returns-in-None
returns-in-None c = rw (← c.self.view_is)
    (kept-name c.self.inside.config
    (record {
      units = c.self.inside.units.items;
      homes = c.self.inside.homes.items;
      net = c.self.inside.net;
      point = c.self.inside.point;
    }) c.self.invariant.0 c.from-place.result c.args.block c.index-in-None.result.now
    (c.from-place.ensures ∙ c.number.ensures.same ∙ c.home-home.ensures) c.index-in-None.ensures
    c.index.result.now (option_copied c.old_at.result) c.args.k
    (omega (arith, c.number-number.ensures.small, c.number-number.ensures.same)) c.index.ensures c.old_at.ensures.old
    (sym c.in-None.ensures) (rw (← c.self.view_is) at c.requires)
    ∙ c.content.ensures)
