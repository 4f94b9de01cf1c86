use Rattle.std.proofs.Common.{sym, arith}
use Rattle.sn_fabric.proofs.HeldAt.{holder-at, held-home, holder-here, holder-holds, held-cache}
use Rattle.sn_fabric.proofs.Fabric.content_at.Goals as goal

pub content_at_cache-requires-clause-here : goal.content_at_cache-requires-clause-here
content_at_cache-requires-clause-here c = holder-here c.args.self.now.fabric c.args.block c.args.k
    (rw (← c.self.view_is) (holder-at c.self.inside.config
    (record {
      units = c.self.inside.units.items;
      homes = c.self.inside.homes.items;
      net = c.self.inside.net;
      point = c.self.inside.point;
    }) c.args.k c.args.block c.self.invariant.0
    (omega (arith, c.number-number.ensures.small, c.number-number.ensures.same)) (rw (← c.self.view_is) at c.requires.point)
    (rw (← c.self.view_is) at c.requires.settled)))
    c.in-Cache.node (sym c.in-Cache.ensures)

pub content_at_cache-requires-clause-held : goal.content_at_cache-requires-clause-held
content_at_cache-requires-clause-held c = holder-holds c.args.self.now.fabric c.args.block c.args.k
    (rw (← c.self.view_is) (holder-at c.self.inside.config
    (record {
      units = c.self.inside.units.items;
      homes = c.self.inside.homes.items;
      net = c.self.inside.net;
      point = c.self.inside.point;
    }) c.args.k c.args.block c.self.invariant.0
    (omega (arith, c.number-number.ensures.small, c.number-number.ensures.same)) (rw (← c.self.view_is) at c.requires.point)
    (rw (← c.self.view_is) at c.requires.settled)))
    c.in-Cache.node (sym c.in-Cache.ensures)

pub returns-in-Home : goal.returns-in-Home
returns-in-Home c = held-home c.args.self.now.fabric c.args.block c.args.k
    (rw (← c.self.view_is) (holder-at c.self.inside.config
    (record {
      units = c.self.inside.units.items;
      homes = c.self.inside.homes.items;
      net = c.self.inside.net;
      point = c.self.inside.point;
    }) c.args.k c.args.block c.self.invariant.0
    (omega (arith, c.number-number.ensures.small, c.number-number.ensures.same)) (rw (← c.self.view_is) at c.requires.point)
    (rw (← c.self.view_is) at c.requires.settled)))
    c.content_at_home.result.now c.content_at_home.ensures

pub returns-in-Cache : goal.returns-in-Cache
returns-in-Cache c = held-cache c.args.self.now.fabric c.args.block c.args.k
    (rw (← c.self.view_is) (holder-at c.self.inside.config
    (record {
      units = c.self.inside.units.items;
      homes = c.self.inside.homes.items;
      net = c.self.inside.net;
      point = c.self.inside.point;
    }) c.args.k c.args.block c.self.invariant.0
    (omega (arith, c.number-number.ensures.small, c.number-number.ensures.same)) (rw (← c.self.view_is) at c.requires.point)
    (rw (← c.self.view_is) at c.requires.settled)))
    c.in-Cache.node (sym c.in-Cache.ensures) c.content_at_cache.result.now c.content_at_cache.ensures
