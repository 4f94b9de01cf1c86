use Rattle.std.proofs.Common.{ap}
use Rattle.mosi_cache.specs.Controller.{CacheData}
use Rattle.sn_fabric.proofs.GivenBack.{room_for}
use Rattle.sn_fabric.proofs.resuming.resumed_unit.Goals as goal

pub give_owned-requires-clause-room : goal.give_owned-requires-clause-room
give_owned-requires-clause-room c =
    room_for c.args.config.now c.args.contents.now c.args.owners.now c.args.node c.requires.sets c.in_ok-cache.cache
    (ap (λ (x : CacheData). x.cache) c.in_ok-cache.ensures) (ap (λ (x : CacheData). x.sets) c.in_ok-cache.ensures)
    (ap (λ (x : CacheData). x.ways) c.in_ok-cache.ensures)
