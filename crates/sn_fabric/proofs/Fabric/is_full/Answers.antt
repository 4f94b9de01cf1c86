use Rattle.std.proofs.Common.{◌∙◌, sym}
use Rattle.sn_fabric.proofs.Accessed.{full-as}
use Rattle.sn_fabric.proofs.Fabric.is_full.Goals as goal

pub returns : goal.returns
returns c =
    rw (← c.self.view_is) (c.lacks_room.ensures.full
    ∙ sym (full-as (record {
      units = c.self.inside.units.items;
      homes = c.self.inside.homes.items;
      net = c.self.inside.net;
      point = c.self.inside.point;
    }) 1))
