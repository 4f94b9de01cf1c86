use Rattle.sn_fabric.proofs.Foreseen.{hop-foreseen}
use Rattle.sn_fabric.proofs.Fabric.foresee_hop.Goals as goal

pub returns : goal.returns
returns c =
    rw (← c.self.view_is) (hop-foreseen c.self.inside.config
    (record {
      units = c.self.inside.units.items;
      homes = c.self.inside.homes.items;
      net = c.self.inside.net;
      point = c.self.inside.point;
    }) c.args.id c.look_hop.result c.hop_answer.result c.self.invariant.0 c.look_hop.ensures c.hop_answer.ensures)
