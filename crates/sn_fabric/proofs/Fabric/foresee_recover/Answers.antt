use Rattle.std.proofs.Common.{◌<◌, ◌^◌, length, List, sym, subst}
use Rattle.sn_fabric.specs.declared.node.NodeUnit.{NodeUnit}
use Rattle.sn_fabric.specs.Parts.{unit_at}
use Rattle.sn_fabric.proofs.Recovered.{small-logs}
use Rattle.sn_fabric.proofs.Fabric.foresee_recover.Goals as goal

pub count_all_undone-requires-clause-logs : goal.count_all_undone-requires-clause-logs
count_all_undone-requires-clause-logs c n l =
    subst (λ (units : List NodeUnit). n < length units → length (unit_at units n).log.entries < 2 ^ 16) (sym c.as_slice.ensures.value)
    (small-logs c.self.inside.config
    (record {
      units = c.self.inside.units.items;
      homes = c.self.inside.homes.items;
      net = c.self.inside.net;
      point = c.self.inside.point;
    }) c.self.invariant.0 n) l
