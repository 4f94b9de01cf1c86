use Rattle.std.proofs.Common.{true, false, sym, ◌∙◌}
use Rattle.sn_fabric.proofs.Foreseen.{loss-foreseen}
use Rattle.sn_fabric.proofs.Fabric.foresee_lose.Goals as goal

pub returns-then-is_there : goal.returns-then-is_there
returns-then-is_there c =
    rw (← c.self.view_is) (loss-foreseen
    (record {
      units = c.self.inside.units.items;
      homes = c.self.inside.homes.items;
      net = c.self.inside.net;
      point = c.self.inside.point;
    }) c.args.id true (sym c.if-is_there.true ∙ c.is_there.ensures))

pub returns-else-is_there : goal.returns-else-is_there
returns-else-is_there c =
    rw (← c.self.view_is) (loss-foreseen
    (record {
      units = c.self.inside.units.items;
      homes = c.self.inside.homes.items;
      net = c.self.inside.net;
      point = c.self.inside.point;
    }) c.args.id false (sym c.if-is_there.false ∙ c.is_there.ensures))
