use Rattle.std.proofs.Common.{◌<◌, List, length, map, refl, sym, ap, ◌∙◌, subst, arith}
use Rattle.std.specs.List.{sum_by}
use Rattle.sn_base.specs.declared.event.Answer.TheVariants.{Recovered}
use Rattle.sn_model.specs.Fabric.{Fabric}
use Rattle.sn_model.specs.PointEvents.{step_of_recovery}
use Rattle.sn_fabric.specs.declared.node.NodeUnit.{NodeUnit}
use Rattle.sn_fabric.specs.Recovery.{restored_unit, undone_of}
use Rattle.sn_fabric.proofs.Parts.{kept, after-view}
use Rattle.sn_fabric.proofs.Recovered.{can-restore, joined-then, recovery-comes}
use Rattle.sn_fabric.proofs.Restoring.{written}
use Rattle.sn_fabric.proofs.Fabric.recover.Goals as goal

pub restore_nodes-undone-requires-clause-can : goal.restore_nodes-undone-requires-clause-can
restore_nodes-undone-requires-clause-can c n l =
    let h : n < length c.self.inside.units.items = subst (λ (xs : List NodeUnit). n < length xs) c.as_mut_slice.ensures.value l in
    rw (c.as_mut_slice.ensures.value, c.as_mut_slice-in-Ok.ensures.value)
    (can-restore c.self.inside.config
    (record {
      units = c.self.inside.units.items;
      homes = c.self.inside.homes.items;
      net = c.self.inside.net;
      point = c.self.inside.point;
    }) c.args.k c.self.invariant.0 (rw (← c.self.view_is) at c.requires) n h)

pub invariant_of-self-in-Ok : goal.invariant_of-self-in-Ok
invariant_of-self-in-Ok c =
    rw (
      (written c.self.inside.units.len c.restore_nodes-undone.new.units c.self.inside.units.items
          (sym (c.restore_nodes-undone.auto.units ∙ c.as_mut_slice.ensures.len))
          ∙ c.restore_nodes-undone.ensures.units ∙ ap (map (restored_unit c.args.k)) c.as_mut_slice.ensures.value),
      (written c.self.inside.homes.len c.restore_nodes-undone.new.homes c.self.inside.homes.items
          (sym (c.restore_nodes-undone.auto.homes ∙ c.as_mut_slice-in-Ok.ensures.len))),
    )
    (kept (recovery-comes c.self.inside.config
    (record {
      units = c.self.inside.units.items;
      homes = c.self.inside.homes.items;
      net = c.self.inside.net;
      point = c.self.inside.point;
    }) c.args.k c.restore_nodes-undone.new.homes c.recover.new.self c.restore_nodes-undone.result c.in-Ok.dropped c.clear.new.self.items
    c.self.invariant.0 (rw (← c.self.view_is) at c.requires) (joined-then c.self.inside.config
    (record {
      units = c.self.inside.units.items;
      homes = c.self.inside.homes.items;
      net = c.self.inside.net;
      point = c.self.inside.point;
    }) c.self.invariant.0.whole c.in-Ok.dropped c.in-Ok.ensures.cut_off)
    (c.restore_nodes-undone.auto.homes ∙ ap length c.as_mut_slice-in-Ok.ensures.value)
    (rw (c.as_mut_slice.ensures.value, c.as_mut_slice-in-Ok.ensures.value) at c.restore_nodes-undone.ensures.homes)
    (c.in-Ok.ensures.recovered refl)
    (c.restore_nodes-undone.ensures.undone ∙ ap (sum_by (undone_of c.args.k)) c.as_mut_slice.ensures.value)
    c.in-Ok.ensures.dropped c.clear.ensures.items)
    (omega (arith, c.self.invariant.1, c.clear.ensures.capacity)))

pub returns-in-Ok : goal.returns-in-Ok
returns-in-Ok c =
    rw (
      (written c.self.inside.units.len c.restore_nodes-undone.new.units c.self.inside.units.items
          (sym (c.restore_nodes-undone.auto.units ∙ c.as_mut_slice.ensures.len))
          ∙ c.restore_nodes-undone.ensures.units ∙ ap (map (restored_unit c.args.k)) c.as_mut_slice.ensures.value),
      (written c.self.inside.homes.len c.restore_nodes-undone.new.homes c.self.inside.homes.items
          (sym (c.restore_nodes-undone.auto.homes ∙ c.as_mut_slice-in-Ok.ensures.len))),
    )
    (after-view c.self.inside.config
    (record { units = c.self.inside.units.items; homes = c.self.inside.homes.items; net = c.self.inside.net; point = c.self.inside.point })
    (record {
      units = map (restored_unit c.args.k) c.self.inside.units.items;
      homes = c.restore_nodes-undone.new.homes;
      net = c.recover.new.self;
      point = c.self.inside.point;
    })
    c.self.inside.sent.items c.clear.new.self.items
    (Recovered (record { to = c.args.k; undone = c.restore_nodes-undone.result; dropped = c.in-Ok.dropped }))
    (λ (s : Fabric). step_of_recovery s c.args.k) c.args.self.now c.self.view_is
    (recovery-comes c.self.inside.config
    (record {
      units = c.self.inside.units.items;
      homes = c.self.inside.homes.items;
      net = c.self.inside.net;
      point = c.self.inside.point;
    }) c.args.k c.restore_nodes-undone.new.homes c.recover.new.self c.restore_nodes-undone.result c.in-Ok.dropped c.clear.new.self.items
    c.self.invariant.0 (rw (← c.self.view_is) at c.requires) (joined-then c.self.inside.config
    (record {
      units = c.self.inside.units.items;
      homes = c.self.inside.homes.items;
      net = c.self.inside.net;
      point = c.self.inside.point;
    }) c.self.invariant.0.whole c.in-Ok.dropped c.in-Ok.ensures.cut_off)
    (c.restore_nodes-undone.auto.homes ∙ ap length c.as_mut_slice-in-Ok.ensures.value)
    (rw (c.as_mut_slice.ensures.value, c.as_mut_slice-in-Ok.ensures.value) at c.restore_nodes-undone.ensures.homes)
    (c.in-Ok.ensures.recovered refl)
    (c.restore_nodes-undone.ensures.undone ∙ ap (sum_by (undone_of c.args.k)) c.as_mut_slice.ensures.value)
    c.in-Ok.ensures.dropped c.clear.ensures.items))
