use Rattle.std.proofs.Common.{◌≡◌, ◌<◌, ◌≤◌, ◌^◌, length, arith}
use Rattle.sn_fabric.specs.Parts.{unit_at}
use Rattle.sn_fabric.proofs.Foreseen.{all-undone-more, few-undone}
use Rattle.sn_fabric.proofs.Restoring.{rest-read, units-more, before-more, after-more}
use Rattle.sn_fabric.proofs.recovery.restore_nodes.Goals as goal

pub overflow_add-undone : goal.overflow_add-undone
overflow_add-undone c =
    let l : c.nodes.place < length c.args.units.now = omega arith in
    let s : c.index-units-place.result
    ≡ unit_at c.args.units.now c.nodes.place = rest-read c.args.k c.args.units.now c.nodes.units c.nodes.place c.index-units-place.result l c.nodes.invariant.units c.index-units-place.is in
    let f : c.restore_node-undone.result ≤ 2 ^ 16 = few-undone c.args.units.now c.nodes.place c.args.k c.restore_node-undone.result c.index-units-place.result s (c.requires.can c.nodes.place l).few (rw (← c.index-units-place.is) at c.restore_node-undone.ensures.undone) in
    omega (arith, c.nodes.invariant.few, c.requires.few)

pub nodes-preserved : goal.nodes-preserved
nodes-preserved c =
    let l : c.nodes.place < length c.args.units.now = omega arith in
    let h : c.nodes.place < length c.nodes.homes = omega (arith, c.requires.count, c.nodes.auto.homes) in
    let s : c.index-units-place.result
    ≡ unit_at c.args.units.now c.nodes.place = rest-read c.args.k c.args.units.now c.nodes.units c.nodes.place c.index-units-place.result l c.nodes.invariant.units c.index-units-place.is in
    let f : c.restore_node-undone.result ≤ 2 ^ 16 = few-undone c.args.units.now c.nodes.place c.args.k c.restore_node-undone.result c.index-units-place.result s (c.requires.can c.nodes.place l).few (rw (← c.index-units-place.is) at c.restore_node-undone.ensures.undone) in
    record {
      units =
          units-more c.args.k c.args.units.now c.nodes.units c.nodes.place c.index-units-place.result c.restore_node-undone.new.unit l c.nodes.invariant.units c.index-units-place.is (rw (← c.index-units-place.is) at c.restore_node-undone.ensures.unit);
      before =
          before-more c.args.k c.nodes.place c.args.units.now c.args.homes.now c.nodes.homes c.index-units-place.result c.index-homes-place.result c.restore_node-undone.new.home h s c.index-homes-place.is (rw (← c.index-units-place.is, ← c.index-homes-place.is) at c.restore_node-undone.ensures.home) c.nodes.invariant.after c.nodes.invariant.before;
      after =
          after-more c.args.k c.nodes.place c.args.units.now c.args.homes.now c.nodes.homes c.index-units-place.result c.index-homes-place.result c.restore_node-undone.new.home h s c.index-homes-place.is (rw (← c.index-units-place.is, ← c.index-homes-place.is) at c.restore_node-undone.ensures.home) c.nodes.invariant.after;
      few = omega (arith, c.nodes.invariant.few);
      undone =
          all-undone-more c.args.units.now c.nodes.place c.args.k c.nodes.undone c.restore_node-undone.result c.index-units-place.result l s c.nodes.invariant.undone (rw (← c.index-units-place.is) at c.restore_node-undone.ensures.undone);
    }
