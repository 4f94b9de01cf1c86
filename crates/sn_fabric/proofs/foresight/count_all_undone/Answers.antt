use Rattle.std.proofs.Common.{◌≡◌, ◌<◌, ◌≤◌, ◌^◌, length, arith}
use Rattle.std.proofs.lemmas.List.{get_or_read}
use Rattle.sn_fabric.specs.Parts.{no_unit, unit_at}
use Rattle.sn_fabric.proofs.Foreseen.{all-undone-more, few-undone}
use Rattle.sn_fabric.proofs.foresight.count_all_undone.Goals as goal

pub overflow_add-undone : goal.overflow_add-undone
overflow_add-undone c =
    let l : c.units.unit-index < length c.args.units.now = omega arith in
    let s : c.unit-item.result
    ≡ unit_at c.args.units.now c.units.unit-index = get_or_read c.args.units.now c.units.unit-index c.unit-item.result l c.unit-item.is no_unit in
    let f : c.count_undone-undone.result ≤ 2 ^ 16 = few-undone c.args.units.now c.units.unit-index c.args.k c.count_undone-undone.result c.unit-item.result s (c.requires.logs c.units.unit-index l) c.count_undone-undone.ensures in
    omega (arith, c.units.invariant.few, c.requires.few)

pub units-preserved : goal.units-preserved
units-preserved c =
    let l : c.units.unit-index < length c.args.units.now = omega arith in
    let s : c.unit-item.result
    ≡ unit_at c.args.units.now c.units.unit-index = get_or_read c.args.units.now c.units.unit-index c.unit-item.result l c.unit-item.is no_unit in
    let f : c.count_undone-undone.result ≤ 2 ^ 16 = few-undone c.args.units.now c.units.unit-index c.args.k c.count_undone-undone.result c.unit-item.result s (c.requires.logs c.units.unit-index l) c.count_undone-undone.ensures in
    record {
      few = omega (arith, c.units.invariant.few);
      same =
          all-undone-more c.args.units.now c.units.unit-index c.args.k c.units.undone c.count_undone-undone.result c.unit-item.result l s c.units.invariant.same c.count_undone-undone.ensures;
    }
