use Rattle.std.proofs.Common.{◌≡◌, arith}
use Rattle.sn_model.specs.Caches.{block_count}
use Rattle.rolling_recovery.specs.Parts.{is_in_part}
use Rattle.rolling_recovery.proofs.Sizes.{none-below, one-more, one-at_most, all-below}
use Rattle.rolling_recovery.proofs.parts.part_size.Goals as goal

pub numbers-init : goal.numbers-init
numbers-init c = record { count = none-below c.args.machine.now c.args.node; few = omega arith }

pub numbers-preserved : goal.numbers-preserved
numbers-preserved c = record {
  count = one-more c.args.machine.now c.args.node c.numbers.number c.numbers.count c.weight-count.result c.numbers.invariant.count c.weight-count.ensures;
  few = one-at_most (is_in_part c.args.machine.now c.args.node c.numbers.number) c.numbers.count c.weight-count.result c.numbers.number
      c.numbers.invariant.few c.weight-count.ensures;
}

pub returns : goal.returns
returns c =
    let end : c.numbers.number ≡ block_count = omega (arith, c.numbers.auto.number-end, c.numbers-test.false) in
    all-below c.args.machine.now c.args.node c.numbers.count c.numbers.number end c.numbers.invariant.count
