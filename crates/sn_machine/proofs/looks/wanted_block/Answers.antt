use Rattle.rv_core.specs.declared.step.Want.TheVariants.{Load, Store, Amo, Lr, Sc}
use Rattle.sn_machine.proofs.Turns.{inside-of}
use Rattle.sn_machine.proofs.looks.wanted_block.Goals as goal

pub block_at-requires-clause-low : goal.block_at-requires-clause-low
block_at-requires-clause-low c =
    (inside-of c.args.image.now c.args.core.now c.want.result (Load c.in-Load.address) c.want.ensures c.in-Load.is).0

pub block_at-requires-clause-high : goal.block_at-requires-clause-high
block_at-requires-clause-high c =
    (inside-of c.args.image.now c.args.core.now c.want.result (Load c.in-Load.address) c.want.ensures c.in-Load.is).1

pub block_at-requires-in-Store-clause-low : goal.block_at-requires-in-Store-clause-low
block_at-requires-in-Store-clause-low c =
    (inside-of c.args.image.now c.args.core.now c.want.result (Store c.in-Store.address) c.want.ensures c.in-Store.is).0

pub block_at-requires-in-Store-clause-high : goal.block_at-requires-in-Store-clause-high
block_at-requires-in-Store-clause-high c =
    (inside-of c.args.image.now c.args.core.now c.want.result (Store c.in-Store.address) c.want.ensures c.in-Store.is).1

pub block_at-requires-in-Amo-clause-low : goal.block_at-requires-in-Amo-clause-low
block_at-requires-in-Amo-clause-low c =
    (inside-of c.args.image.now c.args.core.now c.want.result (Amo c.in-Amo.address) c.want.ensures c.in-Amo.is).0

pub block_at-requires-in-Amo-clause-high : goal.block_at-requires-in-Amo-clause-high
block_at-requires-in-Amo-clause-high c =
    (inside-of c.args.image.now c.args.core.now c.want.result (Amo c.in-Amo.address) c.want.ensures c.in-Amo.is).1

pub block_at-requires-in-Lr-clause-low : goal.block_at-requires-in-Lr-clause-low
block_at-requires-in-Lr-clause-low c =
    (inside-of c.args.image.now c.args.core.now c.want.result (Lr c.in-Lr.address) c.want.ensures c.in-Lr.is).0

pub block_at-requires-in-Lr-clause-high : goal.block_at-requires-in-Lr-clause-high
block_at-requires-in-Lr-clause-high c =
    (inside-of c.args.image.now c.args.core.now c.want.result (Lr c.in-Lr.address) c.want.ensures c.in-Lr.is).1

pub block_at-requires-in-Sc-clause-low : goal.block_at-requires-in-Sc-clause-low
block_at-requires-in-Sc-clause-low c =
    (inside-of c.args.image.now c.args.core.now c.want.result (Sc c.in-Sc.address) c.want.ensures c.in-Sc.is).0

pub block_at-requires-in-Sc-clause-high : goal.block_at-requires-in-Sc-clause-high
block_at-requires-in-Sc-clause-high c =
    (inside-of c.args.image.now c.args.core.now c.want.result (Sc c.in-Sc.address) c.want.ensures c.in-Sc.is).1
