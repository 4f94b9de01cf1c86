use Rattle.std.proofs.Common.{refl, sym, ◌∙◌, ◌<◌, arith}
use Rattle.sn_model.specs.Caches.{block_count}
use Rattle.sn_driver.proofs.Evictions.{eviction-none, eviction-some}
use Rattle.sn_driver.proofs.moves.eviction.Goals as goal

pub returns-in_err-block-clause-same : goal.returns-in_err-block-clause-same
returns-in_err-block-clause-same c =
    c.from_residual.ensures ∙ eviction-none c.args.machine.now c.args.node c.args.answer.now c.requires.foreseen (sym c.if-not-needs_evict.ensures) (c.in_err-block.ensures.none refl)

pub returns-clause-same : goal.returns-clause-same
returns-clause-same c =
    let l : c.in_ok-block.block < block_count = omega (arith, c.number-number.ensures.same, c.number-number.ensures.small) in
    eviction-some c.args.machine.now c.args.node c.in_ok-block.block l c.in_ok-block.ensures.some.0 c.in_ok-block.ensures.some.1 c.in_ok-block.ensures.some.2
