use Rattle.std.proofs.Common.{subst, sym, ap}
use Rattle.sn_flat.proofs.Writes.{IsInMemory, written-in-memory}
use Rattle.sn_flat.proofs.flat.Flat.take.Goals as goal

pub write-requires : goal.write-requires
write-requires c =
    let e : _ = ap (λ effect. effect.write) c.finish-effect.ensures.effect in
    subst IsInMemory (sym e)
    (written-in-memory c.args.image.now c.index.result.now c.args.taken.now.seen c.args.taken.now.sc_done c.args.taken.now.read)
