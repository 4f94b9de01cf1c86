use Rattle.std.proofs.Common.{ap, sym, ◌∙◌, set}
use Rattle.std.proofs.lemmas.List.Edits.{map_over_more}
use Rattle.sn_flat.specs.Reservations.{without}
use Rattle.sn_flat.proofs.flat.lose_reservations.Goals as goal

pub cores-preserved : goal.cores-preserved
cores-preserved c =
    ap (set c.cores.cores c.cores.core-index) (c.lose_reservation.ensures ∙ ap (without c.args.block) (sym c.core-item.is))
    ∙ map_over_more
    (without c.args.block) c.args.cores.now c.cores.cores c.cores.core-index c.core-item.result c.cores-test.true c.cores.invariant c.core-item.is
