-- The fabric's half, as it is proved.
use Rattle.fabric_bounds.proofs.Retirements.{load, load_reserved, undone, stored_kept, store_recorded, store_conditional_recorded}
use Rattle.fabric_bounds.proofs.KeptEvents.{each_keeps_records}
use Rattle.fabric_bounds.proofs.Told.{tells}
use Rattle.fabric_bounds.proofs.KeptStart.{start-kept, start-recorded}
use Rattle.fabric_bounds.proofs.Finished.{reported_finished, point_finished}
use Rattle.fabric_bounds.proofs.InFlight.{in_flight}
use Rattle.fabric_bounds.proofs.NodesStay.{nodes_same}
use Rattle.fabric_bounds.specs.Start.{first_ghost}
use Rattle.consistent_cuts.proofs.FabricAfter.{FabricHalf}

pub half : FabricHalf
half = record {
  tell = λ s r k b l. tells s k.0 k.1 b l (r b) (k.2 b l);
  event = each_keeps_records;
  load = λ s r n b k can present. (k.0, k.1, load s k.0 r k.1 k.2 n b can present);
  load_reserved = λ s r n b k can present. (k.0, k.1, load_reserved s k.0 r k.1 k.2 n b can present);
  store = λ s r n w k can. (k.0, stored_kept s k.0 k.1 n w can, store_recorded s k.0 k.1 n w can r k.2);
  store_conditional =
      λ s r n w k can reserved. (k.0, stored_kept s k.0 k.1 n w can, store_conditional_recorded s k.0 k.1 n w can r k.2 reserved);
  undone = λ s r n k l. (k.0, k.1, undone s k.0 r k.1 k.2 n l);
  start = λ image nodes some few. (first_ghost, start-kept image nodes some few, start-recorded image nodes some few);
  finished = λ s r k above. reported_finished s k.0 k.1 r k.2 above;
  flight = in_flight;
  none_unfinished = λ s r k. (point_finished s k.0 k.1).none;
  nodes = nodes_same;
}
