-- A message that brings a line finds the frame of its block.
use Rattle.std.proofs.Common.{◌≡◌, ℕ, true, ap, Some}
use Rattle.sn_msg.specs.declared.Body.{Body}
use Rattle.sn_msg.specs.declared.Body.TheVariants.{DataS, DataM, DataE}
use Rattle.sn_model.specs.declared.cache.Need.TheVariants as need
use Rattle.sn_model.specs.declared.rows.CacheRow.TheVariants as row
use Rattle.sn_model.specs.Caches.{takes_frame}
use Rattle.sn_model.specs.Fabric.{Fabric, Flight, node_at}
use Rattle.sn_model.specs.Net.{flight_of}
use Rattle.sn_model.specs.Receivers.{receiver_of}
use Rattle.fabric_coherence.specs.View.{GhostState}
use Rattle.fabric_coherence.specs.Coherent.{FabricInvariant}
use Rattle.fabric_coherence.specs.Steps.{IsInFlight}
use Rattle.fabric_coherence.proofs.InFlight.{in_flight}
use Rattle.fabric_coherence.proofs.RowsMet.{cache_row}
use Rattle.fabric_bounds.specs.Bounds.{brings_line}
use Rattle.fabric_bounds.proofs.Rows.{awaited_takes}

module _ (s : Fabric) (t : GhostState) (id : ℕ) (f : Flight) (kept : FabricInvariant s t) (found : flight_of s.net.flights id ≡ Some f) where
  flight : IsInFlight s f.message
  flight = in_flight s id f kept.shape found

  pub answer_takes : (x : Body) → f.message.body ≡ x → brings_line x ≡ true →
      takes_frame (node_at s f.message.to).cache f.message.block ≡ true
  answer_takes (DataS content) is b =
      awaited_takes (node_at s f.message.to).cache f.message.block need.Read
      (cache_row s t f.message flight kept (row.DataShared content) (ap receiver_of is)).0
  answer_takes (DataM content due) is b =
      awaited_takes (node_at s f.message.to).cache f.message.block need.Write
      (cache_row s t f.message flight kept (row.DataModified content due) (ap receiver_of is)).0
  answer_takes (DataE content) is b =
      awaited_takes (node_at s f.message.to).cache f.message.block need.Read
      (cache_row s t f.message flight kept (row.DataExclusive content) (ap receiver_of is)).0
  answer_takes _ is b = absurd (cc)
