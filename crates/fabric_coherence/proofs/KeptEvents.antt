-- Every event of the fabric leads every block on, and so keeps its sentences; so does every run.
use Rattle.std.proofs.Common.{◌≡◌, sym, subst, ℕ, ◌+◌, ◌≤◌, Bool, true, false, not, List, [], ◌∷◌, length, refl, arith, nat_lt, Option}
use Rattle.std.proofs.Common.{Some, None, if◌then◌else◌}
use Rattle.std.specs.Prelude.{⊤}
use Rattle.std.proofs.lemmas.Bool.Decides.{nat_tests}
use Rattle.sn_base.specs.declared.config.Config.{Config}
use Rattle.sn_base.specs.declared.block.Write.{Write as Written}
use Rattle.sn_base.specs.declared.event.Answer.TheVariants.{NotArrived, Held, NoMessage, NetFull, HomeBusy, Validated}
use Rattle.sn_model.specs.declared.rows.Receiver.TheVariants as receiver
use Rattle.sn_model.specs.Fabric.{step_refused, Fabric, Flight, node_at}
use Rattle.sn_model.specs.Net.{flight_of, is_there, is_full, sending}
use Rattle.sn_model.specs.NetEvents.{delivers, delivers_flight, outcome_of}
use Rattle.sn_model.specs.PointEvents.{step_of_advance, advances}
use Rattle.sn_model.specs.FabricEvents.{FabricEvent, Access, Write, Evict, Edge, Hop, Deliver, Lose, Kill, Report, Advance, Recover}
use Rattle.sn_model.specs.FabricEvents.{moved_by}
use Rattle.sn_coherence.specs.Records.{Records}
use Rattle.fabric_coherence.specs.View.{GhostState}
use Rattle.fabric_coherence.specs.Steps.{IsInFlight}
use Rattle.fabric_coherence.specs.Coherent.{FabricInvariant, Keeps, NothingUnfinished}
use Rattle.fabric_coherence.specs.Events.{MayBe}
use Rattle.fabric_coherence.specs.Recorded.{KeepsRecords, MayBeRecorded, noted_by, recorded_by}
use Rattle.fabric_coherence.specs.Leads.{KeepsFrames, Goes, Moves}
use Rattle.fabric_coherence.specs.Runs.{IsFabricRun, fabric_after}
use Rattle.fabric_coherence.proofs.Receivers.{says_body}
use Rattle.fabric_coherence.proofs.EachOutcome.{each_row}
use Rattle.fabric_coherence.proofs.KeptCommon.{frames_stay, as_it_is, by_test, kept_on, recorded_on}
use Rattle.fabric_coherence.proofs.KeptNet.{lost_moves, hopped_moves, killed_moves, rises_goes, ready_delivered_moves}
use Rattle.fabric_coherence.proofs.KeptNet.{advance_delivered_moves}
use Rattle.fabric_coherence.proofs.KeptHome.{home_delivery_moves}
use Rattle.fabric_coherence.proofs.KeptCache.{cache_delivery_moves}
use Rattle.fabric_coherence.proofs.KeptAccess.{accessed-moves}
use Rattle.fabric_coherence.proofs.KeptEvict.{evicted-moves}
use Rattle.fabric_coherence.proofs.KeptOwn.{edged_goes, recovered_goes}
use Rattle.fabric_coherence.proofs.KeptReport.{reported_moves}
use Rattle.fabric_coherence.proofs.Finished.{rises_leads, reported_finished}
use Rattle.fabric_coherence.proofs.Retirements.{stored_kept}
use Rattle.fabric_coherence.proofs.InFlight.{in_flight, is_found}

-- a message that is delivered, by its row
module _ (config : Config) (s : Fabric) (t : GhostState) (id : ℕ) (f : Flight) (kept : FabricInvariant s t) (found : flight_of s.net.flights id ≡ Some f) where
  flight : IsInFlight s f.message
  flight = in_flight s id f kept.shape found

  reached : nat_lt (node_at s f.message.to).now f.message.tag ≡ false → f.message.tag ≤ (node_at s f.message.to).now
  reached h = grind (arith, nat_tests)

  taken_moves : nat_lt (node_at s f.message.to).now f.message.tag ≡ false →
      Moves s t (delivers config s f.message (outcome_of s f.message f.message.body))
  taken_moves h =
      each_row s f.message (λ outcome. Moves s t (delivers config s f.message outcome))
      (cache_delivery_moves s t f.message kept flight (reached h) config
      (is_found s.net.flights id f s.net.next_id (length s.nodes) found kept.shape.below kept.shape.within).names)
      (home_delivery_moves s t f.message kept flight (reached h) config)
      (as_it_is s t HomeBusy kept.shape)
      (λ k is. ready_delivered_moves s t kept config id f k found h (says_body f.message.body (receiver.Controller k) is))
      (λ k is. advance_delivered_moves s t kept config id f k found h (says_body f.message.body (receiver.Clock k) is))

  arrived_moves : (there held : Bool) → nat_lt (node_at s f.message.to).now f.message.tag ≡ held →
      Moves s t (if not there then step_refused s NotArrived else if held then step_refused s Held
      else delivers config s f.message (outcome_of s f.message f.message.body))
  arrived_moves false held h = as_it_is s t NotArrived kept.shape
  arrived_moves true true h = as_it_is s t Held kept.shape
  arrived_moves true false h = taken_moves h

delivery_moves : (config : Config) (s : Fabric) (t : GhostState) (id : ℕ) (found : Option Flight) → FabricInvariant s t →
    flight_of s.net.flights id ≡ found → Moves s t (delivers_flight config s found)
delivery_moves config s t id None kept e = as_it_is s t NoMessage kept.shape
delivery_moves config s t id (Some f) kept e =
    arrived_moves config s t id f kept e (is_there f) (nat_lt (node_at s f.message.to).now f.message.tag) refl

-- the recovery point rises
advanced_moves : (s : Fabric) (t : GhostState) (k : ℕ) → FabricInvariant s t → k ≡ s.point + 1 → NothingUnfinished s k → Moves s t (step_of_advance s k)
advanced_moves s t k kept e f = subst (λ j. NothingUnfinished s j → Moves s t (step_of_advance s j)) (sym e) next f
  where
    next : NothingUnfinished s (s.point + 1) → Moves s t (step_of_advance s (s.point + 1))
    next f =
        by_test s t (is_full s (length s.nodes)) (step_refused s NetFull)
        (sending (record s { point = s.point + 1 }) 0 0 (advances (s.point + 1) 0 s.nodes) (Validated (s.point + 1)))
        (λ q. as_it_is s t NetFull kept.shape) (λ q. (t, rises_goes s t kept (rises_leads s t kept f)))

-- every event but a write, of which the records are more than of an event
abbrev pub IsNoWrite : FabricEvent → Type 0
IsNoWrite (Write n w) = ⊥
IsNoWrite _ = ⊤

pub event_goes : (config : Config) (s : Fabric) (t : GhostState) (event : FabricEvent) → FabricInvariant s t → MayBe s event → IsNoWrite event →
    (u : GhostState) × Goes s t (noted_by s event (moved_by config s event)) (moved_by config s event).fabric u
unfolding moved_by
event_goes config s t (Access n b need) k m w = accessed-moves config s t n b need k m.0 m.1
event_goes config s t (Write n x) k m w = absurd w
event_goes config s t (Evict n b) k m w = evicted-moves s t n b k m.0 m.1
event_goes config s t (Edge n) k m w = edged_goes s t k n m
event_goes config s t (Hop id) k m w = hopped_moves s t k id
event_goes config s t (Deliver id) k m w = delivery_moves config s t id (flight_of s.net.flights id) k refl
event_goes config s t (Lose id) k m w = lost_moves s t k id
event_goes config s t (Kill switch) k m w = killed_moves s t k switch
event_goes config s t (Report n) k m w = reported_moves s t k n m
event_goes config s t (Advance j) k m w = advanced_moves s t j k m.0 m.1
event_goes config s t (Recover j) k m w = recovered_goes s t k j m

-- so every event keeps the sentences
event_keeps : (config : Config) (s : Fabric) (t : GhostState) (event : FabricEvent) → FabricInvariant s t → MayBe s event → IsNoWrite event →
    Keeps (moved_by config s event).fabric
event_keeps config s t event k m w =
    let g = event_goes config s t event k m w in
    (g.0, kept_on s t (noted_by s event (moved_by config s event)) (moved_by config s event).fabric g.0 k g.1)

write_keeps : (config : Config) (s : Fabric) (t : GhostState) (n : ℕ) (w : Written) → FabricInvariant s t → MayBe s (Write n w) →
    Keeps (moved_by config s (Write n w)).fabric
unfolding moved_by
write_keeps config s t n w k m = (t, stored_kept s t k n w m)

pub each_keeps : (config : Config) (s : Fabric) (event : FabricEvent) → Keeps s → MayBe s event → Keeps (moved_by config s event).fabric
each_keeps config s (Write n w) k m = write_keeps config s k.0 n w k.1 m
each_keeps config s (Access n b need) k m = event_keeps config s k.0 (Access n b need) k.1 m tt
each_keeps config s (Evict n b) k m = event_keeps config s k.0 (Evict n b) k.1 m tt
each_keeps config s (Edge n) k m = event_keeps config s k.0 (Edge n) k.1 m tt
each_keeps config s (Hop id) k m = event_keeps config s k.0 (Hop id) k.1 m tt
each_keeps config s (Deliver id) k m = event_keeps config s k.0 (Deliver id) k.1 m tt
each_keeps config s (Lose id) k m = event_keeps config s k.0 (Lose id) k.1 m tt
each_keeps config s (Kill switch) k m = event_keeps config s k.0 (Kill switch) k.1 m tt
each_keeps config s (Report n) k m = event_keeps config s k.0 (Report n) k.1 m tt
each_keeps config s (Advance j) k m = event_keeps config s k.0 (Advance j) k.1 m tt
each_keeps config s (Recover j) k m = event_keeps config s k.0 (Recover j) k.1 m tt

-- the same, with what becomes of the frames at edges
abbrev FramesKept : Config → Fabric → GhostState → FabricEvent → Type 0
FramesKept config s t event = (u : GhostState) × FabricInvariant (moved_by config s event).fabric u × KeepsFrames s t u

no_write_frames : (config : Config) (s : Fabric) (t : GhostState) (event : FabricEvent) → FabricInvariant s t → MayBe s event → IsNoWrite event →
    FramesKept config s t event
no_write_frames config s t event k m w =
    let g = event_goes config s t event k m w in
    (g.0, kept_on s t (noted_by s event (moved_by config s event)) (moved_by config s event).fabric g.0 k g.1, g.1.frames)

write_frames : (config : Config) (s : Fabric) (t : GhostState) (n : ℕ) (w : Written) → FabricInvariant s t → MayBe s (Write n w) →
    FramesKept config s t (Write n w)
unfolding moved_by
write_frames config s t n w k m = (t, stored_kept s t k n w m, frames_stay s t)

pub each_keeps_frames : (config : Config) (s : Fabric) (t : GhostState) (event : FabricEvent) → FabricInvariant s t → MayBe s event →
    FramesKept config s t event
each_keeps_frames config s t (Write n w) k m = write_frames config s t n w k m
each_keeps_frames config s t (Access n b need) k m = no_write_frames config s t (Access n b need) k m tt
each_keeps_frames config s t (Evict n b) k m = no_write_frames config s t (Evict n b) k m tt
each_keeps_frames config s t (Edge n) k m = no_write_frames config s t (Edge n) k m tt
each_keeps_frames config s t (Hop id) k m = no_write_frames config s t (Hop id) k m tt
each_keeps_frames config s t (Deliver id) k m = no_write_frames config s t (Deliver id) k m tt
each_keeps_frames config s t (Lose id) k m = no_write_frames config s t (Lose id) k m tt
each_keeps_frames config s t (Kill switch) k m = no_write_frames config s t (Kill switch) k m tt
each_keeps_frames config s t (Report n) k m = no_write_frames config s t (Report n) k m tt
each_keeps_frames config s t (Advance j) k m = no_write_frames config s t (Advance j) k m tt
each_keeps_frames config s t (Recover j) k m = no_write_frames config s t (Recover j) k m tt

-- and those on the records
pub each_keeps_records : (config : Config) (s : Fabric) (r : ℕ → Records) (event : FabricEvent) → KeepsRecords s r →
    MayBeRecorded s r event →
    KeepsRecords (moved_by config s event).fabric (recorded_by s r event (moved_by config s event))
each_keeps_records config s r event k m = (
  goes.0,
  kept_on s k.0 (noted_by s event (moved_by config s event)) (moved_by config s event).fabric goes.0 k.1 goes.1,
  recorded_on s k.0 (noted_by s event (moved_by config s event)) (moved_by config s event).fabric goes.0 r k.1 goes.1 k.2,
)
  where
    may : (event : FabricEvent) → MayBeRecorded s r event → MayBe s event × IsNoWrite event
    may (Write n w) m = absurd m
    may (Access n b need) m = (m, tt)
    may (Evict n b) m = (m, tt)
    may (Edge n) m = (m, tt)
    may (Hop id) m = (m, tt)
    may (Deliver id) m = (m, tt)
    may (Lose id) m = (m, tt)
    may (Kill switch) m = (m, tt)
    may (Report n) m = (m, tt)
    may (Advance j) m = ((m.0, subst (NothingUnfinished s) (sym m.0) (reported_finished s k.0 k.1 r k.2 m.1)), tt)
    may (Recover j) m = (m, tt)

    goes : (u : GhostState) × Goes s k.0 (noted_by s event (moved_by config s event)) (moved_by config s event).fabric u
    goes = event_goes config s k.0 event k.1 (may event m).0 (may event m).1

pub run_keeps : (config : Config) (s : Fabric) (events : List FabricEvent) → Keeps s → IsFabricRun config s events →
    Keeps (fabric_after config s events)
run_keeps config s [] k r = k
run_keeps config s (event ∷ events) k r = run_keeps config (moved_by config s event).fabric events (each_keeps config s event k r.0) r.1
