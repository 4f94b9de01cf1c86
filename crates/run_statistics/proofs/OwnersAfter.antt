-- What each event of the machine leaves of the nodes, and of what their caches own.
use Rattle.std.proofs.Common.{◌≡◌, ℕ, ◌+◌, ◌<◌, Bool, true, false, length, Option, Some, None, refl, sym, ap, ◌∙◌, true≢false}
use Rattle.std.proofs.lemmas.Bool.{ltb-true}
use Rattle.sn_base.specs.Events.{event_fits}
use Rattle.sn_base.specs.Image.{ImageData}
use Rattle.sn_base.specs.declared.block.Write.{Write}
use Rattle.sn_base.specs.declared.config.Config.{Config}
use Rattle.sn_base.specs.declared.event.Event.{Event}
use Rattle.sn_base.specs.declared.event.Event.TheVariants.{Step, Evict, Edge, Hop, Deliver, Lose, Kill, Report, Validate, Recover, Input as GivesInput}
use Rattle.rv_core.specs.declared.step.Want.{Want}
use Rattle.rv_core.specs.declared.step.Want.TheVariants.{Nothing, Load, Store, Amo, Lr, Sc, Input}
use Rattle.rv_core.specs.Core.{block_of}
use Rattle.rv_core.specs.Step.{want_of}
use Rattle.rv_core.specs.Wanted.{WriteFits}
use Rattle.rv_core.proofs.CoreLaws.{write_fits}
use Rattle.sn_model.specs.declared.cache.Need.TheVariants as need
use Rattle.sn_model.specs.Fabric.{line_of_node}
use Rattle.sn_model.specs.Net.{flight_of}
use Rattle.sn_model.specs.NetEvents.{hops, loses, step_of_kill}
use Rattle.sn_model.specs.NodeEvents.{step_of_eviction, step_of_edge, step_of_report}
use Rattle.sn_model.specs.Machine.{State, processor_at}
use Rattle.sn_model.specs.Instructions.{found_at, written_by, step_of_retirement, step_of_instruction}
use Rattle.sn_model.specs.MachineEvents.{is_recovered, validates, unready_node, restores}
use Rattle.sn_model.specs.PointEvents.{recovers, fabric_restored_to}
use Rattle.sn_model.specs.Step.{step_of}
use Rattle.consistent_cuts.specs.Accesses.{CanServe, CanServeWant, CanRetire, write_of}
use Rattle.consistent_cuts.proofs.SteppedCases.{stepped_cases}
use Rattle.run_statistics.specs.Owned.{owns, touched_lines, reach_of, is_recovery}
use Rattle.run_statistics.proofs.Owners.{SameOwners, FollowsLines, SameNodes, SameNodesBut, SameUnreached, writable_owned, write-owners, write-others}
use Rattle.run_statistics.proofs.Owners.{access-owners, access-others, eviction-owners, eviction-others, edge-owners, edge-others, report-nodes, hop-nodes}
use Rattle.run_statistics.proofs.Owners.{loss-nodes, kill-nodes, advance-nodes, delivery-owners, delivery-others, same-owners, same-nodes, one-reached}

-- an instruction writes to a line that owns its block
module _ (config : Config) (s : State) (n : ℕ) where
  at_address : (a : ℕ) (w : Write) → w.address ≡ a → CanServe config s.fabric n (block_of a) need.Write →
      owns s.fabric n (block_of w.address) ≡ true
  at_address a w e can =
      ap (λ t. owns s.fabric n (block_of t)) e ∙ writable_owned (line_of_node s.fabric n (block_of a)).state can.serving

  owned_where_written : (w : Want) (done : Bool) (x : Write) → WriteFits w done (Some x) → CanServeWant w done config s n →
      owns s.fabric n (block_of x.address) ≡ true
  owned_where_written Nothing done x fits can = absurd (true≢false (sym fits.0))
  owned_where_written Input done x fits can = absurd (true≢false (sym fits.0))
  owned_where_written (Load a) done x fits can = absurd (true≢false (sym fits.0))
  owned_where_written (Lr a) done x fits can = absurd (true≢false (sym fits.0))
  owned_where_written (Store a) done x fits can = at_address a x fits.1 can
  owned_where_written (Amo a) done x fits can = at_address a x fits.1 can
  owned_where_written (Sc a) true x fits can = at_address a x fits.1 can
  owned_where_written (Sc a) false x fits can = absurd (true≢false (sym fits.0))

  written_owners : (w : Want) (done : Bool) (write : Option Write) → WriteFits w done write → CanServeWant w done config s n →
      SameOwners s.fabric (written_by s.fabric n write)
  written_owners w done None fits can = λ k b. refl
  written_owners w done (Some x) fits can = write-owners s.fabric n x (owned_where_written w done x fits can)

  retired_owners : (image : ImageData) → CanRetire image config s n → SameOwners s.fabric (step_of_retirement image s n).state.fabric
  retired_owners image can =
      written_owners (want_of image (processor_at s n).core) (found_at image s n).sc_done (write_of image s n)
      (write_fits image (processor_at s n).core (found_at image s n).seen (found_at image s n).sc_done (found_at image s n).read) can.served

  stepped_owners : (image : ImageData) → n < length s.fabric.nodes → SameOwners s.fabric (step_of_instruction image config s n).state.fabric
  stepped_owners image l =
      stepped_cases image config s n l (λ x. SameOwners s.fabric x.state.fabric) (retired_owners image)
      (λ block access low leaves. access-owners config s.fabric n block access) (λ answer leaves k b. refl)

  written_others : (write : Option Write) → SameNodesBut s.fabric n (written_by s.fabric n write)
  written_others None = λ k d. refl
  written_others (Some x) = write-others s.fabric n x

  stepped_others : (image : ImageData) → n < length s.fabric.nodes → SameNodesBut s.fabric n (step_of_instruction image config s n).state.fabric
  stepped_others image l =
      stepped_cases image config s n l (λ x. SameNodesBut s.fabric n x.state.fabric) (λ can. written_others (write_of image s n))
      (λ block access low leaves. access-others config s.fabric n block access) (λ answer leaves k d. refl)

validation_nodes : (s : State) (unready : Option ℕ) → SameNodes s.fabric (validates s unready).state.fabric
validation_nodes s (Some n) = refl
validation_nodes s None = advance-nodes s.fabric (s.fabric.point + 1)

refused_recovery : (s : State) (k : ℕ) (cut : Option (ℕ × ℕ)) → is_recovered (restores s (recovers s.fabric k cut)).answer ≡ false →
    SameOwners s.fabric (restores s (recovers s.fabric k cut)).state.fabric
refused_recovery s k (Some pair) calm = λ n b. refl
refused_recovery s k None calm = absurd (true≢false calm)

done_recovery : (s : State) (k : ℕ) (cut : Option (ℕ × ℕ)) → is_recovered (restores s (recovers s.fabric k cut)).answer ≡ true →
    (restores s (recovers s.fabric k cut)).state.fabric ≡ fabric_restored_to s.fabric k
done_recovery s k (Some pair) done = absurd (true≢false (sym done))
done_recovery s k None done = refl

-- a recovery that is done
pub recovered-fabric : (image : ImageData) (config : Config) (s : State) (event : Event) → is_recovery event ≡ true →
    is_recovered (step_of image config s event).answer ≡ true →
    (step_of image config s event).state.fabric ≡ fabric_restored_to s.fabric s.fabric.point
unfolding step_of
recovered-fabric image config s Recover is done = done_recovery s s.fabric.point _ done
recovered-fabric image config s _ is done = absurd (true≢false (sym is))

-- any event but a recovery that is done
pub lines-follow : (image : ImageData) (config : Config) (s : State) (event : Event) → event_fits (length s.fabric.nodes) event ≡ true →
    (is_recovery event ≡ true → is_recovered (step_of image config s event).answer ≡ false) →
    FollowsLines s.fabric (step_of image config s event).state.fabric (touched_lines s.fabric event)
unfolding step_of
lines-follow image config s (Step n) fits calm = stepped_owners config s n image (ltb-true n (length s.fabric.nodes) fits)
lines-follow image config s (Evict n block) fits calm = eviction-owners s.fabric n block
lines-follow image config s (Edge n) fits calm = edge-owners s.fabric n
lines-follow image config s (Hop id) fits calm = same-owners s.fabric (hops s.fabric (flight_of s.fabric.net.flights id)).fabric (hop-nodes s.fabric (flight_of s.fabric.net.flights id))
lines-follow image config s (Deliver id) fits calm = delivery-owners config s.fabric (flight_of s.fabric.net.flights id)
lines-follow image config s (Lose id) fits calm = same-owners s.fabric (loses s.fabric (flight_of s.fabric.net.flights id)).fabric (loss-nodes s.fabric (flight_of s.fabric.net.flights id))
lines-follow image config s (Kill switch) fits calm = same-owners s.fabric (step_of_kill s.fabric switch).fabric (kill-nodes s.fabric switch)
lines-follow image config s (Report n) fits calm = same-owners s.fabric (step_of_report s.fabric n).fabric (report-nodes s.fabric n)
lines-follow image config s Validate fits calm = same-owners s.fabric (validates s (unready_node s)).state.fabric (validation_nodes s (unready_node s))
lines-follow image config s Recover fits calm = refused_recovery s s.fabric.point _ (calm refl)
lines-follow image config s (GivesInput n byte) fits calm = λ k b. refl

-- and any event leaves the nodes that it doesn't reach
pub others-stay : (image : ImageData) (config : Config) (s : State) (event : Event) → event_fits (length s.fabric.nodes) event ≡ true →
    SameUnreached s.fabric (step_of image config s event).state.fabric (reach_of s.fabric event)
unfolding step_of
others-stay image config s (Step n) fits =
    one-reached s.fabric (step_of_instruction image config s n).state.fabric n (stepped_others config s n image (ltb-true n (length s.fabric.nodes) fits))
others-stay image config s (Evict n block) fits = one-reached s.fabric (step_of_eviction s.fabric n block).fabric n (eviction-others s.fabric n block)
others-stay image config s (Edge n) fits = one-reached s.fabric (step_of_edge s.fabric n).fabric n (edge-others s.fabric n)
others-stay image config s (Hop id) fits = λ n other. same-nodes s.fabric (hops s.fabric (flight_of s.fabric.net.flights id)).fabric (hop-nodes s.fabric (flight_of s.fabric.net.flights id)) n
others-stay image config s (Deliver id) fits = delivery-others config s.fabric (flight_of s.fabric.net.flights id)
others-stay image config s (Lose id) fits = λ n other. same-nodes s.fabric (loses s.fabric (flight_of s.fabric.net.flights id)).fabric (loss-nodes s.fabric (flight_of s.fabric.net.flights id)) n
others-stay image config s (Kill switch) fits = λ n other. same-nodes s.fabric (step_of_kill s.fabric switch).fabric (kill-nodes s.fabric switch) n
others-stay image config s (Report n) fits = λ m other. same-nodes s.fabric (step_of_report s.fabric n).fabric (report-nodes s.fabric n) m
others-stay image config s Validate fits = λ n other. same-nodes s.fabric (validates s (unready_node s)).state.fabric (validation_nodes s (unready_node s)) n
others-stay image config s Recover fits = λ n other. absurd (true≢false other)
others-stay image config s (GivesInput n byte) fits = λ k other. refl
