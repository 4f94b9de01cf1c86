-- A refusal changes nothing: event by event, along the tests of its definition.
use Rattle.std.proofs.Common.{◌≡◌, ℕ, Bool, true, false, List, Option, Some, None, refl, arith}
use Rattle.sn_base.specs.Image.{ImageData}
use Rattle.sn_base.specs.declared.config.Config.{Config}
use Rattle.sn_base.specs.declared.event.Event.{Event}
use Rattle.sn_base.specs.declared.event.Event.TheVariants.{Step, Evict, Edge, Hop, Deliver, Lose, Kill, Report, Validate, Recover, Input}
use Rattle.sn_base.specs.declared.event.Answer.{Answer}
use Rattle.sn_base.specs.declared.log.LogEntry.{LogEntry}
use Rattle.sn_msg.specs.declared.Message.{Message}
use Rattle.sn_model.specs.declared.cache.LineState.{LineState}
use Rattle.sn_model.specs.declared.cache.LineState.TheVariants.{Absent, Shared, Owned, Modified, Exclusive}
use Rattle.sn_model.specs.declared.cache.Need.{Need}
use Rattle.sn_model.specs.declared.cache.Out.{Out}
use Rattle.sn_model.specs.Caches.{line_of}
use Rattle.sn_model.specs.Fabric.{Fabric, Flight, FabricStep, node_at, step_refused}
use Rattle.sn_model.specs.Access.{step_of_access, misses}
use Rattle.sn_model.specs.NodeEvents.{evicts, step_of_eviction, begins_put, step_of_edge, step_of_report}
use Rattle.sn_model.specs.NetEvents.{Outcome, Busy, AtCache, AtHome, Noted, hops, delivers, delivers_flight, outcome_of, fits_in, loses}
use Rattle.sn_model.specs.NetEvents.{step_of_kill}
use Rattle.sn_model.specs.PointEvents.{step_of_advance, recovers}
use Rattle.sn_model.specs.Machine.{State}
use Rattle.sn_model.specs.Instructions.{MachineStep, machine_step_refused as declined, step_of_instruction, machine_step_of}
use Rattle.sn_model.specs.MachineEvents.{validates, machine_step_with_news}
use Rattle.sn_model.specs.Step.{step_of}
use Rattle.sn_model.specs.Net.{flight_of}
use Rattle.sn_model.specs.Refusals.{is_refusal}
use Rattle.sn_model.proofs.EachStep.{each_step}

-- what an event of the fabric comes to leaves the fabric, and tells nothing, where its answer is a refusal
pub record Stays (s : Fabric) (x : FabricStep) : Type 0 where
  pub unchanged : is_refusal x.answer ≡ true → x.fabric ≡ s
  pub untold : is_refusal x.answer ≡ true → x.told ≡ None

-- what an event of the machine comes to leaves the state where its answer is a refusal
pub record Leaves (s : State) (x : MachineStep) : Type 0 where
  pub unchanged : is_refusal x.answer ≡ true → x.state ≡ s

differs : (b : Bool) → b ≡ false → b ≡ true → ⊥
differs true f t = cc
differs false f t = cc

moves : (s : Fabric) (x : FabricStep) → is_refusal x.answer ≡ false → Stays s x
moves s x a =
    record { unchanged = λ r. absurd (differs (is_refusal x.answer) a r); untold = λ r. absurd (differs (is_refusal x.answer) a r) }

same : (s : Fabric) (answer : Answer) → Stays s (step_refused s answer)
same s answer = record { unchanged = λ r. refl; untold = λ r. refl }

stays-misses : (config : Config) (s : Fabric) (n block : ℕ) (need : Need) → Stays s (misses config s n block need)
stays-misses config s n block need = record { unchanged = λ r. grind (arith); untold = λ r. grind (arith) }

stays-accessed : (config : Config) (s : Fabric) (n block : ℕ) (need : Need) → Stays s (step_of_access config s n block need)
stays-accessed config s n block need =
    record {
      unchanged = λ r. grind (arith, (stays-misses config s n block need).unchanged);
      untold = λ r. grind (arith, (stays-misses config s n block need).untold);
    }

stays-begins_put : (s : Fabric) (n block : ℕ) → Stays s (begins_put s n block)
stays-begins_put s n block = record { unchanged = λ r. grind (arith); untold = λ r. grind (arith) }

stays-evicts : (s : Fabric) (n block : ℕ) (state : LineState) → Stays s (evicts s n block state)
stays-evicts s n block Absent = same s _
stays-evicts s n block Shared = moves s _ refl
stays-evicts s n block Owned = stays-begins_put s n block
stays-evicts s n block Modified = stays-begins_put s n block
stays-evicts s n block Exclusive = stays-begins_put s n block

stays-evicted : (s : Fabric) (n block : ℕ) → Stays s (step_of_eviction s n block)
stays-evicted s n block =
    record {
      unchanged = λ r. grind (arith, (stays-evicts s n block (line_of (node_at s n).cache block).state).unchanged);
      untold = λ r. grind (arith, (stays-evicts s n block (line_of (node_at s n).cache block).state).untold);
    }

stays-edged : (s : Fabric) (n : ℕ) → Stays s (step_of_edge s n)
stays-edged s n = record { unchanged = λ r. grind (arith); untold = λ r. grind (arith) }

stays-reported : (s : Fabric) (n : ℕ) → Stays s (step_of_report s n)
stays-reported s n = record { unchanged = λ r. grind (arith); untold = λ r. grind (arith) }

stays-hops : (s : Fabric) (f : Option Flight) → Stays s (hops s f)
stays-hops s None = same s _
stays-hops s (Some f) = record { unchanged = λ r. grind (arith); untold = λ r. grind (arith) }

stays-loses : (s : Fabric) (f : Option Flight) → Stays s (loses s f)
stays-loses s None = same s _
stays-loses s (Some f) = moves s _ refl

stays-killed : (s : Fabric) (switch : ℕ) → Stays s (step_of_kill s switch)
stays-killed s switch = record { unchanged = λ r. grind (arith); untold = λ r. grind (arith) }

stays-fits_in : (config : Config) (s : Fabric) (log : List LogEntry) (sends : List Out) (done : FabricStep) → Stays s done →
    Stays s (fits_in config s log sends done)
stays-fits_in config s log sends done l = record { unchanged = λ r. grind (arith, (l).unchanged); untold = λ r. grind (arith, (l).untold) }

stays-delivers : (config : Config) (s : Fabric) (m : Message) (outcome : Outcome) → Stays s (delivers config s m outcome)
stays-delivers config s m Busy = same s _
stays-delivers config s m (AtCache reply) = stays-fits_in config s _ _ _ (moves s _ refl)
stays-delivers config s m (AtHome reply) = stays-fits_in config s _ _ _ (moves s _ refl)
stays-delivers config s m (Noted fabric told) = moves s _ refl

stays-flight : (config : Config) (s : Fabric) (f : Option Flight) → Stays s (delivers_flight config s f)
stays-flight config s None = same s _
stays-flight config s (Some f) =
    record {
      unchanged = λ r. grind (arith, (stays-delivers config s f.message (outcome_of s f.message f.message.body)).unchanged);
      untold = λ r. grind (arith, (stays-delivers config s f.message (outcome_of s f.message f.message.body)).untold);
    }

stays-advanced : (s : Fabric) (k : ℕ) → Stays s (step_of_advance s k)
stays-advanced s k = record { unchanged = λ r. grind (arith); untold = λ r. grind (arith) }

stays-recovers : (s : Fabric) (k : ℕ) (pair : Option (ℕ × ℕ)) → Stays s (recovers s k pair)
stays-recovers s k (Some pair) = same s _
stays-recovers s k None = moves s _ refl

-- the machine

accepted : (s : State) (x : MachineStep) → is_refusal x.answer ≡ false → Leaves s x
accepted s x a = record { unchanged = λ r. absurd (differs (is_refusal x.answer) a r) }

declines : (s : State) (answer : Answer) → Leaves s (declined s answer)
declines s answer = record { unchanged = λ r. refl }

leaves-carried : (s : State) (moved : FabricStep) → Stays s.fabric moved → Leaves s (machine_step_of s moved)
leaves-carried s moved l = record { unchanged = λ r. grind (arith, l.unchanged) }

leaves-stepped : (image : ImageData) (config : Config) (s : State) (n : ℕ) → Leaves s (step_of_instruction image config s n)
leaves-stepped image config s n =
    each_step image config s n (Leaves s) (accepted s _ refl)
    (λ block need. leaves-carried s _ (stays-accessed config s.fabric n block need)) (declines s _) (declines s _) (declines s _)

leaves-hearing : (s : State) (moved : FabricStep) → Stays s.fabric moved → Leaves s (machine_step_with_news s moved)
leaves-hearing s moved l = record { unchanged = λ r. grind (arith, l.unchanged, l.untold) }

leaves-validates : (s : State) (unready : Option ℕ) → Leaves s (validates s unready)
leaves-validates s (Some node) = declines s _
leaves-validates s None = record { unchanged = λ r. grind arith }

-- an event whose answer is a refusal leaves the machine as it was
pub refusal-changes_nothing : (image : ImageData) (config : Config) (s : State) (event : Event) → Leaves s (step_of image config s event)
unfolding step_of
refusal-changes_nothing image config s (Step n) = leaves-stepped image config s n
refusal-changes_nothing image config s (Evict n block) = leaves-hearing s _ (stays-evicted s.fabric n block)
refusal-changes_nothing image config s (Edge n) = record { unchanged = λ r. grind arith }
refusal-changes_nothing image config s (Hop id) = leaves-carried s _ (stays-hops s.fabric (flight_of s.fabric.net.flights id))
refusal-changes_nothing image config s (Deliver id) = leaves-hearing s _ (stays-flight config s.fabric (flight_of s.fabric.net.flights id))
refusal-changes_nothing image config s (Lose id) = leaves-carried s _ (stays-loses s.fabric (flight_of s.fabric.net.flights id))
refusal-changes_nothing image config s (Kill switch) = leaves-carried s _ (stays-killed s.fabric switch)
refusal-changes_nothing image config s (Report n) = leaves-carried s _ (stays-reported s.fabric n)
refusal-changes_nothing image config s Validate = leaves-validates s _
refusal-changes_nothing image config s Recover = record { unchanged = λ r. grind arith }
refusal-changes_nothing image config s (Input n byte) = accepted s _ refl
