-- No event of the machine brings or takes a node.
use Rattle.std.proofs.Common.{◌≡◌, ℕ, ◌+◌, length, Option, Some, None, refl}
use Rattle.sn_base.specs.Image.{ImageData}
use Rattle.sn_base.specs.declared.config.Config.{Config}
use Rattle.sn_base.specs.declared.event.Event.{Event}
use Rattle.sn_base.specs.declared.event.Event.TheVariants as event
use Rattle.sn_model.specs.declared.cache.Need.{Need}
use Rattle.sn_model.specs.FabricEvents.{FabricEvent, moved_by}
use Rattle.sn_model.specs.FabricEvents as fabric
use Rattle.sn_model.specs.Access.{step_of_access}
use Rattle.sn_model.specs.PointEvents.{step_of_advance}
use Rattle.sn_model.specs.Machine.{State}
use Rattle.sn_model.specs.Instructions.{MachineStep, step_of_instruction}
use Rattle.sn_model.specs.MachineEvents.{validates, unready_node}
use Rattle.sn_model.specs.Step.{step_of}
use Rattle.sn_model.proofs.EachStep.{each_step}
use Rattle.consistent_cuts.proofs.Half.{half}
use Rattle.consistent_cuts.proofs.Places.{same_length}

module _ (image : ImageData) (config : Config) (s : State) where
  abbrev Stays : MachineStep → Type 0
  Stays x = length x.state.fabric.nodes ≡ length s.fabric.nodes

  moved_stays : (e : FabricEvent) → length (moved_by config s.fabric e).fabric.nodes ≡ length s.fabric.nodes
  moved_stays e = half.nodes config s.fabric e

  accessed_stays : (n block : ℕ) (access : Need) → length (step_of_access config s.fabric n block access).fabric.nodes ≡ length s.fabric.nodes
  unfolding moved_by
  accessed_stays n block access = moved_stays (fabric.Access n block access)

  stepped_stays : (n : ℕ) → Stays (step_of_instruction image config s n)
  stepped_stays n = each_step image config s n Stays (same_length s.fabric n _) (accessed_stays n) refl refl refl

  validates_stays : (unready : Option ℕ) → length (step_of_advance s.fabric (s.fabric.point + 1)).fabric.nodes ≡ length s.fabric.nodes →
      Stays (validates s unready)
  validates_stays (Some n) h = refl
  validates_stays None h = h

  pub step_count : (e : Event) → Stays (step_of image config s e)
  unfolding step_of moved_by
  step_count (event.Step n) = stepped_stays n
  step_count (event.Evict n block) = moved_stays (fabric.Evict n block)
  step_count (event.Edge n) = moved_stays (fabric.Edge n)
  step_count (event.Hop id) = moved_stays (fabric.Hop id)
  step_count (event.Deliver id) = moved_stays (fabric.Deliver id)
  step_count (event.Lose id) = moved_stays (fabric.Lose id)
  step_count (event.Kill switch) = moved_stays (fabric.Kill switch)
  step_count (event.Report n) = moved_stays (fabric.Report n)
  step_count event.Validate = validates_stays (unready_node s) (moved_stays (fabric.Advance (s.fabric.point + 1)))
  step_count event.Recover = moved_stays (fabric.Recover s.fabric.point)
  step_count (event.Input n byte) = refl
