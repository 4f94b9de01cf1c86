-- Released bytes only grow, whatever the event and the state are.
use Rattle.std.proofs.Common.{ℕ, ◌+◌, Bool, true, false, List, [], Option, Some, None, refl, sym, append-nil}
use Rattle.sn_base.specs.Image.{ImageData}
use Rattle.sn_base.specs.declared.config.Config.{Config}
use Rattle.sn_base.specs.declared.event.Event.{Event}
use Rattle.sn_base.specs.declared.event.Event.TheVariants as event
use Rattle.sn_model.specs.declared.net.News.{News}
use Rattle.sn_model.specs.declared.net.News.TheVariants as told
use Rattle.sn_model.specs.Fabric.{FabricStep}
use Rattle.sn_model.specs.NodeEvents.{step_of_eviction, step_of_edge}
use Rattle.sn_model.specs.NetEvents.{step_of_delivery}
use Rattle.sn_model.specs.PointEvents.{step_of_advance, step_of_recovery}
use Rattle.sn_model.specs.Machine.{State, processor_at, with_processor}
use Rattle.sn_model.specs.Instructions.{MachineStep, machine_step_of}
use Rattle.sn_model.specs.MachineEvents.{state_after_news, with_rest, is_edged, with_checkpoint, is_validated, committed_next, validates, unready_node}
use Rattle.sn_model.specs.MachineEvents.{is_recovered, restored_rest, restores}
use Rattle.sn_model.specs.Step.{step_of}
use Rattle.sn_model.proofs.EachStep.{each_step}
use Rattle.sn_consistency.specs.Committed.{Begins}

begins_same : (xs : List ℕ) → Begins xs xs
begins_same xs = record { more = []; is = sym (append-nil xs) }

module _ (image : ImageData) (config : Config) (s : State) where
  abbrev Grows : MachineStep → Type 0
  Grows x = Begins s.released x.state.released

  same : Begins s.released s.released
  same = begins_same s.released

  hears : (x : Option News) (moved : FabricStep) → Grows (machine_step_of (state_after_news s x) moved)
  hears None moved = same
  hears (Some (told.LostCopy n block)) moved = same
  hears (Some (told.Ready n k)) moved = same
  hears (Some (told.Advance n k)) moved = same

  rest : (done : Bool) (changed : State) (moved : FabricStep) → Begins s.released changed.released → Grows (with_rest s done changed moved)
  rest true changed moved grows = grows
  rest false changed moved grows = same

  validating : (unready : Option ℕ) → Grows (validates s unready)
  validating (Some node) = same
  validating None =
      let moved = step_of_advance s.fabric (s.fabric.point + 1) in
      rest (is_validated moved.answer) (committed_next s) moved (record { more = _; is = refl })

  restoring : Grows (restores s (step_of_recovery s.fabric s.fabric.point))
  unfolding restored_rest
  restoring = let moved = step_of_recovery s.fabric s.fabric.point in rest (is_recovered moved.answer) (restored_rest s) moved same

  pub released-grows : (e : Event) → Begins s.released (step_of image config s e).state.released
  unfolding step_of
  released-grows (event.Step n) = each_step image config s n Grows same (λ block need. same) same same same
  released-grows (event.Evict n block) = let moved = step_of_eviction s.fabric n block in hears moved.told moved
  released-grows (event.Edge n) =
      let moved = step_of_edge s.fabric n in rest (is_edged moved.answer) (with_processor s n (with_checkpoint (processor_at s n))) moved same
  released-grows (event.Hop id) = same
  released-grows (event.Deliver id) = let moved = step_of_delivery config s.fabric id in hears moved.told moved
  released-grows (event.Lose id) = same
  released-grows (event.Kill switch) = same
  released-grows (event.Report n) = same
  released-grows event.Validate = validating (unready_node s)
  released-grows event.Recover = restoring
  released-grows (event.Input n byte) = same
