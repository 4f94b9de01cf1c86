-- What the cut at the recovery point has of each block.
use Rattle.std.proofs.Common.{◌≡◌, ℕ, ◌<◌, ◌≤◌, List, length, refl}
use Rattle.sn_base.specs.Image.{ImageData}
use Rattle.sn_base.specs.declared.config.Config.{Config}
use Rattle.sn_base.specs.declared.event.Event.TheVariants.{Recover}
use Rattle.rv_core.specs.Execution.{end_of}
use Rattle.sn_model.specs.Caches.{block_count}
use Rattle.sn_model.specs.Cuts.{names_at}
use Rattle.sn_model.specs.RecoveryPoint.{IsCut, HasOneHolderWith, block_in}
use Rattle.sn_model.specs.Machine.{State}
use Rattle.sn_model.specs.Step.{step_of}
use Rattle.sn_model.specs.Trace.{TraceEntry}
use Rattle.consistent_cuts.specs.Headline.{IsStepOfRun}
use Rattle.consistent_cuts.specs.Origins.{retirements_from}
use Rattle.consistent_cuts.specs.RunInvariant.{Holds}
use Rattle.consistent_cuts.specs.Steps.{IsShaped}
use Rattle.sn_machine.specs.declared.hardware.Hardware.{Hardware}
use Rattle.sn_machine.specs.Invariant.{IsMachine}
use Rattle.sn_machine.specs.Parts.{state_of}
use Rattle.sn_machine.proofs.Invariant.{consistent, holds, step-of-run, some_nodes, few_nodes}
use Rattle.sn_machine.proofs.Shown.{contents}

shape_of : (image : ImageData) (nodes : ℕ) (s : State) (trace : List TraceEntry) → Holds image nodes s trace → IsShaped s.fabric
shape_of image nodes s trace (count, (r, list, j)) = j.fabric.1.shape

module _ (image : ImageData) (config : Config) (h : Hardware) (applied spare : ℕ) (m : IsMachine image config h applied spare) where
  shape : IsShaped h.fabric.fabric
  shape =
      shape_of image config.nodes (state_of h) (retirements_from image config m.origin m.events) (holds image config h applied spare m)

  pub count : length h.fabric.fabric.nodes ≡ config.nodes
  count = m.nodes

  pub some : 1 ≤ config.nodes
  some = some_nodes config m.run.fits

  pub few : config.nodes ≤ 16
  few = few_nodes config m.run.fits

  pub homes : length h.fabric.fabric.homes ≡ block_count
  homes = shape.homes

  pub cut : IsCut (state_of h) h.fabric.fabric.point (end_of image config.nodes h.history.committed)
  cut = (consistent image config h applied spare m).cut

  pub back : IsStepOfRun image config (state_of h) Recover (step_of image config (state_of h) Recover)
  back = step-of-run image config h applied spare m Recover (record { numbers = refl; block = refl })

  pub block-shown : (block point : ℕ) (content : List ℕ) → block < block_count → point ≡ h.fabric.fabric.point →
      HasOneHolderWith h.fabric.fabric block point content (names_at h.fabric.fabric block point) →
      content ≡ block_in (end_of image config.nodes h.history.committed).memory block
  block-shown block point content inside p held =
      contents h.fabric.fabric block h.fabric.fabric.point content
      (block_in (end_of image config.nodes h.history.committed).memory block)
      (names_at h.fabric.fabric block h.fabric.fabric.point) (rw p at held) (cut.blocks block inside)
