-- How far the flat machine does records.
use Rattle.std.specs.Prelude.{◌≡◌, ℕ, ◌<◌, ◌≤◌, List, length, take, ⊤}
use Rattle.sn_base.specs.Image.{ImageData}
use Rattle.rv_core.specs.declared.step.Record.{Record}
use Rattle.rv_core.specs.Flat.{FlatState}
use Rattle.rv_core.specs.Execution.{Executes, state_after}
use Rattle.sn_consistency.specs.Projections.{FirstWithoutStep}
use Rattle.save_text.specs.declared.replay.Stop.{Stop}
use Rattle.save_text.specs.declared.replay.Stop.TheVariants.{At, Memory}

-- the machine did the first so many, and the next, if there is one, has no step
pub record DoesFirst (image : ImageData) (before : FlatState) (records : List Record) (done : ℕ) (after : FlatState) : Type 0 where
  pub within : done ≤ length records
  pub steps : Executes image before (take done records)
  pub state : after ≡ state_after image before (take done records)
  pub stops : done < length records → FirstWithoutStep image before records done

abbrev pub IsStop : ImageData → FlatState → List Record → Stop → Type 0
IsStop image before records (At place) = FirstWithoutStep image before records place
IsStop image before records Memory = ⊤
