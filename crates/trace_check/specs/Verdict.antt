-- How many records the flat machine does, and answers that say it.
use Rattle.std.specs.Prelude.{◌≡◌, ℕ, ◌<◌, ◌≤◌, List, length, Result, Ok, Err, ⊤}
use Rattle.sn_base.specs.Image.{ImageData}
use Rattle.rv_core.specs.declared.step.Record.{Record}
use Rattle.rv_core.specs.Flat.{flat_start}
use Rattle.rv_core.specs.Execution.{IsExecution}
use Rattle.sn_consistency.specs.Projections.{FirstWithoutStep}
use Rattle.trace_check.specs.declared.verdict.CheckFault.{CheckFault}
use Rattle.trace_check.specs.declared.verdict.CheckFault.TheVariants.{NotLegal, Memory}

-- the answer is not that memory was lacking
abbrev pub IsDecided : Result (Unit {0}) CheckFault → Type 0
IsDecided (Ok done) = ⊤
IsDecided (Err (NotLegal place)) = ⊤
IsDecided (Err Memory) = ⊥

-- the flat machine does so many of the records: all, or those before the first that has no step
pub record IsReplayedTo (image : ImageData) (N : ℕ) (rs : List Record) (done : ℕ) : Type 0 where
  pub within : done ≤ length rs
  pub all : done ≡ length rs → IsExecution image N rs
  pub some : done < length rs → FirstWithoutStep image (flat_start image N) rs done
