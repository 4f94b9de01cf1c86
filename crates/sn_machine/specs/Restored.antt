-- Processors that are put back to a checkpoint.
use Rattle.std.specs.Prelude.{ℕ, ◌-◌, [], ◌∷◌, get_or}
use Rattle.rv_core.specs.declared.state.CoreState.{CoreState}
use Rattle.sn_machine.specs.declared.processor.Processor.{Processor as ProcessorUnit}

-- the core as checkpoint k keeps it
abbrev pub kept_core : ℕ → ProcessorUnit → CoreState
kept_core k x = get_or x.checkpoints.cores (k - x.checkpoints.first) x.core

-- a processor at checkpoint k, which is the one that it keeps
abbrev pub restored_unit : ℕ → ProcessorUnit → ProcessorUnit
restored_unit k x = record x { core = kept_core k x; checkpoints = record { first = k; cores = kept_core k x ∷ [] } }
