-- The events of the machine beside an instruction: each is an event of the fabric, and what the rest makes of its answer.
use Rattle.std.specs.Prelude.{ℕ, ◌+◌, ◌-◌, Bool, true, false, not, nat_eq, nat_le, max, if◌then◌else◌, List, [], ◌∷◌, ◌++◌, map, filter}
use Rattle.std.specs.Prelude.{drop, get_or, position, slice_index, slice_set, Option, Some, None}
use Rattle.sn_base.specs.declared.event.Answer.{Answer}
use Rattle.sn_base.specs.declared.event.Answer.TheVariants.{Edged, Validated, NotReady, Recovered, Given}
use Rattle.rv_core.specs.declared.state.CoreState.{CoreState}
use Rattle.rv_core.specs.Core.{bare, is_reserved}
use Rattle.sn_model.specs.declared.net.News.{News}
use Rattle.sn_model.specs.declared.net.News.TheVariants.{LostCopy, Ready, Advance}
use Rattle.sn_model.specs.Fabric.{Fabric, FabricStep, node_at}
use Rattle.sn_model.specs.PointEvents.{step_of_advance}
use Rattle.sn_model.specs.Machine.{State, Processor, HeldByte, processor_at, with_processor}
use Rattle.sn_model.specs.Instructions.{MachineStep, machine_step_refused, machine_step_with_answer, machine_step_of, records_of}

-- what the rest makes of what it hears

-- the core without a reservation on this block
abbrev pub core_without_reservation : CoreState → ℕ → CoreState
core_without_reservation core block = if is_reserved core.reservation block then bare core else core

-- the core keeps no reservation on a block whose copy was lost
abbrev pub without_reservation : Processor → ℕ → Processor
without_reservation processor block = record processor { core = core_without_reservation processor.core block }

-- the register checkpoints below a recovery point of which the node hears are freed; `known` is what it knew
abbrev pub processor_with_freed : Processor → ℕ → ℕ → Processor
processor_with_freed processor known k = record processor { checkpoints = drop (k - known) processor.checkpoints }

-- the reported number of a node is the greatest that its reports said
abbrev pub state_after_news : State → Option News → State
state_after_news s None = s
state_after_news s (Some (LostCopy n block)) = with_processor s n (without_reservation (processor_at s n) block)
state_after_news s (Some (Ready n k)) = record s { reported = slice_set s.reported n (max (slice_index s.reported n) k) }
state_after_news s (Some (Advance n k)) = with_processor s n (processor_with_freed (processor_at s n) (node_at s.fabric n).known k)

-- an event of the fabric of which the rest hears: an eviction or a delivery
abbrev pub machine_step_with_news : State → FabricStep → MachineStep
machine_step_with_news s moved = machine_step_of (state_after_news s moved.told) moved

-- an event of the fabric with which the rest changes, where it was done
abbrev pub with_rest : State → Bool → State → FabricStep → MachineStep
with_rest s done changed moved = machine_step_of (if done then changed else s) moved

-- edge n: a checkpoint of the core's registers is taken

abbrev pub is_edged : Answer → Bool
is_edged (Edged k) = true
is_edged _ = false

abbrev pub with_checkpoint : Processor → Processor
with_checkpoint processor = record processor { core = bare processor.core; checkpoints = processor.checkpoints ++ bare processor.core ∷ [] }

abbrev pub edges : State → ℕ → FabricStep → MachineStep
edges s n moved = with_rest s (is_edged moved.answer) (with_processor s n (with_checkpoint (processor_at s n))) moved

-- validate

-- the first node whose reported number isn't above the point
abbrev pub unready_node : State → Option ℕ
unready_node s = position (λ k. nat_le k s.fabric.point) s.reported

abbrev pub bytes_of : List HeldByte → List ℕ
bytes_of held = map (λ b. b.byte) held

-- the interval that the point leaves behind is committed, in order of retirement
abbrev pub committed_next : State → State
committed_next s = record s {
  pending = filter (λ r. not (nat_eq r.interval s.fabric.point)) s.pending;
  committed = s.committed ++ records_of (filter (λ r. nat_eq r.interval s.fabric.point) s.pending);
  held = filter (λ b. not (nat_eq b.interval s.fabric.point)) s.held;
  released = s.released ++ bytes_of (filter (λ b. nat_eq b.interval s.fabric.point) s.held);
}

abbrev pub is_validated : Answer → Bool
is_validated (Validated k) = true
is_validated _ = false

abbrev pub commits : State → FabricStep → MachineStep
commits s moved = with_rest s (is_validated moved.answer) (committed_next s) moved

abbrev pub validates : State → Option ℕ → MachineStep
validates s (Some node) = machine_step_refused s (NotReady node)
validates s None = commits s (step_of_advance s.fabric (s.fabric.point + 1))

abbrev pub step_of_validation : State → MachineStep
step_of_validation s = validates s (unready_node s)

-- recover

-- the core as register checkpoint k keeps it
abbrev pub checkpoint_of : Processor → ℕ → ℕ → CoreState
checkpoint_of processor known k = get_or processor.checkpoints (k - known) processor.core

abbrev pub restored_processor : Processor → ℕ → ℕ → Processor
restored_processor processor known k =
    record processor { core = checkpoint_of processor known k; checkpoints = checkpoint_of processor known k ∷ [] }

-- the processors at checkpoint k, from a node on
abbrev pub restored_processors : Fabric → ℕ → ℕ → List Processor → List Processor
restored_processors fabric k n [] = []
restored_processors fabric k n (processor ∷ processors) =
    restored_processor processor (node_at fabric n).known k ∷ restored_processors fabric k (n + 1) processors

-- what wasn't committed is dropped
unfoldable pub restored_rest : State → State
restored_rest s = record s {
  processors = restored_processors s.fabric s.fabric.point 0 s.processors;
  reported = map (λ k. s.fabric.point) s.reported;
  pending = [];
  held = [];
}

abbrev pub is_recovered : Answer → Bool
is_recovered (Recovered undo) = true
is_recovered _ = false

abbrev pub restores : State → FabricStep → MachineStep
restores s moved = with_rest s (is_recovered moved.answer) (restored_rest s) moved

-- input n v: the byte is given, for good

abbrev pub step_of_input : State → ℕ → ℕ → MachineStep
step_of_input s n byte = machine_step_with_answer (with_processor s n (record (processor_at s n) { given = (processor_at s n).given ++ byte ∷ [] })) Given
