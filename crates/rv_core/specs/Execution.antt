-- Executions: lists of records of which each in turn is a step of the flat machine. This is sequential consistency: one
-- interleaving of the cores' instructions over one memory.
use Rattle.std.specs.Prelude.{ℕ, nat_eq, if◌then◌else◌, List, [], ◌∷◌, ◌++◌, option_to_list, ⊤}
use Rattle.sn_base.specs.Image.{ImageData}
use Rattle.rv_core.specs.declared.step.Record.{Record}
use Rattle.rv_core.specs.Flat.{FlatState, HasStep, flat_step, flat_start, next_by}

-- each record in turn is a step, from this state on
abbrev pub Executes : ImageData → FlatState → List Record → Type 0
Executes image flat [] = ⊤
Executes image flat (r ∷ records) = HasStep image flat r × Executes image (flat_step image flat r) records

-- the state after the records
abbrev pub state_after : ImageData → FlatState → List Record → FlatState
state_after image flat [] = flat
state_after image flat (r ∷ records) = state_after image (flat_step image flat r) records

-- the bytes that they put out, in order
abbrev pub put_out_by : ImageData → FlatState → List Record → List ℕ
put_out_by image flat [] = []
put_out_by image flat (r ∷ records) = option_to_list (next_by image flat r).effect.out ++ put_out_by image (flat_step image flat r) records

-- an execution of a program on so many nodes, its last state, and the bytes that it puts out
abbrev pub IsExecution : ImageData → ℕ → List Record → Type 0
IsExecution image nodes records = Executes image (flat_start image nodes) records

abbrev pub end_of : ImageData → ℕ → List Record → FlatState
end_of image nodes records = state_after image (flat_start image nodes) records

abbrev pub out_of : ImageData → ℕ → List Record → List ℕ
out_of image nodes records = put_out_by image (flat_start image nodes) records

-- the bytes that the records of a node read, in order
abbrev pub in_of : ℕ → List Record → List ℕ
in_of node [] = []
in_of node (r ∷ records) = (if nat_eq r.core node then option_to_list r.read else []) ++ in_of node records
