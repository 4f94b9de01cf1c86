-- An instruction of a node: what it finds, and what it leaves when it retires.
use Rattle.std.specs.Prelude.{ℕ, ◌+◌, Bool, true, false, not, nat_lt, if◌then◌else◌, List, [], ◌∷◌, ◌++◌, map, length, slice_index}
use Rattle.std.specs.Prelude.{slice_set, Option, Some, None, option_to_list}
use Rattle.sn_base.specs.Image.{ImageData}
use Rattle.sn_base.specs.declared.block.Write.{Write}
use Rattle.sn_base.specs.declared.config.Config.{Config}
use Rattle.sn_base.specs.declared.event.Answer.{Answer}
use Rattle.sn_base.specs.declared.event.Answer.TheVariants.{Retired, Waits, Ended, NoInput}
use Rattle.rv_core.specs.declared.step.Record.{Record}
use Rattle.rv_core.specs.declared.step.Want.{Want}
use Rattle.rv_core.specs.declared.step.Want.TheVariants.{Nothing, Load, Store, Amo, Lr, Sc, Input}
use Rattle.rv_core.specs.Core.{block_of, is_reserved, is_running}
use Rattle.rv_core.specs.Step.{Next, want_of, next_of}
use Rattle.rv_core.specs.Execution.{in_of}
use Rattle.sn_model.specs.declared.cache.Need.{Need}
use Rattle.sn_model.specs.declared.cache.Need.TheVariants.{Read, Write as ToWrite}
use Rattle.sn_model.specs.declared.net.Sent.{Sent}
use Rattle.sn_model.specs.Fabric.{Fabric, FabricStep, node_at}
use Rattle.sn_model.specs.Access.{word_found, fabric_with_write, has_miss, step_of_access}
use Rattle.sn_model.specs.Machine.{State, Processor, Retirement, HeldByte, processor_at}

-- what an event comes to
pub record MachineStep : Type 0 where
  pub state : State
  pub answer : Answer
  pub sent : List Sent

-- the answer of an event that changes nothing
abbrev pub machine_step_refused : State → Answer → MachineStep
machine_step_refused s answer = record { state = s; answer = answer; sent = [] }

-- the answer of an event that sends nothing
abbrev pub machine_step_with_answer : State → Answer → MachineStep
machine_step_with_answer s answer = record { state = s; answer = answer; sent = [] }

-- an event of the fabric that leaves the rest as it is
abbrev pub machine_step_of : State → FabricStep → MachineStep
machine_step_of s moved = record { state = record s { fabric = moved.fabric }; answer = moved.answer; sent = moved.sent }

-- what an instruction finds from outside its core: the word, the permission of a store-conditional, the byte
pub record FoundOutside : Type 0 where
  pub seen : ℕ
  pub sc_done : Bool
  pub read : Option ℕ

abbrev pub nothing_found : FoundOutside
nothing_found = record { seen = 0; sc_done = false; read = None }

abbrev pub records_of : List Retirement → List Record
records_of retirements = map (λ r. r.did) retirements

-- how many bytes of its input a node has taken
abbrev pub taken_by : State → ℕ → ℕ
taken_by s n = length (in_of n s.committed) + length (in_of n (records_of s.pending))

-- the next byte of a node's input, where it hasn't taken all that it was given
abbrev pub next_byte : State → ℕ → Option ℕ
next_byte s n =
    if nat_lt (taken_by s n) (length (processor_at s n).given) then Some (slice_index (processor_at s n).given (taken_by s n)) else None

abbrev pub found_by : State → ℕ → Want → FoundOutside
found_by s n Nothing = nothing_found
found_by s n (Load address) = record nothing_found { seen = word_found s.fabric n address }
found_by s n (Store address) = nothing_found
found_by s n (Amo address) = record nothing_found { seen = word_found s.fabric n address }
found_by s n (Lr address) = record nothing_found { seen = word_found s.fabric n address }
found_by s n (Sc address) = record nothing_found { sc_done = is_reserved (processor_at s n).core.reservation (block_of address) }
found_by s n Input = record nothing_found { read = next_byte s n }

abbrev pub found_at : ImageData → State → ℕ → FoundOutside
found_at image s n = found_by s n (want_of image (processor_at s n).core)

abbrev pub next_with : ImageData → Processor → FoundOutside → Next
next_with image processor found = next_of image processor.core found.seen found.sc_done found.read

abbrev pub record_with : ℕ → FoundOutside → Record
record_with n found = record { core = n; seen = found.seen; sc_done = found.sc_done; read = found.read }

-- how an instruction retires

-- what it wrote, if anything, is in the fabric
abbrev pub written_by : Fabric → ℕ → Option Write → Fabric
written_by s n None = s
written_by s n (Some w) = fabric_with_write s n w

-- the byte that it put out, held for its interval
abbrev pub held_in : ℕ → Option ℕ → List HeldByte
held_in interval out = map (λ (b : ℕ). record { interval = interval; byte = b }) (option_to_list out)

-- the instruction is done; its record and its byte wait for the validation of its interval
abbrev pub retired_with : State → ℕ → FoundOutside → Next → MachineStep
retired_with s n found next = machine_step_with_answer (record s {
  fabric = written_by s.fabric n next.effect.write;
  processors = slice_set s.processors n (record (processor_at s n) { core = next.core });
  pending = s.pending ++ record { interval = (node_at s.fabric n).now; did = record_with n found } ∷ [];
  held = s.held ++ held_in (node_at s.fabric n).now next.effect.out;
}) Retired

abbrev pub step_of_retirement : ImageData → State → ℕ → MachineStep
step_of_retirement image s n = retired_with s n (found_at image s n) (next_with image (processor_at s n) (found_at image s n))

-- step n: the tests in their order

abbrev pub is_retired : Answer → Bool
is_retired Retired = true
is_retired _ = false

-- an instruction whose access is served retires; of any other the fabric has done what there is to do
abbrev pub after_access : ImageData → State → ℕ → FabricStep → MachineStep
after_access image s n moved = if is_retired moved.answer then step_of_retirement image s n else machine_step_of s moved

abbrev pub accessing : ImageData → Config → State → ℕ → ℕ → Need → MachineStep
accessing image config s n address need = after_access image s n (step_of_access config s.fabric n (block_of address) need)

abbrev pub takes_input : ImageData → State → ℕ → Option ℕ → MachineStep
takes_input image s n None = machine_step_refused s NoInput
takes_input image s n (Some byte) = step_of_retirement image s n

abbrev pub step_wanting : ImageData → Config → State → ℕ → Want → MachineStep
step_wanting image config s n Input = takes_input image s n (next_byte s n)
step_wanting image config s n Nothing = step_of_retirement image s n
step_wanting image config s n (Load address) = accessing image config s n address Read
step_wanting image config s n (Lr address) = accessing image config s n address Read
step_wanting image config s n (Store address) = accessing image config s n address ToWrite
step_wanting image config s n (Amo address) = accessing image config s n address ToWrite
step_wanting image config s n (Sc address) =
    if is_reserved (processor_at s n).core.reservation (block_of address)
    then accessing image config s n address ToWrite
    else step_of_retirement image s n

abbrev pub step_of_instruction : ImageData → Config → State → ℕ → MachineStep
step_of_instruction image config s n =
    if not (is_running (processor_at s n).core.end) then machine_step_refused s Ended
    else if has_miss (node_at s.fabric n).cache.miss then machine_step_refused s Waits
    else step_wanting image config s n (want_of image (processor_at s n).core)
