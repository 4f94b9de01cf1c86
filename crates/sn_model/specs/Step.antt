-- One event, applied to the whole machine, and a run of events.
use Rattle.std.specs.Prelude.{List, [], ◌∷◌}
use Rattle.sn_base.specs.Image.{ImageData}
use Rattle.sn_base.specs.declared.config.Config.{Config}
use Rattle.sn_base.specs.declared.event.Event.{Event}
use Rattle.sn_base.specs.declared.event.Event.TheVariants.{Step, Evict, Edge, Hop, Deliver, Lose, Kill, Report, Validate, Recover, Input}
use Rattle.sn_model.specs.Machine.{State}
use Rattle.sn_model.specs.Instructions.{MachineStep, step_of_instruction, machine_step_of}
use Rattle.sn_model.specs.NodeEvents.{step_of_eviction, step_of_edge, step_of_report}
use Rattle.sn_model.specs.NetEvents.{step_of_hop, step_of_delivery, step_of_loss, step_of_kill}
use Rattle.sn_model.specs.PointEvents.{step_of_recovery}
use Rattle.sn_model.specs.MachineEvents.{machine_step_with_news, edges, step_of_validation, restores, step_of_input}

-- the next state, the answer and the messages sent: a function, since the scheme leaves no choice to the machine
unfoldable pub step_of : ImageData → Config → State → Event → MachineStep
step_of image config s (Step n) = step_of_instruction image config s n
step_of image config s (Evict n block) = machine_step_with_news s (step_of_eviction s.fabric n block)
step_of image config s (Edge n) = edges s n (step_of_edge s.fabric n)
step_of image config s (Hop id) = machine_step_of s (step_of_hop s.fabric id)
step_of image config s (Deliver id) = machine_step_with_news s (step_of_delivery config s.fabric id)
step_of image config s (Lose id) = machine_step_of s (step_of_loss s.fabric id)
step_of image config s (Kill switch) = machine_step_of s (step_of_kill s.fabric switch)
step_of image config s (Report n) = machine_step_of s (step_of_report s.fabric n)
step_of image config s Validate = step_of_validation s
step_of image config s Recover = restores s (step_of_recovery s.fabric s.fabric.point)
step_of image config s (Input n byte) = step_of_input s n byte

-- the state after the events, in order
abbrev pub state_after : ImageData → Config → State → List Event → State
state_after image config s [] = s
state_after image config s (event ∷ events) = state_after image config (step_of image config s event).state events

-- what each of the events came to: the state after it, its answer and what it sent
abbrev pub run_of : ImageData → Config → State → List Event → List MachineStep
run_of image config s [] = []
run_of image config s (event ∷ events) = step_of image config s event ∷ run_of image config (step_of image config s event).state events
