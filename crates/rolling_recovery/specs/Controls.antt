-- Controls as text, one a line, by the rules of scripts.
use Rattle.std.specs.Prelude.{ℕ, Bool, true, nat_lt, if◌then◌else◌, List, codes, bytes_eq, Result, Ok, Err}
use Rattle.sn_text.specs.Items.{items_of}
use Rattle.sn_text.specs.Script.{node_in, message_in, begins, after}
use Rattle.sn_text.specs.declared.cause.Fault.{Fault}
use Rattle.sn_text.specs.declared.cause.Fault.TheVariants.{NotOfForm}
use Rattle.sn_text.specs.declared.cause.ScriptCause.{ScriptCause}
use Rattle.rolling_recovery.specs.declared.controls.Control.{Control}
use Rattle.rolling_recovery.specs.declared.controls.Control.TheVariants.{Order, Repeat, Lose, Deliver, Finish}

-- whether a control's node is there, in a machine of so many nodes
abbrev pub control_fits : ℕ → Control → Bool
control_fits nodes (Order node) = nat_lt node nodes
control_fits nodes (Repeat id) = true
control_fits nodes (Lose id) = true
control_fits nodes (Deliver id) = true
control_fits nodes Finish = true

-- the control of a number that is good
abbrev pub control_said : (ℕ → Control) → Result ℕ Fault → Result Control Fault
control_said control_with (Ok number) = Ok (control_with number)
control_said control_with (Err fault) = Err fault

-- the control that a line says, in a machine of so many nodes
unfoldable pub control_of : ℕ → List ℕ → Result Control Fault
control_of nodes line =
    if bytes_eq line (codes "finish") then Ok Finish
    else if begins (codes "order ") line then control_said Order (node_in nodes (after (codes "order ") line))
    else if begins (codes "repeat ") line then control_said Repeat (message_in (after (codes "repeat ") line))
    else if begins (codes "lose ") line then control_said Lose (message_in (after (codes "lose ") line))
    else if begins (codes "deliver ") line then control_said Deliver (message_in (after (codes "deliver ") line))
    else Err NotOfForm

-- the controls of a text, or the first cause for which it is refused
abbrev pub controls_of : ℕ → List ℕ → Result (List Control) ScriptCause
controls_of nodes bytes = items_of (control_of nodes) bytes
