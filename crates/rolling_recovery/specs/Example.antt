-- A recovery of two nodes with an order that is lost, one that is repeated, and one that comes after its node is noted.
use Rattle.std.specs.Prelude.{◌≡◌, ℕ, true, List, [], ◌∷◌, take, Some, None, Ok}
use Rattle.sn_machine.specs.Machine.{MachineData}
use Rattle.rolling_recovery.specs.declared.answers.ControlDelivery.TheVariants.{Again}
use Rattle.rolling_recovery.specs.declared.controls.Control.{Control}
use Rattle.rolling_recovery.specs.declared.controls.Control.TheVariants as control
use Rattle.rolling_recovery.specs.declared.messages.ControlMessage.TheVariants.{Order}
use Rattle.rolling_recovery.specs.Rolling.{RollingData, rolling_start, is_noted, message_of, repeat_answer, deliver_answer, first_not_noted, after_controls}

abbrev pub example : List Control
example =
    control.Order 0 ∷ control.Repeat 1 ∷ control.Deliver 2 ∷ control.Deliver 1  -- 3 and 4 say that node 0 is done
    ∷ control.Order 1 ∷ control.Lose 5 ∷ control.Deliver 3
    ∷ control.Order 1 ∷ control.Order 1 ∷ control.Deliver 6 ∷ control.Deliver 8 ∷ control.Deliver 7 ∷ []

abbrev pub after_first : ℕ → MachineData → RollingData
after_first calls m = after_controls (rolling_start m) (take calls example)

-- what comes of it, with any machine of two nodes
pub record IsLedThrough (m : MachineData) : Type 0 where
  -- the second call repeats the first one's order, and both copies are delivered
  pub repeated : repeat_answer (after_first 1 m) (message_of (after_first 1 m) 1) ≡ Ok 2
  pub again : deliver_answer (after_first 3 m) (message_of (after_first 3 m) 1) ≡ Again
  -- the sixth loses an order
  pub sent : message_of (after_first 5 m) 5 ≡ Some (Order 1)
  pub gone : message_of (after_first 6 m) 5 ≡ None
  -- the last delivers one to a node that is noted
  pub before : is_noted (after_first 11 m) 1 ≡ true
  pub late : deliver_answer (after_first 11 m) (message_of (after_first 11 m) 7) ≡ Again
  -- and then every node is noted
  pub noted : first_not_noted (after_first 12 m) ≡ None
