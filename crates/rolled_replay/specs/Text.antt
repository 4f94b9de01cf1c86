-- Controls and their answers as text.
use Rattle.std.specs.Prelude.{ℕ, List, [], ◌++◌, codes, decimal}
use Rattle.sn_text.specs.Text.{named_number}
use Rattle.rolling_recovery.specs.declared.controls.Control.{Control}
use Rattle.rolling_recovery.specs.declared.controls.Control.TheVariants as control
use Rattle.rolled_replay.specs.declared.reply.Reply.{Reply}
use Rattle.rolled_replay.specs.declared.reply.Reply.TheVariants.{Ordered, Repeated, Full, NoMessage, Lost, Restored, Again, Noted, NotDone, CutOff}
use Rattle.rolled_replay.specs.declared.reply.Reply.TheVariants.{Finished, Over}

-- a control, as its file has it
abbrev pub control_text : Control → List ℕ
control_text (control.Order node) = named_number (codes "order") node
control_text (control.Repeat id) = named_number (codes "repeat") id
control_text (control.Lose id) = named_number (codes "lose") id
control_text (control.Deliver id) = named_number (codes "deliver") id
control_text control.Finish = codes "finish"

abbrev pub reply_text : Reply → List ℕ
reply_text (Ordered id) = named_number (codes "ordered") id
reply_text (Repeated id) = named_number (codes "repeated") id
reply_text Full = codes "full"
reply_text NoMessage = codes "nomessage"
reply_text Lost = codes "lost"
reply_text (Restored count) = named_number (codes "restored") count
reply_text Again = codes "again"
reply_text Noted = codes "noted"
reply_text (NotDone node) = named_number (codes "notdone") node
reply_text (CutOff a b) = named_number (codes "cutoff") a ++ named_number [] b
reply_text (Finished undo) = named_number (codes "finished") undo.to ++ named_number (codes " undone") undo.undone ++ named_number (codes " dropped") undo.dropped
reply_text Over = codes "over"

-- `PLACE CONTROL: ANSWER`
unfoldable pub control_line : ℕ → Control → Reply → List ℕ
control_line place call said = decimal place ++ codes " " ++ control_text call ++ codes ": " ++ reply_text said ++ codes "\n"
