-- What a save file of a program is: the machine that goes on from it, or the status that says why there is none.
use Rattle.std.specs.Prelude.{ℕ, nat_lt, if◌then◌else◌, List, length, Result, Ok, Err}
use Rattle.sn_base.specs.Image.{ImageData}
use Rattle.sn_saved.specs.Saved.{Saved}
use Rattle.sn_resume.specs.Going.{machine_resumed}
use Rattle.sn_machine.specs.Machine.{MachineData}
use Rattle.save_text.specs.declared.cause.SaveCause.{SaveCause}
use Rattle.save_text.specs.declared.cause.SaveCause.TheVariants.{TooLong as SaveTooLong}
use Rattle.save_text.specs.Judged.{judged_of}
use Rattle.save_text.specs.Reading.{said_by}
use Rattle.sn_io.specs.Outside.{Found, File, TooLong, Missing}
use Rattle.call_status.specs.declared.status.Status.{Status}
use Rattle.call_status.specs.declared.status.Status.TheVariants.{StoreFault, BadSave}

-- 64 MiB
abbrev pub save_limit : ℕ
save_limit = 67108864

-- the machine that goes on from it
abbrev pub if_accepted : ImageData → Result Saved SaveCause → Result MachineData Status
if_accepted image (Ok saved) = Ok (machine_resumed image saved)
if_accepted image (Err cause) = Err (BadSave cause)

-- that of the bytes of a save file, and of what was found of one
abbrev pub machine_of : ImageData → List ℕ → Result MachineData Status
machine_of image bytes =
    if nat_lt save_limit (length bytes) then Err (BadSave SaveTooLong) else if_accepted image (judged_of image (said_by bytes))

abbrev pub machine_in : ImageData → Found → Result MachineData Status
machine_in image Missing = Err StoreFault
machine_in image TooLong = Err (BadSave SaveTooLong)
machine_in image (File bytes) = machine_of image bytes
