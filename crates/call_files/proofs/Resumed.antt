-- What is made of the bytes of a save file.
use Rattle.std.proofs.Common.{true≢false, ◌≡◌, ◌≤◌, ℕ, Bool, true, false, List, length, ap, sym, subst, ◌∙◌, arith}
use Rattle.std.proofs.lemmas.Bool.Decides.{nat_tests}
use Rattle.std.specs.Prelude.{if◌then◌else◌, Result, Ok, Err, nat_lt}
use Rattle.sn_base.specs.Image.{ImageData}
use Rattle.sn_saved.specs.Saved.{Saved}
use Rattle.save_text.specs.declared.cause.SaveCause.{SaveCause}
use Rattle.save_text.specs.declared.cause.SaveCause.TheVariants.{TooLong as SaveTooLong}
use Rattle.save_text.specs.declared.cause.SaveFault.{SaveFault}
use Rattle.save_text.specs.declared.cause.SaveFault.TheVariants.{Refused}
use Rattle.save_text.specs.Judged.{judged_of}
use Rattle.save_text.specs.Lines.{IsRefusedAs}
use Rattle.save_text.specs.Reading.{said_by}
use Rattle.sn_machine.specs.Machine.{MachineData}
use Rattle.sn_resume.specs.Going.{GoesOnFrom, machine_resumed}
use Rattle.call_status.specs.declared.status.Status.TheVariants.{BadSave}
use Rattle.call_files.specs.Saves.{save_limit, if_accepted, machine_of}

-- where a file isn't too long, what it is judged to be is what is made of it
short-enough : (bytes : List ℕ) → length bytes ≤ save_limit → nat_lt save_limit (length bytes) ≡ false
short-enough bytes short = grind (arith, nat_tests, short)

made-of : (long : Bool) (image : ImageData) (judgement : Result Saved SaveCause) (m : MachineData) (saved : Saved) → long ≡ false →
    judgement ≡ Ok saved → m ≡ machine_resumed image saved → Ok m ≡ (if long then Err (BadSave SaveTooLong) else if_accepted image judgement)
made-of true image judgement m saved e is made = absurd (true≢false e)
made-of false image judgement m saved e is made = ap (λ t. Ok t) made ∙ ap (if_accepted image) (sym is)

refused-of : (long : Bool) (image : ImageData) (judgement : Result Saved SaveCause) (cause : SaveCause) → long ≡ false →
    judgement ≡ Err cause → Err (BadSave cause) ≡ (if long then Err (BadSave SaveTooLong) else if_accepted image judgement)
refused-of true image judgement cause e is = absurd (true≢false e)
refused-of false image judgement cause e is = ap (if_accepted image) (sym is)

pub machine-read : (image : ImageData) (bytes : List ℕ) (m : MachineData) → length bytes ≤ save_limit → GoesOnFrom image bytes m →
    Ok m ≡ machine_of image bytes
machine-read image bytes m short h =
    made-of (nat_lt save_limit (length bytes)) image (judged_of image (said_by bytes)) m h.saved (short-enough bytes short) h.said h.goes_on

pub machine-refused : (image : ImageData) (bytes : List ℕ) (cause : SaveCause) (fault : SaveFault) → length bytes ≤ save_limit →
    fault ≡ Refused cause → IsRefusedAs (judged_of image (said_by bytes)) fault → Err (BadSave cause) ≡ machine_of image bytes
machine-refused image bytes cause fault short is h =
    refused-of (nat_lt save_limit (length bytes)) image (judged_of image (said_by bytes)) cause (short-enough bytes short)
    (subst (λ f. IsRefusedAs (judged_of image (said_by bytes)) f) is h)
