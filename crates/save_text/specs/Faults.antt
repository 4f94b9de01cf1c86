-- Why a line adds nothing.
use Rattle.std.specs.Prelude.{◌≡◌, Result, Err, ⊤}
use Rattle.save_text.specs.declared.reading.LineFault.{LineFault}
use Rattle.save_text.specs.declared.reading.LineFault.TheVariants.{Refused, Memory}
use Rattle.sn_text.specs.declared.cause.Fault.{Fault}
use Rattle.save_text.specs.Reading.{Reading}

-- it is refused as the definition refuses it, or memory is lacking
abbrev pub IsFaultOf : Result Reading Fault → LineFault → Type 0
IsFaultOf said (Refused fault) = said ≡ Err fault
IsFaultOf said Memory = ⊤
