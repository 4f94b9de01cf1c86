-- Why a text, or a line of it, gives nothing.
use Rattle.std.specs.Prelude.{◌≡◌, Result, Err, ⊤}
use Rattle.save_text.specs.declared.cause.SaveCause.{SaveCause}
use Rattle.save_text.specs.declared.cause.SaveFault.{SaveFault}
use Rattle.save_text.specs.declared.cause.SaveFault.TheVariants.{Refused, Memory}

-- it is refused for this cause, or memory is lacking
abbrev pub IsRefusedAs : {A : Type 0} → Result A SaveCause → SaveFault → Type 0
IsRefusedAs said (Refused cause) = said ≡ Err cause
IsRefusedAs said Memory = ⊤
