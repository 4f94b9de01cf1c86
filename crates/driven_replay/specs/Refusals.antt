-- Why lines are refused, as text.
use Rattle.std.specs.Prelude.{ℕ, List, ◌++◌, codes}
use Rattle.sn_text.specs.Text.{named_number}
use Rattle.sn_text.specs.declared.cause.Fault.{Fault}
use Rattle.sn_text.specs.declared.cause.Fault.TheVariants.{NotOfForm, NotThere}

-- why the line of this number is refused
abbrev pub refusal_line : ℕ → Fault → List ℕ
refusal_line number NotOfForm = named_number (codes "badline") number ++ codes "\n"
refusal_line number NotThere = named_number (codes "outofrange") number ++ codes "\n"

-- there is no room for its event
abbrev pub too_many_line : List ℕ
too_many_line = codes "toomany\n"
