-- How many events are done, as JSON on a line.
use Rattle.std.specs.Prelude.{ℕ, nat_lt, if◌then◌else◌, List, ◌++◌, codes, decimal}
use Rattle.sn_text.specs.declared.cause.Fault.TheVariants.{NotThere}
use Rattle.driven_replay.specs.Refusals.{refusal_line}

-- so many are done
abbrev pub mark_line : ℕ → List ℕ
mark_line done = codes "{\"mark\":" ++ decimal done ++ codes "}\n"

-- so many stay, and no others
abbrev pub back_line : ℕ → List ℕ
back_line events = codes "{\"back\":" ++ decimal events ++ codes "}\n"

-- the line of this number goes back to so many; it is refused where fewer are done
unfoldable pub back_answer : ℕ → ℕ → ℕ → List ℕ
back_answer done number events = if nat_lt done events then refusal_line number NotThere else back_line events
