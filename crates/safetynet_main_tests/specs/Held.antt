-- What the probe of these tests counts that looks at answers alone.
use Rattle.std.specs.Prelude.{ℕ, Option, Some, None}
use Rattle.sn_base.specs.declared.event.Answer.{Answer}
use Rattle.sn_base.specs.declared.event.Answer.TheVariants.{Held}

-- a message that is held counts at the first place, and nothing else anywhere
abbrev pub place_of_held : Answer → Option ℕ
place_of_held Held = Some 0
place_of_held _ = None
