-- The events that a list has left.
use Rattle.std.proofs.Common.{◌≡◌, List, [], ◌∷◌, length, refl, arith}
use Rattle.sn_base.specs.declared.event.Event.{Event}

pub none-left : (events : List Event) → length events ≡ 0 → events ≡ []
none-left [] e = refl
none-left (event ∷ events) e = absurd (omega (arith, e))
