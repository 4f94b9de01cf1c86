-- The message in flight at a place, by what it is and where it stands.
use Rattle.std.proofs.Common.{◌≡◌, ℕ, zero, suc, ◌<◌, List, [], ◌∷◌, length, get_or, ap, ◌∙◌, arith}
use Rattle.std.specs.Prelude.{IfSome, slice_get}
use Rattle.switch_net.specs.declared.flight.Flight.{Flight as Carried}
use Rattle.sn_fabric.specs.Nets.{flight_as}
use Rattle.driven_replay.specs.Looks.{arrival_text}

pub arrival-there : (flights : List Carried) (i : ℕ) (x : Carried) → i < length flights →
    IfSome (slice_get flights i) (λ f. (x.message ≡ f.message) × (x.at ≡ f.at)) →
    arrival_text (flight_as x) ≡ arrival_text (flight_as (get_or flights i x))
arrival-there [] i x b e = absurd (omega (arith, b))
arrival-there (f ∷ flights) zero x b e =
    let h : (x.message ≡ f.message) × (x.at ≡ f.at) = e in
    ap (λ t. arrival_text (record { message = t; place = x.at })) h.0 ∙ ap (λ t. arrival_text (record { message = f.message; place = t })) h.1
arrival-there (f ∷ flights) (suc i) x b e = arrival-there flights i x (omega (arith, b)) e
