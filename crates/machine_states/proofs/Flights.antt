-- The flight at a place, by its message and its switch.
use Rattle.std.proofs.Common.{◌≡◌, ℕ, zero, suc, ◌<◌, List, [], ◌∷◌, length, get_or, ap, ◌∙◌, arith}
use Rattle.std.specs.Prelude.{IfSome, slice_get}
use Rattle.switch_net.specs.declared.flight.Flight.{Flight as Carried}
use Rattle.sn_fabric.specs.Nets.{flight_as}
use Rattle.state_json.specs.Messages.{flight_text}

pub flight-there : (flights : List Carried) (i : ℕ) (x : Carried) → i < length flights →
    IfSome (slice_get flights i) (λ f. (x.message ≡ f.message) × (x.at ≡ f.at)) →
    flight_text (flight_as x) ≡ flight_text (flight_as (get_or flights i x))
flight-there [] i x b e = absurd (omega (arith, b))
flight-there (f ∷ flights) zero x b e =
    let h : (x.message ≡ f.message) × (x.at ≡ f.at) = e in
    ap (λ t. flight_text (record { message = t; place = x.at })) h.0 ∙ ap (λ t. flight_text (record { message = f.message; place = t })) h.1
flight-there (f ∷ flights) (suc i) x b e = flight-there flights i x (omega (arith, b)) e
