-- What is known of every message in flight, and what is left when one is taken.
use Rattle.std.proofs.Common.{◌≡◌, ℕ, suc, ◌<◌, ◌≤◌, Bool, true, false, cond, not, List, [], ◌∷◌, length, Option, Some}
use Rattle.std.proofs.Common.{subst, arith}
use Rattle.std.specs.Prelude.{nat_eq, option_map}
use Rattle.std.specs.List.{All, filter, find}
use Rattle.std.proofs.lemmas.Option.{same_Some, none-some}
use Rattle.std.proofs.lemmas.List.Elements.{All-head, All-tail}
use Rattle.rolling_recovery.specs.declared.messages.ControlMessage.{ControlMessage}
use Rattle.rolling_recovery.specs.declared.messages.Flight.{Flight}
use Rattle.rolling_recovery.specs.Messages.{message_in, without}

found_step : (P : ControlMessage → Type 0) (b : Bool) (f : Flight) (rest : Option Flight) (m : ControlMessage) → P f.message →
    (option_map (λ g. g.message) rest ≡ Some m → P m) → option_map (λ g. g.message) (cond b (Some f) rest) ≡ Some m → P m
found_step P true f rest m p q e = subst P (same_Some f.message m e) p
found_step P false f rest m p q e = q e

-- what is known of all is known of the one of a number
pub found : (P : ControlMessage → Type 0) (flights : List Flight) (id : ℕ) (m : ControlMessage) → All (λ f. P f.message) flights →
    message_in flights id ≡ Some m → P m
found P [] id m all e = absurd (none-some m e)
found P (f ∷ flights) id m all e =
    found_step P (nat_eq f.id id) f (find (λ g. nat_eq g.id id) flights) m (All-head (λ g. P g.message) f flights all)
    (found P flights id m (All-tail (λ g. P g.message) f flights all)) e

-- a message that is there leaves its place

fewer_step : (b : Bool) (f : Flight) (rest : List Flight) (n : ℕ) → length rest ≤ n → length (cond b (f ∷ rest) rest) ≤ suc n
fewer_step true f rest n l = omega (arith, l)
fewer_step false f rest n l = omega (arith, l)

fewer : (p : Flight → Bool) (flights : List Flight) → length (filter p flights) ≤ length flights
fewer p [] = omega arith
fewer p (f ∷ flights) = fewer_step (p f) f (filter p flights) (length flights) (fewer p flights)

shorter_step : (b : Bool) (f : Flight) (rest : Option Flight) (kept : List Flight) (n : ℕ) (m : ControlMessage) → length kept ≤ n →
    (option_map (λ g. g.message) rest ≡ Some m → length kept < n) → option_map (λ g. g.message) (cond b (Some f) rest) ≡ Some m →
    length (cond (not b) (f ∷ kept) kept) < suc n
shorter_step true f rest kept n m l q e = omega (arith, l)
shorter_step false f rest kept n m l q e = let h = q e in omega (arith, h)

pub shorter : (flights : List Flight) (id : ℕ) (m : ControlMessage) → message_in flights id ≡ Some m →
    length (without flights id) < length flights
shorter [] id m e = absurd (none-some m e)
shorter (f ∷ flights) id m e =
    shorter_step (nat_eq f.id id) f (find (λ g. nat_eq g.id id) flights) (without flights id) (length flights) m
    (fewer (λ g. not (nat_eq g.id id)) flights) (shorter flights id m) e
