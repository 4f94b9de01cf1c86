-- Lists of what is in flight and of what is sent.
use Rattle.std.proofs.Common.{◌≡◌, ◌∙◌, ℕ, suc, ◌+◌, ◌<◌, ◌≤◌, Bool, true, false, not, cond, List, [], ◌∷◌, ◌++◌, length, refl, ap, arith}
use Rattle.std.proofs.Common.{length-append, ◌==◌, get_or-set_same, get_or-set_other, if◌then◌else◌, nat_eq, Some}
use Rattle.std.proofs.lemmas.Bool.Decides.{nat_tests}
use Rattle.std.specs.List.{filter}
use Rattle.std.specs.Prelude.{slice_index_or, slice_set}
use Rattle.route_plan.specs.Distances.{Switches}
use Rattle.sn_model.specs.declared.cache.Out.{Out}
use Rattle.sn_model.specs.Fabric.{Flight, Net}
use Rattle.sn_model.specs.Net.{net_after_send, net_after_sends, sent_by, is_lost, message_of, entry_of, flight_of}

-- a read after a write
pub read_set : {A : Type 0} (xs : List A) (i j : ℕ) (v d : A) → i < length xs →
    slice_index_or (slice_set xs i v) j d ≡ cond (j == i) v (slice_index_or xs j d)
read_set xs i j v d l = grind (arith, nat_tests, get_or-set_same, get_or-set_other)

-- a filter makes no list longer
shorter_step : {A : Type 0} (c : Bool) (x : A) (ys : List A) (k : ℕ) → length ys ≤ k → length (if c then x ∷ ys else ys) ≤ suc k
shorter_step true x ys k h = omega arith
shorter_step false x ys k h = omega arith

pub shorter : {A : Type 0} (p : A → Bool) (xs : List A) → length (filter p xs) ≤ length xs
shorter p [] = omega arith
shorter p (x ∷ xs) = shorter_step (p x) x (filter p xs) (length xs) (shorter p xs)

-- and shorter, where it takes out what is there
taken_step : (g f : Flight) (fs gs : List Flight) (c : Bool) → (if c then Some g else flight_of fs f.message.id) ≡ Some f →
    length gs ≤ length fs → (flight_of fs f.message.id ≡ Some f → length gs + 1 ≤ length fs) →
    length (if not c then g ∷ gs else gs) + 1 ≤ suc (length fs)
taken_step g f fs gs true e l h = omega arith
taken_step g f fs gs false e l h = let m : length gs + 1 ≤ length fs = h e in omega arith

pub taken_out : (fs : List Flight) (f : Flight) → flight_of fs f.message.id ≡ Some f →
    length (filter (λ g. not (nat_eq g.message.id f.message.id)) fs) + 1 ≤ length fs
taken_out [] f e = absurd (grind arith)
taken_out (g ∷ fs) f e =
    taken_step g f fs (filter (λ g. not (nat_eq g.message.id f.message.id)) fs) (nat_eq g.message.id f.message.id) e
    (shorter (λ g. not (nat_eq g.message.id f.message.id)) fs) (taken_out fs f)

-- what is sent is in flight or lost, and takes a number each
pushed : (c : Bool) (fs : List Flight) (f : Flight) → length (if c then fs else fs ++ f ∷ []) ≤ length fs + 1
pushed true fs f = omega arith
pushed false fs f = omega (arith, length-append fs (f ∷ []))

pub flights-posted : (outs : List Out) (routes : Switches) (net : Net) (from tag block : ℕ) →
    length (net_after_sends routes net from tag block outs).flights ≤ length net.flights + length outs
flights-posted [] routes net from tag block = omega arith
flights-posted (out ∷ outs) routes net from tag block =
    let h : length (net_after_sends routes (net_after_send routes net (message_of net from tag block out)) from tag block outs).flights ≤ length
    (net_after_send routes net (message_of net from tag block out)).flights + length outs
    = flights-posted outs routes (net_after_send routes net (message_of net from tag block out)) from tag block in
    let g : length (net_after_send routes net (message_of net from tag block out)).flights ≤ length net.flights + 1
    = pushed (is_lost routes net (message_of net from tag block out)) net.flights
    (record { message = message_of net from tag block out; place = entry_of routes (message_of net from tag block out) }) in
    more_step (length (net_after_sends routes (net_after_send routes net (message_of net from tag block out)) from tag block outs).flights)
    (length (net_after_send routes net (message_of net from tag block out)).flights) (length net.flights) (length outs) h g
  where
    more_step : (a b c d : ℕ) → a ≤ b + d → b ≤ c + 1 → a ≤ c + suc d
    more_step a b c d h g = omega arith

pub next-posted : (outs : List Out) (routes : Switches) (net : Net) (from tag block : ℕ) →
    (net_after_sends routes net from tag block outs).next_id ≡ net.next_id + length outs
next-posted [] routes net from tag block = omega arith
next-posted (out ∷ outs) routes net from tag block =
    next-posted outs routes (net_after_send routes net (message_of net from tag block out)) from tag block ∙ one_more net.next_id (length outs)
  where
    one_more : (a b : ℕ) → a + 1 + b ≡ a + suc b
    one_more a b = omega arith

pub length-sent : (outs : List Out) (routes : Switches) (net : Net) (from tag block : ℕ) →
    length (sent_by routes net from tag block outs) ≡ length outs
length-sent [] routes net from tag block = refl
length-sent (out ∷ outs) routes net from tag block =
    ap suc (length-sent outs routes (net_after_send routes net (message_of net from tag block out)) from tag block)
