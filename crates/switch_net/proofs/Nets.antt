-- what every network keeps, through each change of its list
use Rattle.std.proofs.Common.{◌≡◌, ℕ, zero, suc, ◌+◌, ◌<◌, ◌≤◌, Bool, true, false, cond, not, eqb, Option, Some, None, IfSome, Result, Ok}
use Rattle.std.proofs.Common.{Err, IsOk, List, [], ◌∷◌, ◌++◌, length, get_or, set, refl, sym, ap, subst, ◌∙◌, Bor, arith}
use Rattle.std.specs.List.{All, filter, position, position_or_len}
use Rattle.std.specs.Option.{option_copied, is_some}
use Rattle.std.proofs.lemmas.Bool.{false≢true, ltb-false}
use Rattle.std.proofs.lemmas.List.Quantifiers.{position-Some}
use Rattle.std.proofs.lemmas.List.Sums.{fails_before_first}
use Rattle.std.proofs.lemmas.List.Elements.{All-nil, All-cons, All-head, All-tail, All-push, All-filter}
use Rattle.route_plan.specs.Distances.{Switches, is_living}
use Rattle.route_plan.specs.Routes.{first_cut_off}
use Rattle.switch_net.specs.declared.flight.Flight.{Flight}
use Rattle.switch_net.specs.Net.{NetData, IsNet, IsPlaced, AreNumbered, find_flight, flights_with_move, without}

numbered-le : (least bound : ℕ) (fs : List Flight) → AreNumbered least fs bound → least ≤ bound
numbered-le least bound [] h = h
numbered-le least bound (f ∷ fs) h =
    let l : f.message.id + 1 ≤ bound = numbered-le (f.message.id + 1) bound fs h.1 in let m : least ≤ f.message.id = h.0 in omega arith

numbered-from : (least other bound : ℕ) (fs : List Flight) → other ≤ least → AreNumbered least fs bound → AreNumbered other fs bound
numbered-from least other bound [] l h = omega arith
numbered-from least other bound (f ∷ fs) l h = (omega (arith, h.0), h.1)

numbered-next : (least bound : ℕ) (fs : List Flight) → AreNumbered least fs bound → AreNumbered least fs (bound + 1)
numbered-next least bound [] h = omega arith
numbered-next least bound (f ∷ fs) h = (h.0, numbered-next (f.message.id + 1) bound fs h.1)

numbered-push : (least bound : ℕ) (fs : List Flight) (g : Flight) → g.message.id ≡ bound → AreNumbered least fs bound →
    AreNumbered least (fs ++ g ∷ []) (bound + 1)
numbered-push least bound [] g e h = (omega arith, omega arith)
numbered-push least bound (f ∷ fs) g e h = (h.0, numbered-push (f.message.id + 1) bound fs g e h.1)

numbered_step : (least bound : ℕ) (b : Bool) (f : Flight) (rest : List Flight) → least ≤ f.message.id →
    AreNumbered (f.message.id + 1) rest bound →
    AreNumbered least (cond b (f ∷ rest) rest) bound
numbered_step least bound true f rest l h = (l, h)
numbered_step least bound false f rest l h = numbered-from (f.message.id + 1) least bound rest (omega arith) h

numbered-filter : (least bound : ℕ) (p : Flight → Bool) (fs : List Flight) → AreNumbered least fs bound →
    AreNumbered least (filter p fs) bound
numbered-filter least bound p [] h = h
numbered-filter least bound p (f ∷ fs) h =
    numbered_step least bound (p f) f (filter p fs) h.0 (numbered-filter (f.message.id + 1) bound p fs h.1)

length_step : (b : Bool) (f : Flight) (rest : List Flight) (n : ℕ) → length rest ≤ n → length (cond b (f ∷ rest) rest) ≤ suc n
length_step true f rest n l = omega arith
length_step false f rest n l = omega arith

length-filter_le : (p : Flight → Bool) (fs : List Flight) → length (filter p fs) ≤ length fs
length-filter_le p [] = omega arith
length-filter_le p (f ∷ fs) = length_step (p f) f (filter p fs) (length fs) (length-filter_le p fs)

-- a network that keeps some of its messages
pub net-filter : (n : NetData) (dead : List Bool) (p : Flight → Bool) → IsNet n →
    IsNet (record n { dead = dead; flights = filter p n.flights })
net-filter n dead p h = record {
  some = h.some;
  few = h.few;
  joined = h.joined;
  room = (let l : length (filter p n.flights) ≤ length n.flights = length-filter_le p n.flights in omega (arith, h.room));
  numbered = numbered-filter 1 n.next p n.flights h.numbered;
  placed = All-filter p (IsPlaced n.routes) n.flights h.placed;
}

-- a network whose next number was given to a message that was lost at once
pub net-next : (n : NetData) → IsNet n → IsNet (record n { next = n.next + 1 })
net-next n h =
    record {
      some = h.some;
      few = h.few;
      joined = h.joined;
      room = h.room;
      numbered = numbered-next 1 n.next n.flights h.numbered;
      placed = h.placed;
    }

length_push : (fs : List Flight) (f : Flight) → length (fs ++ f ∷ []) ≡ length fs + 1
length_push [] f = omega arith
length_push (g ∷ fs) f = omega (arith, length_push fs f)

-- and one to which it was added
pub net-push : (n : NetData) (f : Flight) → IsNet n → length n.flights < 1024 → f.message.id ≡ n.next → IsPlaced n.routes f →
    IsNet (record n { next = n.next + 1; flights = n.flights ++ f ∷ [] })
net-push n f h l e p = record {
  some = h.some;
  few = h.few;
  joined = h.joined;
  room = omega (arith, length_push n.flights f);
  numbered = numbered-push 1 n.next n.flights f e h.numbered;
  placed = All-push (IsPlaced n.routes) n.flights f h.placed p;
}

numbered_put : (least bound at : ℕ) (b : Bool) (f : Flight) (fs rest : List Flight) → AreNumbered least (f ∷ fs) bound →
    AreNumbered (f.message.id + 1) rest bound →
    AreNumbered least (cond b (record f { at = at } ∷ fs) (f ∷ rest)) bound
numbered_put least bound at true f fs rest h g = h
numbered_put least bound at false f fs rest h g = (h.0, g)

moved_numbered : (least bound id at : ℕ) (fs : List Flight) → AreNumbered least fs bound → AreNumbered least (flights_with_move fs id at) bound
moved_numbered least bound id at [] h = h
moved_numbered least bound id at (f ∷ fs) h =
    numbered_put least bound at (eqb f.message.id id) f fs (flights_with_move fs id at) h (moved_numbered (f.message.id + 1) bound id at fs h.1)

length_put : (at : ℕ) (b : Bool) (f : Flight) (fs rest : List Flight) → length rest ≡ length fs →
    length (cond b (record f { at = at } ∷ fs) (f ∷ rest)) ≡ suc (length fs)
length_put at true f fs rest e = refl
length_put at false f fs rest e = ap suc e

moved_length : (id at : ℕ) (fs : List Flight) → length (flights_with_move fs id at) ≡ length fs
moved_length id at [] = refl
moved_length id at (f ∷ fs) = length_put at (eqb f.message.id id) f fs (flights_with_move fs id at) (moved_length id at fs)

placed_put : (routes : Switches) (at : ℕ) (b : Bool) (f : Flight) (fs rest : List Flight) → is_living routes at ≡ true →
    All (IsPlaced routes) (f ∷ fs) →
    All (IsPlaced routes) rest → All (IsPlaced routes) (cond b (record f { at = at } ∷ fs) (f ∷ rest))
placed_put routes at true f fs rest e h g =
    let first = All-head (IsPlaced routes) f fs h in
    All-cons (IsPlaced routes) (record f { at = at }) fs (record { from = first.from; to = first.to; living = e })
    (All-tail (IsPlaced routes) f fs h)
placed_put routes at false f fs rest e h g = All-cons (IsPlaced routes) f rest (All-head (IsPlaced routes) f fs h) g

moved_placed : (routes : Switches) (id at : ℕ) (fs : List Flight) → is_living routes at ≡ true → All (IsPlaced routes) fs →
    All (IsPlaced routes) (flights_with_move fs id at)
moved_placed routes id at [] e h = h
moved_placed routes id at (f ∷ fs) e h =
    placed_put routes at (eqb f.message.id id) f fs (flights_with_move fs id at) e h
    (moved_placed routes id at fs e (All-tail (IsPlaced routes) f fs h))

-- a network with a message in another switch that was living when the routes were made
pub net-moved : (n : NetData) (id at : ℕ) → IsNet n → is_living n.routes at ≡ true → IsNet (record n { flights = flights_with_move n.flights id at })
net-moved n id at h e = record {
  some = h.some;
  few = h.few;
  joined = h.joined;
  room = rw (moved_length id at n.flights) h.room;
  numbered = moved_numbered 1 n.next id at n.flights h.numbered;
  placed = moved_placed n.routes id at n.flights e h.placed;
}

-- an empty one, over new routes
pub net-empty : (n : NetData) (dead : List Bool) → IsNet n → first_cut_off (record n.routes { dead = dead }) ≡ None →
    IsNet (record n { routes = record n.routes { dead = dead }; dead = dead; flights = [] })
net-empty n dead h e = record {
  some = h.some;
  few = h.few;
  joined = e;
  room = omega arith;
  numbered = numbered-le 1 n.next n.flights h.numbered;
  placed = All-nil (IsPlaced (record n.routes { dead = dead }));
}

-- no message of a number
pub none-copied : (r : Option (Bor Flight)) (o : Option Flight) → is_some r ≡ false → option_copied r ≡ o → o ≡ None
none-copied None o h e = sym e
none-copied (Some f) o h e = absurd (false≢true (sym h))

pub none-there : {r o : Option Flight} → r ≡ o → is_some r ≡ false → o ≡ None
none-there {r} e h = sym e ∙ none_of r h
  where
    none_of : (r : Option Flight) → is_some r ≡ false → r ≡ None
    none_of None h = refl
    none_of (Some f) h = absurd (false≢true (sym h))

-- a list without a number that isn't in it
without_step : (b : Bool) (f : Flight) (fs rest : List Flight) → cond b (Some f) None ≡ None → rest ≡ fs →
    cond (not b) (f ∷ rest) rest ≡ f ∷ fs
without_step true f fs rest e h = absurd (something e)
  where
    something : ◌≡◌ {A = Option Flight} (Some f) None → ⊥
    something e = cc
without_step false f fs rest e h = ap (λ xs. f ∷ xs) h

not_first : (b : Bool) (f : Flight) (rest : Option Flight) → cond b (Some f) rest ≡ None → (cond b (Some f) None ≡ None) × (rest ≡ None)
not_first true f rest e = absurd (something e)
  where
    something : ◌≡◌ {A = Option Flight} (Some f) None → ⊥
    something e = cc
not_first false f rest e = (refl, e)

pub without-none : (id : ℕ) (fs : List Flight) → find_flight fs id ≡ None → without fs id ≡ fs
without-none id [] e = refl
without-none id (f ∷ fs) e =
    let h = not_first (eqb f.message.id id) f (find_flight fs id) e in
    without_step (eqb f.message.id id) f fs (without fs id) h.0 (without-none id fs h.1)

-- a message is put into a switch at the first place of its number
moved_at_step : (b : Bool) (id at i : ℕ) (f d : Flight) (fs rest : List Flight) → eqb f.message.id id ≡ b → i < suc (length fs) →
    eqb (get_or (f ∷ fs) i d).message.id id ≡ true →
    ((k : ℕ) → k < i → eqb (get_or (f ∷ fs) k d).message.id id ≡ false) →
    ((j : ℕ) → i ≡ suc j → rest ≡ set fs j (record (get_or fs j d) { at = at })) →
    cond b (record f { at = at } ∷ fs) (f ∷ rest) ≡ set (f ∷ fs) i (record (get_or (f ∷ fs) i d) { at = at })
moved_at_step true id at zero f d fs rest e l h g k = refl
moved_at_step true id at (suc i) f d fs rest e l h g k = absurd (false≢true (sym (g 0 (omega arith)) ∙ e))
moved_at_step false id at zero f d fs rest e l h g k = absurd (false≢true (sym e ∙ h))
moved_at_step false id at (suc i) f d fs rest e l h g k = ap (λ xs. f ∷ xs) (k i refl)

pub moved-at : (id at i : ℕ) (fs : List Flight) (d : Flight) → i < length fs → eqb (get_or fs i d).message.id id ≡ true →
    ((k : ℕ) → k < i → eqb (get_or fs k d).message.id id ≡ false) → flights_with_move fs id at ≡ set fs i (record (get_or fs i d) { at = at })
moved-at id at i [] d l h g = absurd (omega arith)
moved-at id at i (f ∷ fs) d l h g =
    moved_at_step (eqb f.message.id id) id at i f d fs (flights_with_move fs id at) refl l h g
    (λ j e. moved-at id at j fs d (omega arith) (rw e at h) (λ k m. g (suc k) (omega arith)))

moved_no_step : (b : Bool) (at : ℕ) (f : Flight) (fs rest : List Flight) → b ≡ false → rest ≡ fs →
    cond b (record f { at = at } ∷ fs) (f ∷ rest) ≡ f ∷ fs
moved_no_step b at f fs rest e h = rw (e, h) refl

moved-no : (id at : ℕ) (fs : List Flight) → ((k : ℕ) (d : Flight) → k < length fs → eqb (get_or fs k d).message.id id ≡ false) →
    flights_with_move fs id at ≡ fs
moved-no id at [] h = refl
moved-no id at (f ∷ fs) h =
    moved_no_step (eqb f.message.id id) at f fs (flights_with_move fs id at) (h 0 f (omega arith))
    (moved-no id at fs (λ k d l. h (suc k) d (omega arith)))

-- a test that no message passes
pub past-none : (p : Flight → Bool) (fs : List Flight) → position p fs ≡ None → length fs ≤ position_or_len p fs
past-none p fs e = ltb-false (position_or_len p fs) (length fs) (none _ _ e)
  where
    none : (b : Bool) (i : ℕ) → cond b (Some i) None ≡ None → b ≡ false
    none true i e = cc
    none false i e = refl

pub moved-none : (id at : ℕ) (fs : List Flight) → position (λ f. eqb f.message.id id) fs ≡ None → flights_with_move fs id at ≡ fs
moved-none id at fs e =
    moved-no id at fs (λ k d l. fails_before_first (λ f. eqb f.message.id id) fs k d (omega (arith, past-none (λ f. eqb f.message.id id) fs e)))

pub moved-some : (id at i : ℕ) (fs : List Flight) (d : Flight) → position (λ f. eqb f.message.id id) fs ≡ Some i →
    flights_with_move fs id at ≡ set fs i (record (get_or fs i d) { at = at })
moved-some id at i fs d e =
    let h = position-Some (λ f. eqb f.message.id id) fs i d e in
    moved-at id at i fs d h.0 h.1 h.2

-- a recovery that isn't refused leaves all nodes joined
pub none-cut : {X : Type 0} (o : Option X) (r : Result (Unit {0}) X) → IsOk r → IfSome o (λ p. r ≡ Err p) → o ≡ None
none-cut None r k h = refl
none-cut (Some x) r k h = absurd (refused r x k h)
  where
    refused : {X : Type 0} (r : Result (Unit {0}) X) (x : X) → IsOk r → r ≡ Err x → ⊥
    refused (Ok u) x k h = cc
    refused (Err y) x k h = cc

found_step : (P : Flight → Type 0) (b : Bool) (f : Flight) (o : Option Flight) → P f → IfSome o P → IfSome (cond b (Some f) o) P
found_step P true f o h k = h
found_step P false f o h k = k

found_in : (P : Flight → Type 0) (id : ℕ) (fs : List Flight) → All P fs → IfSome (find_flight fs id) P
found_in P id [] h = tt
found_in P id (f ∷ fs) h =
    found_step P (eqb f.message.id id) f (find_flight fs id) (All-head P f fs h) (found_in P id fs (All-tail P f fs h))

copied_step : (P : Flight → Type 0) (r : Option (Bor Flight)) (o : Option Flight) → option_copied r ≡ o → IfSome o P →
    IfSome r (λ f. P f.now)
copied_step P None o h k = tt
copied_step P (Some f) o h k = let Q : Option Flight → Type 0 = λ q. IfSome q P in subst Q (sym h) k

-- what is found is one of the network's messages
pub net-found : (n : NetData) (id : ℕ) (r : Option (Bor Flight)) → IsNet n → option_copied r ≡ find_flight n.flights id →
    IfSome r (λ f. IsPlaced n.routes f.now)
net-found n id r h e = copied_step (IsPlaced n.routes) r (find_flight n.flights id) e (found_in (IsPlaced n.routes) id n.flights h.placed)
