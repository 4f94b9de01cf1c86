-- At which nodes no message stands: nothing of their lists moves one.
use Rattle.std.proofs.Common.{◌≡◌, ℕ, ◌+◌, ◌<◌, ◌≤◌, zero, suc, Bool, true, false, nat_eq, List, [], ◌∷◌, length, map, take, filter_map}
use Rattle.std.proofs.Common.{get_or, set, slice_get, IfSome, Option, Some, None, refl, ap, ◌∙◌, add-one, arith}
use Rattle.std.specs.List.{All}
use Rattle.std.proofs.lemmas.Bool.Decides.{nat_tests}
use Rattle.std.proofs.lemmas.List.Elements.{All-nil, All-cons, All-head, All-tail}
use Rattle.sn_base.specs.Image.{ImageData}
use Rattle.sn_base.specs.declared.config.Config.{Config}
use Rattle.sn_base.specs.declared.event.Event.{Event}
use Rattle.route_plan.specs.Grid.{node_of}
use Rattle.sn_model.specs.Fabric.{Flight}
use Rattle.sn_model.specs.Machine.{State}
use Rattle.sn_model.specs.Net.{flight_of}
use Rattle.due_events.specs.Lists.{delivery, hop}
use Rattle.sn_driver.specs.Overview.{stands_at, AreMarked}
use Rattle.sn_driver.proofs.Arrivals.{not_delivered}

-- a place without a mark after another was marked is not that one, and had none before
pub unmarked : (marks : List Bool) (i n : ℕ) → i < length marks → get_or (set marks i true) n false ≡ false → (nat_eq i n ≡ false) × (get_or marks n false ≡ false)
unmarked [] i n l e = absurd (omega (arith, l))
unmarked (m ∷ marks) zero zero l e = absurd cc
unmarked (m ∷ marks) zero (suc n) l e = (grind (arith, nat_tests), e)
unmarked (m ∷ marks) (suc i) zero l e = (grind (arith, nat_tests), e)
unmarked (m ∷ marks) (suc i) (suc n) l e = let h = unmarked marks i n (omega (arith, l)) e in (grind (arith, nat_tests, h.0), h.1)

-- what holds of the first elements and of the next holds of one more
pub all_more : {X : Type 0} (P : X → Type 0) (xs : List X) (k : ℕ) → k < length xs → All P (take k xs) → IfSome (slice_get xs k) P → All P (take (k + 1) xs)
all_more {X} P xs k l before next = rw (add-one k) (go xs k l before next)
  where
    go : (ys : List X) (j : ℕ) → j < length ys → All P (take j ys) → IfSome (slice_get ys j) P → All P (take (suc j) ys)
    go [] j l before next = absurd (omega (arith, l))
    go (y ∷ ys) zero l before next = All-cons P y [] next (All-nil P)
    go (y ∷ ys) (suc j) l before next = All-cons P y (take (suc j) ys) (All-head P y (take j ys) before) (go ys j (omega (arith, l)) (All-tail P y (take j ys) before) next)

-- one message more, with the mark of its node
pub more_marked : (marks : List Bool) (fs : List Flight) (k i : ℕ) → i < length marks → k < length fs → IfSome (slice_get fs k) (λ f. node_of f.place ≡ i) →
    AreMarked marks (take k fs) → AreMarked (set marks i true) (take (k + 1) fs)
more_marked marks fs k i l here at before n e =
    let h = unmarked marks i n l e in
    all_more (λ f. stands_at n f ≡ false) fs k here (before n h.1) (apart h.0 (slice_get fs k) at)
  where
    apart : nat_eq i n ≡ false → (o : Option Flight) → IfSome o (λ f. node_of f.place ≡ i) → IfSome o (λ f. stands_at n f ≡ false)
    apart other None is = tt
    apart other (Some f) is = ap (λ a. nat_eq a n) is ∙ other

pub all_whole : {X : Type 0} (P : X → Type 0) (xs : List X) (k : ℕ) → length xs ≤ k → All P (take k xs) → All P xs
all_whole P [] k l h = All-nil P
all_whole P (x ∷ xs) zero l h = absurd (omega (arith, l))
all_whole P (x ∷ xs) (suc k) l h = All-cons P x xs (All-head P x (take k xs) h) (all_whole P xs k (omega (arith, l)) (All-tail P x (take k xs) h))

none_left : {F X : Type 0} (g : F → Option X) (fs : List F) → All (λ f. g f ≡ None) fs → filter_map (λ (o : Option X). o) (map g fs) ≡ []
none_left {F} {X} g [] h = refl
none_left {F} {X} g (f ∷ fs) h = ap (λ o. filter_map (λ (x : Option X). x) (o ∷ map g fs)) (All-head (λ f. g f ≡ None) f fs h) ∙ none_left g fs (All-tail (λ f. g f ≡ None) f fs h)

module _ (n : ℕ) (fs : List Flight) (h : All (λ f. stands_at n f ≡ false) fs) where
  pub no_deliveries : (image : ImageData) (config : Config) (s : State) → All (λ f. flight_of s.fabric.net.flights f.message.id ≡ Some f) fs →
      filter_map (λ (o : Option Event). o) (map (delivery image config s n) fs) ≡ []
  no_deliveries image config s at = none_left (delivery image config s n) fs (λ k d l. not_delivered image config s n (get_or fs k d) (at k d l) (h k d l))

  pub no_hops : filter_map (λ (o : Option Event). o) (map (hop n) fs) ≡ []
  no_hops = none_left (hop n) fs (λ k d l. none (get_or fs k d) (h k d l))
    where
      none : (f : Flight) → stands_at n f ≡ false → hop n f ≡ None
      none f e = rw e refl
