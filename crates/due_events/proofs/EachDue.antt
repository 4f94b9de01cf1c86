-- What holds of each event that a driver can make holds of the one that is due.
use Rattle.std.proofs.Common.{◌≡◌, Bool, true, false, ◌||◌, zero, suc, ℕ, ◌+◌, ◌%◌, ◌<◌, ◌≤◌, List, [], ◌∷◌, ◌++◌, map, filter_map}
use Rattle.std.proofs.Common.{slice_get, Option, Some, None, IfSome, is_some, option_map, if◌then◌else◌, cond, find, subst, arith}
use Rattle.std.specs.Prelude.{⊤, unwrap_or, not, ◌&&◌, nat_le}
use Rattle.std.specs.List.{range_with_len}
use Rattle.std.specs.Option.{option_or}
use Rattle.std.proofs.lemmas.Nat.{mod_below}
use Rattle.sn_base.specs.Image.{ImageData}
use Rattle.sn_base.specs.declared.config.Config.{Config}
use Rattle.sn_base.specs.declared.event.Event.{Event}
use Rattle.sn_base.specs.declared.event.Event.TheVariants.{Step, Evict, Edge, Hop, Deliver, Lose, Kill, Report, Validate, Recover, Input}
use Rattle.sn_base.specs.declared.rules.Rules.{Rules}
use Rattle.route_plan.specs.Distances.{is_dead}
use Rattle.sn_model.specs.Caches.{block_count}
use Rattle.sn_model.specs.Fabric.{Flight}
use Rattle.sn_model.specs.Machine.{State, processor_at}
use Rattle.sn_machine.specs.Looks.{wanted_block}
use Rattle.due_events.specs.Numbers.{Numbers}
use Rattle.due_events.specs.Lists.{answer_foreseen, needs_evict, event_if, delivery, hop, leaves_for, least_to_leave, own_places, places_of}
use Rattle.due_events.specs.Lists.{list_of}
use Rattle.due_events.specs.Due.{is_over, killing, event_picked, first_picked, loses_next, loss_of, or_loss, event_of_lists, next_due, due_of}

-- it holds of each event that a driver with these rules can make for so many nodes
pub record HoldsOfEach (rules : Rules) (nodes : ℕ) (P : Event → Type 0) : Type 0 where
  pub hop : (id : ℕ) → P (Hop id)
  pub deliver : (id : ℕ) → P (Deliver id)
  pub lose : (id : ℕ) → P (Lose id)
  pub step : (n : ℕ) → n < nodes → P (Step n)
  pub edge : (n : ℕ) → n < nodes → P (Edge n)
  pub report : (n : ℕ) → n < nodes → P (Report n)
  pub evict : (n block : ℕ) → n < nodes → block < block_count → P (Evict n block)
  pub validate : P Validate
  pub recover : P Recover
  pub kill : IfSome rules.kill (λ rule. P (Kill rule.0))

-- the least number below a bound is below it
abbrev Below : ℕ → Option ℕ → Type 0
Below bound None = ⊤
Below bound (Some k) = k < bound

cond_below : (bound k : ℕ) (test : Bool) (later : Option ℕ) → k < bound → Below bound later → Below bound (cond test (Some k) later)
cond_below bound k true later h l = h
cond_below bound k false later h l = l

find_below : (test : ℕ → Bool) (bound from count : ℕ) → from + count ≤ bound → Below bound (find test (range_with_len from count))
find_below test bound from zero h = tt
find_below test bound from (suc count) h =
    cond_below bound from (test from) (find test (range_with_len (from + 1) count)) (omega (arith, h))
    (find_below test bound (from + 1) count (omega (arith, h)))

due_of_test : (P : Event → Type 0) (test : Bool) (event due : Event) → P event → (if test then None else Some event) ≡ Some due → P due
due_of_test P true event due h e = absurd cc
due_of_test P false event due h e = let same : event ≡ due = cc in subst P same h

module _ (P : Event → Type 0) where
  abbrev Holds : Option Event → Type 0
  Holds None = ⊤
  Holds (Some event) = P event

  abbrev HoldsOfPlaces : List (Option Event) → Type 0
  HoldsOfPlaces [] = ⊤
  HoldsOfPlaces (o ∷ os) = Holds o × HoldsOfPlaces os

  abbrev HoldsOfAll : List Event → Type 0
  HoldsOfAll [] = ⊤
  HoldsOfAll (event ∷ events) = P event × HoldsOfAll events

  of_test : (test : Bool) (event : Event) → P event → Holds (event_if test event)
  of_test true event h = h
  of_test false event h = tt

  of_map : (f : Flight → Option Event) → ((x : Flight) → Holds (f x)) → (xs : List Flight) → HoldsOfPlaces (map f xs)
  of_map f h [] = tt
  of_map f h (x ∷ xs) = (h x, of_map f h xs)

  of_both : (xs ys : List (Option Event)) → HoldsOfPlaces xs → HoldsOfPlaces ys → HoldsOfPlaces (xs ++ ys)
  of_both [] ys h k = k
  of_both (o ∷ xs) ys h k = (h.0, of_both xs ys h.1 k)

  of_filter : (xs : List (Option Event)) → HoldsOfPlaces xs → HoldsOfAll (filter_map (λ place. place) xs)
  of_filter [] h = tt
  of_filter (None ∷ xs) h = of_filter xs h.1
  of_filter (Some event ∷ xs) h = (h.0, of_filter xs h.1)

  of_get : (xs : List Event) (k : ℕ) → HoldsOfAll xs → Holds (slice_get xs k)
  of_get [] k h = tt
  of_get (x ∷ xs) zero h = h.0
  of_get (x ∷ xs) (suc k) h = of_get xs k h.1

  of_or : (a b : Option Event) → Holds a → Holds b → Holds (option_or a b)
  of_or None b h k = k
  of_or (Some a) b h k = h

  of_unless : (test : Bool) (o : Option Event) → Holds o → Holds (if test then None else o)
  of_unless true o h = tt
  of_unless false o h = h

  of_where : (test : Bool) (o : Option Event) → Holds o → Holds (if test then o else None)
  of_where true o h = h
  of_where false o h = tt

module _ (rules : Rules) (image : ImageData) (config : Config) (s : State) (x : Numbers) (P : Event → Type 0)
    (each : HoldsOfEach rules config.nodes P) where
  least_to_leave-below : (n : ℕ) → Below block_count (least_to_leave image config s n)
  unfolding least_to_leave
  least_to_leave-below n =
      find_below (leaves_for config s.fabric n (wanted_block image (processor_at s n).core)) block_count 0 block_count (omega arith)

  of_eviction : (n : ℕ) (least : Option ℕ) → n < config.nodes → Below block_count least →
      Holds P (option_map (λ (block : ℕ). Evict n block) least)
  of_eviction n None h b = tt
  of_eviction n (Some block) h b = each.evict n block h b

  own_places-hold : (n : ℕ) → n < config.nodes → HoldsOfPlaces P (own_places rules image config s x n)
  own_places-hold n h = (
    of_where P (needs_evict (answer_foreseen image config s (Step n))) _
        (of_eviction n (least_to_leave image config s n) h (least_to_leave-below n)),
    (
      of_test P _ (Edge n) (each.edge n h),
      (of_test P _ (Report n) (each.report n h), (of_test P _ Validate each.validate, (of_test P _ (Step n) (each.step n h), tt))),
    ),
  )

  list_of-holds : (n : ℕ) → n < config.nodes → HoldsOfAll P (list_of rules image config s x n)
  list_of-holds n h = of_filter P (places_of rules image config s x n)
      (of_both P (map (delivery image config s n) s.fabric.net.flights ++ map (hop n) s.fabric.net.flights) _
      (of_both P (map (delivery image config s n) s.fabric.net.flights) _
      (of_map P (delivery image config s n) (λ f. of_test P _ (Deliver f.message.id) (each.deliver f.message.id)) s.fabric.net.flights)
      (of_map P (hop n) (λ f. of_test P _ (Hop f.message.id) (each.hop f.message.id)) s.fabric.net.flights))
      (own_places-hold n h))

  first_picked-holds : (pick left n : ℕ) → n < config.nodes → Holds P (first_picked rules image config s x pick left n)
  first_picked-holds pick zero n h = tt
  first_picked-holds pick (suc left) n h =
      of_or P (event_picked pick (list_of rules image config s x n)) _
      (of_get P (list_of rules image config s x n) _ (list_of-holds n h))
      (first_picked-holds pick left ((n + 1) % config.nodes) (mod_below (n + 1) config.nodes (omega (arith, h))))

  -- a message that would move may be lost instead

  loss_of-holds : (event : Event) → P event → P (loss_of event)
  loss_of-holds (Hop id) h = each.lose id
  loss_of-holds (Deliver id) h = each.lose id
  loss_of-holds (Step n) h = h
  loss_of-holds (Evict n block) h = h
  loss_of-holds (Edge n) h = h
  loss_of-holds (Lose id) h = h
  loss_of-holds (Kill switch) h = h
  loss_of-holds (Report n) h = h
  loss_of-holds Validate h = h
  loss_of-holds Recover h = h
  loss_of-holds (Input n byte) h = h

  or_loss-holds : (test : Bool) (event : Event) → P event → P (if test then loss_of event else event)
  or_loss-holds true event h = loss_of-holds event h
  or_loss-holds false event h = h

  lost-holds : (o : Option Event) → Holds P o → Holds P (option_map (or_loss rules x) o)
  lost-holds None h = tt
  lost-holds (Some event) h = or_loss-holds (loses_next rules x) event h

  listed-holds : (worker pick : ℕ) → worker < config.nodes → Holds P (event_of_lists rules image config s x worker pick)
  listed-holds worker pick h = of_unless P _ _ (lost-holds _ (first_picked-holds pick config.nodes worker h))

  -- the switch of a rule, what the lists give, and a recovery where they give nothing

  killing-holds : (kill : Option (ℕ × ℕ)) → IfSome kill (λ rule. P (Kill rule.0)) → Holds P (killing s x kill)
  killing-holds None h = tt
  killing-holds (Some rule) h = of_test P (nat_le rule.1 x.done && not (is_dead s.fabric.net.dead rule.0)) (Kill rule.0) h

  or_recover-holds : (o : Option Event) → Holds P o → P (unwrap_or o Recover)
  or_recover-holds None h = each.recover
  or_recover-holds (Some event) h = h

  pub due_of-holds : (worker pick : ℕ) (event : Event) → worker < config.nodes →
      due_of rules image config s x worker pick ≡ Some event → P event
  unfolding due_of
  due_of-holds worker pick event h due =
      due_of_test P (is_over image config s || is_some x.cut_off) (next_due rules image config s x worker pick) event
      (or_recover-holds (option_or (killing s x rules.kill) (event_of_lists rules image config s x worker pick))
      (of_or P (killing s x rules.kill) (event_of_lists rules image config s x worker pick)
      (killing-holds rules.kill each.kill) (listed-holds worker pick h))) due
