-- Reads after writes, and what a block sees of the net after a message is taken or sent.
use Rattle.std.proofs.Common.{◌≡◌, ◌∙◌, ℕ, ◌<◌, true, false, not, ◌&&◌, cond, List, [], ◌∷◌, ◌++◌, length, refl, arith, ◌==◌}
use Rattle.std.proofs.Common.{get_or-set_same, get_or-set_other, if◌then◌else◌, nat_eq}
use Rattle.std.proofs.lemmas.Bool.Decides.{nat_tests}
use Rattle.std.specs.List.{filter}
use Rattle.std.specs.Prelude.{slice_index_or, slice_set}
use Rattle.sn_msg.specs.declared.Message.{Message as Sent}
use Rattle.route_plan.specs.Distances.{Switches}
use Rattle.sn_model.specs.Fabric.{Flight, Net}
use Rattle.sn_model.specs.Net.{net_after_send, net_after_sends, is_lost, message_of, without_flight}
use Rattle.sn_model.specs.declared.cache.Out.{Out}
use Rattle.sn_coherence.specs.Block.{no_message}
use Rattle.fabric_coherence.specs.View.{net_seen, is_seen, message_seen}
use Rattle.fabric_coherence.specs.Steps.{Below}

-- a read after a write
pub read_set : {A : Type 0} (xs : List A) (i j : ℕ) (v d : A) → i < length xs →
    slice_index_or (slice_set xs i v) j d ≡ cond (j == i) v (slice_index_or xs j d)
read_set xs i j v d l = grind (arith, nat_tests, get_or-set_same, get_or-set_other)

-- the net without a message
without_step : (f : Flight) (fs : List Flight) (id b i : ℕ) →
    net_seen b (filter (λ f. not (nat_eq f.message.id id)) fs) i ≡ cond (i == id) no_message (net_seen b fs i) →
    net_seen b (filter (λ f. not (nat_eq f.message.id id)) (f ∷ fs)) i ≡ cond (i == id) no_message (net_seen b (f ∷ fs) i)
without_step f fs id b i h = grind (arith, nat_tests)

pub seen-without : (fs : List Flight) (id b i : ℕ) →
    net_seen b (filter (λ f. not (nat_eq f.message.id id)) fs) i ≡ cond (i == id) no_message (net_seen b fs i)
seen-without [] id b i = grind (arith, nat_tests)
seen-without (f ∷ fs) id b i = without_step f fs id b i (seen-without fs id b i)

-- the net with one more message
push_step : (g f : Flight) (fs : List Flight) (b i : ℕ) →
    net_seen b (fs ++ f ∷ []) i
    ≡ cond ((i == f.message.id) && is_seen b f.message) (message_seen f.message f.message.body) (net_seen b fs i) →
    g.message.id < f.message.id →
    net_seen b ((g ∷ fs) ++ f ∷ []) i
    ≡ cond ((i == f.message.id) && is_seen b f.message) (message_seen f.message f.message.body) (net_seen b (g ∷ fs) i)
push_step g f fs b i h l = grind (arith, nat_tests)

push_first : (f : Flight) (b i : ℕ) →
    net_seen b (f ∷ []) i ≡ cond ((i == f.message.id) && is_seen b f.message) (message_seen f.message f.message.body) no_message
push_first f b i = grind (arith, nat_tests)

pub seen-push : (fs : List Flight) (f : Flight) (b i : ℕ) → Below fs f.message.id →
    net_seen b (fs ++ f ∷ []) i
    ≡ cond ((i == f.message.id) && is_seen b f.message) (message_seen f.message f.message.body) (net_seen b fs i)
seen-push [] f b i l = push_first f b i
seen-push (g ∷ fs) f b i l = push_step g f fs b i (seen-push fs f b i l.1) l.0

below_step : (f : Flight) (fs : List Flight) (id n : ℕ) → f.message.id < n → Below (filter (λ f. not (nat_eq f.message.id id)) fs) n →
    Below (filter (λ f. not (nat_eq f.message.id id)) (f ∷ fs)) n
below_step f fs id n l h =
    elim (not (nat_eq f.message.id id)) as
    (λ x. Below (if x then f ∷ filter (λ f. not (nat_eq f.message.id id)) fs
    else filter (λ f. not (nat_eq f.message.id id)) fs) n) [ true ↦ (l, h) | false ↦ h ]

pub below-without : (fs : List Flight) (id n : ℕ) → Below fs n → Below (filter (λ f. not (nat_eq f.message.id id)) fs) n
below-without [] id n l = tt
below-without (f ∷ fs) id n l = below_step f fs id n l.0 (below-without fs id n l.1)

pub seen-post : (routes : Switches) (net : Net) (m : Sent) (b i : ℕ) → m.id ≡ net.next_id → Below net.flights net.next_id →
    net_seen b (net_after_send routes net m).flights i
    ≡ cond ((i == net.next_id) && (is_seen b m && not (is_lost routes net m))) (message_seen m m.body) (net_seen b net.flights i)
seen-post routes net m b i e l = grind (arith, nat_tests, seen-push)

-- a message is taken, and one is sent
pub seen-answered : (routes : Switches) (net : Net) (id from tag block : ℕ) (out : Out) (b i : ℕ) → Below net.flights net.next_id →
    net_seen b (net_after_sends routes (without_flight net id) from tag block (out ∷ [])).flights i
    ≡ cond ((i == net.next_id)
    && (is_seen b (message_of (without_flight net id) from tag block out) && not (is_lost routes net (message_of net from tag block out))))
    (message_seen (message_of net from tag block out) out.body) (cond (i == id) no_message (net_seen b net.flights i))
seen-answered routes net id from tag block out b i l =
    seen-post routes (without_flight net id) (message_of (without_flight net id) from tag block out) b i refl
    (below-without net.flights id net.next_id l)
    ∙ (λ p. cond ((i == net.next_id)
    && (is_seen b (message_of (without_flight net id) from tag block out) && not (is_lost routes net (message_of net from tag block out))))
    (message_seen (message_of net from tag block out) out.body) (seen-without net.flights id b i p))
