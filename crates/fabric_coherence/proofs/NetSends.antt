-- What a block sees of several messages that a node sends in order, and of those lost at once.
use Rattle.std.proofs.Common.{◌≡◌, ◌∙◌, ℕ, zero, suc, ◌+◌, ◌-◌, ◌<◌, ◌≤◌, Bool, true, false, not, ◌&&◌, ◌||◌, cond, List, [], ◌∷◌, ◌++◌}
use Rattle.std.proofs.Common.{length, refl, ap, sym, subst, arith, ◌==◌, get_or, if◌then◌else◌, nat_eq, count_by}
use Rattle.std.specs.Prelude.{nat_lt, nat_le, slice_index_or}
use mathlib.Core.Path.{fun_ext}
use Rattle.std.proofs.lemmas.Bool.Decides.{nat_tests}
use Rattle.std.proofs.lemmas.List.Sums.{sum_by-cons}
use Rattle.sn_msg.specs.declared.Message.{Message as Sent}
use Rattle.route_plan.specs.Distances.{Switches}
use Rattle.sn_model.specs.Fabric.{Flight, Net}
use Rattle.sn_model.specs.Net.{net_after_send, net_after_sends, sent_by, is_lost, entry_of, message_of, without_flight}
use Rattle.sn_model.specs.declared.cache.Out.{Out}
use Rattle.sn_model.specs.HomeRows.{invalidations}
use Rattle.sn_coherence.specs.Block.{Inv as SeenInv}
use Rattle.sn_coherence.specs.Block.{Block, Message, no_message, forward, invalidates}
use Rattle.sn_coherence.specs.Events.{Lists}
use Rattle.sn_coherence.specs.Invariant.{count}
use Rattle.sn_coherence.specs.OtherEvents.{lose}
use Rattle.sn_coherence.specs.Same.{IsSame}
use Rattle.sn_coherence.proofs.Counts.{no_count}
use Rattle.fabric_coherence.specs.View.{net_seen, is_seen, message_seen}
use Rattle.fabric_coherence.specs.Steps.{Below, lost_at_once, losing}
use Rattle.fabric_coherence.specs.Sends.{message_with_number, sent_at, is_among, targets, NoneForAll}
use Rattle.fabric_coherence.proofs.Base.{seen-without, seen-post, below-without}

-- a number from the next one on is of no message
fresh_step : (f : Flight) (fs : List Flight) (n b i : ℕ) → f.message.id < n → n ≤ i → net_seen b fs i ≡ no_message → net_seen b (f ∷ fs) i ≡ no_message
fresh_step f fs n b i l m e = grind (arith, nat_tests)

pub seen-fresh : (fs : List Flight) (n b i : ℕ) → Below fs n → n ≤ i → net_seen b fs i ≡ no_message
seen-fresh [] n b i l m = refl
seen-fresh (f ∷ fs) n b i l m = fresh_step f fs n b i l.0 m (seen-fresh fs n b i l.1 m)

-- the numbers below the next one are of other messages
before_step : (b from tag block next : ℕ) (out : Out) (outs : List Out) (i : ℕ) (x : Message) → i < next →
    sent_at b from tag block (next + 1) outs i x ≡ x →
    sent_at b from tag block next (out ∷ outs) i x ≡ x
before_step b from tag block next out outs i x l e = grind (arith, nat_tests)

pub sent_at-before : (b from tag block next : ℕ) (outs : List Out) (i : ℕ) (x : Message) → i < next →
    sent_at b from tag block next outs i x ≡ x
sent_at-before b from tag block next [] i x l = refl
sent_at-before b from tag block next (out ∷ outs) i x l =
    before_step b from tag block next out outs i x l (sent_at-before b from tag block (next + 1) outs i x (omega arith))

-- one more number in flight
weaker_step : (f : Flight) (n m : ℕ) → f.message.id < n → n ≤ m → f.message.id < m
weaker_step f n m l q = omega arith

pub below-weaker : (fs : List Flight) (n m : ℕ) → Below fs n → n ≤ m → Below fs m
below-weaker [] n m l q = tt
below-weaker (f ∷ fs) n m l q = (weaker_step f n m l.0 q, below-weaker fs n m l.1 q)

pub below-push : (fs : List Flight) (f : Flight) (n : ℕ) → Below fs n → f.message.id ≡ n → Below (fs ++ f ∷ []) (n + 1)
below-push [] f n l e = (omega arith, tt)
below-push (g ∷ fs) f n l e = (omega arith, below-push fs f n l.1 e)

below_either : (fs gs : List Flight) (n : ℕ) (lost : Bool) → Below fs n → Below gs n → Below (if lost then fs else gs) n
below_either fs gs n true l m = l
below_either fs gs n false l m = m

pub below-post : (routes : Switches) (net : Net) (m : Sent) → m.id ≡ net.next_id → Below net.flights net.next_id →
    Below (net_after_send routes net m).flights (net.next_id + 1)
below-post routes net m e l =
    below_either net.flights (net.flights ++ record { message = m; place = entry_of routes m } ∷ []) (net.next_id + 1)
    (is_lost routes net m)
    (below-weaker net.flights net.next_id (net.next_id + 1) l (omega arith))
    (below-push net.flights (record { message = m; place = entry_of routes m }) net.next_id l e)

-- messages in order, and those of them that are lost at once
among_either : (lost : Bool) (id i : ℕ) (ids : List ℕ) →
    is_among (if lost then id ∷ ids else ids) i ≡ (((i == id) && lost) || is_among ids i)
among_either true id i ids = grind arith
among_either false id i ids = grind arith

posted_step : (lost seen among : Bool) (i next : ℕ) (m x rest rest_seen : Message) → (i < next + 1 → rest ≡ x) →
    (i < next + 1 → rest_seen ≡ cond ((i == next) && (seen && not lost)) m x) → (i ≡ next → x ≡ no_message) →
    (next < i → rest_seen ≡ rest) →
    cond among no_message rest_seen ≡ cond (((i == next) && lost) || among) no_message (cond ((i == next) && seen) m rest)
posted_step lost seen among i next m x rest rest_seen e d g h = grind (arith, nat_tests)

pub seen-posted : (routes : Switches) (net : Net) (from tag block : ℕ) (outs : List Out) (b i : ℕ) → Below net.flights net.next_id →
    net_seen b (net_after_sends routes net from tag block outs).flights i
    ≡ cond (is_among (lost_at_once (sent_by routes net from tag block outs)) i) no_message
    (sent_at b from tag block net.next_id outs i (net_seen b net.flights i))
seen-posted routes net from tag block [] b i l = refl
seen-posted routes net from tag block (out ∷ outs) b i l =
    seen-posted routes next_net from tag block outs b i (below-post routes net m refl l)
    ∙ (posted_step (is_lost routes net m) (is_seen b m) (is_among later i) i net.next_id (message_seen m m.body) (net_seen b net.flights i)
    (sent_at b from tag block (net.next_id + 1) outs i (net_seen b net.flights i))
    (sent_at b from tag block (net.next_id + 1) outs i (net_seen b next_net.flights i))
    (λ q. sent_at-before b from tag block (net.next_id + 1) outs i (net_seen b net.flights i) q)
    (λ q. sent_at-before b from tag block (net.next_id + 1) outs i (net_seen b next_net.flights i) q ∙ seen-post routes net m b i refl l)
    (λ q. seen-fresh net.flights net.next_id b i l (omega arith))
    (λ q. ap (sent_at b from tag block (net.next_id + 1) outs i)
    (seen-post routes net m b i refl l ∙ other (i == net.next_id) (grind (arith, nat_tests))))
    ∙ sym (ap (λ t. cond t no_message (sent_at b from tag block net.next_id (out ∷ outs) i (net_seen b net.flights i)))
    (among_either (is_lost routes net m) net.next_id i later)))
  where
    m : Sent
    m = message_of net from tag block out

    next_net : Net
    next_net = net_after_send routes net m

    later : List ℕ
    later = lost_at_once (sent_by routes next_net from tag block outs)

    other : (t : Bool) → t ≡ false →
        cond (t && (is_seen b m && not (is_lost routes net m))) (message_seen m m.body) (net_seen b net.flights i)
        ≡ net_seen b net.flights i
    other t e = grind arith

-- a loss takes the messages out of the net, and nothing else
losing_step : (c : Block) (id : ℕ) (ids : List ℕ) (i : ℕ) →
    (losing (lose c id) ids).net i ≡ cond (is_among ids i) no_message ((lose c id).net i) →
    (losing (lose c id) ids).net i ≡ cond ((i == id) || is_among ids i) no_message (c.net i)
losing_step c id ids i e = grind (arith, nat_tests)

pub losing-net : (c : Block) (ids : List ℕ) (i : ℕ) → (losing c ids).net i ≡ cond (is_among ids i) no_message (c.net i)
losing-net c [] i = refl
losing-net c (id ∷ ids) i = losing_step c id ids i (losing-net (lose c id) ids i)

-- so a block is losing where it is the same but for the net
pub losing_as : (c : Block) (ids : List ℕ) → losing c ids ≡ record c { net = λ i. cond (is_among ids i) no_message (c.net i) }
losing_as c [] = refl
losing_as c (id ∷ ids) = losing_as (lose c id) ids ∙ ap (λ (f : ℕ → Message). record c { net = f }) (fun_ext one)
  where
    one : (i : ℕ) → cond (is_among ids i) no_message (cond (i == id) no_message (c.net i)) ≡ cond ((i == id) || is_among ids i) no_message (c.net i)
    one i = grind arith

-- without a message, and then some messages in order
pub seen-sends : (routes : Switches) (net : Net) (id from tag block : ℕ) (outs : List Out) (b i : ℕ) → Below net.flights net.next_id →
    net_seen b (net_after_sends routes (without_flight net id) from tag block outs).flights i
    ≡ cond (is_among (lost_at_once (sent_by routes (without_flight net id) from tag block outs)) i) no_message
    (sent_at b from tag block net.next_id outs i (cond (i == id) no_message (net_seen b net.flights i)))
seen-sends routes net id from tag block outs b i l =
    seen-posted routes (without_flight net id) from tag block outs b i (below-without net.flights id net.next_id l)
    ∙ ap (λ x. cond (is_among (lost_at_once (sent_by routes (without_flight net id) from tag block outs)) i) no_message
    (sent_at b from tag block net.next_id outs i x)) (seen-without net.flights id b i)

-- the invalidations
target_cons : (n : ℕ) (ns : List ℕ) (k : ℕ) → get_or (n ∷ ns) k 0 ≡ cond (k == 0) n (get_or ns (k - 1) 0)
target_cons n ns zero = refl
target_cons n ns (suc k) = grind (arith, nat_tests)

inv_step : (from tag block next node r i : ℕ) (ts : List ℕ) (x rest : Message) →
    rest ≡ cond (nat_le (next + 1) i && nat_lt i (next + 1 + length ts)) (forward SeenInv from (get_or ts (i - (next + 1)) 0) tag r 0) x →
    cond ((i == next) && nat_eq block block) (forward SeenInv from node tag r 0) rest
    ≡ cond (nat_le next i && nat_lt i (next + length (node ∷ ts))) (forward SeenInv from (get_or (node ∷ ts) (i - next) 0) tag r 0) x
inv_step from tag block next node r i ts x rest e = grind (arith, nat_tests, target_cons)

no_inv : (from tag next r i : ℕ) (x : Message) →
    x ≡ cond (nat_le next i && nat_lt i (next + 0)) (forward SeenInv from (get_or [] (i - next) 0) tag r 0) x
no_inv from tag next r i x = grind (arith, nat_tests)

pub sent_at-invalidations : (from tag block next node : ℕ) (marks : List Bool) (r i : ℕ) (x : Message) →
    sent_at block from tag block next (invalidations node marks r) i x
    ≡ cond (nat_le next i && nat_lt i (next + length (targets node marks)))
    (forward SeenInv from (get_or (targets node marks) (i - next) 0) tag r 0) x
sent_at-invalidations from tag block next node [] r i x = no_inv from tag next r i x
sent_at-invalidations from tag block next node (true ∷ marks) r i x =
    inv_step from tag block next node r i (targets (node + 1) marks) x
    (sent_at block from tag block (next + 1) (invalidations (node + 1) marks r) i x)
    (sent_at-invalidations from tag block (next + 1) (node + 1) marks r i x)
sent_at-invalidations from tag block next node (false ∷ marks) r i x = sent_at-invalidations from tag block next (node + 1) marks r i x

-- how many they are
more_step : (c d e : ℕ) → c ≡ d → e ≡ 1 + d → suc c ≡ e
more_step c d e h g = omega arith

same_step : (c d e : ℕ) → c ≡ d → e ≡ 0 + d → c ≡ e
same_step c d e h g = omega arith

pub length-targets : (at : ℕ) (marks : List Bool) → length (targets at marks) ≡ count_by (λ mark. mark) marks
length-targets at [] = refl
length-targets at (true ∷ marks) =
    more_step (length (targets (at + 1) marks)) (count_by (λ mark. mark) marks) (count_by (λ mark. mark) (true ∷ marks))
    (length-targets (at + 1) marks) (sum_by-cons (λ mark. cond mark 1 0) true marks)
length-targets at (false ∷ marks) =
    same_step (length (targets (at + 1) marks)) (count_by (λ mark. mark) marks) (count_by (λ mark. mark) (false ∷ marks))
    (length-targets (at + 1) marks) (sum_by-cons (λ mark. cond mark 1 0) false marks)

-- they are the places of marks, all different
mark_cons : (x : Bool) (xs : List Bool) (k : ℕ) → get_or (x ∷ xs) k false ≡ cond (k == 0) x (get_or xs (k - 1) false)
mark_cons x xs zero = refl
mark_cons x xs (suc k) = grind (arith, nat_tests)

record IsTarget (at : ℕ) (marks : List Bool) (t : ℕ) : Type 0 where
  from : at ≤ t
  passes : get_or marks (t - at) false ≡ true

one_step : (at : ℕ) (mark : Bool) (marks : List Bool) (t : ℕ) → IsTarget (at + 1) marks t → IsTarget at (mark ∷ marks) t
one_step at mark marks t h = grind (arith, nat_tests, mark_cons)

target_step : (at : ℕ) (marks : List Bool) (k : ℕ) →
    ((j : ℕ) → j < length (targets (at + 1) marks) → IsTarget (at + 1) marks (get_or (targets (at + 1) marks) j 0)) →
    k < length (at ∷ targets (at + 1) marks) → IsTarget at (true ∷ marks) (get_or (at ∷ targets (at + 1) marks) k 0)
target_step at marks zero h l = grind (arith, nat_tests, mark_cons)
target_step at marks (suc k) h l = one_step at true marks (get_or (targets (at + 1) marks) k 0) (h k (omega arith))

is_target : (at : ℕ) (marks : List Bool) (k : ℕ) → k < length (targets at marks) → IsTarget at marks (get_or (targets at marks) k 0)
is_target at [] k l = absurd (omega arith)
is_target at (true ∷ marks) k l = target_step at marks k (is_target (at + 1) marks) l
is_target at (false ∷ marks) k l = one_step at false marks (get_or (targets (at + 1) marks) k 0) (is_target (at + 1) marks k l)

apart_step : (at : ℕ) (ts : List ℕ) (k l : ℕ) → ((j : ℕ) → j < length ts → at + 1 ≤ get_or ts j 0) →
    ((i j : ℕ) → i < length ts → j < length ts → get_or ts i 0 ≡ get_or ts j 0 → i ≡ j) →
    k < length (at ∷ ts) → l < length (at ∷ ts) → get_or (at ∷ ts) k 0 ≡ get_or (at ∷ ts) l 0 → k ≡ l
apart_step at ts k l t h m n e = grind (arith, nat_tests, target_cons, t (k - 1), t (l - 1), h (k - 1) (l - 1))

apart : (at : ℕ) (marks : List Bool) (k l : ℕ) → k < length (targets at marks) → l < length (targets at marks) →
    get_or (targets at marks) k 0 ≡ get_or (targets at marks) l 0 → k ≡ l
apart at [] k l m n e = absurd (omega arith)
apart at (true ∷ marks) k l m n e =
    apart_step at (targets (at + 1) marks) k l (λ j q. (is_target (at + 1) marks j q).from) (apart (at + 1) marks) m n e
apart at (false ∷ marks) k l m n e = apart (at + 1) marks k l m n e

-- as many as pass among N nodes, where none is marked from N on
count_first : (n : ℕ) (f : ℕ → Bool) → count (suc n) f ≡ cond (f 0) 1 0 + count n (λ k. f (suc k))
unfolding count
count_first zero f = refl
count_first (suc n) f = first_step (cond (f (suc n)) 1 0) (cond (f 0) 1 0) (count n f) (count n (λ k. f (suc k))) (count_first n f)
  where
    first_step : (a b c d : ℕ) → cond (f n) 1 0 + c ≡ b + d → a + (cond (f n) 1 0 + c) ≡ b + (a + d)
    first_step a b c d e = omega arith

pub count-marks : (N : ℕ) (marks : List Bool) → ((n : ℕ) → N ≤ n → get_or marks n false ≡ false) →
    count N (λ n. get_or marks n false) ≡ count_by (λ mark. mark) marks
unfolding count
count-marks N [] h = ap (count N) (fun_ext (λ n. past n)) ∙ no_count N
  where
    past : (n : ℕ) → get_or [] n false ≡ false
    past n = grind arith
count-marks zero (mark ∷ marks) h =
    none_step (count 0 (λ n. get_or (mark ∷ marks) n false)) (count 0 (λ n. get_or marks n false)) (count_by (λ mark. mark) (mark ∷ marks))
    (count_by (λ mark. mark) marks) mark (h 0 (omega arith)) (none (λ n. get_or (mark ∷ marks) n false)) (none (λ n. get_or marks n false))
    (count-marks zero marks (λ n l. h (suc n) (omega arith))) (sum_by-cons (λ mark. cond mark 1 0) mark marks)
  where
    none : (f : ℕ → Bool) → count 0 f ≡ 0
    none f = refl

    none_step : (a b c d : ℕ) (mark : Bool) → mark ≡ false → a ≡ 0 → b ≡ 0 → b ≡ d → c ≡ cond mark 1 0 + d → a ≡ c
    none_step a b c d mark e x y g i = grind (arith, nat_tests)
count-marks (suc N) (mark ∷ marks) h =
    count_first N (λ n. get_or (mark ∷ marks) n false)
    ∙ (ap (λ c. cond mark 1 0 + c) (count-marks N marks (λ n l. h (suc n) (omega arith)))
    ∙ sym (sum_by-cons (λ mark. cond mark 1 0) mark marks))

-- what a row that invalidates asks for
pub listed : (N : ℕ) (f : ℕ → Bool) (marks : List Bool) → ((n : ℕ) → f n ≡ slice_index_or marks n false) →
    ((n : ℕ) → N ≤ n → slice_index_or marks n false ≡ false) →
    Lists N f (λ k. slice_index_or (targets 0 marks) k 0) (count_by (λ mark. mark) marks)
listed N f marks e h = record {
  passes = λ k l. e (get_or (targets 0 marks) k 0) ∙ passing k (low k l);
  apart = λ k l m n. apart 0 marks k l (low k m) (low l n);
  all = ap (count N) (fun_ext e) ∙ count-marks N marks h;
}
  where
    low : (k : ℕ) → k < count_by (λ mark. mark) marks → k < length (targets 0 marks)
    low k l = rw length-targets l

    passing : (k : ℕ) → k < length (targets 0 marks) → get_or marks (get_or (targets 0 marks) k 0) false ≡ true
    passing k l = let h = is_target 0 marks k l in grind (arith, h.passes)

-- the numbers that are taken
next_step : (next n a : ℕ) → a ≡ next + 1 + n → a ≡ next + suc n
next_step next n a e = omega arith

pub next-posted : (routes : Switches) (net : Net) (from tag block : ℕ) (outs : List Out) →
    (net_after_sends routes net from tag block outs).next_id ≡ net.next_id + length outs
next-posted routes net from tag block [] = omega arith
next-posted routes net from tag block (out ∷ outs) =
    next_step net.next_id (length outs) (net_after_sends routes (net_after_send routes net (message_of net from tag block out)) from tag block outs).next_id
    (next-posted routes (net_after_send routes net (message_of net from tag block out)) from tag block outs)

pub length-invalidations : (at : ℕ) (marks : List Bool) (r : ℕ) → length (invalidations at marks r) ≡ length (targets at marks)
length-invalidations at [] r = refl
length-invalidations at (true ∷ marks) r = ap suc (length-invalidations (at + 1) marks r)
length-invalidations at (false ∷ marks) r = length-invalidations (at + 1) marks r

pub next-invalidates : (routes : Switches) (net : Net) (id from tag block : ℕ) (first : Out) (marks : List Bool) (r : ℕ) →
    (net_after_sends routes (without_flight net id) from tag block (first ∷ invalidations 0 marks r)).next_id
    ≡ net.next_id + (1 + count_by (λ mark. mark) marks)
next-invalidates routes net id from tag block first marks r =
    counted net.next_id (length (invalidations 0 marks r)) (length (targets 0 marks)) (count_by (λ mark. mark) marks)
    (net_after_sends routes (without_flight net id) from tag block (first ∷ invalidations 0 marks r)).next_id
    (next-posted routes (without_flight net id) from tag block (first ∷ invalidations 0 marks r)) (length-invalidations 0 marks r)
    (length-targets 0 marks)
  where
    counted : (next a b c n : ℕ) → n ≡ next + suc a → a ≡ b → b ≡ c → n ≡ next + (1 + c)
    counted next a b c n e g h = omega arith

-- a message and then an Inv to each marked node, seen by their block
invalidates_step : (seen : Bool) (i id next len due : ℕ) (old msg inv : Message) → seen ≡ true → len ≡ due → (next ≤ i → old ≡ no_message) →
    cond ((i == next) && seen) msg (cond (nat_le (next + 1) i && nat_lt i (next + 1 + len)) inv (cond (i == id) no_message old))
    ≡ cond (nat_lt i next) (cond (i == id) no_message old) (cond (i == next) msg (cond (nat_le i (next + due)) inv no_message))
invalidates_step seen i id next len due old msg inv s e f = grind (arith, nat_tests)

seen_own : (all : Bool) (block : ℕ) → (all || nat_eq block block) ≡ true
seen_own all block = grind (arith, nat_tests)

pub sent_at-invalidates : (net : Net) (id from tag block : ℕ) (first : Out) (marks : List Bool) (r i : ℕ) → Below net.flights net.next_id →
    sent_at block from tag block net.next_id (first ∷ invalidations 0 marks r) i (cond (i == id) no_message (net_seen block net.flights i))
    ≡ cond (nat_lt i net.next_id) (cond (i == id) no_message (net_seen block net.flights i))
    (cond (i == net.next_id) (message_seen (message_with_number net.next_id from tag block first) first.body)
    (cond (nat_le i (net.next_id + count_by (λ mark. mark) marks))
    (forward SeenInv from (slice_index_or (targets 0 marks) (i - (net.next_id + 1)) 0) tag r 0) no_message))
sent_at-invalidates net id from tag block first marks r i l =
    ap (cond ((i == net.next_id) && is_seen block (message_with_number net.next_id from tag block first))
    (message_seen (message_with_number net.next_id from tag block first) first.body))
    (sent_at-invalidations from tag block (net.next_id + 1) 0 marks r i (cond (i == id) no_message (net_seen block net.flights i)))
    ∙ invalidates_step (is_seen block (message_with_number net.next_id from tag block first)) i id net.next_id (length (targets 0 marks))
    (count_by (λ mark. mark) marks) (net_seen block net.flights i)
    (message_seen (message_with_number net.next_id from tag block first) first.body)
    (forward SeenInv from (slice_index_or (targets 0 marks) (i - (net.next_id + 1)) 0) tag r 0)
    (seen_own _ block) (length-targets 0 marks) (λ q. seen-fresh net.flights net.next_id block i l q)

-- it is the block's row, with the losses of those lost at once; `b` is the block before it, `row` the block that the row leaves
pub seen-invalidates : (routes : Switches) (net : Net) (id from tag block : ℕ) (first : Out) (marks : List Bool) (r i : ℕ) (b row : Block)
    (msg : Message) → Below net.flights net.next_id →
    b.next ≡ net.next_id → b.home ≡ from → b.now b.home ≡ tag → (b.net id).from ≡ r → ((j : ℕ) → b.net j ≡ net_seen block net.flights j) →
    message_seen (message_with_number net.next_id from tag block first) first.body ≡ msg →
    row.net i ≡ invalidates b id msg (λ k. slice_index_or (targets 0 marks) k 0) (count_by (λ mark. mark) marks) i →
    net_seen block (net_after_sends routes (without_flight net id) from tag block (first ∷ invalidations 0 marks r)).flights i
    ≡ (losing row (lost_at_once (sent_by routes (without_flight net id) from tag block (first ∷ invalidations 0 marks r)))).net i
seen-invalidates routes net id from tag block first marks r i b row msg l next home now sender nets first_is row_is =
    seen-sends routes net id from tag block (first ∷ invalidations 0 marks r) block i l
    ∙ (ap (cond (is_among ids i) no_message) (sent_at-invalidates net id from tag block first marks r i l ∙ (same ∙ sym row_is))
    ∙ sym (losing-net row ids i))
  where
    ids : List ℕ
    ids = lost_at_once (sent_by routes (without_flight net id) from tag block (first ∷ invalidations 0 marks r))

    same : cond (nat_lt i net.next_id) (cond (i == id) no_message (net_seen block net.flights i))
        (cond (i == net.next_id) (message_seen (message_with_number net.next_id from tag block first) first.body)
        (cond (nat_le i (net.next_id + count_by (λ mark. mark) marks))
        (forward SeenInv from (slice_index_or (targets 0 marks) (i - (net.next_id + 1)) 0) tag r 0) no_message))
        ≡ invalidates b id msg (λ k. slice_index_or (targets 0 marks) k 0) (count_by (λ mark. mark) marks) i
    same = rw next (rw (nets i) (rw now (rw home (rw sender (rw first_is refl)))))

pub none-invalidations : (at : ℕ) (marks : List Bool) (r : ℕ) → NoneForAll (invalidations at marks r)
none-invalidations at [] r = tt
none-invalidations at (true ∷ marks) r = (refl, none-invalidations (at + 1) marks r)
none-invalidations at (false ∷ marks) r = none-invalidations (at + 1) marks r

-- a block is the same as one that loses messages, where it is the same as that one without them
pub lost_same : (a c : Block) (ids : List ℕ) → IsSame a (record c { net = λ i. cond (is_among ids i) no_message (c.net i) }) →
    IsSame a (losing c ids)
lost_same a c ids h = subst (IsSame a) (sym (losing_as c ids)) h
