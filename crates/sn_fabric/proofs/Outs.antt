-- What is sent of a step, message by message.
use Rattle.std.proofs.Common.{◌≡◌, ℕ, zero, suc, ◌+◌, ◌<◌, ◌≤◌, Bool, true, false, List, [], ◌∷◌, ◌++◌, length, get_or, Option, Some, None}
use Rattle.std.proofs.Common.{refl, sym, ap, ◌∙◌, subst, arith, append_assoc, length-append, add-one, add-zero, ⊎_elim}
use Rattle.std.proofs.lemmas.Bool.{cases_lt}
use Rattle.std.specs.Prelude.{if◌then◌else◌, nat_eq}
use Rattle.route_plan.specs.Distances.{Switches}
use Rattle.sn_msg.specs.declared.Body.TheVariants.{Inv}
use Rattle.sn_model.specs.declared.cache.Out.{Out}
use Rattle.sn_model.specs.declared.net.Sent.{Sent}
use Rattle.sn_model.specs.declared.cache.LineState.TheVariants.{Shared, Modified, Exclusive}
use Rattle.sn_model.specs.declared.rows.CacheRow.{CacheRow}
use Rattle.sn_model.specs.declared.rows.CacheRow.TheVariants as row
use Rattle.sn_model.specs.Caches.{Miss, with_line}
use Rattle.sn_model.specs.CacheRows.{Logged, send, reply_or_wait, reply_or_wait_by, reply_when_complete, reply_that_waits, fixed_at}
use Rattle.sn_model.specs.CacheRows.{miss_with_ack, taken_over, cache_reply}
use Rattle.sn_model.specs.HomeRows.{invalidations}
use Rattle.sn_model.specs.Fabric.{Net}
use Rattle.sn_model.specs.Net.{net_after_send, net_after_sends, sent_by, message_of, is_lost}
use Rattle.home_directory.specs.declared.step.HomeStep.{HomeStep}
use Rattle.home_directory.specs.declared.step.HomeStep.TheVariants as home
use Rattle.home_directory.specs.Receipt as receipt
use Rattle.home_directory.specs.Receipt.{sends_of}
use Rattle.mosi_cache.specs.Rows.{first_of}
use Rattle.sn_fabric.specs.Deliveries.{outs_of, invalidation, invalidations_below, home_outs, GoTo}

-- two lists that are sent one after the other

pub posted-append : (routes : Switches) (net : Net) (from tag block : ℕ) (outs others : List Out) →
    net_after_sends routes net from tag block (outs ++ others) ≡ net_after_sends routes (net_after_sends routes net from tag block outs) from tag block others
posted-append routes net from tag block [] others = refl
posted-append routes net from tag block (out ∷ outs) others =
    posted-append routes (net_after_send routes net (message_of net from tag block out)) from tag block outs others

pub sent-append : (routes : Switches) (net : Net) (from tag block : ℕ) (outs others : List Out) →
    sent_by routes net from tag block (outs ++ others) ≡ sent_by routes net from tag block outs
    ++ sent_by routes (net_after_sends routes net from tag block outs) from tag block others
sent-append routes net from tag block [] others = refl
sent-append routes net from tag block (out ∷ outs) others =
    ap (λ (xs : List Sent).
    record { message = message_of net from tag block out; lost = is_lost routes net (message_of net from tag block out) } ∷ xs)
    (sent-append routes (net_after_send routes net (message_of net from tag block out)) from tag block outs others)

-- what is sent first and then, over networks with the same routes
pub then-net : (routes others : Switches) (before net after : Net) (from tag block : ℕ) (outs more : List Out) → others ≡ routes →
    net ≡ net_after_sends routes before from tag block outs → after ≡ net_after_sends others net from tag block more →
    after ≡ net_after_sends routes before from tag block (outs ++ more)
then-net routes others before net after from tag block outs more er en ea =
    ea ∙ ap (λ (r : Switches). net_after_sends r net from tag block more) er ∙ ap (λ (x : Net). net_after_sends routes x from tag block more) en
    ∙ sym (posted-append routes before from tag block outs more)

pub then-sent : (routes others : Switches) (before net : Net) (olds sents after : List Sent) (from tag block : ℕ) (outs more : List Out) →
    others ≡ routes → net ≡ net_after_sends routes before from tag block outs →
    sents ≡ olds ++ sent_by routes before from tag block outs → after ≡ sents ++ sent_by others net from tag block more →
    after ≡ olds ++ sent_by routes before from tag block (outs ++ more)
then-sent routes others before net olds sents after from tag block outs more er en es ea =
    ea
    ∙ ap (λ (xs : List Sent). xs ++ sent_by others net from tag block more) es
    ∙ append_assoc olds (sent_by routes before from tag block outs) (sent_by others net from tag block more)
    ∙ ap (λ (xs : List Sent). olds ++ (sent_by routes before from tag block outs ++ xs))
    (ap (λ (r : Switches). sent_by r net from tag block more) er ∙ ap (λ (x : Net). sent_by routes x from tag block more) en)
    ∙ ap (λ (xs : List Sent). olds ++ xs) (sym (sent-append routes before from tag block outs more))

pub goes-left : (outs others : List Out) (nodes : ℕ) → GoTo (outs ++ others) nodes → GoTo outs nodes
goes-left [] others nodes g = tt
goes-left (out ∷ outs) others nodes g = (g.0, goes-left outs others nodes g.1)

pub goes-right : (outs others : List Out) (nodes : ℕ) → GoTo (outs ++ others) nodes → GoTo others nodes
goes-right [] others nodes g = g
goes-right (out ∷ outs) others nodes g = goes-right outs others nodes g.1

-- of the Invs to the first so many nodes, those up to one node

pub below-next : (set : List Bool) (r n : ℕ) →
    invalidations_below set r (n + 1) ≡ invalidations_below set r n ++ outs_of (invalidation set r n)
below-next set r n = rw add-one refl

pub below-goes : (set : List Bool) (r n m nodes : ℕ) → n < m → GoTo (invalidations_below set r m) nodes →
    GoTo (outs_of (invalidation set r n)) nodes
below-goes set r n zero nodes l g = absurd (omega arith)
below-goes set r n (suc m) nodes l g =
    ⊎_elim
    (λ (h : n < m). below-goes set r n m nodes h (goes-left (invalidations_below set r m) (outs_of (invalidation set r m)) nodes g))
    (λ (h : m ≤ n). let e : m ≡ n = omega arith in
    subst (λ (k : ℕ). GoTo (outs_of (invalidation set r k)) nodes) e
    (goes-right (invalidations_below set r m) (outs_of (invalidation set r m)) nodes g))
    (cases_lt n m)

pub below-fits : (set : List Bool) (r n m : ℕ) → n < m →
    length (invalidations_below set r n) + length (outs_of (invalidation set r n)) ≤ length (invalidations_below set r m)
below-fits set r n zero l = absurd (omega arith)
below-fits set r n (suc m) l =
    let k : length (invalidations_below set r m ++ outs_of (invalidation set r m))
    ≡ length (invalidations_below set r m) + length (outs_of (invalidation set r m)) = length-append (invalidations_below set r m)
    (outs_of (invalidation set r m)) in
    ⊎_elim
    (λ (h : n < m). let j : length (invalidations_below set r n) + length (outs_of (invalidation set r n)) ≤ length
    (invalidations_below set r m) = below-fits set r n m h in omega arith)
    (λ (h : m ≤ n). let e : m ≡ n = omega arith in
    subst (λ (i : ℕ). length (invalidations_below set r i) + length (outs_of (invalidation set r i)) ≤ length
    (invalidations_below set r m ++ outs_of (invalidation set r m))) e (omega arith))
    (cases_lt n m)

-- they are those of all marks, where none is for a node further on

none_further : (set : List Bool) (r at nodes : ℕ) → nodes ≤ at → GoTo (invalidations at set r) nodes → invalidations at set r ≡ []
none_further [] r at nodes l g = refl
none_further (true ∷ marks) r at nodes l g = let k : at < nodes = g.0 in absurd (omega arith)
none_further (false ∷ marks) r at nodes l g = none_further marks r (at + 1) nodes (omega arith) g

-- the Invs to so many nodes from one on, by marks that begin there
from_one : List Bool → ℕ → ℕ → ℕ → List Out
from_one marks r at zero = []
from_one marks r at (suc n) = from_one marks r at n ++ outs_of (if get_or marks n false then Some (send (at + n) (Inv r)) else None)

from_next : (mark : Bool) (marks : List Bool) (r at n : ℕ) →
    from_one (mark ∷ marks) r at (suc n) ≡ outs_of (if mark then Some (send at (Inv r)) else None) ++ from_one marks r (at + 1) n
unfolding from_one
from_next true marks r at zero = ap (λ (k : ℕ). send k (Inv r) ∷ []) (add-zero at)
from_next false marks r at zero = refl
from_next mark marks r at (suc n) =
    let e : at + suc n ≡ at + 1 + n = omega arith in
    ap (λ (xs : List Out). xs ++ outs_of (if get_or marks n false then Some (send (at + suc n) (Inv r)) else None))
    (from_next mark marks r at n)
    ∙ append_assoc (outs_of (if mark then Some (send at (Inv r)) else None)) (from_one marks r (at + 1) n)
    (outs_of (if get_or marks n false then Some (send (at + suc n) (Inv r)) else None))
    ∙ ap (λ (k : ℕ). outs_of (if mark then Some (send at (Inv r)) else None)
    ++ (from_one marks r (at + 1) n ++ outs_of (if get_or marks n false then Some (send k (Inv r)) else None))) e

from_none : (r at n : ℕ) → from_one [] r at n ≡ []
unfolding from_one
from_none r at zero = refl
from_none r at (suc n) = ap (λ (xs : List Out). xs ++ []) (from_none r at n)

from_all : (marks : List Bool) (r at n nodes : ℕ) → nodes ≤ at + n → GoTo (invalidations at marks r) nodes →
    from_one marks r at n ≡ invalidations at marks r
unfolding from_one
from_all [] r at n nodes l g = from_none r at n
from_all (mark ∷ marks) r at zero nodes l g = sym (none_further (mark ∷ marks) r at nodes (omega arith) g)
from_all (true ∷ marks) r at (suc n) nodes l g =
    from_next true marks r at n ∙ ap (λ (xs : List Out). send at (Inv r) ∷ xs) (from_all marks r (at + 1) n nodes (omega arith) g.1)
from_all (false ∷ marks) r at (suc n) nodes l g = from_next false marks r at n ∙ from_all marks r (at + 1) n nodes (omega arith) g

below_from : (set : List Bool) (r n : ℕ) → invalidations_below set r n ≡ from_one set r 0 n
unfolding from_one
below_from set r zero = refl
below_from set r (suc n) =
    let e : n ≡ 0 + n = omega arith in
    ap (λ (xs : List Out). xs ++ outs_of (invalidation set r n)) (below_from set r n)
    ∙ ap (λ (k : ℕ). from_one set r 0 n ++ outs_of (if get_or set n false then Some (send k (Inv r)) else None)) e

below_all : (set : List Bool) (r nodes : ℕ) → nodes ≤ 16 → GoTo (invalidations 0 set r) nodes →
    invalidations_below set r 16 ≡ invalidations 0 set r
below_all set r nodes few g = below_from set r 16 ∙ from_all set r 0 16 nodes (omega arith) g

-- what a home's step says is what its verdict says

home_sends : (first : Option Out) (set : List Bool) (r nodes : ℕ) → nodes ≤ 16 → GoTo (sends_of first set r) nodes →
    outs_of first ++ invalidations_below set r 16 ≡ sends_of first set r
home_sends None set r nodes few g = below_all set r nodes few g
home_sends (Some out) set r nodes few g = ap (λ (xs : List Out). out ∷ xs) (below_all set r nodes few g.1)

pub home-outs : (step : HomeStep) (sends : List Out) (nodes : ℕ) → nodes ≤ 16 → receipt.Sent step sends → GoTo sends nodes →
    home_outs step ≡ sends
home-outs (home.Took first set r) sends nodes few e g =
    home_sends first set r nodes few (subst (λ (xs : List Out). GoTo xs nodes) (sym e) g) ∙ e
home-outs home.HomeBusy sends nodes few e g = absurd e
home-outs home.LogFull sends nodes few e g = absurd e

-- a row of a cache sends one message at most

completed_or_waiting_one_by : (all : Bool) (at : Logged) (home : ℕ) (miss : Miss) (fixed : ℕ) →
    outs_of (first_of (if all then reply_when_complete at home miss fixed else reply_that_waits at miss).sends)
    ≡ (if all then reply_when_complete at home miss fixed else reply_that_waits at miss).sends
completed_or_waiting_one_by true at home miss fixed = refl
completed_or_waiting_one_by false at home miss fixed = refl

completed_or_waiting_by_one : (at : Logged) (home : ℕ) (miss : Miss) (fixed : Option ℕ) →
    outs_of (first_of (reply_or_wait_by at home miss fixed).sends) ≡ (reply_or_wait_by at home miss fixed).sends
completed_or_waiting_by_one at home miss None = refl
completed_or_waiting_by_one at home miss (Some fixed) = completed_or_waiting_one_by (nat_eq miss.acks miss.due) at home miss fixed

completed_or_waiting_one : (at : Logged) (home : ℕ) (miss : Option Miss) →
    outs_of (first_of (reply_or_wait at home miss).sends) ≡ (reply_or_wait at home miss).sends
completed_or_waiting_one at home None = refl
completed_or_waiting_one at home (Some miss) = completed_or_waiting_by_one at home miss miss.fixed

pub row-sent : (at : Logged) (home block now tag : ℕ) (taken : CacheRow) →
    outs_of (first_of (cache_reply at home block now tag taken).sends) ≡ (cache_reply at home block now tag taken).sends
row-sent at home block now tag (row.ForwardRead r) = refl
row-sent at home block now tag (row.ForwardWrite r due) = refl
row-sent at home block now tag (row.Invalidate r) = refl
row-sent at home block now tag (row.DataShared content) =
    completed_or_waiting_one (record { cache = with_line at.cache block Shared content; log = at.log }) home (fixed_at at.cache.miss tag 0)
row-sent at home block now tag (row.DataModified content due) =
    completed_or_waiting_one (taken_over at block tag Modified content) home (fixed_at at.cache.miss tag due)
row-sent at home block now tag (row.UpgradeGranted due) = completed_or_waiting_one at home (fixed_at at.cache.miss tag due)
row-sent at home block now tag row.Acknowledge = completed_or_waiting_one at home (miss_with_ack at.cache.miss)
row-sent at home block now tag row.PutGo = refl
row-sent at home block now tag row.PutDone = refl
row-sent at home block now tag (row.DataExclusive content) =
    completed_or_waiting_one (taken_over at block tag Exclusive content) home (fixed_at at.cache.miss tag 0)
