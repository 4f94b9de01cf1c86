-- Messages that are sent one after another.
use Rattle.std.proofs.Common.{◌≡◌, ℕ, zero, suc, ◌+◌, List, [], ◌∷◌, ◌++◌, length, refl, sym, ap, ◌∙◌, arith, add-zero, add-one}
use Rattle.std.proofs.Common.{append_assoc}
use Rattle.route_plan.specs.Distances.{Switches}
use Rattle.sn_msg.specs.declared.Body.TheVariants.{Advance}
use Rattle.sn_model.specs.declared.cache.Out.{Out}
use Rattle.sn_model.specs.declared.net.Sent.{Sent}
use Rattle.sn_model.specs.CacheRows.{send}
use Rattle.sn_model.specs.Fabric.{Net, Node}
use Rattle.sn_model.specs.Net.{net_after_send, net_after_sends, sent_by, message_of, is_lost}
use Rattle.sn_model.specs.PointEvents.{advances}
use Rattle.sn_fabric.specs.Points.{tellings}

pub posted-last : (routes : Switches) (net : Net) (from tag block : ℕ) (outs : List Out) (out : Out) →
    net_after_sends routes net from tag block (outs ++ out ∷ []) ≡ net_after_sends routes (net_after_sends routes net from tag block outs) from tag block (out ∷ [])
posted-last routes net from tag block [] out = refl
posted-last routes net from tag block (o ∷ outs) out =
    posted-last routes (net_after_send routes net (message_of net from tag block o)) from tag block outs out

pub sent-last : (routes : Switches) (net : Net) (from tag block : ℕ) (outs : List Out) (out : Out) →
    sent_by routes net from tag block (outs ++ out ∷ []) ≡ sent_by routes net from tag block outs
    ++ sent_by routes (net_after_sends routes net from tag block outs) from tag block (out ∷ [])
sent-last routes net from tag block [] out = refl
sent-last routes net from tag block (o ∷ outs) out =
    ap (λ (xs : List Sent).
    record { message = message_of net from tag block o; lost = is_lost routes net (message_of net from tag block o) } ∷ xs)
    (sent-last routes (net_after_send routes net (message_of net from tag block o)) from tag block outs out)

-- what is told to the nodes from one on
told_from : ℕ → ℕ → ℕ → List Out
told_from k to zero = []
told_from k to (suc n) = send to (Advance k) ∷ told_from k (to + 1) n

told_last : (k to n : ℕ) → told_from k to n ++ send (to + n) (Advance k) ∷ [] ≡ told_from k to (suc n)
unfolding told_from
told_last k to zero = ap (λ (j : ℕ). send j (Advance k) ∷ []) (add-zero to)
told_last k to (suc n) =
    let e : to + suc n ≡ to + 1 + n = omega arith in
    ap (λ (xs : List Out). send to (Advance k) ∷ xs)
    (ap (λ (j : ℕ). told_from k (to + 1) n ++ send j (Advance k) ∷ []) e ∙ told_last k (to + 1) n)

told_all : (k to : ℕ) (nodes : List Node) → advances k to nodes ≡ told_from k to (length nodes)
unfolding told_from
told_all k to [] = refl
told_all k to (node ∷ nodes) = ap (λ (xs : List Out). send to (Advance k) ∷ xs) (told_all k (to + 1) nodes)

told_first : (k n : ℕ) → tellings k n ≡ told_from k 0 n
unfolding told_from
told_first k zero = refl
told_first k (suc n) =
    let e : n ≡ 0 + n = omega arith in
    ap (λ (xs : List Out). xs ++ send n (Advance k) ∷ []) (told_first k n) ∙ ap (λ (j : ℕ). told_from k 0 n ++ send j (Advance k) ∷ []) e
    ∙ told_last k 0 n

-- each node is told, in order
pub tellings-are : (k : ℕ) (nodes : List Node) → tellings k (length nodes) ≡ advances k 0 nodes
tellings-are k nodes = told_first k (length nodes) ∙ sym (told_all k 0 nodes)

-- one node more is told

tellings-more : (k n : ℕ) → tellings k (n + 1) ≡ tellings k n ++ send n (Advance k) ∷ []
tellings-more k n = rw add-one refl

one_more : (routes others : Switches) (before net : Net) (from tag block k n : ℕ) (out : Out) → others ≡ routes →
    net ≡ net_after_sends routes before 0 tag 0 (tellings k n) → from ≡ 0 → block ≡ 0 → out ≡ send n (Advance k) →
    net_after_sends others net from tag block (out ∷ []) ≡ net_after_sends routes before 0 tag 0 (tellings k (n + 1))
one_more routes others before net from tag block k n out er en ef eb eo =
    ap (λ (r : Switches). net_after_sends r net from tag block (out ∷ [])) er
    ∙ ap (λ (x : Net). net_after_sends routes x from tag block (out ∷ [])) en
    ∙ ap (λ (j : ℕ). net_after_sends routes (net_after_sends routes before 0 tag 0 (tellings k n)) j tag block (out ∷ [])) ef
    ∙ ap (λ (j : ℕ). net_after_sends routes (net_after_sends routes before 0 tag 0 (tellings k n)) 0 tag j (out ∷ [])) eb
    ∙ ap (λ (o : Out). net_after_sends routes (net_after_sends routes before 0 tag 0 (tellings k n)) 0 tag 0 (o ∷ [])) eo
    ∙ sym (posted-last routes before 0 tag 0 (tellings k n) (send n (Advance k)))
    ∙ ap (net_after_sends routes before 0 tag 0) (sym (tellings-more k n))

pub tell-net : (routes others : Switches) (before net after : Net) (from tag block k n : ℕ) (out : Out) → others ≡ routes →
    net ≡ net_after_sends routes before 0 tag 0 (tellings k n) → from ≡ 0 → block ≡ 0 → out ≡ send n (Advance k) →
    after ≡ net_after_sends others net from tag block (out ∷ []) → after ≡ net_after_sends routes before 0 tag 0 (tellings k (n + 1))
tell-net routes others before net after from tag block k n out er en ef eb eo ea =
    ea ∙ one_more routes others before net from tag block k n out er en ef eb eo

pub tell-sent : (routes others : Switches) (before net : Net) (olds sents after : List Sent) (from tag block k n : ℕ) (out : Out) →
    others ≡ routes → net ≡ net_after_sends routes before 0 tag 0 (tellings k n) → from ≡ 0 → block ≡ 0 →
    out ≡ send n (Advance k) → sents ≡ olds ++ sent_by routes before 0 tag 0 (tellings k n) →
    after ≡ sents ++ sent_by others net from tag block (out ∷ []) → after ≡ olds ++ sent_by routes before 0 tag 0 (tellings k (n + 1))
tell-sent routes others before net olds sents after from tag block k n out er en ef eb eo es ea =
    ea
    ∙ ap (λ (xs : List Sent). xs ++ sent_by others net from tag block (out ∷ [])) es
    ∙ append_assoc olds (sent_by routes before 0 tag 0 (tellings k n)) (sent_by others net from tag block (out ∷ []))
    ∙ ap (λ (xs : List Sent). olds ++ (sent_by routes before 0 tag 0 (tellings k n) ++ xs))
    (ap (λ (r : Switches). sent_by r net from tag block (out ∷ [])) er
    ∙ ap (λ (x : Net). sent_by routes x from tag block (out ∷ [])) en
    ∙ ap (λ (j : ℕ). sent_by routes (net_after_sends routes before 0 tag 0 (tellings k n)) j tag block (out ∷ [])) ef
    ∙ ap (λ (j : ℕ). sent_by routes (net_after_sends routes before 0 tag 0 (tellings k n)) 0 tag j (out ∷ [])) eb
    ∙ ap (λ (o : Out). sent_by routes (net_after_sends routes before 0 tag 0 (tellings k n)) 0 tag 0 (o ∷ [])) eo)
    ∙ ap (λ (xs : List Sent). olds ++ xs)
    (sym (sent-last routes before 0 tag 0 (tellings k n) (send n (Advance k)))
    ∙ ap (sent_by routes before 0 tag 0) (sym (tellings-more k n)))
