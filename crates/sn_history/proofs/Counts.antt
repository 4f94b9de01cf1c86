-- How many bytes of input a node has taken, as records are committed and dropped.
use Rattle.std.proofs.Common.{◌≡◌, ℕ, zero, suc, ◌+◌, ◌<◌, Bool, true, false, ◌&&◌, cond, List, [], ◌∷◌, ◌++◌, length, get_or, drop}
use Rattle.std.proofs.Common.{drop-cons, refl, sym, ap, ◌∙◌, arith}
use Rattle.std.specs.Prelude.{nat_le, nat_eq, nat_lt, is_some}
use Rattle.std.specs.List.{filter}
use Rattle.std.proofs.lemmas.List.Sums.{sum_by-append}
use Rattle.std.proofs.lemmas.Bool.Decides.{nat_tests}
use Rattle.interval_list.specs.declared.Waiting.{Waiting}
use Rattle.interval_list.specs.WaitingList.{entries_in, entries_below, waiting_from}
use Rattle.sn_history.specs.History.{Record, pending_records, reads_of}

pub reads-append : (n : ℕ) (xs ys : List Record) → reads_of n (xs ++ ys) ≡ reads_of n xs + reads_of n ys
reads-append n xs ys = sum_by-append (λ (r : Record). cond (nat_eq r.core n && is_some r.read) 1 0) xs ys

-- what one record counts
abbrev pub one_read : ℕ → Record → ℕ
one_read n r = reads_of n (r ∷ [])

in_step : (t : Bool) (n : ℕ) (p : Waiting Record) (ps : List (Waiting Record)) →
    reads_of n (pending_records (cond t (p ∷ ps) ps)) ≡ cond t (one_read n p.entry) 0 + reads_of n (pending_records ps)
in_step true n p ps = reads-append n (p.entry ∷ []) (pending_records ps)
in_step false n p ps = omega arith

below_step : (k : ℕ) (p : Waiting Record) (r a b c d : ℕ) → a ≡ cond (nat_lt p.interval k) r 0 + b →
    c ≡ cond (nat_eq p.interval k) r 0 + d → a + c ≡ cond (nat_lt p.interval (suc k)) r 0 + (b + d)
below_step k p r a b c d h i = grind (arith, nat_tests)

reads-below_cons : (k n : ℕ) (p : Waiting Record) (ps : List (Waiting Record)) →
    reads_of n (entries_below k (p ∷ ps)) ≡ cond (nat_lt p.interval k) (one_read n p.entry) 0 + reads_of n (entries_below k ps)
reads-below_cons zero n p ps = grind (arith, nat_tests)
reads-below_cons (suc k) n p ps =
    reads-append n (entries_below k (p ∷ ps)) (entries_in k (p ∷ ps))
    ∙ below_step k p (one_read n p.entry) _ _ _ _ (reads-below_cons k n p ps)
    (in_step (nat_eq p.interval k) n p (filter (λ x. nat_eq x.interval k) ps))
    ∙ ap (λ (m : ℕ). cond (nat_lt p.interval (suc k)) (one_read n p.entry) 0 + m)
    (sym (reads-append n (entries_below k ps) (entries_in k ps)))

reads-below_none : (k n : ℕ) → reads_of n (entries_below k []) ≡ 0
reads-below_none zero n = refl
reads-below_none (suc k) n = reads-append n (entries_below k []) [] ∙ omega (arith, reads-below_none k n)

split_step : (k : ℕ) (p : Waiting Record) (r a b c d e : ℕ) → a ≡ cond (nat_lt p.interval k) r 0 + b →
    c ≡ cond (nat_le k p.interval) r 0 + d → b + d ≡ e → a + c ≡ r + e
split_step k p r a b c d e h i j = grind (arith, nat_tests)

-- what is committed and what stays pending is what was pending
pub reads-split : (k n : ℕ) (ps : List (Waiting Record)) →
    reads_of n (entries_below k ps) + reads_of n (pending_records (waiting_from k ps)) ≡ reads_of n (pending_records ps)
reads-split k n [] = omega (arith, reads-below_none k n)
reads-split k n (p ∷ ps) =
    split_step k p (one_read n p.entry) _ _ _ _ (reads_of n (pending_records ps)) (reads-below_cons k n p ps)
    (in_step (nat_le k p.interval) n p (waiting_from k ps)) (reads-split k n ps)
    ∙ sym (reads-append n (p.entry ∷ []) (pending_records ps))

-- what is still to be forgotten begins with the next record
pub reads-next : (n i : ℕ) (d : Waiting Record) (ps : List (Waiting Record)) → i < length ps →
    reads_of n (pending_records (drop i ps)) ≡ one_read n (get_or ps i d).entry + reads_of n (pending_records (drop (i + 1) ps))
reads-next n i d ps l =
    let s : i + 1 ≡ suc i = omega arith in
    ap (λ (xs : List (Waiting Record)). reads_of n (pending_records xs)) (drop-cons ps i d l)
    ∙ reads-append n ((get_or ps i d).entry ∷ []) (pending_records (drop (suc i) ps))
    ∙ ap (λ (j : ℕ). one_read n (get_or ps i d).entry + reads_of n (pending_records (drop j ps))) (sym s)

pub reads-next_item : (n i : ℕ) (e : Waiting Record) (ps : List (Waiting Record)) → i < length ps → e ≡ get_or ps i e →
    reads_of n (pending_records (drop i ps)) ≡ one_read n e.entry + reads_of n (pending_records (drop (i + 1) ps))
reads-next_item n i e ps l h =
    reads-next n i e ps l ∙ ap (λ (x : Waiting Record). one_read n x.entry + reads_of n (pending_records (drop (i + 1) ps))) (sym h)

-- a commit leaves how much a node has taken
pub reads-commit : (k n reads : ℕ) (cs ds : List Record) (ps qs : List (Waiting Record)) → ds ≡ cs ++ entries_below k ps →
    qs ≡ waiting_from k ps → reads ≡ reads_of n cs + reads_of n (pending_records ps) →
    reads ≡ reads_of n ds + reads_of n (pending_records qs)
reads-commit k n reads cs ds ps qs d q r =
    let a : reads_of n ds ≡ reads_of n cs + reads_of n (entries_below k ps) = ap (reads_of n) d ∙ reads-append n cs (entries_below k ps) in
    let b : reads_of n (pending_records qs)
    ≡ reads_of n (pending_records (waiting_from k ps)) = ap (λ (xs : List (Waiting Record)). reads_of n (pending_records xs)) q in
    omega (arith, a, b, r, reads-split k n ps)
