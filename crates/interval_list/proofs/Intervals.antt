-- Entries in order of their intervals.
use Rattle.std.proofs.Common.{◌≡◌, ◌≢◌, ℕ, zero, suc, ◌+◌, ◌<◌, ◌≤◌, Bool, true, false, not, cond, List, [], ◌∷◌, ◌++◌, map, length, get_or}
use Rattle.std.proofs.Common.{drop, drop-cons, refl, sym, ap, ◌∙◌, append_assoc, length-append, arith, add-one}
use Rattle.std.specs.Prelude.{nat_le, nat_eq, nat_lt}
use Rattle.std.specs.List.{All, filter}
use Rattle.std.proofs.lemmas.List.{append-nil}
use Rattle.std.proofs.lemmas.List.Elements.{All-head, All-tail}
use Rattle.std.proofs.lemmas.Bool.Decides.{nat_tests}
use Rattle.interval_list.specs.WaitingList.{Waiting, entries_in, entries_below, waiting_from, waiting_below}

fits_step : (t : Bool) (a b n : ℕ) → a ≡ cond t 1 0 + b → b ≤ n → a ≤ n + 1
fits_step true a b n e l = omega arith
fits_step false a b n e l = omega arith

below_none : (T : Type 0) (k : ℕ) → length (entries_below {T = T} k []) ≡ 0
below_none T zero = refl
below_none T (suc k) = length-append (entries_below {T = T} k []) [] ∙ omega (arith, below_none T k)

module _ {T : Type 0} where
  -- no entry waits of an interval from a on that is below b
  abbrev pub IsGap : ℕ → ℕ → List (Waiting T) → Type 0
  IsGap a b held = All (λ (h : Waiting T). a ≤ h.interval → b ≤ h.interval) held

  none_step : (t : Bool) (h : Waiting T) (hs : List (Waiting T)) → t ≡ false → map (λ (x : Waiting T). x.entry) hs ≡ [] →
      map (λ (x : Waiting T). x.entry) (cond t (h ∷ hs) hs) ≡ []
  none_step t h hs e i = rw e i

  entries_in-none : (i : ℕ) (hs : List (Waiting T)) → All (λ (h : Waiting T). h.interval ≢ i) hs → entries_in i hs ≡ []
  entries_in-none i [] a = refl
  entries_in-none i (h ∷ hs) a =
      let n : h.interval ≢ i = All-head (λ (x : Waiting T). x.interval ≢ i) h hs a in
      none_step (nat_eq h.interval i) h (filter (λ x. nat_eq x.interval i) hs) (grind (arith, nat_tests))
      (entries_in-none i hs (All-tail (λ (x : Waiting T). x.interval ≢ i) h hs a))

  gap_step : (t : Bool) (b a : ℕ) (hs : List (Waiting T)) → nat_le a b ≡ t → a ≤ suc b → IsGap a (suc b) hs →
      (a ≤ b → IsGap a b hs → entries_below b hs ≡ entries_below a hs) → entries_below (suc b) hs ≡ entries_below a hs
  gap_step true b a hs e l g i =
      let m : a ≤ b = grind (arith, nat_tests) in
      ap (λ (xs : List T). entries_below b hs ++ xs) (entries_in-none b hs (λ k d n q. let p = g k d n in omega (arith, p)))
      ∙ append-nil (entries_below b hs)
      ∙ i m (λ k d n q. let p = g k d n q in omega (arith, p))
  gap_step false b a hs e l g i = let m : a ≡ suc b = grind (arith, nat_tests) in rw m refl

  -- over a gap nothing is added
  pub entries_below-gap : (b a : ℕ) (hs : List (Waiting T)) → a ≤ b → IsGap a b hs → entries_below b hs ≡ entries_below a hs
  entries_below-gap zero a hs l g = let m : a ≡ 0 = omega arith in rw m refl
  entries_below-gap (suc b) a hs l g = gap_step (nat_le a b) b a hs refl l g (λ m h. entries_below-gap b a hs m h)

  in_step : (t : Bool) (h : Waiting T) (hs : List (Waiting T)) →
      length (map (λ (x : Waiting T). x.entry) (cond t (h ∷ hs) hs)) ≡ cond t 1 0 + length (map (λ (x : Waiting T). x.entry) hs)
  in_step true h hs = omega arith
  in_step false h hs = omega arith

  below_step : (k : ℕ) (h : Waiting T) (a b c d e : ℕ) → a ≡ cond (nat_lt h.interval k) 1 0 + b → c ≡ cond (nat_eq h.interval k) 1 0 + d →
      a + c ≡ cond (nat_lt h.interval (suc k)) 1 0 + (b + d)
  below_step k h a b c d e p q = grind (arith, nat_tests)

  below_cons : (k : ℕ) (h : Waiting T) (hs : List (Waiting T)) →
      length (entries_below k (h ∷ hs)) ≡ cond (nat_lt h.interval k) 1 0 + length (entries_below k hs)
  below_cons zero h hs = grind (arith, nat_tests)
  below_cons (suc k) h hs =
      simp length-append (below_step k h _ _ _ _ 0 (below_cons k h hs)
      (in_step (nat_eq h.interval k) h (filter (λ x. nat_eq x.interval k) hs)))

  -- each entry is committed at most once
  pub below_fits : (k : ℕ) (hs : List (Waiting T)) → length (entries_below k hs) ≤ length hs
  below_fits k [] = omega (arith, below_none T k)
  below_fits k (h ∷ hs) =
      let l = fits_step (nat_lt h.interval k) (length (entries_below k (h ∷ hs))) (length (entries_below k hs)) (length hs)
      (below_cons k h hs) (below_fits k hs) in omega arith

  -- what is committed below an interval and of it is within what waits
  pub next_fits : (k : ℕ) (hs : List (Waiting T)) → length (entries_below k hs) + length (entries_in k hs) ≤ length hs
  next_fits k hs = omega (arith, below_fits (suc k) hs, length-append (entries_below k hs) (entries_in k hs))

  -- the entries of an interval, and then of none up to the next one that has any
  pub next_below : (i n : ℕ) (hs : List (Waiting T)) (old new : List T) → i + 1 ≤ n → IsGap (i + 1) n hs →
      new ≡ (old ++ entries_below i hs) ++ entries_in i hs → new ≡ old ++ entries_below n hs
  next_below i n hs old new l g e =
      let s : i + 1 ≡ suc i = omega arith in
      e ∙ append_assoc old (entries_below i hs) (entries_in i hs)
      ∙ ap (λ (xs : List T). old ++ xs) (sym (entries_below-gap n (suc i) hs (omega arith) (λ k d m q. let p = g k d m (omega arith) in p)))

  pub first_below : (n : ℕ) (hs : List (Waiting T)) (old : List T) → IsGap 0 n hs → old ≡ old ++ entries_below n hs
  first_below n hs old g = sym (ap (λ (xs : List T). old ++ xs) (entries_below-gap n 0 hs (omega arith) g) ∙ append-nil old)

  len_in : (i : ℕ) (h : Waiting T) (hs : List (Waiting T)) → h.interval ≡ i → length (entries_in i (h ∷ hs)) ≡ 1 + length (entries_in i hs)
  len_in i h hs e =
      let q : nat_eq h.interval i ≡ true = grind (arith, nat_tests) in
      in_step (nat_eq h.interval i) h (filter (λ x. nat_eq x.interval i) hs) ∙ ap (λ (t : Bool). cond t 1 0 + length (entries_in i hs)) q

  -- there is room for an entry of the interval that is still to be committed
  pub one_fits : (i k : ℕ) (d : Waiting T) (hs : List (Waiting T)) (rel old : List T) →
      rel ++ entries_in i (drop k hs) ≡ old ++ entries_in i hs → k < length hs → (get_or hs k d).interval ≡ i →
      length rel + 1 ≤ length old + length (entries_in i hs)
  one_fits i k d hs rel old e l q =
      let n : length (entries_in i (drop k hs))
      ≡ 1 + length (entries_in i (drop (suc k) hs)) = ap (λ (xs : List (Waiting T)). length (entries_in i xs)) (drop-cons hs k d l)
      ∙ len_in i (get_or hs k d) (drop (suc k) hs) q in
      omega (arith, ap length e, length-append rel (entries_in i (drop k hs)), length-append old (entries_in i hs))

  part_step : (k : ℕ) (h : Waiting T) (a b n : ℕ) (fs : List (Waiting T)) → a ≡ cond (nat_lt h.interval k) 1 0 + b → b + length fs ≡ n →
      a + length (cond (nat_le k h.interval) (h ∷ fs) fs) ≡ n + 1
  part_step k h a b n fs e i = grind (arith, nat_tests)

  -- each entry is committed or still waits
  pub left_fits : (k : ℕ) (hs : List (Waiting T)) → length (entries_below k hs) + length (waiting_from k hs) ≡ length hs
  left_fits k [] = omega (arith, below_none T k)
  left_fits k (h ∷ hs) =
      part_step k h (length (entries_below k (h ∷ hs))) (length (entries_below k hs)) (length hs) (waiting_from k hs) (below_cons k h hs)
      (left_fits k hs) ∙ omega arith

  -- where nothing waits of an interval below k

  from_step : (k : ℕ) (w : Waiting T) (ws vs : List (Waiting T)) → k ≤ w.interval → ws ≡ vs →
      cond (nat_le (k + 1) w.interval) (w ∷ ws) ws ≡ cond (not (nat_eq w.interval k)) (w ∷ vs) vs
  from_step k w ws vs l e = by_test (nat_eq w.interval k) (nat_le (k + 1) w.interval) refl refl
    where
      by_test : (b a : Bool) → nat_eq w.interval k ≡ b → nat_le (k + 1) w.interval ≡ a → cond a (w ∷ ws) ws ≡ cond (not b) (w ∷ vs) vs
      by_test true true x y = absurd (grind (arith, nat_tests, x, y))
      by_test true false x y = e
      by_test false true x y = ap (λ xs. w ∷ xs) e
      by_test false false x y = absurd (grind (arith, nat_tests, x, y))

  below_drop : (k : ℕ) (w : Waiting T) (ws : List (Waiting T)) → k ≤ w.interval → ws ≡ [] → (b : Bool) → nat_lt w.interval k ≡ b →
      cond b (w ∷ ws) ws ≡ []
  below_drop k w ws l e true x = absurd (grind (arith, nat_tests, x))
  below_drop k w ws l e false x = e

  -- what stays is what isn't of interval k
  pub from-next : (k : ℕ) (ws : List (Waiting T)) → All (λ (w : Waiting T). k ≤ w.interval) ws →
      waiting_from (k + 1) ws ≡ filter (λ (w : Waiting T). not (nat_eq w.interval k)) ws
  from-next k [] all = refl
  from-next k (w ∷ ws) all =
      from_step k w (waiting_from (k + 1) ws) (filter (λ (x : Waiting T). not (nat_eq x.interval k)) ws)
      (All-head (λ (x : Waiting T). k ≤ x.interval) w ws all)
      (from-next k ws (All-tail (λ (x : Waiting T). k ≤ x.interval) w ws all))

  -- what is committed is what is of it
  pub below-next : (k : ℕ) (ws : List (Waiting T)) → All (λ (w : Waiting T). k ≤ w.interval) ws → entries_below (k + 1) ws ≡ entries_in k ws
  below-next k ws all =
      ap (λ j. entries_below j ws) (add-one k)
      ∙ ap (λ es. es ++ entries_in k ws) (entries_below-gap k 0 ws (omega arith) (λ j d l z. all j d l))

  -- nothing is left below k
  pub below-none : (k : ℕ) (ws : List (Waiting T)) → All (λ (w : Waiting T). k ≤ w.interval) ws → waiting_below k ws ≡ []
  below-none k [] all = refl
  below-none k (w ∷ ws) all =
      below_drop k w (waiting_below k ws) (All-head (λ (x : Waiting T). k ≤ x.interval) w ws all)
      (below-none k ws (All-tail (λ (x : Waiting T). k ≤ x.interval) w ws all)) (nat_lt w.interval k) refl
