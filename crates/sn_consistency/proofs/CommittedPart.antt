-- The committed part is an execution with the same last state; it grows at its end alone, and stays through retirements at or above the point and through recoveries.
use Rattle.std.proofs.Common.{◌≡◌, ℕ, zero, suc, ◌<◌, ◌≤◌, Bool, true, false, cond, Option, Some, None, List, [], ◌∷◌, ◌++◌, refl, sym, ◌∙◌}
use Rattle.std.proofs.Common.{ap, arith, append_assoc, option_to_list, nat_eq, inl, inr, ◌⊎◌, subst, ◌==◌, nat_lt}
use Rattle.std.proofs.lemmas.Bool.Decides.{nat_tests}
use Rattle.std.proofs.lemmas.List.{append-nil}
use Rattle.std.proofs.lemmas.Bool.{cases_order}
use Rattle.rv_core.specs.declared.step.Record.{Record}
use Rattle.sn_base.specs.Image.{ImageData}
use Rattle.rv_core.specs.Flat.{FlatState, core_at, flat_step}
use Rattle.rv_core.specs.Execution.{Executes, state_after, put_out_by, in_of}
use Rattle.rv_core.specs.Step.{next_of}
use Rattle.rv_core.specs.declared.state.CoreState.{CoreState}
use Rattle.rv_core.specs.Core.{bare}
use Rattle.sn_consistency.specs.Words.{puts}
use Rattle.sn_consistency.specs.Entries.{Entry, Places, Good, run, step}
use Rattle.sn_consistency.specs.Sorted.{below, at_cut, GoodList, retire, entries_below_cut}
use Rattle.sn_consistency.specs.Shows.{Shows, records, outs}
use Rattle.sn_consistency.specs.Committed.{records_committed, bytes_released, Begins, Retirement, by_interval, retirements_below}
use Rattle.sn_consistency.proofs.StepLaws.{puts_bare}
use Rattle.sn_consistency.proofs.Sorted.{run-below, below_good, below_same, cut_off_good}
use Rattle.sn_consistency.proofs.Execution.{good_execution, good_end, shows_step}

module _ (image : ImageData) (N : ℕ) (s : FlatState) (F : Places) (start : Shows N s F) (f : ℕ → List Entry) (g : GoodList image N F f) (k : ℕ) where
  pub committed_execution : Executes image s (records_committed f k)
  committed_execution = good_execution image N s F start (below f k) (below_good image F f N g k)

  pub committed_end : Shows N (state_after image s (records_committed f k)) (at_cut image F f k)
  committed_end =
      subst (λ G. Shows N (state_after image s (records_committed f k)) G) (run-below image F f k)
      (good_end image N s F start (below f k) (below_good image F f N g k))

-- the bytes put out
puts_is : (image : ImageData) (c : CoreState) (r : Record) →
    option_to_list (next_of image c r.seen r.sc_done r.read).effect.out ≡ puts image c r
unfolding puts
puts_is image c r = refl

pub good_out : (image : ImageData) (N : ℕ) (s : FlatState) (F : Places) → Shows N s F → (es : List Entry) →
    Good image N F es → put_out_by image s (records es) ≡ outs image es
good_out image N s F t [] g = refl
good_out image N s F t (e ∷ es) g =
    let i : e.found ≡ bare (core_at s e.did.core) = g.0.same ∙ sym (t.core e.did.core) in
    let a : option_to_list (next_of image (core_at s e.did.core) e.did.seen e.did.sc_done e.did.read).effect.out
    ≡ puts image e.found e.did =
    puts_is image (core_at s e.did.core) e.did ∙ sym (puts_bare image (core_at s e.did.core) e.did)
    ∙ ap (λ c. puts image c e.did) (sym i) in
    let b = good_out image N (flat_step image s e.did) (step image F e) (shows_step image N s F t e i g.0.fits.within) es g.1 in
    cc

pub committed_out : (image : ImageData) (N : ℕ) (s : FlatState) (F : Places) → Shows N s F → (f : ℕ → List Entry) →
    GoodList image N F f → (k : ℕ) → put_out_by image s (records_committed f k) ≡ bytes_released image f k
committed_out image N s F start f g k = good_out image N s F start (below f k) (below_good image F f N g k)

-- the bytes read
taken_step : (a r : List ℕ) (q : Bool) (x : Option ℕ) →
    cond q (a ++ option_to_list x) a ++ r ≡ a ++ (cond q (option_to_list x) [] ++ r)
taken_step a r true None = append_assoc a [] r
taken_step a r true (Some x) = append_assoc a (x ∷ []) r
taken_step a r false x = refl

pub taken-in_of : (image : ImageData) (F : Places) (es : List Entry) (n : ℕ) →
    (run image F es).taken n ≡ F.taken n ++ in_of n (records es)
taken-in_of image F [] n = sym (append-nil (F.taken n))
taken-in_of image F (e ∷ es) n =
    taken-in_of image (step image F e) es n ∙ taken_step (F.taken n) (in_of n (records es)) (nat_eq e.did.core n) e.did.read

pub committed_reads : (image : ImageData) (F : Places) (f : ℕ → List Entry) (n k : ℕ) →
    (at_cut image F f k).taken n ≡ F.taken n ++ in_of n (records_committed f k)
committed_reads image F f n k = ap (λ G. G.taken n) (sym (run-below image F f k)) ∙ taken-in_of image F (below f k) n

-- lists after lists
pub records-append : (xs ys : List Entry) → records (xs ++ ys) ≡ records xs ++ records ys
records-append [] ys = refl
records-append (x ∷ xs) ys = ap (λ l. x.did ∷ l) (records-append xs ys)

-- the committed part is that of the records by intervals
pub records-below : (f : ℕ → List Entry) (k : ℕ) → records (below f k) ≡ below (λ j. records (f j)) k
unfolding below
records-below f zero = refl
records-below f (suc k) = records-append (below f k) (f k) ∙ ap (λ l. l ++ records (f k)) (records-below f k)

pub in_of-append : (n : ℕ) (xs ys : List Record) → in_of n (xs ++ ys) ≡ in_of n xs ++ in_of n ys
in_of-append n [] ys = refl
in_of-append n (x ∷ xs) ys =
    ap (λ l. cond (nat_eq x.core n) (option_to_list x.read) [] ++ l) (in_of-append n xs ys)
    ∙ sym (append_assoc (cond (nat_eq x.core n) (option_to_list x.read) []) (in_of n xs) (in_of n ys))

pub outs-append : (image : ImageData) (xs ys : List Entry) → outs image (xs ++ ys) ≡ outs image xs ++ outs image ys
outs-append image [] ys = refl
outs-append image (x ∷ xs) ys =
    ap (λ l. puts image x.found x.did ++ l) (outs-append image xs ys)
    ∙ sym (append_assoc (puts image x.found x.did) (outs image xs) (outs image ys))

-- it grows at its end
pub committed_next : (f : ℕ → List Entry) (k : ℕ) → records_committed f (suc k) ≡ records_committed f k ++ records (f k)
unfolding below
committed_next f k = records-append (below f k) (f k)

pub released_next : (image : ImageData) (f : ℕ → List Entry) (k : ℕ) →
    bytes_released image f (suc k) ≡ bytes_released image f k ++ outs image (f k)
unfolding below
released_next image f k = outs-append image (below f k) (f k)

pub committed_begins : (f : ℕ → List Entry) (k j : ℕ) → k ≤ j → Begins (records_committed f k) (records_committed f j)
committed_begins f k zero l =
    let i : k ≡ zero = omega arith in record { more = []; is = ap (records_committed f) (sym i) ∙ sym (append-nil (records_committed f k)) }
committed_begins f k (suc j) l = go (cases_order k (suc j)) (committed_begins f k j)
  where
    go : ((k ≡ suc j) ⊎ ((k < suc j) ⊎ (suc j < k))) → (k ≤ j → Begins (records_committed f k) (records_committed f j)) →
        Begins (records_committed f k) (records_committed f (suc j))
    go (inl i) h = record { more = []; is = ap (records_committed f) (sym i) ∙ sym (append-nil (records_committed f k)) }
    go (inr (inl m)) h =
        let r = h (omega arith) in
        record {
          more = r.more ++ records (f j);
          is = committed_next f j ∙ ap (λ a. a ++ records (f j)) r.is ∙ append_assoc (records_committed f k) r.more (records (f j));
        }
    go (inr (inr m)) h = absurd (omega arith)

-- the bytes that it reads are a front of those that a longer part reads
pub reads_begin : (f : ℕ → List Entry) (n k j : ℕ) → k ≤ j → Begins (in_of n (records_committed f k)) (in_of n (records_committed f j))
reads_begin f n k j l =
    let r = committed_begins f k j l in
    record { more = in_of n r.more; is = ap (in_of n) r.is ∙ in_of-append n (records_committed f k) r.more }

-- it stays
pub below_retired : (f : ℕ → List Entry) (x k : ℕ) (e : Entry) → k ≤ x → below (retire f x e) k ≡ below f k
below_retired f x k e l = below_same (retire f x e) f k (λ j i. grind (arith, nat_tests))

pub below_recovered : (f : ℕ → List Entry) (point k : ℕ) → k ≤ point → below (entries_below_cut f point) k ≡ below f k
below_recovered f point k l = below_same (entries_below_cut f point) f k (λ j i. grind (arith, nat_tests))

-- all that a recovery leaves
pub below_cut : (f : ℕ → List Entry) (point k : ℕ) → point ≤ k → below (entries_below_cut f point) k ≡ below f point
unfolding below
below_cut f point zero l = let i : point ≡ zero = omega arith in ap (below f) (sym i)
below_cut f point (suc k) l = go (cases_order point (suc k)) (below_cut f point k)
  where
    nothing : point ≤ k → entries_below_cut f point k ≡ []
    nothing m = grind (arith, nat_tests)

    go : ((point ≡ suc k) ⊎ ((point < suc k) ⊎ (suc k < point))) →
        (point ≤ k → below (entries_below_cut f point) k ≡ below f point) →
        below (entries_below_cut f point) k ++ entries_below_cut f point k ≡ below f point
    go (inl i) h = below_recovered f point (suc k) (omega arith) ∙ ap (below f) (sym i)
    go (inr (inl m)) h = rw (nothing (omega arith)) (append-nil (below (entries_below_cut f point) k) ∙ h (omega arith))
    go (inr (inr m)) h = absurd (omega arith)

pub recovered_execution : (image : ImageData) (N : ℕ) (s : FlatState) (F : Places) → Shows N s F →
    (f : ℕ → List Entry) → GoodList image N F f → (point k : ℕ) → Executes image s (records_committed (entries_below_cut f point) k)
recovered_execution image N s F start f g point k =
    committed_execution image N s F start (entries_below_cut f point) (cut_off_good image F f point N g) k

-- a list of retirements, by interval
module _ {A : Type 0} where
  by_step : (r q : Retirement A) (x : ℕ) (l k : List A) → l ≡ cond (x == q.interval) (k ++ q.item ∷ []) k
      → cond (x == r.interval) (r.item ∷ l) l
      ≡ cond (x == q.interval) (cond (x == r.interval) (r.item ∷ k) k ++ q.item ∷ []) (cond (x == r.interval) (r.item ∷ k) k)
  by_step r q x l k e = grind (arith, nat_tests)

  kept_in : (r : Retirement A) (x k : ℕ) (l b : List A) → nat_lt r.interval k ≡ true → l ≡ cond (nat_lt x k) b [] →
      cond (x == r.interval) (r.item ∷ l) l ≡ cond (nat_lt x k) (cond (x == r.interval) (r.item ∷ b) b) []
  kept_in r x k l b q e = grind (arith, nat_tests)

  kept_out : (r : Retirement A) (x k : ℕ) (l b : List A) → nat_lt r.interval k ≡ false → l ≡ cond (nat_lt x k) b [] →
      l ≡ cond (nat_lt x k) (cond (x == r.interval) (r.item ∷ b) b) []
  kept_out r x k l b q e = grind (arith, nat_tests)

  pub by_interval-push : (rs : List (Retirement A)) (q : Retirement A) (x : ℕ) →
      by_interval (rs ++ q ∷ []) x ≡ cond (x == q.interval) (by_interval rs x ++ q.item ∷ []) (by_interval rs x)
  by_interval-push [] q x = refl
  by_interval-push (r ∷ rs) q x = by_step r q x (by_interval (rs ++ q ∷ []) x) (by_interval rs x) (by_interval-push rs q x)

  pub by_interval-kept : (rs : List (Retirement A)) (k x : ℕ) →
      by_interval (retirements_below rs k) x ≡ cond (nat_lt x k) (by_interval rs x) []
  by_interval-kept [] k x = grind arith
  by_interval-kept (r ∷ rs) k x = go (nat_lt r.interval k) refl (by_interval-kept rs k x)
    where
      go : (q : Bool) → nat_lt r.interval k ≡ q → by_interval (retirements_below rs k) x ≡ cond (nat_lt x k) (by_interval rs x) [] →
          by_interval (cond q (r ∷ retirements_below rs k) (retirements_below rs k)) x
          ≡ cond (nat_lt x k) (cond (x == r.interval) (r.item ∷ by_interval rs x) (by_interval rs x)) []
      go true q h = kept_in r x k (by_interval (retirements_below rs k) x) (by_interval rs x) q h
      go false q h = kept_out r x k (by_interval (retirements_below rs k) x) (by_interval rs x) q h
