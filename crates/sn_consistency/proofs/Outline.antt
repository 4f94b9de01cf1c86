-- Each event of a machine keeps what it keeps of the sorted list.
use Rattle.std.proofs.Common.{◌≡◌, ◌≢◌, ℕ, zero, suc, ◌<◌, ◌≤◌, Bool, true, ◌⊎◌, List, [], ◌∷◌, ◌++◌, append_assoc, refl, sym, ◌∙◌, ap}
use Rattle.std.proofs.Common.{arith, inl, inr, subst}
use Rattle.std.proofs.lemmas.Bool.Decides.{nat_tests}
use Rattle.std.proofs.lemmas.Bool.{cases_order}
use Rattle.sn_base.specs.Image.{ImageData}
use Rattle.rv_core.specs.Core.{bare}
use Rattle.rv_core.specs.Flat.{FlatState, core_at}
use Rattle.rv_core.specs.Execution.{state_after, in_of}
use Rattle.sn_consistency.specs.Words.{block, block_in}
use Rattle.sn_consistency.specs.Entries.{Entry, Places, Legal, step}
use Rattle.sn_consistency.specs.Sorted.{at_cut, entries_below_cut, LetsPass, AllPass}
use Rattle.sn_consistency.specs.Shows.{Shows}
use Rattle.sn_consistency.specs.Committed.{records_committed, Begins}
use Rattle.sn_consistency.specs.Outline.{Outline, Placed, AllPlaced, Keeps, Retires, IsSameOutline, outline_after_retirement, first_outline, outline_after_edge, lost_to, outline_after_news}
use Rattle.sn_consistency.specs.Outline.{given_to, outline_after_validation, outline_after_recovery}
use mathlib.Core.Path.{fun_ext}
use Rattle.sn_consistency.proofs.CommittedPart.{committed_end, committed_reads, reads_begin}
use Rattle.sn_consistency.proofs.Sorted.{all_apart, retire_low, retire_high, retire_good, cut_off_high, cut_off_good}

module _ (image : ImageData) where
  -- who is placed stays so while intervals rise, and writes and accesses grow
  pub AllPlaced-more : (t l t' l' : ℕ → ℕ) (a a' : ℕ → ℕ → ℕ) (x : ℕ) → ((n : ℕ) → x ≤ t n → x ≤ t' n) →
      ((b : ℕ) → x < l b → x < l' b) → ((b n : ℕ) → x < a b n → x < a' b n) → (ys : List Entry) →
      AllPlaced image t l a x ys → AllPlaced image t' l' a' x ys
  AllPlaced-more t l t' l' a a' x p q r [] s = tt
  AllPlaced-more t l t' l' a a' x p q r (y ∷ ys) s = (
    record {
      early = p y.did.core s.0.early;
      write = λ w. q (block image y.found) (s.0.write w);
      touch = λ u. r (block image y.found) y.did.core (s.0.touch u);
    },
    AllPlaced-more t l t' l' a a' x p q r ys s.1,
  )

  AllPlaced-append : (t l : ℕ → ℕ) (a : ℕ → ℕ → ℕ) (x : ℕ) (ys : List Entry) (e : Entry) →
      AllPlaced image t l a x ys → Placed image t l a x e → AllPlaced image t l a x (ys ++ e ∷ [])
  AllPlaced-append t l a x [] e s p = (p, tt)
  AllPlaced-append t l a x (y ∷ ys) e s p = (s.0, AllPlaced-append t l a x ys e s.1 p)

module _ (image : ImageData) (N : ℕ) (F : Places) (m : Outline) (t : Keeps image N F m) where
  module _ (e : Entry) (r : Retires image N m e) where
    -- what stands above lets it pass
    one_passes : (j : ℕ) → m.interval e.did.core < j → (y : Entry) →
        Placed image m.interval m.last_write m.last_access j y → LetsPass image e y
    one_passes j l y s = record {
      cores = grind arith;
      no_later_write = λ u b. grind (arith, nat_tests, s.write, r.newest);
      no_later_access = λ w b. grind (arith, nat_tests, s.touch, r.alone);
    }

    above_pass : (j : ℕ) → m.interval e.did.core < j → (ys : List Entry) →
        AllPlaced image m.interval m.last_write m.last_access j ys → AllPass image e ys
    above_pass j l [] s = tt
    above_pass j l (y ∷ ys) s = (one_passes j l y s.0, above_pass j l ys s.1)

    pub all_pass : (j : ℕ) → m.interval e.did.core < j → AllPass image e (m.list j)
    all_pass j l = above_pass j l (m.list j) (t.placed j)

    legal_now : Legal image N (at_cut image F m.list (suc (m.interval e.did.core))) e
    legal_now = record {
      fits = r.fits;
      same = let h = t.core e.did.core (suc (m.interval e.did.core)) (omega arith) in grind arith;
      seen =
          λ d. let h = t.content (block image e.found) (suc (m.interval e.did.core)) (omega (arith, t.point_interval e.did.core)) in
          grind (arith, t.unwritten, r.newest, r.seen);
      done = λ d. t.reserved e.did.core (suc (m.interval e.did.core)) (block image e.found) (omega arith) (r.done d);
    }

    low : (k : ℕ) → k ≤ m.interval e.did.core → at_cut image F (outline_after_retirement image m e).list k ≡ at_cut image F m.list k
    low = retire_low image F m.list (m.interval e.did.core) e

    high : (k : ℕ) → m.interval e.did.core < k →
        at_cut image F (outline_after_retirement image m e).list k ≡ step image (at_cut image F m.list k) e
    high = retire_high image F m.list (m.interval e.did.core) e (λ j l. all_apart image e (m.list j) (all_pass j l))

    new_placed : Placed image m.interval (outline_after_retirement image m e).last_write (outline_after_retirement image m e).last_access (m.interval e.did.core) e
    new_placed = record { early = grind arith; write = λ w. grind (arith, nat_tests); touch = λ a. grind (arith, nat_tests) }

    placed_now : (x : ℕ) →
        AllPlaced image m.interval (outline_after_retirement image m e).last_write (outline_after_retirement image m e).last_access x (m.list x)
    placed_now x =
        AllPlaced-more image m.interval m.last_write m.interval (outline_after_retirement image m e).last_write m.last_access
        (outline_after_retirement image m e).last_access x
        (λ n l. l) (λ b l. grind (arith, nat_tests, r.newest)) (λ b n a. grind (arith, nat_tests)) (m.list x) (t.placed x)

    is_now : (x : ℕ) → x ≡ m.interval e.did.core → (outline_after_retirement image m e).list x ≡ m.list x ++ e ∷ []
    is_now x i = grind (arith, nat_tests)

    not_now : (x : ℕ) → x ≢ m.interval e.did.core → (outline_after_retirement image m e).list x ≡ m.list x
    not_now x i = grind (arith, nat_tests)

    placed_step : (x : ℕ) →
        ((x ≡ m.interval e.did.core) ⊎ ((x < m.interval e.did.core) ⊎ (m.interval e.did.core < x))) →
        AllPlaced image m.interval (outline_after_retirement image m e).last_write (outline_after_retirement image m e).last_access x ((outline_after_retirement image m e).list x)
    placed_step x (inl i) =
        rw (is_now x i)
        (AllPlaced-append image m.interval (outline_after_retirement image m e).last_write (outline_after_retirement image m e).last_access x (m.list x) e (placed_now x)
        (subst (λ j. Placed image m.interval (outline_after_retirement image m e).last_write (outline_after_retirement image m e).last_access j e) (sym i) new_placed))
    placed_step x (inr (inl l)) = rw (not_now x (omega arith)) (placed_now x)
    placed_step x (inr (inr l)) = rw (not_now x (omega arith)) (placed_now x)

    -- every sentence at a cut: as before up to the interval, and the step above it
    abbrev Low : ℕ → Type 0
    Low j = j ≤ m.interval e.did.core → at_cut image F (outline_after_retirement image m e).list j ≡ at_cut image F m.list j

    abbrev High : ℕ → Type 0
    High j = m.interval e.did.core < j → at_cut image F (outline_after_retirement image m e).list j ≡ step image (at_cut image F m.list j) e

    core_step : (n j : ℕ) → m.interval n < j → High j → Low j →
        (at_cut image F (outline_after_retirement image m e).list j).core n ≡ (outline_after_retirement image m e).core n
    core_step n j l h g = grind (arith, nat_tests, t.core n j)

    checkpoint_step : (n j : ℕ) → m.known n ≤ j → j ≤ m.interval n → High j → Low j →
        (at_cut image F (outline_after_retirement image m e).list j).core n ≡ m.checkpoint n j
    checkpoint_step n j k l h g = grind (arith, nat_tests, t.checkpoint n j)

    content_step : (b j : ℕ) → m.point ≤ j → High j → Low j →
        (at_cut image F (outline_after_retirement image m e).list j).content b ≡ (outline_after_retirement image m e).content b j
    content_step b j u h g = grind (arith, nat_tests, t.content b j, t.unwritten b j, r.newest)

    reserved_step : (n j b : ℕ) → m.interval n < j → (outline_after_retirement image m e).reserved n b ≡ true → High j → Low j →
        (at_cut image F (outline_after_retirement image m e).list j).held n b ≡ true
    reserved_step n j b l d h g = grind (arith, nat_tests, t.reserved n j b, r.lost)

    given_step : (n j : ℕ) → m.interval n < j → High j → Low j →
        m.given n ≡ (at_cut image F (outline_after_retirement image m e).list j).taken n ++ (outline_after_retirement image m e).waiting n
    given_step n j l h g = grind (arith, nat_tests, t.given n j, r.input, append_assoc)

    pub retired_keeps : Keeps image N F (outline_after_retirement image m e)
    retired_keeps = record {
      good = retire_good image F m.list (m.interval e.did.core) e (λ j l. all_apart image e (m.list j) (all_pass j l)) N t.good legal_now;
      placed = λ x. placed_step x (cases_order x (m.interval e.did.core));
      core = λ n j l. core_step n j l (high j) (low j);
      reserved = λ n j b l d. reserved_step n j b l d (high j) (low j);
      given = λ n j l. given_step n j l (high j) (low j);
      checkpoint = λ n j k l. checkpoint_step n j k l (high j) (low j);
      content = λ b j u. content_step b j u (high j) (low j);
      unwritten = λ b j l. grind (arith, nat_tests, t.unwritten b j, r.newest);
      known_point = t.known_point;
      point_interval = t.point_interval;
    }

  -- an edge: its checkpoint is the core as it is now
  pub edged_keeps : (n : ℕ) → Keeps image N F (outline_after_edge m n)
  edged_keeps n = record {
    good = t.good;
    placed =
        λ x. AllPlaced-more image m.interval m.last_write (outline_after_edge m n).interval m.last_write m.last_access m.last_access x
        (λ k l. grind (arith, nat_tests)) (λ b l. l) (λ b k a. a) (m.list x) (t.placed x);
    core = λ k j l. let h = t.core k j in grind (arith, nat_tests);
    reserved = λ k j b l h. let g = t.reserved k j b in grind (arith, nat_tests);
    given = λ k j l. let h = t.given k j in grind (arith, nat_tests);
    checkpoint = λ k j l u. let h = t.core k j in let g = t.checkpoint k j in grind (arith, nat_tests);
    content = t.content;
    unwritten = t.unwritten;
    known_point = t.known_point;
    point_interval = λ k. grind (arith, nat_tests, t.point_interval k);
  }

  -- reservations are lost
  pub lost_keeps : (reserved : ℕ → ℕ → Bool) → ((n b : ℕ) → reserved n b ≡ true → m.reserved n b ≡ true) →
      Keeps image N F (lost_to m reserved)
  lost_keeps reserved f = record {
    good = t.good;
    placed = t.placed;
    core = t.core;
    reserved = λ n j b l h. t.reserved n j b l (f n b h);
    given = t.given;
    checkpoint = t.checkpoint;
    content = t.content;
    unwritten = t.unwritten;
    known_point = t.known_point;
    point_interval = t.point_interval;
  }

  -- a node learns of a point that isn't above the machine's
  pub learned_keeps : (n k : ℕ) → k ≤ m.point → Keeps image N F (outline_after_news m n k)
  learned_keeps n k u = record {
    good = t.good;
    placed = t.placed;
    core = t.core;
    reserved = t.reserved;
    given = t.given;
    checkpoint = λ i j l h. let g = t.checkpoint i j in grind (arith, nat_tests);
    content = t.content;
    unwritten = t.unwritten;
    known_point = λ i. grind (arith, nat_tests, t.known_point i);
    point_interval = t.point_interval;
  }

  pub given_keeps : (n byte : ℕ) → Keeps image N F (given_to m n byte)
  given_keeps n byte = record {
    good = t.good;
    placed = t.placed;
    core = t.core;
    reserved = t.reserved;
    given = λ k j l. let h = t.given k j l in grind (arith, nat_tests, append_assoc);
    checkpoint = t.checkpoint;
    content = t.content;
    unwritten = t.unwritten;
    known_point = t.known_point;
    point_interval = t.point_interval;
  }

  -- the point rises where no node's interval is below the new one
  pub validated_keeps : ((n : ℕ) → suc m.point ≤ m.interval n) → Keeps image N F (outline_after_validation m)
  validated_keeps u = record {
    good = t.good;
    placed = t.placed;
    core = t.core;
    reserved = t.reserved;
    given = t.given;
    checkpoint = t.checkpoint;
    content = λ b j l. t.content b j (omega arith);
    unwritten = t.unwritten;
    known_point = λ n. omega (arith, t.known_point n);
    point_interval = u;
  }

  -- a recovery to the point
  module _ (waiting : ℕ → List ℕ) (left : (n : ℕ) → m.given n ≡ (at_cut image F m.list m.point).taken n ++ waiting n) where
    at_point : (j : ℕ) → m.point ≤ j → at_cut image F (outline_after_recovery m waiting).list j ≡ at_cut image F m.list m.point
    at_point j l = cut_off_high image F m.list m.point j l

    placed_one : (x : ℕ) → (y : Entry) → x < m.point → Placed image m.interval m.last_write m.last_access x y →
        Placed image (outline_after_recovery m waiting).interval (outline_after_recovery m waiting).last_write (outline_after_recovery m waiting).last_access x y
    placed_one x y l s =
        record { early = grind arith; write = λ w. grind (arith, nat_tests); touch = λ a. grind (arith, nat_tests, s.touch) }

    placed_all : (x : ℕ) → (ys : List Entry) → x < m.point → AllPlaced image m.interval m.last_write m.last_access x ys →
        AllPlaced image (outline_after_recovery m waiting).interval (outline_after_recovery m waiting).last_write (outline_after_recovery m waiting).last_access x ys
    placed_all x [] l s = tt
    placed_all x (y ∷ ys) l s = (placed_one x y l s.0, placed_all x ys l s.1)

    nothing : (x : ℕ) → m.point ≤ x → entries_below_cut m.list m.point x ≡ []
    nothing x l = grind (arith, nat_tests)

    kept_there : (x : ℕ) → x < m.point → entries_below_cut m.list m.point x ≡ m.list x
    kept_there x l = grind (arith, nat_tests)

    placed_below : (x : ℕ) → ((x ≡ m.point) ⊎ ((x < m.point) ⊎ (m.point < x))) →
        AllPlaced image (outline_after_recovery m waiting).interval (outline_after_recovery m waiting).last_write (outline_after_recovery m waiting).last_access x
        ((outline_after_recovery m waiting).list x)
    placed_below x (inl i) = rw (nothing x (omega arith)) tt
    placed_below x (inr (inl l)) = rw (kept_there x l) (placed_all x (m.list x) l (t.placed x))
    placed_below x (inr (inr l)) = rw (nothing x (omega arith)) tt

    content_there : (b j : ℕ) → m.point ≤ j → (outline_after_recovery m waiting).content b j ≡ m.content b m.point
    content_there b j l = go (cases_order j m.point)
      where
        go : ((j ≡ m.point) ⊎ ((j < m.point) ⊎ (m.point < j))) → (outline_after_recovery m waiting).content b j ≡ m.content b m.point
        go (inl i) = grind (arith, nat_tests)
        go (inr (inl k)) = absurd (omega arith)
        go (inr (inr k)) = grind (arith, nat_tests)

    pub recovered_keeps : Keeps image N F (outline_after_recovery m waiting)
    recovered_keeps = record {
      good = cut_off_good image F m.list m.point N t.good;
      placed = λ x. placed_below x (cases_order x m.point);
      core =
          λ n j l. let h = at_point j (omega arith) in let g = t.checkpoint n m.point (t.known_point n) (t.point_interval n) in grind arith;
      reserved = λ n j b l h. grind arith;
      given = λ n j l. let h = at_point j (omega arith) in let g = left n in grind arith;
      checkpoint =
          λ n j k l. let h = at_point j k in let g = t.checkpoint n j in let i : j ≡ m.point = omega arith in let q = t.known_point n in
          let p = t.point_interval n in grind arith;
      content = λ b j l. ap (λ G. G.content b) (at_point j l) ∙ t.content b m.point (omega arith) ∙ sym (content_there b j l);
      unwritten = λ b j l. let g = t.unwritten b j in let h = t.unwritten b m.point in grind (arith, nat_tests);
      known_point = λ n. grind arith;
      point_interval = λ n. grind arith;
    }

-- the start
empty_cut : (image : ImageData) (F : Places) (k : ℕ) → at_cut image F (λ x. []) k ≡ F
unfolding at_cut
empty_cut image F zero = refl
empty_cut image F (suc k) = empty_cut image F k

pub begun_keeps : (image : ImageData) (N : ℕ) (F : Places) → ((n : ℕ) → F.taken n ≡ []) → Keeps image N F (first_outline F)
begun_keeps image N F none = record {
  good = λ k. tt;
  placed = λ x. tt;
  core = λ n j l. ap (λ G. G.core n) (empty_cut image F j);
  reserved = λ n j b l h. grind arith;
  given = λ n j l. let e = empty_cut image F j in let q = none n in grind arith;
  checkpoint = λ n j k l. ap (λ G. G.core n) (empty_cut image F j);
  content = λ b j l. ap (λ G. G.content b) (empty_cut image F j);
  unwritten = λ b j l. grind arith;
  known_point = λ n. omega arith;
  point_interval = λ n. omega arith;
}

-- what follows at the point
module _ (image : ImageData) (N : ℕ) (s : FlatState) (F : Places) (start : Shows N s F) (m : Outline) (t : Keeps image N F m) where
  pub end_content : (b : ℕ) → block_in (state_after image s (records_committed m.list m.point)).memory b ≡ m.content b m.point
  end_content b = (committed_end image N s F start m.list t.good m.point).memory b ∙ t.content b m.point (omega arith)

  pub end_core : (n : ℕ) → bare (core_at (state_after image s (records_committed m.list m.point)) n) ≡ m.checkpoint n m.point
  end_core n =
      (committed_end image N s F start m.list t.good m.point).core n ∙ t.checkpoint n m.point (t.known_point n) (t.point_interval n)

module _ (image : ImageData) (N : ℕ) (F : Places) (m : Outline) (t : Keeps image N F m) where
  pub given_begins : (n : ℕ) → F.taken n ≡ [] → Begins (in_of n (records_committed m.list m.point)) (m.given n)
  given_begins n none =
      let j = suc (m.interval n) in
      let r = reads_begin m.list n m.point j (omega (arith, t.point_interval n)) in
      record {
        more = r.more ++ m.waiting n;
        is =
            t.given n j (omega arith)
            ∙ ap (λ l. l ++ m.waiting n) (committed_reads image F m.list n j ∙ ap (λ l. l ++ in_of n (records_committed m.list j)) none ∙ r.is)
            ∙ append_assoc (in_of n (records_committed m.list m.point)) r.more (m.waiting n);
      }

-- an outline is what it is at each place
pub same_outline : (m p : Outline) → IsSameOutline m p → m ≡ p
same_outline m p s = λ i. record {
  point = s.point i;
  interval = fun_ext s.interval i;
  known = fun_ext s.known i;
  core = fun_ext s.core i;
  reserved = fun_ext (λ n. fun_ext (s.reserved n)) i;
  checkpoint = fun_ext (λ n. fun_ext (s.checkpoint n)) i;
  given = fun_ext s.given i;
  waiting = fun_ext s.waiting i;
  list = fun_ext s.list i;
  content = fun_ext (λ b. fun_ext (s.content b)) i;
  value = fun_ext s.value i;
  last_write = fun_ext s.last_write i;
  last_access = fun_ext (λ b. fun_ext (s.last_access b)) i;
}

pub same_keeps : (image : ImageData) (N : ℕ) (F : Places) (m p : Outline) → IsSameOutline m p → Keeps image N F m → Keeps image N F p
same_keeps image N F m p s t = subst (Keeps image N F) (same_outline m p s) t
