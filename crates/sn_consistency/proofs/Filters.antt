-- The folds that skip and the filtered lists say the same.
use Rattle.std.proofs.Common.{◌≡◌, ◌≢◌, ℕ, ◌<◌, Bool, true, false, ◌&&◌, cond, ◌==◌, ◌⊎◌, inl, inr, List, [], ◌∷◌, refl, sym, subst, arith}
use Rattle.std.proofs.lemmas.Bool.Decides.{nat_tests}
use Rattle.std.proofs.lemmas.Bool.{cases_order}
use Rattle.sn_base.specs.Image.{ImageData}
use Rattle.rv_core.specs.declared.state.CoreState.{CoreState}
use Rattle.rv_core.specs.declared.step.Record.{Record}
use Rattle.rv_core.specs.Flat.{FlatState, core_at}
use Rattle.sn_consistency.specs.Words.{block, next}
use Rattle.sn_consistency.specs.Entries.{Entry, touches}
use Rattle.sn_consistency.specs.Projections.{Replays, CoreGood, entries, BlockState, block_step, BlockLegal, BlockGood, block_of_state}
use Rattle.sn_consistency.specs.Projections.{AllGood, records_of, ReplaysAll, accesses_of, AgreesAll, AllProjectionsGood}
use mathlib.Core.Path.{fun_ext}

pick : (n m : ℕ) → (n ≡ m) ⊎ (n ≢ m)
pick n m = go (cases_order n m)
  where
    go : ((n ≡ m) ⊎ ((n < m) ⊎ (m < n))) → (n ≡ m) ⊎ (n ≢ m)
    go (inl e) = inl e
    go (inr (inl l)) = inr (omega arith)
    go (inr (inr l)) = inr (omega arith)

same_test : (n m : ℕ) → n ≡ m → (n == m) ≡ true
same_test n m e = grind (arith, nat_tests)

other_test : (n m : ℕ) → n ≢ m → (n == m) ≡ false
other_test n m e = grind (arith, nat_tests)

-- a core's records
module _ (image : ImageData) (N n : ℕ) where
  pub core_to : (c : CoreState) (rs : List Record) → CoreGood image N n c rs → ReplaysAll image N c (records_of n rs)
  core_to c [] g = tt
  core_to c (r ∷ rs) g = go (pick n r.core) (λ d. core_to d rs)
    where
      go : ((n ≡ r.core) ⊎ (n ≢ r.core)) →
          ((d : CoreState) → CoreGood image N n d rs → ReplaysAll image N d (records_of n rs)) →
          ReplaysAll image N c (cond (n == r.core) (r ∷ records_of n rs) (records_of n rs))
      go (inl i) h =
          let q = same_test n r.core i in
          rw q (g.0 i, h (next image c r) (rw q at g.1))
      go (inr i) h =
          let q = other_test n r.core i in
          rw q (h c (rw q at g.1))

  pub core_from : (c : CoreState) (rs : List Record) → ReplaysAll image N c (records_of n rs) → CoreGood image N n c rs
  core_from c [] g = tt
  core_from c (r ∷ rs) g = go (pick n r.core) (λ d. core_from d rs)
    where
      go : ((n ≡ r.core) ⊎ (n ≢ r.core)) →
          ((d : CoreState) → ReplaysAll image N d (records_of n rs) → CoreGood image N n d rs) →
          (n ≡ r.core → Replays image N c r) × CoreGood image N n (cond (n == r.core) (next image c r) c) rs
      go (inl i) h =
          let q = same_test n r.core i in
          let p = rw q at g in
          ((λ j. p.0), rw q (h (next image c r) p.1))
      go (inr i) h =
          let q = other_test n r.core i in
          ((λ j. absurd (i j)), rw q (h c (rw q at g)))

-- a block's accesses: what doesn't touch it leaves it
module _ (image : ImageData) (b : ℕ) where
  same_block : (v : BlockState) (e : Entry) → (touches image e && (b == block image e.found)) ≡ false →
      block_step image b v e ≡ v
  same_block v e q = λ i. record { content = same_content i; intact = fun_ext same_intact i }
    where
      same_content : (block_step image b v e).content ≡ v.content
      same_content = grind (arith, nat_tests)

      same_intact : (n : ℕ) → (block_step image b v e).intact n ≡ v.intact n
      same_intact n = grind (arith, nat_tests)

  touch_step : (v : BlockState) (e : Entry) → (touches image e && (b == block image e.found)) ≡ true →
      (b ≡ block image e.found → BlockLegal image v e) → BlockLegal image v e
  touch_step v e q h = h (grind (arith, nat_tests))

  free_step : (v : BlockState) (e : Entry) → (touches image e && (b == block image e.found)) ≡ false →
      b ≡ block image e.found → BlockLegal image v e
  free_step v e q i = record { seen = λ r. grind (arith, nat_tests); done = λ c d. grind (arith, nat_tests) }

  pub block_to : (v : BlockState) (es : List Entry) → BlockGood image b v es →
      AgreesAll image b v (accesses_of image b es)
  block_to v [] g = tt
  block_to v (e ∷ es) g = go (touches image e && (b == block image e.found)) refl (block_to (block_step image b v e) es g.1)
    where
      go : (q : Bool) → (touches image e && (b == block image e.found)) ≡ q →
          AgreesAll image b (block_step image b v e) (accesses_of image b es) →
          AgreesAll image b v (cond q (e ∷ accesses_of image b es) (accesses_of image b es))
      go true q h = (touch_step v e q g.0, h)
      go false q h = subst (λ w. AgreesAll image b w (accesses_of image b es)) (same_block v e q) h

  pub block_from : (v : BlockState) (es : List Entry) → AgreesAll image b v (accesses_of image b es) →
      BlockGood image b v es
  block_from v [] g = tt
  block_from v (e ∷ es) g = go (touches image e && (b == block image e.found)) refl g (block_from (block_step image b v e) es)
    where
      go : (q : Bool) → (touches image e && (b == block image e.found)) ≡ q →
          AgreesAll image b v (cond q (e ∷ accesses_of image b es) (accesses_of image b es)) →
          (AgreesAll image b (block_step image b v e) (accesses_of image b es) → BlockGood image b (block_step image b v e) es) →
          (b ≡ block image e.found → BlockLegal image v e) × BlockGood image b (block_step image b v e) es
      go true q p h = ((λ i. p.0), h p.1)
      go false q p h = (free_step v e q, h (subst (λ w. AgreesAll image b w (accesses_of image b es)) (sym (same_block v e q)) p))

-- both forms of all projections
module _ (image : ImageData) (N : ℕ) (s : FlatState) (rs : List Record) where
  pub filtered : AllGood image N s rs → AllProjectionsGood image N s rs
  filtered g = record {
    cores = λ n. core_to image N n (core_at s n) rs (g.cores n);
    blocks = λ b. block_to image b (block_of_state s b) (entries image (core_at s) rs) (g.blocks b);
  }

  pub skipping : AllProjectionsGood image N s rs → AllGood image N s rs
  skipping g = record {
    cores = λ n. core_from image N n (core_at s n) rs (g.cores n);
    blocks = λ b. block_from image b (block_of_state s b) (entries image (core_at s) rs) (g.blocks b);
  }
