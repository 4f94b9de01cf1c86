-- The folds with one record more at the end.
use Rattle.std.proofs.Common.{◌≡◌, ℕ, zero, suc, List, [], ◌∷◌, take, slice_get, Some, refl, subst}
use Rattle.sn_base.specs.Image.{ImageData}
use Rattle.rv_core.specs.declared.state.CoreState.{CoreState}
use Rattle.rv_core.specs.declared.step.Record.{Record}
use Rattle.rv_core.specs.Core.{bare}
use Rattle.sn_consistency.specs.Entries.{Entry}
use Rattle.sn_consistency.specs.Words.{block}
use Rattle.sn_consistency.specs.Projections.{Replays, core_step, core_after, CoreGood, entries, BlockState, block_step, BlockLegal}
use Rattle.sn_consistency.specs.Projections.{BlockGood}

-- a block after a list of entries
abbrev pub block_after : ImageData → ℕ → BlockState → List Entry → BlockState
block_after image b v [] = v
block_after image b v (e ∷ es) = block_after image b (block_step image b v e) es

-- a record with the core that it finds
abbrev pub entry_in : (ℕ → CoreState) → Record → Entry
entry_in c r = record { found = bare (c r.core); did = r }

-- the cores after the first k records
abbrev pub cores_after : ImageData → (ℕ → CoreState) → List Record → ℕ → ℕ → CoreState
cores_after image c rs k = λ n. core_after image n (c n) (take k rs)

module _ (image : ImageData) where
  module _ (N n : ℕ) where
    pub core_more : (c : CoreState) (rs : List Record) (k : ℕ) (r : Record) → slice_get rs k ≡ Some r →
        CoreGood image N n c (take k rs) →
        (n ≡ r.core → Replays image N (core_after image n c (take k rs)) r) → CoreGood image N n c (take (suc k) rs)
    core_more c [] k r e g h = absurd (cc)
    core_more c (x ∷ rs) zero r e g h = let i : r ≡ x = cc in (subst (λ y. n ≡ y.core → Replays image N c y) i h, tt)
    core_more c (x ∷ rs) (suc k) r e g h = (g.0, core_more (core_step image n c x) rs k r e g.1 h)

    pub core_last : (c : CoreState) (rs : List Record) (k : ℕ) (r : Record) → slice_get rs k ≡ Some r →
        CoreGood image N n c (take (suc k) rs) → n ≡ r.core → Replays image N (core_after image n c (take k rs)) r
    core_last c [] k r e g i = absurd (cc)
    core_last c (x ∷ rs) zero r e g i = let j : x ≡ r = cc in subst (λ y. n ≡ y.core → Replays image N c y) j g.0 i
    core_last c (x ∷ rs) (suc k) r e g i = core_last (core_step image n c x) rs k r e g.1 i

  pub core_next : (n : ℕ) (c : CoreState) (rs : List Record) (k : ℕ) (r : Record) → slice_get rs k ≡ Some r →
      core_after image n c (take (suc k) rs) ≡ core_step image n (core_after image n c (take k rs)) r
  core_next n c [] k r e = absurd (cc)
  core_next n c (x ∷ rs) zero r e = let i : x ≡ r = cc in subst (λ y. core_step image n c x ≡ core_step image n c y) i refl
  core_next n c (x ∷ rs) (suc k) r e = core_next n (core_step image n c x) rs k r e

  module _ (b : ℕ) where
    pub block_more : (v : BlockState) (c : ℕ → CoreState) (rs : List Record) (k : ℕ) (r : Record) →
        slice_get rs k ≡ Some r → BlockGood image b v (entries image c (take k rs)) →
        (b ≡ block image (entry_in (cores_after image c rs k) r).found →
        BlockLegal image (block_after image b v (entries image c (take k rs))) (entry_in (cores_after image c rs k) r)) →
        BlockGood image b v (entries image c (take (suc k) rs))
    block_more v c [] k r e g h = absurd (cc)
    block_more v c (x ∷ rs) zero r e g h =
        let i : r ≡ x = cc in
        (subst (λ y. b ≡ block image (bare (c y.core)) → BlockLegal image v (entry_in c y)) i h, tt)
    block_more v c (x ∷ rs) (suc k) r e g h =
        (g.0, block_more (block_step image b v (entry_in c x)) (λ n. core_step image n (c n) x) rs k r e g.1 h)

    pub block_last : (v : BlockState) (c : ℕ → CoreState) (rs : List Record) (k : ℕ) (r : Record) →
        slice_get rs k ≡ Some r → BlockGood image b v (entries image c (take (suc k) rs)) →
        b ≡ block image (entry_in (cores_after image c rs k) r).found →
        BlockLegal image (block_after image b v (entries image c (take k rs))) (entry_in (cores_after image c rs k) r)
    block_last v c [] k r e g i = absurd (cc)
    block_last v c (x ∷ rs) zero r e g i =
        let j : x ≡ r = cc in
        subst (λ y. b ≡ block image (bare (c y.core)) → BlockLegal image v (entry_in c y)) j g.0 i
    block_last v c (x ∷ rs) (suc k) r e g i =
        block_last (block_step image b v (entry_in c x)) (λ n. core_step image n (c n) x) rs k r e g.1 i

    pub block_next : (v : BlockState) (c : ℕ → CoreState) (rs : List Record) (k : ℕ) (r : Record) →
        slice_get rs k ≡ Some r →
        block_after image b v (entries image c (take (suc k) rs))
        ≡ block_step image b (block_after image b v (entries image c (take k rs))) (entry_in (cores_after image c rs k) r)
    block_next v c [] k r e = absurd (cc)
    block_next v c (x ∷ rs) zero r e =
        let i : x ≡ r = cc in
        subst (λ y. block_step image b v (entry_in c x) ≡ block_step image b v (entry_in c y)) i refl
    block_next v c (x ∷ rs) (suc k) r e =
        block_next (block_step image b v (entry_in c x)) (λ n. core_step image n (c n) x) rs k r e
