-- How many records all blocks pass: the least of what each part passes.
use Rattle.std.proofs.Common.{◌≡◌, ℕ, suc, ◌%◌, ◌<◌, ◌≤◌, ◌⊎◌, inl, inr, min, List, arith}
use Rattle.std.proofs.lemmas.Bool.{cases_order}
use Rattle.std.proofs.Math.Nat.{mod-lt}
use Rattle.sn_base.specs.Image.{ImageData}
use Rattle.rv_core.specs.declared.step.Record.{Record}
use Rattle.rv_core.specs.Flat.{flat_start, core_at}
use Rattle.sn_consistency.specs.Projections.{block_of_state}
use Rattle.projection_places.specs.Passes.{Passes, BlockPasses, BlocksPass}
use Rattle.projection_places.proofs.Fronts.{block_fewer, passes_both, passes_as}
use Rattle.trace_check.specs.Parts.{PartPasses}

module _ (image : ImageData) (N parts : ℕ) (rs : List Record) where
  -- what the first parts pass
  abbrev pub PartsBelow : ℕ → ℕ → Type 0
  PartsBelow count k = (b : ℕ) → b % parts < count → BlockPasses image b (flat_start image N) rs k

  fewer : (b k m : ℕ) → k ≤ m → BlockPasses image b (flat_start image N) rs m → BlockPasses image b (flat_start image N) rs k
  fewer b k m l g = block_fewer image b (block_of_state (flat_start image N) b) (core_at (flat_start image N)) rs k m l g

  pub parts_none : (limit : ℕ) → Passes (PartsBelow 0) limit limit
  parts_none limit = record { within = omega arith; good = λ b l. absurd (omega (arith, l)); bad = λ l g. absurd (omega (arith, l)) }

  pub parts_more : (limit count p q : ℕ) → Passes (PartsBelow count) limit p → Passes (PartPasses image N parts count rs) limit q →
      Passes (PartsBelow (suc count)) limit (min p q)
  parts_more limit count p q a b =
      passes_as (λ k. PartsBelow count k × PartPasses image N parts count rs k) (PartsBelow (suc count)) to
      (λ k g. ((λ d l. g d (omega (arith, l))), λ d e. g d (omega (arith, e)))) limit (min p q)
      (passes_both (PartsBelow count) (PartPasses image N parts count rs) (λ k m h g. λ d l. fewer d k m h (g d l)) (λ k m h g. λ d e. fewer d k m h (g d e)) limit p q a b)
    where
      to : (k : ℕ) → (PartsBelow count k × PartPasses image N parts count rs k) → PartsBelow (suc count) k
      to k g = λ b l. go b l (cases_order (b % parts) count)
        where
          go : (b : ℕ) → b % parts < suc count → ((b % parts ≡ count) ⊎ ((b % parts < count) ⊎ (count < b % parts))) → BlockPasses image b (flat_start image N) rs k
          go b l (inl e) = g.1 b e
          go b l (inr (inl h)) = g.0 b h
          go b l (inr (inr h)) = absurd (omega (arith, h, l))

  pub parts_all : (limit count p : ℕ) → 0 < parts → count ≡ parts → Passes (PartsBelow count) limit p → Passes (BlocksPass image (flat_start image N) rs) limit p
  parts_all limit count p z e = passes_as (PartsBelow count) (BlocksPass image (flat_start image N) rs) (λ k g. λ b. g b (let l : b % parts < parts = mod-lt b z in omega (arith, e, l))) (λ k g. λ b l. g b) limit p
