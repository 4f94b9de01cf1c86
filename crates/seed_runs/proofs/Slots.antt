-- The places of seeds' runs, one of which was taken out.
use Rattle.std.proofs.Common.{◌≡◌, ◌⊎◌, inl, inr, ℕ, ◌+◌, ◌<◌, List, length, get_or, sym, subst, ◌∙◌, arith}
use Rattle.std.specs.Prelude.{Option, None, slice_set}
use Rattle.std.proofs.lemmas.Bool.{cases_order}
use Rattle.std.proofs.lemmas.Grind.{get_or-set_at}
use Rattle.std.proofs.lemmas.List.{get_or-set_other, length-set}
use Rattle.seed_runs.specs.declared.job.SeedRuns.{SeedRuns}
use Rattle.seed_runs.specs.declared.play.Played.{Played}
use Rattle.seed_runs.specs.Played.{IsOfSeed, AreOfSeeds}

module _ (r : SeedRuns) (first : ℕ) (slots : List (Option Played)) (place : ℕ) (left : Option Played) (none : left ≡ None) where
  pub taken-out : place < length slots → AreOfSeeds r first slots → AreOfSeeds r first (slice_set slots place left)
  taken-out inside each = λ n d l. at n d l (cases_order n place)
    where
      nothing : (seed : ℕ) → IsOfSeed r seed None
      nothing seed = tt

      at : (n : ℕ) (d : Option Played) → n < length (slice_set slots place left) → ((n ≡ place) ⊎ ((n < place) ⊎ (place < n))) →
          IsOfSeed r (first + n) (get_or (slice_set slots place left) n d)
      at n d l (inl e) =
          subst (λ (x : Option Played). IsOfSeed r (first + n) x) (sym (get_or-set_at slots place n left d e inside ∙ none))
          (nothing (first + n))
      at n d l (inr (inl h)) =
          let many = length-set slots place left in
          subst (λ (x : Option Played). IsOfSeed r (first + n) x) (sym (get_or-set_other slots place n left d (λ e. omega (arith, h, e))))
          (each n d (omega (arith, l, many)))
      at n d l (inr (inr h)) =
          let many = length-set slots place left in
          subst (λ (x : Option Played). IsOfSeed r (first + n) x) (sym (get_or-set_other slots place n left d (λ e. omega (arith, h, e))))
          (each n d (omega (arith, l, many)))
