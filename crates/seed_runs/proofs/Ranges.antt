-- The blocks of a range, block after block.
use Rattle.std.proofs.Common.{◌≡◌, ℕ, zero, suc, ◌+◌, ◌-◌, ◌<◌, ◌≤◌, List, [], ◌∷◌, ◌++◌, refl, ap, sym, subst, ◌∙◌, arith, append_assoc, append-nil}
use Rattle.sink_pieces.specs.Pieces.{Piece, Ends, after, Breaks}
use Rattle.sink_pieces.proofs.PieceLaws.{after-append, after-nil}
use Rattle.seed_runs.specs.declared.job.SeedRuns.{SeedRuns}
use Rattle.seed_runs.specs.Pieces.{seed_pieces, seeds_pieces, seeds_in, pieces_due}
use Rattle.seed_runs.specs.Shown.{MayBegin, AreLawful, AreShown, AreBrokenOff, AreLeftOff}
use Rattle.seed_runs.proofs.Blocks.{both-put, first-breaks, last-breaks}

-- a range that is parted
parted : (r : SeedRuns) (some more all first next : ℕ) → all ≡ some + more → next ≡ first + some →
    seeds_pieces r first all ≡ seeds_pieces r first some ++ seeds_pieces r next more
unfolding seeds_pieces
parted r zero more all first next many at =
    ap (λ (n : ℕ). seeds_pieces r first n) (omega (arith, many)) ∙ ap (λ (n : ℕ). seeds_pieces r n more) (omega (arith, at))
parted r (suc some) more all first next many at =
    let longer : all ≡ suc (some + more) = omega (arith, many) in
    let behind : next ≡ first + 1 + some = omega (arith, at) in
    ap (λ (n : ℕ). seeds_pieces r first n) longer
    ∙ ap (λ t. seed_pieces r first ++ t) (parted r some more (some + more) (first + 1) next refl behind)
    ∙ sym (append_assoc (seed_pieces r first) (seeds_pieces r (first + 1) some) (seeds_pieces r next more))

pub ranges-parted : (r : SeedRuns) (first some more : ℕ) →
    seeds_pieces r first (some + more) ≡ seeds_pieces r first some ++ seeds_pieces r (first + some) more
ranges-parted r first some more = parted r some more (some + more) first (first + some) refl refl

pub one-block : (r : SeedRuns) (seed : ℕ) → seeds_pieces r seed 1 ≡ seed_pieces r seed
unfolding seeds_pieces
one-block r seed = append-nil (seed_pieces r seed)

-- those of the first seeds are the first of all
pub first-of_all : (r : SeedRuns) (first some all : ℕ) → some ≤ all →
    seeds_pieces r first all ≡ seeds_pieces r first some ++ seeds_pieces r (first + some) (all - some)
first-of_all r first some all few =
    let many : all ≡ some + (all - some) = omega (arith, few) in
    parted r some (all - some) all first (first + some) many refl

pub none-put : (r : SeedRuns) (first : ℕ) (e : Ends) → e ≡ after e (seeds_pieces r first 0)
unfolding seeds_pieces
none-put r first e = sym (after-nil e)

-- the blocks of so many seeds, and of those behind them
module _ (r : SeedRuns) (first place : ℕ) (before now_ behind : Ends) (had : now_ ≡ after before (seeds_pieces r first place)) where
  pub group-put : (done : ℕ) → behind ≡ after now_ (seeds_pieces r (first + place) done) →
      behind ≡ after before (seeds_pieces r first (place + done))
  group-put done put =
      both-put (seeds_pieces r first place) (seeds_pieces r (first + place) done) before now_ behind had put
      ∙ ap (after before) (sym (ranges-parted r first place done))

  pub next-put : behind ≡ after now_ (seed_pieces r (first + place)) → behind ≡ after before (seeds_pieces r first (place + 1))
  next-put put = group-put 1 (put ∙ ap (after now_) (sym (one-block r (first + place))))

  -- a sink broke in one of those
  pub group-breaks : (count all : ℕ) → place + count ≤ all → Breaks (seeds_pieces r (first + place) count) now_ behind →
      Breaks (seeds_pieces r first all) before behind
  group-breaks count all below broken =
      let some : Breaks (seeds_pieces r first (place + count)) before behind =
      subst (λ (t : List Piece). Breaks t before behind) (sym (ranges-parted r first place count))
      (last-breaks (seeds_pieces r first place) (seeds_pieces r (first + place) count) before now_ behind had broken) in
      subst (λ (t : List Piece). Breaks t before behind) (sym (first-of_all r first (place + count) all below))
      (first-breaks (seeds_pieces r first (place + count)) (seeds_pieces r (first + (place + count)) (all - (place + count))) before
      behind some)

  pub next-breaks : (all : ℕ) → place < all → Breaks (seed_pieces r (first + place)) now_ behind →
      Breaks (seeds_pieces r first all) before behind
  next-breaks all below broken =
      group-breaks 1 all (omega (arith, below))
      (subst (λ (t : List Piece). Breaks t now_ behind) (sym (one-block r (first + place))) broken)

-- the same where none is put yet
module _ (r : SeedRuns) (first done : ℕ) (before now_ behind : Ends) (had : now_ ≡ after before (seeds_pieces r first done)) (none : done ≡ 0) where
  none-yet : now_ ≡ after before (seeds_pieces r first 0)
  none-yet = had ∙ ap (λ (n : ℕ). after before (seeds_pieces r first n)) none

  pub still-none : now_ ≡ before
  still-none = none-yet ∙ sym (none-put r first before)

  first-of : first ≡ first + 0
  first-of = omega arith

  pub first-put : behind ≡ after now_ (seed_pieces r first) → behind ≡ after before (seeds_pieces r first 1)
  first-put put =
      next-put r first 0 before now_ behind none-yet (subst (λ (n : ℕ). behind ≡ after now_ (seed_pieces r n)) first-of put)

  pub first-breaks_off : (all : ℕ) → 0 < all → Breaks (seed_pieces r first) now_ behind → Breaks (seeds_pieces r first all) before behind
  first-breaks_off all some broken =
      next-breaks r first 0 before now_ behind none-yet all some
      (subst (λ (n : ℕ). Breaks (seed_pieces r n) now_ behind) first-of broken)

module _ (r : SeedRuns) (place : ℕ) (before now_ behind : Ends) (had : now_ ≡ after before (seeds_pieces r r.first place)) (lawful : AreLawful r) where
  pub broken-off : (count : ℕ) → place + count ≤ seeds_in r → Breaks (seeds_pieces r (r.first + place) count) now_ behind →
      AreBrokenOff r before behind
  broken-off count below broken = record {
    broken = group-breaks r r.first place before now_ behind had count (seeds_in r) below broken;
    lawful = lawful;
  }

  -- memory was wanted for the next
  pub left-off : place < seeds_in r → behind ≡ now_ → AreLeftOff r before behind
  left-off below same = record { done = place; few = below; put = same ∙ had; lawful = lawful }

-- there is no next
pub all-shown : (r : SeedRuns) (place : ℕ) (before behind : Ends) → behind ≡ after before (seeds_pieces r r.first place) →
    place ≡ seeds_in r → AreLawful r → AreShown r before behind
all-shown r place before behind had all lawful = record {
  put = had ∙ ap (λ (n : ℕ). after before (seeds_pieces r r.first n)) all;
  lawful = lawful;
}
