-- Beyond memory no byte may be executed.
use Rattle.std.proofs.Common.{◌≡◌, ℕ, suc, ◌+◌, ◌≤◌, ◌&&◌, ◌||◌, Bool, true, false, List, [], ◌∷◌, All, arith, refl}
use Rattle.std.proofs.lemmas.Bool.Decides.{nat_tests}
use Rattle.sn_base.specs.Blocks.{ram_start, ram_size}
use Rattle.sn_base.specs.Image.{SegmentData, IsSegment, covers, is_executable}

covers-outside : (s : SegmentData) (address : ℕ) → IsSegment s → ram_start + ram_size ≤ address → covers s address ≡ false
covers-outside s address h past = grind (arith, nat_tests, h.below)

neither : (exec covered other : Bool) → covered ≡ false → other ≡ false → ((exec && covered) || other) ≡ false
neither true covered other c o = rw (c, o) refl
neither false covered other c o = o

pub is_executable-outside : (segments : List SegmentData) (address : ℕ) → All IsSegment segments → ram_start + ram_size ≤ address →
    is_executable segments address ≡ false
is_executable-outside [] address h past = refl
is_executable-outside (s ∷ segments) address h past = neither s.exec (covers s address) (is_executable segments address)
    (covers-outside s address (h 0 s (omega arith)) past)
    (is_executable-outside segments address (λ k d below. h (suc k) d (omega (arith, below))) past)
