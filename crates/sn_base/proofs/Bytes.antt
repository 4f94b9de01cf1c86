-- The bytes with which a block begins.
use Rattle.std.proofs.Common.{◌≡◌, ℕ, zero, suc, ◌+◌, ◌<◌, List, [], ◌∷◌, ◌++◌, length, take, drop, refl, ap, ◌∙◌, arith, add-zero, add-one}
use Rattle.std.proofs.Common.{length-append, length-take, length-drop}
use Rattle.std.proofs.Math.Seq.{take-append_seam}
use Rattle.sn_base.specs.Blocks.{stored_in}
use Rattle.sn_base.specs.Image.{SegmentData, byte_at, bytes_from}

at_next : (segments : List SegmentData) (start n : ℕ) → byte_at segments (start + 1 + n) ≡ byte_at segments (start + suc n)
at_next segments start n = let e : start + 1 + n ≡ start + suc n = omega arith in ap (byte_at segments) e

bytes_after : (n : ℕ) (segments : List SegmentData) (start : ℕ) →
    bytes_from (suc n) segments start ≡ bytes_from n segments start ++ byte_at segments (start + n) ∷ []
bytes_after zero segments start = rw (add-zero start) refl
bytes_after (suc n) segments start =
    ap (λ xs. byte_at segments start ∷ xs)
    (bytes_after n segments (start + 1) ∙ ap (λ b. bytes_from n segments (start + 1) ++ b ∷ []) (at_next segments start n))

-- one byte more
pub bytes_more : (n : ℕ) (segments : List SegmentData) (start : ℕ) →
    bytes_from (n + 1) segments start ≡ bytes_from n segments start ++ byte_at segments (start + n) ∷ []
bytes_more n segments start = ap (λ k. bytes_from k segments start) (add-one n) ∙ bytes_after n segments start

length_stored : (old : List ℕ) (n b : ℕ) → n < length old → length (stored_in old n (b ∷ [])) ≡ length old
length_stored old n b h = simp (length-append, length-take, length-drop) (omega arith)

seam : (xs ys : List ℕ) (n : ℕ) → length xs ≡ n → take n (xs ++ ys) ≡ xs
seam xs ys n h = rw (← h) (take-append_seam xs ys)

-- a byte that is stored after those that are there
pub stored_more : (old : List ℕ) (n b : ℕ) → n < length old → take (n + 1) (stored_in old n (b ∷ [])) ≡ take n old ++ b ∷ []
stored_more old n b h = seam (take n old ++ b ∷ []) (drop (n + 1) old) (n + 1) (simp (length-append, length-take) (omega arith))

pub whole_stored : (old : List ℕ) (n b : ℕ) → length old ≡ 64 → n < 64 → length (stored_in old n (b ∷ [])) ≡ 64
whole_stored old n b h l = length_stored old n b (omega arith) ∙ h
