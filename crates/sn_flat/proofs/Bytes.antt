-- The bytes that memory begins with, one after the other.
use Rattle.std.proofs.Common.{◌≡◌, ℕ, zero, suc, ◌+◌, List, [], ◌∷◌, ◌++◌, length, arith, refl, ap, ◌∙◌}
use Rattle.sn_base.specs.Blocks.{ram_start, ram_size}
use Rattle.sn_base.specs.Image.{ImageData, SegmentData, byte_at, bytes_from}
use Rattle.rv_core.specs.Flat.{initial_memory}

-- one more byte
pub bytes_from-push : (n : ℕ) (segments : List SegmentData) (address : ℕ) →
    bytes_from n segments address ++ byte_at segments (address + n) ∷ [] ≡ bytes_from (suc n) segments address
bytes_from-push zero segments address = ap (λ a. byte_at segments a ∷ []) (omega arith)
bytes_from-push (suc n) segments address =
    ap (λ bytes. byte_at segments address ∷ bytes)
    (ap (λ a. bytes_from n segments (address + 1) ++ byte_at segments a ∷ []) (omega arith) ∙ bytes_from-push n segments (address + 1))

-- more bytes
pub bytes_from-more : (m n : ℕ) (segments : List SegmentData) (address : ℕ) →
    bytes_from m segments address ++ bytes_from n segments (address + m) ≡ bytes_from (m + n) segments address
bytes_from-more zero n segments address =
    let e : address + 0 ≡ address = omega arith in
    let f : n ≡ 0 + n = omega arith in
    ap (λ a. bytes_from n segments a) e ∙ ap (λ k. bytes_from k segments address) f
bytes_from-more (suc m) n segments address =
    let e : address + suc m ≡ address + 1 + m = omega arith in
    let f : suc (m + n) ≡ suc m + n = omega arith in
    ap (λ a. byte_at segments address ∷ (bytes_from m segments (address + 1) ++ bytes_from n segments a)) e
    ∙ ap (λ bytes. byte_at segments address ∷ bytes) (bytes_from-more m n segments (address + 1))
    ∙ ap (λ k. bytes_from k segments address) f

length-bytes_from : (n : ℕ) (segments : List SegmentData) (address : ℕ) → length (bytes_from n segments address) ≡ n
length-bytes_from zero segments address = refl
length-bytes_from (suc n) segments address = ap suc (length-bytes_from n segments (address + 1))

pub length-initial_memory : (image : ImageData) → length (initial_memory image) ≡ ram_size
unfolding initial_memory
length-initial_memory image = length-bytes_from ram_size image.segments ram_start

-- all of them are there
pub all-bytes : (image : ImageData) (n : ℕ) → n ≡ ram_size → bytes_from n image.segments ram_start ≡ initial_memory image
unfolding initial_memory
all-bytes image n e = ap (λ m. bytes_from m image.segments ram_start) e
