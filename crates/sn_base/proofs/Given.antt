-- A block of which no segment has an address.
use Rattle.std.proofs.Common.{◌≡◌, ℕ, zero, suc, ◌+◌, ◌<◌, ◌≤◌, Bool, true, false, cond, List, [], ◌∷◌, take, slice_get, Some, replicate}
use Rattle.std.proofs.Common.{refl, sym, ap, ◌∙◌, arith}
use Rattle.sn_base.specs.Image.{SegmentData, byte_at, byte_in, bytes_from, covers}

-- a segment more that doesn't cover the address
pub given_more : (segments : List SegmentData) (k : ℕ) (s : SegmentData) (a : ℕ) → slice_get segments k ≡ Some s → covers s a ≡ false →
    byte_at (take k segments) a ≡ 0 → byte_at (take (suc k) segments) a ≡ 0
given_more [] k s a e c h = absurd (cc)
given_more (t ∷ segments) zero s a e c h = let i : s ≡ t = cc in ap (λ q. cond q (byte_in t a) 0) (ap (λ x. covers x a) (sym i) ∙ c)
given_more (t ∷ segments) (suc k) s a e c h = go (covers t a) h (λ g. given_more segments k s a e c g)
  where
    go : (q : Bool) → cond q (byte_in t a) (byte_at (take k segments) a) ≡ 0 →
        (byte_at (take k segments) a ≡ 0 → byte_at (take (suc k) segments) a ≡ 0) →
        cond q (byte_in t a) (byte_at (take (suc k) segments) a) ≡ 0
    go true g f = g
    go false g f = f g

pub zero_bytes : (n : ℕ) (segments : List SegmentData) (start : ℕ) → ((a : ℕ) → start ≤ a → a < start + n → byte_at segments a ≡ 0) →
    bytes_from n segments start ≡ replicate n 0
zero_bytes zero segments start h = refl
zero_bytes (suc n) segments start h =
    ap (λ b. b ∷ bytes_from n segments (start + 1)) (h start (omega arith) (omega arith))
    ∙ ap (λ bs. 0 ∷ bs) (zero_bytes n segments (start + 1) (λ a l m. h a (omega (arith, l)) (omega (arith, m))))
