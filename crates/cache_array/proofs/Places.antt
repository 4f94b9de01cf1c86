-- The first place that passes a test, and a part of a list.
use Rattle.std.proofs.Common.{◌≡◌, ℕ, ◌+◌, ◌-◌, ◌<◌, ◌≤◌, Bool, true, false, cond, List, length, get_or, drop, Some, None, refl, ◌∙◌, arith}
use Rattle.std.proofs.Common.{length-drop}
use Rattle.std.specs.Prelude.{nat_lt, slice_range}
use Rattle.std.specs.List.{position, position_or_len}
use Rattle.std.proofs.lemmas.Bool.Decides.{nat_tests}
use Rattle.std.proofs.lemmas.List.{get_or-take, get_or-drop, length-take-le}
use Rattle.std.proofs.lemmas.List.Sums.{fails_before_first}

none_past : (c : Bool) (n : ℕ) → cond c (Some n) None ≡ None → c ≡ false
none_past true n h = cc
none_past false n h = refl

-- where no place was found, none passes
pub position-None : {X : Type 0} (p : X → Bool) (xs : List X) (k : ℕ) (d : X) → position p xs ≡ None → k < length xs →
    p (get_or xs k d) ≡ false
position-None p xs k d h l =
    let t = none_past (nat_lt (position_or_len p xs) (length xs)) (position_or_len p xs) h in
    let m : length xs ≤ position_or_len p xs = grind (arith, nat_tests) in
    fails_before_first p xs k d (omega arith)

-- an element of a part of a list
pub get_or-range : {X : Type 0} (xs : List X) (a b k : ℕ) (d : X) → a + k < b → get_or (slice_range xs a b) k d ≡ get_or xs (a + k) d
get_or-range xs a b k d h = get_or-take (b - a) (drop a xs) k d (omega arith) ∙ get_or-drop a xs k d

pub length-range : {X : Type 0} (xs : List X) (a b : ℕ) → b ≤ length xs → length (slice_range xs a b) ≡ b - a
length-range xs a b h = length-take-le (b - a) (drop a xs) (omega (arith, length-drop a xs))
