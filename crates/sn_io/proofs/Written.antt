-- What writes add up to.
use Rattle.std.proofs.Common.{◌≡◌, ℕ, ◌+◌, ◌-◌, ap, sym, ◌∙◌, List, [], ◌++◌, take, drop, length, Option, Some, None}
use Rattle.std.proofs.Math.Seq.{take-add, take-length}
use Rattle.std.proofs.lemmas.List.{length-drop, append_assoc, append-nil}
use Rattle.std.specs.Io.KnownBytes.{Appends, Keeps}

-- the rest of a list, as a slice has it
rest-of : (n i : ℕ) (xs : List ℕ) → take n (take (length xs - i) (drop i xs)) ≡ take n (drop i xs)
rest-of n i xs = ap (take n) (ap (λ m. take m (drop i xs)) (sym (length-drop i xs)) ∙ take-length (drop i xs))

-- the first bytes, and then a write that takes some of the others
pub appends-more : (a b c : Option (List ℕ)) (xs : List ℕ) (i n : ℕ) → Appends a b (take i xs)
    → Appends b c (take n (take (length xs - i) (drop i xs))) → Appends a c (take (i + n) xs)
appends-more None b c xs i n had more = tt
appends-more (Some x) None c xs i n had more = absurd had
appends-more (Some x) (Some y) None xs i n had more = absurd more
appends-more (Some x) (Some y) (Some z) xs i n had more =
    more ∙ ap (λ t. y ++ t) (rest-of n i xs) ∙ ap (λ t. t ++ take n (drop i xs)) had
    ∙ append_assoc x (take i xs) (take n (drop i xs)) ∙ ap (λ t. x ++ t) (sym (take-add i n xs))

-- the first bytes, and then a write that fails
pub appends-kept : (a b c : Option (List ℕ)) (xs : List ℕ) → Appends a b xs → Keeps b c → Appends a c xs
appends-kept None b c xs had kept = tt
appends-kept (Some x) None c xs had kept = absurd had
appends-kept (Some x) (Some y) None xs had kept = absurd kept
appends-kept (Some x) (Some y) (Some z) xs had kept = kept ∙ had

pub appends-nothing : (a : Option (List ℕ)) → Appends a a []
appends-nothing None = tt
appends-nothing (Some x) = sym (append-nil x)
