-- How the table of mnemonics is gone through.
use Rattle.std.proofs.Common.{◌≡◌, ℕ, ◌+◌, ◌<◌, ◌≤◌, Bool, true, false, List, length, get_or, drop, find, Some, None}
use Rattle.std.proofs.lemmas.List.{drop_more, drop_all}

pub find-found : {X : Type 0} (test : X → Bool) (xs : List X) (i : ℕ) (d : X) → i < length xs → test (get_or xs i d) ≡ true →
    find test (drop i xs) ≡ Some (get_or xs i d)
find-found test xs i d inside passes = rw (drop_more xs i d inside, passes)

pub find-next : {X : Type 0} (test : X → Bool) (xs : List X) (i : ℕ) (d : X) → i < length xs → test (get_or xs i d) ≡ false →
    find test (drop i xs) ≡ find test (drop (i + 1) xs)
find-next test xs i d inside fails = rw (drop_more xs i d inside, fails)

pub find-none : {X : Type 0} (test : X → Bool) (xs : List X) (i : ℕ) → length xs ≤ i → find test (drop i xs) ≡ None
find-none test xs i outside = rw (drop_all i xs outside)
