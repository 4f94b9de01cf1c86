-- The reports are the first numbers of an array of sixteen.
use Rattle.std.proofs.Common.{◌≡◌, ℕ, zero, suc, ◌+◌, ◌≤◌, ◌<◌, max, List, [], ◌∷◌, Some, None, Ok, Err, length, take, set, get_or}
use Rattle.std.proofs.Common.{replicate, refl, sym, ap, ◌∙◌, arith}
use Rattle.std.proofs.lemmas.List.{get_or-take, length-take, take-replicate}
use Rattle.std.proofs.lemmas.List.Quantifiers.{position-Some}
use Rattle.std.specs.Prelude.{nat_le}
use Rattle.validation.specs.Ready.{Reports, least_behind, next_point_of, next_or_behind}

pub set-take : (n i : ℕ) (xs : List ℕ) (y : ℕ) → i < n → take n (set xs i y) ≡ set (take n xs) i y
set-take zero i xs y l = absurd (omega arith)
set-take (suc n) i [] y l = refl
set-take (suc n) zero (x ∷ xs) y l = refl
set-take (suc n) (suc i) (x ∷ xs) y l = ap (λ (zs : List ℕ). x ∷ zs) (set-take n i xs y (omega arith))

abbrev pub reports : ℕ → List ℕ → Reports
reports point reported = record { point = point; reported = reported }

-- each of the nodes stands at the same checkpoint
pub all_at : (point x n m : ℕ) → n ≤ 16 → m ≡ n → reports point (take m (replicate 16 x)) ≡ reports point (replicate n x)
all_at point x n m l e = ap (reports point) (rw e (take-replicate n 16 x l))

pub all_again : (point n : ℕ) (rs : List ℕ) (v : Reports) → reports point (take n rs) ≡ v → n ≤ 16 → length rs ≡ 16 →
    reports point (take n (replicate 16 point)) ≡ reports v.point (replicate (length v.reported) v.point)
all_again point n rs v e l m =
    rw (← e) (ap (reports point) (take-replicate n 16 point l ∙ ap (λ (k : ℕ). replicate k point) (sym (length-take n rs ∙ omega arith))))

pub one_more : (point n i k : ℕ) (rs : List ℕ) (v : Reports) → reports point (take n rs) ≡ v → i < length v.reported →
    reports point (take n (set rs i (max (get_or rs i 0) k))) ≡ reports v.point (set v.reported i (max (get_or v.reported i 0) k))
one_more point n i k rs v e l =
    let f : length (take n rs) ≡ length v.reported = ap (λ (x : Reports). length x.reported) e in
    let h : i < n = omega (arith, length-take n rs) in
    rw (← e) (ap (reports point)
    (set-take n i rs (max (get_or rs i 0) k) h ∙ ap (λ (x : ℕ). set (take n rs) i (max x k)) (sym (get_or-take n rs i 0 h))))

pub ready-checked : (point n : ℕ) (rs : List ℕ) (v : Reports) → reports point (take n rs) ≡ v → least_behind point (take n rs) ≡ None →
    Ok (point + 1) ≡ next_point_of v
ready-checked point n rs v e h = rw (← e) (ap (next_or_behind (reports point (take n rs))) (sym h))

pub behind-checked : (point n i : ℕ) (rs : List ℕ) (v : Reports) → reports point (take n rs) ≡ v → least_behind point (take n rs) ≡ Some i →
    Err (record { node = i; reported = get_or rs i 0 }) ≡ next_point_of v
behind-checked point n i rs v e h =
    let m : i < length (take n rs) = (position-Some (λ k. nat_le k point) (take n rs) i 0 h).0 in
    let l : i < n = omega (arith, length-take n rs) in
    rw (← e) (ap (λ (x : ℕ). Err (record { node = i; reported = x })) (sym (get_or-take n rs i 0 l))
    ∙ ap (next_or_behind (reports point (take n rs))) (sym h))
