-- A block of a memory that is one list of bytes: what is stored in the memory is stored in its block, and a word of the memory is one of its block.
use Rattle.std.proofs.Common.{◌≡◌, ℕ, min, ◌+◌, ◌-◌, ◌*◌, ◌<◌, ◌≤◌, true, false, cond, ◌==◌, ◌⊎◌, inl, inr, List, ◌++◌, length, take, drop}
use Rattle.std.proofs.Common.{get_or, arith, sym, ap, ◌∙◌}
use Rattle.sn_base.specs.Blocks.{stored_in}
use Rattle.std.proofs.lemmas.Bool.Decides.{nat_tests}
use Rattle.std.proofs.lemmas.Bool.{cases_order, cases_lt}
use Rattle.std.proofs.lemmas.List.{places, same_lists, get_or-take, get_or-drop, length-take, length-drop, length-append}

pub length-stored_in : (p : ℕ) (ys xs : List ℕ) → p + length ys ≤ length xs → length (stored_in xs p ys) ≡ length xs
length-stored_in p ys xs l =
    omega (
      arith,
      length-append (take p xs ++ ys) (drop (p + length ys) xs),
      length-append (take p xs) ys,
      length-take p xs,
      length-drop (p + length ys) xs,
    )

over_before : (p : ℕ) (ys xs : List ℕ) (k d : ℕ) → p + length ys ≤ length xs → k < p →
    get_or (stored_in xs p ys) k d ≡ get_or xs k d
over_before p ys xs k d l b = grind (arith, places)

over_inside : (p : ℕ) (ys xs : List ℕ) (k d : ℕ) → p + length ys ≤ length xs → k < length ys →
    get_or (stored_in xs p ys) (p + k) d ≡ get_or ys k d
over_inside p ys xs k d l b = grind (arith, places)

over_after : (p : ℕ) (ys xs : List ℕ) (k d : ℕ) → p + length ys ≤ length xs → p + length ys ≤ k →
    get_or (stored_in xs p ys) k d ≡ get_or xs k d
over_after p ys xs k d l b = grind (arith, places)

-- 64 bytes from place 64 b on
abbrev pub part : List ℕ → ℕ → List ℕ
part m b = take 64 (drop (64 * b) m)

length-part : (m : List ℕ) (b : ℕ) → length (part m b) ≡ min 64 (length m - 64 * b)
length-part m b = length-take 64 (drop (64 * b) m) ∙ ap (min 64) (length-drop (64 * b) m)

pub part_at : (m : List ℕ) (b k d : ℕ) → k < 64 → get_or (part m b) k d ≡ get_or m (64 * b + k) d
part_at m b k d l = get_or-take 64 (drop (64 * b) m) k d l ∙ get_or-drop (64 * b) m k d

module _ (m ys : List ℕ) (q i : ℕ) (l : i + length ys ≤ 64) (fits : 64 * q + i + length ys ≤ length m) where
  same_length : (b : ℕ) → length (part (stored_in m (64 * q + i) ys) b) ≡ length (part m b)
  same_length b =
      length-part (stored_in m (64 * q + i) ys) b ∙ ap (λ n. min 64 (n - 64 * b)) (length-stored_in (64 * q + i) ys m (omega arith))
      ∙ sym (length-part m b)

  inside : i + length ys ≤ length (part m q)
  inside = omega (arith, length-part m q)

  here : part (stored_in m (64 * q + i) ys) q ≡ stored_in (part m q) i ys
  here =
      same_lists (part (stored_in m (64 * q + i) ys) q) (stored_in (part m q) i ys)
      (same_length q ∙ sym (length-stored_in i ys (part m q) inside))
      (λ k d h. go k d (omega (arith, same_length q, length-part m q)) (cases_lt k i) (cases_lt k (i + length ys)))
    where
      go : (k d : ℕ) → k < 64 → ((k < i) ⊎ (i ≤ k)) → ((k < i + length ys) ⊎ (i + length ys ≤ k)) →
          get_or (part (stored_in m (64 * q + i) ys) q) k d ≡ get_or (stored_in (part m q) i ys) k d
      go k d s (inl a) c =
          part_at (stored_in m (64 * q + i) ys) q k d s ∙ over_before (64 * q + i) ys m (64 * q + k) d (omega arith) (omega arith)
          ∙ sym (part_at m q k d s) ∙ sym (over_before i ys (part m q) k d inside a)
      go k d s (inr a) (inl c) =
          let e : 64 * q + k ≡ 64 * q + i + (k - i) = omega arith in
          let u : k ≡ i + (k - i) = omega arith in
          part_at (stored_in m (64 * q + i) ys) q k d s ∙ ap (λ j. get_or (stored_in m (64 * q + i) ys) j d) e
          ∙ over_inside (64 * q + i) ys m (k - i) d (omega arith) (omega arith)
          ∙ sym (over_inside i ys (part m q) (k - i) d inside (omega arith)) ∙ ap (λ j. get_or (stored_in (part m q) i ys) j d) (sym u)
      go k d s (inr a) (inr c) =
          part_at (stored_in m (64 * q + i) ys) q k d s ∙ over_after (64 * q + i) ys m (64 * q + k) d (omega arith) (omega arith)
          ∙ sym (part_at m q k d s) ∙ sym (over_after i ys (part m q) k d inside c)

  there : (b : ℕ) → (b < q) ⊎ (q < b) → part (stored_in m (64 * q + i) ys) b ≡ part m b
  there b o =
      same_lists (part (stored_in m (64 * q + i) ys) b) (part m b) (same_length b)
      (λ k d h. go k d (omega (arith, same_length b, length-part m b)) o)
    where
      go : (k d : ℕ) → k < 64 → (b < q) ⊎ (q < b) →
          get_or (part (stored_in m (64 * q + i) ys) b) k d ≡ get_or (part m b) k d
      go k d s (inl a) =
          part_at (stored_in m (64 * q + i) ys) b k d s ∙ over_before (64 * q + i) ys m (64 * b + k) d (omega arith) (omega arith)
          ∙ sym (part_at m b k d s)
      go k d s (inr a) =
          part_at (stored_in m (64 * q + i) ys) b k d s ∙ over_after (64 * q + i) ys m (64 * b + k) d (omega arith) (omega arith)
          ∙ sym (part_at m b k d s)

  pub part-stored_in : (b : ℕ) →
      part (stored_in m (64 * q + i) ys) b ≡ cond (b == q) (stored_in (part m b) i ys) (part m b)
  part-stored_in b = go (cases_order b q)
    where
      go : ((b ≡ q) ⊎ ((b < q) ⊎ (q < b))) →
          part (stored_in m (64 * q + i) ys) b ≡ cond (b == q) (stored_in (part m b) i ys) (part m b)
      go (inl e) =
          let t : (b == q) ≡ true = grind (arith, nat_tests) in
          rw t (ap (part (stored_in m (64 * q + i) ys)) e ∙ here ∙ ap (λ c. stored_in (part m c) i ys) (sym e))
      go (inr o) =
          let t : (b == q) ≡ false = not_same o in
          rw t (there b o)
        where
          not_same : (b < q) ⊎ (q < b) → (b == q) ≡ false
          not_same (inl a) = grind (arith, nat_tests)
          not_same (inr a) = grind (arith, nat_tests)
