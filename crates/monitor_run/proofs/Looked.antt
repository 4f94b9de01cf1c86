-- What was looked at, and what was taken of it.
use Rattle.std.proofs.Common.{◌≡◌, ◌⊎◌, inl, inr, ℕ, ◌+◌, ◌<◌, ◌≤◌, Bool, true, false, nat_lt, List, [], ◌∷◌, ◌++◌, length, get_or, slice_get, refl, sym, ap, subst, ◌∙◌, arith}
use Rattle.std.specs.Prelude.{Some}
use Rattle.std.specs.List.{All, Contains}
use Rattle.std.proofs.lemmas.Bool.Decides.{nat_tests}
use Rattle.std.proofs.Common.{length-append}
use Rattle.std.proofs.lemmas.List.{get_or_default, get_or_append_left}
use Rattle.std.proofs.lemmas.Option.{slice_get_within, slice_get-get_or, get_or_from_slice_get}
use Rattle.std.proofs.lemmas.List.Elements.{All-push, All-weaker, Contains-append_left, Contains-push}
use Rattle.monitor_run.specs.declared.marks.Mark.{Mark}
use Rattle.monitor_run.specs.Taken.{Grow, IsFirstFrom, IsLast}

-- what stands at a place was looked at
pub stands-there : (looks : List Mark) (place : ℕ) (mark : Mark) → slice_get looks place ≡ Some mark → Contains looks mark
stands-there looks place mark is = (place, slice_get_within looks place mark is, get_or_from_slice_get looks place mark mark is)

-- the looks before this place are below all that was published from this index on
abbrev pub IsPassed : List Mark → List Mark → ℕ → ℕ → Type 0
IsPassed published looks index place = Grow published → (i k : ℕ) (d e : Mark) → i < place → i < length looks → index ≤ k → k < length published →
    (get_or looks i d).point < (get_or published k e).point

-- of the first so many that were published, those above point 0 that were looked at were taken
abbrev pub AreTakenUpTo : List Mark → List Mark → ℕ → List Mark → Type 0
AreTakenUpTo published looks index seen = Grow published → Grow looks → (k : ℕ) (d : Mark) → k < index → k < length published →
    0 < (get_or published k d).point → Contains looks (get_or published k d) → Contains seen (get_or published k d)

module _ (published looks : List Mark) (index place found : ℕ) (d : Mark) (there : index < length published)
    (was : IsPassed published looks index place) (first : IsFirstFrom looks place (get_or published index d).point found) where
  -- a look before the place that was found is below
  below : Grow published → (i : ℕ) (e : Mark) (b : Bool) → nat_lt i place ≡ b → i < found → i < length looks →
      (get_or looks i e).point < (get_or published index d).point
  below grow i e true is low inside = was grow i index e d (grind (arith, nat_tests, is)) inside (omega arith) there
  below grow i e false is low inside = first.below i e (grind (arith, nat_tests, is)) low

  pub passed-next : IsPassed published looks (index + 1) found
  passed-next grow i k e f low inside later under =
      let here = below grow i e (nat_lt i place) refl low inside in
      let more = grow index k f (omega (arith, later)) under in
      let same = ap (λ (m : Mark). m.point) (get_or_default published index d f there) in
      omega (arith, here, more, same)

  -- what was looked at stands there
  pub is-there : Grow published → Grow looks → Contains looks (get_or published index d) →
      slice_get looks found ≡ Some (get_or published index d)
  is-there grow risen at =
      at_place (nat_lt at.0 found) refl (nat_lt found at.0) refl (ap (λ (m : Mark). m.point) at.2)
    where
      mark : Mark
      mark = get_or published index d

      at_place : (before : Bool) → nat_lt at.0 found ≡ before → (after : Bool) → nat_lt found at.0 ≡ after →
          (get_or looks at.0 mark).point ≡ mark.point → slice_get looks found ≡ Some mark
      at_place true is after behind point =
          let low = below grow at.0 mark (nat_lt at.0 place) refl (grind (arith, nat_tests, is)) at.1 in absurd (omega (arith, low, point))
      at_place false is true behind point =
          let inside = at.1 in
          let low = risen found at.0 mark (grind (arith, nat_tests, behind)) inside in
          let high = first.there (grind (arith, nat_tests, behind, inside)) mark in absurd (omega (arith, low, high, point))
      at_place false is false behind point =
          let same : at.0 ≡ found = grind (arith, nat_tests, is, behind) in
          subst (λ (i : ℕ). slice_get looks i ≡ Some mark) same
          (slice_get-get_or looks at.0 mark at.1 ∙ ap (λ (m : Mark). Some m) at.2)

module _ (published looks : List Mark) (index : ℕ) (d : Mark) (there : index < length published) (seen : List Mark)
    (were : AreTakenUpTo published looks index seen) where
  pub all-taken : (longer : List Mark) → longer ≡ seen ++ get_or published index d ∷ [] → AreTakenUpTo published looks (index + 1) longer
  all-taken longer is grow risen k e low under high at = which (nat_lt k index) refl
    where
      which : (b : Bool) → nat_lt k index ≡ b → Contains longer (get_or published k e)
      which true before =
          subst (λ (l : List Mark). Contains l (get_or published k e)) (sym is)
          (Contains-append_left seen (get_or published index d ∷ []) (get_or published k e) (were grow risen k e (grind (arith, nat_tests, before)) under high at))
      which false before =
          let same : k ≡ index = grind (arith, nat_tests, before, low) in
          let mark = ap (λ (i : ℕ). get_or published i e) same ∙ get_or_default published index e d there in
          subst (λ (m : Mark). Contains longer m) (sym mark)
          (subst (λ (l : List Mark). Contains l (get_or published index d)) (sym is) (Contains-push seen (get_or published index d)))

  pub all-passed : (Grow published → Grow looks → 0 < (get_or published index d).point → Contains looks (get_or published index d) → ⊥) →
      AreTakenUpTo published looks (index + 1) seen
  all-passed none grow risen k e low under high at = which (nat_lt k index) refl
    where
      which : (b : Bool) → nat_lt k index ≡ b → Contains seen (get_or published k e)
      which true before = were grow risen k e (grind (arith, nat_tests, before)) under high at
      which false before =
          let same : k ≡ index = grind (arith, nat_tests, before, low) in
          let mark = ap (λ (i : ℕ). get_or published i e) same ∙ get_or_default published index e d there in
          absurd (none grow risen (subst (λ (m : Mark). 0 < m.point) mark high) (subst (λ (m : Mark). Contains looks m) mark at))

-- and the last
module _ (published before : List Mark) (last : Mark) (is : published ≡ before ++ last ∷ []) where
  grow-before : Grow published → Grow before
  grow-before grow i j d low high =
      let long = length-append before (last ∷ []) in
      let whole = subst Grow is grow i j d low (omega (arith, high, long)) in
      subst (λ (m : Mark). m.point < (get_or before j d).point) (get_or_append_left before (last ∷ []) d i (omega (arith, low, high)))
      (subst (λ (m : Mark). (get_or (before ++ last ∷ []) i d).point < m.point) (get_or_append_left before (last ∷ []) d j high) whole)

  pub all-seen : (looks seen longer : List Mark) → ((m : Mark) → Contains seen m → Contains longer m) → (0 < last.point → Contains longer last) →
      (Grow before → Grow looks → All (λ (m : Mark). 0 < m.point → Contains looks m → Contains seen m) before) →
      Grow published → Grow looks → All (λ (m : Mark). 0 < m.point → Contains looks m → Contains longer m) published
  all-seen looks seen longer more ends were grow risen =
      subst (λ (l : List Mark). All (λ (m : Mark). 0 < m.point → Contains looks m → Contains longer m) l) (sym is)
      (All-push (λ (m : Mark). 0 < m.point → Contains looks m → Contains longer m) before last
      (All-weaker (λ (m : Mark). 0 < m.point → Contains looks m → Contains seen m)
      (λ (m : Mark). 0 < m.point → Contains looks m → Contains longer m) (λ m h high at. more m (h high at)) before (were (grow-before grow) risen))
      (λ high at. ends high))

  pub looked-or-last : (looks seen longer : List Mark) → longer ≡ seen ++ last ∷ [] → All (λ (m : Mark). Contains looks m) seen →
      All (λ (m : Mark). Contains looks m ⊎ IsLast published m) longer
  looked-or-last looks seen longer e looked =
      subst (λ (l : List Mark). All (λ (m : Mark). Contains looks m ⊎ IsLast published m) l) (sym e)
      (All-push (λ (m : Mark). Contains looks m ⊎ IsLast published m) seen last
      (All-weaker (λ (m : Mark). Contains looks m) (λ (m : Mark). Contains looks m ⊎ IsLast published m) (λ m h. inl h) seen looked) (inr (before, is)))
