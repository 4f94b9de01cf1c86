-- What was seen, as snapshots.
use Rattle.std.proofs.Common.{◌≡◌, ◌⊎◌, inl, inr, ⊎_elim, ℕ, ◌<◌, List, [], ◌∷◌, ◌++◌, map, length, refl, sym, ap, subst, ◌∙◌, arith, get_or}
use Rattle.std.proofs.lemmas.List.{map-append, length-map, get_or-map}
use Rattle.std.specs.List.{All}
use Rattle.snap_board.specs.Snap.{SnapData}
use Rattle.snap_board.specs.Fronts.{Rises, EndsIn}
use Rattle.monitor_run.specs.declared.marks.Mark.{Mark}
use Rattle.monitor_run.specs.Seen.{IsSomeOf, AreSeen, mark_of}
use Rattle.monitor_run.specs.Taken.{AreTaken}

-- the snapshots whose marks were taken
record Lifted (marks : List Mark) (snaps : List SnapData) : Type 0 where
  seen : List SnapData
  are : map mark_of seen ≡ marks
  from : IsSomeOf seen snaps

lift : (snaps : List SnapData) (marks : List Mark) → IsSomeOf marks (map mark_of snaps) → Lifted marks snaps
lift snaps [] h = record { seen = []; are = refl; from = tt }
lift [] (m ∷ marks) h = absurd h
lift (s ∷ snaps) (m ∷ marks) h = ⊎_elim
    (λ (t : (m ≡ mark_of s) × IsSomeOf marks (map mark_of snaps)). let l = lift snaps marks t.1 in record {
      seen = s ∷ l.seen;
      are = ap (λ (x : Mark). x ∷ map mark_of l.seen) (sym t.0) ∙ ap (λ (x : List Mark). m ∷ x) l.are;
      from = inl (refl, l.from);
    })
    (λ (t : IsSomeOf (m ∷ marks) (map mark_of snaps)). let l = lift snaps (m ∷ marks) t in skipped l (shape l.seen l.are l.from)) h
  where
    shape : (seen : List SnapData) → map mark_of seen ≡ m ∷ marks → IsSomeOf seen snaps → IsSomeOf seen (s ∷ snaps)
    shape [] e from = tt
    shape (x ∷ seen) e from = inr from

    skipped : (l : Lifted (m ∷ marks) snaps) → IsSomeOf l.seen (s ∷ snaps) → Lifted (m ∷ marks) (s ∷ snaps)
    skipped l from = record { seen = l.seen; are = l.are; from = from }

-- points grow along some of a list
tail-rises : (s : SnapData) (snaps : List SnapData) → Rises (s ∷ snaps) → Rises snaps
tail-rises s [] h = tt
tail-rises s (t ∷ snaps) h = h.1

later-above : (s : SnapData) (snaps : List SnapData) (x : SnapData) (some : List SnapData) → Rises (s ∷ snaps) → IsSomeOf (x ∷ some) snaps →
    s.point < x.point
later-above s [] x some h from = absurd from
later-above s (t ∷ snaps) x some h from = ⊎_elim
    (λ (e : (x ≡ t) × IsSomeOf some snaps). subst (λ (y : SnapData). s.point < y.point) (sym e.0) h.0)
    (λ (e : IsSomeOf (x ∷ some) snaps). let a = h.0 in let b = later-above t snaps x some h.1 e in omega (arith, a, b)) from

some-rises : (all some : List SnapData) → Rises all → IsSomeOf some all → Rises some
some-rises all [] h from = tt
some-rises [] (x ∷ some) h from = absurd from
some-rises (s ∷ all) (x ∷ []) h from = tt
some-rises (s ∷ all) (x ∷ y ∷ some) h from = ⊎_elim
    (λ (e : (x ≡ s) × IsSomeOf (y ∷ some) all). (
      subst (λ (z : SnapData). z.point < y.point) (sym e.0) (later-above s all y some h e.1),
      some-rises all (y ∷ some) (tail-rises s all h) e.1,
    ))
    (λ (e : IsSomeOf (x ∷ y ∷ some) all). some-rises all (x ∷ y ∷ some) (tail-rises s all h) e) from

-- the last of some is the last of all, or below it
head-below : (s : SnapData) (snaps : List SnapData) (t : SnapData) → Rises (s ∷ snaps ++ t ∷ []) → s.point < t.point
head-below s [] t h = h.0
head-below s (u ∷ snaps) t h = let a = h.0 in let b = head-below u snaps t h.1 in omega (arith, a, b)

none-of : (xs : List SnapData) (x : SnapData) → IsSomeOf (xs ++ x ∷ []) [] → ⊥
none-of [] x h = h
none-of (y ∷ xs) x h = h

last-of : (before xs : List SnapData) (s x : SnapData) → Rises (before ++ s ∷ []) → IsSomeOf (xs ++ x ∷ []) (before ++ s ∷ []) →
    (x ≡ s) ⊎ (x.point < s.point)
last-of [] [] s x h from = ⊎_elim (λ (e : (x ≡ s) × IsSomeOf {A = SnapData} [] []). inl e.0) (λ (e : IsSomeOf (x ∷ []) []). absurd e) from
last-of [] (y ∷ xs) s x h from =
    ⊎_elim (λ (e : (y ≡ s) × IsSomeOf (xs ++ x ∷ []) []). absurd (none-of xs x e.1)) (λ (e : IsSomeOf (y ∷ xs ++ x ∷ []) []). absurd e) from
last-of (b ∷ before) [] s x h from = ⊎_elim
    (λ (e : (x ≡ b) × IsSomeOf [] (before ++ s ∷ [])).
    inr (subst (λ (y : SnapData). y.point < s.point) (sym e.0) (head-below b before s h)))
    (λ (e : IsSomeOf (x ∷ []) (before ++ s ∷ [])). last-of before [] s x (tail-rises b (before ++ s ∷ []) h) e) from
last-of (b ∷ before) (y ∷ xs) s x h from = ⊎_elim
    (λ (e : (y ≡ b) × IsSomeOf (xs ++ x ∷ []) (before ++ s ∷ [])). last-of before xs s x (tail-rises b (before ++ s ∷ []) h) e.1)
    (λ (e : IsSomeOf (y ∷ xs ++ x ∷ []) (before ++ s ∷ [])). last-of before (y ∷ xs) s x (tail-rises b (before ++ s ∷ []) h) e) from

-- a list by its marks
record Snoc (snaps : List SnapData) (m : Mark) : Type 0 where
  before : List SnapData
  last : SnapData
  is : snaps ≡ before ++ last ∷ []
  mark : mark_of last ≡ m

abbrev rest : List Mark → List Mark
rest [] = []
rest (m ∷ marks) = marks

abbrev first_or : List Mark → Mark → Mark
first_or [] d = d
first_or (m ∷ marks) d = m

no-more : (snaps : List SnapData) → map mark_of snaps ≡ [] → snaps ≡ []
no-more [] e = refl
no-more (s ∷ snaps) e = absurd cc

no-snoc : (others : List Mark) (m : Mark) → [] ≡ others ++ m ∷ [] → ⊥
no-snoc [] m e = cc
no-snoc (o ∷ others) m e = cc

snoc-of : (snaps : List SnapData) (others : List Mark) (m : Mark) → map mark_of snaps ≡ others ++ m ∷ [] → Snoc snaps m
snoc-of [] others m e = absurd (no-snoc others m e)
snoc-of (s ∷ snaps) [] m e = record {
  before = [];
  last = s;
  is = ap (λ (l : List SnapData). s ∷ l) (no-more snaps (ap rest e));
  mark = ap (λ (l : List Mark). first_or l m) e;
}
snoc-of (s ∷ snaps) (o ∷ others) m e = let r = snoc-of snaps others m (ap rest e) in
    record { before = s ∷ r.before; last = r.last; is = ap (λ (l : List SnapData). s ∷ l) r.is; mark = r.mark }

module _ (marks : List Mark) (published : List SnapData) (rises : Rises published) (taken : AreTaken marks (map mark_of published)) where
  lifted : Lifted marks published
  lifted = lift published marks taken.from

  above : (k : ℕ) (d : SnapData) → k < length lifted.seen → 0 < (get_or lifted.seen k d).point
  above k d l =
      let many : length (map mark_of lifted.seen) ≡ length lifted.seen = length-map lifted.seen mark_of in
      let h = subst (λ (x : List Mark). All (λ (m : Mark). 0 < m.point) x) (sym lifted.are) taken.above k (mark_of d) (omega (arith, many, l)) in
      subst (λ (m : Mark). 0 < m.point) (get_or-map mark_of lifted.seen k d (mark_of d) l) h

  last : (s : SnapData) → EndsIn published s → 0 < s.point → EndsIn lifted.seen s
  last s ends high =
      let there = taken.last (mark_of s) (map mark_of ends.before, ap (map mark_of) ends.is ∙ map-append mark_of ends.before (s ∷ [])) high in
      let snoc = snoc-of lifted.seen there.0 (mark_of s) (lifted.are ∙ there.1) in
      let same = ap (λ (m : Mark). m.point) snoc.mark in
      let either = last-of ends.before snoc.before s snoc.last (subst Rises ends.is rises)
      (subst (λ (l : List SnapData). IsSomeOf l (ends.before ++ s ∷ [])) snoc.is (subst (λ (l : List SnapData). IsSomeOf lifted.seen l) ends.is lifted.from)) in
      record {
        before = snoc.before;
        is = snoc.is ∙ ap (λ (x : SnapData). snoc.before ++ x ∷ [])
            (⊎_elim (λ (e : snoc.last ≡ s). e) (λ (below : snoc.last.point < s.point). absurd (omega (arith, same, below))) either);
      }

  pub seen-of : (seen : List SnapData) × (map mark_of seen ≡ marks) × AreSeen seen published
  seen-of = (
    lifted.seen,
    lifted.are,
    record { from = lifted.from; above = above; rises = some-rises published lifted.seen rises lifted.from; last = last },
  )
