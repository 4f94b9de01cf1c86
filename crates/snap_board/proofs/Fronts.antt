-- Laws of lists of snapshots.
use Rattle.std.proofs.Common.{◌≡◌, ◌<◌, ◌≤◌, List, [], ◌∷◌, ◌++◌, refl, sym, subst, ap, ◌∙◌, append_assoc, append-nil, le_refl, ◌⊎◌, ⊎_elim, arith}
use Rattle.sn_consistency.specs.Committed.{Begins}
use Rattle.snap_board.specs.Snap.{SnapData}
use Rattle.snap_board.specs.Fronts.{Rises, EndsIn}

-- the last snapshot, or one that stands in
abbrev pub last_or : List SnapData → SnapData → SnapData
last_or [] d = d
last_or (s ∷ snaps) d = last_or snaps s

last_snoc : (snaps : List SnapData) (s d : SnapData) → last_or (snaps ++ s ∷ []) d ≡ s
last_snoc [] s d = refl
last_snoc (t ∷ snaps) s d = last_snoc snaps s t

pub last_of : (snaps : List SnapData) (s d : SnapData) → EndsIn snaps s → last_or snaps d ≡ s
last_of snaps s d e = ap (λ l. last_or l d) e.is ∙ last_snoc e.before s d

-- there is one last
pub one_last : (snaps : List SnapData) (s t : SnapData) → EndsIn snaps s → EndsIn snaps t → s ≡ t
one_last snaps s t a b = sym (last_of snaps s s a) ∙ last_of snaps t s b

-- a later one may be added
snoc_rises : (before : List SnapData) (s t : SnapData) → Rises (before ++ s ∷ []) → s.point < t.point → Rises ((before ++ s ∷ []) ++ t ∷ [])
snoc_rises [] s t h below = (below, tt)
snoc_rises (a ∷ []) s t h below = (h.0, (below, tt))
snoc_rises (a ∷ b ∷ before) s t h below = (h.0, snoc_rises (b ∷ before) s t h.1 below)

pub added_rises : (snaps : List SnapData) (s t : SnapData) → EndsIn snaps s → Rises snaps → s.point < t.point → Rises (snaps ++ t ∷ [])
added_rises snaps s t e h below =
    subst (λ (l : List SnapData). Rises (l ++ t ∷ [])) (sym e.is) (snoc_rises e.before s t (subst Rises e.is h) below)

-- what comes later isn't below
tail_rises : (s : SnapData) (snaps : List SnapData) → Rises (s ∷ snaps) → Rises snaps
tail_rises s [] h = tt
tail_rises s (t ∷ snaps) h = h.1

rest_rises : (before snaps : List SnapData) → Rises (before ++ snaps) → Rises snaps
rest_rises [] snaps h = h
rest_rises (s ∷ before) snaps h = rest_rises before snaps (tail_rises s (before ++ snaps) h)

first_below : (s : SnapData) (snaps : List SnapData) → Rises (s ∷ snaps) → s.point ≤ (last_or snaps s).point
first_below s [] h = le_refl s.point
first_below s (t ∷ snaps) h = let a = h.0 in let b = first_below t snaps h.1 in omega (arith, a, b)

last_append : (before snaps : List SnapData) (s d : SnapData) → last_or (before ++ s ∷ snaps) d ≡ last_or snaps s
last_append [] snaps s d = refl
last_append (t ∷ before) snaps s d = last_append before snaps s t

longer : (before more : List SnapData) (s t : SnapData) → Rises ((before ++ s ∷ []) ++ more) → EndsIn ((before ++ s ∷ []) ++ more) t →
    s.point ≤ t.point
longer before more s t h e =
    let same : (before ++ s ∷ []) ++ more ≡ before ++ s ∷ more = append_assoc before (s ∷ []) more in
    let a = first_below s more (rest_rises before (s ∷ more) (subst Rises same h)) in
    let b : last_or more s ≡ t = sym (last_append before more s s) ∙ sym (ap (λ l. last_or l s) same) ∙ last_of ((before ++ s ∷ []) ++ more) t s e in
    subst (λ (u : SnapData). s.point ≤ u.point) b a

pub later_last : (front snaps : List SnapData) (s t : SnapData) → Begins front snaps → Rises snaps → EndsIn front s → EndsIn snaps t →
    s.point ≤ t.point
later_last front snaps s t begins h e f =
    let is : snaps ≡ (e.before ++ s ∷ []) ++ begins.more = begins.is ∙ ap (λ l. l ++ begins.more) e.is in
    longer e.before begins.more s t (subst Rises is h) (subst (λ (l : List SnapData). EndsIn l t) is f)

pub ends_one : (snaps : List SnapData) (s : SnapData) → snaps ≡ s ∷ [] → EndsIn snaps s
ends_one snaps s e = record { before = []; is = e }

pub ends_added : (front snaps : List SnapData) (s : SnapData) → snaps ≡ front ++ s ∷ [] → EndsIn snaps s
ends_added front snaps s e = record { before = front; is = e }

-- nothing stands behind a snapshot whose point isn't below the last
strictly : (before more : List SnapData) (s x t : SnapData) → Rises ((before ++ s ∷ []) ++ x ∷ more) → EndsIn ((before ++ s ∷ []) ++ x ∷ more) t →
    s.point < t.point
strictly before more s x t h e =
    let same : (before ++ s ∷ []) ++ x ∷ more ≡ before ++ s ∷ x ∷ more = append_assoc before (s ∷ []) (x ∷ more) in
    let r = rest_rises before (s ∷ x ∷ more) (subst Rises same h) in
    let a = r.0 in
    let b = first_below x more r.1 in
    let c : last_or more x ≡ t = sym (last_append before (x ∷ more) s s) ∙ sym (ap (λ l. last_or l s) same) ∙ last_of ((before ++ s ∷ []) ++ x ∷ more) t s e in
    let d = ap (λ (u : SnapData). u.point) c in omega (arith, a, b, d)

pub one_point : (front snaps : List SnapData) (s t : SnapData) → Begins front snaps → Rises snaps → EndsIn front s → EndsIn snaps t →
    t.point ≤ s.point → EndsIn snaps s
one_point front snaps s t begins h e f below = go begins.more begins.is
  where
    go : (more : List SnapData) → snaps ≡ front ++ more → EndsIn snaps s
    go [] is = record { before = e.before; is = is ∙ append-nil front ∙ e.is }
    go (x ∷ more) is =
        let all : snaps ≡ (e.before ++ s ∷ []) ++ x ∷ more = is ∙ ap (λ l. l ++ x ∷ more) e.is in
        let a = strictly e.before more s x t (subst Rises all h) (subst (λ (l : List SnapData). EndsIn l t) all f) in
        absurd (omega (arith, a, below))

-- the longer of two beginnings ends in the later of their last snapshots
module _ (front list after : List SnapData) (s t : SnapData) (f : Begins front after) (l : Begins list after) (rises : Rises after) (longer : (after ≡ front) ⊎ (after ≡ list)) (ends : EndsIn front s) (listed : EndsIn list t) where
  pub ends_later : s.point < t.point → EndsIn after t
  ends_later below = ⊎_elim
      (λ (e : after ≡ front).
      let a = later_last list after t s l rises listed (subst (λ (x : List SnapData). EndsIn x s) (sym e) ends) in absurd (omega (arith, a, below)))
      (λ (e : after ≡ list). subst (λ (x : List SnapData). EndsIn x t) (sym e) listed) longer

  pub ends_same : t.point ≤ s.point → EndsIn after s
  ends_same below = ⊎_elim
      (λ (e : after ≡ front). subst (λ (x : List SnapData). EndsIn x s) (sym e) ends)
      (λ (e : after ≡ list). one_point front after s t f rises ends (subst (λ (x : List SnapData). EndsIn x t) (sym e) listed) below) longer
