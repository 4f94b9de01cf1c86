-- Each step on the roll keeps its rule.
use Rattle.std.proofs.Common.{◌≡◌, ◌≢◌, ◌⊎◌, ⊎_elim, inl, inr, ℕ, Bool, true, false, List, [], ◌∷◌, ◌++◌, set, refl, sym, subst}
use Rattle.std.proofs.Common.{ap, ◌∙◌, append-nil, append_assoc, arith}
use mathlib.Core.Option.{some, none, some-ne-none, some-injective}
use lib.ListN.{get_elem?}
use Rattle.atomic_table.specs.Table.{State, Me, step, keeps, Allows, Splits, Joins, opening}
use Rattle.atomic_table.proofs.Lists.{at_set, at_snoc, set_again}
use Rattle.sn_consistency.specs.Committed.{Begins}
use Rattle.snap_board.specs.Snap.{SnapData}
use Rattle.snap_board.specs.Fronts.{Rises}
use Rattle.snap_board.specs.declared.roll.Knowledge.{Knowledge}
use Rattle.snap_board.specs.Keeps.{Follows, Keeps, Heard, added, hears, newcomer, publisher, knowledge_told, knowledge_after}

dead : {A : Type 0} (b : Bool) → b ≡ true → b ≡ false → A
dead b t f = absurd (grind (arith, t, f))

-- beginnings
begins_none : (snaps : List SnapData) → Begins [] snaps
begins_none snaps = record { more = snaps; is = refl }

pub begins_all : (snaps : List SnapData) → Begins snaps snaps
begins_all snaps = record { more = []; is = sym (append-nil snaps) }

pub begins_more : (front snaps more : List SnapData) → Begins front snaps → Begins front (snaps ++ more)
begins_more front snaps more b = record { more = b.more ++ more; is = ap (λ l. l ++ more) b.is ∙ append_assoc front b.more more }

abbrev tail_of : List SnapData → List SnapData
tail_of [] = []
tail_of (s ∷ snaps) = snaps

abbrev head_or : SnapData → List SnapData → SnapData
head_or d [] = d
head_or d (s ∷ snaps) = s

one_before : (s t : SnapData) (front snaps : List SnapData) → s ≡ t → Begins front snaps → Begins (s ∷ front) (t ∷ snaps)
one_before s t front snaps same b = record { more = b.more; is = λ k. sym same k ∷ b.is k }

-- of two beginnings of a list one is a beginning of the other
either_begins : (a b m n : List SnapData) → a ++ m ≡ b ++ n → Begins a b ⊎ Begins b a
either_begins [] b m n e = inl (begins_none b)
either_begins (s ∷ a) [] m n e = inr (begins_none (s ∷ a))
either_begins (s ∷ a) (t ∷ b) m n e =
    let same : s ≡ t = ap (head_or s) e in
    ⊎_elim (λ h. inl (one_before s t a b same h)) (λ h. inr (one_before t s b a (sym same) h)) (either_begins a b m n (ap tail_of e))

comparable : (a b snaps : List SnapData) → Begins a snaps → Begins b snaps → Begins a b ⊎ Begins b a
comparable a b snaps f g = either_begins a b f.more g.more (sym f.is ∙ g.is)

append_rises : (a m : List SnapData) → Rises (a ++ m) → Rises a
append_rises [] m h = tt
append_rises (s ∷ []) m h = tt
append_rises (s ∷ t ∷ a) m h = (h.0, append_rises (t ∷ a) m h.1)

front_rises : (a snaps : List SnapData) → Begins a snaps → Rises snaps → Rises a
front_rises a snaps b h = append_rises a b.more (subst Rises b.is h)

-- what one note comes to know
module _ (views : List Knowledge) (h : Keeps views) where
  -- one more note may come that doesn't lead
  comes : (k : Knowledge) → k.leads ≡ false → Follows h.published k → Keeps (views ++ k ∷ [])
  comes k unled follows = record {
    published = h.published;
    rises = h.rises;
    each = λ j l e. ⊎_elim (λ at. h.each j l at) (λ (same : k ≡ l). subst (Follows h.published) same follows) (at_snoc views k l j e);
    one = λ a b l m ea eb la mb. h.one a b l m (leader a l ea la) (leader b m eb mb) la mb;
  } where
    leader : (a : ℕ) (l : Knowledge) → get_elem? (views ++ k ∷ []) a ≡ some l → l.leads ≡ true → get_elem? views a ≡ some l
    leader a l e leads =
        ⊎_elim (λ at. at) (λ (same : k ≡ l). dead k.leads (subst (λ (z : Knowledge). z.leads ≡ true) (sym same) leads) unled) (at_snoc views k l a e)

  -- a note that doesn't lead may come to know other beginnings
  learns : (note : ℕ) (k : Knowledge) → k.leads ≡ false → Follows h.published k → Keeps (set views note k)
  learns note k unled follows = record {
    published = h.published;
    rises = h.rises;
    each = λ j l e. ⊎_elim (λ (t : (j ≡ note) × (k ≡ l)). subst (Follows h.published) t.1 follows)
        (λ (t : (j ≢ note) × (get_elem? views j ≡ some l)). h.each j l t.1) (at_set views note j k l e);
    one = λ a b l m ea eb la mb. h.one a b l m (leader a l ea la) (leader b m eb mb) la mb;
  } where
    leader : (a : ℕ) (l : Knowledge) → get_elem? (set views note k) a ≡ some l → l.leads ≡ true → get_elem? views a ≡ some l
    leader a l e leads = ⊎_elim
        (λ (t : (a ≡ note) × (k ≡ l)). dead k.leads (subst (λ (z : Knowledge). z.leads ≡ true) (sym t.1) leads) unled)
        (λ (t : (a ≢ note) × (get_elem? views a ≡ some l)). t.1) (at_set views note a k l e)

unled_follows : (published : List SnapData) (k : Knowledge) → k.leads ≡ false → Begins k.seen published → Begins k.heard published → Follows published k
unled_follows published k unled seen heard = record { seen = seen; heard = heard; leads = λ leads. dead k.leads leads unled }

newcomer_follows : (published : List SnapData) → Follows published newcomer
newcomer_follows published = unled_follows published newcomer refl (begins_none published) (begins_none published)

abbrev St : Type 0
St = State SnapData Knowledge

abbrev Rule : St → Type 0
Rule s = Keeps s.views

-- nothing is published yet
pub starts : Keeps (publisher ∷ [])
starts = record {
  published = [];
  rises = tt;
  each = λ j k e. subst (Follows []) (only j k e) (record { seen = begins_none []; heard = begins_none []; leads = λ leads. refl });
  one = λ a b k l ea eb ka lb. first a k ea ∙ sym (first b l eb);
} where
  only : (j : ℕ) (k : Knowledge) → get_elem? (publisher ∷ []) j ≡ some k → publisher ≡ k
  only Rattle.std.proofs.Common.zero k e = some-injective publisher k e
  only (Rattle.std.proofs.Common.suc j) k e = absurd (some-ne-none k (sym e))

  first : (j : ℕ) (k : Knowledge) → get_elem? (publisher ∷ []) j ≡ some k → j ≡ 0
  first Rattle.std.proofs.Common.zero k e = refl
  first (Rattle.std.proofs.Common.suc j) k e = absurd (some-ne-none k (sym e))

pub splits : (note : ℕ) (v : Knowledge) → Splits Rule note v v (knowledge_told v)
splits note v s h at =
    subst (λ (l : List Knowledge). Keeps (l ++ knowledge_told v ∷ [])) (sym (set_again s.views note v at))
    (comes s.views h (knowledge_told v) refl
    (unled_follows h.published (knowledge_told v) refl (h.each note v at).seen (begins_none h.published)))

pub joins : (note : ℕ) (v : Knowledge) (other : ℕ) (w : Knowledge) → v.leads ≡ false → Joins Rule note v other w (knowledge_after v w) newcomer
joins note v other w unled s h at apart there =
    let here : get_elem? s.views other ≡ some w = ⊎_elim (λ (t : (other ≡ note) × (knowledge_after v w ≡ w)). absurd (apart t.0))
    (λ (t : (other ≢ note) × (get_elem? s.views other ≡ some w)). t.1) (at_set s.views note other (knowledge_after v w) w there) in
    let first : Keeps (set s.views note (knowledge_after v w)) = learns s.views h note (knowledge_after v w) unled
    (unled_follows h.published (knowledge_after v w) unled (h.each note v at).seen (h.each other w here).seen) in
    learns (set s.views note (knowledge_after v w)) first other newcomer refl (newcomer_follows first.published)

-- what was heard is seen
module _ (slots id : ℕ) (me : Me SnapData Knowledge) (unled : me.0.leads ≡ false) (s : St) (h : Rule s) (at : get_elem? s.views id ≡ some me.0) where
  abbrev seeing : List SnapData → Knowledge
  seeing snaps = record { seen = snaps; heard = me.0.heard; leads = me.0.leads }

  follows : Follows h.published me.0
  follows = h.each id me.0 at

  pub heard_both : (w : Knowledge) × Keeps (set s.views id w) × Heard me.0 w
  heard_both = ⊎_elim
      (λ b. (
        seeing me.0.heard,
        learns s.views h id (seeing me.0.heard) unled (unled_follows h.published (seeing me.0.heard) unled follows.heard follows.heard),
        record {
          goes_on = b;
          heard = begins_all me.0.heard;
          rises = front_rises me.0.heard h.published follows.heard h.rises;
          longer = inr refl;
          leads = refl;
        },
      ))
      (λ b. (
        seeing me.0.seen,
        learns s.views h id (seeing me.0.seen) unled (unled_follows h.published (seeing me.0.seen) unled follows.seen follows.heard),
        record {
          goes_on = begins_all me.0.seen;
          heard = b;
          rises = front_rises me.0.seen h.published follows.seen h.rises;
          longer = inl refl;
          leads = refl;
        },
      ))
      (comparable me.0.seen me.0.heard h.published follows.seen follows.heard)

pub hearing : (slots id : ℕ) (me : Me SnapData Knowledge) → me.0.leads ≡ false →
    Allows Rule slots id me 0 (λ n. n) (hears (step slots 0 0 0 none) me)
hearing slots id me unled s h sized at bound =
    let w = heard_both slots id me unled s h at in (w.0, keeps, tt, w.1, (refl, w.2))

-- a publishing
module _ (id : ℕ) (v : Knowledge) (leads : v.leads ≡ true) (snap : SnapData) (rises : Rises (v.seen ++ snap ∷ [])) (views : List Knowledge) (h : Keeps views) (at : get_elem? views id ≡ some v) where
  abbrev after : Knowledge
  after = record { seen = v.seen ++ snap ∷ []; heard = []; leads = v.leads }

  all_seen : h.published ≡ v.seen
  all_seen = sym ((h.each id v at).leads leads)

  untrue : (b : Bool) → (b ≡ true → ⊥) → b ≡ false
  untrue true n = absurd (n refl)
  untrue false n = refl

  others : (j : ℕ) (k : Knowledge) → get_elem? views j ≡ some k → j ≢ id → k.leads ≡ false
  others j k e apart = untrue k.leads (λ too. apart (h.one j id k v e at too leads))

  more : (front : List SnapData) → Begins front h.published → Begins front (v.seen ++ snap ∷ [])
  more front b = begins_more front v.seen (snap ∷ []) (subst (Begins front) all_seen b)

  other_follows : (j : ℕ) (k : Knowledge) → get_elem? views j ≡ some k → j ≢ id → Follows (v.seen ++ snap ∷ []) k
  other_follows j k e apart =
      unled_follows (v.seen ++ snap ∷ []) k (others j k e apart) (more k.seen (h.each j k e).seen) (more k.heard (h.each j k e).heard)

  leader : (a : ℕ) (k : Knowledge) → get_elem? (set views id after) a ≡ some k → k.leads ≡ true → a ≡ id
  leader a k e led = ⊎_elim (λ (t : (a ≡ id) × (after ≡ k)). t.0)
      (λ (t : (a ≢ id) × (get_elem? views a ≡ some k)). dead k.leads led (others a k t.1 t.0)) (at_set views id a after k e)

  added_keeps : Keeps (set views id after)
  added_keeps = record {
    published = v.seen ++ snap ∷ [];
    rises = rises;
    each = λ j k e. ⊎_elim
        (λ (t : (j ≡ id) × (after ≡ k)). subst (Follows (v.seen ++ snap ∷ [])) t.1
        (record { seen = begins_all (v.seen ++ snap ∷ []); heard = begins_none (v.seen ++ snap ∷ []); leads = λ led. refl }))
        (λ (t : (j ≢ id) × (get_elem? views j ≡ some k)). other_follows j k t.1 t.0) (at_set views id j after k e);
    one = λ a b k l ea eb ka lb. leader a k ea ka ∙ sym (leader b l eb lb);
  }

pub adding : (slots id : ℕ) (me : Me SnapData Knowledge) (snap : SnapData) (f : ℕ → ℕ) → me.0.leads ≡ true → Rises (me.0.seen ++ snap ∷ []) →
    Allows Rule slots id me 0 f (added (step slots 0 0 0 (some snap)) me)
adding slots id me snap f leads rises s h sized at bound = (
  after id me.0 leads snap rises s.views h at,
  keeps,
  tt,
  added_keeps id me.0 leads snap rises s.views h at,
  (refl, refl, λ said e. ap (λ (t : SnapData). me.0.seen ++ t ∷ []) (some-injective snap said e)),
)
