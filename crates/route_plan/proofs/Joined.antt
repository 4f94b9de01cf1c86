-- which nodes are joined, and what the routes are where all are
use Rattle.std.proofs.Common.{◌≡◌, ℕ, ◌+◌, ◌*◌, ◌%◌, ◌<◌, ◌≤◌, ◌≢◌, Bool, true, false, ◌&&◌, eqb, leb, ltb, ◌⊎◌, inl, inr, ◌∷◌, length}
use Rattle.std.proofs.Common.{Option, Some, None, refl, sym, ap, ◌∙◌, arith}
use Rattle.std.proofs.lemmas.Bool.{cases_eq, cases_lt, and_parts, and_cases, eqb-true, eqb-false, ltb-true, ltb-false, lt-ltb, le-ltb}
use Rattle.std.proofs.lemmas.Bool.{le-leb, lt-leb, leb-true}
use Rattle.route_plan.specs.Grid.{node_of, partner}
use Rattle.route_plan.specs.Distances.{Switches, is_living, least_below, distance}
use Rattle.route_plan.specs.Routes.{enter_of, is_cut_off, cut_off_from, first_cut_off}
use Rattle.route_plan.specs.Paths.{AreJoined, IsShortestEntry, IsFirstCutOff}
use Rattle.route_plan.specs.Tables.{IsSized}
use Rattle.route_plan.proofs.Grids.{partner-a, partner-b}
use Rattle.route_plan.proofs.Least.{least_below-before, least_below-passes}
use Rattle.route_plan.proofs.Levels.{distance-comes, linked-is}
use Rattle.route_plan.proofs.Steps.{distance-most}
use Rattle.route_plan.proofs.Walks.{living-there, path-first, leads-on, comes-living, distance-shortest, walk-from}
use Rattle.route_plan.proofs.Reach.{leads-distance}
use Rattle.route_plan.proofs.Turns.{joined-back}

-- the two switches of a node
own_switch : (s a : ℕ) → node_of s ≡ a → (s ≡ 2 * a) ⊎ (s ≡ 2 * a + 1)
own_switch s a e = elim (cases_eq s (2 * a)) [ inl h ↦ inl h | inr d ↦ inr (omega arith) ]

near_joined : (m : Switches) (a b s : ℕ) → node_of s ≡ a → distance m b s < 32 → AreJoined m a b
near_joined m a b s e l =
    let w = walk-from m b (distance m b s) s refl l in record { first = s; others = w.others; begins = e; leads = w.leads }

pub not_cut-joined : (m : Switches) (a b : ℕ) → is_cut_off m a b ≡ false → AreJoined m a b
unfolding is_cut_off
not_cut-joined m a b e = elim (and_cases (eqb (distance m b (2 * a)) 32) (eqb (distance m b (2 * a + 1)) 32) e) [
  | inl h ↦ (let d = eqb-false (distance m b (2 * a)) 32 h in let l : distance m b (2 * a) ≤ 32 = distance-most m b (2 * a) in
      near_joined m a b (2 * a) (omega arith) (below _ d l))
  | inr h ↦ (let d = eqb-false (distance m b (2 * a + 1)) 32 h in let l : distance m b (2 * a + 1) ≤ 32 = distance-most m b (2 * a + 1) in
      near_joined m a b (2 * a + 1) (omega arith) (below _ d l))
]
  where
    below : (x : ℕ) → (x ≡ 32 → ⊥) → x ≤ 32 → x < 32
    below x d l = omega arith

pub cut-apart : (m : Switches) (a b : ℕ) → IsSized m → is_cut_off m a b ≡ true → ¬ AreJoined m a b
unfolding is_cut_off
cut-apart m a b z e j =
    let p = and_parts (eqb (distance m b (2 * a)) 32) (eqb (distance m b (2 * a + 1)) 32) e in
    let f : distance m b (2 * a) ≡ 32 = eqb-true (distance m b (2 * a)) 32 p.0 in
    let g : distance m b (2 * a + 1) ≡ 32 = eqb-true (distance m b (2 * a + 1)) 32 p.1 in
    let l : distance m b j.first < 32 = leads-distance m b j.first j.others z
    (living-there m j.first (path-first m j.first j.others j.leads.path)) j.leads in
    elim (own_switch j.first a j.begins) [
      | inl h ↦ (let i : distance m b j.first ≡ distance m b (2 * a) = ap (λ s. distance m b s) h in absurd (omega arith))
      | inr h ↦ (let i : distance m b j.first ≡ distance m b (2 * a + 1) = ap (λ s. distance m b s) h in absurd (omega arith))
    ]

none_from : (m : Switches) (a b : ℕ) → m.nodes ≤ cut_off_from m a → a ≤ b → b < m.nodes → is_cut_off m a b ≡ false
unfolding cut_off_from
none_from m a b l o i =
    other (leb a b) (is_cut_off m a b) (least_below-before m.nodes (λ b. leb a b && is_cut_off m a b) b (omega arith)) (le-leb a b o)
  where
    other : (x y : Bool) → (x && y) ≡ false → x ≡ true → y ≡ false
    other x y e f = grind arith

before_found : (m : Switches) (a b : ℕ) → b < cut_off_from m a → a ≤ b → is_cut_off m a b ≡ false
unfolding cut_off_from
before_found m a b l o =
    other (leb a b) (is_cut_off m a b) (least_below-before m.nodes (λ b. leb a b && is_cut_off m a b) b l) (le-leb a b o)
  where
    other : (x y : Bool) → (x && y) ≡ false → x ≡ true → y ≡ false
    other x y e f = grind arith

pub found_cut : (m : Switches) (a : ℕ) → cut_off_from m a < m.nodes → (a ≤ cut_off_from m a) × (is_cut_off m a (cut_off_from m a) ≡ true)
unfolding cut_off_from
found_cut m a l =
    let p = and_parts _ _ (least_below-passes m.nodes (λ b. leb a b && is_cut_off m a b) l) in
    (leb-true a (least_below m.nodes (λ b. leb a b && is_cut_off m a b)) p.0, p.1)

-- what a search for the first pair gives
record PairFound (m : Switches) : Type 0 where
  a : ℕ
  there : a < m.nodes
  cut : cut_off_from m a < m.nodes
  before : (c : ℕ) → c < a → m.nodes ≤ cut_off_from m c
  is : first_cut_off m ≡ Some (a, cut_off_from m a)

record PairNone (m : Switches) : Type 0 where
  all : (c : ℕ) → c < m.nodes → m.nodes ≤ cut_off_from m c
  is : first_cut_off m ≡ None

pair_by : (m : Switches) → PairFound m ⊎ PairNone m
unfolding first_cut_off
pair_by m =
    let test : ℕ → Bool = λ a. ltb (cut_off_from m a) m.nodes in
    let a : ℕ = least_below m.nodes test in
    elim (cases_lt (least_below m.nodes test) m.nodes) [
      | inl h ↦ inl (record {
        a = least_below m.nodes test;
        there = h;
        cut = ltb-true _ m.nodes (least_below-passes m.nodes test h);
        before = λ c i. ltb-false (cut_off_from m c) m.nodes (least_below-before m.nodes test c i);
        is = rw (lt-ltb (least_below m.nodes test) m.nodes h) refl;
      })
      | inr h ↦ inr (record {
        all = λ c i. ltb-false (cut_off_from m c) m.nodes (least_below-before m.nodes test c (omega arith));
        is = rw (le-ltb (least_below m.nodes test) m.nodes h) refl;
      })
    ]

all_joined : (m : Switches) → IsSized m → ((c : ℕ) → c < m.nodes → m.nodes ≤ cut_off_from m c) → (a b : ℕ) → a < m.nodes → b < m.nodes →
    AreJoined m a b
all_joined m z h a b l i = elim (cases_lt b a) [
  | inl o ↦ joined-back m b a z (not_cut-joined m b a (none_from m b a (h b i) (omega arith) l))
  | inr o ↦ not_cut-joined m a b (none_from m a b (h a l) o i)
]

pub none-joined : (m : Switches) → IsSized m → first_cut_off m ≡ None → (a b : ℕ) → a < m.nodes → b < m.nodes → AreJoined m a b
none-joined m z e = by_pair (pair_by m)
  where
    clash : (a b : ℕ) → ◌≡◌ {A = Option (ℕ × ℕ)} (Some (a, b)) None → ⊥
    clash a b f = cc

    by_pair : PairFound m ⊎ PairNone m → (a b : ℕ) → a < m.nodes → b < m.nodes → AreJoined m a b
    by_pair (inl p) = absurd (clash _ _ (sym p.is ∙ e))
    by_pair (inr n) = all_joined m z n.all

all_none : (m : Switches) → IsSized m → ((a b : ℕ) → a < m.nodes → b < m.nodes → AreJoined m a b) → PairFound m ⊎ PairNone m →
    first_cut_off m ≡ None
all_none m z h (inl p) =
    absurd (cut-apart m p.a (cut_off_from m p.a) z (found_cut m p.a p.cut).1 (h p.a (cut_off_from m p.a) p.there p.cut))
all_none m z h (inr n) = n.is

pub joined-none : (m : Switches) → IsSized m → ((a b : ℕ) → a < m.nodes → b < m.nodes → AreJoined m a b) → first_cut_off m ≡ None
joined-none m z h = all_none m z h (pair_by m)

first_by : (m : Switches) (a b : ℕ) → IsSized m → first_cut_off m ≡ Some (a, b) → PairFound m ⊎ PairNone m → IsFirstCutOff m a b
first_by m a b z e (inr n) = absurd (clash (sym n.is ∙ e))
  where
    clash : ◌≡◌ {A = Option (ℕ × ℕ)} None (Some (a, b)) → ⊥
    clash f = cc
first_by m a b z e (inl p) = at_pair (same a b p.a (cut_off_from m p.a) (sym e ∙ p.is))
  where
    same : (a b c d : ℕ) → ◌≡◌ {A = Option (ℕ × ℕ)} (Some (a, b)) (Some (c, d)) → (a ≡ c) × (b ≡ d)
    same a b c d f = (ap (λ (p : ℕ × ℕ). p.0) (one (a, b) (c, d) f), ap (λ (p : ℕ × ℕ). p.1) (one (a, b) (c, d) f))
      where
        one : (x y : ℕ × ℕ) → ◌≡◌ {A = Option (ℕ × ℕ)} (Some x) (Some y) → x ≡ y
        one x y g = cc

    cut : (a ≡ p.a) × (b ≡ cut_off_from m p.a) → (a ≤ b) × (is_cut_off m a b ≡ true)
    cut (h, i) = rw (h, i) (found_cut m p.a p.cut)

    earlier : (a ≡ p.a) × (b ≡ cut_off_from m p.a) → (c d : ℕ) → c ≤ d → d < m.nodes → (c < a) ⊎ ((c ≡ a) × (d < b)) → AreJoined m c d
    earlier (h, i) c d l k (inl n) = not_cut-joined m c d (none_from m c d (p.before c (omega arith)) l k)
    earlier (h, i) c d l k (inr (n, o)) = not_cut-joined m c d (before_found m c d (rw (n, h) (omega arith)) l)

    at_pair : (a ≡ p.a) × (b ≡ cut_off_from m p.a) → IsFirstCutOff m a b
    at_pair (h, i) = record {
      ordered = (cut (h, i)).0;
      there = rw i p.cut;
      apart = cut-apart m a b z (cut (h, i)).1;
      earlier = earlier (h, i);
    }

pub first-pair : (m : Switches) (a b : ℕ) → IsSized m → first_cut_off m ≡ Some (a, b) → IsFirstCutOff m a b
first-pair m a b z e = first_by m a b z e (pair_by m)

-- where all nodes are joined, each living switch has a distance
partner_of : (m : Switches) (s t : ℕ) → node_of s ≡ node_of t → s ≢ t → s ≡ partner t
partner_of m s t e d = elim (cases_eq (t % 2) 0) [ inl h ↦ omega (arith, partner-a t h) | inr h ↦ omega (arith, partner-b t (omega arith)) ]

pub living-near : (m : Switches) (to s : ℕ) → IsSized m → first_cut_off m ≡ None → to < m.nodes → is_living m s ≡ true →
    distance m to s < 32
living-near m to s z e l f =
    let there : s < 2 * m.nodes = living-there m s f in
    let j = none-joined m z e (node_of s) to (omega arith) l in
    elim (cases_eq j.first s) [
      | inl h ↦ rw (← h) (leads-distance m to j.first j.others z
          (living-there m j.first (path-first m j.first j.others j.leads.path)) j.leads)
      | inr d ↦ leads-distance m to s (j.first ∷ j.others) z there
          (leads-on m to s j.first j.others f
          (linked-is m.nodes s j.first (λ h. d (sym h)) (inr (inr (partner_of m j.first s j.begins d)))) j.leads)
    ]

-- the entry is the nearer of the two switches
some_near : (m : Switches) (from to : ℕ) → IsSized m → AreJoined m from to →
    (distance m to (2 * from) < 32) ⊎ (distance m to (2 * from + 1) < 32)
some_near m from to z j =
    let l = leads-distance m to j.first j.others z (living-there m j.first (path-first m j.first j.others j.leads.path)) j.leads in
    elim (own_switch j.first from j.begins) [
      | inl h ↦ (let e : distance m to j.first ≡ distance m to (2 * from) = ap (λ s. distance m to s) h in inl (omega arith))
      | inr h ↦ (let e : distance m to j.first ≡ distance m to (2 * from + 1) = ap (λ s. distance m to s) h in inr (omega arith))
    ]

least_near : (x y s : ℕ) → s ≤ x → s ≤ y → (x < 32) ⊎ (y < 32) → s < 32
least_near x y s l n (inl h) = omega arith
least_near x y s l n (inr h) = omega arith

either_way : (m : Switches) (from to t d : ℕ) → node_of t ≡ from → d ≤ distance m to (2 * from) → d ≤ distance m to (2 * from + 1) →
    d ≤ distance m to t
either_way m from to t d e l n = elim (own_switch t from e) [
  | inl h ↦ (let f : distance m to t ≡ distance m to (2 * from) = ap (λ s. distance m to s) h in omega arith)
  | inr h ↦ (let f : distance m to t ≡ distance m to (2 * from + 1) = ap (λ s. distance m to s) h in omega arith)
]

pub record Entry (m : Switches) (from to s : ℕ) : Type 0 where
  pub enter : s ≡ enter_of m from to
  pub living : is_living m s ≡ true
  pub shortest : IsShortestEntry m from to s

entry : (m : Switches) (from to s : ℕ) → s ≡ enter_of m from to → distance m to s < 32 → distance m to s ≤ distance m to (2 * from) →
    distance m to s ≤ distance m to (2 * from + 1) → (s ≡ 2 * from + 1 → distance m to s < distance m to (2 * from)) → Entry m from to s
entry m from to s e l f g h = record {
  enter = e;
  living = comes-living m to (distance m to s) s (distance-comes m to s l);
  shortest = record {
    walk = walk-from m to (distance m to s) s refl l;
    shortest = λ t path i p. (let k : distance m to t ≤ length path = distance-shortest m to t path p in
        let n : distance m to s ≤ distance m to t = either_way m from to t (distance m to s) i f g in omega arith);
    second = h;
  };
}

enter_first : (m : Switches) (from to : ℕ) → distance m to (2 * from) ≤ distance m to (2 * from + 1) → 2 * from ≡ enter_of m from to
unfolding enter_of
enter_first m from to l = rw (le-leb (distance m to (2 * from)) (distance m to (2 * from + 1)) l) refl

enter_second : (m : Switches) (from to : ℕ) → distance m to (2 * from + 1) < distance m to (2 * from) → 2 * from + 1 ≡ enter_of m from to
unfolding enter_of
enter_second m from to l = rw (lt-leb (distance m to (2 * from)) (distance m to (2 * from + 1)) l) refl

pub entry-first : (m : Switches) (from to : ℕ) → IsSized m → first_cut_off m ≡ None → from < m.nodes → to < m.nodes →
    distance m to (2 * from) ≤ distance m to (2 * from + 1) → Entry m from to (2 * from)
entry-first m from to z e l n o =
    entry m from to (2 * from) (enter_first m from to o)
    (least_near (distance m to (2 * from)) (distance m to (2 * from + 1)) _ (omega arith) o
    (some_near m from to z (none-joined m z e from to l n)))
    (omega arith) o (λ h. absurd (omega arith))

pub entry-second : (m : Switches) (from to : ℕ) → IsSized m → first_cut_off m ≡ None → from < m.nodes → to < m.nodes →
    distance m to (2 * from + 1) < distance m to (2 * from) → Entry m from to (2 * from + 1)
entry-second m from to z e l n o =
    entry m from to (2 * from + 1) (enter_second m from to o)
    (least_near (distance m to (2 * from)) (distance m to (2 * from + 1)) _ (omega arith) (omega arith)
    (some_near m from to z (none-joined m z e from to l n)))
    (omega arith) (omega arith) (λ h. o)
