-- paths, and the walk that the routes give
use Rattle.std.proofs.Common.{◌≡◌, ℕ, zero, suc, ◌+◌, ◌*◌, ◌<◌, ◌≤◌, Bool, true, false, ◌&&◌, ◌||◌, eqb, ltb, inl, inr, List, [], ◌∷◌}
use Rattle.std.proofs.Common.{length, Some, None, refl, sym, ap, ◌∙◌, arith}
use Rattle.std.proofs.lemmas.Bool.{false≢true, cases_Bool, cases_lt, and_parts, and_from, or_cases, eqb-true, eq-eqb, ltb-true, lt-ltb}
use Rattle.std.proofs.lemmas.Bool.{le-ltb, and_right, ne_eqb}
use Rattle.route_plan.specs.Grid.{is_linked, node_of}
use Rattle.route_plan.specs.Distances.{Switches, is_living, least_below, comes, distance}
use Rattle.route_plan.specs.Routes.{next_of}
use Rattle.route_plan.specs.Paths.{IsPath, last_of, IsPathTo, IsWalk, IsShortestWalk, IsStep}
use Rattle.route_plan.proofs.Least.{least_below-at, least_below-is, least_below-passes, some_below-true, some_below-found}
use Rattle.route_plan.proofs.Levels.{distance-le, distance-comes}

pub living-there : (m : Switches) (s : ℕ) → is_living m s ≡ true → s < 2 * m.nodes
unfolding is_living
living-there m s e = ltb-true s (2 * m.nodes) (and_parts (ltb s (2 * m.nodes)) _ e).0

pub path-first : (m : Switches) (s : ℕ) (others : List ℕ) → IsPath m s others → is_living m s ≡ true
path-first m s [] p = p
path-first m s (t ∷ others) p = p.0

-- a path from a switch, by a link in front of another
pub leads-on : (m : Switches) (to s t : ℕ) (others : List ℕ) → is_living m s ≡ true → is_linked m.nodes s t ≡ true → IsPathTo m to t others →
    IsPathTo m to s (t ∷ others)
leads-on m to s t others e f p = record { path = (e, f, p.path); ends = p.ends }

or_second : (b c : Bool) → c ≡ true → (b || c) ≡ true
or_second b c e = grind arith

pub comes-on : (m : Switches) (to k s t : ℕ) → is_living m s ≡ true → is_linked m.nodes s t ≡ true → t < 2 * m.nodes →
    comes m to k t ≡ true → comes m to (suc k) s ≡ true
unfolding comes
comes-on m to k s t e f l g =
    or_second (comes m to k s) _
    (and_from (is_living m s) _ e (some_below-true (2 * m.nodes) _ t l (and_from (is_linked m.nodes s t) (comes m to k t) f g)))

comes-here : (m : Switches) (to s : ℕ) → is_living m s ≡ true → node_of s ≡ to → comes m to 0 s ≡ true
unfolding comes
comes-here m to s e f = and_from (is_living m s) (eqb (node_of s) to) e (eq-eqb (node_of s) to f)

-- a switch that a path leads from comes over as many links
pub path-comes : (m : Switches) (to s : ℕ) (others : List ℕ) → IsPath m s others → node_of (last_of s others) ≡ to →
    comes m to (length others) s ≡ true
path-comes m to s [] p e = comes-here m to s p e
path-comes m to s (t ∷ others) p e =
    comes-on m to (length others) s t p.0 p.1 (living-there m t (path-first m t others p.2)) (path-comes m to t others p.2 e)

-- no path is shorter than the distance
pub distance-shortest : (m : Switches) (to s : ℕ) (others : List ℕ) → IsPathTo m to s others → distance m to s ≤ length others
distance-shortest m to s others p = distance-le m to s (length others) (path-comes m to s others p.path p.ends)

here_parts : (m : Switches) (to s : ℕ) → comes m to 0 s ≡ true → (is_living m s ≡ true) × (node_of s ≡ to)
unfolding comes
here_parts m to s e = let h = and_parts (is_living m s) (eqb (node_of s) to) e in (h.0, eqb-true (node_of s) to h.1)

-- where a switch comes over one more link: its neighbour
record Neighbour (m : Switches) (to k s : ℕ) : Type 0 where
  living : is_living m s ≡ true
  at : ℕ
  there : at < 2 * m.nodes
  linked : is_linked m.nodes s at ≡ true
  comes : comes m to k at ≡ true

neighbour_by : (m : Switches) (to k s : ℕ) → comes m to k s ≡ false → comes m to (suc k) s ≡ true → Neighbour m to k s
unfolding comes
neighbour_by m to k s e f =
    elim (or_cases (comes m to k s) _ f) [
      | inl h ↦ absurd (false≢true (sym e ∙ h))
      | inr h ↦
          let g = and_parts (is_living m s) _ h in
          let n = some_below-found (2 * m.nodes) (λ t. is_linked m.nodes s t && comes m to k t) g.1 in
          let p = and_parts (is_linked m.nodes s n.at) (comes m to k n.at) n.passes in
          record { living = g.0; at = n.at; there = n.below; linked = p.0; comes = p.1 }
    ]

closer : (m : Switches) (to d s : ℕ) → distance m to s ≡ suc d → comes m to d s ≡ false
closer m to d s e =
    elim (cases_Bool (comes m to d s)) [
      | inl h ↦ (let l : distance m to s ≤ d = distance-le m to s d h in absurd (omega arith))
      | inr h ↦ h
    ]

-- a neighbour's distance is no more than one less
link-distance : (m : Switches) (to s t : ℕ) → is_living m s ≡ true → is_linked m.nodes s t ≡ true → t < 2 * m.nodes → distance m to t < 32 →
    distance m to s ≤ suc (distance m to t)
link-distance m to s t e f l h =
    distance-le m to s (suc (distance m to t)) (comes-on m to (distance m to t) s t e f l (distance-comes m to t h))

-- the neighbour that `next` names
record Next (m : Switches) (to d s : ℕ) : Type 0 where
  at : ℕ
  there : at < 2 * m.nodes
  linked : is_linked m.nodes s at ≡ true
  nearer : distance m to at ≡ d
  living : is_living m s ≡ true
  named : next_of m to s ≡ Some at

named_by : (m : Switches) (to s : ℕ) →
    least_below (2 * m.nodes) (λ t. is_linked m.nodes s t && eqb (distance m to t + 1) (distance m to s)) < 2 * m.nodes →
    next_of m to s ≡ Some (least_below (2 * m.nodes) (λ t. is_linked m.nodes s t && eqb (distance m to t + 1) (distance m to s)))
unfolding next_of
named_by m to s l =
    rw (lt-ltb (least_below (2 * m.nodes) (λ t. is_linked m.nodes s t && eqb (distance m to t + 1) (distance m to s))) (2 * m.nodes) l) refl

next_at : (m : Switches) (to d s : ℕ) → distance m to s ≡ suc d → suc d < 32 → comes m to (suc d) s ≡ true → Next m to d s
next_at m to d s e l f =
    let n = neighbour_by m to d s (closer m to d s e) f in
    let near : distance m to n.at ≤ d = distance-le m to n.at d n.comes in
    let far : distance m to s ≤ suc (distance m to n.at) = link-distance m to s n.at n.living n.linked n.there (omega arith) in
    let test : ℕ → Bool = λ t. is_linked m.nodes s t && eqb (distance m to t + 1) (distance m to s) in
    let passes : test n.at ≡
    true = and_from (is_linked m.nodes s n.at) (eqb (distance m to n.at + 1) (distance m to s)) n.linked
    (eq-eqb (distance m to n.at + 1) (distance m to s) (omega arith)) in
    let below : least_below (2 * m.nodes) test ≤ n.at = least_below-at (2 * m.nodes) test n.at passes in
    let there : least_below (2 * m.nodes) test < 2 * m.nodes = omega (arith, n.there) in
    let p = and_parts (is_linked m.nodes s (least_below (2 * m.nodes) test)) _ (least_below-passes (2 * m.nodes) test there) in
    let q : distance m to (least_below (2 * m.nodes) test) + 1 ≡ distance m to s = eqb-true _ (distance m to s) p.1 in
    record {
      at = least_below (2 * m.nodes) test;
      there = there;
      linked = p.0;
      nearer = omega (arith, q, e);
      living = n.living;
      named = named_by m to s there;
    }

-- nothing is nearer than the node itself
pub next-at_end : (m : Switches) (to s : ℕ) → distance m to s ≡ 0 → next_of m to s ≡ None
unfolding next_of
next-at_end m to s e =
    let f : least_below (2 * m.nodes) (λ t. is_linked m.nodes s t && eqb (distance m to t + 1) (distance m to s)) ≡ 2 * m.nodes =
    least_below-is (2 * m.nodes) _ (2 * m.nodes) (omega arith) (λ t l. apart t) (λ l. absurd (omega arith)) in
    rw (f, le-ltb (2 * m.nodes) (2 * m.nodes) (omega arith)) refl
  where
    apart : (t : ℕ) → (is_linked m.nodes s t && eqb (distance m to t + 1) (distance m to s)) ≡ false
    apart t =
        and_right (is_linked m.nodes s t) (eqb (distance m to t + 1) (distance m to s))
        (ne_eqb (distance m to t + 1) (distance m to s) (λ h. absurd (omega arith)))

-- the walk that `next` gives is a shortest path
pub walk-from : (m : Switches) (to d s : ℕ) → distance m to s ≡ d → d < 32 → IsShortestWalk m to s
walk-from m to zero s e l =
    let h = here_parts m to s (ap (λ k. comes m to k s) (sym e) ∙ distance-comes m to s (omega arith)) in
    record {
      others = [];
      walk = next-at_end m to s e;
      leads = record { path = h.0; ends = h.1 };
      links = sym e;
      shortest = λ path p. omega arith;
    }
walk-from m to (suc d) s e l =
    let n = next_at m to d s e l (ap (λ k. comes m to k s) (sym e) ∙ distance-comes m to s (omega arith)) in
    let w = walk-from m to d n.at n.nearer (omega arith) in
    let links : length (n.at ∷ w.others) ≡ distance m to s = longer n.at w.others d (w.links ∙ n.nearer) ∙ sym e in
    record {
      others = n.at ∷ w.others;
      walk = (n.named, w.walk);
      leads = leads-on m to s n.at w.others n.living n.linked w.leads;
      links = links;
      shortest = λ path p. rw links (distance-shortest m to s path p);
    }
  where
    longer : (t : ℕ) (others : List ℕ) (d : ℕ) → length others ≡ d → length (t ∷ others) ≡ suc d
    longer t others d e = ap suc e

pub comes-living : (m : Switches) (to k s : ℕ) → comes m to k s ≡ true → is_living m s ≡ true
unfolding comes
comes-living m to zero s e = (and_parts (is_living m s) _ e).0
comes-living m to (suc k) s e =
    elim (or_cases (comes m to k s) _ e) [ inl h ↦ comes-living m to k s h | inr h ↦ (and_parts (is_living m s) _ h).0 ]

unnamed_by : (m : Switches) (to s : ℕ) →
    2 * m.nodes ≤ least_below (2 * m.nodes) (λ t. is_linked m.nodes s t && eqb (distance m to t + 1) (distance m to s)) →
    next_of m to s ≡ None
unfolding next_of
unnamed_by m to s l =
    rw (le-ltb (least_below (2 * m.nodes) (λ t. is_linked m.nodes s t && eqb (distance m to t + 1) (distance m to s))) (2 * m.nodes) l) refl

step_by : (m : Switches) (to s t : ℕ) → distance m to s < 32 →
    t ≡ least_below (2 * m.nodes) (λ t. is_linked m.nodes s t && eqb (distance m to t + 1) (distance m to s)) →
    least_below (2 * m.nodes) (λ t. is_linked m.nodes s t && eqb (distance m to t + 1) (distance m to s)) < 2 * m.nodes → IsStep m to s t
step_by m to s t l e i =
    let test : ℕ → Bool = λ t. is_linked m.nodes s t && eqb (distance m to t + 1) (distance m to s) in
    let p : test t ≡ true = ap test e ∙ least_below-passes (2 * m.nodes) test i in
    let q = and_parts (is_linked m.nodes s t) (eqb (distance m to t + 1) (distance m to s)) p in
    let near : distance m to t + 1 ≡ distance m to s = eqb-true (distance m to t + 1) (distance m to s) q.1 in
    record {
      linked = q.0;
      living = comes-living m to (distance m to t) t (distance-comes m to t (omega arith));
      nearer = near;
      least =
          λ u f g. rw e (least_below-at (2 * m.nodes) test u
          (and_from (is_linked m.nodes s u) (eqb (distance m to u + 1) (distance m to s)) f
          (eq-eqb (distance m to u + 1) (distance m to s) g)));
    }

pub next-step : (m : Switches) (to s t : ℕ) → distance m to s < 32 → next_of m to s ≡ Some t → IsStep m to s t
next-step m to s t l e =
    elim (cases_lt (least_below (2 * m.nodes) (λ t. is_linked m.nodes s t && eqb (distance m to t + 1) (distance m to s))) (2 * m.nodes)) [
      | inl i ↦ step_by m to s t l (same_name t _ (sym e ∙ named_by m to s i)) i
      | inr i ↦ no_name t (sym e ∙ unnamed_by m to s i)
    ]
  where
    same_name : (t u : ℕ) → Some t ≡ Some u → t ≡ u
    same_name t u e = cc

    no_name : (t : ℕ) → Some t ≡ None → IsStep m to s t
    no_name t e = cc

-- `next` names nothing exactly at a switch of the node
pub none-arrived : (m : Switches) (to s : ℕ) → distance m to s < 32 → next_of m to s ≡ None → node_of s ≡ to
none-arrived m to s l e = let w = walk-from m to (distance m to s) s refl l in ended w.others w.walk w.leads
  where
    ended : (others : List ℕ) → IsWalk m to s others → IsPathTo m to s others → node_of s ≡ to
    ended [] w p = p.ends
    ended (t ∷ others) w p = no_more t (sym w.0 ∙ e)
      where
        no_more : (t : ℕ) → Some t ≡ None → node_of s ≡ to
        no_more t f = cc

pub arrived-none : (m : Switches) (to s : ℕ) → is_living m s ≡ true → node_of s ≡ to → next_of m to s ≡ None
arrived-none m to s e f = next-at_end m to s (let l : distance m to s ≤ 0 = distance-le m to s 0 (comes-here m to s e f) in omega arith)
