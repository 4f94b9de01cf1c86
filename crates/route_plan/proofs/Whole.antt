-- with no switch dead every node is joined with every other
use Rattle.std.proofs.Common.{◌≡◌, ℕ, zero, suc, ◌+◌, ◌-◌, ◌*◌, ◌/◌, ◌%◌, ◌<◌, ◌≢◌, true, false, not, ◌⊎◌, inl, inr, List, [], ◌∷◌}
use Rattle.std.proofs.Common.{replicate, get_or, None, sym, ap, ◌∙◌, subst, arith}
use Rattle.std.proofs.lemmas.Bool.{cases_eq, and_from, lt-ltb}
use Rattle.std.proofs.lemmas.List.{get_or-replicate}
use Rattle.std.proofs.lemmas.Nat.{mul-add-lt, mod_below, div_below, div-add-mod', same_from_place}
use Rattle.route_plan.specs.Grid.{after, before, along, partner, row_count}
use Rattle.route_plan.specs.Sizes.{IsGrid}
use Rattle.route_plan.specs.Distances.{Switches, is_living}
use Rattle.route_plan.specs.Paths.{IsPathTo, AreJoined}
use Rattle.route_plan.specs.Routes.{first_cut_off}
use Rattle.route_plan.specs.Tables.{IsSized}
use Rattle.route_plan.proofs.Grids.{partner-b, grid_of}
use Rattle.route_plan.proofs.Levels.{linked-is}
use Rattle.route_plan.proofs.Rings.{after-in, after-last, along-row_at, along-column_at}
use Rattle.route_plan.proofs.Walks.{leads-on}
use Rattle.route_plan.proofs.Joined.{joined-none}

-- A fact of one place of a ring is one of each, where it comes from the next place to the place before.
pub record Comes (size : ℕ) (P : ℕ → Type 0) : Type 0 where
  pub back : (p : ℕ) → p < size → after size p ≢ p → P (after size p) → P p

below_it : (size at : ℕ) (P : ℕ → Type 0) → Comes size P → at < size → P at → (n p : ℕ) → p + n ≡ at → P p
below_it size at P c l h zero p e = let i : p ≡ at = omega arith in subst P (sym i) h
below_it size at P c l h (suc n) p e =
    let next : after size p ≡ p + 1 = after-in size p (omega arith) in
    c.back p (omega arith) (λ i. absurd (omega arith)) (subst P (sym next) (below_it size at P c l h n (p + 1) (omega arith)))

last_of_ring : (size at : ℕ) (P : ℕ → Type 0) → Comes size P → size ≢ 1 → at < size → P at → P (size - 1)
last_of_ring size at P c d l h =
    let turn : after size (size - 1) ≡ 0 = after-last size (size - 1) (omega arith) (omega arith) in
    c.back (size - 1) (omega arith) (λ e. absurd (omega arith)) (subst P (sym turn) (below_it size at P c l h at 0 (omega arith)))

around : (size at : ℕ) (P : ℕ → Type 0) → Comes size P → at < size → P at → (p : ℕ) → p < size → P p
around size at P c l h p m = elim (cases_eq size 1) [
  | inl e ↦ (let i : p ≡ at = omega arith in subst P (sym i) h)
  | inr d ↦ below_it size (size - 1) P c (omega arith) (last_of_ring size at P c d l h) (size - 1 - p) p (omega arith)
]

-- all switches live
record AllLive (m : Switches) : Type 0 where
  sized : IsSized m
  each : (s : ℕ) → s < 2 * m.nodes → is_living m s ≡ true

-- some path leads from a switch to the node
record Reaches (m : Switches) (to s : ℕ) : Type 0 where
  others : List ℕ
  leads : IsPathTo m to s others

reaches-on : (m : Switches) (to s t : ℕ) → AllLive m → s < 2 * m.nodes → s ≢ t →
    (t ≡ along after m.nodes s) ⊎ ((t ≡ along before m.nodes s) ⊎ (t ≡ partner s)) →
    Reaches m to t → Reaches m to s
reaches-on m to s t a l d h r =
    record { others = t ∷ r.others; leads = leads-on m to s t r.others (a.each s l) (linked-is m.nodes s t d h) r.leads }

switch_there : (n rows columns r c : ℕ) → IsGrid n rows columns → r < rows → c < columns → r * columns + c < n
switch_there n rows columns r c g l i = omega (arith, mul-add-lt r columns c rows l i, g.filled)

-- along the node's own row
row-reaches : (m : Switches) (to rows columns : ℕ) → AllLive m → IsGrid m.nodes rows columns → to < m.nodes →
    (c : ℕ) → c < columns → Reaches m to (2 * (to / columns * columns + c))
row-reaches m to rows columns a g l =
    around columns (to % columns) (λ c. Reaches m to (2 * (to / columns * columns + c))) (record { back = back })
    (mod_below to columns g.some_columns) here
  where
    row : to / columns < rows
    row = div_below to columns rows g.some_columns (omega (arith, g.filled))

    own : to / columns * columns + to % columns ≡ to
    own = div-add-mod' to columns

    here : Reaches m to (2 * (to / columns * columns + to % columns))
    here = record { others = []; leads = record { path = a.each _ (omega (arith, own)); ends = omega (arith, own) } }

    back : (c : ℕ) → c < columns → after columns c ≢ c → Reaches m to (2 * (to / columns * columns + after columns c)) →
        Reaches m to (2 * (to / columns * columns + c))
    back c i d r =
        reaches-on m to (2 * (to / columns * columns + c)) (2 * (to / columns * columns + after columns c)) a
        (omega (arith, switch_there m.nodes rows columns (to / columns) c g row i)) (λ e. d (omega arith))
        (inl (sym (along-row_at after m.nodes rows columns (to / columns) c g i))) r

-- and from there along each column
column-reaches : (m : Switches) (to rows columns : ℕ) → AllLive m → IsGrid m.nodes rows columns → to < m.nodes →
    (c : ℕ) → c < columns → (r : ℕ) → r < rows → Reaches m to (2 * (r * columns + c) + 1)
column-reaches m to rows columns a g l c i =
    around rows (to / columns) (λ r. Reaches m to (2 * (r * columns + c) + 1)) (record { back = back }) row here
  where
    row : to / columns < rows
    row = div_below to columns rows g.some_columns (omega (arith, g.filled))

    here : Reaches m to (2 * (to / columns * columns + c) + 1)
    here =
        let p : partner (2 * (to / columns * columns + c) + 1)
        ≡ 2 * (to / columns * columns + c) + 1 - 1 = partner-b (2 * (to / columns * columns + c) + 1) (omega arith) in
        reaches-on m to (2 * (to / columns * columns + c) + 1) (2 * (to / columns * columns + c)) a
        (omega (arith, switch_there m.nodes rows columns (to / columns) c g row i)) (λ e. absurd (omega arith)) (inr (inr (omega arith)))
        (row-reaches m to rows columns a g l c i)

    back : (r : ℕ) → r < rows → after rows r ≢ r → Reaches m to (2 * (after rows r * columns + c) + 1) →
        Reaches m to (2 * (r * columns + c) + 1)
    back r j d h =
        reaches-on m to (2 * (r * columns + c) + 1) (2 * (after rows r * columns + c) + 1) a
        (omega (arith, switch_there m.nodes rows columns r c g j i)) (λ e. d (same_row r (after rows r) columns c i e))
        (inl (sym (along-column_at after m.nodes rows columns r c g i))) h
      where
        same_row : (r q columns c : ℕ) → c < columns → 2 * (r * columns + c) + 1 ≡ 2 * (q * columns + c) + 1 → q ≡ r
        same_row r q columns c i e = sym (same_from_place r c q c columns i i (omega arith)).0

joined_live : (m : Switches) (a b : ℕ) → AllLive m → a < m.nodes → b < m.nodes → AreJoined m a b
joined_live m a b z l i =
    let g = grid_of m.nodes z.sized.some z.sized.few in
    let columns : ℕ = m.nodes / row_count m.nodes in
    let own : a / columns * columns + a % columns ≡ a = div-add-mod' a columns in
    let r = column-reaches m b (row_count m.nodes) columns z g i (a % columns) (mod_below a columns g.some_columns) (a / columns)
    (div_below a columns (row_count m.nodes) g.some_columns (omega (arith, g.filled))) in
    record { first = 2 * (a / columns * columns + a % columns) + 1; others = r.others; begins = omega (arith, own); leads = r.leads }

live_each : (m : Switches) → IsSized m → m.dead ≡ replicate 32 false → (s : ℕ) → s < 2 * m.nodes → is_living m s ≡ true
unfolding is_living
live_each m z e s l =
    let f : get_or m.dead s false ≡ false = ap (λ d. get_or d s false) e ∙ get_or-replicate 32 s false false (omega (arith, z.few)) in
    and_from _ _ (lt-ltb s (2 * m.nodes) l) (ap not f)

-- the first pair that is cut off, where no switch is dead
pub whole : (m : Switches) → IsSized m → m.dead ≡ replicate 32 false → first_cut_off m ≡ None
whole m z e = joined-none m z (λ a b l i. joined_live m a b (record { sized = z; each = live_each m z e }) l i)
