-- Each step on the two copies keeps their rule.
use Rattle.std.proofs.Common.{◌≡◌, ◌≢◌, ⊎_elim, ℕ, true, false, List, [], ◌∷◌, ◌++◌, set, refl, sym, subst, ap, arith, append_assoc, ◌∙◌}
use mathlib.Core.Option.{some, some-ne-none, some-injective}
use lib.ListN.{get_elem?}
use Rattle.crossbeam_utils.specs.Register.{Admits, TurnsAt, Forks, Merges}
use Rattle.atomic_table.proofs.Lists.{at_set, at_snoc, set_again}
use Rattle.sn_consistency.specs.Committed.{Begins}
use Rattle.snap_board.specs.Snap.{SnapData}
use Rattle.snap_board.specs.declared.sight.Sight.{Sight}
use Rattle.snap_board.specs.Posts.{ShownData}
use Rattle.snap_board.specs.Sights.{Goes, Shows, Looked, unknown, sight_after}
use Rattle.snap_board.proofs.Kept.{begins_all}

unknown_goes : (x : ShownData) → Goes x unknown
unknown_goes x = record { board = λ e. absurd (grind (arith, e)); seen = λ e. absurd (grind (arith, e)) }

comes : (x : ShownData) (views : List Sight) → Shows x views → (k : Sight) → Goes x k → Shows x (views ++ k ∷ [])
comes x views h k goes j l e = ⊎_elim (λ at. h j l at) (λ (same : k ≡ l). subst (Goes x) same goes) (at_snoc views k l j e)

learns : (x : ShownData) (views : List Sight) → Shows x views → (side : ℕ) (k : Sight) → Goes x k → Shows x (set views side k)
learns x views h side k goes j l e = ⊎_elim (λ (t : (j ≡ side) × (k ≡ l)). subst (Goes x) t.1 goes)
    (λ (t : (j ≢ side) × (get_elem? views j ≡ some l)). h j l t.1) (at_set views side j k l e)

pub starts : (x : ShownData) → Shows x (unknown ∷ [])
starts x = comes x [] (λ j k e. absurd (some-ne-none k (sym e))) unknown (unknown_goes x)

pub admits : Admits Shows unknown
admits x views h = comes x views h unknown (unknown_goes x)

pub forks : (side : ℕ) (v : Sight) → Forks Shows side v v v
forks side v x views h at =
    subst (λ (l : List Sight). Shows x (l ++ v ∷ [])) (sym (set_again views side v at)) (comes x views h v (h side v at))

pub merges : (side : ℕ) (v : Sight) (other : ℕ) (w : Sight) → Merges Shows side v other w (sight_after v w) unknown
merges side v other w x views h at apart there =
    let here : get_elem? views other ≡ some w = ⊎_elim (λ (t : (other ≡ side) × (w ≡ w)). absurd (apart t.0))
    (λ (t : (other ≢ side) × (get_elem? views other ≡ some w)). t.1) (at_set views side other w w there) in
    learns x (set views side w) (learns x views h side w (h other w here)) other unknown (unknown_goes x)

pub begins_on : (a b c : List SnapData) → Begins a b → Begins b c → Begins a c
begins_on a b c f g = record { more = f.more ++ g.more; is = g.is ∙ ap (λ l. l ++ g.more) f.is ∙ append_assoc a f.more g.more }

-- what may be shown next: something of the same board, whose list goes on
pub turns : (side : ℕ) (v : Sight) (x y : ShownData) → y.perch.table_id ≡ x.perch.table_id → Begins x.perch.view.seen y.perch.view.seen →
    TurnsAt Shows side v x y Looked
turns side v x y board more views h at =
    let next : Sight = record { known = true; perch = y.perch } in (
      next,
      learns y views (λ j k e. goes k (h j k e)) side next (record { board = λ known. refl; seen = λ known. begins_all y.perch.view.seen }),
      record { agrees = λ known. goes v (h side v at); known = refl; perch = refl },
    )
  where
    goes : (k : Sight) → Goes x k → Goes y k
    goes k g = record {
      board = λ known. board ∙ g.board known;
      seen = λ known. begins_on k.perch.view.seen x.perch.view.seen y.perch.view.seen (g.seen known) more;
    }

pub looks : (side : ℕ) (v : Sight) (x : ShownData) → TurnsAt Shows side v x x Looked
looks side v x = turns side v x x refl (begins_all x.perch.view.seen)
