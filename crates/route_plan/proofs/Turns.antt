-- links go both ways, and so do paths
use Rattle.std.proofs.Common.{◌≡◌, ℕ, ◌+◌, ◌-◌, ◌*◌, ◌/◌, ◌%◌, ◌<◌, ◌≤◌, true, ◌⊎◌, inl, inr, List, [], ◌∷◌, refl, sym, ap, ◌∙◌, arith}
use Rattle.std.proofs.lemmas.Bool.{cases_eq}
use Rattle.std.proofs.lemmas.Nat.{div_below, mod_below}
use Rattle.route_plan.specs.Grid.{after, before, along, partner, is_linked, node_of, row_count}
use Rattle.route_plan.specs.Sizes.{IsGrid}
use Rattle.route_plan.specs.Distances.{Switches}
use Rattle.route_plan.specs.Paths.{IsPath, last_of, AreJoined}
use Rattle.route_plan.specs.Tables.{IsSized}
use Rattle.route_plan.proofs.Grids.{partner-a, partner-b, after-stays, before-stays, grid_of}
use Rattle.route_plan.proofs.Levels.{linked-from, linked-is, linked-apart}
use Rattle.route_plan.proofs.Rings.{before-after, after-before, along-row_at, along-column_at, place-a, place-b}
use Rattle.route_plan.proofs.Walks.{living-there, path-first}

-- a step and the step that undoes it
record Undoes (step back : ℕ → ℕ → ℕ) : Type 0 where
  stays : (size p : ℕ) → 1 ≤ size → step size p < size
  undoes : (size p : ℕ) → p < size → back size (step size p) ≡ p

back_row : (step back : ℕ → ℕ → ℕ) (n rows columns s : ℕ) → Undoes step back → IsGrid n rows columns → s % 2 ≡ 0 →
    along back n (along step n s) ≡ s
back_row step back n rows columns s u g e =
    let r = s / 2 / columns in
    let c = s / 2 % columns in
    let l : c < columns = mod_below (s / 2) columns g.some_columns in
    let there : along step n s ≡ 2 * (r * columns + step columns c) = ap (along step n) (sym (place-a columns s e))
    ∙ along-row_at step n rows columns r c g l in
    ap (along back n) there ∙ (along-row_at back n rows columns r (step columns c) g (u.stays columns c g.some_columns) ∙
    (ap (λ x. 2 * (r * columns + x)) (u.undoes columns c l) ∙ place-a columns s e))

back_column : (step back : ℕ → ℕ → ℕ) (n rows columns s : ℕ) → Undoes step back → IsGrid n rows columns → s < 2 * n → s % 2 ≡ 1 →
    along back n (along step n s) ≡ s
back_column step back n rows columns s u g i e =
    let r = s / 2 / columns in
    let c = s / 2 % columns in
    let l : c < columns = mod_below (s / 2) columns g.some_columns in
    let m : r < rows = div_below (s / 2) columns rows g.some_columns (omega (arith, g.filled)) in
    let there : along step n s ≡ 2 * (step rows r * columns + c) + 1 = ap (along step n) (sym (place-b columns s e))
    ∙ along-column_at step n rows columns r c g l in
    ap (along back n) there ∙ (along-column_at back n rows columns (step rows r) c g l ∙
    (ap (λ x. 2 * (x * columns + c) + 1) (u.undoes rows r m) ∙ place-b columns s e))

parity : (s : ℕ) → (s % 2 ≡ 0) ⊎ (s % 2 ≡ 1)
parity s = elim (cases_eq (s % 2) 0) [ inl e ↦ inl e | inr d ↦ inr (omega arith) ]

back : (step back : ℕ → ℕ → ℕ) (n s : ℕ) → Undoes step back → 1 ≤ n → n ≤ 16 → s < 2 * n → along back n (along step n s) ≡ s
back step undo n s u some few l = elim (parity s) [
  | inl e ↦ back_row step undo n (row_count n) (n / row_count n) s u (grid_of n some few) e
  | inr e ↦ back_column step undo n (row_count n) (n / row_count n) s u (grid_of n some few) l e
]

partner-back : (s : ℕ) → partner (partner s) ≡ s
partner-back s = elim (parity s) [
  | inl e ↦ ap partner (partner-a s e) ∙ (partner-b (s + 1) (omega arith) ∙ omega arith)
  | inr e ↦ ap partner (partner-b s e) ∙ (partner-a (s - 1) (omega arith) ∙ omega arith)
]

pub linked-back : (n s t : ℕ) → 1 ≤ n → n ≤ 16 → s < 2 * n → is_linked n s t ≡ true → is_linked n t s ≡ true
linked-back n s t some few l e = linked-is n t s (λ h. linked-apart n s t e (sym h)) (turn (linked-from n s t e))
  where
    turn : (t ≡ along after n s) ⊎ ((t ≡ along before n s) ⊎ (t ≡ partner s)) →
        (s ≡ along after n t) ⊎ ((s ≡ along before n t) ⊎ (s ≡ partner t))
    turn (inl h) =
        inr (inl (sym (ap (along before n) h ∙ back after before n s (record { stays = after-stays; undoes = before-after }) some few l)))
    turn (inr (inl h)) =
        inl (sym (ap (along after n) h ∙ back before after n s (record { stays = before-stays; undoes = after-before }) some few l))
    turn (inr (inr h)) = inr (inr (sym (ap partner h ∙ partner-back s)))

-- a path from the last switch of another, back to where that began and on
record Back (m : Switches) (s : ℕ) (others acc : List ℕ) : Type 0 where
  rest : List ℕ
  path : IsPath m (last_of s others) rest
  ends : last_of (last_of s others) rest ≡ last_of s acc

turned : (m : Switches) (s : ℕ) (others acc : List ℕ) → IsSized m → IsPath m s others → IsPath m s acc → Back m s others acc
turned m s [] acc z p q = record { rest = acc; path = q; ends = refl }
turned m s (t ∷ others) acc z p q =
    let b = turned m t others (s ∷ acc) z p.2
    (path-first m t others p.2, linked-back m.nodes s t z.some z.few (living-there m s p.0) p.1, q) in
    record { rest = b.rest; path = b.path; ends = b.ends }

pub joined-back : (m : Switches) (a b : ℕ) → IsSized m → AreJoined m a b → AreJoined m b a
joined-back m a b z j =
    let t = turned m j.first j.others [] z j.leads.path (path-first m j.first j.others j.leads.path) in
    record {
      first = last_of j.first j.others;
      others = t.rest;
      begins = j.leads.ends;
      leads = record { path = t.path; ends = ap node_of t.ends ∙ j.begins };
    }
