-- Some of a list, in its order.
use Rattle.std.proofs.Common.{◌≡◌, inl, inr, ⊎_elim, ℕ, ◌<◌, List, [], ◌∷◌, ◌++◌, refl, sym, ap, subst, ◌∙◌, arith, length-append}
use Rattle.std.specs.Prelude.{◌+◌, take, length, get_or}
use Rattle.std.proofs.lemmas.List.{take_more}
use Rattle.std.proofs.lemmas.List.Elements.{All-nil, All-push}
use Rattle.std.specs.Prelude.{◌≤◌}
use Rattle.std.specs.List.{All}
use Rattle.monitor_run.specs.declared.marks.Mark.{Mark}
use Rattle.monitor_run.specs.Seen.{IsSomeOf}
use Rattle.monitor_run.specs.Taken.{AreTaken}

module _ {A : Type 0} where
  pub some-none : (all : List A) → IsSomeOf [] all
  some-none all = tt

  -- one more of all that isn't taken
  pub some-skip : (some all : List A) (y : A) → IsSomeOf some all → IsSomeOf some (all ++ y ∷ [])
  some-skip [] all y h = tt
  some-skip (x ∷ some) [] y h = absurd h
  some-skip (x ∷ some) (z ∷ all) y h = ⊎_elim
      (λ (t : (x ≡ z) × IsSomeOf some all). inl (t.0, some-skip some all y t.1))
      (λ (t : IsSomeOf (x ∷ some) all). inr (some-skip (x ∷ some) all y t)) h

  -- one more that is
  pub some-take : (some all : List A) (y : A) → IsSomeOf some all → IsSomeOf (some ++ y ∷ []) (all ++ y ∷ [])
  some-take [] [] y h = inl (refl, tt)
  some-take [] (z ∷ all) y h = inr (some-take [] all y tt)
  some-take (x ∷ some) [] y h = absurd h
  some-take (x ∷ some) (z ∷ all) y h = ⊎_elim
      (λ (t : (x ≡ z) × IsSomeOf some all). inl (t.0, some-take some all y t.1))
      (λ (t : IsSomeOf (x ∷ some) all). inr (some-take (x ∷ some) all y t)) h

module _ {A : Type 0} (all : List A) (i : ℕ) (d : A) (below : i < length all) where
  pub some-passed : (some : List A) → IsSomeOf some (take i all) → IsSomeOf some (take (i + 1) all)
  some-passed some h = subst (λ (l : List A). IsSomeOf some l) (sym (take_more all i d below)) (some-skip some (take i all) (get_or all i d) h)

  pub some-taken : (some longer : List A) → IsSomeOf some (take i all) → longer ≡ some ++ get_or all i d ∷ [] →
      IsSomeOf longer (take (i + 1) all)
  some-taken some longer h e =
      subst (λ (l : List A). IsSomeOf l (take (i + 1) all)) (sym e)
      (subst (λ (l : List A). IsSomeOf (some ++ get_or all i d ∷ []) l) (sym (take_more all i d below))
      (some-take some (take i all) (get_or all i d) h))

pub one-more : {A : Type 0} (some longer : List A) (x : A) → longer ≡ some ++ x ∷ [] → length longer ≡ length some + 1
one-more some longer x e = ap (λ l. length l) e ∙ length-append some (x ∷ [])

-- the last of a list
module _ {A : Type 0} where
  abbrev last_or : List A → A → A
  last_or [] d = d
  last_or (x ∷ xs) d = last_or xs x

  last_snoc : (xs : List A) (x d : A) → last_or (xs ++ x ∷ []) d ≡ x
  last_snoc [] x d = refl
  last_snoc (y ∷ xs) x d = last_snoc xs x y

  pub same-last : (xs ys : List A) (x y : A) → xs ++ x ∷ [] ≡ ys ++ y ∷ [] → x ≡ y
  same-last xs ys x y e = sym (last_snoc xs x x) ∙ ap (λ l. last_or l x) e ∙ last_snoc ys y x

-- of nothing, of a list whose last is taken, and of one whose last isn't
pub taken-none : (seen : List Mark) (published : List Mark) → seen ≡ [] → length published ≡ 0 → AreTaken seen published
taken-none seen published none empty = record {
  from = subst (λ (l : List Mark). IsSomeOf l published) (sym none) tt;
  above = subst (λ (l : List Mark). All (λ (m : Mark). 0 < m.point) l) (sym none) (All-nil (λ (m : Mark). 0 < m.point));
  last = λ m ends high. let a = ap (λ (l : List Mark). length l) ends.1 in let b = length-append ends.0 (m ∷ []) in absurd (omega (arith, a, b, empty));
}

module _ (published before seen : List Mark) (last : Mark) (all : published ≡ before ++ last ∷ []) (some : IsSomeOf seen before) (above : All (λ (m : Mark). 0 < m.point) seen) where
  pub taken-all : (longer : List Mark) → longer ≡ seen ++ last ∷ [] → 0 < last.point → AreTaken longer published
  taken-all longer e high = record {
    from = subst (λ (l : List Mark). IsSomeOf l published) (sym e)
        (subst (λ (l : List Mark). IsSomeOf (seen ++ last ∷ []) l) (sym all) (some-take seen before last some));
    above = subst (λ (l : List Mark). All (λ (m : Mark). 0 < m.point) l) (sym e) (All-push (λ (m : Mark). 0 < m.point) seen last above high);
    last = λ m ends positive. (seen, e ∙ ap (λ (x : Mark). seen ++ x ∷ []) (same-last before ends.0 last m (sym all ∙ ends.1)));
  }

  pub taken-less : last.point ≤ 0 → AreTaken seen published
  taken-less low = record {
    from = subst (λ (l : List Mark). IsSomeOf seen l) (sym all) (some-skip seen before last some);
    above = above;
    last = λ m ends positive.
        let same = ap (λ (x : Mark). x.point) (same-last before ends.0 last m (sym all ∙ ends.1)) in absurd (omega (arith, same, positive, low));
  }
