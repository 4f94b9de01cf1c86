-- A reservation stands exactly where the list has its LR and nothing after it that clears it.
use Rattle.std.proofs.Common.{◌≡◌, ◌≢◌, ℕ, ◌<◌, Bool, true, false, ◌⊎◌, inl, inr, List, [], ◌∷◌, ◌++◌, refl, ap, sym, ◌∙◌, arith}
use Rattle.std.proofs.lemmas.Bool.Decides.{nat_tests}
use Rattle.std.proofs.lemmas.Bool.{cases_order}
use Rattle.sn_base.specs.Image.{ImageData}
use Rattle.sn_consistency.specs.Words.{kind, is_lr}
use Rattle.sn_consistency.specs.Entries.{Entry, Places, step, run}
use Rattle.sn_consistency.specs.Sorted.{below, at_cut}
use Rattle.sn_consistency.specs.Reserved.{Leaves, AllLeave, Reserves, ReservedSince}
use Rattle.sn_consistency.proofs.Sorted.{run-below}

module _ (image : ImageData) (n b : ℕ) where
  -- one step
  step_to : (F : Places) (e : Entry) → (step image F e).held n b ≡ true →
      ((F.held n b ≡ true) × Leaves image n b e) ⊎ Reserves image n b e
  step_to F e h = go (cases_order n e.did.core)
    where
      mine : n ≡ e.did.core → (q : Bool) → is_lr (kind image e.found) ≡ q →
          ((F.held n b ≡ true) × Leaves image n b e) ⊎ Reserves image n b e
      mine i true q = inr (record { core = sym i; lr = q; same = grind (arith, nat_tests) })
      mine i false q = inl (grind (arith, nat_tests), record { own = λ j. (q, grind (arith, nat_tests)); others = λ j. absurd (j (sym i)) })

      other : n ≢ e.did.core → ((F.held n b ≡ true) × Leaves image n b e) ⊎ Reserves image n b e
      other i = inl (grind (arith, nat_tests), record { own = λ j. absurd (i (sym j)); others = λ j w s. grind (arith, nat_tests) })

      go : ((n ≡ e.did.core) ⊎ ((n < e.did.core) ⊎ (e.did.core < n))) →
          ((F.held n b ≡ true) × Leaves image n b e) ⊎ Reserves image n b e
      go (inl i) = mine i (is_lr (kind image e.found)) refl
      go (inr (inl l)) = other (omega arith)
      go (inr (inr l)) = other (omega arith)

  leaves_held : (F : Places) (e : Entry) → F.held n b ≡ true → Leaves image n b e → (step image F e).held n b ≡ true
  leaves_held F e h l = go (cases_order n e.did.core)
    where
      mine : n ≡ e.did.core → (step image F e).held n b ≡ true
      mine i = let o = l.own (sym i) in grind (arith, nat_tests)

      other : n ≢ e.did.core → (step image F e).held n b ≡ true
      other i = let o = l.others (λ j. i (sym j)) in grind (arith, nat_tests)

      go : ((n ≡ e.did.core) ⊎ ((n < e.did.core) ⊎ (e.did.core < n))) → (step image F e).held n b ≡ true
      go (inl i) = mine i
      go (inr (inl l)) = other (omega arith)
      go (inr (inr l)) = other (omega arith)

  reserves_held : (F : Places) (e : Entry) → Reserves image n b e → (step image F e).held n b ≡ true
  reserves_held F e r = grind (arith, nat_tests, r.core, r.lr, r.same)

  -- a list
  later : (e : Entry) (es : List Entry) → ReservedSince image n b es → ReservedSince image n b (e ∷ es)
  later e es r =
      record { before = e ∷ r.before; entry = r.entry; after = r.after; is = ap (λ l. e ∷ l) r.is; reserves = r.reserves; leave = r.leave }

  run_to : (F : Places) (es : List Entry) → (run image F es).held n b ≡ true →
      ((F.held n b ≡ true) × AllLeave image n b es) ⊎ ReservedSince image n b es
  run_to F [] h = inl (h, tt)
  run_to F (e ∷ es) h = go (run_to (step image F e) es h)
    where
      one : AllLeave image n b es → ((F.held n b ≡ true) × Leaves image n b e) ⊎ Reserves image n b e →
          ((F.held n b ≡ true) × AllLeave image n b (e ∷ es)) ⊎ ReservedSince image n b (e ∷ es)
      one l (inl p) = inl (p.0, (p.1, l))
      one l (inr r) = inr (record { before = []; entry = e; after = es; is = refl; reserves = r; leave = l })

      go : (((step image F e).held n b ≡ true) × AllLeave image n b es) ⊎ ReservedSince image n b es →
          ((F.held n b ≡ true) × AllLeave image n b (e ∷ es)) ⊎ ReservedSince image n b (e ∷ es)
      go (inl p) = one p.1 (step_to F e p.0)
      go (inr r) = inr (later e es r)

  all_held : (F : Places) (es : List Entry) → F.held n b ≡ true → AllLeave image n b es →
      (run image F es).held n b ≡ true
  all_held F [] h l = h
  all_held F (e ∷ es) h l = all_held (step image F e) es (leaves_held F e h l.0) l.1

  split_held : (F : Places) (before : List Entry) (e : Entry) (after : List Entry) → Reserves image n b e →
      AllLeave image n b after → (run image F (before ++ e ∷ after)).held n b ≡ true
  split_held F [] e after r l = all_held (step image F e) after (reserves_held F e r) l
  split_held F (x ∷ before) e after r l = split_held (step image F x) before e after r l

  -- a cut, where no reservation stood at the start
  module _ (F : Places) (none : F.held n b ≡ false) (f : ℕ → List Entry) (k : ℕ) where
    pub held_to : (at_cut image F f k).held n b ≡ true → ReservedSince image n b (below f k)
    held_to h = go (run_to F (below f k) (ap (λ G. G.held n b) (run-below image F f k) ∙ h))
      where
        go : ((F.held n b ≡ true) × AllLeave image n b (below f k)) ⊎ ReservedSince image n b (below f k) →
            ReservedSince image n b (below f k)
        go (inl p) = absurd (let q : true ≡ false = sym p.0 ∙ none in cc)
        go (inr r) = r

    pub held_from : ReservedSince image n b (below f k) → (at_cut image F f k).held n b ≡ true
    held_from r =
        ap (λ G. G.held n b) (sym (run-below image F f k)) ∙ ap (λ l. (run image F l).held n b) r.is
        ∙ split_held F r.before r.entry r.after r.reserves r.leave
