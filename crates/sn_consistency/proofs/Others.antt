-- Numbers that are no node's, and register checkpoints that are freed, count for nothing.
use Rattle.std.proofs.Common.{◌≡◌, ℕ, zero, suc, ◌<◌, ◌≤◌, Bool, true, false, cond, List, [], ◌∷◌, refl, ◌∙◌, arith, nat_lt}
use Rattle.std.proofs.lemmas.Bool.Decides.{nat_tests}
use Rattle.sn_base.specs.Image.{ImageData}
use Rattle.rv_core.specs.declared.state.CoreState.{CoreState}
use Rattle.rv_core.specs.Core.{bare}
use Rattle.sn_consistency.specs.Entries.{Entry, Places, Good, run, step}
use Rattle.sn_consistency.specs.Sorted.{at_cut, GoodList}
use Rattle.sn_consistency.specs.Outline.{Outline, Keeps, others_reach}
use Rattle.sn_consistency.proofs.Outline.{AllPlaced-more}

-- what a number that is no node's has at a cut is what it had at the start
module _ (image : ImageData) (N : ℕ) (n : ℕ) (other : N ≤ n) where
  step_other : (F : Places) (e : Entry) → e.did.core < N → (step image F e).core n ≡ F.core n
  step_other F e w = grind (arith, nat_tests)

  run_other : (F : Places) (es : List Entry) → Good image N F es → (run image F es).core n ≡ F.core n
  run_other F [] g = refl
  run_other F (e ∷ es) g = run_other (step image F e) es g.1 ∙ step_other F e g.0.fits.within

  pub cut_other : (F : Places) (f : ℕ → List Entry) → GoodList image N F f → (k : ℕ) → (at_cut image F f k).core n ≡ F.core n
  unfolding at_cut
  cut_other F f g zero = refl
  cut_other F f g (suc k) = run_other (at_cut image F f k) (f k) (g k) ∙ cut_other F f g k

-- a core at a cut has no reservation of its own
module _ (image : ImageData) (F : Places) (start : (n : ℕ) → bare (F.core n) ≡ F.core n) where
  step_bare : (G : Places) (e : Entry) (n : ℕ) → bare (G.core n) ≡ G.core n → bare ((step image G e).core n) ≡ (step image G e).core n
  step_bare G e n h = grind (arith, nat_tests)

  run_bare : (G : Places) (es : List Entry) (n : ℕ) → bare (G.core n) ≡ G.core n → bare ((run image G es).core n) ≡ (run image G es).core n
  run_bare G [] n h = h
  run_bare G (e ∷ es) n h = run_bare (step image G e) es n (step_bare G e n h)

  pub cut_bare : (f : ℕ → List Entry) (k n : ℕ) → bare ((at_cut image F f k).core n) ≡ (at_cut image F f k).core n
  unfolding at_cut
  cut_bare f zero n = start n
  cut_bare f (suc k) n = run_bare (at_cut image F f k) (f k) n (cut_bare f k n)

module _ (image : ImageData) (N : ℕ) (F : Places) (m : Outline) (t : Keeps image N F m) where
  pub exchanged_keeps : (checkpoint : ℕ → ℕ → CoreState) →
      ((n k : ℕ) → m.known n ≤ k → k ≤ m.interval n → checkpoint n k ≡ m.checkpoint n k) →
      Keeps image N F (record m { checkpoint = checkpoint })
  exchanged_keeps checkpoint same = record {
    good = t.good;
    placed = t.placed;
    core = t.core;
    reserved = t.reserved;
    given = t.given;
    checkpoint = λ n j l u. let h = t.checkpoint n j l u in let g = same n j l u in grind arith;
    content = t.content;
    unwritten = t.unwritten;
    known_point = t.known_point;
    point_interval = t.point_interval;
  }

  module _ (k : ℕ) where
    grows : (n : ℕ) → m.interval n ≤ (others_reach N F m k).interval n
    grows n = grind (arith, nat_tests)

    checkpoint_there : (n j : ℕ) (node : Bool) → nat_lt n N ≡ node → (others_reach N F m k).known n ≤ j →
        j ≤ (others_reach N F m k).interval n →
        (at_cut image F m.list j).core n ≡ cond node (m.checkpoint n j) (F.core n)
    checkpoint_there n j true e l u = t.checkpoint n j (grind (arith, nat_tests)) (grind (arith, nat_tests))
    checkpoint_there n j false e l u = cut_other image N n (grind (arith, nat_tests)) F m.list t.good j

    pub others_keep : Keeps image N F (others_reach N F m k)
    others_keep = record {
      good = t.good;
      placed =
          λ x. AllPlaced-more image m.interval m.last_write (others_reach N F m k).interval m.last_write m.last_access m.last_access x
          (λ n l. let g = grows n in omega (arith, g, l)) (λ b l. l) (λ b n a. a) (m.list x) (t.placed x);
      core = λ n j l. t.core n j (let g = grows n in omega (arith, g, l));
      reserved = λ n j b l h. t.reserved n j b (let g = grows n in omega (arith, g, l)) h;
      given = λ n j l. t.given n j (let g = grows n in omega (arith, g, l));
      checkpoint = λ n j l u. checkpoint_there n j (nat_lt n N) refl l u;
      content = t.content;
      unwritten = t.unwritten;
      known_point = λ n. grind (arith, nat_tests, t.known_point n);
      point_interval = λ n. let g = grows n in omega (arith, g, t.point_interval n);
    }
