-- Two steps that are apart may change places.
use Rattle.std.proofs.Common.{◌≡◌, ℕ, arith}
use Rattle.std.proofs.lemmas.Bool.Decides.{nat_tests}
use Rattle.sn_base.specs.Image.{ImageData}
use Rattle.sn_consistency.specs.Entries.{Entry, Places, Legal, Apart, step}
use mathlib.Core.Path.{fun_ext}

-- two flat states that are the same at each place
record Same (F G : Places) : Type 0 where
  core : (n : ℕ) → F.core n ≡ G.core n
  held : (n b : ℕ) → F.held n b ≡ G.held n b
  content : (b : ℕ) → F.content b ≡ G.content b
  taken : (n : ℕ) → F.taken n ≡ G.taken n

same_places : {F G : Places} → Same F G → F ≡ G
same_places s = λ i. record {
  core = fun_ext s.core i;
  held = fun_ext (λ n. fun_ext (s.held n)) i;
  content = fun_ext s.content i;
  taken = fun_ext s.taken i;
}

module _ (image : ImageData) (F : Places) (e y : Entry) (a : Apart image e y) where
  swap_same : Same (step image (step image F e) y) (step image (step image F y) e)
  swap_same = record {
    core = λ n. grind (arith, nat_tests);
    held = λ n b. grind (arith, nat_tests);
    content = λ b. grind (arith, nat_tests);
    taken = λ n. grind (arith, nat_tests);
  }

  pub swap : step image (step image F e) y ≡ step image (step image F y) e
  swap = same_places swap_same

  -- what was legal stays so where a step that is apart comes before it
  pub legal_after : (N : ℕ) → Legal image N F y → Legal image N (step image F e) y
  legal_after N l = record {
    fits = l.fits;
    same = grind (arith, nat_tests);
    seen = λ r. grind (arith, nat_tests);
    done = λ d. grind (arith, nat_tests);
  }
