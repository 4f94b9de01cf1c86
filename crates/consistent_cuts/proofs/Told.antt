-- What the records of each block are after a retirement, place by place.
use Rattle.std.proofs.Common.{◌≡◌, ℕ, suc, Bool, true, false, ◌&&◌, ◌||◌, if◌then◌else◌, nat_eq, nat_lt, max, ◌==◌, refl, arith}
use Rattle.std.proofs.lemmas.Bool.Decides.{nat_tests}
use Rattle.rv_core.specs.declared.step.Want.{Want}
use Rattle.rv_core.specs.declared.step.Want.TheVariants.{Nothing, Load, Store, Amo, Lr, Sc, Input}
use Rattle.rv_core.specs.Core.{block_of}
use Rattle.sn_coherence.specs.Records.{Records}
use Rattle.sn_consistency.specs.Words.{Content, kind_of, address_of, reads, writes, is_lr, is_sc}
use Rattle.consistent_cuts.specs.Accesses.{records_wanting}

-- what is read or written in an interval by node n: whether it is read or written at all, whether it is written, block k,
-- and its content then; and whether it is by a load-reserved or a store-conditional
pub record IsTold (lr sc touched written : Bool) (k n now : ℕ) (v : Content) (r p : ℕ → Records) : Type 0 where
  pub value : (b : ℕ) → (p b).value ≡ (if written && (b == k) then v else (r b).value)
  pub below : (b j : ℕ) → (p b).below j ≡ (if (written && (b == k)) && nat_lt now j then v else (r b).below j)
  pub last_write : (b : ℕ) → (p b).last_write ≡ (if written && (b == k) then max (r b).last_write (suc now) else (r b).last_write)
  pub last_access : (b m : ℕ) →
      (p b).last_access m ≡ (if touched && ((b == k) && (m == n)) then max ((r b).last_access m) (suc now) else (r b).last_access m)
  pub reserved : (b m : ℕ) →
      (p b).reserved m ≡ (if m == n then (if lr then nat_eq k b else if sc then false else (r b).reserved m) else (r b).reserved m)
  pub reported : (b m : ℕ) → (p b).reported m ≡ (r b).reported m

module _ (r : ℕ → Records) (n now : ℕ) (v : ℕ → Content) where
  abbrev pub IsToldBy : Want → Bool → Type 0
  IsToldBy w done =
      IsTold (is_lr (kind_of w)) (is_sc (kind_of w)) (reads (kind_of w) || writes (kind_of w) done) (writes (kind_of w) done)
      (block_of (address_of w)) n now (v (block_of (address_of w))) r (records_wanting w done r n now v)

  pub told_by : (w : Want) (done : Bool) → IsToldBy w done
  unfolding kind_of address_of
  told_by Nothing done =
      record {
        value = λ b. refl;
        below = λ b j. refl;
        last_write = λ b. refl;
        last_access = λ b m. refl;
        reserved = λ b m. grind (arith, nat_tests);
        reported = λ b m. refl;
      }
  told_by Input done =
      record {
        value = λ b. refl;
        below = λ b j. refl;
        last_write = λ b. refl;
        last_access = λ b m. refl;
        reserved = λ b m. grind (arith, nat_tests);
        reported = λ b m. refl;
      }
  told_by (Load a) done =
      record {
        value = λ b. grind (arith, nat_tests);
        below = λ b j. grind (arith, nat_tests);
        last_write = λ b. grind (arith, nat_tests);
        last_access = λ b m. grind (arith, nat_tests);
        reserved = λ b m. grind (arith, nat_tests);
        reported = λ b m. grind (arith, nat_tests);
      }
  told_by (Store a) done =
      record {
        value = λ b. grind (arith, nat_tests);
        below = λ b j. grind (arith, nat_tests);
        last_write = λ b. grind (arith, nat_tests);
        last_access = λ b m. grind (arith, nat_tests);
        reserved = λ b m. grind (arith, nat_tests);
        reported = λ b m. grind (arith, nat_tests);
      }
  told_by (Amo a) done =
      record {
        value = λ b. grind (arith, nat_tests);
        below = λ b j. grind (arith, nat_tests);
        last_write = λ b. grind (arith, nat_tests);
        last_access = λ b m. grind (arith, nat_tests);
        reserved = λ b m. grind (arith, nat_tests);
        reported = λ b m. grind (arith, nat_tests);
      }
  told_by (Lr a) done =
      record {
        value = λ b. grind (arith, nat_tests);
        below = λ b j. grind (arith, nat_tests);
        last_write = λ b. grind (arith, nat_tests);
        last_access = λ b m. grind (arith, nat_tests);
        reserved = λ b m. grind (arith, nat_tests);
        reported = λ b m. grind (arith, nat_tests);
      }
  told_by (Sc a) true =
      record {
        value = λ b. grind (arith, nat_tests);
        below = λ b j. grind (arith, nat_tests);
        last_write = λ b. grind (arith, nat_tests);
        last_access = λ b m. grind (arith, nat_tests);
        reserved = λ b m. grind (arith, nat_tests);
        reported = λ b m. grind (arith, nat_tests);
      }
  told_by (Sc a) false =
      record {
        value = λ b. refl;
        below = λ b j. refl;
        last_write = λ b. refl;
        last_access = λ b m. refl;
        reserved = λ b m. grind (arith, nat_tests);
        reported = λ b m. refl;
      }
