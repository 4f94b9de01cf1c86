-- The least place at which a projection fails is the first record without a flat step.
use Rattle.std.proofs.Common.{◌≡◌, ℕ, zero, suc, ◌<◌, List, [], ◌∷◌, ◌++◌, take, length, slice_get, Some, refl, ap, subst, arith}
use Rattle.sn_base.specs.Image.{ImageData}
use Rattle.rv_core.specs.declared.state.CoreState.{CoreState}
use Rattle.rv_core.specs.declared.step.Record.{Record}
use Rattle.rv_core.specs.Core.{bare}
use Rattle.rv_core.specs.Flat.{FlatState, HasStep, flat_step}
use Rattle.rv_core.specs.Execution.{Executes, state_after}
use Rattle.sn_consistency.specs.Entries.{Entry}
use Rattle.sn_consistency.specs.Shows.{Shows, places_of}
use Rattle.sn_consistency.specs.Projections.{core_step, core_after, CoreGood, entries, BlockState, block_step, BlockGood, FirstWithoutStep}
use Rattle.sn_consistency.specs.Projections.{LeastFailing}
use Rattle.sn_consistency.proofs.ProjectionLaw.{law_to, law_from}

-- a record more at the end
module _ (image : ImageData) where
  front_executes : (s : FlatState) (rs : List Record) (p : ℕ) (r : Record) → slice_get rs p ≡ Some r →
      Executes image s (take (suc p) rs) → HasStep image (state_after image s (take p rs)) r
  front_executes s [] p r e g = absurd (cc)
  front_executes s (x ∷ rs) zero r e g = let i : x ≡ r = cc in subst (HasStep image s) i g.0
  front_executes s (x ∷ rs) (suc p) r e g = front_executes (flat_step image s x) rs p r e g.1

  more_executes : (s : FlatState) (rs : List Record) (p : ℕ) → Executes image s (take p rs) →
      ((r : Record) → slice_get rs p ≡ Some r → HasStep image (state_after image s (take p rs)) r) →
      Executes image s (take (suc p) rs)
  more_executes s [] zero g h = tt
  more_executes s [] (suc p) g h = tt
  more_executes s (x ∷ rs) zero g h = (h x refl, tt)
  more_executes s (x ∷ rs) (suc p) g h = (g.0, more_executes (flat_step image s x) rs p g.1 h)

  only_executes : (s : FlatState) (rs : List Record) (p : ℕ) (r : Record) → slice_get rs p ≡ Some r →
      Executes image s (take p rs) → HasStep image (state_after image s (take p rs)) r →
      Executes image s (take (suc p) rs)
  only_executes s rs p r e g h =
      more_executes s rs p g (λ q f. let i : r ≡ q = cc in subst (HasStep image (state_after image s (take p rs))) i h)

-- where there is a record at a place
record At (rs : List Record) (p : ℕ) : Type 0 where
  item : Record
  is : slice_get rs p ≡ Some item

at : (rs : List Record) (p : ℕ) → p < length rs → At rs p
at [] p l = absurd (omega arith)
at (r ∷ rs) zero l = record { item = r; is = refl }
at (r ∷ rs) (suc p) l = let a = at rs p (omega arith) in record { item = a.item; is = a.is }

module _ (image : ImageData) (N : ℕ) (s : FlatState) (shows : Shows N s (places_of s)) (rs : List Record) (p : ℕ) where
  pub least_to : FirstWithoutStep image s rs p → LeastFailing image N s rs p
  least_to f = record {
    within = f.within;
    before = law_to image N s shows (take p rs) f.before;
    fails =
        λ g. let a = at rs p f.within in
        f.none a.item a.is (front_executes image s rs p a.item a.is (law_from image N s shows (take (suc p) rs) g));
  }

  pub least_from : LeastFailing image N s rs p → FirstWithoutStep image s rs p
  least_from f =
      let g = law_from image N s shows (take p rs) f.before in
      record {
        within = f.within;
        before = g;
        none = λ r e h. f.fails (law_to image N s shows (take (suc p) rs) (only_executes image s rs p r e g h));
      }

-- a front of a list is a front of each projection
module _ (image : ImageData) where
  pub CoreGood-front : (N n : ℕ) (c : CoreState) (xs ys : List Record) → CoreGood image N n c (xs ++ ys) →
      CoreGood image N n c xs
  CoreGood-front N n c [] ys g = tt
  CoreGood-front N n c (x ∷ xs) ys g = (g.0, CoreGood-front N n (core_step image n c x) xs ys g.1)

  pub CoreGood-append : (N n : ℕ) (c : CoreState) (xs ys : List Record) → CoreGood image N n c xs →
      CoreGood image N n (core_after image n c xs) ys → CoreGood image N n c (xs ++ ys)
  CoreGood-append N n c [] ys g h = h
  CoreGood-append N n c (x ∷ xs) ys g h = (g.0, CoreGood-append N n (core_step image n c x) xs ys g.1 h)

  pub CoreGood-back : (N n : ℕ) (c : CoreState) (xs ys : List Record) → CoreGood image N n c (xs ++ ys) →
      CoreGood image N n (core_after image n c xs) ys
  CoreGood-back N n c [] ys g = g
  CoreGood-back N n c (x ∷ xs) ys g = CoreGood-back N n (core_step image n c x) xs ys g.1

  pub core_after-append : (n : ℕ) (c : CoreState) (xs ys : List Record) →
      core_after image n c (xs ++ ys) ≡ core_after image n (core_after image n c xs) ys
  core_after-append n c [] ys = refl
  core_after-append n c (x ∷ xs) ys = core_after-append n (core_step image n c x) xs ys

  pub entries-append : (c : ℕ → CoreState) (xs ys : List Record) →
      entries image c (xs ++ ys) ≡ entries image c xs ++ entries image (λ n. core_after image n (c n) xs) ys
  entries-append c [] ys = refl
  entries-append c (x ∷ xs) ys =
      ap (λ l. record { found = bare (c x.core); did = x } ∷ l) (entries-append (λ n. core_step image n (c n) x) xs ys)

  pub BlockGood-front : (b : ℕ) (v : BlockState) (xs ys : List Entry) → BlockGood image b v (xs ++ ys) →
      BlockGood image b v xs
  BlockGood-front b v [] ys g = tt
  BlockGood-front b v (x ∷ xs) ys g = (g.0, BlockGood-front b (block_step image b v x) xs ys g.1)
