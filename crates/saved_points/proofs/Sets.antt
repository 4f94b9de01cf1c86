-- Owners whose blocks take frames of caches that fit, fit.
use Rattle.std.proofs.Common.{◌≡◌, ℕ, zero, suc, ◌+◌, ◌%◌, ◌<◌, ◌≤◌, Bool, true, false, ◌&&◌, cond, List, [], ◌∷◌, ◌++◌, length, append_assoc}
use Rattle.std.proofs.Common.{refl, sym, ap, subst, arith, nat_eq, if◌then◌else◌, None}
use Rattle.std.specs.Prelude.{filter, flat_map, nat_le}
use Rattle.std.specs.List.{range_with_len}
use Rattle.std.proofs.lemmas.Bool.Decides.{nat_tests}
use Rattle.sn_base.specs.declared.config.Config.{Config}
use Rattle.sn_model.specs.Caches.{Cache, block_count, takes_frame, frames_below}
use Rattle.sn_model.specs.Homes.{Holder, Itself, OfCache}
use Rattle.sn_saved.specs.Saved.{AreInside, owner_named, owned_in, full_from}

-- where each block that a node owns takes a frame of its cache, it owns as many blocks of a set as take one, at most
module _ (named : ℕ → Holder) (cache : Cache) (sets node set : ℕ) (takes : (b : ℕ) → b < block_count → named b ≡ OfCache node → takes_frame cache b ≡ true) where
  abbrev owners_of : ℕ → ℕ → List (ℕ × ℕ)
  owners_of a n = flat_map (λ b. owner_named b (named b)) (range_with_len a n)

  abbrev frame_of : ℕ → ℕ
  frame_of b = if nat_eq (b % sets) set && takes_frame cache b then 1 else 0

  owner_step : (b owner : ℕ) (t q : Bool) (xs : List (ℕ × ℕ)) → nat_eq owner node ≡ q → (owner ≡ node → t ≡ true) →
      length (cond (nat_eq owner node && nat_eq (b % sets) set) ((b, owner) ∷ xs) xs)
      ≤ (if nat_eq (b % sets) set && t then 1 else 0) + length xs
  owner_step b owner t true xs e h = let i : t ≡ true = h (grind (arith, nat_tests)) in grind (arith, nat_tests)
  owner_step b owner t false xs e h = grind (arith, nat_tests)

  named_few : (b : ℕ) (h : Holder) (rest : List (ℕ × ℕ)) → (h ≡ OfCache node → takes_frame cache b ≡ true) →
      owned_in (owner_named b h ++ rest) sets node set ≤ frame_of b + owned_in rest sets node set
  named_few b (Itself content) rest h = omega arith
  named_few b (OfCache owner) rest h =
      owner_step b owner (takes_frame cache b) (nat_eq owner node)
      (filter (λ o. nat_eq o.1 node && nat_eq (o.0 % sets) set) rest) refl (λ e. h (ap OfCache e))

  few_from : (a n m : ℕ) → a + n ≡ m → m ≤ block_count →
      owned_in (owners_of a n) sets node set + frames_below a cache sets set ≤ frames_below m cache sets set
  few_from a zero m e l =
      let i : a ≡ m = omega (arith, e) in let s = ap (λ k. frames_below k cache sets set) i in omega (arith, s)
  few_from a (suc n) m e l =
      let i : a + 1 ≡ suc a = omega arith in
      let one : frames_below (a + 1) cache sets set ≡ frames_below a cache sets set + frame_of a = ap (λ k. frames_below k cache sets set) i in
      let first = named_few a (named a) (owners_of (a + 1) n) (takes a (omega (arith, e, l))) in
      let later = few_from (a + 1) n m (omega (arith, e)) l in
      omega (arith, one, first, later)

  pub few_owned : (m : ℕ) → m ≤ block_count → owned_in (owners_of 0 m) sets node set ≤ frames_below m cache sets set
  few_owned m l = let h = few_from 0 m m (omega arith) l in omega (arith, h)

-- and where no node owns more blocks of a set than it has ways, no owner is the first too many

more_pass : {A : Type 0} (p : A → Bool) (xs : List A) (x : A) (ys : List A) → p x ≡ true → length (filter p xs) < length (filter p (xs ++ x ∷ ys))
more_pass p [] x ys e = rw e (omega arith)
more_pass p (z ∷ xs) x ys e = go (p z) (more_pass p xs x ys e)
  where
    go : (q : Bool) → length (filter p xs) < length (filter p (xs ++ x ∷ ys)) →
        length (cond q (z ∷ filter p xs) (filter p xs)) < length (cond q (z ∷ filter p (xs ++ x ∷ ys)) (filter p (xs ++ x ∷ ys)))
    go true l = omega (arith, l)
    go false l = l

module _ (config : Config) where
  abbrev HasRoomFor : List (ℕ × ℕ) → Type 0
  HasRoomFor owners = (node block : ℕ) → node < config.nodes → owned_in owners config.sets node (block % config.sets) ≤ config.ways

  pub none_full : (before owners : List (ℕ × ℕ)) (place : ℕ) → AreInside config.nodes owners → HasRoomFor (before ++ owners) →
      full_from config before place owners ≡ None
  none_full before [] place inside room = refl
  none_full before (o ∷ owners) place inside room =
      let own : (nat_eq o.1 o.1 && nat_eq (o.0 % config.sets) (o.0 % config.sets)) ≡ true = grind (arith, nat_tests) in
      let less = more_pass (λ (x : ℕ × ℕ). nat_eq x.1 o.1 && nat_eq (x.0 % config.sets) (o.0 % config.sets)) before o owners own in
      let most = room o.1 o.0 (inside 0 o (omega arith)).1 in
      let short : nat_le config.ways (owned_in before config.sets o.1 (o.0 % config.sets)) ≡ false = grind (arith, nat_tests) in
      rw short
      (none_full (before ++ o ∷ []) owners (place + 1) (λ k d l. inside (suc k) d (omega (arith, l)))
      (subst HasRoomFor (sym (append_assoc before (o ∷ []) owners)) room))
