-- Where the fabric goes on from a saved recovery point all bounds are kept.
use Rattle.std.proofs.Common.{◌≡◌, ◌∙◌, ⊎_elim, ℕ, ◌+◌, ◌%◌, ◌<◌, ◌≤◌, Bool, true, false, ◌&&◌, ◌||◌, cond, List, [], ◌∷◌, ◌++◌}
use Rattle.std.proofs.Common.{length, refl, sym, ap, subst, arith, append_assoc, nat_lt, Option, Some, None}
use Rattle.std.specs.Prelude.{nat_eq, nat_le, if◌then◌else◌, filter}
use Rattle.std.proofs.lemmas.Bool.{cases_lt}
use Rattle.std.proofs.lemmas.Bool.Decides.{nat_tests}
use Rattle.std.proofs.lemmas.List.{append-nil}
use Rattle.sn_base.specs.Config.{config_fits}
use Rattle.sn_base.specs.Image.{ImageData}
use Rattle.sn_base.specs.declared.config.Config.{Config}
use Rattle.sn_model.specs.Caches.{Line, Cache, is_present, empty_lines, block_count, takes_frame, frames_taken}
use Rattle.sn_model.specs.Caches.{cache_of_lines}
use Rattle.sn_model.specs.Fabric.{Fabric, Node, node_at}
use Rattle.sn_model.specs.PointEvents.{restored_line}
use Rattle.sn_model.specs.RecoveryPoint.{block_in}
use Rattle.fabric_coherence.specs.Resumed.{content_owned, cache_resumed, node_resumed, fabric_resumed, flat_resumed, resumed}
use Rattle.fabric_coherence.specs.Saved.{Saved, IsAccepted, AreInside, owner_in, owned_in, full_from}
use Rattle.fabric_coherence.specs.OtherEvents.{owns}
use Rattle.sn_model.proofs.Taken.{none-taken, taken-fewer, taken-more}
use Rattle.fabric_coherence.specs.Start.{is_home_owned, owner_or_zero, resumed_beside}
use Rattle.fabric_coherence.proofs.KeptResumed.{resumed-kept, line_resumed, line_past, count_resumed, node_resumed_is}
use Rattle.fabric_bounds.specs.Bounds.{CacheFits, EdgeFits, KeepsBounds}
use Rattle.fabric_bounds.specs.Counts.{CountsTo}

-- a block takes a frame where the node owns it

abbrev is_of : Option ℕ → ℕ → Bool
is_of o n = owns (is_home_owned o) (owner_or_zero o) n

present_of : (o : Option ℕ) (n : ℕ) (v : List ℕ) → (is_present (restored_line (content_owned o n v)).state || false) ≡ is_of o n
present_of None n v = refl
present_of (Some owner) n v = grind (arith, nat_tests)

low_step : (b : ℕ) (p q : Bool) → b < block_count → p ≡ q → p ≡ (nat_lt b block_count && q)
low_step b p q l e = grind (arith, nat_tests)

past_step : (b : ℕ) (q : Bool) → block_count ≤ b → false ≡ (nat_lt b block_count && q)
past_step b q l = grind (arith, nat_tests)

takes_of : (owners : List (ℕ × ℕ)) (content : ℕ → List ℕ) (n b : ℕ) →
    takes_frame (cache_resumed owners content n) b ≡ (nat_lt b block_count && is_of (owner_in owners b) n)
takes_of owners content n b = ⊎_elim
    (λ (l : b < block_count). low_step b (takes_frame (cache_resumed owners content n) b) (is_of (owner_in owners b) n) l
    (ap (λ (x : Line). is_present x.state || false) (line_resumed owners content n b l) ∙ present_of (owner_in owners b) n (content b)))
    (λ (l : block_count ≤ b). ap (λ (x : Line). is_present x.state || false) (line_past owners content n b l)
    ∙ past_step b (is_of (owner_in owners b) n) l)
    (cases_lt b block_count)

-- so a node takes as many frames of a set as blocks of it are listed for it, at most

no_step : (p : Bool) (n : ℕ) → (p && is_of None n) ≡ true → false ≡ true
no_step p n h = grind arith

with_owner : (p q : Bool) (r : Option ℕ) (owner n : ℕ) → (p && is_of (cond q (Some owner) r) n) ≡ true → ((p && is_of r n) || q) ≡ true
with_owner p true r owner n h = grind arith
with_owner p false r owner n h = grind arith

of_another : (p q : Bool) (r : Option ℕ) (owner n : ℕ) → nat_eq owner n ≡ false → (p && is_of (cond q (Some owner) r) n) ≡ true →
    (p && is_of r n) ≡ true
of_another p true r owner n e h = grind (arith, nat_tests)
of_another p false r owner n e h = h

counted : {X : Type 0} (p : X → Bool) (x : X) (xs : List X) → length (filter p (x ∷ xs)) ≡ (if p x then 1 else 0) + length (filter p xs)
counted p x xs = go (p x)
  where
    go : (q : Bool) → length (cond q (x ∷ filter p xs) (filter p xs)) ≡ cond q 1 0 + length (filter p xs)
    go true = omega arith
    go false = omega arith

module _ (content : ℕ → List ℕ) (sets n y : ℕ) where
  abbrev caches : List (ℕ × ℕ) → Cache
  caches owners = cache_resumed owners content n

  few_step : (o : ℕ × ℕ) (owners : List (ℕ × ℕ)) (q : Bool) → nat_eq o.1 n ≡ q →
      frames_taken (caches owners) sets y ≤ owned_in owners sets n (y % sets) →
      frames_taken (caches (o ∷ owners)) sets y ≤ (if q && nat_eq (o.0 % sets) (y % sets) then 1 else 0) + owned_in owners sets n (y % sets)
  few_step o owners true e h =
      let m = taken-more (caches (o ∷ owners)) (caches owners) sets o.0 y
      (λ b t. rw (takes_of owners content n b)
      (with_owner (nat_lt b block_count) (nat_eq o.0 b) (owner_in owners b) o.1 n (sym (takes_of (o ∷ owners) content n b) ∙ t))) in
      grind arith
  few_step o owners false e h =
      let m = taken-fewer (caches (o ∷ owners)) (caches owners) sets y
      (λ b t. takes_of owners content n b
      ∙ of_another (nat_lt b block_count) (nat_eq o.0 b) (owner_in owners b) o.1 n e (sym (takes_of (o ∷ owners) content n b) ∙ t)) in
      grind arith

  few_taken : (owners : List (ℕ × ℕ)) → frames_taken (caches owners) sets y ≤ owned_in owners sets n (y % sets)
  few_taken [] =
      let m = taken-fewer (caches []) (cache_of_lines empty_lines) sets y
      (λ b t. absurd (let e = no_step (nat_lt b block_count) n (sym (takes_of [] content n b) ∙ t) in cc)) in
      omega (arith, m, none-taken sets y)
  few_taken (o ∷ owners) =
      let m = few_step o owners (nat_eq o.1 n) refl (few_taken owners) in
      let c = counted (λ (x : ℕ × ℕ). nat_eq x.1 n && nat_eq (x.0 % sets) (y % sets)) o owners in
      omega (arith, m, c)

-- and where no owner is the first too many, that is no more than there are ways

pushed : (p : (ℕ × ℕ) → Bool) (xs : List (ℕ × ℕ)) (x : ℕ × ℕ) → length (filter p (xs ++ x ∷ [])) ≡ length (filter p xs) + (if p x then 1 else 0)
pushed p [] x = go (p x)
  where
    go : (q : Bool) → length (cond q (x ∷ []) []) ≡ 0 + cond q 1 0
    go true = refl
    go false = refl
pushed p (y ∷ xs) x =
    let h = pushed p xs x in let a = counted p y (xs ++ x ∷ []) in let b = counted p y xs in omega (arith, h, a, b)

module _ (config : Config) where
  abbrev FitsAll : List (ℕ × ℕ) → Type 0
  FitsAll owners = (node set : ℕ) → owned_in owners config.sets node set ≤ config.ways

  one_more : (before : List (ℕ × ℕ)) (o : ℕ × ℕ) → nat_le config.ways (owned_in before config.sets o.1 (o.0 % config.sets)) ≡ false →
      FitsAll before → FitsAll (before ++ o ∷ [])
  one_more before o t h node set = go (nat_eq o.1 node && nat_eq (o.0 % config.sets) set) refl
    where
      p : (ℕ × ℕ) → Bool
      p x = nat_eq x.1 node && nat_eq (x.0 % config.sets) set

      same : (nat_eq o.1 node && nat_eq (o.0 % config.sets) set) ≡ true → (o.1 ≡ node) × (o.0 % config.sets ≡ set)
      same e = (grind (arith, nat_tests), grind (arith, nat_tests))

      go : (q : Bool) → (nat_eq o.1 node && nat_eq (o.0 % config.sets) set) ≡ q → owned_in (before ++ o ∷ []) config.sets node set ≤ config.ways
      go true e =
          let s = same e in
          let l : owned_in before config.sets o.1 (o.0 % config.sets) < config.ways = grind (arith, nat_tests) in
          let m : owned_in before config.sets node set < config.ways =
          subst (λ k. owned_in before config.sets node k < config.ways) s.1 (subst (λ k. owned_in before config.sets k (o.0 % config.sets) < config.ways) s.0 l) in
          let c = pushed (λ (x : ℕ × ℕ). nat_eq x.1 node && nat_eq (x.0 % config.sets) set) before o in grind arith
      go false e =
          let m = h node set in
          let c = pushed (λ (x : ℕ × ℕ). nat_eq x.1 node && nat_eq (x.0 % config.sets) set) before o in grind arith

  fits_from : (before : List (ℕ × ℕ)) (place : ℕ) (owners : List (ℕ × ℕ)) → full_from config before place owners ≡ None →
      FitsAll before → FitsAll (before ++ owners)
  fits_from before place [] e h = subst FitsAll (sym (append-nil before)) h
  fits_from before place (o ∷ owners) e h =
      go (nat_le config.ways (owned_in before config.sets o.1 (o.0 % config.sets))) refl e
      (λ f t. fits_from (before ++ o ∷ []) (place + 1) owners f (one_more before o t h))
    where
      go : (q : Bool) → nat_le config.ways (owned_in before config.sets o.1 (o.0 % config.sets)) ≡ q →
          cond q (Some place) (full_from config (before ++ o ∷ []) (place + 1) owners) ≡ None →
          (full_from config (before ++ o ∷ []) (place + 1) owners ≡ None →
          nat_le config.ways (owned_in before config.sets o.1 (o.0 % config.sets)) ≡ false → FitsAll ((before ++ o ∷ []) ++ owners)) →
          FitsAll (before ++ o ∷ owners)
      go true t f later = absurd (cc)
      go false t f later = subst FitsAll (append_assoc before (o ∷ []) owners) (later f t)

-- so the cache of what is listed fits
pub listed_fits : (config : Config) (owners : List (ℕ × ℕ)) (content : ℕ → List ℕ) (n : ℕ) → full_from config [] 0 owners ≡ None →
    CacheFits config (cache_resumed owners content n)
listed_fits config owners content n e block =
    let a = few_taken content config.sets n block owners in
    let b = fits_from config [] 0 owners e (λ node set. omega arith) n (block % config.sets) in
    omega (arith, a, b)

module _ (config : Config) (owners : List (ℕ × ℕ)) (content : ℕ → List ℕ) (point next_id : ℕ) (dead : List Bool) (sizes : config_fits config ≡ true)
    (inside : AreInside config.nodes owners) (sets : full_from config [] 0 owners ≡ None) where
  abbrev s : Fabric
  s = fabric_resumed config.nodes owners content point next_id dead

  some : 1 ≤ config.nodes
  some = grind (arith, nat_tests)

  few : config.nodes ≤ 16
  few = grind (arith, nat_tests)

  fits : (n : ℕ) → CacheFits config (cache_resumed owners content n)
  fits n = listed_fits config owners content n sets

  low : (n : ℕ) → n < length s.nodes → n < config.nodes
  low n l = subst (λ c. n < c) (count_resumed config.nodes point next_id owners content dead) l

  node_is : (n : ℕ) → n < length s.nodes → node_at s n ≡ node_resumed owners content point n
  node_is n l = node_resumed_is config.nodes point next_id owners content dead n (low n l)

  edge : (n j : ℕ) → EdgeFits config (resumed_beside owners) n j
  edge n j = (
    cache_resumed owners content n,
    fits n,
    λ b l e. takes_of owners content n b ∙ sym (low_step b (is_of (owner_in owners b) n) (is_of (owner_in owners b) n) l refl) ∙ e,
  )

  pub going_on_bounded : KeepsBounds config s
  going_on_bounded = (
    resumed_beside owners,
    resumed-kept config.nodes point next_id owners content dead some few inside,
    record {
      logs = λ n l. subst (λ (x : Node). length x.log ≤ config.log) (sym (node_is n l)) (omega arith);
      net = omega arith;
      frames = λ n l. subst (λ (x : Node). CacheFits config x.cache) (sym (node_is n l)) (fits n);
      edges = λ n j l. edge n j;
    },
  )

  pub going_on_now : (n : ℕ) → n < length s.nodes → (node_at s n).now ≡ point
  going_on_now n l = ap (λ (x : Node). x.now) (node_is n l)

module _ (image : ImageData) (saved : Saved) (accepted : IsAccepted image saved) where
  abbrev content_saved : ℕ → List ℕ
  content_saved = block_in (flat_resumed image saved).memory

  pub resumed_bounded : KeepsBounds saved.config (resumed image saved).fabric
  resumed_bounded =
      going_on_bounded saved.config saved.owners content_saved saved.marks.point saved.marks.next_id saved.marks.dead accepted.form.fits
      accepted.form.blocks accepted.sets

  pub resumed_counts : CountsTo saved.marks.applied (resumed image saved).fabric
  resumed_counts = record {
    numbers = let m = accepted.form.numbers in grind (arith, nat_tests);
    nows =
        λ n l. subst (λ k. k ≤ saved.marks.applied)
        (sym (going_on_now saved.config saved.owners content_saved saved.marks.point saved.marks.next_id saved.marks.dead accepted.form.fits
        accepted.form.blocks accepted.sets n l)) (let m = accepted.form.numbers in grind (arith, nat_tests));
    point = let m = accepted.form.numbers in grind (arith, nat_tests);
  }
