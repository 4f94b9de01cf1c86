-- A list is an execution exactly where all its projections are good.
use Rattle.std.proofs.Common.{◌≡◌, ℕ, ◌&&◌, List, [], ◌∷◌, refl, sym, ap, ◌∙◌, subst, arith}
use Rattle.std.proofs.lemmas.Bool.Decides.{nat_tests}
use Rattle.rv_core.specs.declared.state.CoreState.{CoreState}
use Rattle.rv_core.specs.declared.step.Record.{Record}
use Rattle.sn_base.specs.Image.{ImageData}
use Rattle.rv_core.specs.Flat.{FlatState, core_at, flat_step}
use Rattle.rv_core.specs.Execution.{Executes}
use Rattle.rv_core.specs.Core.{bare, is_reserved}
use Rattle.sn_consistency.specs.Words.{block}
use Rattle.sn_consistency.specs.Entries.{Entry, Places, Legal, Good, step}
use Rattle.sn_consistency.specs.Shows.{Shows, places_of, records}
use Rattle.sn_consistency.specs.Projections.{Replays, core_step, CoreGood, entries, BlockState, block_step, BlockLegal, BlockGood}
use Rattle.sn_consistency.specs.Projections.{block_of_state, AllGood}
use Rattle.sn_consistency.proofs.StepLaws.{running_bare, kind_bare, block_bare, after_bare, next_held}
use Rattle.sn_consistency.proofs.Execution.{good_execution, has_legal, shows_step}

-- places and their parts: a reservation stands where the core's own instructions left it and no other core's write broke it
record Tied (F : Places) (c : ℕ → CoreState) (v : ℕ → BlockState) : Type 0 where
  core : (n : ℕ) → F.core n ≡ bare (c n)
  held : (n b : ℕ) → F.held n b ≡ (is_reserved (c n).reservation b && (v b).intact n)
  content : (b : ℕ) → F.content b ≡ (v b).content

-- the record with the core that it finds, and all cores after it
abbrev entry : (ℕ → CoreState) → Record → Entry
entry c r = record { found = bare (c r.core); did = r }

abbrev after : ImageData → (ℕ → CoreState) → Record → ℕ → CoreState
after image c r n = core_step image n (c n) r

module _ (image : ImageData) (N : ℕ) (F : Places) (c : ℕ → CoreState) (v : ℕ → BlockState) (t : Tied F c v) (r : Record) where
  tied_core : (n : ℕ) → (step image F (entry c r)).core n ≡ bare (after image c r n)
  tied_core n =
      let g = after_bare image (c r.core) r in
      let m = t.core n in
      grind (arith, nat_tests)

  tied_held : (n b : ℕ) →
      (step image F (entry c r)).held n b
      ≡ (is_reserved (after image c r n).reservation b && (block_step image b (v b) (entry c r)).intact n)
  tied_held n b =
      let w = kind_bare image (c r.core) in
      let p = block_bare image (c r.core) in
      let g = next_held image (c r.core) r b in
      let m = t.held n b in
      grind (arith, nat_tests)

  tied_step : Tied (step image F (entry c r)) (after image c r) (λ b. block_step image b (v b) (entry c r))
  tied_step = record {
    core = tied_core;
    held = tied_held;
    content = λ b. let m = t.content b in grind (arith, nat_tests);
  }

  replays_to : Legal image N F (entry c r) → (n : ℕ) → n ≡ r.core → Replays image N (c n) r
  replays_to l n i =
      let w = kind_bare image (c r.core) in
      let p = block_bare image (c r.core) in
      let u = running_bare (c r.core) in
      let m = t.held r.core (block image (bare (c r.core))) in
      rw i
      (record {
        within = l.fits.within;
        running = grind (arith, l.fits.running);
        unseen = λ d. grind (arith, l.fits.unseen);
        done_sc = λ d. grind (arith, l.fits.done_sc);
        done_reserved = λ d. grind (arith, l.done);
        byte = grind (arith, l.fits.byte);
      })

  block_to : Legal image N F (entry c r) → (b : ℕ) → b ≡ block image (bare (c r.core)) →
      BlockLegal image (v b) (entry c r)
  block_to l b i =
      let m = t.content b in
      let h = t.held r.core b in
      record { seen = λ q. grind (arith, l.seen); done = λ q d. grind (arith, l.done) }

  legal_from : Replays image N (c r.core) r → BlockLegal image (v (block image (bare (c r.core)))) (entry c r) →
      Legal image N F (entry c r)
  legal_from k l =
      let w = kind_bare image (c r.core) in
      let p = block_bare image (c r.core) in
      let u = running_bare (c r.core) in
      let m = t.content (block image (bare (c r.core))) in
      let h = t.held r.core (block image (bare (c r.core))) in
      record {
        fits = record {
          within = k.within;
          running = grind (arith, k.running);
          unseen = λ d. grind (arith, k.unseen);
          done_sc = λ d. grind (arith, k.done_sc);
          byte = grind (arith, k.byte);
        };
        same = sym (t.core r.core);
        seen = λ q. grind (arith, l.seen);
        done = λ d. grind (arith, l.done, k.done_sc, k.done_reserved);
      }

module _ (image : ImageData) (N : ℕ) where
  cores_good : (F : Places) (c : ℕ → CoreState) (v : ℕ → BlockState) → Tied F c v → (rs : List Record) →
      Good image N F (entries image c rs) → (n : ℕ) → CoreGood image N n (c n) rs
  cores_good F c v t [] g n = tt
  cores_good F c v t (r ∷ rs) g n = (
    replays_to image N F c v t r g.0 n,
    cores_good (step image F (entry c r)) (after image c r) (λ b. block_step image b (v b) (entry c r))
        (tied_step image N F c v t r) rs g.1 n,
  )

  blocks_good : (F : Places) (c : ℕ → CoreState) (v : ℕ → BlockState) → Tied F c v → (rs : List Record) →
      Good image N F (entries image c rs) → (b : ℕ) → BlockGood image b (v b) (entries image c rs)
  blocks_good F c v t [] g b = tt
  blocks_good F c v t (r ∷ rs) g b = (
    block_to image N F c v t r g.0 b,
    blocks_good (step image F (entry c r)) (after image c r) (λ d. block_step image d (v d) (entry c r))
        (tied_step image N F c v t r) rs g.1 b,
  )

  all_good : (F : Places) (c : ℕ → CoreState) (v : ℕ → BlockState) → Tied F c v → (rs : List Record) →
      ((n : ℕ) → CoreGood image N n (c n) rs) → ((b : ℕ) → BlockGood image b (v b) (entries image c rs)) →
      Good image N F (entries image c rs)
  all_good F c v t [] p q = tt
  all_good F c v t (r ∷ rs) p q = (
    legal_from image N F c v t r ((p r.core).0 refl) ((q (block image (bare (c r.core)))).0 refl),
    all_good (step image F (entry c r)) (after image c r) (λ b. block_step image b (v b) (entry c r)) (tied_step image N F c v t r) rs
        (λ n. (p n).1) (λ b. (q b).1),
  )

  -- an execution's entries are good
  execution_good : (s : FlatState) (F : Places) → Shows N s F → (c : ℕ → CoreState) (v : ℕ → BlockState) → Tied F c v →
      (rs : List Record) → Executes image s rs → Good image N F (entries image c rs)
  execution_good s F t c v q [] g = tt
  execution_good s F t c v q (r ∷ rs) g =
      let i : bare (c r.core) ≡ bare (core_at s r.core) = sym (q.core r.core) ∙ sym (t.core r.core) in (
        has_legal image N s F t (entry c r) i g.0,
        execution_good (flat_step image s r) (step image F (entry c r))
            (shows_step image N s F t (entry c r) i (omega (arith, t.count, g.0.within))) (after image c r)
            (λ b. block_step image b (v b) (entry c r)) (tied_step image N F c v q r) rs g.1,
      )

pub entries_back : (image : ImageData) (c : ℕ → CoreState) (rs : List Record) → records (entries image c rs) ≡ rs
entries_back image c [] = refl
entries_back image c (r ∷ rs) = ap (λ l. r ∷ l) (entries_back image (after image c r) rs)

module _ (image : ImageData) (N : ℕ) (s : FlatState) (shows : Shows N s (places_of s)) (rs : List Record) where
  tied : Tied (places_of s) (core_at s) (block_of_state s)
  tied = record { core = λ n. refl; held = λ n b. grind arith; content = λ b. refl }

  -- the entries of an execution are good
  pub entries_good : Executes image s rs → Good image N (places_of s) (entries image (core_at s) rs)
  entries_good g = execution_good image N s (places_of s) shows (core_at s) (block_of_state s) tied rs g

  pub law_to : Executes image s rs → AllGood image N s rs
  law_to g =
      let h = entries_good g in
      record {
        cores = cores_good image N (places_of s) (core_at s) (block_of_state s) tied rs h;
        blocks = blocks_good image N (places_of s) (core_at s) (block_of_state s) tied rs h;
      }

  pub law_from : AllGood image N s rs → Executes image s rs
  law_from g =
      subst (Executes image s) (entries_back image (core_at s) rs)
      (good_execution image N s (places_of s) shows (entries image (core_at s) rs)
      (all_good image N (places_of s) (core_at s) (block_of_state s) tied rs g.cores g.blocks))
