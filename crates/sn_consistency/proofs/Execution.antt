-- Good entries are an execution, and its last state is that of the entries.
use Rattle.std.proofs.Common.{◌≡◌, ℕ, ◌<◌, ◌≤◌, true, false, cond, Option, List, [], ◌∷◌, length, map, set, get_or, refl, sym, ap, ◌∙◌}
use Rattle.std.proofs.Common.{arith, ◌==◌, ◌⊎◌, inl, inr, Some, None}
use Rattle.std.proofs.lemmas.Bool.Decides.{nat_tests}
use Rattle.std.proofs.lemmas.Bool.{cases_order, cases_lt}
use Rattle.std.proofs.lemmas.List.{get_or-set_same, get_or-set_other, get_or-map, get_or_past, length-set, length-map}
use Rattle.sn_base.specs.Image.{ImageData}
use Rattle.sn_base.specs.declared.block.Write.{Write}
use Rattle.rv_core.specs.declared.state.CoreState.{CoreState}
use Rattle.rv_core.specs.declared.step.Record.{Record}
use Rattle.rv_core.specs.Core.{bare, start_of, is_running, is_reserved}
use Rattle.rv_core.specs.Step.{next_of}
use Rattle.rv_core.specs.Flat.{FlatState, core_at, after_write, HasStep, flat_step}
use Rattle.rv_core.specs.Execution.{Executes, state_after}
use Rattle.sn_consistency.specs.Words.{kind, block, place, next, content_after, block_in, Content}
use Rattle.sn_consistency.specs.Entries.{Entry, Places, Legal, Good, run, step}
use Rattle.sn_consistency.specs.Shows.{Shows, records}
use Rattle.sn_consistency.proofs.FlatStep.{Allowed, allowed, has_step}
use Rattle.sn_consistency.proofs.StepLaws.{kind_bare, block_bare, place_bare, after_bare, written_bare, next_held}
use Rattle.sn_consistency.proofs.BlockLaws.{written_block, length-written, cleared_bare, cleared_held}

-- the cores after a step
module _ (cs : List CoreState) (nobody : CoreState) where
  map_at : (f : CoreState → CoreState) → f nobody ≡ nobody → (n : ℕ) →
      get_or (map f cs) n nobody ≡ f (get_or cs n nobody)
  map_at f same n = go (cases_lt n (length cs))
    where
      go : (n < length cs) ⊎ (length cs ≤ n) → get_or (map f cs) n nobody ≡ f (get_or cs n nobody)
      go (inl l) = get_or-map f cs n nobody nobody l
      go (inr l) = get_or_past (map f cs) n nobody (omega (arith, length-map cs f)) ∙ sym (ap f (get_or_past cs n nobody l) ∙ same)

  set_at : (k : ℕ) (c : CoreState) (n : ℕ) → k < length cs →
      get_or (set cs k c) n nobody ≡ cond (n == k) c (get_or cs n nobody)
  set_at k c n l = go (cases_order n k)
    where
      go : ((n ≡ k) ⊎ ((n < k) ⊎ (k < n))) → get_or (set cs k c) n nobody ≡ cond (n == k) c (get_or cs n nobody)
      go (inl e) =
          let t : (n == k) ≡ true = grind (arith, nat_tests) in
          rw t (ap (λ j. get_or (set cs k c) j nobody) e ∙ get_or-set_same cs k c nobody l)
      go (inr (inl o)) =
          let t : (n == k) ≡ false = grind (arith, nat_tests) in
          rw t (get_or-set_other cs k n c nobody (omega arith))
      go (inr (inr o)) =
          let t : (n == k) ≡ false = grind (arith, nat_tests) in
          rw t (get_or-set_other cs k n c nobody (omega arith))

nobody_after : (w : Option Write) → after_write w (start_of 0 0) ≡ start_of 0 0
nobody_after None = refl
nobody_after (Some w) = refl

module _ (image : ImageData) (s : FlatState) (r : Record) where
  abbrev wrote_by : Option Write
  wrote_by = (next_of image (core_at s r.core) r.seen r.sc_done r.read).effect.write

  core_after : (n : ℕ) → r.core < length s.cores →
      core_at (flat_step image s r) n ≡ cond (n == r.core) (next image (core_at s r.core) r) (after_write wrote_by (core_at s n))
  unfolding next
  core_after n l =
      set_at (map (after_write wrote_by) s.cores) (start_of 0 0) r.core (next_of image (core_at s r.core) r.seen r.sc_done r.read).core n
      (omega (arith, length-map s.cores (after_write wrote_by)))
      ∙ ap (cond (n == r.core) (next_of image (core_at s r.core) r.seen r.sc_done r.read).core)
      (map_at s.cores (start_of 0 0) (after_write wrote_by) (nobody_after wrote_by) n)

  count_after : length (flat_step image s r).cores ≡ length s.cores
  count_after =
      length-set (map (after_write wrote_by) s.cores) r.core (next_of image (core_at s r.core) r.seen r.sc_done r.read).core
      ∙ length-map s.cores (after_write wrote_by)

-- a record on the state is its entry on the places
module _ (image : ImageData) (N : ℕ) (s : FlatState) (F : Places) (t : Shows N s F) (e : Entry) (same : e.found ≡ bare (core_at s e.did.core)) where
  found_kind : kind image e.found ≡ kind image (core_at s e.did.core)
  found_kind = rw same (kind_bare image (core_at s e.did.core))

  found_block : block image e.found ≡ block image (core_at s e.did.core)
  found_block = rw same (block_bare image (core_at s e.did.core))

  found_place : place image e.found ≡ place image (core_at s e.did.core)
  found_place = rw same (place_bare image (core_at s e.did.core))

  found_running : is_running e.found.end ≡ is_running (core_at s e.did.core).end
  found_running = rw same refl

  found_written : (v : Content) →
      content_after image e.found e.did v ≡ content_after image (core_at s e.did.core) e.did v
  found_written v = rw same (written_bare image (core_at s e.did.core) e.did v)

  found_next : bare (next image e.found e.did) ≡ bare (next image (core_at s e.did.core) e.did)
  found_next = rw same (after_bare image (core_at s e.did.core) e.did)

  legal_step : Legal image N F e → Allowed image N s.memory (core_at s e.did.core) e.did
  legal_step l =
      let w = found_kind in
      let p = found_block in
      let q = found_place in
      let u = found_running in
      record {
        within = l.fits.within;
        running = grind (arith, l.fits.running);
        seen = λ r. grind (arith, t.memory, l.seen);
        unseen = λ r. grind (arith, l.fits.unseen);
        done_sc = λ d. grind (arith, l.fits.done_sc);
        done_reserved = λ d. grind (arith, t.held, l.done);
        byte = grind (arith, l.fits.byte);
      }

  step_legal : Allowed image N s.memory (core_at s e.did.core) e.did → Legal image N F e
  step_legal l =
      let w = found_kind in
      let p = found_block in
      let q = found_place in
      let u = found_running in
      record {
        fits = record {
          within = l.within;
          running = grind (arith, l.running);
          unseen = λ r. grind (arith, l.unseen);
          done_sc = λ d. grind (arith, l.done_sc);
          byte = grind (arith, l.byte);
        };
        same = same ∙ t.core e.did.core;
        seen = λ r. grind (arith, t.memory, l.seen);
        done = λ d. grind (arith, t.held, l.done_reserved);
      }

  pub legal_has : Legal image N F e → HasStep image s e.did
  legal_has l = has_step image N s t.count e.did (legal_step l)

  pub has_legal : HasStep image s e.did → Legal image N F e
  has_legal h = step_legal (allowed image N s t.count e.did h)

  module _ (l : e.did.core < N) where
    memory_step : (b : ℕ) → block_in (flat_step image s e.did).memory b ≡ (step image F e).content b
    memory_step b =
        let w = found_kind in
        let p = found_block in
        let g = found_written (F.content b) in
        let o = written_block image (core_at s e.did.core) e.did s.memory t.size b in
        let m = t.memory b in
        grind (arith, nat_tests)

    core_step : (n : ℕ) → bare (core_at (flat_step image s e.did) n) ≡ (step image F e).core n
    core_step n =
        let g = found_next in
        let a = core_after image s e.did n (omega (arith, t.count)) in
        let b = cleared_bare image (core_at s e.did.core) e.did (core_at s n) in
        let m = t.core n in
        grind (arith, nat_tests)

    held_step : (n b : ℕ) → is_reserved (core_at (flat_step image s e.did) n).reservation b ≡ (step image F e).held n b
    held_step n b =
        let w = found_kind in
        let p = found_block in
        let a = core_after image s e.did n (omega (arith, t.count)) in
        let k = cleared_held image (core_at s e.did.core) e.did (core_at s n) b in
        let o = next_held image (core_at s e.did.core) e.did b in
        let m = t.held n b in
        grind (arith, nat_tests)

    pub shows_step : Shows N (flat_step image s e.did) (step image F e)
    shows_step = record {
      size = length-written image (core_at s e.did.core) e.did s.memory t.size;
      count = count_after image s e.did ∙ t.count;
      memory = memory_step;
      core = core_step;
      held = held_step;
    }

module _ (image : ImageData) (N : ℕ) where
  pub good_execution : (s : FlatState) (F : Places) → Shows N s F → (es : List Entry) → Good image N F es →
      Executes image s (records es)
  good_execution s F t [] g = tt
  good_execution s F t (e ∷ es) g =
      let i : e.found ≡ bare (core_at s e.did.core) = g.0.same ∙ sym (t.core e.did.core) in (
        legal_has image N s F t e i g.0,
        good_execution (flat_step image s e.did) (step image F e) (shows_step image N s F t e i g.0.fits.within) es g.1,
      )

  pub good_end : (s : FlatState) (F : Places) → Shows N s F → (es : List Entry) → Good image N F es →
      Shows N (state_after image s (records es)) (run image F es)
  good_end s F t [] g = t
  good_end s F t (e ∷ es) g =
      good_end (flat_step image s e.did) (step image F e)
      (shows_step image N s F t e (g.0.same ∙ sym (t.core e.did.core)) g.0.fits.within) es g.1
