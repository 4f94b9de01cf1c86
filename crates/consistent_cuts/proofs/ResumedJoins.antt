-- Where a saved machine goes on it has what is joined, with the records before it in interval 0.
use Rattle.std.proofs.Common.{◌≡◌, ℕ, zero, suc, ◌+◌, ◌-◌, ◌<◌, ◌≤◌, Bool, true, false, not, cond, ◌&&◌, List, [], ◌∷◌, ◌++◌, length, map, drop, arith}
use Rattle.std.proofs.Common.{refl, sym, ap, ◌∙◌, subst, nat_lt, nat_eq, ◌==◌, Option, Some, None, length-append}
use Rattle.std.specs.Prelude.{get_or, slice_index, filter_map, flat_map, replicate, max}
use Rattle.std.specs.List.{find, range_with_len}
use Rattle.std.proofs.lemmas.Bool.Decides.{nat_tests}
use Rattle.std.proofs.lemmas.List.{length-replicate, get_or-replicate}
use Rattle.std.proofs.lemmas.List.FromFn.{get_or-map-range_with_len, length-map-range_with_len}
use Rattle.std.proofs.Math.ListN.{get_or-eq_default}
use Rattle.sn_base.specs.Config.{config_fits}
use Rattle.sn_base.specs.Image.{ImageData}
use Rattle.rv_core.specs.declared.state.CoreState.{CoreState}
use Rattle.rv_core.specs.declared.step.Record.{Record}
use Rattle.rv_core.specs.Core.{bare, is_reserved, start_of}
use Rattle.rv_core.specs.Flat.{FlatState, flat_start, core_at}
use Rattle.rv_core.specs.Execution.{end_of, out_of, in_of}
use Rattle.sn_model.specs.Fabric.{Fabric, Node, node_at, first_node}
use Rattle.sn_model.specs.Machine.{State, Processor, processor_at, first_processor}
use Rattle.sn_model.specs.MachineEvents.{checkpoint_of}
use Rattle.sn_model.specs.Instructions.{taken_by}
use Rattle.sn_model.specs.RecoveryPoint.{block_in}
use Rattle.fabric_bounds.specs.Resumed.{node_resumed, processor_resumed, flat_resumed, resumed, entries_from, saved_entries}
use Rattle.fabric_bounds.specs.Saved.{Saved, IsAccepted, given_to, begins_with}
use Rattle.sn_model.specs.Trace.{TraceEntry, of_interval, below, committed_trace, committed_output}
use Rattle.sn_coherence.specs.Records.{Records, resting_records}
use Rattle.sn_consistency.specs.Entries.{Entry, Places}
use Rattle.sn_consistency.specs.Outline.{Outline, saved_outline, others_reach}
use Rattle.sn_consistency.specs.Projections.{entries}
use Rattle.sn_consistency.specs.Shows.{records, outs}
use Rattle.sn_consistency.proofs.Others.{others_keep}
use Rattle.sn_consistency.proofs.ProjectionLaw.{entries_back}
use Rattle.sn_consistency.proofs.Saved.{saved_end, saved_outs, saved_nobody, saved_keeps}
use Rattle.sn_consistency.proofs.Start.{start_shows}
use Rattle.fabric_bounds.specs.Recorded.{KeepsRecords}
use Rattle.fabric_bounds.specs.Start.{resumed_beside}
use Rattle.fabric_bounds.proofs.KeptResumed.{resumed-kept, resumed-recorded, count_resumed, node_resumed_is, node_past}
use Rattle.consistent_cuts.specs.Lists.{IsTraced, IsSortedFrom, retirement_of, held_of, not_validated}
use Rattle.consistent_cuts.specs.Outlines.{outline_of, start_places, interval_of, IsRestShaped, Agrees}
use Rattle.consistent_cuts.specs.RunInvariant.{RunInvariant, Holds}
use Rattle.consistent_cuts.proofs.Hears.{recount}
use Rattle.consistent_cuts.proofs.Moments.{same_block}
use Rattle.consistent_cuts.proofs.Outlines.{IsSameKept, same_kept}
use Rattle.consistent_cuts.proofs.Points.{nobodys}
use Rattle.consistent_cuts.proofs.SavedEntries.{did_from, out_from, here_from, later_from, none_waits, below_from}

-- a test that no number below a bound meets
none_found : (p : ℕ → Bool) (a n k : ℕ) → find p (range_with_len a n) ≡ None → a ≤ k → k < a + n → p k ≡ false
none_found p a zero k e l u = absurd (omega (arith, l, u))
none_found p a (suc n) k e l u =
    go (p a) (nat_eq a k) refl refl e (λ f m. none_found p (a + 1) n k f m (omega (arith, u)))
  where
    go : (q i : Bool) → p a ≡ q → nat_eq a k ≡ i → cond q (Some a) (find p (range_with_len (a + 1) n)) ≡ None →
        (find p (range_with_len (a + 1) n) ≡ None → a + 1 ≤ k → p k ≡ false) → p k ≡ false
    go true i t h f later = absurd (cc)
    go false true t h f later = let j : a ≡ k = grind (arith, nat_tests) in ap p (sym j) ∙ t
    go false false t h f later = later f (grind (arith, nat_tests))

-- a list that begins with another is that and the rest
begins_is : (list xs : List ℕ) → begins_with list xs ≡ true → list ≡ xs ++ drop (length xs) list
begins_is list [] h = refl
begins_is [] (x ∷ xs) h = absurd (cc)
begins_is (y ∷ list) (x ∷ xs) h =
    let e : y ≡ x = grind (arith, nat_tests) in let r = begins_is list xs (grind arith) in ap (λ l. y ∷ l) r ∙ ap (λ z. z ∷ (xs ++ drop (length xs) list)) e

one_of : (c : CoreState) (k : ℕ) → get_or (c ∷ []) k c ≡ c
one_of c zero = refl
one_of c (suc k) = refl

module _ (image : ImageData) (saved : Saved) (accepted : IsAccepted image saved) where
  abbrev N : ℕ
  N = saved.config.nodes

  abbrev point : ℕ
  point = saved.marks.point

  abbrev rs : List Record
  rs = saved.committed

  abbrev start : FlatState
  start = flat_start image N

  abbrev flat : FlatState
  flat = flat_resumed image saved

  abbrev s : State
  s = resumed image saved

  abbrev F : Places
  F = start_places image N

  abbrev es : List Entry
  es = entries image (core_at start) rs

  abbrev trace : List TraceEntry
  trace = saved_entries image saved

  abbrev r : ℕ → Records
  r b = resting_records N point (block_in flat.memory b)

  abbrev list : ℕ → List Entry
  list x = cond (x == 0) es []

  some : 1 ≤ N
  some = let f = accepted.form.fits in grind (arith, nat_tests)

  few : N ≤ 16
  few = let f = accepted.form.fits in grind (arith, nat_tests)

  count : length s.fabric.nodes ≡ N
  count = count_resumed N point saved.marks.next_id saved.owners (block_in flat.memory) saved.marks.dead

  count_processors : length s.processors ≡ N
  count_processors = length-map-range_with_len (processor_resumed flat saved.given) 0 N

  node_is : (n : ℕ) → n < N → node_at s.fabric n ≡ node_resumed saved.owners (block_in flat.memory) point n
  node_is n l = node_resumed_is N point saved.marks.next_id saved.owners (block_in flat.memory) saved.marks.dead n l

  processor_is : (n : ℕ) → n < N → processor_at s n ≡ processor_resumed flat saved.given n
  processor_is n l = get_or-map-range_with_len (processor_resumed flat saved.given) 0 N n n (first_processor 0 0) l (omega arith)

  nobody_is : (n : ℕ) → N ≤ n → processor_at s n ≡ first_processor 0 0
  nobody_is n h = get_or-eq_default s.processors (first_processor 0 0) (let c = count_processors in omega (arith, c, h))

  -- each processor is resumed, or is nobody's
  by_processor : (P : ℕ → Processor → Type 0) → ((n : ℕ) → n < N → P n (processor_resumed flat saved.given n)) →
      ((n : ℕ) → N ≤ n → P n (first_processor 0 0)) → (n : ℕ) → P n (processor_at s n)
  by_processor P inside outside n = go (nat_lt n N) refl
    where
      go : (q : Bool) → nat_lt n N ≡ q → P n (processor_at s n)
      go true e = let l : n < N = grind (arith, nat_tests) in subst (P n) (sym (processor_is n l)) (inside n l)
      go false e = let h : N ≤ n = grind (arith, nat_tests) in subst (P n) (sym (nobody_is n h)) (outside n h)

  nobodys_core : (n : ℕ) → N ≤ n → core_at flat n ≡ start_of 0 0
  nobodys_core n h =
      get_or-eq_default flat.cores (start_of 0 0)
      (let c = (saved_end image N start (start_shows image N) rs accepted.execution).count in omega (arith, c, h))

  core_is : (n : ℕ) → bare (core_at flat n) ≡ bare (processor_at s n).core
  core_is = by_processor (λ n p. bare (core_at flat n) ≡ bare p.core) (λ n l. refl) (λ n h. ap bare (nobodys_core n h))

  free : (n b : ℕ) → is_reserved (processor_at s n).core.reservation b ≡ false
  free = by_processor (λ n p. (b : ℕ) → is_reserved p.core.reservation b ≡ false) (λ n l b. refl) (λ n h b. refl)

  -- what was given is what was read and the rest
  taken_is : (n : ℕ) → taken_by s n ≡ length (in_of n rs)
  taken_is n = omega arith

  left : (n : ℕ) → (processor_at s n).given ≡ in_of n rs ++ drop (taken_by s n) (processor_at s n).given
  left n =
      by_processor (λ m p. p.given ≡ in_of m rs ++ drop (length (in_of m rs)) p.given) (λ m l. begins_is (given_to saved.given m) (in_of m rs) (read m l))
      (λ m h. ap (λ l. l ++ drop (length l) []) (sym (saved_nobody image N start (start_shows image N) rs accepted.execution m h))) n
      ∙ ap (λ k. in_of n rs ++ drop k (processor_at s n).given) (sym (taken_is n))
    where
      read : (m : ℕ) → m < N → begins_with (given_to saved.given m) (in_of m rs) ≡ true
      read m l =
          let h = none_found (λ node. not (begins_with (given_to saved.given node) (in_of node rs))) 0 N m accepted.read (omega arith) (omega (arith, l)) in
          grind arith

  taken_few : (n : ℕ) → taken_by s n ≤ length (processor_at s n).given
  taken_few n =
      let a = ap length (left n) ∙ length-append (in_of n rs) (drop (taken_by s n) (processor_at s n).given) in
      let b = taken_is n in omega (arith, a, b)

  kept : KeepsRecords s.fabric r
  kept = (
    resumed_beside saved.owners,
    resumed-kept N point saved.marks.next_id saved.owners (block_in flat.memory) saved.marks.dead some few accepted.form.blocks,
    resumed-recorded N point saved.marks.next_id saved.owners (block_in flat.memory) saved.marks.dead some few accepted.form.blocks,
  )

  -- the sorted list
  abbrev first : Outline
  first = saved_outline flat es point (λ n. (processor_at s n).given) (λ n. drop (taken_by s n) (processor_at s n).given)

  abbrev others : Outline
  others = others_reach N F first 0

  now_is : (n : ℕ) → n < N → (node_at s.fabric n).now ≡ point
  now_is n l = ap (λ x. x.now) (node_is n l)

  known_is : (n : ℕ) → n < N → (node_at s.fabric n).known ≡ point
  known_is n l = ap (λ x. x.known) (node_is n l)

  interval_same : (n : ℕ) → others.interval n ≡ interval_of s.fabric n
  interval_same n = let a = now_is n in let c = count in grind (arith, nat_tests)

  known_same : (n : ℕ) → others.known n ≡ (node_at s.fabric n).known
  known_same n =
      let a = known_is n in
      let b : N ≤ n → (node_at s.fabric n).known ≡ 0 = λ h. (nobodys image s N n 0 h count count_processors).0 in
      grind (arith, nat_tests)

  checkpoint_same : (n k : ℕ) (node : Bool) → nat_lt n N ≡ node →
      checkpoint_of (processor_at s n) (node_at s.fabric n).known k ≡ cond node (bare (core_at flat n)) (F.core n)
  checkpoint_same n k true e =
      let l : n < N = grind (arith, nat_tests) in
      ap (λ p. checkpoint_of p (node_at s.fabric n).known k) (processor_is n l) ∙ one_of (bare (core_at flat n)) (k - (node_at s.fabric n).known)
  checkpoint_same n k false e =
      let h : N ≤ n = grind (arith, nat_tests) in
      ap (λ j. checkpoint_of (processor_at s n) j k) (nobodys image s N n k h count count_processors).0
      ∙ (nobodys image s N n k h count count_processors).1

  same : IsSameKept others (outline_of s r list)
  same = record {
    point = refl;
    interval = interval_same;
    known = known_same;
    core = core_is;
    reserved = λ n b. sym (free n b);
    checkpoint = λ n k l u. checkpoint_same n k (nat_lt n N) refl;
    given = λ n. refl;
    waiting = λ n. refl;
    list = λ x. refl;
    content = λ b k. same_block flat.memory b;
    value = λ b. same_block flat.memory b;
    last_write = λ b. refl;
    last_access = λ b n. refl;
  }

  -- the lists
  unmoved : point ≡ 0 → trace ≡ []
  unmoved e = ap (entries_from image start) (accepted.form.unmoved e)

  none_waiting : (k : ℕ) → point ≡ k → not_validated k trace ≡ []
  none_waiting zero e = ap (not_validated 0) (unmoved e)
  none_waiting (suc k) e = none_waits image start rs (suc k) (omega arith)

  all_below : (k : ℕ) → point ≡ k → below trace k ≡ trace
  all_below zero e = sym (unmoved e)
  all_below (suc k) e = below_from image start rs k

  traced : IsTraced s trace
  traced = record {
    pending = ap (map retirement_of) (sym (none_waiting point refl));
    committed = sym (did_from image start rs) ∙ ap (map (λ (e : TraceEntry). e.did)) (sym (all_below point refl));
    held = ap (flat_map held_of) (sym (none_waiting point refl));
    released = sym (out_from image start rs) ∙ ap (filter_map (λ (e : TraceEntry). e.out)) (sym (all_below point refl));
  }

  later : (k : ℕ) → list (suc k) ≡ []
  later k = grind (arith, nat_tests)

  did_is : (x : ℕ) → records (list x) ≡ map (λ (e : TraceEntry). e.did) (of_interval trace x)
  did_is zero =
      entries_back image (core_at start) rs ∙ sym (did_from image start rs)
      ∙ ap (map (λ (e : TraceEntry). e.did)) (sym (here_from image start rs))
  did_is (suc k) = rw (later k) (ap (map (λ (e : TraceEntry). e.did)) (sym (later_from image start rs k)))

  out_is : (x : ℕ) → outs image (list x) ≡ filter_map (λ (e : TraceEntry). e.out) (of_interval trace x)
  out_is zero =
      saved_outs image N start (start_shows image N) rs accepted.execution ∙ sym (out_from image start rs)
      ∙ ap (filter_map (λ (e : TraceEntry). e.out)) (sym (here_from image start rs))
  out_is (suc k) = rw (later k) (ap (filter_map (λ (e : TraceEntry). e.out)) (sym (later_from image start rs k)))

  joins : RunInvariant image s r list trace
  joins = record {
    fabric = kept;
    shape = record {
      processors = count_processors ∙ sym count;
      reported = length-replicate N point ∙ sym count;
      checkpoints = λ n l. counted n (subst (λ c. n < c) count l);
      taken = λ n l. taken_few n;
    };
    agrees = record {
      reserved = λ b n lb l. sym (free n b);
      reported = λ b n lb l. reported_is n (subst (λ c. n < c) count l);
    };
    sorted =
        recount image N (length s.fabric.nodes) (outline_of s r list) count
        (same_kept image N F others (outline_of s r list) same
        (others_keep image N F first
        (saved_keeps image N start (start_shows image N) rs accepted.execution point accepted.form.unmoved (λ n. (processor_at s n).given)
        (λ n. drop (taken_by s n) (processor_at s n).given) left) 0));
    traced = traced;
    made = record { did = did_is; out = out_is };
  }
    where
      counted : (n : ℕ) → n < N → (node_at s.fabric n).known + length (processor_at s n).checkpoints ≡ (node_at s.fabric n).now + 1
      counted n l =
          let a = known_is n l in let b = now_is n l in let c = ap (λ p. length p.checkpoints) (processor_is n l) in omega (arith, a, b, c)

      reported_is : (n : ℕ) → n < N → cond (nat_lt n N) point 0 ≡ slice_index s.reported n
      reported_is n l = let a = get_or-replicate N n point 0 l in grind (arith, nat_tests)

  pub resumed_holds : Holds image N s trace
  resumed_holds = (count, (r, list, joins))
