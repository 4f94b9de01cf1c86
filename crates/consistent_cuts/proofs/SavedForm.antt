-- What is saved of a machine after a run is in form.
use Rattle.std.proofs.Common.{◌≡◌, ◌≢◌, ◌⊎◌, inl, inr, ⊎_elim, ℕ, zero, suc, ◌+◌, ◌*◌, ◌<◌, ◌≤◌, Bool, true, false, cond, List, [], ◌∷◌, ◌++◌, length, map}
use Rattle.std.proofs.Common.{get_or, refl, sym, ap, ◌∙◌, subst, arith, length-append, nat_eq, nat_lt, append-nil}
use Rattle.std.specs.Prelude.{filter, flat_map, replicate, nat_le}
use Rattle.std.specs.List.{All, range_with_len}
use Rattle.std.proofs.lemmas.Bool.{cases_eq, cases_lt}
use Rattle.std.proofs.lemmas.Bool.Decides.{nat_tests}
use Rattle.std.proofs.lemmas.List.{length-replicate, length-map}
use Rattle.std.proofs.lemmas.List.Elements.{All-nil, All-cons}
use Rattle.sn_base.specs.Config.{config_fits}
use Rattle.sn_base.specs.Image.{ImageData}
use Rattle.sn_base.specs.declared.config.Config.{Config}
use Rattle.sn_base.specs.declared.event.Answer.{Answer}
use Rattle.sn_base.specs.declared.event.Answer.TheVariants as answer
use Rattle.sn_base.specs.declared.event.Event.{Event}
use Rattle.sn_base.specs.declared.event.Event.TheVariants as event
use Rattle.route_plan.specs.Distances.{is_dead}
use Rattle.rv_core.specs.declared.step.Record.{Record}
use Rattle.rv_core.specs.Flat.{FlatState, flat_start, flat_step}
use Rattle.rv_core.specs.Execution.{end_of}
use Rattle.log_buffer.specs.Log.{old_at}
use Rattle.sn_model.specs.Caches.{block_count}
use Rattle.sn_model.specs.Cuts.{names_at, named_by}
use Rattle.sn_model.specs.Fabric.{Fabric, no_switches, node_at, home_of, home_node, first_node, first_fabric, initial_block}
use Rattle.sn_model.specs.Homes.{Holder, Itself, OfCache}
use Rattle.sn_model.specs.Machine.{State, Processor, start_of, first_processor, first_processors}
use Rattle.sn_model.specs.RecoveryPoint.{HasOneHolderWith, block_in}
use Rattle.sn_model.specs.Step.{step_of, state_after}
use Rattle.sn_model.specs.Trace.{TraceEntry, of_interval, below, with_event, trace_after_event, trace_after, committed_trace}
use Rattle.fabric_bounds.specs.Resumed.{each_below, processor_resumed, holder_resumed, fabric_resumed, flat_resumed, resumed, entries_from, saved_entries}
use Rattle.fabric_bounds.specs.Saved.{Saved, IsInForm, IsAccepted, AreAscending, AreInOrder, AreInside, owner_named, owners_at, given_from, given_to, saved_of, owner_in, marks_fit, most_saved, most_applied}
use Rattle.fabric_bounds.proofs.KeptResumed.{node_resumed_is, node_past, home_resumed_is}
use Rattle.fabric_bounds.proofs.KeptStart.{first_homes_at}
use Rattle.fabric_bounds.proofs.Recovery.{replicated}
use Rattle.fabric_bounds.specs.Counts.{most_sent, CountsTo}
use Rattle.consistent_cuts.specs.Headline.{IsRun}
use Rattle.consistent_cuts.specs.Origins.{Origin, Start, Resumed, MayBegin, state_at, entries_at, applied_at, reached_from, retirements_from}
use Rattle.consistent_cuts.specs.Runs.{EventFits, AllFit}
use Rattle.consistent_cuts.proofs.FabricRuns.{reached_counts}
use Rattle.consistent_cuts.proofs.GivenDead.{bytes_given, IsNoKill, IsMarked, Keeps, event_keeps, marked_same, killed}
use Rattle.consistent_cuts.proofs.Run.{from_holds, from_consistent}

-- the marks, the numbers and the bytes along a run

none_set : (n i : ℕ) → get_or (replicate n false) i false ≡ false
none_set zero i = refl
none_set (suc n) zero = refl
none_set (suc n) (suc i) = none_set n i

record Counted (nodes applied : ℕ) (s : State) : Type 0 where
  some : 1 ≤ s.fabric.net.next_id
  marks : length s.fabric.net.dead ≡ 32
  switches : (k : ℕ) → 2 * nodes ≤ k → is_dead s.fabric.net.dead k ≡ false
  bytes : bytes_given s.processors ≤ applied

kill_or : (image : ImageData) (config : Config) (s : State) (e : Event) → ((k : ℕ) × (e ≡ event.Kill k)) ⊎ IsNoKill image config s e
kill_or image config s (event.Kill k) = inl (k, refl)
kill_or image config s (event.Step n) = inr tt
kill_or image config s (event.Evict n block) = inr tt
kill_or image config s (event.Edge n) = inr tt
kill_or image config s (event.Hop id) = inr tt
kill_or image config s (event.Deliver id) = inr tt
kill_or image config s (event.Lose id) = inr tt
kill_or image config s (event.Report n) = inr tt
kill_or image config s event.Validate = inr tt
kill_or image config s event.Recover = inr tt
kill_or image config s (event.Input n byte) = inr tt

module _ (image : ImageData) (config : Config) where
  counted_by : (s t : State) (applied : ℕ) → s.fabric.net.next_id ≤ t.fabric.net.next_id → IsMarked image config s config.nodes t →
      bytes_given t.processors ≤ bytes_given s.processors + 1 → Counted config.nodes applied s → Counted config.nodes (applied + 1) t
  counted_by s t applied next marked few c = record {
    some = let l = c.some in omega (arith, l, next);
    marks = marked.0 ∙ c.marks;
    switches = λ k l. marked.1 k l ∙ c.switches k l;
    bytes = let l = c.bytes in omega (arith, l, few);
  }

  killed_counts : (s : State) (applied switch : ℕ) → switch < 2 * config.nodes → Counted config.nodes applied s →
      Counted config.nodes (applied + 1) (step_of image config s (event.Kill switch)).state
  unfolding step_of
  killed_counts s applied switch low c =
      let h = killed image config s switch config.nodes low in
      counted_by s (step_of image config s (event.Kill switch)).state applied h.1 h.0 (omega arith) c

  event_counts : (s : State) (applied : ℕ) (e : Event) → EventFits config.nodes e → Counted config.nodes applied s →
      Counted config.nodes (applied + 1) (step_of image config s e).state
  event_counts s applied e fits c = ⊎_elim
      (λ (k : (switch : ℕ) × (e ≡ event.Kill switch)). subst (λ x. Counted config.nodes (applied + 1) (step_of image config s x).state) (sym k.1)
      (killed_counts s applied k.0 (low k.0 (subst (EventFits config.nodes) k.1 fits)) c))
      (λ (k : IsNoKill image config s e). let h = event_keeps image config s e k in
      counted_by s (step_of image config s e).state applied h.1 (marked_same image config s config.nodes (step_of image config s e) h) h.2 c)
      (kill_or image config s e)
    where
      low : (switch : ℕ) → EventFits config.nodes (event.Kill switch) → switch < 2 * config.nodes
      low switch f = let g = f.numbers in grind (arith, nat_tests)

  run_counted : (s : State) (applied : ℕ) (events : List Event) → AllFit config.nodes events → Counted config.nodes applied s →
      Counted config.nodes (applied + length events) (state_after image config s events)
  run_counted s applied [] fits c = let e : applied ≡ applied + 0 = omega arith in subst (λ k. Counted config.nodes k s) e c
  run_counted s applied (event ∷ events) fits c =
      let e : applied + 1 + length events ≡ applied + suc (length events) = omega arith in
      subst (λ k. Counted config.nodes k (state_after image config (step_of image config s event).state events)) e
      (run_counted (step_of image config s event).state (applied + 1) events fits.1 (event_counts s applied event fits.0 c))

-- where a run may begin

first_bytes : (n entry : ℕ) → bytes_given (first_processors n entry) ≡ 0
first_bytes zero entry = refl
first_bytes (suc n) entry = pushed (first_processors n entry) ∙ first_bytes n entry
  where
    pushed : (ps : List Processor) → bytes_given (ps ++ first_processor n entry ∷ []) ≡ bytes_given ps
    pushed [] = refl
    pushed (p ∷ ps) = ap (λ b. length p.given + b) (pushed ps)

-- how many of these bytes are of nodes from one on, and of so many nodes
some_given : (given : List (ℕ × ℕ)) (a n : ℕ) (flat : FlatState) →
    bytes_given (map (processor_resumed flat given) (range_with_len a n)) ≤ length (filter (λ byte. nat_le a byte.0) given)
some_given given a zero flat = omega arith
some_given given a (suc n) flat =
    let later = some_given given (a + 1) n flat in
    let one = length-map (filter (λ (byte : ℕ × ℕ). nat_eq byte.0 a) given) (λ (byte : ℕ × ℕ). byte.1) in
    let parts = parted given a in
    omega (arith, later, one, parts)
  where
    cons_step : (x : ℕ × ℕ) (a : ℕ) (e l m : List (ℕ × ℕ)) → length e + length l ≤ length m →
        length (cond (nat_eq x.0 a) (x ∷ e) e) + length (cond (nat_le (a + 1) x.0) (x ∷ l) l) ≤ length (cond (nat_le a x.0) (x ∷ m) m)
    cons_step x a e l m h = grind (arith, nat_tests)

    parted : (xs : List (ℕ × ℕ)) (a : ℕ) →
        length (filter (λ byte. nat_eq byte.0 a) xs) + length (filter (λ byte. nat_le (a + 1) byte.0) xs) ≤ length (filter (λ byte. nat_le a byte.0) xs)
    parted [] a = omega arith
    parted (x ∷ xs) a =
        cons_step x a (filter (λ byte. nat_eq byte.0 a) xs) (filter (λ byte. nat_le (a + 1) byte.0) xs) (filter (λ byte. nat_le a byte.0) xs) (parted xs a)

filter_few : {A : Type 0} (p : A → Bool) (xs : List A) → length (filter p xs) ≤ length xs
filter_few p [] = omega arith
filter_few p (x ∷ xs) = go (p x) (filter_few p xs)
  where
    go : (q : Bool) → length (filter p xs) ≤ length xs → length (cond q (x ∷ filter p xs) (filter p xs)) ≤ suc (length xs)
    go true l = omega (arith, l)
    go false l = omega (arith, l)

origin_counted : (image : ImageData) (config : Config) (origin : Origin) → MayBegin image config origin →
    Counted config.nodes (applied_at origin) (state_at image config origin)
origin_counted image config Start may = record {
  some = omega arith;
  marks = refl;
  switches = λ k l. none_set 32 k;
  bytes = let e = first_bytes config.nodes image.entry in omega (arith, e);
}
origin_counted image config (Resumed saved) may =
    subst (λ (c : Config). Counted c.nodes saved.marks.applied (resumed image saved)) may.0 (record {
      some = let m = may.1.form.numbers in grind (arith, nat_tests);
      marks = may.1.form.marks;
      switches = may.1.form.switches;
      bytes =
          let a = some_given saved.given 0 saved.config.nodes (flat_resumed image saved) in
          let b = filter_few (λ (byte : ℕ × ℕ). nat_le 0 byte.0) saved.given in
          let c = may.1.form.few_given.1 in
          omega (arith, a, b, c);
    })

-- the retirements along a run

push_few : {A : Type 0} (xs : List A) (x : A) → length (xs ++ x ∷ []) ≤ length xs + 1
push_few xs x = let e = length-append xs (x ∷ []) in omega (arith, e)

traced_event : (image : ImageData) (s : State) (e : Event) (trace : List TraceEntry) → length (with_event image s e trace) ≤ length trace + 1
traced_event image s (event.Step n) trace = push_few trace _
traced_event image s _ trace = omega arith

traced_few : (image : ImageData) (s : State) (e : Event) (a : Answer) (trace : List TraceEntry) →
    length (trace_after_event image s e a trace) ≤ length trace + 1
traced_few image s e answer.Retired trace = traced_event image s e trace
traced_few image s e (answer.Recovered undo) trace =
    let h = filter_few (λ (x : TraceEntry). nat_lt x.interval undo.to) trace in omega (arith, h)
traced_few image s e _ trace = omega arith

trace_few : (image : ImageData) (config : Config) (s : State) (events : List Event) (trace : List TraceEntry) →
    length (trace_after image config s events trace) ≤ length trace + length events
trace_few image config s [] trace = omega arith
trace_few image config s (event ∷ events) trace =
    let a = traced_few image s event (step_of image config s event).answer trace in
    let b = trace_few image config (step_of image config s event).state events (trace_after_event image s event (step_of image config s event).answer trace) in
    omega (arith, a, b)

entries_few : (image : ImageData) (flat : FlatState) (rs : List Record) → length (entries_from image flat rs) ≡ length rs
entries_few image flat [] = refl
entries_few image flat (r ∷ rs) = ap suc (entries_few image (flat_step image flat r) rs)

origin_traced : (image : ImageData) (config : Config) (origin : Origin) → MayBegin image config origin → length (entries_at image origin) ≤ applied_at origin
origin_traced image config Start may = omega arith
origin_traced image config (Resumed saved) may =
    let e = entries_few image (flat_start image saved.config.nodes) saved.committed in let l = may.1.form.few_records.1 in omega (arith, e, l)

-- those below a point are some of them
below_few : (trace : List TraceEntry) (k : ℕ) → length (below trace k) ≤ length (filter (λ e. nat_lt e.interval k) trace)
below_few trace zero = omega arith
below_few trace (suc k) =
    let a = below_few trace k in
    let b = length-append (below trace k) (of_interval trace k) in
    let c = parted trace k in
    omega (arith, a, b, c)
  where
    cons_step : (x : TraceEntry) (k : ℕ) (l e m : List TraceEntry) → length l + length e ≤ length m →
        length (cond (nat_lt x.interval k) (x ∷ l) l) + length (cond (nat_eq x.interval k) (x ∷ e) e) ≤ length (cond (nat_lt x.interval (suc k)) (x ∷ m) m)
    cons_step x k l e m h = grind (arith, nat_tests)

    parted : (xs : List TraceEntry) (k : ℕ) →
        length (filter (λ e. nat_lt e.interval k) xs) + length (of_interval xs k) ≤ length (filter (λ e. nat_lt e.interval (suc k)) xs)
    parted [] k = omega arith
    parted (x ∷ xs) k =
        cons_step x k (filter (λ e. nat_lt e.interval k) xs) (of_interval xs k) (filter (λ e. nat_lt e.interval (suc k)) xs) (parted xs k)

committed_few : (trace : List TraceEntry) (k : ℕ) → length (committed_trace trace k) ≤ length trace
committed_few trace k =
    let a = length-map (below trace k) (λ (e : TraceEntry). e.did) in
    let b = below_few trace k in
    let c = filter_few (λ (e : TraceEntry). nat_lt e.interval k) trace in
    omega (arith, a, b, c)

-- the lists of what is saved

module _ (g : ℕ → Holder) where
  abbrev owners_of : ℕ → ℕ → List (ℕ × ℕ)
  owners_of a n = flat_map (λ x. owner_named x (g x)) (range_with_len a n)

  lower : (xs : List (ℕ × ℕ)) (a b : ℕ) → a ≤ b → AreAscending b xs → AreAscending a xs
  lower [] a b l h = tt
  lower (x ∷ xs) a b l h = (let k = h.0 in omega (arith, l, k), h.1)

  named_first : (h : Holder) (a : ℕ) (xs : List (ℕ × ℕ)) → AreAscending (a + 1) xs → AreAscending a (owner_named a h ++ xs)
  named_first (Itself content) a xs h = lower xs a (a + 1) (omega arith) h
  named_first (OfCache node) a xs h = (omega arith, h)

  owners_ascend : (a n : ℕ) → AreAscending a (owners_of a n)
  owners_ascend a zero = tt
  owners_ascend a (suc n) = named_first (g a) a (owners_of (a + 1) n) (owners_ascend (a + 1) n)

  named_inside : (nodes bound a : ℕ) (h : Holder) (xs : List (ℕ × ℕ)) → a < bound → ((owner : ℕ) → h ≡ OfCache owner → owner < nodes) →
      All (λ o. (o.0 < bound) × (o.1 < nodes)) xs → All (λ o. (o.0 < bound) × (o.1 < nodes)) (owner_named a h ++ xs)
  named_inside nodes bound a (Itself content) xs l low h = h
  named_inside nodes bound a (OfCache node) xs l low h = All-cons (λ o. (o.0 < bound) × (o.1 < nodes)) (a, node) xs (l, low node refl) h

  owners_inside : (nodes bound a n : ℕ) → a + n ≤ bound → ((b owner : ℕ) → b < bound → g b ≡ OfCache owner → owner < nodes) →
      All (λ o. (o.0 < bound) × (o.1 < nodes)) (owners_of a n)
  owners_inside nodes bound a zero l low = All-nil (λ (o : ℕ × ℕ). (o.0 < bound) × (o.1 < nodes))
  owners_inside nodes bound a (suc n) l low =
      named_inside nodes bound a (g a) (owners_of (a + 1) n) (omega (arith, l)) (λ owner e. low a owner (omega (arith, l)) e)
      (owners_inside nodes bound (a + 1) n (omega (arith, l)) low)

  no_owners : (a n : ℕ) → ((b : ℕ) → a ≤ b → b < a + n → (content : List ℕ) × (g b ≡ Itself content)) → owners_of a n ≡ []
  no_owners a zero h = refl
  no_owners a (suc n) h =
      let first = h a (omega arith) (omega arith) in
      ap (λ x. owner_named a x ++ owners_of (a + 1) n) first.1 ∙ no_owners (a + 1) n (λ b l u. h b (omega (arith, l)) (omega (arith, u)))

-- the bytes of a node, and then those of the nodes behind it

mapped_ordered : (bytes : List ℕ) (n a : ℕ) (rest : List (ℕ × ℕ)) → a ≤ n → ((b : ℕ) → b ≤ n → AreInOrder b rest) →
    AreInOrder a (map (λ x. (n, x)) bytes ++ rest)
mapped_ordered [] n a rest l h = h a l
mapped_ordered (x ∷ bytes) n a rest l h = (l, mapped_ordered bytes n n rest (omega arith) h)

given_ordered : (ps : List Processor) (a n : ℕ) → a ≤ n → AreInOrder a (given_from n ps)
given_ordered [] a n l = tt
given_ordered (p ∷ ps) a n l =
    mapped_ordered p.given n a (given_from (n + 1) ps) l (λ b m. given_ordered ps b (n + 1) (omega (arith, m)))

mapped_below : (bytes : List ℕ) (n nodes : ℕ) (rest : List (ℕ × ℕ)) → n < nodes → All (λ b. b.0 < nodes) rest →
    All (λ b. b.0 < nodes) (map (λ x. (n, x)) bytes ++ rest)
mapped_below [] n nodes rest l h = h
mapped_below (x ∷ bytes) n nodes rest l h =
    All-cons (λ (b : ℕ × ℕ). b.0 < nodes) (n, x) (map (λ x. (n, x)) bytes ++ rest) l (mapped_below bytes n nodes rest l h)

given_below : (ps : List Processor) (n nodes : ℕ) → n + length ps ≤ nodes → All (λ b. b.0 < nodes) (given_from n ps)
given_below [] n nodes l = All-nil (λ (b : ℕ × ℕ). b.0 < nodes)
given_below (p ∷ ps) n nodes l =
    mapped_below p.given n nodes (given_from (n + 1) ps) (omega (arith, l)) (given_below ps (n + 1) nodes (omega (arith, l)))

given_count : (ps : List Processor) (n : ℕ) → length (given_from n ps) ≡ bytes_given ps
given_count [] n = refl
given_count (p ∷ ps) n =
    length-append (map (λ x. (n, x)) p.given) (given_from (n + 1) ps)
    ∙ (ap (λ k. k + length (given_from (n + 1) ps)) (length-map p.given (λ (x : ℕ). (n, x))) ∙ ap (λ k. length p.given + k) (given_count ps (n + 1)))

-- where nothing was logged, a home names whom it has
names_now : (s : Fabric) (b k : ℕ) (v : List ℕ) → (node_at s (home_node s b)).log ≡ [] → (home_of s b).holder ≡ Itself v → names_at s b k ≡ Itself v
names_now s b k v log holder =
    ap (λ l. named_by (old_at l true b k) (home_of s b).holder) log ∙ ap (λ h. named_by (old_at [] true b k) h) holder

module _ (image : ImageData) (config : Config) where
  start_log : (m : ℕ) → (node_at (first_fabric image config.nodes) m).log ≡ []
  start_log m = ap (λ x. x.log) (replicated config.nodes m first_node)

  start_owners : owners_at (first_fabric image config.nodes) 0 ≡ []
  unfolding owners_at
  start_owners =
      no_owners (λ x. names_at (first_fabric image config.nodes) x 0) 0 block_count
      (λ b l u. (
        initial_block image b,
        names_now (first_fabric image config.nodes) b 0 (initial_block image b)
            (start_log (home_node (first_fabric image config.nodes) b)) (ap (λ e. e.holder) (first_homes_at image b (omega (arith, u)))),
      ))

module _ (nodes point next_id : ℕ) (owners : List (ℕ × ℕ)) (content : ℕ → List ℕ) (dead : List Bool) (none : owners ≡ []) where
  abbrev f : Fabric
  f = fabric_resumed nodes owners content point next_id dead

  resumed_log : (m : ℕ) → (node_at f m).log ≡ []
  resumed_log m = ⊎_elim
      (λ (l : m < nodes). ap (λ x. x.log) (node_resumed_is nodes point next_id owners content dead m l))
      (λ (l : nodes ≤ m). ap (λ x. x.log) (node_past nodes point next_id owners content dead m l))
      (cases_lt m nodes)

  resumed_owners : owners_at f point ≡ []
  unfolding owners_at
  resumed_owners =
      no_owners (λ x. names_at f x point) 0 block_count
      (λ b l u. (
        content b,
        names_now f b point (content b) (resumed_log (home_node f b))
            (ap (λ e. e.holder) (home_resumed_is owners content b (omega (arith, u))) ∙ ap (λ o. holder_resumed (owner_in o b) (content b)) none),
      ))

-- at a place where no event was applied nothing is dead and no cache owns
untouched_at : (image : ImageData) (config : Config) (origin : Origin) → MayBegin image config origin → applied_at origin ≡ 0 →
    ((k : ℕ) → is_dead (state_at image config origin).fabric.net.dead k ≡ false)
    × (owners_at (state_at image config origin).fabric (state_at image config origin).fabric.point ≡ [])
untouched_at image config Start may e = ((λ k. none_set 32 k), start_owners image config)
untouched_at image config (Resumed saved) may e =
    let u = may.1.form.untouched e in (
      u.0,
      resumed_owners saved.config.nodes saved.marks.point saved.marks.next_id saved.owners (block_in (flat_resumed image saved).memory) saved.marks.dead u.1,
    )

module _ (image : ImageData) (config : Config) (origin : Origin) (events : List Event) (may : MayBegin image config origin) (run : IsRun config events) where
  abbrev s : State
  s = reached_from image config origin events

  abbrev trace : List TraceEntry
  trace = retirements_from image config origin events

  abbrev applied : ℕ
  applied = applied_at origin + length events

  abbrev point : ℕ
  point = s.fabric.point

  counted : Counted config.nodes applied s
  counted = run_counted image config (state_at image config origin) (applied_at origin) events run.events_fit (origin_counted image config origin may)

  pub few_records : length s.committed ≤ applied
  few_records =
      let c = from_consistent image config origin events may run in
      let m = ap length c.made in
      let a = committed_few trace point in
      let b = trace_few image config (state_at image config origin) events (entries_at image origin) in
      let d = origin_traced image config origin may in
      omega (arith, m, a, b, d)

  pub few_bytes : length (given_from 0 s.processors) ≤ applied
  few_bytes = let a = given_count s.processors 0 in let b = counted.bytes in omega (arith, a, b)

  owner_low : (b owner : ℕ) → b < block_count → names_at s.fabric b point ≡ OfCache owner → owner < config.nodes
  owner_low b owner l e =
      let c = from_consistent image config origin events may run in
      subst (λ n. owner < n) c.count (subst (HasOneHolderWith s.fabric b point (block_in (end_of image config.nodes s.committed).memory b)) e (c.cut.blocks b l)).0

  processors : length s.processors ≡ config.nodes
  processors = let h = from_holds image config origin events may run in h.1.2.shape.processors ∙ h.0

  ascending : AreAscending 0 (owners_at s.fabric point)
  unfolding owners_at
  ascending = owners_ascend (λ x. names_at s.fabric x point) 0 block_count

  inside : AreInside config.nodes (owners_at s.fabric point)
  unfolding owners_at
  inside = owners_inside (λ x. names_at s.fabric x point) config.nodes block_count 0 block_count (omega arith) owner_low

  numbers : applied ≤ most_applied → marks_fit (saved_of config s applied).marks ≡ true
  numbers few =
      let c = reached_counts image config origin events may run in
      let a = c.numbers in let b = c.point in let d = counted.some in grind (arith, nat_tests)

  untouched : applied ≡ 0 → ((k : ℕ) → is_dead s.fabric.net.dead k ≡ false) × (owners_at s.fabric point ≡ [])
  untouched e = go events refl
    where
      go : (es : List Event) → events ≡ es → ((k : ℕ) → is_dead s.fabric.net.dead k ≡ false) × (owners_at s.fabric point ≡ [])
      go [] i =
          subst (λ (es : List Event). ((k : ℕ) → is_dead (reached_from image config origin es).fabric.net.dead k ≡ false)
          × (owners_at (reached_from image config origin es).fabric (reached_from image config origin es).fabric.point ≡ [])) (sym i)
          (untouched_at image config origin may (let l = ap length i in omega (arith, e, l)))
      go (x ∷ es) i = let l = ap length i in absurd (omega (arith, e, l))

  pub saved_form : applied ≤ most_applied → length (saved_of config s applied).given ≤ most_saved → length s.committed ≤ most_saved →
      IsInForm (saved_of config s applied)
  saved_form few bytes records = record {
    fits = run.fits;
    numbers = numbers few;
    marks = counted.marks;
    switches = counted.switches;
    owners = ascending;
    blocks = inside;
    given = given_ordered s.processors 0 0 (omega arith);
    nodes = given_below s.processors 0 config.nodes (let c = processors in omega (arith, c));
    few_given = (bytes, few_bytes);
    few_records = (records, few_records);
    untouched = untouched;
    unmoved = λ e. (from_consistent image config origin events may run).made ∙ ap (committed_trace trace) e;
  }
