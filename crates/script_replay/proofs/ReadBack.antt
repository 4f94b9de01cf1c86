-- A report that is a trace is read as the committed records: they are of the machine's cores, and no more than there were events.
use Rattle.std.proofs.Common.{◌≡◌, ℕ, zero, suc, ◌+◌, ◌≤◌, List, [], ◌∷◌, ◌++◌, length, map, All, refl, ap, ◌∙◌, arith}
use Rattle.std.proofs.lemmas.Bool.Decides.{nat_tests}
use Rattle.std.proofs.lemmas.List.{length-append, length-map, length-set, length_push}
use Rattle.std.proofs.lemmas.List.Elements.{All-nil, All-cons}
use Rattle.std.specs.Prelude.{Bool, true, false, nat_eq, nat_lt, if◌then◌else◌, filter, Option, Ok, codes}
use Rattle.sn_base.specs.Image.{ImageData}
use Rattle.sn_base.specs.declared.block.Write.{Write}
use Rattle.sn_base.specs.declared.config.Config.{Config}
use Rattle.sn_base.specs.declared.event.Event.{Event}
use Rattle.sn_base.specs.declared.event.Event.TheVariants as event
use Rattle.sn_base.specs.declared.event.Answer.{Answer}
use Rattle.sn_base.specs.declared.event.Answer.TheVariants.{Retired, Recovered}
use Rattle.rv_core.specs.declared.step.Record.{Record}
use Rattle.rv_core.specs.Flat.{FlatState, first_cores, flat_start, flat_step, after_write, next_by}
use Rattle.rv_core.specs.Execution.{Executes}
use Rattle.sn_model.specs.Machine.{State, start_of}
use Rattle.sn_model.specs.Step.{step_of}
use Rattle.sn_model.specs.Trace.{TraceEntry, entry_at, with_event, trace_after_event, trace_after, of_interval, below}
use Rattle.due_events.specs.Headline.{IsRun, state_of_run, retirements}
use Rattle.due_events.proofs.Run.{reached_consistent}
use Rattle.sn_text.specs.Items.{most_items}
use Rattle.sn_text.specs.Trace.{trace_of}
use Rattle.sn_text.specs.Written.{HasValues, IsRecordOf, trace_text}
use Rattle.sn_text.proofs.Comments.{comments-say_nothing}
use Rattle.sn_text.proofs.Written.{trace-back_commented}
use Rattle.sink_pieces.specs.Pieces.{report_text}
use Rattle.script_replay.specs.Pieces.{summary_pieces}
use Rattle.script_replay.specs.Shown.{committed_by}
use Rattle.script_replay.proofs.Groups.{few-nodes}
use Rattle.script_replay.proofs.Summaries.{comments-summary}

-- an event adds one retirement at most

filter-few : (p : TraceEntry → Bool) (trace : List TraceEntry) → length (filter p trace) ≤ length trace
filter-few p [] = omega arith
filter-few p (e ∷ trace) = by_test (p e) (filter-few p trace)
  where
    by_test : (b : Bool) → length (filter p trace) ≤ length trace →
        length (if b then e ∷ filter p trace else filter p trace) ≤ suc (length trace)
    by_test true h = omega (arith, h)
    by_test false h = omega (arith, h)

with_event-few : (image : ImageData) (s : State) (e : Event) (trace : List TraceEntry) →
    length (with_event image s e trace) ≤ length trace + 1
with_event-few image s (event.Step n) trace = omega (arith, length_push trace (entry_at image s n))
with_event-few image s _ trace = omega arith

traced-few : (image : ImageData) (s : State) (e : Event) (a : Answer) (trace : List TraceEntry) →
    length (trace_after_event image s e a trace) ≤ length trace + 1
traced-few image s e Retired trace = with_event-few image s e trace
traced-few image s e (Recovered undo) trace = omega (arith, filter-few (λ t. nat_lt t.interval undo.to) trace)
traced-few image s e _ trace = omega arith

trace_after-few : (image : ImageData) (config : Config) (s : State) (events : List Event) (trace : List TraceEntry) →
    length (trace_after image config s events trace) ≤ length trace + length events
trace_after-few image config s [] trace = omega arith
trace_after-few image config s (e ∷ events) trace =
    let next = step_of image config s e in
    let one = traced-few image s e next.answer trace in
    let more = trace_after-few image config next.state events (trace_after_event image s e next.answer trace) in
    omega (arith, one, more)

-- none is in two intervals

parts-of : (k : ℕ) (trace : List TraceEntry) → length (filter (λ e. nat_lt e.interval k) trace) + length (of_interval trace k)
    ≤ length (filter (λ e. nat_lt e.interval (suc k)) trace)
parts-of k [] = omega arith
parts-of k (e ∷ trace) =
    by_test (nat_lt e.interval k) (nat_eq e.interval k) (nat_lt e.interval (suc k)) (grind (arith, nat_tests)) (grind (arith, nat_tests))
    (parts-of k trace)
  where
    lower : List TraceEntry
    lower = filter (λ e. nat_lt e.interval k) trace

    same : List TraceEntry
    same = of_interval trace k

    both : List TraceEntry
    both = filter (λ e. nat_lt e.interval (suc k)) trace

    by_test : (a b c : Bool) → (a ≡ true → (b ≡ false) × (c ≡ true)) → (b ≡ true → c ≡ true) → length lower + length same ≤ length both →
        length (if a then e ∷ lower else lower) + length (if b then e ∷ same else same) ≤ length (if c then e ∷ both else both)
    by_test true true c one two h = let no : true ≡ false = (one refl).0 in absurd cc
    by_test true false true one two h = omega (arith, h)
    by_test true false false one two h = let no : false ≡ true = (one refl).1 in absurd cc
    by_test false true true one two h = omega (arith, h)
    by_test false true false one two h = let no : false ≡ true = two refl in absurd cc
    by_test false false true one two h = omega (arith, h)
    by_test false false false one two h = omega (arith, h)

below-few : (trace : List TraceEntry) (k : ℕ) → length (below trace k) ≤ length (filter (λ e. nat_lt e.interval k) trace)
below-few trace zero = omega arith
below-few trace (suc k) =
    omega (arith, length-append (below trace k) (of_interval trace k), below-few trace k, parts-of k trace)

-- so there are no more records than events

module _ (image : ImageData) (config : Config) (events : List Event) (run : IsRun config events) where
  pub committed-few : length (committed_by image config events) ≤ length events
  committed-few =
      let trace : List TraceEntry = retirements image config events in
      let point : ℕ = (state_of_run image config events).fabric.point in
      let made = ap length (reached_consistent image config events run).made ∙ length-map (below trace point) (λ e. e.did) in
      omega (
        arith,
        made,
        below-few trace point,
        filter-few (λ e. nat_lt e.interval point) trace,
        trace_after-few image config (start_of image config.nodes) events [],
      )

-- the records of an execution are of its cores

first_cores-count : (n entry : ℕ) → length (first_cores n entry) ≡ n
first_cores-count zero entry = refl
first_cores-count (suc n) entry = length_push (first_cores n entry) _ ∙ omega (arith, first_cores-count n entry)

cores-stay : (image : ImageData) (flat : FlatState) (r : Record) → length (flat_step image flat r).cores ≡ length flat.cores
cores-stay image flat r =
    let wrote : Option Write = (next_by image flat r).effect.write in
    length-set (map (after_write wrote) flat.cores) r.core (next_by image flat r).core ∙ length-map flat.cores (after_write wrote)

executes-within : (image : ImageData) (nodes : ℕ) (flat : FlatState) (records : List Record) → length flat.cores ≡ nodes →
    Executes image flat records → All HasValues records → All (IsRecordOf nodes) records
executes-within image nodes flat [] count does values = All-nil (IsRecordOf nodes)
executes-within image nodes flat (r ∷ records) count does values =
    let first : IsRecordOf nodes r = record { core = omega (arith, does.0.within, count); values = values 0 r (omega arith) } in
    All-cons (IsRecordOf nodes) r records first
    (executes-within image nodes (flat_step image flat r) records (cores-stay image flat r ∙ count) does.1
    (λ k d l. values (suc k) d (omega (arith, l))))

module _ (image : ImageData) (config : Config) (events : List Event) (run : IsRun config events) (few : length events ≤ most_items) (values : All HasValues (committed_by image config events)) where
  records-are : All (IsRecordOf config.nodes) (committed_by image config events)
  records-are =
      executes-within image config.nodes (flat_start image config.nodes) (committed_by image config events)
      (first_cores-count config.nodes image.entry) (reached_consistent image config events run).execution values

  -- whatever the summary behind them counts
  pub trace-read : (watch : Option ℕ) (tallies : List (List ℕ)) (count : ℕ) (s : State) →
      trace_of config.nodes (trace_text (committed_by image config events)
      ++ report_text (summary_pieces (codes "# ") image config watch tallies count s))
      ≡ Ok (committed_by image config events)
  trace-read watch tallies count s =
      trace-back_commented config.nodes (committed_by image config events) _ (few-nodes config run.fits) records-are
      (omega (arith, committed-few image config events run, few))
      (comments-say_nothing _ (comments-summary image config watch tallies count s))
