-- A run event by event: what one event makes of a state and of the retirements, and the events after it from there. And
-- what the long lists of a start say: no line is present, and no home has a transaction open.
use Rattle.std.proofs.Common.{◌≡◌, ◌≢◌, ◌⊎◌, inl, inr, length, ℕ, zero, suc, ◌+◌, ◌<◌, ◌≤◌, Bool, true, false, if◌then◌else◌, List, [], ◌∷◌}
use Rattle.std.proofs.Common.{Option, None, refl, ap, ◌∙◌, ⊎_elim, arith, nat_eq, ◌%◌, ◌&&◌}
use Rattle.std.specs.Prelude.{slice_index_or, slice_set}
use Rattle.std.proofs.lemmas.Bool.{cases_lt, cases_order}
use Rattle.std.proofs.lemmas.List.{get_or_past, get_or-set_same, get_or-set_other}
use Rattle.sn_base.specs.Image.{ImageData}
use Rattle.sn_base.specs.declared.config.Config.{Config}
use Rattle.sn_base.specs.declared.event.Answer.{Answer}
use Rattle.sn_base.specs.declared.event.Event.{Event}
use Rattle.sn_base.specs.Events.{event_fits, block_fits}
use Rattle.sn_model.specs.Caches.{Line, block_count, no_line}
use Rattle.sn_model.specs.Fabric.{no_entry, first_homes}
use Rattle.sn_model.specs.Homes.{HomeEntry, Transaction}
use Rattle.sn_model.specs.NodeEvents.{begun_by, least_begun}
use Rattle.sn_model.specs.Cuts.{held_by}
use Rattle.sn_model.specs.PointEvents.{restored_line, restored_lines}
use Rattle.log_buffer.specs.Log.{old_at}
use Rattle.sn_base.specs.declared.log.LogEntry.{LogEntry}
use Rattle.sn_model.specs.Machine.{State}
use Rattle.sn_model.specs.Step.{step_of, state_after}
use Rattle.sn_model.specs.Trace.{TraceEntry, trace_after_event, trace_after}
use Rattle.consistent_cuts.specs.Runs.{AllFit}
use Rattle.fabric_bounds.proofs.KeptStart.{first_homes_at, length-first_homes}

-- a state, and the retirements up to it
pub record Moment : Type 0 where
  pub state : State
  pub trace : List TraceEntry

module _ (image : ImageData) (config : Config) where
  -- an event leads from one to the other, with this answer
  pub record Leads (a : Moment) (event : Event) (answer : Answer) (b : Moment) : Type 0 where
    pub answers : (step_of image config a.state event).answer ≡ answer
    pub state : (step_of image config a.state event).state ≡ b.state
    pub trace : trace_after_event image a.state event answer a.trace ≡ b.trace

  -- and so do events in order
  pub record Comes (a : Moment) (events : List Event) (b : Moment) : Type 0 where
    pub state : state_after image config a.state events ≡ b.state
    pub trace : trace_after image config a.state events a.trace ≡ b.trace

  pub stays : (a : Moment) → Comes a [] a
  stays a = record { state = refl; trace = refl }

  pub leads : {a b c : Moment} {event : Event} {answer : Answer} {events : List Event} →
      Leads a event answer b → Comes b events c → Comes a (event ∷ events) c
  leads {a = a} {b = b} {event = event} {answer = answer} {events = events} h k = record {
    state = ap (λ (s : State). state_after image config s events) h.state ∙ k.state;
    trace =
        ap (λ (x : Answer). trace_after image config (step_of image config a.state event).state events
        (trace_after_event image a.state event x a.trace)) h.answers
        ∙ ap (λ (s : State). trace_after image config s events (trace_after_event image a.state event answer a.trace)) h.state
        ∙ ap (λ (es : List TraceEntry). trace_after image config b.state events es) h.trace
        ∙ k.trace;
  }

-- a list of events fits where a test says so of each

abbrev pub each_fits : ℕ → List Event → Bool
each_fits nodes [] = true
each_fits nodes (event ∷ events) = event_fits nodes event && (block_fits event && each_fits nodes events)

three : (a b c : Bool) → (a && (b && c)) ≡ true → (a ≡ true) × (b ≡ true) × (c ≡ true)
three true true c h = (refl, refl, h)
three true false c h = absurd (cc)
three false b c h = absurd (cc)

pub all_fit : (nodes : ℕ) (events : List Event) → each_fits nodes events ≡ true → AllFit nodes events
all_fit nodes [] h = tt
all_fit nodes (event ∷ events) h =
    let p = three (event_fits nodes event) (block_fits event) (each_fits nodes events) h in
    (record { numbers = p.0; block = p.1 }, all_fit nodes events p.2)

-- where no transaction is open, the least interval of an open one is the node's

free_step : (least now : ℕ) (here : Bool) (t : Option Transaction) → t ≡ None → least ≡ now →
    (if here then begun_by least t else least) ≡ now
free_step least now true t e h = ap (begun_by least) e ∙ h
free_step least now false t e h = h

least_free : (now nodes n start : ℕ) (homes : List HomeEntry) → ((b : ℕ) → (slice_index_or homes b no_entry).transaction ≡ None) →
    least_begun now nodes n start homes ≡ now
least_free now nodes n start [] h = refl
least_free now nodes n start (entry ∷ homes) h =
    free_step (least_begun now nodes n (start + 1) homes) now (nat_eq (start % nodes) n) entry.transaction (h 0)
    (least_free now nodes n (start + 1) homes (λ b. h (suc b)))

-- homes without an open transaction, or with one at a block alone
abbrev pub IsFree : List HomeEntry → Type 0
IsFree homes = (b : ℕ) → (slice_index_or homes b no_entry).transaction ≡ None

abbrev pub IsFreeBut : ℕ → List HomeEntry → Type 0
IsFreeBut block homes = (b : ℕ) → b ≢ block → (slice_index_or homes b no_entry).transaction ≡ None

pub first_free : (image : ImageData) → IsFree (first_homes image)
first_free image b = ⊎_elim
    (λ (l : b < block_count). ap (λ (e : HomeEntry). e.transaction) (first_homes_at image b l))
    (λ (l : block_count ≤ b). ap (λ (e : HomeEntry). e.transaction) (get_or_past (first_homes image) b no_entry
    (let e = length-first_homes image in omega (arith, e, l))))
    (cases_lt b block_count)

pub free_but : (block : ℕ) (homes : List HomeEntry) (entry : HomeEntry) → IsFreeBut block homes →
    IsFreeBut block (slice_set homes block entry)
free_but block homes entry h b n = ap (λ (e : HomeEntry). e.transaction) (get_or-set_other homes block b entry no_entry n) ∙ h b n

pub free_again : (block : ℕ) (homes : List HomeEntry) (entry : HomeEntry) →
    block < length homes → entry.transaction ≡ None → IsFreeBut block homes → IsFree (slice_set homes block entry)
free_again block homes entry l e h b = go (cases_order b block)
  where
    go : ((b ≡ block) ⊎ ((b < block) ⊎ (block < b))) → (slice_index_or (slice_set homes block entry) b no_entry).transaction ≡ None
    go (inl q) =
        ap (λ (c : ℕ). (slice_index_or (slice_set homes block entry) c no_entry).transaction) q
        ∙ ap (λ (x : HomeEntry). x.transaction) (get_or-set_same homes block entry no_entry l) ∙ e
    go (inr (inl q)) = free_but block homes entry h b (λ r. omega (arith, q, r))
    go (inr (inr q)) = free_but block homes entry h b (λ r. omega (arith, q, r))

pub least_of_free : (homes : List HomeEntry) (now nodes n : ℕ) → IsFree homes → least_begun now nodes n 0 homes ≡ now
least_of_free homes now nodes n h = least_free now nodes n 0 homes h

pub least_at_start : (image : ImageData) (now nodes n : ℕ) → least_begun now nodes n 0 (first_homes image) ≡ now
least_at_start image now nodes n = least_of_free (first_homes image) now nodes n (first_free image)

-- a line after a recovery

pub line_restored : (log : List LogEntry) (k start : ℕ) (lines : List Line) (i : ℕ) → i < length lines →
    slice_index_or (restored_lines log k start lines) i no_line
    ≡ restored_line (held_by (old_at log false (start + i) k) (slice_index_or lines i no_line))
line_restored log k start [] i l = absurd (omega arith)
line_restored log k start (line ∷ lines) zero l =
    let e : start ≡ start + zero = omega arith in ap (λ c. restored_line (held_by (old_at log false c k) line)) e
line_restored log k start (line ∷ lines) (suc i) l =
    let e : start + 1 + i ≡ start + suc i = omega arith in
    line_restored log k (start + 1) lines i (omega arith)
    ∙ ap (λ c. restored_line (held_by (old_at log false c k) (slice_index_or lines i no_line))) e
