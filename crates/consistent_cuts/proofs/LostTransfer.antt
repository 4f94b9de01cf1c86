-- The run that loses a block with its ownership, event by event.
use Rattle.std.proofs.Common.{◌≡◌, ℕ, List, [], ◌∷◌, ◌++◌, length, Option, Some, None, refl, ap, ◌∙◌, arith, length-set}
use Rattle.std.specs.Prelude.{slice_index_or, slice_set}
use Rattle.std.proofs.lemmas.List.{get_or-set_same}
use Rattle.sn_base.specs.declared.event.Answer.TheVariants.{Retired, Missed, Edged, Reported, Hopped, Delivered, Lost, Validated, Recovered}
use Rattle.sn_base.specs.declared.event.Event.{Event}
use Rattle.sn_base.specs.declared.event.Event.TheVariants.{Step, Edge, Hop, Deliver, Lose, Report, Validate, Recover}
use Rattle.sn_base.specs.declared.log.LogEntry.{LogEntry}
use Rattle.sn_base.specs.declared.log.Old.TheVariants.{WasHome, NotOwned, Owned}
use Rattle.sn_msg.specs.declared.Body.TheVariants.{GetM, DataM, Unblock, FwdGetM, Ready, Advance}
use Rattle.rv_decode.specs.Decoded.{instruction_at}
use Rattle.rv_core.specs.Step.{want_of, next_of}
use Rattle.rv_core.specs.declared.state.CoreState.{CoreState}
use Rattle.rv_core.specs.declared.step.Record.{Record}
use Rattle.route_plan.specs.Grid.{row_count, column_count, along, partner, is_linked}
use Rattle.route_plan.specs.Distances.{least_below, some_below, is_living, comes, distance}
use Rattle.route_plan.specs.Routes.{enter_of, next_of as next_place, is_cut_off, cut_off_from, first_cut_off}
use Rattle.sn_model.specs.declared.cache.LineState.TheVariants.{Absent, Modified}
use Rattle.sn_model.specs.declared.cache.Need.TheVariants.{Write}
use Rattle.sn_model.specs.declared.home.Kind.TheVariants.{Take, Move}
use Rattle.sn_model.specs.Caches.{Line, Miss, block_count, empty_lines, no_line, line_of}
use Rattle.sn_model.specs.CacheRows.{line_when_done}
use Rattle.sn_model.specs.Fabric.{Node, Flight, initial_block, no_entry, node_at}
use Rattle.sn_model.specs.Homes.{HomeEntry, Transaction, OfCache, no_sharers}
use Rattle.sn_model.specs.Machine.{State, Processor, Retirement}
use Rattle.sn_model.specs.MachineEvents.{restored_rest}
use Rattle.sn_model.specs.Net.{flight_of}
use Rattle.sn_model.specs.NodeEvents.{ready_of}
use Rattle.sn_model.specs.PointEvents.{fabric_restored_to}
use Rattle.sn_model.specs.Step.{step_of}
use Rattle.sn_model.specs.Trace.{TraceEntry}
use Rattle.sn_model.proofs.Taken.{none-taken, empty-at}
use Rattle.fabric_bounds.proofs.KeptStart.{first_homes_at, length-first_homes, length-empty_lines}
use Rattle.consistent_cuts.specs.Example as example
use Rattle.consistent_cuts.specs.Example.{storing, small, plain, retirement, stored_block, moving, losing, recovering, IsLostAndRecovered}
use Rattle.consistent_cuts.specs.Headline.{IsRun}
use Rattle.consistent_cuts.proofs.Walk.{Moment, Leads, Comes, IsFree, all_fit, first_free, free_but, free_again, least_of_free}
use Rattle.consistent_cuts.proofs.Walk.{line_restored}
use Rattle.consistent_cuts.proofs.Written.{begun, added, pointed, stored, processor, waits, node, bare, flight, homes, fabric, moment}
use Rattle.consistent_cuts.proofs.Written.{start, ◌⨾◌, no_more}

-- block 64 at node 0, at its home and in the log

abbrev zeros : List ℕ
zeros = initial_block storing 64

abbrev modified : List ℕ → Line
modified content = record { state = Modified; content = content }

abbrev arrived : List Line
arrived = slice_set empty_lines 64 (modified zeros)

abbrev complete : List Line
complete = slice_set arrived 64 (modified zeros)

abbrev prepared : List Line
prepared = slice_set complete 64 (modified zeros)

abbrev written : List Line
written = slice_set prepared 64 (modified stored_block)

abbrev given_up : List Line
given_up = slice_set written 64 no_line

abbrev entry : Option Transaction → HomeEntry
entry transaction = record { holder = OfCache 0; sharers = no_sharers; transaction = transaction }

abbrev taking : HomeEntry
taking = entry (Some (record { kind = Take; requester = 0; begun = 0 }))

abbrev taken : List HomeEntry
taken = slice_set homes 64 taking

abbrev closed : List HomeEntry
closed = slice_set taken 64 (entry None)

abbrev moved : List HomeEntry
moved = slice_set closed 64 (entry (Some (record { kind = Move; requester = 1; begun = 1 })))

abbrev taken_log : List LogEntry
taken_log = record { interval = 0; block = 64; old = WasHome zeros } ∷ []

abbrev written_log : List LogEntry
written_log = taken_log ++ record { interval = 0; block = 64; old = NotOwned } ∷ []

abbrev moved_log : List LogEntry
moved_log = written_log ++ record { interval = 1; block = 64; old = Owned stored_block } ∷ []

abbrev miss_in : ℕ → Option Miss
miss_in interval = Some (record { block = 64; need = Write; issued = interval; fixed = None; due = 0; acks = 0 })

-- what is found there

IsWhole : List Line → Type 0
IsWhole lines = length lines ≡ block_count

whole_set : (lines : List Line) (line : Line) → IsWhole lines → IsWhole (slice_set lines 64 line)
unfolding IsWhole
whole_set lines line e = length-set lines 64 line ∙ e

found : (lines : List Line) (line : Line) → IsWhole lines → slice_index_or (slice_set lines 64 line) 64 no_line ≡ line
unfolding IsWhole
found lines line e = get_or-set_same lines 64 line no_line (omega (arith, e))

whole_empty : IsWhole empty_lines
unfolding IsWhole
whole_empty = length-empty_lines

whole_arrived : IsWhole arrived
whole_arrived = whole_set empty_lines (modified zeros) whole_empty

whole_complete : IsWhole complete
whole_complete = whole_set arrived (modified zeros) whole_arrived

whole_prepared : IsWhole prepared
whole_prepared = whole_set complete (modified zeros) whole_complete

whole_written : IsWhole written
whole_written = whole_set prepared (modified stored_block) whole_prepared

length_taken : length taken ≡ block_count
length_taken = length-set homes 64 taking ∙ length-first_homes storing

length_closed : length closed ≡ block_count
length_closed = length-set taken 64 (entry None) ∙ length_taken

at_taken : slice_index_or taken 64 no_entry ≡ taking
at_taken = get_or-set_same homes 64 taking no_entry (let e = length-first_homes storing in omega (arith, e))

at_closed : slice_index_or closed 64 no_entry ≡ entry None
at_closed = get_or-set_same taken 64 (entry None) no_entry (omega (arith, length_taken))

closed_is_free : IsFree closed
closed_is_free =
    free_again 64 taken (entry None) (omega (arith, length_taken)) refl (free_but 64 homes taking (λ b n. first_free storing b))

-- the moments of interval 0

abbrev ones : List Retirement
ones = waits 0 0 ∷ []

abbrev twos : List Retirement
twos = waits 0 0 ∷ waits 0 0 ∷ []

abbrev threes : List Retirement
threes = waits 0 0 ∷ waits 0 0 ∷ waits 0 0 ∷ []

abbrev entries : List TraceEntry
entries = retirement 0 0 ∷ retirement 0 0 ∷ []

-- node 0 with a core, and node 1 at the entry
abbrev at_first : Node → List HomeEntry → List Flight → ℕ → CoreState → List Retirement → List TraceEntry → Moment
at_first first entries flights next core pending trace =
    moment (fabric (first ∷ bare 0 ∷ []) entries flights next 0) (processor core (begun 0 ∷ []) ∷ processor (begun 1) (begun 1 ∷ []) ∷ [])
    (0 ∷ 0 ∷ []) pending [] trace

abbrev one_done : Moment
one_done = at_first (bare 0) homes [] 1 (added 0) ones (retirement 0 0 ∷ [])

abbrev two_done : Moment
two_done = at_first (bare 0) homes [] 1 (pointed 0) twos entries

abbrev asked : Moment
asked = at_first (node 0 empty_lines (miss_in 0) []) homes (flight 1 0 0 0 64 GetM 0 ∷ []) 2 (pointed 0) twos entries

abbrev answered : Moment
answered = at_first (node 0 empty_lines (miss_in 0) taken_log) taken (flight 2 0 0 0 64 (DataM zeros 0) 0 ∷ []) 3 (pointed 0) twos entries

abbrev got : Moment
got = at_first (node 0 complete None written_log) taken (flight 3 0 0 0 64 (Unblock 0) 0 ∷ []) 4 (pointed 0) twos entries

abbrev unblocked : Moment
unblocked = at_first (node 0 complete None written_log) closed [] 4 (pointed 0) twos entries

abbrev all_entries : List TraceEntry
all_entries = retirement 0 0 ∷ retirement 0 0 ∷ retirement 0 0 ∷ []

abbrev three_done : Moment
three_done = at_first (node 0 written None written_log) closed [] 4 (stored 0) threes all_entries

-- its events; where one keeps a line that it finds, the state is told by that line

got_with : Line → State
got_with line = record got.state {
  fabric = record got.state.fabric {
    nodes =
        node 0 (slice_set arrived 64 (record { state = line_when_done line.state Write; content = line.content })) None written_log ∷ bare 0
        ∷ [];
  };
}

first : Leads storing small start (Step 0) Retired one_done
unfolding step_of want_of next_of instruction_at
first = record { answers = refl; state = refl; trace = refl }

second : Leads storing small one_done (Step 0) Retired two_done
unfolding step_of want_of next_of instruction_at
second = record { answers = refl; state = refl; trace = refl }

asks : Leads storing small two_done (Step 0) Missed asked
unfolding step_of want_of next_of instruction_at enter_of distance comes is_living some_below least_below is_linked along partner row_count column_count
asks = record {
  answers = rw (empty-at 64, none-taken 16 64) refl;
  state = rw (empty-at 64, none-taken 16 64) refl;
  trace = refl;
}

answers : Leads storing small asked (Deliver 1) Delivered answered
unfolding step_of enter_of distance comes is_living some_below least_below is_linked along partner row_count column_count
answers = record {
  answers = rw (first_homes_at storing 64 (omega arith)) refl;
  state = rw (first_homes_at storing 64 (omega arith)) refl;
  trace = refl;
}

gets : Leads storing small answered (Deliver 2) Delivered got
unfolding got_with step_of enter_of distance comes is_living some_below least_below is_linked along partner row_count column_count
gets = record {
  answers = refl;
  state = ap got_with (found empty_lines (modified zeros) whole_empty);
  trace = refl;
}

unblocks : Leads storing small got (Deliver 3) Delivered unblocked
unfolding step_of enter_of distance comes is_living some_below least_below is_linked along partner row_count column_count
unblocks = record { answers = rw at_taken refl; state = rw at_taken refl; trace = refl }

third : Leads storing small unblocked (Step 0) Retired three_done
unfolding step_of want_of next_of instruction_at
third = record {
  answers = rw (found arrived (modified zeros) whole_arrived) refl;
  state = rw (found arrived (modified zeros) whole_arrived, found complete (modified zeros) whole_complete) refl;
  trace = refl;
}

-- the moments up to the validation

abbrev fours : List Retirement
fours = waits 0 0 ∷ waits 0 0 ∷ waits 0 0 ∷ waits 1 0 ∷ []

abbrev four_entries : List TraceEntry
four_entries = retirement 0 0 ∷ retirement 0 0 ∷ retirement 0 0 ∷ retirement 1 0 ∷ []

abbrev edged_0 : Processor
edged_0 = processor (stored 0) (begun 0 ∷ stored 0 ∷ [])

abbrev edged_1 : Processor
edged_1 = processor (added 1) (begun 1 ∷ added 1 ∷ [])

abbrev four_done : Moment
four_done = moment (fabric (node 0 written None written_log ∷ bare 0 ∷ []) closed [] 4 0)
    (processor (stored 0) (begun 0 ∷ []) ∷ processor (added 1) (begun 1 ∷ []) ∷ []) (0 ∷ 0 ∷ []) fours [] four_entries

abbrev ticked : Moment
ticked = moment (fabric (node 1 written None written_log ∷ bare 0 ∷ []) closed [] 4 0)
    (edged_0 ∷ processor (added 1) (begun 1 ∷ []) ∷ []) (0 ∷ 0 ∷ []) fours [] four_entries

-- both in interval 1, with these messages in flight and these reports
abbrev reporting : List Flight → ℕ → List ℕ → Moment
reporting flights next reports =
    moment (fabric (node 1 written None written_log ∷ bare 1 ∷ []) closed flights next 0)
    (edged_0 ∷ edged_1 ∷ []) reports fours [] four_entries

abbrev report_0 : Flight
report_0 = flight 4 0 0 1 0 (Ready 1) 0

abbrev report_1 : ℕ → Flight
report_1 place = flight 5 1 0 1 0 (Ready 1) place

abbrev both_ticked : Moment
both_ticked = reporting [] 4 (0 ∷ 0 ∷ [])

abbrev reported : Moment
reported = reporting (report_0 ∷ []) 5 (0 ∷ 0 ∷ [])

abbrev both_reported : Moment
both_reported = reporting (report_0 ∷ report_1 2 ∷ []) 6 (0 ∷ 0 ∷ [])

abbrev heard : Moment
heard = reporting (report_1 2 ∷ []) 6 (1 ∷ 0 ∷ [])

abbrev hopped : Moment
hopped = reporting (report_1 0 ∷ []) 6 (1 ∷ 0 ∷ [])

abbrev both_heard : Moment
both_heard = reporting [] 6 (1 ∷ 1 ∷ [])

-- their events

fourth : Leads storing small three_done (Step 1) Retired four_done
unfolding step_of want_of next_of instruction_at
fourth = record { answers = refl; state = refl; trace = refl }

ticks_0 : Leads storing small four_done (Edge 0) (Edged 1) ticked
unfolding step_of
ticks_0 = record { answers = refl; state = refl; trace = refl }

ticks_1 : Leads storing small ticked (Edge 1) (Edged 1) both_ticked
unfolding step_of
ticks_1 = record { answers = refl; state = refl; trace = refl }

ready_0 : ready_of both_ticked.state.fabric 0 ≡ 1
unfolding ready_of
ready_0 = least_of_free closed 1 2 0 closed_is_free

ready_1 : ready_of reported.state.fabric 1 ≡ 1
unfolding ready_of
ready_1 = least_of_free closed 1 2 1 closed_is_free

reports_0 : Leads storing small both_ticked (Report 0) (Reported 1) reported
unfolding step_of enter_of distance comes is_living some_below least_below is_linked along partner row_count column_count
reports_0 = record { answers = rw ready_0 refl; state = rw ready_0 refl; trace = refl }

reports_1 : Leads storing small reported (Report 1) (Reported 1) both_reported
unfolding step_of enter_of distance comes is_living some_below least_below is_linked along partner row_count column_count
reports_1 = record { answers = rw ready_1 refl; state = rw ready_1 refl; trace = refl }

hears_0 : Leads storing small both_reported (Deliver 4) Delivered heard
unfolding step_of
hears_0 = record { answers = refl; state = refl; trace = refl }

hops_1 : Leads storing small heard (Hop 5) Hopped hopped
unfolding step_of next_place distance comes is_living some_below least_below is_linked along partner row_count column_count
hops_1 = record { answers = refl; state = refl; trace = refl }

hears_1 : Leads storing small hopped (Deliver 5) Delivered both_heard
unfolding step_of
hears_1 = record { answers = refl; state = refl; trace = refl }

-- the moments from the validation on

abbrev told : List Flight
told = flight 6 0 0 1 0 (Advance 1) 0 ∷ flight 7 0 1 1 0 (Advance 1) 0 ∷ []

abbrev five_entries : List TraceEntry
five_entries = retirement 0 0 ∷ retirement 0 0 ∷ retirement 0 0 ∷ retirement 1 0 ∷ retirement 1 1 ∷ []

abbrev four_plain : List Record
four_plain = plain 0 ∷ plain 0 ∷ plain 0 ∷ plain 1 ∷ []

abbrev validated : Moment
validated =
    moment (fabric (node 1 written None written_log ∷ bare 1 ∷ []) closed told 8 1) (edged_0 ∷ edged_1 ∷ [])
    (1 ∷ 1 ∷ []) [] four_plain four_entries

-- node 1 has done its second instruction, in interval 1
abbrev at_second : Node → Node → List HomeEntry → List Flight → ℕ → Moment
at_second first other entries flights next =
    moment (fabric (first ∷ other ∷ []) entries flights next 1) (edged_0 ∷ processor (pointed 1) (begun 1 ∷ added 1 ∷ []) ∷ []) (1 ∷ 1 ∷ [])
    (waits 1 1 ∷ []) four_plain five_entries

abbrev wanting : Node
wanting = node 1 empty_lines (miss_in 1) []

abbrev five_done : Moment
five_done = at_second (node 1 written None written_log) (bare 1) closed told 8

abbrev asked_again : Moment
asked_again = at_second (node 1 written None written_log) wanting closed (told ++ flight 8 1 0 1 64 GetM 2 ∷ []) 9

abbrev asked_home : Moment
asked_home = at_second (node 1 written None written_log) wanting closed (told ++ flight 8 1 0 1 64 GetM 0 ∷ []) 9

abbrev forwarded : Moment
forwarded = at_second (node 1 written None written_log) wanting moved (told ++ flight 9 0 0 1 64 (FwdGetM 1 0) 0 ∷ []) 10

abbrev gave : Moment
gave = at_second (node 1 given_up None moved_log) wanting moved (told ++ flight 10 0 1 1 64 (DataM stored_block 0) 0 ∷ []) 11

abbrev lost : Moment
lost = at_second (node 1 given_up None moved_log) wanting moved told 11

abbrev recovered : Moment
recovered =
    moment (fabric_restored_to lost.state.fabric 1) (processor (stored 0) (stored 0 ∷ []) ∷ processor (added 1) (added 1 ∷ []) ∷ [])
    (1 ∷ 1 ∷ []) [] four_plain four_entries

-- their events

validates : Leads storing small both_heard Validate (Validated 1) validated
unfolding step_of enter_of distance comes is_living some_below least_below is_linked along partner row_count column_count
validates = record { answers = refl; state = refl; trace = refl }

fifth : Leads storing small validated (Step 1) Retired five_done
unfolding step_of want_of next_of instruction_at
fifth = record { answers = refl; state = refl; trace = refl }

asks_again : Leads storing small five_done (Step 1) Missed asked_again
unfolding step_of want_of next_of instruction_at enter_of distance comes is_living some_below least_below is_linked along partner row_count column_count
asks_again = record {
  answers = rw (empty-at 64, none-taken 16 64) refl;
  state = rw (empty-at 64, none-taken 16 64) refl;
  trace = refl;
}

hops_request : Leads storing small asked_again (Hop 8) Hopped asked_home
unfolding step_of next_place distance comes is_living some_below least_below is_linked along partner row_count column_count
hops_request = record { answers = refl; state = refl; trace = refl }

forwards : Leads storing small asked_home (Deliver 8) Delivered forwarded
unfolding step_of enter_of distance comes is_living some_below least_below is_linked along partner row_count column_count
forwards = record { answers = rw at_closed refl; state = rw at_closed refl; trace = refl }

gave_with : Line → State
gave_with line = record gave.state {
  fabric =
      fabric (node 1 given_up None (written_log ++ record { interval = 1; block = 64; old = Owned line.content } ∷ []) ∷ wanting ∷ []) moved
      (told ++ flight 10 0 1 1 64 (DataM line.content 0) 0 ∷ []) 11 1;
}

gives : Leads storing small forwarded (Deliver 9) Delivered gave
unfolding gave_with step_of enter_of distance comes is_living some_below least_below is_linked along partner row_count column_count
gives = record {
  answers = refl;
  state = ap gave_with (found prepared (modified stored_block) whole_prepared);
  trace = refl;
}

loses : Leads storing small gave (Lose 10) Lost lost
unfolding step_of
loses = record { answers = refl; state = refl; trace = refl }

recovers : Leads storing small lost Recover (Recovered (record { to = 1; undone = 1; dropped = 2 })) recovered
unfolding step_of restored_rest first_cut_off cut_off_from is_cut_off distance comes is_living some_below least_below is_linked along partner row_count column_count
recovers = record { answers = refl; state = refl; trace = refl }

-- the run

to_report : {events : List Event} {b : Moment} → Comes storing small both_heard events b →
    Comes storing small start (example.reporting ++ events) b
to_report h =
    first ⨾ second ⨾ asks ⨾ answers ⨾ gets ⨾ unblocks ⨾ third ⨾ fourth
    ⨾ ticks_0 ⨾ ticks_1 ⨾ reports_0 ⨾ reports_1 ⨾ hears_0 ⨾ hops_1 ⨾ hears_1 ⨾ h

to_move : {events : List Event} {b : Moment} → Comes storing small gave events b → Comes storing small start (moving ++ events) b
to_move h = to_report (validates ⨾ fifth ⨾ asks_again ⨾ hops_request ⨾ forwards ⨾ gives ⨾ h)

at_report : Comes storing small start example.reporting both_heard
at_report = to_report no_more

at_move : Comes storing small start moving gave
at_move = to_move no_more

at_loss : Comes storing small start losing lost
at_loss = to_move (loses ⨾ no_more)

at_end : Comes storing small start recovering recovered
at_end = to_move (loses ⨾ recovers ⨾ no_more)

pub recovering_is_run : IsRun small recovering
recovering_is_run = record { fits = refl; events_fit = all_fit 2 recovering refl }

none_left : (line_of (node_at lost.state.fabric 0).cache 64).state ≡ Absent
none_left = ap (λ (line : Line). line.state) (found written no_line whole_written)

none_there : (line_of (node_at lost.state.fabric 1).cache 64).state ≡ Absent
none_there = ap (λ (line : Line). line.state) (empty-at 64)

whole_given_up : IsWhole given_up
whole_given_up = whole_set written no_line whole_written

given_back : line_of (node_at recovered.state.fabric 0).cache 64 ≡ modified stored_block
unfolding fabric_restored_to IsWhole
given_back = let e = whole_given_up in line_restored moved_log 1 0 given_up 64 (omega (arith, e))

pub recovering_ends : IsLostAndRecovered
unfolding fabric_restored_to
recovering_ends = record {
  transfer = ap (λ (s : State). flight_of s.fabric.net.flights 10) at_move.state;
  lost = ap (λ (s : State). flight_of s.fabric.net.flights 10) at_loss.state;
  nowhere = (
    ap (λ (s : State). (line_of (node_at s.fabric 0).cache 64).state) at_loss.state ∙ none_left,
    ap (λ (s : State). (line_of (node_at s.fabric 1).cache 64).state) at_loss.state ∙ none_there,
  );
  validated = ap (λ (s : State). (step_of storing small s Validate).answer) at_report.state ∙ validates.answers;
  recovered = ap (λ (s : State). (step_of storing small s Recover).answer) at_loss.state ∙ recovers.answers;
  back = ap (λ (s : State). line_of (node_at s.fabric 0).cache 64) at_end.state ∙ given_back;
  before = at_loss.trace;
  after = at_end.trace;
  committed = ap (λ (s : State). s.committed) at_end.state;
  point = ap (λ (s : State). s.fabric.point) at_end.state;
  pending = ap (λ (s : State). s.pending) at_end.state;
}
