-- The run whose two nodes retire in the order that isn't that of their intervals, event by event.
use Rattle.std.proofs.Common.{◌≡◌, ℕ, ◌+◌, List, [], ◌∷◌, ◌++◌, refl, ap}
use Rattle.sn_base.specs.declared.event.Answer.TheVariants.{Retired, Edged, Reported, Hopped, Delivered, Validated}
use Rattle.sn_base.specs.declared.event.Event.TheVariants.{Step, Edge, Hop, Deliver, Report, Validate}
use Rattle.sn_msg.specs.declared.Body.TheVariants.{Ready, Advance}
use Rattle.rv_decode.specs.Decoded.{instruction_at}
use Rattle.rv_core.specs.Step.{want_of, next_of}
use Rattle.route_plan.specs.Grid.{row_count, column_count, along, partner, is_linked}
use Rattle.route_plan.specs.Distances.{least_below, some_below, is_living, comes, distance}
use Rattle.route_plan.specs.Routes.{enter_of, next_of as next_place}
use Rattle.sn_model.specs.Fabric.{Flight}
use Rattle.sn_model.specs.Machine.{State, Processor}
use Rattle.sn_model.specs.NodeEvents.{ready_of}
use Rattle.sn_model.specs.Step.{step_of}
use Rattle.sn_model.specs.Trace.{TraceEntry}
use Rattle.consistent_cuts.specs.Example.{storing, small, plain, retirement, validating, IsCommittedByIntervals}
use Rattle.consistent_cuts.specs.Headline.{IsRun}
use Rattle.consistent_cuts.proofs.Walk.{Moment, Leads, Comes, all_fit, least_at_start}
use Rattle.consistent_cuts.proofs.Written.{begun, added, processor, waits, bare, flight, homes, fabric, moment, start, ◌⨾◌, no_more}

-- the parts that the moments share

abbrev report_0 : Flight
report_0 = flight 1 0 0 2 0 (Ready 2) 0

abbrev report_1 : ℕ → Flight
report_1 place = flight 2 1 0 2 0 (Ready 2) place

abbrev told : ℕ → ℕ → List Flight
told id point = flight id 0 0 2 0 (Advance point) 0 ∷ flight (id + 1) 0 1 2 0 (Advance point) 0 ∷ []

abbrev waiting_first : Processor
waiting_first = processor (begun 0) (begun 0 ∷ [])

abbrev ahead : Processor
ahead = processor (added 1) (begun 1 ∷ begun 1 ∷ [])

abbrev last : List Processor
last = processor (added 0) (begun 0 ∷ added 0 ∷ added 0 ∷ []) ∷ processor (added 1) (begun 1 ∷ begun 1 ∷ added 1 ∷ []) ∷ []

abbrev entries : List TraceEntry
entries = retirement 1 1 ∷ retirement 0 0 ∷ []

-- the two nodes in these intervals, with nothing reported and both retirements waiting
abbrev both_waiting : ℕ → ℕ → List Processor → Moment
both_waiting now_0 now_1 processors =
    moment (fabric (bare now_0 ∷ bare now_1 ∷ []) homes [] 1 0) processors (0 ∷ 0 ∷ []) (waits 1 1 ∷ waits 0 0 ∷ []) [] entries

-- both in interval 2, with these messages in flight
abbrev reporting : List Flight → ℕ → List ℕ → Moment
reporting flights next reports =
    moment (fabric (bare 2 ∷ bare 2 ∷ []) homes flights next 0) last reports (waits 1 1 ∷ waits 0 0 ∷ []) [] entries

-- the moments

abbrev edged : Moment
edged =
    moment (fabric (bare 0 ∷ bare 1 ∷ []) homes [] 1 0) (waiting_first ∷ processor (begun 1) (begun 1 ∷ begun 1 ∷ []) ∷ [])
    (0 ∷ 0 ∷ []) [] [] []

abbrev retired : Moment
retired =
    moment (fabric (bare 0 ∷ bare 1 ∷ []) homes [] 1 0) (waiting_first ∷ ahead ∷ []) (0 ∷ 0 ∷ []) (waits 1 1 ∷ []) [] (retirement 1 1 ∷ [])

abbrev both_retired : Moment
both_retired = both_waiting 0 1 (processor (added 0) (begun 0 ∷ []) ∷ ahead ∷ [])

abbrev level : Moment
level = both_waiting 1 1 (processor (added 0) (begun 0 ∷ added 0 ∷ []) ∷ ahead ∷ [])

abbrev passed : Moment
passed = both_waiting 2 1 (processor (added 0) (begun 0 ∷ added 0 ∷ added 0 ∷ []) ∷ ahead ∷ [])

abbrev level_again : Moment
level_again = reporting [] 1 (0 ∷ 0 ∷ [])

abbrev reported : Moment
reported = reporting (report_0 ∷ []) 2 (0 ∷ 0 ∷ [])

abbrev both_reported : Moment
both_reported = reporting (report_0 ∷ report_1 2 ∷ []) 3 (0 ∷ 0 ∷ [])

abbrev heard : Moment
heard = reporting (report_1 2 ∷ []) 3 (2 ∷ 0 ∷ [])

abbrev hopped : Moment
hopped = reporting (report_1 0 ∷ []) 3 (2 ∷ 0 ∷ [])

abbrev both_heard : Moment
both_heard = reporting [] 3 (2 ∷ 2 ∷ [])

abbrev validated : Moment
validated = moment (fabric (bare 2 ∷ bare 2 ∷ []) homes (told 3 1) 5 1) last (2 ∷ 2 ∷ []) (waits 1 1 ∷ []) (plain 0 ∷ []) entries

abbrev both_validated : Moment
both_validated =
    moment (fabric (bare 2 ∷ bare 2 ∷ []) homes (told 3 1 ++ told 5 2) 7 2) last (2 ∷ 2 ∷ []) [] (plain 0 ∷ plain 1 ∷ []) entries

-- the events

edges_1 : Leads storing small start (Edge 1) (Edged 1) edged
unfolding step_of
edges_1 = record { answers = refl; state = refl; trace = refl }

retires_1 : Leads storing small edged (Step 1) Retired retired
unfolding step_of want_of next_of instruction_at
retires_1 = record { answers = refl; state = refl; trace = refl }

retires_0 : Leads storing small retired (Step 0) Retired both_retired
unfolding step_of want_of next_of instruction_at
retires_0 = record { answers = refl; state = refl; trace = refl }

edges_0 : Leads storing small both_retired (Edge 0) (Edged 1) level
unfolding step_of
edges_0 = record { answers = refl; state = refl; trace = refl }

edges_0_again : Leads storing small level (Edge 0) (Edged 2) passed
unfolding step_of
edges_0_again = record { answers = refl; state = refl; trace = refl }

edges_1_again : Leads storing small passed (Edge 1) (Edged 2) level_again
unfolding step_of
edges_1_again = record { answers = refl; state = refl; trace = refl }

ready_0 : ready_of level_again.state.fabric 0 ≡ 2
unfolding ready_of
ready_0 = least_at_start storing 2 2 0

ready_1 : ready_of reported.state.fabric 1 ≡ 2
unfolding ready_of
ready_1 = least_at_start storing 2 2 1

reports_0 : Leads storing small level_again (Report 0) (Reported 2) reported
unfolding step_of enter_of distance comes is_living some_below least_below is_linked along partner row_count column_count
reports_0 = record { answers = rw ready_0 refl; state = rw ready_0 refl; trace = refl }

reports_1 : Leads storing small reported (Report 1) (Reported 2) both_reported
unfolding step_of enter_of distance comes is_living some_below least_below is_linked along partner row_count column_count
reports_1 = record { answers = rw ready_1 refl; state = rw ready_1 refl; trace = refl }

delivers_0 : Leads storing small both_reported (Deliver 1) Delivered heard
unfolding step_of
delivers_0 = record { answers = refl; state = refl; trace = refl }

hops_1 : Leads storing small heard (Hop 2) Hopped hopped
unfolding step_of next_place distance comes is_living some_below least_below is_linked along partner row_count column_count
hops_1 = record { answers = refl; state = refl; trace = refl }

delivers_1 : Leads storing small hopped (Deliver 2) Delivered both_heard
unfolding step_of
delivers_1 = record { answers = refl; state = refl; trace = refl }

validates : Leads storing small both_heard Validate (Validated 1) validated
unfolding step_of enter_of distance comes is_living some_below least_below is_linked along partner row_count column_count
validates = record { answers = refl; state = refl; trace = refl }

validates_again : Leads storing small validated Validate (Validated 2) both_validated
unfolding step_of enter_of distance comes is_living some_below least_below is_linked along partner row_count column_count
validates_again = record { answers = refl; state = refl; trace = refl }

-- the run

at_end : Comes storing small start validating both_validated
at_end =
    edges_1 ⨾ retires_1 ⨾ retires_0 ⨾ edges_0 ⨾ edges_0_again ⨾ edges_1_again ⨾ reports_0 ⨾ reports_1 ⨾ delivers_0 ⨾ hops_1 ⨾ delivers_1
    ⨾ validates ⨾ validates_again ⨾ no_more

pub validating_is_run : IsRun small validating
validating_is_run = record { fits = refl; events_fit = all_fit 2 validating refl }

pub validating_ends : IsCommittedByIntervals
validating_ends = record {
  order = at_end.trace;
  committed = ap (λ (s : State). s.committed) at_end.state;
  point = ap (λ (s : State). s.fabric.point) at_end.state;
  pending = ap (λ (s : State). s.pending) at_end.state;
}
