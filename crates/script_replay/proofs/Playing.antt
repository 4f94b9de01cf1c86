-- How far a replay has come, between two of its events.
use Rattle.std.proofs.Common.{◌≡◌, suc, ◌≤◌, List, [], ◌∷◌, ◌++◌, length, refl, ap, sym, subst, ◌∙◌, inl, inr, append_assoc}
use Rattle.std.proofs.Common.{append-nil, arith}
use Rattle.sn_base.specs.Image.{ImageData}
use Rattle.sn_base.specs.declared.config.Config.{Config}
use Rattle.sn_base.specs.declared.event.Event.{Event}
use Rattle.sn_base.specs.declared.event.Answer.{Answer}
use Rattle.sn_model.specs.Machine.{State}
use Rattle.due_events.specs.Machine.{MachineData, next_of}
use Rattle.due_events.specs.ConsistentCutsRuns.{AllFit}
use Rattle.sn_probe.specs.Probes.{Meter, tallies_of}
use Rattle.sink_pieces.specs.Pieces.{Ends, after, Breaks}
use Rattle.sink_pieces.proofs.SoFar.{SoFar}
use Rattle.script_replay.specs.declared.job.Showing.{Showing}
use Rattle.script_replay.specs.Played.{after_event, end_now, turn_now, pieces_left, turns_left, state_left, told_next, told_left}
use Rattle.script_replay.specs.Played.{Stops}
use Rattle.script_replay.specs.Scheduled.{left_on}
use Rattle.script_replay.proofs.SoFar.{SoFar-breaks_event, SoFar-breaks_end, SoFar-end}
use Rattle.script_replay.proofs.ToldSoFar.{IsToldSoFar, told-next, told-done}
use Rattle.script_replay.proofs.Stops.{IsPutSoFar, put-start, put-next, stops-at, stops-at_end}

-- what a schedule has left once an event is applied and noted
pub left-noted : (left : ImageData → Config → State → List Event) (noted : Answer → ImageData → Config → State → List Event)
    (m next : MachineData) (event : Event) (answer : Answer) → left ≡ noted answer → answer ≡ (next_of m event).answer →
    next ≡ after_event m event → left_on left next ≡ left_on (noted (next_of m event).answer) (after_event m event)
left-noted left noted m next event answer is said after_is =
    ap (λ (t : ImageData → Config → State → List Event). left_on t next) (is ∙ ap noted said)
    ∙ ap (left_on (noted (next_of m event).answer)) after_is

-- whatever is still to come, the state after these events is the one that the others start from
abbrev pub IsReachedSoFar : MachineData → List Event → MachineData → Type 0
IsReachedSoFar start done m = (rest : List Event) → state_left m rest ≡ state_left start (done ++ rest)

-- some of its events were applied, told and put, and these are left on the machine as it is now
pub record IsPlaying (start : MachineData) (showing : Showing) (events : List Event) (probes : List Meter) (before : Ends) (m : MachineData) (left : List Event) (now_ : List Meter) (behind : Ends) : Type 0 where
  pub done : List Event
  pub all : done ++ left ≡ events
  pub put : IsPutSoFar start showing (tallies_of (told_left start events probes)) done m before behind
  pub told : IsToldSoFar start done probes m now_
  pub reached : IsReachedSoFar start done m
  pub sizes : m.config ≡ start.config
  pub fit : AllFit start.config.nodes left
  pub room : length left ≤ m.spare

-- so these pieces are left of all
so-far : (start : MachineData) (showing : Showing) (events : List Event) (probes : List Meter) (before : Ends) (m : MachineData)
    (left rest : List Event) (now_ : List Meter) (behind : Ends) → left ≡ rest →
    IsPlaying start showing events probes before m left now_ behind →
    SoFar (pieces_left start showing (tallies_of (told_left start events probes)) events)
    (pieces_left m showing (tallies_of (told_left start events probes)) rest) before behind
so-far start showing events probes before m left rest now_ behind is h = record {
  done = turns_left start showing h.done;
  put = h.put.put;
  split = sym (h.put.pieces rest)
      ∙ ap (pieces_left start showing (tallies_of (told_left start events probes))) (ap (λ t. h.done ++ t) (sym is) ∙ h.all);
}

pub playing-starts : (m : MachineData) (showing : Showing) (events : List Event) (probes : List Meter) (e : Ends) →
    AllFit m.config.nodes events → length events ≤ m.spare → IsPlaying m showing events probes e m events probes e
playing-starts m showing events probes e fit room = record {
  done = [];
  all = refl;
  put = put-start _ _ _ _;
  told = λ rest. refl;
  reached = λ rest. refl;
  sizes = refl;
  fit = fit;
  room = room;
}

-- an event comes next
module _ (start : MachineData) (showing : Showing) (events : List Event) (probes : List Meter) (before : Ends) (m : MachineData) (left : List Event) (now_ : List Meter) (behind : Ends) (event : Event) (rest : List Event) (is : left ≡ event ∷ rest) (h : IsPlaying start showing events probes before m left now_ behind) where
  fit-left : AllFit start.config.nodes (event ∷ rest)
  fit-left = subst (AllFit start.config.nodes) is h.fit

  length-left : length left ≡ suc (length rest)
  length-left = ap length is

  all-left : h.done ++ event ∷ rest ≡ events
  all-left = ap (λ t. h.done ++ t) (sym is) ∙ h.all

  module _ (next : MachineData) (d : Ends) (told : List Meter) (after_is : next ≡ after_event m event) (knows : told ≡ told_next m event now_) where
    -- it is applied, told and put, and these are left
    pub playing-next : (more : List Event) → more ≡ rest → d ≡ after behind (turn_now m showing event) →
        IsPlaying start showing events probes before next more told d
    playing-next more same put = record {
      done = h.done ++ event ∷ [];
      all = ap (λ t. (h.done ++ event ∷ []) ++ t) same ∙ append_assoc h.done (event ∷ []) rest ∙ all-left;
      put = put-next start m showing _ h.done event before behind h.put next d after_is put;
      told = told-next start m next h.done probes now_ told event after_is knows h.told;
      reached = λ later.
          ap (λ (t : MachineData). state_left t later) after_is ∙ h.reached (event ∷ later)
          ∙ ap (state_left start) (sym (append_assoc h.done (event ∷ []) later));
      sizes = ap (λ (t : MachineData). t.config) after_is ∙ h.sizes;
      fit = subst (AllFit start.config.nodes) (sym same) fit-left.1;
      room = omega (arith, h.room, length-left, ap length same, ap (λ (t : MachineData). t.spare) after_is);
    }

    -- a sink breaks
    pub playing-breaks : Breaks (turn_now m showing event) behind d →
        Breaks (pieces_left start showing (tallies_of (told_left start events probes)) events) before d
    playing-breaks broken =
        SoFar-breaks_event _ m showing _ event rest before behind d
        (so-far start showing events probes before m left (event ∷ rest) now_ behind is h) broken

    pub playing-stops : Breaks (turn_now m showing event) behind d → Stops start showing events before probes d told
    playing-stops broken = inl (
      length h.done,
      stops-at start m showing _ h.done event before behind h.put events rest next d probes told all-left broken
          (told-next start m next h.done probes now_ told event after_is knows h.told),
    )

-- none is left
module _ (start : MachineData) (showing : Showing) (events : List Event) (probes : List Meter) (before : Ends) (m : MachineData) (left : List Event) (now_ : List Meter) (behind : Ends) (is : left ≡ []) (h : IsPlaying start showing events probes before m left now_ behind) where
  whole : h.done ≡ events
  whole = sym (append-nil h.done) ∙ ap (λ t. h.done ++ t) (sym is) ∙ h.all

  told-whole : IsToldSoFar start events probes m now_
  told-whole = subst (λ (t : List Event). IsToldSoFar start t probes m now_) whole h.told

  put-whole : IsPutSoFar start showing (tallies_of (told_left start events probes)) events m before behind
  put-whole =
      subst (λ (t : List Event). IsPutSoFar start showing (tallies_of (told_left start events probes)) t m before behind) whole h.put

  pub playing-reached : m.state ≡ state_left start events
  playing-reached = h.reached [] ∙ ap (state_left start) (append-nil h.done ∙ whole)

  pub playing-told : now_ ≡ told_left start events probes
  playing-told = told-done start m events probes now_ told-whole

  pub playing-ends : (d : Ends) → d ≡ after behind (end_now m showing (tallies_of now_)) →
      d ≡ after before (pieces_left start showing (tallies_of (told_left start events probes)) events)
  playing-ends d put =
      SoFar-end _ m showing _ now_ before behind d playing-told
      (so-far start showing events probes before m left [] now_ behind is h) put

  pub end-breaks : (d : Ends) → Breaks (end_now m showing (tallies_of now_)) behind d →
      Breaks (pieces_left start showing (tallies_of (told_left start events probes)) events) before d
  end-breaks d broken =
      SoFar-breaks_end _ m showing _ now_ before behind d playing-told
      (so-far start showing events probes before m left [] now_ behind is h) broken

  pub end-stops : (d : Ends) → Breaks (end_now m showing (tallies_of now_)) behind d → Stops start showing events before probes d now_
  end-stops d broken = inr (stops-at_end start m showing events before behind d probes now_ told-whole put-whole broken)
