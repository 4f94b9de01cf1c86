-- How far a replay that shows states has come, between two of its events.
use Rattle.std.proofs.Common.{◌≡◌, ℕ, zero, suc, ◌+◌, ◌<◌, ◌≤◌, true, List, [], ◌∷◌, ◌++◌, map, take, length, get_or, refl, ap, sym, subst, ◌∙◌}
use Rattle.std.proofs.Common.{append-nil, inl, inr, arith}
use Rattle.std.proofs.lemmas.List.{take_more, map-id}
use Rattle.std.proofs.lemmas.Result.{IfErr-at_err}
use Rattle.std.specs.Prelude.{Option, Result, Err}
use Rattle.sn_base.specs.Image.{ImageData}
use Rattle.sn_base.specs.declared.config.Config.{Config}
use Rattle.sn_base.specs.declared.event.Event.{Event}
use Rattle.sn_base.specs.declared.event.Answer.{Answer}
use Rattle.sn_base.specs.Events.{event_fits}
use Rattle.sn_model.specs.Machine.{State, start_of}
use Rattle.sn_model.specs.Step.{step_of}
use Rattle.script_replay.specs.Machine.{MachineData, next_of}
use Rattle.consistent_cuts.specs.Headline.{state_of_run}
use Rattle.consistent_cuts.specs.Runs.{EventFits, AllFit}
use Rattle.sn_probe.specs.Probes.{Meter, told_of}
use Rattle.sink_pieces.specs.Pieces.{Piece, Ends, after, Breaks}
use Rattle.sink_pieces.proofs.PieceLaws.{after-append, Breaks-more, Breaks-after}
use Rattle.script_replay.specs.Played.{IsAtStart, after_event, told_next}
use Rattle.script_replay.specs.Probed.{told_of_run}
use Rattle.option_values.specs.declared.places.Places.{Places}
use Rattle.shown_states.specs.declared.job.StatesReplay.{StatesReplay}
use Rattle.shown_states.specs.Pieces.{report_piece, opening_text, state_turn, turns_from, turns_of}
use Rattle.shown_states.specs.Played.{turn_now, states_of}
use Rattle.shown_states.specs.Shown.{MayBegin, first_pieces, told_first, pieces_due, IsShownInPart, KnowApplied, IsCutShort}
use Rattle.shown_states.proofs.Laws.{state-more, turns_of-more, told-more, turns-first}
use Rattle.shown_states.proofs.Moments.{last_piece, due-is, console-first, is-lawful, part-put}
use Rattle.sink_pieces.proofs.Begun.{console-after}
use Rattle.sn_io.specs.Outside.{followed_by}

-- the machine once the first i events are applied
pub record IsReached (r : StatesReplay) (i : ℕ) (m : MachineData) : Type 0 where
  pub image : m.image ≡ r.program
  pub config : m.config ≡ r.config
  pub state : m.state ≡ state_of_run r.program r.config (take i r.script)
  pub count : m.applied ≡ i
  pub room : length r.script ≤ i + m.spare

-- their pieces are put, and the probes were told them
pub record IsPlayed (r : StatesReplay) (probes : List Meter) (before : Ends) (i : ℕ) (m : MachineData) (now_ : List Meter) (behind : Ends) : Type 0 where
  pub reached : IsReached r i m
  pub put : behind ≡ after before (first_pieces r i)
  pub knows : now_ ≡ told_first r i probes

-- the start

module _ (m : MachineData) (watch : Option ℕ) (only : Option Places) (events : List Event) (ready : IsAtStart m m.image m.config (length events)) where
  abbrev opening : List Piece
  opening = report_piece (opening_text m.image m.config only m.applied m.state)

  abbrev first_opening : List Piece
  first_opening = report_piece (opening_text m.image m.config only 0 (start_of m.image m.config.nodes))

  pub opening-is : opening ≡ first_opening
  opening-is =
      ap (λ k. report_piece (opening_text m.image m.config only k m.state)) ready.new
      ∙ ap (λ (s : State). report_piece (opening_text m.image m.config only 0 s)) ready.start

  none-played : first_pieces (states_of m watch only events) 0 ≡ first_opening
  unfolding turns_of turns_from
  none-played = append-nil first_opening

  pub played-starts : (probes : List Meter) (before behind : Ends) → behind ≡ after before opening →
      IsPlayed (states_of m watch only events) probes before 0 m probes behind
  played-starts probes before behind put = record {
    reached = record {
      image = refl;
      config = refl;
      state = ready.start;
      count = ready.new;
      room = omega (arith, ready.room);
    };
    put = put ∙ ap (after before) (opening-is ∙ sym none-played);
    knows = sym (map-id probes);
  }

  due-begins : (probes : List Meter) →
      pieces_due (states_of m watch only events) probes
      ≡ (first_opening ++ turns_from m.image m.config only 0 (start_of m.image m.config.nodes) events)
      ++ last_piece (states_of m watch only events) probes
  unfolding turns_of
  due-begins probes = due-is (states_of m watch only events) probes

  pub start-broken : (may : MayBegin (states_of m watch only events)) (probes : List Meter) (before behind : Ends) → Breaks opening before behind →
      IsShownInPart (states_of m watch only events) probes before behind
  start-broken may probes before behind broken =
      let first : Breaks first_opening before behind = subst (λ (t : List Piece). Breaks t before behind) opening-is broken in
      part-put (states_of m watch only events) may probes before behind
      (subst (λ (t : List Piece). Breaks t before behind) (sym (due-begins probes))
      (Breaks-more _ (last_piece (states_of m watch only events) probes) before behind
      (Breaks-more first_opening (turns_from m.image m.config only 0 (start_of m.image m.config.nodes) events) before behind first)))

  pub start-known : (probes told : List Meter) (before behind : Ends) → Breaks opening before behind → told ≡ probes →
      KnowApplied (states_of m watch only events) probes before behind told
  start-known probes told before behind broken same = inl (record {
    broken = subst (λ (t : List Piece). Breaks t before behind) opening-is broken;
    knows = same;
  })

-- an event comes next

length-first : (xs : List Event) (i : ℕ) → i ≤ length xs → length (take i xs) ≡ i
length-first xs zero few = refl
length-first [] (suc i) few = absurd (omega (arith, few))
length-first (x ∷ xs) (suc i) few = ap suc (length-first xs i (omega (arith, few)))

fits-all : (nodes : ℕ) (events : List Event) (i : ℕ) (event : Event) → i < length events → AllFit nodes events →
    EventFits nodes (get_or events i event)
fits-all nodes [] i event below fit = absurd (omega (arith, below))
fits-all nodes (x ∷ events) zero event below fit = fit.0
fits-all nodes (x ∷ events) (suc i) event below fit = fits-all nodes events i event (omega (arith, below)) fit.1

module _ (r : StatesReplay) (i : ℕ) (event : Event) (below : i < length r.script) (is : event ≡ get_or r.script i event) where
  taken : take (i + 1) r.script ≡ take i r.script ++ event ∷ []
  taken = take_more r.script i event below ∙ ap (λ e. take i r.script ++ e ∷ []) (sym is)

  count-is : length (take i r.script) ≡ i
  count-is = length-first r.script i (omega (arith, below))

  abbrev here : State
  here = state_of_run r.program r.config (take i r.script)

  module _ (m : MachineData) (h : IsReached r i m) where
    pub event-next : MayBegin r → EventFits m.config.nodes event
    event-next may =
        subst (λ (c : Config). EventFits c.nodes event) (sym h.config)
        (subst (EventFits r.config.nodes) (sym is) (fits-all r.config.nodes r.script i event below may.run.events_fit))

    pub fits-next : MayBegin r → event_fits m.config.nodes event ≡ true
    fits-next may = (event-next may).numbers

    pub room-next : 1 ≤ m.spare
    room-next = omega (arith, below, h.room)

    turn-same : turn_now m r.only event ≡ state_turn r.program r.config r.only (i + 1) here event
    turn-same =
        ap (λ (t : ImageData). state_turn t m.config r.only (m.applied + 1) m.state event) h.image
        ∙ ap (λ (t : Config). state_turn r.program t r.only (m.applied + 1) m.state event) h.config
        ∙ ap (λ k. state_turn r.program r.config r.only (k + 1) m.state event) h.count
        ∙ ap (λ (t : State). state_turn r.program r.config r.only (i + 1) t event) h.state

    pieces-next : first_pieces r (i + 1) ≡ first_pieces r i ++ turn_now m r.only event
    pieces-next =
        ap (turns_of r.program r.config r.only) taken ∙ turns_of-more r.program r.config r.only (take i r.script) event
        ∙ ap (λ k. first_pieces r i ++ state_turn r.program r.config r.only (k + 1) here event) count-is
        ∙ ap (λ t. first_pieces r i ++ t) (sym turn-same)

    answer-same : (next_of m event).answer ≡ (step_of r.program r.config here event).answer
    answer-same =
        ap (λ (t : ImageData). (step_of t m.config m.state event).answer) h.image
        ∙ ap (λ (t : Config). (step_of r.program t m.state event).answer) h.config
        ∙ ap (λ (t : State). (step_of r.program r.config t event).answer) h.state

    state-same : (next_of m event).state ≡ (step_of r.program r.config here event).state
    state-same =
        ap (λ (t : ImageData). (step_of t m.config m.state event).state) h.image
        ∙ ap (λ (t : Config). (step_of r.program t m.state event).state) h.config
        ∙ ap (λ (t : State). (step_of r.program r.config t event).state) h.state

    pub told-applied : (probes now_ told : List Meter) → now_ ≡ told_first r i probes → told ≡ told_next m event now_ →
        told ≡ told_first r (i + 1) probes
    told-applied probes now_ told knows more =
        more ∙ ap (λ k. map (told_of (k + 1) event (next_of m event).answer) now_) h.count
        ∙ ap (λ (a : Answer). map (told_of (i + 1) event a) now_) answer-same
        ∙ ap (map (told_of (i + 1) event (step_of r.program r.config here event).answer)) knows
        ∙ ap (λ k. map (told_of (k + 1) event (step_of r.program r.config here event).answer) (told_first r i probes)) (sym count-is)
        ∙ sym (told-more r.program r.config (take i r.script) event probes)
        ∙ ap (λ t. told_of_run r.program r.config t probes) (sym taken)

    reached-next : (n : MachineData) → n ≡ after_event m event → IsReached r (i + 1) n
    reached-next n e = record {
      image = ap (λ (t : MachineData). t.image) e ∙ h.image;
      config = ap (λ (t : MachineData). t.config) e ∙ h.config;
      state =
          ap (λ (t : MachineData). t.state) e ∙ state-same
          ∙ sym (state-more r.program r.config (start_of r.program r.config.nodes) (take i r.script) event)
          ∙ ap (state_of_run r.program r.config) (sym taken);
      count = ap (λ (t : MachineData). t.applied) e ∙ ap (λ k. k + 1) h.count;
      room = omega (arith, below, h.room, ap (λ (t : MachineData). t.spare) e);
    }

  module _ (probes : List Meter) (before : Ends) (m : MachineData) (now_ : List Meter) (behind : Ends) (h : IsPlayed r probes before i m now_ behind) where
    pub played-next : (n : MachineData) (told : List Meter) (d : Ends) → n ≡ after_event m event → told ≡ told_next m event now_ →
        d ≡ after behind (turn_now m r.only event) → IsPlayed r probes before (i + 1) n told d
    played-next n told d e more put = record {
      reached = reached-next m h.reached n e;
      put = put ∙ ap (λ (t : Ends). after t (turn_now m r.only event)) h.put
          ∙ after-append before (first_pieces r i) (turn_now m r.only event) ∙ ap (after before) (sym (pieces-next m h.reached));
      knows = told-applied m h.reached probes now_ told h.knows more;
    }

    module _ (d : Ends) (broken : Breaks (turn_now m r.only event) behind d) where
      broken-after : Breaks (turn_now m r.only event) (after before (first_pieces r i)) d
      broken-after = subst (λ (t : Ends). Breaks (turn_now m r.only event) t d) h.put broken

      broken-first : Breaks (first_pieces r (i + 1)) before d
      broken-first =
          subst (λ (t : List Piece). Breaks t before d) (sym (pieces-next m h.reached))
          (Breaks-after (first_pieces r i) (turn_now m r.only event) before d broken-after)

      pub turn-broken : MayBegin r → IsShownInPart r probes before d
      turn-broken may =
          let split = turns-first r.program r.config r.only r.script (i + 1) in
          part-put r may probes before d
          (subst (λ (t : List Piece). Breaks t before d) (sym (due-is r probes))
          (Breaks-more _ (last_piece r probes) before d
          (subst (λ (t : List Piece). Breaks t before d) split.1 (Breaks-more _ split.0 before d broken-first))))

      pub turn-known : (told : List Meter) → told ≡ told_next m event now_ → KnowApplied r probes before d told
      turn-known told more = inr (inl (
        i,
        record {
          below = below;
          pieces = turn_now m r.only event;
          are = pieces-next m h.reached;
          broken = broken-after;
          knows = told-applied m h.reached probes now_ told h.knows more;
        },
      ))

-- why an event isn't put is why a replay ends
pub as-fault : {A B E : Type 0} (x y : E) → ◌≡◌ {A = Result A E} (Err x) (Err y) → ◌≡◌ {A = Result B E} (Err x) (Err y)
as-fault x y is = ap (λ t. Err t) (IfErr-at_err (λ t. x ≡ t) is refl)

-- memory was lacking
pub cut-short : (r : StatesReplay) (may : MayBegin r) (i : ℕ) (probes : List Meter) (before : Ends) (m : MachineData) (now_ told : List Meter)
    (behind d : Ends) → i ≤ length r.script → IsPlayed r probes before i m now_ behind → d ≡ behind → told ≡ now_ →
    IsCutShort r probes before d told
cut-short r may i probes before m now_ told behind d within h same stays =
    let put : d ≡ after before (first_pieces r i) = same ∙ h.put in (
      i,
      record {
        within = within;
        put = put;
        lawful = is-lawful r may probes;
        output = console-after before d (first_pieces r i) put ∙ ap (followed_by before.console) (console-first r may i);
        knows = stays ∙ h.knows;
      },
    )
