-- What a replay of a journal's events does: its probes are told the same, it puts the same bytes, and the same summary.
use Rattle.std.proofs.Common.{◌≡◌, ℕ, ◌+◌, List, [], ◌∷◌, ◌++◌, drop, length, map, refl, ap, sym, ◌∙◌, append_assoc, append-nil, arith}
use Rattle.std.proofs.lemmas.List.{drop_at, length-map}
use Rattle.std.specs.Prelude.{Option}
use Rattle.sn_base.specs.Image.{ImageData}
use Rattle.sn_base.specs.declared.config.Config.{Config}
use Rattle.sn_base.specs.declared.event.Event.{Event}
use Rattle.sn_base.specs.declared.event.Answer.{Answer}
use Rattle.sn_model.specs.Machine.{State, start_of}
use Rattle.sn_model.specs.Step.{step_of, state_after, run_of}
use Rattle.sn_probe.specs.Probes.{Meter, told_from}
use Rattle.sink_pieces.specs.Pieces.{console_text, report_text, console_piece}
use Rattle.sink_pieces.proofs.PieceLaws.{console_text-append, report_text-append}
use Rattle.sink_pieces.proofs.Begun.{report_text-piece}
use Rattle.script_replay.specs.declared.job.Showing.{Showing}
use Rattle.script_replay.specs.declared.job.ReportKind.TheVariants.{Summary}
use Rattle.script_replay.specs.Pieces.{summary_pieces, end_pieces, turn_pieces, turns_from}
use Rattle.script_replay.specs.Pieces.{pieces_from, pieces_of}
use Rattle.script_replay.specs.Probed.{answers_along, told_all as told_by_replay}
use Rattle.script_replay.proofs.Shown.{console_text-turn, console_text-turns}
use Rattle.node_threads.specs.JournalEntry.{JournalEntry}
use Rattle.node_threads.specs.Journal.{events_of, state_of, answers_of}
use Rattle.node_threads.proofs.Released.{released-grows}
use Rattle.node_threads.specs.Told.{told_in, told_all}
use Rattle.node_run.specs.declared.job.Run.{Run}
use Rattle.node_run.specs.Pieces.{begins, replay_of, tallies_by}
use Rattle.node_run.specs.Shown.{IsReplayedSo, output_by}

-- what its probes are told
told-answered : (image : ImageData) (config : Config) (s : State) (journal : List JournalEntry) →
    told_in journal (map (λ step. step.answer) (run_of image config s (events_of journal))) ≡ answers_along image config s (events_of journal)
told-answered image config s [] = refl
told-answered image config s (e ∷ journal) =
    ap (λ t. record { event = e.event; answer = (step_of image config s e.event).answer } ∷ t)
    (told-answered image config (step_of image config s e.event).state journal)

pub told-replayed : (r : Run) (journal : List JournalEntry) (answers : List Answer) (probes : List Meter) →
    answers ≡ answers_of (begins r) journal → told_all journal answers probes ≡ told_by_replay (replay_of r journal) probes
unfolding answers_of
told-replayed r journal answers probes are =
    ap (λ a. told_all journal a probes) are
    ∙ ap (λ t. map (told_from 1 t) probes) (told-answered r.program r.config (start_of r.program r.config.nodes) journal)

module _ (image : ImageData) (config : Config) (showing : Showing) where
  -- what its events put to the console
  fresh : (place : ℕ) (s : State) (event : Event) →
      (step_of image config s event).state.released ≡ s.released ++ console_text (turn_pieces image config showing place s event)
  fresh place s event =
      let grows = released-grows image config s event in
      grows.is ∙ ap (λ t. s.released ++ t)
      (sym (console_text-turn image config showing place s event ∙ ap (drop (length s.released)) grows.is
      ∙ drop_at s.released grows.more (length s.released) refl))

  released-replayed : (done : ℕ) (s : State) (events : List Event) →
      (state_after image config s events).released ≡ s.released ++ console_text (turns_from image config showing done s events)
  unfolding turns_from
  released-replayed done s [] = sym (append-nil s.released)
  released-replayed done s (event ∷ events) =
      let next : State = (step_of image config s event).state in
      released-replayed (done + 1) next events
      ∙ ap (λ t. t ++ console_text (turns_from image config showing (done + 1) next events)) (fresh (done + 1) s event)
      ∙ append_assoc s.released (console_text (turn_pieces image config showing (done + 1) s event))
      (console_text (turns_from image config showing (done + 1) next events))
      ∙ ap (λ t. s.released ++ t)
      (sym (console_text-append (turn_pieces image config showing (done + 1) s event)
      (turns_from image config showing (done + 1) next events)))

  console-replayed : (tallies : List (List ℕ)) (events : List Event) →
      console_text (pieces_of image config showing tallies events)
      ≡ (state_after image config (start_of image config.nodes) events).released
  unfolding pieces_of
  console-replayed tallies events =
      console_text-turns image config showing tallies 0 (start_of image config.nodes) events
      ∙ sym (released-replayed 0 (start_of image config.nodes) events)

-- what they put to the report where the summary alone is shown
module _ (image : ImageData) (config : Config) (watch : Option ℕ) (tallies : List (List ℕ)) where
  abbrev summed : Showing
  summed = record { report = Summary; watch = watch }

  report_text-event : (place : ℕ) (s : State) (event : Event) → report_text (turn_pieces image config summed place s event) ≡ []
  unfolding turn_pieces
  report_text-event place s event =
      let more : List ℕ = drop (length s.released) (step_of image config s event).state.released in
      report_text-append (console_piece more) [] ∙ append-nil (report_text (console_piece more)) ∙ report_text-piece more

  report_text-events : (done : ℕ) (s : State) (events : List Event) →
      report_text (pieces_from image config summed tallies done s events)
      ≡ report_text (summary_pieces [] image config watch tallies (done + length events) (state_after image config s events))
  unfolding pieces_from end_pieces
  report_text-events done s [] =
      let same : done ≡ done + 0 = omega arith in
      ap (λ n. report_text (summary_pieces [] image config watch tallies n s)) same
  report_text-events done s (event ∷ events) =
      let next : State = (step_of image config s event).state in
      let same : done + 1 + length events ≡ done + length (event ∷ events) = omega arith in
      report_text-append (turn_pieces image config summed (done + 1) s event)
      (pieces_from image config summed tallies (done + 1) next events)
      ∙ ap (λ t. t ++ report_text (pieces_from image config summed tallies (done + 1) next events)) (report_text-event (done + 1) s event)
      ∙ report_text-events (done + 1) next events
      ∙ ap (λ n. report_text (summary_pieces [] image config watch tallies n (state_after image config next events))) same

  report-replayed : (events : List Event) (count : ℕ) → length events ≡ count →
      report_text (pieces_of image config summed tallies events)
      ≡ report_text (summary_pieces [] image config watch tallies count (state_after image config (start_of image config.nodes) events))
  unfolding pieces_of
  report-replayed events count many =
      let same : 0 + length events ≡ count = omega (arith, many) in
      report_text-events 0 (start_of image config.nodes) events
      ∙ ap (λ n. report_text (summary_pieces [] image config watch tallies n
      (state_after image config (start_of image config.nodes) events))) same

pub replayed-so : (r : Run) (probes : List Meter) (journal : List JournalEntry) → (state_of (begins r) journal).released ≡ output_by r journal →
    IsReplayedSo r probes journal
unfolding state_of
replayed-so r probes journal output = record {
  console = console-replayed r.program r.config (replay_of r journal).showing (tallies_by r probes journal) (events_of journal) ∙ output;
  report =
      report-replayed r.program r.config r.showing.watch (tallies_by r probes journal) (events_of journal) (length journal)
      (length-map journal (λ (e : JournalEntry). e.event));
}
