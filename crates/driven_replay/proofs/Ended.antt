-- What holds of a drive that has ended.
use Rattle.std.proofs.Common.{◌≡◌, ℕ, ◌≤◌, List, [], ◌∷◌, ◌++◌, length, take, ◌⊎◌, refl, ap, subst, ◌∙◌}
use Rattle.std.proofs.Common.{append-nil, arith}
use Rattle.std.specs.Prelude.{IfOk, Result}
use Rattle.sn_base.specs.Image.{ImageData}
use Rattle.sn_base.specs.declared.config.Config.{Config}
use Rattle.sn_base.specs.declared.event.Event.{Event}
use Rattle.sn_model.specs.Machine.{State}
use Rattle.sn_io.specs.Outside.{followed_by}
use Rattle.sn_machine.specs.Machine.{MachineData}
use Rattle.consistent_cuts.specs.Headline.{IsRun, state_of_run}
use Rattle.line_source.specs.Lines.{LineRead}
use Rattle.sn_probe.specs.Probes.{Meter, tallies_of}
use Rattle.sink_pieces.specs.Pieces.{Piece, Ends, after, Breaks, console_text}
use Rattle.sink_pieces.proofs.PieceLaws.{after-append, console_text-append}
use Rattle.sink_pieces.proofs.Begun.{console-after}
use Rattle.script_replay.specs.Shown.{output_of}
use Rattle.script_replay.proofs.Lawful.{run-lawful}
use Rattle.driven_replay.specs.declared.job.DriveShowing.{DriveShowing}
use Rattle.driven_replay.specs.declared.driving.DriveEnd.{DriveEnd}
use Rattle.driven_replay.specs.declared.driving.DriveFault.{DriveFault}
use Rattle.driven_replay.specs.declared.driving.DriveEnd.TheVariants.{Whole, TooMany}
use Rattle.driven_replay.specs.Pieces.{ShowsStates, start_pieces, end_pieces}
use Rattle.driven_replay.specs.Said.{said_by, events_of, NeverBack, WantsMemory}
use Rattle.driven_replay.specs.Answers.{over_pieces, answer_to, answers_to, pieces_to, driven_pieces}
use Rattle.driven_replay.specs.Answered.{IsFresh, start_now, end_now, MayBeDoneAlong, HasAnswered, BreaksOff}
use Rattle.driven_replay.specs.declared.job.Drive.{Drive}
use Rattle.driven_replay.specs.Driven.{SourceData, AreRead, IsAtEnd, drive_on, told_in, last_in, AreAnswered, IsDriven, IsLeftOff, LacksMemory, LacksMemoryAtEnd, BreaksAtStart, BreaksInAnswer, BreaksAtEnd}
use Rattle.driven_replay.proofs.Showings.{console-end}
use Rattle.driven_replay.proofs.Turns.{replayed, told-run, pieces-output}
use Rattle.sn_base.specs.declared.limits.TheConstants.{EVENTS}

-- the end puts nothing to the console
console-over : (how : DriveEnd) → console_text (over_pieces how) ≡ []
console-over Whole = refl
console-over TooMany = refl

module _ (start : MachineData) (showing : DriveShowing) (fresh : IsFresh start) where
  abbrev begins : List Piece
  begins = start_pieces start.image start.config showing

  abbrev answers : List LineRead → List Piece
  answers lines = answers_to start.image start.config showing lines

  abbrev pieces : List LineRead → List Piece
  pieces lines = pieces_to start.image start.config showing lines

  module _ (lines : List LineRead) (moments : MayBeDoneAlong start.config.nodes lines) where
    run-take : (i : ℕ) → IsRun start.config (events_of start.config.nodes (take i lines))
    run-take i = record { fits = fresh.sizes; events_fit = (moments i).fit }

    pub are-answered : AreAnswered (drive_on start showing) lines
    are-answered = record {
      few = λ i. (moments i).few;
      lawful = λ i. run-lawful start.image start.config (events_of start.config.nodes (take i lines)) (run-take i);
      in_step = λ i on. pieces-output start.image start.config showing (take i lines) on (run-take i) (moments i).few;
      replayed = λ on tallies. replayed start.image start.config showing tallies lines on;
      told = λ on probes. told-run start.image start.config lines probes on;
    }

  -- the start is put
  module _ (before opened : Ends) (first : opened ≡ after before (start_now start showing)) where
    pieces-after : (lines : List LineRead) → after opened (answers lines) ≡ after before (pieces lines)
    pieces-after lines = ap (λ (t : Ends). after t (answers lines)) first ∙ after-append before begins (answers lines)

    pub broken-in_answer : (lines : List LineRead) (last : LineRead) (probes told : List Meter) (behind : Ends) →
        BreaksOff start showing lines last probes opened told behind →
        BreaksInAnswer (drive_on start showing) lines last probes before behind told
    broken-in_answer lines last probes told behind h = record {
      answered = are-answered lines h.moments;
      broken = subst (λ (t : Ends). Breaks (answer_to start.image start.config showing lines last) t behind) (pieces-after lines) h.broken;
      knows = h.knows;
    }

    module _ (lines : List LineRead) (probes : List Meter) (m : MachineData) (now_ : List Meter) (middle : Ends) (h : HasAnswered start showing lines probes opened m now_ middle) where
      abbrev all : List Event
      all = events_of start.config.nodes lines

      few-all : length all ≤ EVENTS
      few-all = omega (arith, h.at.count, h.at.room)

      answered : AreAnswered (drive_on start showing) lines
      answered = are-answered lines h.moments

      run-all : IsRun start.config all
      run-all = record { fits = fresh.sizes; events_fit = h.at.fit }

      put-so : middle ≡ after before (pieces lines)
      put-so = h.put ∙ pieces-after lines

      pub left-off : IsLeftOff (drive_on start showing) lines probes before middle now_
      left-off = record { answered = answered; put = put-so; knows = h.knows }

      pub lacking : (last : LineRead) → WantsMemory showing all (said_by start.config.nodes last) →
          LacksMemory (drive_on start showing) lines last probes before middle now_
      lacking last asks = record { asks = asks; others = left-off }

      end-is : end_now m showing (tallies_of now_)
          ≡ end_pieces start.image start.config showing (tallies_of (told_in (drive_on start showing) lines probes)) (length all)
          (state_of_run start.image start.config all)
      end-is =
          ap (λ (t : List Meter). end_now m showing (tallies_of t)) h.knows
          ∙ ap (λ (t : State). end_pieces m.image m.config showing due m.applied t) h.at.state
          ∙ ap (λ n. end_pieces m.image m.config showing due n (state_of_run start.image start.config all)) h.at.count
          ∙ ap (λ (t : Config). end_pieces m.image t showing due (length all) (state_of_run start.image start.config all)) h.at.sizes
          ∙ ap (λ (t : ImageData). end_pieces t start.config showing due (length all) (state_of_run start.image start.config all)) h.at.program where
            due : List (List ℕ)
            due = tallies_of (told_in (drive_on start showing) lines probes)

      module _ (how : DriveEnd) (behind : Ends) where
        pub lacking-last : ShowsStates showing → behind ≡ after middle (over_pieces how) →
            LacksMemoryAtEnd (drive_on start showing) how lines probes before behind now_
        lacking-last shows put = record {
          shows = shows;
          answered = answered;
          put = put ∙ ap (λ (t : Ends). after t (over_pieces how)) put-so ∙ after-append before (pieces lines) (over_pieces how);
          knows = h.knows;
        }

        last-is : over_pieces how ++ end_now m showing (tallies_of now_) ≡ last_in (drive_on start showing) probes how lines
        last-is = ap (λ t. over_pieces how ++ t) end-is

        pub broken-at_end : Breaks (over_pieces how ++ end_now m showing (tallies_of now_)) middle behind →
            BreaksAtEnd (drive_on start showing) how lines probes before behind now_
        broken-at_end broken = record {
          answered = answered;
          broken = subst (λ (t : Ends). Breaks (last_in (drive_on start showing) probes how lines) t behind) put-so
              (subst (λ (t : List Piece). Breaks t middle behind) last-is broken);
          knows = h.knows;
        }

        module _ (put : behind ≡ after middle (over_pieces how ++ end_now m showing (tallies_of now_))) where
          abbrev tallies : List (List ℕ)
          tallies = tallies_of (told_in (drive_on start showing) lines probes)

          whole-put : behind ≡ after before (driven_pieces start.image start.config showing tallies how lines)
          whole-put =
              put ∙ ap (after middle) last-is
              ∙ ap (λ (t : Ends). after t (last_in (drive_on start showing) probes how lines)) put-so
              ∙ after-append before (pieces lines) (last_in (drive_on start showing) probes how lines)

          console-last : console_text (last_in (drive_on start showing) probes how lines) ≡ []
          console-last =
              console_text-append (over_pieces how)
              (end_pieces start.image start.config showing tallies (length all) (state_of_run start.image start.config all))
              ∙ ap (λ t. t ++ console_text (end_pieces start.image start.config showing tallies (length all)
              (state_of_run start.image start.config all))) (console-over how)
              ∙ console-end start.image start.config showing tallies (length all) (state_of_run start.image start.config all)

          console-whole : NeverBack start.config.nodes lines →
              console_text (driven_pieces start.image start.config showing tallies how lines) ≡ output_of start.image start.config all
          console-whole on =
              console_text-append (pieces lines) (last_in (drive_on start showing) probes how lines)
              ∙ ap (λ t. console_text (pieces lines) ++ t) console-last
              ∙ append-nil (console_text (pieces lines))
              ∙ pieces-output start.image start.config showing lines on run-all few-all

          pub driven : IsDriven (drive_on start showing) how lines probes before behind now_
          driven = record {
            answered = answered;
            put = whole-put;
            output = λ on. console-after before behind (driven_pieces start.image start.config showing tallies how lines) whole-put
                ∙ ap (followed_by before.console) (console-whole on);
            knows = h.knows;
          }

  pub broken-at_start : (probes told : List Meter) (before behind : Ends) → Breaks (start_now start showing) before behind → told ≡ probes →
      BreaksAtStart (drive_on start showing) probes before behind told
  broken-at_start probes told before behind broken same = record { broken = broken; knows = same }

-- a drive of the machine that was made for a job is that job's
abbrev pub BrokeSo : Type 0 → Drive → List Meter → Ends → Ends → List Meter → SourceData → SourceData → Type 0
BrokeSo Unread d probes before behind told from to =
    (Unread × BreaksAtStart d probes before behind told)
    ⊎ (((read : List LineRead) × (last : LineRead) × BreaksInAnswer d read last probes before behind told × AreRead (read ++ last ∷ []) from to)
    ⊎ ((how : DriveEnd) × (read : List LineRead) × BreaksAtEnd d how read probes before behind told × IsAtEnd d read how from to))

pub of-job : (Unread : Type 0) (a b : Drive) (probes : List Meter) (before behind : Ends) (told : List Meter) (from to : SourceData) → a ≡ b →
    BrokeSo Unread a probes before behind told from to → BrokeSo Unread b probes before behind told from to
of-job Unread a b probes before behind told from to is broken =
    subst (λ (d : Drive). BrokeSo Unread d probes before behind told from to) is broken

abbrev pub LackedSo : Type 0 → Drive → List Meter → Ends → Ends → List Meter → SourceData → SourceData → Type 0
LackedSo Unchanged d probes before behind told from to =
    Unchanged
    ⊎ (((read : List LineRead) × (last : LineRead) × LacksMemory d read last probes before behind told × AreRead (read ++ last ∷ []) from to)
    ⊎ ((how : DriveEnd) × (read : List LineRead) × LacksMemoryAtEnd d how read probes before behind told × IsAtEnd d read how from to))

pub of-lack : (Unchanged : Type 0) (a b : Drive) (probes : List Meter) (before behind : Ends) (told : List Meter) (from to : SourceData) → a ≡ b →
    LackedSo Unchanged a probes before behind told from to → LackedSo Unchanged b probes before behind told from to
of-lack Unchanged a b probes before behind told from to is lacked =
    subst (λ (d : Drive). LackedSo Unchanged d probes before behind told from to) is lacked

abbrev pub DoneSo : Drive → List Meter → Ends → Ends → List Meter → SourceData → SourceData → DriveEnd → Type 0
DoneSo d probes before behind told from to how =
    (read : List LineRead) × IsDriven d how read probes before behind told × IsAtEnd d read how from to

pub of-end : (a b : Drive) (probes : List Meter) (before behind : Ends) (told : List Meter) (from to : SourceData) (r : Result DriveEnd DriveFault) → a ≡ b →
    IfOk r (DoneSo a probes before behind told from to) → IfOk r (DoneSo b probes before behind told from to)
of-end a b probes before behind told from to r is done = subst (λ (d : Drive). IfOk r (DoneSo d probes before behind told from to)) is done

abbrev pub LeftSo : Drive → List Meter → Ends → Ends → List Meter → SourceData → SourceData → (List LineRead → Type 0) → Type 0
LeftSo d probes before behind told from to why =
    (read : List LineRead) × IsLeftOff d read probes before behind told × AreRead read from to × why read

pub of-left : (a b : Drive) (probes : List Meter) (before behind : Ends) (told : List Meter) (from to : SourceData) (why : List LineRead → Type 0) → a ≡ b →
    LeftSo a probes before behind told from to why → LeftSo b probes before behind told from to why
of-left a b probes before behind told from to why is left = subst (λ (d : Drive). LeftSo d probes before behind told from to why) is left
