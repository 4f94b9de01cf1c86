-- What a call of `drive` comes to: by the words, by what was found of the program's file, by the lines that were read, and by the sinks.
use Rattle.std.specs.Prelude.{◌≡◌, ℕ, ◌⊎◌, ◌-◌, ◌^◌, ◌≤◌, Bool, false, bytes_eq, codes, List, [], ◌∷◌, ◌++◌, length, Option, Some, None, Result, Ok, Err}
use Rattle.sn_base.specs.Image.{ImageData}
use Rattle.sn_base.specs.declared.config.Config.{Config}
use Rattle.sn_io.specs.Outside.{Found, found_in}
use Rattle.sn_probe.specs.Probes.{Meter}
use Rattle.command_words.specs.Request.{Request, Drive as DriveRequest}
use Rattle.command_words.specs.declared.request.DriveReport.{DriveReport}
use Rattle.command_words.specs.declared.request.DriveReport.TheVariants as report
use Rattle.line_source.specs.Lines.{LineRead}
use Rattle.sink_pieces.specs.Pieces.{Ends}
use Rattle.script_replay.specs.declared.job.ReportKind.TheVariants as kind
use Rattle.driven_replay.specs.declared.job.Drive.{Drive}
use Rattle.driven_replay.specs.declared.job.DriveShowing.{DriveShowing}
use Rattle.driven_replay.specs.declared.job.DriveShowing.TheVariants as showing
use Rattle.driven_replay.specs.declared.driving.DriveEnd.{DriveEnd}
use Rattle.driven_replay.specs.declared.driving.DriveEnd.TheVariants.{Whole, TooMany}
use Rattle.driven_replay.specs.Driven.{SourceData, AreRead, IsAtEnd, IsDriven, IsLeftOff, LacksMemory, LacksMemoryAtEnd, BreaksAtStart, BreaksInAnswer, BreaksAtEnd}
use Rattle.call_files.specs.Files.{program_limit, program_in}
use Rattle.call_status.specs.declared.status.Status.{Status}
use Rattle.call_status.specs.declared.status.Status.TheVariants.{Done, Budget, SinkFault, InputFault, Usage}

-- whether the first word after the program's name is that of a drive
abbrev pub is_drive : List (List ℕ) → Bool
is_drive (name ∷ command ∷ words) = bytes_eq command (codes "drive")
is_drive _ = false

-- what is shown: of each event its group, or its line with states; and a word of memory besides
abbrev pub showing_of : DriveReport → Option ℕ → DriveShowing
showing_of report.Events watch = showing.Replay (record { report = kind.Events; watch = watch })
showing_of report.States watch = showing.States watch

-- the machine that is driven: of these sizes, at the start of the program
abbrev pub drive_of : Config → DriveReport → Option ℕ → ImageData → Drive
drive_of config report watch image = record { program = image; config = config; showing = showing_of report watch }

-- the status of a drive that came to its end: there are no more lines, or there is no room for an event more
abbrev pub end_status : DriveEnd → Status
end_status Whole = Done
end_status TooMany = Budget

-- all lines that were read are answered, and the end is put
abbrev pub IsDone : Drive → List Meter → Status → SourceData → SourceData → Ends → Ends → Type 0
IsDone d probes status from to before behind =
    (how : DriveEnd) × (lines : List LineRead) × (told : List Meter) × (status ≡ end_status how)
    × IsDriven d how lines probes before behind told × IsAtEnd d lines how from to

-- a sink broke before a line was read, in the answer to the last line that was read, or in the end
abbrev pub IsBrokenOff : Drive → List Meter → SourceData → SourceData → Ends → Ends → Type 0
IsBrokenOff d probes from to before behind =
    ((told : List Meter) × BreaksAtStart d probes before behind told × (to ≡ from))
    ⊎ (((lines : List LineRead) × (last : LineRead) × (told : List Meter)
    × BreaksInAnswer d lines last probes before behind told × AreRead (lines ++ last ∷ []) from to)
    ⊎ ((how : DriveEnd) × (lines : List LineRead) × (told : List Meter)
    × BreaksAtEnd d how lines probes before behind told × IsAtEnd d lines how from to))

-- the source failed: all lines that were read before are answered, and nothing more is put
abbrev pub IsLeft : Drive → List Meter → SourceData → SourceData → Ends → Ends → Type 0
IsLeft d probes from to before behind =
    (lines : List LineRead) × (told : List Meter) × IsLeftOff d lines probes before behind told × AreRead lines from to

-- one of the three, by the status
abbrev pub ComesTo : Drive → List Meter → Status → SourceData → SourceData → Ends → Ends → Type 0
ComesTo d probes status from to before behind =
    IsDone d probes status from to before behind
    ⊎ (((status ≡ SinkFault) × IsBrokenOff d probes from to before behind)
    ⊎ ((status ≡ InputFault) × IsLeft d probes from to before behind))

-- what is due is done: a program that is refused is the status, no line is read, and nothing is written
abbrev pub Follows : Config → DriveReport → Option ℕ → List Meter → Result ImageData Status → Status → SourceData → SourceData → Ends → Ends → Type 0
Follows config report watch probes (Err refusal) status from to before behind = (status ≡ refusal) × ((to ≡ from) × (behind ≡ before))
Follows config report watch probes (Ok image) status from to before behind =
    ComesTo (drive_of config report watch image) probes status from to before behind

-- a drive by its words: the sizes, what is shown of each event, the watched word, and the name of the program's file
pub record Asked : Type 0 where
  pub config : Config
  pub report : DriveReport
  pub watch : Option ℕ
  pub program : List ℕ

abbrev pub asked_in : Option Request → Option Asked
asked_in (Some (DriveRequest config report watch program)) =
    Some (record { config = config; report = report; watch = watch; program = program })
asked_in _ = None

-- the program is fetched, and what was found of it says what is done
abbrev pub ComesOfDrive : {S : Type 0} → (S → List ℕ → ℕ → Found → S → Type 0) → List Meter → Asked → Status → S → S → SourceData → SourceData → Ends → Ends → Type 0
ComesOfDrive {S} fetches probes asked status old new from to before behind = (found : Found)
    × (fetches old asked.program program_limit found new
    × Follows asked.config asked.report asked.watch probes (program_in found) status from to before behind)

-- words that ask for no drive are refused: nothing is fetched, read or written
abbrev pub IsUsage : {S : Type 0} → Status → S → S → SourceData → SourceData → Ends → Ends → Type 0
IsUsage status old new from to before behind = (status ≡ Usage) × ((new ≡ old) × ((to ≡ from) × (behind ≡ before)))

-- what a call comes to, over any store and any source
abbrev pub Comes : {S : Type 0} → (S → List ℕ → ℕ → Found → S → Type 0) → List Meter → Option Asked → Status → S → S → SourceData → SourceData → Ends → Ends → Type 0
Comes fetches probes (Some asked) status old new from to before behind = ComesOfDrive fetches probes asked status old new from to before behind
Comes fetches probes None status old new from to before behind = IsUsage status old new from to before behind

-- the same over files that are told
abbrev pub FollowsOver : (List ℕ → Option (List ℕ)) → List Meter → Option Asked → Status → SourceData → SourceData → Ends → Ends → Type 0
FollowsOver held probes (Some asked) status from to before behind =
    Follows asked.config asked.report asked.watch probes (program_in (found_in (held asked.program) program_limit)) status from to before behind
FollowsOver held probes None status from to before behind = (status ≡ Usage) × ((to ≡ from) × (behind ≡ before))

-- memory was wanted for the look, the way back or the event with its states that the last line asks for: those before it are answered, and
-- nothing more is put; or it was wanted for the last line of states, and all lines are answered
abbrev pub IsCutShort : Drive → List Meter → SourceData → SourceData → Ends → Ends → Type 0
IsCutShort d probes from to before behind =
    ((lines : List LineRead) × (last : LineRead) × (told : List Meter)
    × LacksMemory d lines last probes before behind told × AreRead (lines ++ last ∷ []) from to)
    ⊎ ((how : DriveEnd) × (lines : List LineRead) × (told : List Meter)
    × LacksMemoryAtEnd d how lines probes before behind told × IsAtEnd d lines how from to)

-- a call whose drive is cut short so
abbrev pub EndsInTheMiddle : {S : Type 0} → (S → List ℕ → ℕ → Found → S → Type 0) → List Meter → Option Asked → S → S → SourceData → SourceData → Ends → Ends → Type 0
EndsInTheMiddle fetches probes (Some asked) old new from to before behind = (found : Found) × (image : ImageData)
    × fetches old asked.program program_limit found new × (program_in found ≡ Ok image)
    × IsCutShort (drive_of asked.config asked.report asked.watch image) probes from to before behind
EndsInTheMiddle fetches probes None old new from to before behind = ⊥

-- the source gave as many lines as 64 bits can count
abbrev pub HasGivenAll : SourceData → SourceData → Type 0
HasGivenAll from to = (lines : List LineRead) × (AreRead lines from to × (2 ^ 64 - 1 ≤ length lines))
