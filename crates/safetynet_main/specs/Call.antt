-- What a call comes to: by the words, by what was found of the files, and by the sinks.
use Rattle.std.specs.Prelude.{◌≡◌, ℕ, ◌≤◌, ◌⊎◌, ⊤, Bool, true, false, nat_le, if◌then◌else◌, List, [], ◌∷◌}
use Rattle.std.specs.Prelude.{Option, Some, None, Result, Ok, Err, All, length}
use Rattle.sn_base.specs.Image.{ImageData}
use Rattle.sn_base.specs.declared.config.Config.{Config}
use Rattle.sn_base.specs.declared.event.Event.{Event}
use Rattle.rv_core.specs.declared.step.Record.{Record}
use Rattle.sn_io.specs.Outside.{Found, Rose, followed_by}
use Rattle.option_values.specs.declared.places.Places.{Places}
use Rattle.option_values.specs.declared.run.RunRules.{RunRules}
use Rattle.option_values.specs.declared.seeds.Seeds.{Seeds}
use Rattle.command_words.specs.declared.request.ReplayReport.{ReplayReport}
use Rattle.command_words.specs.declared.request.ReplayReport.TheVariants as replayed
use Rattle.command_words.specs.declared.request.RunOrder.{RunOrder}
use Rattle.command_words.specs.declared.request.RunOrder.TheVariants as order
use Rattle.command_words.specs.declared.request.RunScope.{RunScope}
use Rattle.command_words.specs.declared.request.RunScope.TheVariants as scope
use Rattle.command_words.specs.Request.{Request, Replay, Drive, Roll as RollRequest, Save as SaveRequest, Resume as ResumeRequest}
use Rattle.command_words.specs.Request.{Run as RunRequest, Monitor as MonitorRequest, Check, Demo}
use Rattle.command_words.specs.Request.{Judge as JudgeRequest, Assemble, Disassemble}
use Rattle.sn_probe.specs.Probes.{Meter}
use Rattle.sink_pieces.specs.Pieces.{Piece, Report, Ends, after, Breaks, console_piece}
use Rattle.script_replay.specs.declared.job.Replay.{Replay as Replaying}
use Rattle.script_replay.specs.declared.job.ReportKind.{ReportKind}
use Rattle.script_replay.specs.declared.job.ReportKind.TheVariants.{Events, Trace as TraceReport, Summary}
use Rattle.script_replay.specs.Played.{MayBegin}
use Rattle.script_replay.specs.Probed.{tallies_due}
use Rattle.script_replay.specs.Shown.{pieces_due, IsShown, IsShownInPart}
use Rattle.counted_replay.specs.Shown.{pieces_due as counted_pieces, IsShown as IsCountedShown, IsShownInPart as IsCountedShownInPart}
use Rattle.accesses_replay.specs.Shown.{pieces_due as accesses_pieces, IsShown as AreAccessesShown, IsShownInPart as AreAccessesShownInPart}
use Rattle.shown_states.specs.Shown.{MayBegin as MayShowStates, pieces_due as states_pieces, IsShown as AreStatesShown}
use Rattle.shown_states.specs.Shown.{IsShownInPart as AreStatesShownInPart, IsCutShort as AreStatesCutShort}
use Rattle.rolling_recovery.specs.declared.controls.Control.{Control}
use Rattle.call_files.specs.Rolled.{MayRoll, IsRolled, IsBrokenOff as IsRollBrokenOff, pieces_due as rolled_pieces}
use Rattle.sn_machine.specs.Machine.{MachineData}
use Rattle.saved_replay.specs.Shown.{MaySave, pieces_due as saved_pieces, IsDone as IsSaved, IsBrokenOff as IsSaveBroken}
use Rattle.resumed_replay.specs.Shown.{MayGoOn, pieces_due as resumed_pieces, IsDone as IsGoneOn, IsBrokenOff as IsGoingOnBroken}
use Rattle.run_journals.specs.declared.entry.JournalEntry.{JournalEntry}
use Rattle.monitor_run.specs.Run.{Run}
use Rattle.sn_base.specs.declared.report.RunReport.{RunReport}
use Rattle.monitor_run.specs.Endings.{ending_of}
use Rattle.monitor_run.specs.Pieces.{begins, run_pieces}
use Rattle.monitor_run.specs.NodeRunShown.{MayBegin as MayRun, output_by, IsJournal, IsShown as IsRunShown, IsShownInPart as IsRunShownInPart, IsStopped}
use Rattle.turn_orders.specs.declared.order.Order.{Order}
use Rattle.turn_orders.specs.declared.order.Order.TheVariants as turns
use Rattle.seed_runs.specs.Ordered.{journal_after, ordered_journal}
use Rattle.seed_runs.specs.declared.job.SeedRuns.{SeedRuns}
use Rattle.seed_runs.specs.Pieces.{counted_pieces as counted_run_pieces, pieces_due as seeds_pieces}
use Rattle.seed_runs.specs.Shown.{MayBegin as MayRunSeeds, IsLawfulWith, IsLawfulRun, AreShown as AreSeedsShown, AreBrokenOff as AreSeedsBroken}
use Rattle.seed_runs.specs.Shown.{AreLeftOff as AreSeedsLeft}
use Rattle.monitor_run.specs.declared.job.Monitor.{Monitor}
use Rattle.monitor_run.specs.Shown.{MayBegin as MayMonitor, run_of as watched_as, monitor_pieces, IsWatched, IsShown as IsMonitorShown}
use Rattle.monitor_run.specs.Shown.{IsCutShort as IsMonitorCutShort}
use Rattle.access_check.specs.Accesses.{IsFittingAccess, IsFittingWord}
use Rattle.access_check.specs.Legal.{start_of}
use Rattle.access_check.specs.Verdicts.{IsVerdict as IsAccessVerdict}
use Rattle.access_texts.specs.Lists.{Said}
use Rattle.access_texts.specs.Verdicts.{verdict_text}
use Rattle.asm_texts.specs.Texts.{words_text}
use Rattle.counting_program.specs.Program.{counting_words}
use Rattle.generated_runs.specs.Generated.{generated_config, generated_events}
use Rattle.call_files.specs.Files.{program_limit, script_limit, accesses_limit, program_of, program_in, script_in, control_in}
use Rattle.call_files.specs.Files.{trace_in, accesses_in, assembly_in, listing_of}
use Rattle.call_files.specs.Saves.{save_limit, machine_in}
use Rattle.safetynet_main.specs.LoadPlan.{LoadPlan, Due, Fetch, due_by, Loads}
use Rattle.safetynet_main.specs.Outcome.{Outcome, Finished, Judged, JudgedAccesses, Ran, Watched, IsVerdict, verdict_line, status_of}
use Rattle.safetynet_main.specs.declared.job.Check.{Check as Judging}
use Rattle.safetynet_main.specs.declared.job.Job.{Job}
use Rattle.safetynet_main.specs.declared.job.Job.TheVariants.{Replay as ReplayJob, Counted as CountedJob, Accesses as AccessesJob, States as StatesJob, Roll as RollJob, Run as RunJob}
use Rattle.safetynet_main.specs.declared.job.Job.TheVariants.{Save as SaveJob, Resume as ResumeJob}
use Rattle.safetynet_main.specs.declared.job.Job.TheVariants.{CountedByThreads as CountedByThreadsJob, Monitor as MonitorJob}
use Rattle.safetynet_main.specs.declared.job.Job.TheVariants.{OrderedRun as OrderedJob, CountedRun as CountedRunJob, Seeds as SeedsJob, Check as CheckJob, Judge as JudgeJob, Text}
use Rattle.call_status.specs.declared.status.Status.{Status}
use Rattle.call_status.specs.declared.status.Status.TheVariants.{Usage, BadPlaces, SinkFault}

-- the replay of a program and of a script's events, with this report
abbrev pub replay_with : Config → ReportKind → Option ℕ → ImageData → List Event → Replaying
replay_with config report watch image events =
    record { program = image; config = config; showing = record { report = report; watch = watch }; script = events }

-- whether places are ones of so many events
abbrev pub are_there : Option Places → ℕ → Bool
are_there None events = true
are_there (Some only) events = nat_le only.to events

-- the replay that shows states, all or those of places that are there
abbrev pub states_job : Config → Option Places → Option ℕ → ImageData → List Event → Result Job Status
states_job config only watch image events =
    if are_there only (length events)
    then Ok (StatesJob (record { program = image; config = config; watch = watch; only = only; script = events }))
    else Err (BadPlaces (length events))

-- the job of a program and of a script's events, by what is shown of them
abbrev pub replay_job : Config → ReplayReport → Option ℕ → ImageData → List Event → Result Job Status
replay_job config replayed.Events watch image events = Ok (ReplayJob (replay_with config Events watch image events))
replay_job config replayed.Trace watch image events = Ok (ReplayJob (replay_with config TraceReport watch image events))
replay_job config replayed.Statistics watch image events = Ok (CountedJob (replay_with config Events watch image events))
replay_job config replayed.Accesses watch image events = Ok (AccessesJob (replay_with config TraceReport watch image events))
replay_job config (replayed.States only) watch image events = states_job config only watch image events

-- the same of what was read of the script
abbrev pub job_with : Config → ReplayReport → Option ℕ → ImageData → Result (List Event) Status → Result Job Status
job_with config report watch image (Ok events) = replay_job config report watch image events
job_with config report watch image (Err status) = Err status

-- the job of a program, of a script's events and of what was read of the control file
abbrev pub roll_with : Config → Option ℕ → ImageData → List Event → Result (List Control) Status → Result Job Status
roll_with config watch image events (Ok controls) =
    Ok (RollJob (record { program = image; config = config; watch = watch; script = events; controls = controls }))
roll_with config watch image events (Err status) = Err status

-- the job of a program and of what was read of the script, where the recovery point is saved
abbrev pub save_with : Config → ImageData → Result (List Event) Status → Result Job Status
save_with config image (Ok events) = Ok (SaveJob (record { program = image; config = config; script = events }))
save_with config image (Err status) = Err status

-- the job of a machine that goes on, and of what was read of the script
abbrev pub resume_with : Option ℕ → MachineData → Result (List Event) Status → Result Job Status
resume_with watch m (Ok events) = Ok (ResumeJob (record { machine = m; watch = watch; script = events }))
resume_with watch m (Err status) = Err status

-- the job of a program and of what was read of the trace
abbrev pub check_with : ℕ → ImageData → Result (List Record) Status → Result Job Status
check_with nodes image (Ok records) = Ok (CheckJob (record { program = image; nodes = nodes; trace = records }))
check_with nodes image (Err status) = Err status

-- the job of accesses
abbrev pub judge_with : Result Said Status → Result Job Status
judge_with (Ok said) = Ok (JudgeJob said)
judge_with (Err status) = Err status

-- the job of a text for the console
abbrev pub text_job : Result (List ℕ) Status → Result Job Status
text_job (Ok text) = Ok (Text text)
text_job (Err status) = Err status

-- the job of a run, by what was read of the program
abbrev pub run_of : Config → RunRules → RunReport → Option ℕ → ImageData → Run
run_of config rules report watch image = record {
  program = image;
  config = config;
  rules = rules.rules;
  seed = rules.seed;
  budget = rules.budget;
  showing = record { report = report; watch = watch };
}

-- runs in an order, one for each seed of a range
abbrev pub seeds_of : Run → Order → Seeds → Bool → SeedRuns
seeds_of r order seeds counted = record {
  program = r.program;
  config = r.config;
  rules = r.rules;
  budget = r.budget;
  order = order;
  first = seeds.first;
  last = seeds.last;
  watch = r.showing.watch;
  statistics = counted;
}

-- a run in an order, by how many there are, and whether they are counted
abbrev pub ordered_job : RunScope → Order → Run → Job
ordered_job scope.One order r = OrderedJob r order
ordered_job scope.Counted order r = CountedRunJob r order
ordered_job (scope.Seeds seeds counted) order r = SeedsJob (seeds_of r order seeds counted)

-- a run by threads, by whether it is counted
abbrev pub threads_job : RunScope → Run → Job
threads_job scope.Counted r = CountedByThreadsJob r
threads_job _ r = RunJob r

-- a run by who has the next turn; the words have more than one in an order alone
abbrev pub run_job : RunOrder → RunScope → Run → Job
run_job order.Threads scope r = threads_job scope r
run_job order.Round scope r = ordered_job scope turns.Round r
run_job order.Drawn scope r = ordered_job scope turns.Drawn r

abbrev pub run_with : Config → RunRules → RunReport → RunOrder → RunScope → Option ℕ → Result ImageData Status → Result Job Status
run_with config rules report order scope watch (Ok image) = Ok (run_job order scope (run_of config rules report watch image))
run_with config rules report order scope watch (Err status) = Err status

-- the job of a run that is watched
abbrev pub monitor_of : Config → RunRules → Option ℕ → ImageData → Monitor
monitor_of config rules watch image = record {
  program = image;
  config = config;
  rules = rules.rules;
  seed = rules.seed;
  budget = rules.budget;
  watch = watch;
}

abbrev pub monitor_with : Config → RunRules → Option ℕ → Result ImageData Status → Result Job Status
monitor_with config rules watch (Ok image) = Ok (MonitorJob (monitor_of config rules watch image))
monitor_with config rules watch (Err status) = Err status

-- a program that is refused leaves the script alone, or the trace
abbrev pub script_plan : Config → ReplayReport → Option ℕ → List ℕ → Result ImageData Status → LoadPlan
script_plan config report watch script (Ok image) =
    Fetch script script_limit (λ found. Due (job_with config report watch image (script_in config.nodes found)))
script_plan config report watch script (Err status) = Due (Err status)

-- a script that is refused leaves the control file alone
abbrev pub control_plan : Config → Option ℕ → List ℕ → ImageData → Result (List Event) Status → LoadPlan
control_plan config watch control image (Ok events) =
    Fetch control script_limit (λ found. Due (roll_with config watch image events (control_in config.nodes found)))
control_plan config watch control image (Err status) = Due (Err status)

abbrev pub rolled_plan : Config → Option ℕ → List ℕ → List ℕ → Result ImageData Status → LoadPlan
rolled_plan config watch script control (Ok image) =
    Fetch script script_limit (λ found. control_plan config watch control image (script_in config.nodes found))
rolled_plan config watch script control (Err status) = Due (Err status)

abbrev pub later_plan : Config → List ℕ → Result ImageData Status → LoadPlan
later_plan config script (Ok image) =
    Fetch script script_limit (λ found. Due (save_with config image (script_in config.nodes found)))
later_plan config script (Err status) = Due (Err status)

-- a save file that is refused leaves the script alone, which is one for its nodes
abbrev pub going_on_plan : Option ℕ → List ℕ → Result MachineData Status → LoadPlan
going_on_plan watch script (Ok m) = Fetch script script_limit (λ found. Due (resume_with watch m (script_in m.config.nodes found)))
going_on_plan watch script (Err status) = Due (Err status)

abbrev pub resumed_plan : Option ℕ → List ℕ → List ℕ → Result ImageData Status → LoadPlan
resumed_plan watch save script (Ok image) = Fetch save save_limit (λ found. going_on_plan watch script (machine_in image found))
resumed_plan watch save script (Err status) = Due (Err status)

abbrev pub trace_plan : ℕ → List ℕ → Result ImageData Status → LoadPlan
trace_plan nodes trace (Ok image) = Fetch trace script_limit (λ found. Due (check_with nodes image (trace_in nodes found)))
trace_plan nodes trace (Err status) = Due (Err status)

-- what each command fetches, and what is due then
abbrev pub replay_plan : Config → ReplayReport → Option ℕ → List ℕ → List ℕ → LoadPlan
replay_plan config report watch program script =
    Fetch program program_limit (λ found. script_plan config report watch script (program_in found))

abbrev pub roll_plan : Config → Option ℕ → List ℕ → List ℕ → List ℕ → LoadPlan
roll_plan config watch program script control =
    Fetch program program_limit (λ found. rolled_plan config watch script control (program_in found))

abbrev pub save_plan : Config → List ℕ → List ℕ → LoadPlan
save_plan config program script = Fetch program program_limit (λ found. later_plan config script (program_in found))

abbrev pub resume_plan : Option ℕ → List ℕ → List ℕ → List ℕ → LoadPlan
resume_plan watch program save script = Fetch program program_limit (λ found. resumed_plan watch save script (program_in found))

abbrev pub run_plan : Config → RunRules → RunReport → RunOrder → RunScope → Option ℕ → List ℕ → LoadPlan
run_plan config rules report order scope watch program =
    Fetch program program_limit (λ found. Due (run_with config rules report order scope watch (program_in found)))

abbrev pub monitor_plan : Config → RunRules → Option ℕ → List ℕ → LoadPlan
monitor_plan config rules watch program = Fetch program program_limit (λ found. Due (monitor_with config rules watch (program_in found)))

abbrev pub check_plan : ℕ → List ℕ → List ℕ → LoadPlan
check_plan nodes program trace = Fetch program program_limit (λ found. trace_plan nodes trace (program_in found))

abbrev pub judge_plan : List ℕ → LoadPlan
judge_plan accesses = Fetch accesses accesses_limit (λ found. Due (judge_with (accesses_in found)))

abbrev pub assembly_plan : List ℕ → LoadPlan
assembly_plan text = Fetch text program_limit (λ found. Due (text_job (assembly_in found)))

abbrev pub listing_plan : List ℕ → LoadPlan
listing_plan program = Fetch program program_limit (λ found. Due (text_job (listing_of (program_in found))))

-- the job of a generated run, of which the summary alone is shown
abbrev pub generated_job : ℕ → Result ImageData Status → Result Job Status
generated_job size (Ok image) =
    Ok (ReplayJob (record {
      program = image;
      config = generated_config;
      showing = record { report = Summary; watch = None };
      script = generated_events size;
    }))
generated_job size (Err status) = Err status

-- it needs no file: its program is a text of this repository's own
abbrev pub demo_plan : ℕ → LoadPlan
demo_plan size = Due (generated_job size (program_of (words_text counting_words)))

-- words that aren't a command's are refused, and so are those of a drive, which has a call of its own
abbrev pub plan_of : Option Request → LoadPlan
plan_of (Some (Replay config report watch program script)) = replay_plan config report watch program script
plan_of (Some (Drive config report watch program)) = Due (Err Usage)
plan_of (Some (RollRequest config watch program script control)) = roll_plan config watch program script control
plan_of (Some (SaveRequest config program script)) = save_plan config program script
plan_of (Some (ResumeRequest watch program save script)) = resume_plan watch program save script
plan_of (Some (RunRequest config rules report order scope watch program)) = run_plan config rules report order scope watch program
plan_of (Some (MonitorRequest config rules watch program)) = monitor_plan config rules watch program
plan_of (Some (Check nodes program trace)) = check_plan nodes program trace
plan_of (Some (JudgeRequest accesses)) = judge_plan accesses
plan_of (Some (Demo size)) = demo_plan size
plan_of (Some (Assemble text)) = assembly_plan text
plan_of (Some (Disassemble program)) = listing_plan program
plan_of None = Due (Err Usage)

-- whether the words are those of a command that this call does
abbrev pub is_asked : Option Request → Bool
is_asked None = false
is_asked (Some (Drive config report watch program)) = false
is_asked (Some _) = true

-- the words are no command's, or a drive's
abbrev pub AsksNothing : Option Request → Type 0
AsksNothing ask = is_asked ask ≡ false

-- what is due over these files, by the words
abbrev pub due_of : (List ℕ → Option (List ℕ)) → Option Request → Result Job Status
due_of held ask = due_by held (plan_of ask)

-- a due journal, and the end that it says
abbrev pub RunsTo : Run → Outcome → Type 0
RunsTo r (Ran journal ending) = IsJournal r journal × (ending_of (begins r) journal ≡ Some ending)
RunsTo r _ = ⊥

-- the journal that the order makes of a run, and its end
abbrev pub RunsInOrderTo : Run → Order → Outcome → Type 0
RunsInOrderTo r order (Ran journal ending) =
    (journal ≡ ordered_journal order (begins r)) × IsJournal r journal × (ending_of (begins r) journal ≡ Some ending)
RunsInOrderTo r order _ = ⊥

-- the same of a run that was watched, in rounds of its workers, with what was seen of what it published
abbrev pub RunsWatchedTo : Monitor → Outcome → Type 0
RunsWatchedTo r (Watched journal seen ending) = IsWatched r journal seen × (ending_of (begins (watched_as r)) journal ≡ Some ending)
RunsWatchedTo r _ = ⊥

abbrev pub IsJudged : Judging → Outcome → Type 0
IsJudged c (Judged verdict) = IsVerdict c verdict
IsJudged c _ = ⊥

-- the same of accesses to a memory that begins with words
abbrev pub AreJudged : Said → Outcome → Type 0
AreJudged said (JudgedAccesses verdict) = IsAccessVerdict (start_of said.words) said.accesses verdict
AreJudged said _ = ⊥

-- what a job comes to: events and a text come to their end, workers to one of a due journal, and a trace and accesses to their verdict
abbrev pub IsOutcome : Job → Outcome → Type 0
IsOutcome (ReplayJob r) outcome = outcome ≡ Finished
IsOutcome (CountedJob r) outcome = outcome ≡ Finished
IsOutcome (AccessesJob r) outcome = outcome ≡ Finished
IsOutcome (StatesJob r) outcome = outcome ≡ Finished
IsOutcome (RollJob r) outcome = outcome ≡ Finished
IsOutcome (SaveJob r) outcome = outcome ≡ Finished
IsOutcome (ResumeJob r) outcome = outcome ≡ Finished
IsOutcome (RunJob r) outcome = RunsTo r outcome
IsOutcome (CountedByThreadsJob r) outcome = RunsTo r outcome
IsOutcome (OrderedJob r order) outcome = RunsInOrderTo r order outcome
IsOutcome (CountedRunJob r order) outcome = RunsInOrderTo r order outcome
IsOutcome (SeedsJob r) outcome = outcome ≡ Finished
IsOutcome (MonitorJob r) outcome = RunsWatchedTo r outcome
IsOutcome (CheckJob c) outcome = IsJudged c outcome
IsOutcome (JudgeJob said) outcome = AreJudged said outcome
IsOutcome (Text text) outcome = outcome ≡ Finished

-- the pieces of a run that had this journal, of one of which this was seen besides, and of a trace or of accesses of which this was found
abbrev pub journal_pieces : List Meter → Run → Outcome → List Piece
journal_pieces probes r (Ran journal ending) = run_pieces r probes journal
journal_pieces probes r _ = []

abbrev pub counted_journal_pieces : List Meter → Run → Outcome → List Piece
counted_journal_pieces probes r (Ran journal ending) = counted_run_pieces r probes journal
counted_journal_pieces probes r _ = []

abbrev pub watched_pieces : List Meter → Monitor → Outcome → List Piece
watched_pieces probes r (Watched journal seen ending) = monitor_pieces r probes journal seen
watched_pieces probes r _ = []

abbrev pub verdict_pieces : Judging → Outcome → List Piece
verdict_pieces c (Judged verdict) = Report (verdict_line c verdict) ∷ []
verdict_pieces c _ = []

abbrev pub access_pieces : Said → Outcome → List Piece
access_pieces said (JudgedAccesses verdict) = Report (verdict_text (length said.accesses) verdict) ∷ []
access_pieces said _ = []

-- all that a job puts that comes to this, where these probes are told its events
abbrev pub pieces_of_job : List Meter → Job → Outcome → List Piece
pieces_of_job probes (ReplayJob r) outcome = pieces_due r probes
pieces_of_job probes (CountedJob r) outcome = counted_pieces r probes
pieces_of_job probes (AccessesJob r) outcome = accesses_pieces r probes
pieces_of_job probes (StatesJob r) outcome = states_pieces r probes
pieces_of_job probes (RollJob r) outcome = rolled_pieces r probes
pieces_of_job probes (SaveJob r) outcome = saved_pieces r
pieces_of_job probes (ResumeJob r) outcome = resumed_pieces r probes
pieces_of_job probes (RunJob r) outcome = journal_pieces probes r outcome
pieces_of_job probes (CountedByThreadsJob r) outcome = counted_journal_pieces probes r outcome
pieces_of_job probes (OrderedJob r order) outcome = journal_pieces probes r outcome
pieces_of_job probes (CountedRunJob r order) outcome = counted_journal_pieces probes r outcome
pieces_of_job probes (SeedsJob r) outcome = seeds_pieces r
pieces_of_job probes (MonitorJob r) outcome = watched_pieces probes r outcome
pieces_of_job probes (CheckJob c) outcome = verdict_pieces c outcome
pieces_of_job probes (JudgeJob said) outcome = access_pieces said outcome
pieces_of_job probes (Text text) outcome = console_piece text

-- a status in which a job ends where no sink breaks
abbrev pub EndsIn : Job → Status → Type 0
EndsIn job status = (outcome : Outcome) × IsOutcome job outcome × (status ≡ status_of outcome)

-- what the sinks show of a run, and of one whose report broke
abbrev pub ShowsRun : List Meter → Run → Outcome → Ends → Ends → Type 0
ShowsRun probes r (Ran journal ending) old new = IsRunShown r probes journal old new
ShowsRun probes r _ old new = ⊥

abbrev pub ShowsRunInPart : List Meter → Run → Outcome → Ends → Ends → Type 0
ShowsRunInPart probes r (Ran journal ending) old new = IsRunShownInPart r probes journal old new
ShowsRunInPart probes r _ old new = ⊥

-- the same of one that is counted
abbrev pub ShowsCounted : List Meter → Run → Outcome → Ends → Ends → Type 0
ShowsCounted probes r (Ran journal ending) old new =
    IsLawfulWith r journal probes ending × (new.console ≡ followed_by old.console (output_by r journal))
ShowsCounted probes r _ old new = ⊥

abbrev pub ShowsCountedInPart : List Meter → Run → Outcome → Type 0
ShowsCountedInPart probes r (Ran journal ending) = IsLawfulWith r journal probes ending
ShowsCountedInPart probes r _ = ⊥

-- the same of one that was watched
abbrev pub ShowsWatched : List Meter → Monitor → Outcome → Ends → Ends → Type 0
ShowsWatched probes r (Watched journal seen ending) old new = IsMonitorShown r probes ending journal seen old new
ShowsWatched probes r _ old new = ⊥

abbrev pub ShowsWatchedInPart : List Meter → Monitor → Outcome → Ends → Ends → Type 0
ShowsWatchedInPart probes r (Watched journal seen ending) old new = IsMonitorCutShort r probes ending journal seen old new
ShowsWatchedInPart probes r _ old new = ⊥

-- what the sinks show of a job that was done, and of one that a sink broke
abbrev pub Shows : List Meter → Job → Outcome → Ends → Ends → Type 0
Shows probes (ReplayJob r) outcome old new = IsShown r.program r.config r.showing (tallies_due r probes) r.script old new
Shows probes (CountedJob r) outcome old new = IsCountedShown r probes old new
Shows probes (AccessesJob r) outcome old new = AreAccessesShown r probes old new
Shows probes (StatesJob r) outcome old new = AreStatesShown r probes old new
Shows probes (RollJob r) outcome old new = IsRolled r probes old new
Shows probes (SaveJob r) outcome old new = IsSaved r old new
Shows probes (ResumeJob r) outcome old new = IsGoneOn r probes old new
Shows probes (RunJob r) outcome old new = ShowsRun probes r outcome old new
Shows probes (CountedByThreadsJob r) outcome old new = ShowsCounted probes r outcome old new
Shows probes (OrderedJob r order) outcome old new = ShowsRun probes r outcome old new
Shows probes (CountedRunJob r order) outcome old new =
    IsLawfulRun order r probes × (new.console ≡ followed_by old.console (output_by r (ordered_journal order (begins r))))
Shows probes (SeedsJob r) outcome old new = AreSeedsShown r old new
Shows probes (MonitorJob r) outcome old new = ShowsWatched probes r outcome old new
Shows probes (CheckJob c) outcome old new = ⊤
Shows probes (JudgeJob said) outcome old new = ⊤
Shows probes (Text text) outcome old new = ⊤

abbrev pub ShowsInPart : List Meter → Job → Outcome → Ends → Ends → Type 0
ShowsInPart probes (ReplayJob r) outcome old new = IsShownInPart r.program r.config r.showing (tallies_due r probes) r.script old new
ShowsInPart probes (CountedJob r) outcome old new = IsCountedShownInPart r probes old new
ShowsInPart probes (AccessesJob r) outcome old new = AreAccessesShownInPart r probes old new
ShowsInPart probes (StatesJob r) outcome old new = AreStatesShownInPart r probes old new
ShowsInPart probes (RollJob r) outcome old new = IsRollBrokenOff r probes old new
ShowsInPart probes (SaveJob r) outcome old new = IsSaveBroken r old new
ShowsInPart probes (ResumeJob r) outcome old new = IsGoingOnBroken r probes old new
ShowsInPart probes (RunJob r) outcome old new = ShowsRunInPart probes r outcome old new
ShowsInPart probes (CountedByThreadsJob r) outcome old new = ShowsCountedInPart probes r outcome
ShowsInPart probes (OrderedJob r order) outcome old new = ShowsRunInPart probes r outcome old new
ShowsInPart probes (CountedRunJob r order) outcome old new = IsLawfulRun order r probes
ShowsInPart probes (SeedsJob r) outcome old new = AreSeedsBroken r old new
ShowsInPart probes (MonitorJob r) outcome old new = ShowsWatchedInPart probes r outcome old new
ShowsInPart probes (CheckJob c) outcome old new = ⊤
ShowsInPart probes (JudgeJob said) outcome old new = ⊤
ShowsInPart probes (Text text) outcome old new = ⊤

-- a job that came to no outcome: a run of which the console failed, whose count of faults rose from one number to another; of a due
-- journal's output the console has the beginning; of a run in an order that of its journal after so many turns
abbrev pub BrokeOff : Job → ℕ → ℕ → Ends → Ends → Type 0
BrokeOff (RunJob r) was is old new = Rose was is × ((journal : List JournalEntry) × IsStopped r journal old new)
BrokeOff (OrderedJob r order) was is old new = Rose was is × ((turn : ℕ) × IsStopped r (journal_after order (begins r) turn) old new)
BrokeOff _ was is old new = ⊥

-- memory was wanted in the middle: the pieces of some first events are put, and no others, of a replay that shows states; or those of the first
-- seeds
abbrev pub IsCutShort : List Meter → Job → Ends → Ends → Type 0
IsCutShort probes (StatesJob r) old new = (told : List Meter) × AreStatesCutShort r probes old new told
IsCutShort probes (SeedsJob r) old new = AreSeedsLeft r old new
IsCutShort probes _ old new = ⊥

-- the job came to this, and all pieces are put, or a sink broke
abbrev pub ComesTo : List Meter → Job → Status → Ends → Ends → Outcome → Type 0
ComesTo probes job status old new outcome = IsOutcome job outcome × (
    ((status ≡ status_of outcome) × (new ≡ after old (pieces_of_job probes job outcome)) × Shows probes job outcome old new)
    ⊎ ((status ≡ SinkFault) × Breaks (pieces_of_job probes job outcome) old new × ShowsInPart probes job outcome old new))

-- what is due is done: a refusal is the status and nothing is written; else the job came to its outcome, or the console broke before,
-- whose faults were so many and are so many
abbrev pub Follows : List Meter → Result Job Status → Status → ℕ → ℕ → Ends → Ends → Type 0
Follows probes (Err refusal) status was is old new = (status ≡ refusal) × (new ≡ old)
Follows probes (Ok job) status was is old new =
    ((outcome : Outcome) × ComesTo probes job status old new outcome) ⊎ ((status ≡ SinkFault) × BrokeOff job was is old new)

-- what a call comes to that is given these probes, over any store and a console whose faults were so many and are so many
abbrev pub Comes : {S : Type 0} → (S → List ℕ → ℕ → Found → S → Type 0) → List Meter → Option Request → Status → S → S → ℕ → ℕ → Ends →
    Ends → Type 0
Comes fetches probes ask status old new was is before behind =
    (job : Result Job Status) × Loads fetches (plan_of ask) job old new × Follows probes job status was is before behind

-- the same of a call whose job is cut short
abbrev pub EndsInTheMiddle : {S : Type 0} → (S → List ℕ → ℕ → Found → S → Type 0) → List Meter → Option Request → S → S → Ends → Ends → Type 0
EndsInTheMiddle fetches probes ask old new before behind =
    (job : Job) × Loads fetches (plan_of ask) (Ok job) old new × IsCutShort probes job before behind

-- a job that may begin
abbrev pub IsRead : Job → Type 0
IsRead (ReplayJob r) = MayBegin r
IsRead (CountedJob r) = MayBegin r
IsRead (AccessesJob r) = MayBegin r
IsRead (StatesJob r) = MayShowStates r
IsRead (RollJob r) = MayRoll r
IsRead (SaveJob r) = MaySave r
IsRead (ResumeJob r) = MayGoOn r
IsRead (RunJob r) = MayRun r
IsRead (CountedByThreadsJob r) = MayRun r
IsRead (OrderedJob r order) = MayRun r
IsRead (CountedRunJob r order) = MayRun r
IsRead (SeedsJob r) = MayRunSeeds r
IsRead (MonitorJob r) = MayMonitor r
IsRead (CheckJob c) = (1 ≤ c.nodes) × (c.nodes ≤ 16)
IsRead (JudgeJob said) = All IsFittingWord said.words × All IsFittingAccess said.accesses
IsRead (Text text) = ⊤
