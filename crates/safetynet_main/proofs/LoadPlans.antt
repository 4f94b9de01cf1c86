-- What follows of a plan from how its files were found.
use Rattle.std.proofs.Common.{◌≡◌, ℕ, ◌≤◌, List, length, refl, ap, sym, subst, ◌∙◌, inl, inr, arith}
use Rattle.std.specs.Prelude.{Option, Some, None, IfSome, Result, Ok, Err, Bool, true, false, nat_lt, if◌then◌else◌, ◌⊎◌}
use Rattle.sn_base.specs.Image.{ImageData}
use Rattle.sn_base.specs.declared.config.Config.{Config}
use Rattle.sn_base.specs.declared.event.Event.{Event}
use Rattle.rv_core.specs.declared.step.Record.{Record}
use Rattle.sn_io.specs.Outside.{Found, File, TooLong, Missing, Rose, found_in}
use Rattle.access_texts.specs.Lists.{Said, said_by}
use Rattle.rv_asm.specs.Assembly.{asm_of}
use Rattle.rv_asm.specs.declared.fault.AsmCause.{AsmCause}
use Rattle.rv_asm.specs.declared.fault.AsmCause.TheVariants.{TooLong as AsmTooLong}
use Rattle.sn_text.specs.Script.{script_of}
use Rattle.sn_text.specs.Trace.{trace_of}
use Rattle.sn_text.specs.declared.cause.ScriptCause.{ScriptCause}
use Rattle.sn_text.specs.declared.cause.ScriptCause.TheVariants.{TooLong as ScriptTooLong}
use Rattle.rolling_recovery.specs.Controls.{controls_of}
use Rattle.rolling_recovery.specs.declared.controls.Control.{Control}
use Rattle.command_words.specs.Request.{Request, Replay, Drive, Roll, Save, Resume, Run, Monitor, Check, Judge, Demo, Assemble, Disassemble}
use Rattle.sn_base.specs.declared.report.RunReport.{RunReport}
use Rattle.option_values.specs.declared.run.RunRules.{RunRules}
use Rattle.command_words.specs.declared.request.RunOrder.{RunOrder}
use Rattle.command_words.specs.declared.request.RunScope.{RunScope}
use Rattle.command_words.specs.declared.request.ReplayReport.{ReplayReport}
use Rattle.command_words.specs.declared.request.ReplayReport.TheVariants as replayed
use Rattle.asm_texts.specs.Texts.{words_text}
use Rattle.counting_program.specs.Program.{counting_words}
use Rattle.call_files.specs.Files.{program_limit, script_limit, accesses_limit, program_of, if_read, events_of, steps_of, records_of}
use Rattle.call_files.specs.Files.{if_said, accesses_of, if_assembled, assembly_of, listing_of}
use Rattle.call_files.specs.Saves.{save_limit, if_accepted, machine_of}
use Rattle.save_text.specs.Judged.{judged_of}
use Rattle.save_text.specs.declared.cause.SaveCause.{SaveCause}
use Rattle.save_text.specs.declared.cause.SaveCause.TheVariants.{TooLong as SaveTooLong}
use Rattle.save_text.specs.Reading.{said_by as saved_by}
use Rattle.sn_machine.specs.Machine.{MachineData}
use Rattle.sn_saved.specs.Saved.{Saved}
use Rattle.safetynet_main.specs.LoadPlan.{LoadPlan, Due, Fetch, due_by, Loads}
use Rattle.call_files.specs.Fetches.{Fetches}
use Rattle.call_files.proofs.Found.{IsOfBytes, program-of_bytes}
use Rattle.safetynet_main.specs.Call.{are_there, replay_job, job_with, roll_with, run_with, monitor_with, check_with, judge_with, text_job}
use Rattle.safetynet_main.specs.Call.{save_with, resume_with}
use Rattle.safetynet_main.specs.Call.{script_plan, control_plan, rolled_plan, later_plan, going_on_plan, resumed_plan, trace_plan}
use Rattle.safetynet_main.specs.Call.{generated_job, plan_of, AsksNothing}
use Rattle.safetynet_main.specs.declared.job.Job.{Job}
use Rattle.safetynet_main.specs.declared.job.Job.TheVariants.{States as StatesJob}
use Rattle.call_status.specs.declared.status.ProgramCause.TheVariants.{TooLong as ProgramTooLong}
use Rattle.call_status.specs.declared.status.Status.{Status}
use Rattle.call_status.specs.declared.status.Status.TheVariants.{Usage, BadPlaces, StoreFault, BadProgram, BadScript, BadSave, BadAsm}

-- a plan in which a file that isn't there is the store's fault, and nothing else is
abbrev pub IsPlain : LoadPlan → Type 0
IsPlain (Due job) = IsOfBytes job
IsPlain (Fetch name limit next) =
    (next Missing ≡ Due (Err StoreFault)) × IsPlain (next TooLong) × ((bytes : List ℕ) → IsPlain (next (File bytes)))

-- the same, or at once the words' fault
abbrev pub IsOfWords : LoadPlan → Type 0
IsOfWords (Due job) = (job ≡ Err Usage) ⊎ IsOfBytes job
IsOfWords (Fetch name limit next) = IsPlain (Fetch name limit next)

-- the plans of the commands

refused : {A : Type 0} (status : Status) → (status ≡ StoreFault → ⊥) → (status ≡ Usage → ⊥) →
    IsOfBytes (let r : Result A Status = Err status in r)
refused status s u = (λ e. s cc, λ e. u cc)

given : {A : Type 0} (value : A) → IsOfBytes (let r : Result A Status = Ok value in r)
given value = (λ e. cc, λ e. cc)

read : {A : Type 0} (r : Result (List A) ScriptCause) (long : Bool) → IsOfBytes (if long then Err (BadScript ScriptTooLong) else if_read r)
read r true = (λ e. cc, λ e. cc)
read (Ok items) false = (λ e. cc, λ e. cc)
read (Err cause) false = (λ e. cc, λ e. cc)

said : (r : Result Said ScriptCause) (long : Bool) → IsOfBytes (if long then Err (BadScript ScriptTooLong) else if_said r)
said r true = (λ e. cc, λ e. cc)
said (Ok items) false = (λ e. cc, λ e. cc)
said (Err cause) false = (λ e. cc, λ e. cc)

resumes : (image : ImageData) (r : Result Saved SaveCause) (long : Bool) →
    IsOfBytes (if long then Err (BadSave SaveTooLong) else if_accepted image r)
resumes image r true = (λ e. cc, λ e. cc)
resumes image (Ok saved) false = (λ e. cc, λ e. cc)
resumes image (Err cause) false = (λ e. cc, λ e. cc)

assembled : (r : Result (List ℕ) AsmCause) (long : Bool) → IsOfBytes (if long then Err (BadAsm AsmTooLong) else if_assembled r)
assembled r true = (λ e. cc, λ e. cc)
assembled (Ok words) false = (λ e. cc, λ e. cc)
assembled (Err cause) false = (λ e. cc, λ e. cc)

plain-states : (there : Bool) (job : Job) (events : ℕ) →
    IsOfBytes (let r : Result Job Status = if there then Ok job else Err (BadPlaces events) in r)
plain-states true job events = (λ e. cc, λ e. cc)
plain-states false job events = (λ e. cc, λ e. cc)

plain-replay : (config : Config) (report : ReplayReport) (watch : Option ℕ) (image : ImageData) (events : List Event) →
    IsOfBytes (replay_job config report watch image events)
plain-replay config replayed.Events watch image events = (λ e. cc, λ e. cc)
plain-replay config replayed.Trace watch image events = (λ e. cc, λ e. cc)
plain-replay config replayed.Statistics watch image events = (λ e. cc, λ e. cc)
plain-replay config replayed.Accesses watch image events = (λ e. cc, λ e. cc)
plain-replay config (replayed.States only) watch image events = plain-states (are_there only (length events))
    (StatesJob (record { program = image; config = config; watch = watch; only = only; script = events })) (length events)

plain-job : (config : Config) (report : ReplayReport) (watch : Option ℕ) (image : ImageData) (events : Result (List Event) Status) → IsOfBytes events →
    IsOfBytes (job_with config report watch image events)
plain-job config report watch image (Ok events) h = plain-replay config report watch image events
plain-job config report watch image (Err status) h = (λ e. h.0 cc, λ e. h.1 cc)

plain-roll : (config : Config) (watch : Option ℕ) (image : ImageData) (events : List Event) (controls : Result (List Control) Status) →
    IsOfBytes controls → IsOfBytes (roll_with config watch image events controls)
plain-roll config watch image events (Ok controls) h = (λ e. cc, λ e. cc)
plain-roll config watch image events (Err status) h = (λ e. h.0 cc, λ e. h.1 cc)

plain-check : (nodes : ℕ) (image : ImageData) (records : Result (List Record) Status) → IsOfBytes records →
    IsOfBytes (check_with nodes image records)
plain-check nodes image (Ok records) h = (λ e. cc, λ e. cc)
plain-check nodes image (Err status) h = (λ e. h.0 cc, λ e. h.1 cc)

plain-run : (config : Config) (rules : RunRules) (report : RunReport) (order : RunOrder) (scope : RunScope) (watch : Option ℕ)
    (program : Result ImageData Status) → IsOfBytes program → IsOfBytes (run_with config rules report order scope watch program)
plain-run config rules report order scope watch (Ok image) h = (λ e. cc, λ e. cc)
plain-run config rules report order scope watch (Err status) h = (λ e. h.0 cc, λ e. h.1 cc)

plain-monitor : (config : Config) (rules : RunRules) (watch : Option ℕ) (program : Result ImageData Status) → IsOfBytes program →
    IsOfBytes (monitor_with config rules watch program)
plain-monitor config rules watch (Ok image) h = (λ e. cc, λ e. cc)
plain-monitor config rules watch (Err status) h = (λ e. h.0 cc, λ e. h.1 cc)

plain-judge : (accesses : Result Said Status) → IsOfBytes accesses → IsOfBytes (judge_with accesses)
plain-judge (Ok list) h = (λ e. cc, λ e. cc)
plain-judge (Err status) h = (λ e. h.0 cc, λ e. h.1 cc)

plain-text : (text : Result (List ℕ) Status) → IsOfBytes text → IsOfBytes (text_job text)
plain-text (Ok text) h = (λ e. cc, λ e. cc)
plain-text (Err status) h = (λ e. h.0 cc, λ e. h.1 cc)

plain-listing : (program : Result ImageData Status) → IsOfBytes program → IsOfBytes (listing_of program)
plain-listing (Ok image) h = (λ e. cc, λ e. cc)
plain-listing (Err status) h = (λ e. h.0 cc, λ e. h.1 cc)

plain-script : (config : Config) (report : ReplayReport) (watch : Option ℕ) (script : List ℕ) (program : Result ImageData Status) → IsOfBytes program →
    IsPlain (script_plan config report watch script program)
plain-script config report watch script (Err status) h = (λ e. h.0 cc, λ e. h.1 cc)
plain-script config report watch script (Ok image) h = (
  refl,
  plain-job config report watch image (Err (BadScript ScriptTooLong)) (λ e. cc, λ e. cc),
  λ bytes. plain-job config report watch image (events_of config.nodes bytes)
      (read (script_of config.nodes bytes) (nat_lt script_limit (length bytes))),
)

plain-control : (config : Config) (watch : Option ℕ) (control : List ℕ) (image : ImageData) (events : Result (List Event) Status) →
    IsOfBytes events → IsPlain (control_plan config watch control image events)
plain-control config watch control image (Err status) h = (λ e. h.0 cc, λ e. h.1 cc)
plain-control config watch control image (Ok events) h = (
  refl,
  plain-roll config watch image events (Err (BadScript ScriptTooLong)) (λ e. cc, λ e. cc),
  λ bytes. plain-roll config watch image events (steps_of config.nodes bytes)
      (read (controls_of config.nodes bytes) (nat_lt script_limit (length bytes))),
)

plain-rolled : (config : Config) (watch : Option ℕ) (script control : List ℕ) (program : Result ImageData Status) → IsOfBytes program →
    IsPlain (rolled_plan config watch script control program)
plain-rolled config watch script control (Err status) h = (λ e. h.0 cc, λ e. h.1 cc)
plain-rolled config watch script control (Ok image) h = (
  refl,
  plain-control config watch control image (Err (BadScript ScriptTooLong)) (λ e. cc, λ e. cc),
  λ bytes. plain-control config watch control image (events_of config.nodes bytes)
      (read (script_of config.nodes bytes) (nat_lt script_limit (length bytes))),
)

plain-save : (config : Config) (image : ImageData) (events : Result (List Event) Status) → IsOfBytes events →
    IsOfBytes (save_with config image events)
plain-save config image (Ok events) h = (λ e. cc, λ e. cc)
plain-save config image (Err status) h = (λ e. h.0 cc, λ e. h.1 cc)

plain-resume : (watch : Option ℕ) (m : MachineData) (events : Result (List Event) Status) → IsOfBytes events →
    IsOfBytes (resume_with watch m events)
plain-resume watch m (Ok events) h = (λ e. cc, λ e. cc)
plain-resume watch m (Err status) h = (λ e. h.0 cc, λ e. h.1 cc)

plain-later : (config : Config) (script : List ℕ) (program : Result ImageData Status) → IsOfBytes program →
    IsPlain (later_plan config script program)
plain-later config script (Err status) h = (λ e. h.0 cc, λ e. h.1 cc)
plain-later config script (Ok image) h = (
  refl,
  plain-save config image (Err (BadScript ScriptTooLong)) (λ e. cc, λ e. cc),
  λ bytes. plain-save config image (events_of config.nodes bytes)
      (read (script_of config.nodes bytes) (nat_lt script_limit (length bytes))),
)

plain-going_on : (watch : Option ℕ) (script : List ℕ) (made : Result MachineData Status) → IsOfBytes made →
    IsPlain (going_on_plan watch script made)
plain-going_on watch script (Err status) h = (λ e. h.0 cc, λ e. h.1 cc)
plain-going_on watch script (Ok m) h = (
  refl,
  plain-resume watch m (Err (BadScript ScriptTooLong)) (λ e. cc, λ e. cc),
  λ bytes. plain-resume watch m (events_of m.config.nodes bytes)
      (read (script_of m.config.nodes bytes) (nat_lt script_limit (length bytes))),
)

plain-resumed : (watch : Option ℕ) (save script : List ℕ) (program : Result ImageData Status) → IsOfBytes program →
    IsPlain (resumed_plan watch save script program)
plain-resumed watch save script (Err status) h = (λ e. h.0 cc, λ e. h.1 cc)
plain-resumed watch save script (Ok image) h = (
  refl,
  plain-going_on watch script (Err (BadSave SaveTooLong)) (λ e. cc, λ e. cc),
  λ bytes. plain-going_on watch script (machine_of image bytes)
      (resumes image (judged_of image (saved_by bytes)) (nat_lt save_limit (length bytes))),
)

plain-trace : (nodes : ℕ) (trace : List ℕ) (program : Result ImageData Status) → IsOfBytes program →
    IsPlain (trace_plan nodes trace program)
plain-trace nodes trace (Err status) h = (λ e. h.0 cc, λ e. h.1 cc)
plain-trace nodes trace (Ok image) h = (
  refl,
  plain-check nodes image (Err (BadScript ScriptTooLong)) (λ e. cc, λ e. cc),
  λ bytes. plain-check nodes image (records_of nodes bytes) (read (trace_of nodes bytes) (nat_lt script_limit (length bytes))),
)

plain-generated : (size : ℕ) (program : Result ImageData Status) → IsOfBytes program → IsOfBytes (generated_job size program)
plain-generated size (Ok image) h = (λ e. cc, λ e. cc)
plain-generated size (Err status) h = (λ e. h.0 cc, λ e. h.1 cc)

pub plan-of_words : (ask : Option Request) → IsOfWords (plan_of ask)
plan-of_words None = inl refl
plan-of_words (Some (Drive config report watch program)) = inl refl
plan-of_words (Some (Check nodes program trace)) = (
  refl,
  plain-trace nodes trace (Err (BadProgram ProgramTooLong)) (λ e. cc, λ e. cc),
  λ bytes. plain-trace nodes trace (program_of bytes) (program-of_bytes bytes),
)
plan-of_words (Some (Demo size)) =
    inr (plain-generated size (program_of (words_text counting_words)) (program-of_bytes (words_text counting_words)))
plan-of_words (Some (Replay config report watch program script)) = (
  refl,
  plain-script config report watch script (Err (BadProgram ProgramTooLong)) (λ e. cc, λ e. cc),
  λ bytes. plain-script config report watch script (program_of bytes) (program-of_bytes bytes),
)
plan-of_words (Some (Roll config watch program script control)) = (
  refl,
  plain-rolled config watch script control (Err (BadProgram ProgramTooLong)) (λ e. cc, λ e. cc),
  λ bytes. plain-rolled config watch script control (program_of bytes) (program-of_bytes bytes),
)
plan-of_words (Some (Save config program script)) = (
  refl,
  plain-later config script (Err (BadProgram ProgramTooLong)) (λ e. cc, λ e. cc),
  λ bytes. plain-later config script (program_of bytes) (program-of_bytes bytes),
)
plan-of_words (Some (Resume watch program save script)) = (
  refl,
  plain-resumed watch save script (Err (BadProgram ProgramTooLong)) (λ e. cc, λ e. cc),
  λ bytes. plain-resumed watch save script (program_of bytes) (program-of_bytes bytes),
)
plan-of_words (Some (Run config rules report order scope watch program)) = (
  refl,
  plain-run config rules report order scope watch (Err (BadProgram ProgramTooLong)) (λ e. cc, λ e. cc),
  λ bytes. plain-run config rules report order scope watch (program_of bytes) (program-of_bytes bytes),
)
plan-of_words (Some (Monitor config rules watch program)) = (
  refl,
  plain-monitor config rules watch (Err (BadProgram ProgramTooLong)) (λ e. cc, λ e. cc),
  λ bytes. plain-monitor config rules watch (program_of bytes) (program-of_bytes bytes),
)
plan-of_words (Some (Judge accesses)) = (
  refl,
  plain-judge (Err (BadScript ScriptTooLong)) (λ e. cc, λ e. cc),
  λ bytes. plain-judge (accesses_of bytes) (said (said_by bytes) (nat_lt accesses_limit (length bytes))),
)
plan-of_words (Some (Assemble text)) = (
  refl,
  plain-text (Err (BadAsm AsmTooLong)) (λ e. cc, λ e. cc),
  λ bytes. plain-text (assembly_of bytes) (assembled (asm_of bytes) (nat_lt program_limit (length bytes))),
)
plan-of_words (Some (Disassemble program)) = (
  refl,
  plain-text (listing_of (Err (BadProgram ProgramTooLong))) (λ e. cc, λ e. cc),
  λ bytes. plain-text (listing_of (program_of bytes)) (plain-listing (program_of bytes) (program-of_bytes bytes)),
)

-- what the store's fetches say

if_some-at : {T : Type 0} (o : Option T) (x : T) (P : T → Type 0) → o ≡ Some x → IfSome o P → P x
if_some-at o x P e h = subst (λ t. IfSome t P) e h

Rose-before : (a b d : ℕ) → a ≤ b → Rose b d → Rose a d
Rose-before a b d h r = omega arith

module _ {S : Type 0} (files : S → Option (List ℕ → Option (List ℕ))) (sure : S → Type 0) (faults : S → ℕ) (gave : S → List ℕ → Found → S → Type 0) where
  -- over a sure store a file is found as it is held
  fetches-sure : (old new : S) (name : List ℕ) (limit : ℕ) (held : List ℕ → Option (List ℕ)) (found : Found) →
      Fetches files sure faults gave old name limit found new → sure old → files old ≡ Some held → found ≡ found_in (held name) limit
  fetches-sure old new name limit held Missing h s e =
      let lacks = if_some-at (files old) held (λ t. Missing ≡ Missing → t name ≡ None) e (h.lacking s) refl in
      rw lacks
  fetches-sure old new name limit held TooLong h s e =
      if_some-at (files old) held (λ t. (TooLong ≡ Missing → ⊥) → TooLong ≡ found_in (t name) limit) e h.told (λ no. cc)
  fetches-sure old new name limit held (File bytes) h s e =
      if_some-at (files old) held (λ t. (File bytes ≡ Missing → ⊥) → File bytes ≡ found_in (t name) limit) e h.told (λ no. cc)

  -- over a sure store all files are found as they are held
  pub loads-sure : (plan : LoadPlan) (job : Result Job Status) (old new : S) (held : List ℕ → Option (List ℕ)) →
      Loads (Fetches files sure faults gave) plan job old new → sure old → files old ≡ Some held → job ≡ due_by held plan
  loads-sure (Due due) job old new held h s e = h.0
  loads-sure (Fetch name limit next) job old new held h s e =
      loads-sure (next h.0) job h.1 new held h.3 (h.2.stays_sure s) (h.2.same_files ∙ e)
      ∙ ap (λ f. due_by held (next f)) (fetches-sure old h.1 name limit held h.0 h.2 s e)

  -- what is there is found as it is held, also where the store isn't sure
  fetches-told : (old new : S) (name : List ℕ) (limit : ℕ) (held : List ℕ → Option (List ℕ)) (found : Found) →
      Fetches files sure faults gave old name limit found new → files old ≡ Some held → (found ≡ Missing → ⊥) →
      found ≡ found_in (held name) limit
  fetches-told old new name limit held found h e there =
      if_some-at (files old) held (λ t. (found ≡ Missing → ⊥) → found ≡ found_in (t name) limit) e h.told there

  -- where nothing more is fetched
  loads-due : (plan : LoadPlan) (due job : Result Job Status) (old new : S) → plan ≡ Due due →
      Loads (Fetches files sure faults gave) plan job old new → job ≡ due
  loads-due plan due job old new is h = (subst (λ t. Loads (Fetches files sure faults gave) t job old new) is h).0

  loads-stays : (plan : LoadPlan) (due job : Result Job Status) (old new : S) → plan ≡ Due due →
      Loads (Fetches files sure faults gave) plan job old new → new ≡ old
  loads-stays plan due job old new is h = (subst (λ t. Loads (Fetches files sure faults gave) t job old new) is h).1

  -- where no file was found missing, the others were found as they are held
  told-plain : (plan : LoadPlan) (job : Result Job Status) (old new : S) (held : List ℕ → Option (List ℕ)) → IsPlain plan →
      Loads (Fetches files sure faults gave) plan job old new → files old ≡ Some held → (job ≡ Err StoreFault → ⊥) →
      job ≡ due_by held plan
  told-plain (Due due) job old new held plain h e fine = h.0
  told-plain (Fetch name limit next) job old new held plain h e fine =
      by_found h.0 h.2 h.3
      (λ l. told-plain (next TooLong) job h.1 new held plain.1 l (h.2.same_files ∙ e) fine)
      (λ bytes l. told-plain (next (File bytes)) job h.1 new held (plain.2 bytes) l (h.2.same_files ∙ e) fine)
    where
      by_found : (found : Found) → Fetches files sure faults gave old name limit found h.1 →
          Loads (Fetches files sure faults gave) (next found) job h.1 new
          → (Loads (Fetches files sure faults gave) (next TooLong) job h.1 new → job ≡ due_by held (next TooLong))
          → ((bytes : List ℕ) → Loads (Fetches files sure faults gave) (next (File bytes)) job h.1 new →
          job ≡ due_by held (next (File bytes)))
          → job ≡ due_by held (Fetch name limit next)
      by_found Missing f l long whole = absurd (fine (loads-due (next Missing) (Err StoreFault) job h.1 new plain.0 l))
      by_found TooLong f l long whole =
          long l ∙ ap (λ t. due_by held (next t)) (fetches-told old h.1 name limit held TooLong f e (λ no. cc))
      by_found (File bytes) f l long whole =
          whole bytes l ∙ ap (λ t. due_by held (next t)) (fetches-told old h.1 name limit held (File bytes) f e (λ no. cc))

  pub loads-told : (plan : LoadPlan) (job : Result Job Status) (old new : S) (held : List ℕ → Option (List ℕ)) → IsOfWords plan →
      Loads (Fetches files sure faults gave) plan job old new → files old ≡ Some held → (job ≡ Err StoreFault → ⊥) →
      job ≡ due_by held plan
  loads-told (Due due) job old new held good h e fine = h.0
  loads-told (Fetch name limit next) job old new held good h e fine = told-plain (Fetch name limit next) job old new held good h e fine

  -- a store's fault was one
  rose-plain : (plan : LoadPlan) (job : Result Job Status) (old new : S) → IsPlain plan →
      Loads (Fetches files sure faults gave) plan job old new → job ≡ Err StoreFault → Rose (faults old) (faults new)
  rose-plain (Due due) job old new plain h e = absurd (plain.0 (sym h.0 ∙ e))
  rose-plain (Fetch name limit next) job old new plain h e =
      by_found h.0 h.2 h.3
      (λ l. rose-plain (next TooLong) job h.1 new plain.1 l e)
      (λ bytes l. rose-plain (next (File bytes)) job h.1 new (plain.2 bytes) l e)
    where
      by_found : (found : Found) → Fetches files sure faults gave old name limit found h.1 →
          Loads (Fetches files sure faults gave) (next found) job h.1 new
          → (Loads (Fetches files sure faults gave) (next TooLong) job h.1 new → Rose (faults h.1) (faults new))
          → ((bytes : List ℕ) → Loads (Fetches files sure faults gave) (next (File bytes)) job h.1 new → Rose (faults h.1) (faults new))
          → Rose (faults old) (faults new)
      by_found Missing f l long whole =
          subst (λ t. Rose (faults old) (faults t)) (sym (loads-stays (next Missing) (Err StoreFault) job h.1 new plain.0 l)) (f.rose refl)
      by_found TooLong f l long whole = Rose-before (faults old) (faults h.1) (faults new) f.later (long l)
      by_found (File bytes) f l long whole = Rose-before (faults old) (faults h.1) (faults new) f.later (whole bytes l)

  pub loads-rose : (plan : LoadPlan) (job : Result Job Status) (old new : S) → IsOfWords plan →
      Loads (Fetches files sure faults gave) plan job old new → job ≡ Err StoreFault → Rose (faults old) (faults new)
  loads-rose (Due due) job old new (inl words) h e = absurd cc
  loads-rose (Due due) job old new (inr plain) h e = absurd (plain.0 (sym h.0 ∙ e))
  loads-rose (Fetch name limit next) job old new good h e = rose-plain (Fetch name limit next) job old new good h e

  -- the words' fault is no file's
  no_usage-plain : (plan : LoadPlan) (job : Result Job Status) (old new : S) → IsPlain plan →
      Loads (Fetches files sure faults gave) plan job old new → job ≡ Err Usage → ⊥
  no_usage-plain (Due due) job old new plain h e = plain.1 (sym h.0 ∙ e)
  no_usage-plain (Fetch name limit next) job old new plain h e =
      by_found h.0 h.3
      (λ l. no_usage-plain (next TooLong) job h.1 new plain.1 l e)
      (λ bytes l. no_usage-plain (next (File bytes)) job h.1 new (plain.2 bytes) l e)
    where
      by_found : (found : Found) → Loads (Fetches files sure faults gave) (next found) job h.1 new
          → (Loads (Fetches files sure faults gave) (next TooLong) job h.1 new → ⊥)
          → ((bytes : List ℕ) → Loads (Fetches files sure faults gave) (next (File bytes)) job h.1 new → ⊥) → ⊥
      by_found Missing l long whole =
          let same : job ≡ Err StoreFault = loads-due (next Missing) (Err StoreFault) job h.1 new plain.0 l in cc
      by_found TooLong l long whole = long l
      by_found (File bytes) l long whole = whole bytes l

  pub loads-usage : (plan : LoadPlan) (job : Result Job Status) (old new : S) → IsOfWords plan →
      Loads (Fetches files sure faults gave) plan job old new → job ≡ Err Usage → plan ≡ Due (Err Usage)
  loads-usage (Due due) job old new good h e = ap Due (sym h.0 ∙ e)
  loads-usage (Fetch name limit next) job old new good h e = absurd (no_usage-plain (Fetch name limit next) job old new good h e)

-- only words that are no command's are refused before any file
pub refused-at_once : (ask : Option Request) → plan_of ask ≡ Due (Err Usage) → AsksNothing ask
refused-at_once None e = refl
refused-at_once (Some (Drive config report watch program)) e = refl
refused-at_once (Some (Check nodes program trace)) e = absurd cc
refused-at_once (Some (Demo size)) e =
    absurd ((plain-generated size (program_of (words_text counting_words)) (program-of_bytes (words_text counting_words))).1 cc)
refused-at_once (Some (Replay config report watch program script)) e = absurd cc
refused-at_once (Some (Roll config watch program script control)) e = absurd cc
refused-at_once (Some (Save config program script)) e = absurd cc
refused-at_once (Some (Resume watch program save script)) e = absurd cc
refused-at_once (Some (Run config rules report order scope watch program)) e = absurd cc
refused-at_once (Some (Monitor config rules watch program)) e = absurd cc
refused-at_once (Some (Judge accesses)) e = absurd cc
refused-at_once (Some (Assemble text)) e = absurd cc
refused-at_once (Some (Disassemble program)) e = absurd cc
