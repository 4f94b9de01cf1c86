-- The plans of a replay, of a recovery node by node, of a save, of a machine that goes on, of a check and of all that name one file, from how their files were fetched and read.
use Rattle.std.proofs.Common.{◌≡◌, ℕ, List, refl, ap, sym, subst, ◌∙◌}
use Rattle.std.specs.Prelude.{Option, Result, Ok, Err}
use Rattle.sn_base.specs.Image.{ImageData}
use Rattle.sn_base.specs.declared.config.Config.{Config}
use Rattle.sn_base.specs.declared.event.Event.{Event}
use Rattle.rv_core.specs.declared.step.Record.{Record}
use Rattle.sn_io.specs.Outside.{Found}
use Rattle.command_words.specs.declared.request.ReplayReport.{ReplayReport}
use Rattle.rolling_recovery.specs.declared.controls.Control.{Control}
use Rattle.call_files.specs.Files.{program_limit, script_limit, program_in, script_in, control_in, trace_in}
use Rattle.call_files.specs.Saves.{save_limit, machine_in}
use Rattle.sn_machine.specs.Machine.{MachineData}
use Rattle.safetynet_main.specs.LoadPlan.{LoadPlan, Due, Fetch, Loads}
use Rattle.safetynet_main.specs.Call.{job_with, roll_with, check_with, script_plan, control_plan, rolled_plan, trace_plan}
use Rattle.safetynet_main.specs.Call.{save_with, resume_with, later_plan, going_on_plan, resumed_plan}
use Rattle.safetynet_main.specs.Call.{replay_plan, roll_plan, save_plan, resume_plan, check_plan}
use Rattle.safetynet_main.specs.declared.job.Job.{Job}
use Rattle.call_status.specs.declared.status.Status.{Status}

-- what is due, where the file that decides it was read as this, and where a program is refused
module _ {S : Type 0} (fetches : S → List ℕ → ℕ → Found → S → Type 0) (old new : S) where
  pub loads-last : {R : Type 0} (limit : ℕ) (read : Found → R) (due : R → Result Job Status) (value : R) (job : Result Job Status)
      (name asked : List ℕ) → name ≡ asked → (found : Found) × fetches old name limit found new × (value ≡ read found) → job ≡ due value →
      Loads fetches (Fetch asked limit (λ found. Due (due (read found)))) job old new
  loads-last limit read due value job name asked p h e =
      subst (λ (t : List ℕ). Loads fetches (Fetch t limit (λ found. Due (due (read found)))) job old new) p
      (h.0, new, h.1, (e ∙ ap due h.2, refl))

  pub loads-refused : (rest : Result ImageData Status → LoadPlan) (status : Status) (name asked : List ℕ) →
      rest (Err status) ≡ Due (Err status) → name ≡ asked →
      (found : Found) × fetches old name program_limit found new × (Err status ≡ program_in found) →
      Loads fetches (Fetch asked program_limit (λ found. rest (program_in found))) (Err status) old new
  loads-refused rest status name asked same p h =
      subst (λ (t : List ℕ). Loads fetches (Fetch t program_limit (λ found. rest (program_in found))) (Err status) old new) p (
        h.0,
        new,
        h.1,
        subst (λ (r : Result ImageData Status). Loads fetches (rest r) (Err status) new new) h.2
            (subst (λ (plan : LoadPlan). Loads fetches plan (Err status) new new) (sym same) (refl, refl)),
      )

module _ {S : Type 0} (fetches : S → List ℕ → ℕ → Found → S → Type 0) (image : ImageData) (old mid new : S) where
  -- the program, and then the rest
  pub loads-rest : (rest : Result ImageData Status → LoadPlan) (job : Result Job Status) (program : List ℕ)
      → (found : Found) × fetches old program program_limit found mid × (Ok image ≡ program_in found)
      → Loads fetches (rest (Ok image)) job mid new
      → Loads fetches (Fetch program program_limit (λ found. rest (program_in found))) job old new
  loads-rest rest job program h l =
      (h.0, mid, h.1, subst (λ (r : Result ImageData Status). Loads fetches (rest r) job mid new) h.2 l)

  -- a replay's files, by the names that the request has
  pub loads-replay : (config : Config) (report : ReplayReport) (watch : Option ℕ) (events : Result (List Event) Status)
      (job : Result Job Status) (program script asked_program asked_script : List ℕ)
      → program ≡ asked_program → script ≡ asked_script
      → (found : Found) × fetches old program program_limit found mid × (Ok image ≡ program_in found)
      → (found : Found) × fetches mid script script_limit found new × (events ≡ script_in config.nodes found)
      → job ≡ job_with config report watch image events
      → Loads fetches (replay_plan config report watch asked_program asked_script) job old new
  loads-replay config report watch events job program script asked_program asked_script p s h k e =
      subst (λ (t : List ℕ). Loads fetches (replay_plan config report watch t asked_script) job old new) p
      (subst (λ (t : List ℕ). Loads fetches (replay_plan config report watch program t) job old new) s
      (loads-rest (script_plan config report watch script) job program h
      (k.0, new, k.1, (e ∙ ap (job_with config report watch image) k.2, refl))))

  -- a save's
  pub loads-save : (config : Config) (events : Result (List Event) Status) (job : Result Job Status)
      (program script asked_program asked_script : List ℕ)
      → program ≡ asked_program → script ≡ asked_script
      → (found : Found) × fetches old program program_limit found mid × (Ok image ≡ program_in found)
      → (found : Found) × fetches mid script script_limit found new × (events ≡ script_in config.nodes found)
      → job ≡ save_with config image events
      → Loads fetches (save_plan config asked_program asked_script) job old new
  loads-save config events job program script asked_program asked_script p s h k e =
      subst (λ (t : List ℕ). Loads fetches (save_plan config t asked_script) job old new) p
      (subst (λ (t : List ℕ). Loads fetches (save_plan config program t) job old new) s
      (loads-rest (later_plan config script) job program h
      (k.0, new, k.1, (e ∙ ap (save_with config image) k.2, refl))))

  -- a check's
  pub loads-check : (nodes : ℕ) (records : Result (List Record) Status) (job : Result Job Status)
      (program trace asked_program asked_trace : List ℕ)
      → program ≡ asked_program → trace ≡ asked_trace
      → (found : Found) × fetches old program program_limit found mid × (Ok image ≡ program_in found)
      → (found : Found) × fetches mid trace script_limit found new × (records ≡ trace_in nodes found)
      → job ≡ check_with nodes image records
      → Loads fetches (check_plan nodes asked_program asked_trace) job old new
  loads-check nodes records job program trace asked_program asked_trace p s h k e =
      subst (λ (t : List ℕ). Loads fetches (check_plan nodes t asked_trace) job old new) p
      (subst (λ (t : List ℕ). Loads fetches (check_plan nodes program t) job old new) s
      (loads-rest (trace_plan nodes trace) job program h
      (k.0, new, k.1, (e ∙ ap (check_with nodes image) k.2, refl))))

-- the files of a recovery node by node, of which the script is refused, or the control file is fetched too
module _ {S : Type 0} (fetches : S → List ℕ → ℕ → Found → S → Type 0) (image : ImageData) (config : Config) (watch : Option ℕ) (old mid : S) (program script control asked_program asked_script asked_control : List ℕ) (p : program ≡ asked_program) (s : script ≡ asked_script) (c : control ≡ asked_control) (h : (found : Found) × fetches old program program_limit found mid × (Ok image ≡ program_in found)) where
  named : (job : Result Job Status) (new : S) → Loads fetches (rolled_plan config watch script control (Ok image)) job mid new →
      Loads fetches (roll_plan config watch asked_program asked_script asked_control) job old new
  named job new l =
      subst (λ (t : List ℕ). Loads fetches (roll_plan config watch t asked_script asked_control) job old new) p
      (subst (λ (t : List ℕ). Loads fetches (roll_plan config watch program t asked_control) job old new) s
      (subst (λ (t : List ℕ). Loads fetches (roll_plan config watch program script t) job old new) c
      (loads-rest fetches image old mid new (rolled_plan config watch script control) job program h l)))

  pub loads-roll_script : (status : Status) (new : S) →
      (found : Found) × fetches mid script script_limit found new × (Err status ≡ script_in config.nodes found) →
      Loads fetches (roll_plan config watch asked_program asked_script asked_control) (Err status) old new
  loads-roll_script status new k =
      named (Err status) new (
        k.0,
        new,
        k.1,
        subst (λ (r : Result (List Event) Status). Loads fetches (control_plan config watch control image r) (Err status) new new) k.2
            (refl, refl),
      )

  pub loads-roll : (events : List Event) (controls : Result (List Control) Status) (job : Result Job Status) (later new : S) →
      (found : Found) × fetches mid script script_limit found later × (Ok events ≡ script_in config.nodes found) →
      (found : Found) × fetches later control script_limit found new × (controls ≡ control_in config.nodes found) →
      job ≡ roll_with config watch image events controls →
      Loads fetches (roll_plan config watch asked_program asked_script asked_control) job old new
  loads-roll events controls job later new k l e =
      named job new (
        k.0,
        later,
        k.1,
        subst (λ (r : Result (List Event) Status). Loads fetches (control_plan config watch control image r) job later new) k.2
            (l.0, new, l.1, (e ∙ ap (roll_with config watch image events) l.2, refl)),
      )

-- the files of a machine that goes on, of which the save file is refused, or the script is fetched too
module _ {S : Type 0} (fetches : S → List ℕ → ℕ → Found → S → Type 0) (image : ImageData) (watch : Option ℕ) (old mid : S) (program save script asked_program asked_save asked_script : List ℕ) (p : program ≡ asked_program) (v : save ≡ asked_save) (s : script ≡ asked_script) (h : (found : Found) × fetches old program program_limit found mid × (Ok image ≡ program_in found)) where
  resumed-named : (job : Result Job Status) (new : S) → Loads fetches (resumed_plan watch save script (Ok image)) job mid new →
      Loads fetches (resume_plan watch asked_program asked_save asked_script) job old new
  resumed-named job new l =
      subst (λ (t : List ℕ). Loads fetches (resume_plan watch t asked_save asked_script) job old new) p
      (subst (λ (t : List ℕ). Loads fetches (resume_plan watch program t asked_script) job old new) v
      (subst (λ (t : List ℕ). Loads fetches (resume_plan watch program save t) job old new) s
      (loads-rest fetches image old mid new (resumed_plan watch save script) job program h l)))

  pub loads-resume_save : (status : Status) (new : S) →
      (found : Found) × fetches mid save save_limit found new × (Err status ≡ machine_in image found) →
      Loads fetches (resume_plan watch asked_program asked_save asked_script) (Err status) old new
  loads-resume_save status new k =
      resumed-named (Err status) new (
        k.0,
        new,
        k.1,
        subst (λ (r : Result MachineData Status). Loads fetches (going_on_plan watch script r) (Err status) new new) k.2 (refl, refl),
      )

  pub loads-resume : (m : MachineData) (nodes : ℕ) (events : Result (List Event) Status) (job : Result Job Status) (later new : S) →
      nodes ≡ m.config.nodes → (found : Found) × fetches mid save save_limit found later × (Ok m ≡ machine_in image found) →
      (found : Found) × fetches later script script_limit found new × (events ≡ script_in nodes found) →
      job ≡ resume_with watch m events →
      Loads fetches (resume_plan watch asked_program asked_save asked_script) job old new
  loads-resume m nodes events job later new same k l e =
      resumed-named job new (
        k.0,
        later,
        k.1,
        subst (λ (r : Result MachineData Status). Loads fetches (going_on_plan watch script r) job later new) k.2
            (l.0, new, l.1, (e ∙ ap (resume_with watch m) (l.2 ∙ ap (λ n. script_in n l.0) same), refl)),
      )
