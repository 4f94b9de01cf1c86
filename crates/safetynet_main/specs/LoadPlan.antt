-- LoadPlans: what a call fetches, one file after another, and what is due once they are found.
use Rattle.std.specs.Prelude.{◌≡◌, ℕ, List, Option, Result}
use Rattle.sn_io.specs.Outside.{Found, found_in}
use Rattle.safetynet_main.specs.declared.job.Job.{Job}
use Rattle.call_status.specs.declared.status.Status.{Status}

pub data LoadPlan : Type 0 where
  -- nothing more is fetched, and this is due: a job, or the status that says why there is none
  Due : (job : Result Job Status) → LoadPlan
  -- a file is fetched, up to so many bytes, and what is found of it decides what comes next
  Fetch : (name : List ℕ) → (limit : ℕ) → (next : Found → LoadPlan) → LoadPlan

-- what is due over these files
abbrev pub due_by : (List ℕ → Option (List ℕ)) → LoadPlan → Result Job Status
due_by held (Due job) = job
due_by held (Fetch name limit next) = due_by held (next (found_in (held name) limit))

-- what a store's fetches came to, in order, from one state of it to another; `fetches` is one fetch of it
abbrev pub Loads : {S : Type 0} → (S → List ℕ → ℕ → Found → S → Type 0) → LoadPlan → Result Job Status → S → S → Type 0
Loads fetches (Due due) job old new = (job ≡ due) × (new ≡ old)
Loads {S} fetches (Fetch name limit next) job old new =
    (found : Found) × (mid : S) × fetches old name limit found mid × Loads fetches (next found) job mid new
