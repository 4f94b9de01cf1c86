-- What a job's status says, by how the job ended.
use Rattle.std.proofs.Common.{◌≡◌, ℕ, List, refl, ap, sym, subst, ◌∙◌, inl, inr, true, false}
use Rattle.std.specs.Prelude.{Result, Ok, Err, IfOk, OnOk, ◌⊎◌}
use Rattle.sn_probe.specs.Probes.{Meter}
use Rattle.sink_pieces.specs.Pieces.{Ends}
use Rattle.script_replay.specs.declared.job.Replay.{Replay}
use Rattle.script_replay.specs.declared.replaying.ReplayFault.{ReplayFault}
use Rattle.script_replay.specs.declared.replaying.ReplayFault.TheVariants as replay_fault
use Rattle.script_replay.specs.Shown.{IsReplayed, IsBrokenOff as IsReplayBroken}
use Rattle.counted_replay.specs.Shown.{IsCounted, IsBrokenOff as IsCountedBroken}
use Rattle.accesses_replay.specs.Shown.{IsDone as AreAccessesDone, IsBrokenOff as AreAccessesBroken}
use Rattle.shown_states.specs.declared.job.StatesReplay.{StatesReplay}
use Rattle.shown_states.specs.declared.play.StatesFault.{StatesFault}
use Rattle.shown_states.specs.declared.play.StatesFault.TheVariants as states_fault
use Rattle.shown_states.specs.Shown.{IsShown as AreStatesShown, IsShownInPart as AreStatesShownInPart, IsCutShort as AreStatesCutShort}
use Rattle.call_files.specs.Roll.{Roll}
use Rattle.call_files.specs.RollFault.{RollFault}
use Rattle.call_files.specs.RollFault.TheVariants as roll_fault
use Rattle.call_files.specs.Rolled.{IsRolled, IsBrokenOff as IsRollBroken}
use Rattle.monitor_run.specs.Ending.{Ending}
use Rattle.monitor_run.specs.Ending.TheVariants as ending
use Rattle.monitor_run.specs.Run.{Run}
use Rattle.monitor_run.specs.RunFault.{RunFault}
use Rattle.monitor_run.specs.RunFault.TheVariants as run_fault
use Rattle.monitor_run.specs.NodeRunShown.{IsDone as IsRunDone, IsBrokenOff as IsRunBroken}
use Rattle.turn_orders.specs.declared.order.Order.{Order}
use Rattle.seed_runs.specs.OrderedRunShown.{IsDone as IsOrderDone, IsBrokenOff as IsOrderBroken}
use Rattle.monitor_run.specs.declared.job.Monitor.{Monitor}
use Rattle.monitor_run.specs.Shown.{IsDone as IsWatchDone, IsBrokenOff as IsWatchBroken}
use Rattle.seed_runs.specs.declared.job.SeedRuns.{SeedRuns}
use Rattle.seed_runs.specs.declared.job.SeedsFault.{SeedsFault}
use Rattle.seed_runs.specs.declared.job.SeedsFault.TheVariants as seeds_fault
use Rattle.seed_runs.specs.Shown.{IsCountedByThreads, IsBrokenByThreads, IsDoneCounted, IsBrokenCounted, AreShown as AreSeedsShown, AreBrokenOff as AreSeedsBroken}
use Rattle.seed_runs.specs.Shown.{AreLeftOff as AreSeedsLeft}
use Rattle.safetynet_main.specs.Call.{Follows, IsCutShort}
use Rattle.safetynet_main.specs.Outcome.{Finished, ending_status}
use Rattle.safetynet_main.specs.declared.job.Job.{Job}
use Rattle.safetynet_main.specs.declared.job.Job.TheVariants.{Replay as ReplayJob, Counted as CountedJob, Accesses as AccessesJob, States as StatesJob, Roll as RollJob}
use Rattle.safetynet_main.specs.declared.job.Job.TheVariants.{Run as RunJob, OrderedRun as OrderedJob, Monitor as MonitorJob, CountedByThreads as CountedByThreadsJob}
use Rattle.safetynet_main.specs.declared.job.Job.TheVariants.{CountedRun as CountedRunJob, Seeds as SeedsJob}
use Rattle.call_status.specs.Status.{has_written}
use Rattle.call_status.specs.declared.status.Status.{Status}
use Rattle.call_status.specs.declared.status.Status.TheVariants.{Done, SinkFault, Memory}
use Rattle.safetynet_main.proofs.CallLaws.{follows-run_done, follows-run_broken, follows-watch_done, follows-watch_broken, follows-order_done, follows-order_broken}
use Rattle.safetynet_main.proofs.CallLaws.{follows-counted_done, follows-counted_broken, follows-threads_done, follows-threads_broken}
use Rattle.safetynet_main.proofs.CallLaws.{follows-seeds_done, follows-seeds_broken}

-- where a run came to an end all is written, and no sink broke
ending-written : (e : Ending) → has_written (ending_status e) ≡ true
ending-written ending.Exited = refl
ending-written (ending.Trapped node cause) = refl
ending-written (ending.CutOff a b) = refl
ending-written ending.Spent = refl

ending-whole : (e : Ending) → ending_status e ≡ SinkFault → ⊥
ending-whole ending.Exited s = cc
ending-whole (ending.Trapped node cause) s = cc
ending-whole (ending.CutOff a b) s = cc
ending-whole ending.Spent s = cc

true-false : true ≡ false → ⊥
true-false e = cc

written-ending : (e : Ending) (status : Status) → status ≡ ending_status e → has_written status ≡ false → ⊥
written-ending e status done w = true-false (sym (ending-written e) ∙ (sym (ap has_written done) ∙ w))

whole-ending : (e : Ending) (status : Status) → status ≡ ending_status e → status ≡ SinkFault → ⊥
whole-ending e status done s = ending-whole e (sym done ∙ s)

written-done : (status : Status) → status ≡ Done → has_written status ≡ false → ⊥
written-done status done w = true-false (sym (ap has_written done) ∙ w)

written-sink : (status : Status) → status ≡ SinkFault → has_written status ≡ false → ⊥
written-sink status sink w = true-false (sym (ap has_written sink) ∙ w)

not_done : (status : Status) → status ≡ Done → status ≡ SinkFault → ⊥
not_done status done sink = cc

not_memory : (status : Status) → status ≡ Memory → status ≡ SinkFault → ⊥
not_memory status memory sink = cc

-- nothing is written: a replay that lacked memory changed nothing
pub nothing-replay : (ended : Result (Unit {0}) ReplayFault) (status : Status) (C R P X : Type 0) → OnOk ended (status ≡ Done) →
    (ended ≡ Err replay_fault.Sink → status ≡ SinkFault) → (ended ≡ Err replay_fault.Memory → C × R × P) → has_written status ≡ false → (C × R) ⊎ X
nothing-replay (Ok u) status C R P X done sink same w = absurd (written-done status done w)
nothing-replay (Err replay_fault.Sink) status C R P X done sink same w =
    absurd (written-sink status (sink refl) w)
nothing-replay (Err replay_fault.Memory) status C R P X done sink same w = inl ((same refl).0, (same refl).1)

pub nothing-roll : (ended : Result (Unit {0}) RollFault) (status : Status) (C R P X : Type 0) → OnOk ended (status ≡ Done) →
    (ended ≡ Err roll_fault.Sink → status ≡ SinkFault) → (ended ≡ Err roll_fault.Memory → C × R × P) → has_written status ≡ false → (C × R) ⊎ X
nothing-roll (Ok u) status C R P X done sink same w = absurd (written-done status done w)
nothing-roll (Err roll_fault.Sink) status C R P X done sink same w =
    absurd (written-sink status (sink refl) w)
nothing-roll (Err roll_fault.Memory) status C R P X done sink same w = inl ((same refl).0, (same refl).1)

pub nothing-run : (ended : Result Ending RunFault) (status : Status) (C R P X : Type 0) → IfOk ended (λ e. status ≡ ending_status e) →
    (ended ≡ Err run_fault.Sink → status ≡ SinkFault) → (ended ≡ Err run_fault.Memory → C × R × P) → has_written status ≡ false → (C × R) ⊎ X
nothing-run (Ok e) status C R P X done sink same w =
    absurd (written-ending e status done w)
nothing-run (Err run_fault.Sink) status C R P X done sink same w =
    absurd (written-sink status (sink refl) w)
nothing-run (Err run_fault.Memory) status C R P X done sink same w = inl ((same refl).0, (same refl).1)

-- or it put the pieces of some first events, or the blocks of some first seeds
states-cut : (probes told : List Meter) (job : Job) (r : StatesReplay) (status : Status) (before behind : Ends) (C R P : Type 0) →
    job ≡ StatesJob r → status ≡ Memory → (C × R × P) ⊎ AreStatesCutShort r probes before behind told →
    (C × R) ⊎ ((status ≡ Memory) × IsCutShort probes job before behind)
states-cut probes told job r status before behind C R P e m (inl (c, same, p)) = inl (c, same)
states-cut probes told job r status before behind C R P e m (inr h) =
    inr (m, subst (λ (j : Job). IsCutShort probes j before behind) (sym e) (told, h))

pub nothing-states : (probes told : List Meter) (job : Job) (r : StatesReplay) (ended : Result (Unit {0}) StatesFault) (status : Status)
    (before behind : Ends) (C R P : Type 0) → job ≡ StatesJob r → OnOk ended (status ≡ Done) →
    (ended ≡ Err states_fault.Sink → status ≡ SinkFault) → (ended ≡ Err states_fault.Memory → status ≡ Memory) →
    (ended ≡ Err states_fault.Memory → (C × R × P) ⊎ AreStatesCutShort r probes before behind told) → has_written status ≡ false →
    (C × R) ⊎ ((status ≡ Memory) × IsCutShort probes job before behind)
nothing-states probes told job r (Ok u) status before behind C R P e done sink memory cut w =
    absurd (written-done status done w)
nothing-states probes told job r (Err states_fault.Sink) status before behind C R P e done sink memory cut w =
    absurd (written-sink status (sink refl) w)
nothing-states probes told job r (Err states_fault.Memory) status before behind C R P e done sink memory cut w =
    states-cut probes told job r status before behind C R P e (memory refl) (cut refl)

pub nothing-seeds : (probes : List Meter) (job : Job) (r : SeedRuns) (ended : Result (Unit {0}) SeedsFault) (status : Status)
    (before behind : Ends) (A : Type 0) → job ≡ SeedsJob r → OnOk ended (status ≡ Done) →
    (ended ≡ Err seeds_fault.Sink → status ≡ SinkFault) → (ended ≡ Err seeds_fault.Memory → status ≡ Memory) →
    (ended ≡ Err seeds_fault.Memory → AreSeedsLeft r before behind) → has_written status ≡ false →
    A ⊎ ((status ≡ Memory) × IsCutShort probes job before behind)
nothing-seeds probes job r (Ok u) status before behind A e done sink memory left w =
    absurd (written-done status done w)
nothing-seeds probes job r (Err seeds_fault.Sink) status before behind A e done sink memory left w =
    absurd (written-sink status (sink refl) w)
nothing-seeds probes job r (Err seeds_fault.Memory) status before behind A e done sink memory left w =
    inr (memory refl, subst (λ (j : Job). IsCutShort probes j before behind) (sym e) (left refl))

-- a fault of a sink has its cause
pub cause-replay : (ended : Result (Unit {0}) ReplayFault) (status : Status) (K : Type 0) → OnOk ended (status ≡ Done) →
    (ended ≡ Err replay_fault.Memory → status ≡ Memory) → (ended ≡ Err replay_fault.Sink → K) → status ≡ SinkFault → K
cause-replay (Ok u) status K done memory cause s = absurd (not_done status done s)
cause-replay (Err replay_fault.Sink) status K done memory cause s = cause refl
cause-replay (Err replay_fault.Memory) status K done memory cause s = absurd (not_memory status (memory refl) s)

pub cause-states : (ended : Result (Unit {0}) StatesFault) (status : Status) (K : Type 0) → OnOk ended (status ≡ Done) →
    (ended ≡ Err states_fault.Memory → status ≡ Memory) → (ended ≡ Err states_fault.Sink → K) → status ≡ SinkFault → K
cause-states (Ok u) status K done memory cause s = absurd (not_done status done s)
cause-states (Err states_fault.Sink) status K done memory cause s = cause refl
cause-states (Err states_fault.Memory) status K done memory cause s = absurd (not_memory status (memory refl) s)

pub cause-roll : (ended : Result (Unit {0}) RollFault) (status : Status) (K : Type 0) → OnOk ended (status ≡ Done) →
    (ended ≡ Err roll_fault.Memory → status ≡ Memory) → (ended ≡ Err roll_fault.Sink → K) → status ≡ SinkFault → K
cause-roll (Ok u) status K done memory cause s = absurd (not_done status done s)
cause-roll (Err roll_fault.Sink) status K done memory cause s = cause refl
cause-roll (Err roll_fault.Memory) status K done memory cause s = absurd (not_memory status (memory refl) s)

pub cause-run : (ended : Result Ending RunFault) (status : Status) (K : Type 0) → IfOk ended (λ e. status ≡ ending_status e) →
    (ended ≡ Err run_fault.Memory → status ≡ Memory) → (ended ≡ Err run_fault.Sink → K) → status ≡ SinkFault → K
cause-run (Ok e) status K done memory cause s = absurd (whole-ending e status done s)
cause-run (Err run_fault.Sink) status K done memory cause s = cause refl
cause-run (Err run_fault.Memory) status K done memory cause s = absurd (not_memory status (memory refl) s)

pub cause-seeds : (ended : Result (Unit {0}) SeedsFault) (status : Status) (K : Type 0) → OnOk ended (status ≡ Done) →
    (ended ≡ Err seeds_fault.Memory → status ≡ Memory) → (ended ≡ Err seeds_fault.Sink → K) → status ≡ SinkFault → K
cause-seeds (Ok u) status K done memory cause s = absurd (not_done status done s)
cause-seeds (Err seeds_fault.Sink) status K done memory cause s = cause refl
cause-seeds (Err seeds_fault.Memory) status K done memory cause s = absurd (not_memory status (memory refl) s)

module _ (probes : List Meter) (job : Job) (status : Status) (was is : ℕ) (before behind : Ends) where
  -- the clause of a job is the clause of what it is
  of_job : (made : Job) → job ≡ made → Follows probes (Ok made) status was is before behind → Follows probes (Ok job) status was is before behind
  of_job made e h = subst (λ (j : Job). Follows probes (Ok j) status was is before behind) (sym e) h

  pub follows-replay : (r : Replay) (ended : Result (Unit {0}) ReplayFault) → job ≡ ReplayJob r → OnOk ended (status ≡ Done) →
      (ended ≡ Err replay_fault.Sink → status ≡ SinkFault) → (ended ≡ Err replay_fault.Memory → status ≡ Memory) →
      OnOk ended (IsReplayed r probes before behind) → (ended ≡ Err replay_fault.Sink → IsReplayBroken r probes before behind) →
      (status ≡ Memory → ⊥) → Follows probes (Ok job) status was is before behind
  follows-replay r (Ok u) e done sink memory ok broken m = of_job (ReplayJob r) e (inl (Finished, (refl, inl (done, ok.put, ok.shown))))
  follows-replay r (Err replay_fault.Sink) e done sink memory ok broken m =
      of_job (ReplayJob r) e (inl (Finished, (refl, inr (sink refl, (broken refl).broken, (broken refl).shown))))
  follows-replay r (Err replay_fault.Memory) e done sink memory ok broken m = absurd (m (memory refl))

  pub follows-replay_counted : (r : Replay) (ended : Result (Unit {0}) ReplayFault) → job ≡ CountedJob r → OnOk ended (status ≡ Done) →
      (ended ≡ Err replay_fault.Sink → status ≡ SinkFault) → (ended ≡ Err replay_fault.Memory → status ≡ Memory) →
      OnOk ended (IsCounted r probes before behind) → (ended ≡ Err replay_fault.Sink → IsCountedBroken r probes before behind) →
      (status ≡ Memory → ⊥) → Follows probes (Ok job) status was is before behind
  follows-replay_counted r (Ok u) e done sink memory ok broken m = of_job (CountedJob r) e (inl (Finished, (refl, inl (done, ok.put, ok.shown))))
  follows-replay_counted r (Err replay_fault.Sink) e done sink memory ok broken m =
      of_job (CountedJob r) e (inl (Finished, (refl, inr (sink refl, (broken refl).broken, (broken refl).shown))))
  follows-replay_counted r (Err replay_fault.Memory) e done sink memory ok broken m = absurd (m (memory refl))

  pub follows-replay_accesses : (r : Replay) (ended : Result (Unit {0}) ReplayFault) → job ≡ AccessesJob r → OnOk ended (status ≡ Done) →
      (ended ≡ Err replay_fault.Sink → status ≡ SinkFault) → (ended ≡ Err replay_fault.Memory → status ≡ Memory) →
      OnOk ended (AreAccessesDone r probes before behind) → (ended ≡ Err replay_fault.Sink → AreAccessesBroken r probes before behind) →
      (status ≡ Memory → ⊥) → Follows probes (Ok job) status was is before behind
  follows-replay_accesses r (Ok u) e done sink memory ok broken m = of_job (AccessesJob r) e (inl (Finished, (refl, inl (done, ok.put, ok.shown))))
  follows-replay_accesses r (Err replay_fault.Sink) e done sink memory ok broken m =
      of_job (AccessesJob r) e (inl (Finished, (refl, inr (sink refl, (broken refl).broken, (broken refl).shown))))
  follows-replay_accesses r (Err replay_fault.Memory) e done sink memory ok broken m = absurd (m (memory refl))

  pub follows-states : (r : StatesReplay) (ended : Result (Unit {0}) StatesFault) → job ≡ StatesJob r → OnOk ended (status ≡ Done) →
      (ended ≡ Err states_fault.Sink → status ≡ SinkFault) → (ended ≡ Err states_fault.Memory → status ≡ Memory) →
      OnOk ended (AreStatesShown r probes before behind) → (ended ≡ Err states_fault.Sink → AreStatesShownInPart r probes before behind) →
      (status ≡ Memory → ⊥) → Follows probes (Ok job) status was is before behind
  follows-states r (Ok u) e done sink memory ok broken m = of_job (StatesJob r) e (inl (Finished, (refl, inl (done, ok.put, ok))))
  follows-states r (Err states_fault.Sink) e done sink memory ok broken m =
      of_job (StatesJob r) e (inl (Finished, (refl, inr (sink refl, (broken refl).broken, broken refl))))
  follows-states r (Err states_fault.Memory) e done sink memory ok broken m = absurd (m (memory refl))

  pub follows-roll : (r : Roll) (ended : Result (Unit {0}) RollFault) → job ≡ RollJob r → OnOk ended (status ≡ Done) →
      (ended ≡ Err roll_fault.Sink → status ≡ SinkFault) → (ended ≡ Err roll_fault.Memory → status ≡ Memory) →
      OnOk ended (IsRolled r probes before behind) → (ended ≡ Err roll_fault.Sink → IsRollBroken r probes before behind) →
      (status ≡ Memory → ⊥) → Follows probes (Ok job) status was is before behind
  follows-roll r (Ok u) e done sink memory ok broken m = of_job (RollJob r) e (inl (Finished, (refl, inl (done, ok.put, ok))))
  follows-roll r (Err roll_fault.Sink) e done sink memory ok broken m =
      of_job (RollJob r) e (inl (Finished, (refl, inr (sink refl, (broken refl).broken, broken refl))))
  follows-roll r (Err roll_fault.Memory) e done sink memory ok broken m = absurd (m (memory refl))

  pub follows-seeds : (r : SeedRuns) (ended : Result (Unit {0}) SeedsFault) → job ≡ SeedsJob r → OnOk ended (status ≡ Done) →
      (ended ≡ Err seeds_fault.Sink → status ≡ SinkFault) → (ended ≡ Err seeds_fault.Memory → status ≡ Memory) →
      OnOk ended (AreSeedsShown r before behind) → (ended ≡ Err seeds_fault.Sink → AreSeedsBroken r before behind) →
      (status ≡ Memory → ⊥) → Follows probes (Ok job) status was is before behind
  follows-seeds r (Ok u) e done sink memory ok broken m = follows-seeds_done probes job r status was is before behind e done ok
  follows-seeds r (Err seeds_fault.Sink) e done sink memory ok broken m =
      follows-seeds_broken probes job r status was is before behind e (sink refl) (broken refl)
  follows-seeds r (Err seeds_fault.Memory) e done sink memory ok broken m = absurd (m (memory refl))

  -- runs, whose probes know then what they were told
  pub follows-run : (told : List Meter) (r : Run) (ended : Result Ending RunFault) → job ≡ RunJob r →
      IfOk ended (λ e. status ≡ ending_status e) → (ended ≡ Err run_fault.Sink → status ≡ SinkFault) →
      (ended ≡ Err run_fault.Memory → status ≡ Memory) → IfOk ended (λ e. IsRunDone r probes e before behind told) →
      (ended ≡ Err run_fault.Sink → IsRunBroken r probes was is before behind told) → (status ≡ Memory → ⊥) →
      Follows probes (Ok job) status was is before behind
  follows-run told r (Ok last) e done sink memory ok broken m = follows-run_done probes told job r last status was is before behind e done ok
  follows-run told r (Err run_fault.Sink) e done sink memory ok broken m =
      follows-run_broken probes told job r status was is before behind e (sink refl) (broken refl)
  follows-run told r (Err run_fault.Memory) e done sink memory ok broken m = absurd (m (memory refl))

  pub follows-threads : (told : List Meter) (r : Run) (ended : Result Ending RunFault) → job ≡ CountedByThreadsJob r →
      IfOk ended (λ e. status ≡ ending_status e) → (ended ≡ Err run_fault.Sink → status ≡ SinkFault) →
      (ended ≡ Err run_fault.Memory → status ≡ Memory) → IfOk ended (λ e. IsCountedByThreads r probes e before behind told) →
      (ended ≡ Err run_fault.Sink → IsBrokenByThreads r probes before behind told) → (status ≡ Memory → ⊥) →
      Follows probes (Ok job) status was is before behind
  follows-threads told r (Ok last) e done sink memory ok broken m = follows-threads_done probes told job r last status was is before behind e done
      ok
  follows-threads told r (Err run_fault.Sink) e done sink memory ok broken m =
      follows-threads_broken probes told job r status was is before behind e (sink refl) (broken refl)
  follows-threads told r (Err run_fault.Memory) e done sink memory ok broken m = absurd (m (memory refl))

  pub follows-watch : (told : List Meter) (r : Monitor) (ended : Result Ending RunFault) → job ≡ MonitorJob r →
      IfOk ended (λ e. status ≡ ending_status e) → (ended ≡ Err run_fault.Sink → status ≡ SinkFault) →
      (ended ≡ Err run_fault.Memory → status ≡ Memory) → IfOk ended (λ e. IsWatchDone r probes e before behind told) →
      (ended ≡ Err run_fault.Sink → IsWatchBroken r probes before behind told) → (status ≡ Memory → ⊥) →
      Follows probes (Ok job) status was is before behind
  follows-watch told r (Ok last) e done sink memory ok broken m = follows-watch_done probes told job r last status was is before behind e done ok
  follows-watch told r (Err run_fault.Sink) e done sink memory ok broken m =
      follows-watch_broken probes told job r status was is before behind e (sink refl) (broken refl)
  follows-watch told r (Err run_fault.Memory) e done sink memory ok broken m = absurd (m (memory refl))

  pub follows-order : (told : List Meter) (r : Run) (order : Order) (ended : Result Ending RunFault) → job ≡ OrderedJob r order →
      IfOk ended (λ e. status ≡ ending_status e) → (ended ≡ Err run_fault.Sink → status ≡ SinkFault) →
      (ended ≡ Err run_fault.Memory → status ≡ Memory) → IfOk ended (λ e. IsOrderDone order r probes e before behind told) →
      (ended ≡ Err run_fault.Sink → IsOrderBroken order r probes was is before behind told) → (status ≡ Memory → ⊥) →
      Follows probes (Ok job) status was is before behind
  follows-order told r order (Ok last) e done sink memory ok broken m =
      follows-order_done probes told job r order last status was is before behind e done ok
  follows-order told r order (Err run_fault.Sink) e done sink memory ok broken m =
      follows-order_broken probes told job r order status was is before behind e (sink refl) (broken refl)
  follows-order told r order (Err run_fault.Memory) e done sink memory ok broken m = absurd (m (memory refl))

  pub follows-counted : (told : List Meter) (r : Run) (order : Order) (ended : Result Ending RunFault) → job ≡ CountedRunJob r order →
      IfOk ended (λ e. status ≡ ending_status e) → (ended ≡ Err run_fault.Sink → status ≡ SinkFault) →
      (ended ≡ Err run_fault.Memory → status ≡ Memory) → IfOk ended (λ e. IsDoneCounted order r probes e before behind told) →
      (ended ≡ Err run_fault.Sink → IsBrokenCounted order r probes before behind told) → (status ≡ Memory → ⊥) →
      Follows probes (Ok job) status was is before behind
  follows-counted told r order (Ok last) e done sink memory ok broken m =
      follows-counted_done probes told job r order last status was is before behind e done ok
  follows-counted told r order (Err run_fault.Sink) e done sink memory ok broken m =
      follows-counted_broken probes told job r order status was is before behind e (sink refl) (broken refl)
  follows-counted told r order (Err run_fault.Memory) e done sink memory ok broken m = absurd (m (memory refl))
