-- What was read of the files of a save and of a machine that goes on may begin, and how these jobs end.
use Rattle.std.proofs.Common.{◌≡◌, ◌≤◌, ℕ, List, [], true, length, refl, sym, subst, inl, inr}
use Rattle.std.specs.Prelude.{Option, Result, Ok, Err, OnOk}
use Rattle.sn_base.specs.Config.{config_fits}
use Rattle.sn_base.specs.Image.{ImageData}
use Rattle.sn_base.specs.declared.config.Config.{Config}
use Rattle.sn_base.specs.declared.event.Event.{Event}
use Rattle.sn_base.specs.declared.limits.TheConstants.{EVENTS}
use Rattle.sn_saved.specs.Saved.{Saved}
use Rattle.consistent_cuts.specs.Runs.{AllFit}
use Rattle.consistent_cuts.specs.Origins.{Resumed}
use Rattle.sn_machine.specs.Machine.{MachineData, HasRunFrom}
use Rattle.command_words.specs.Request.{watch_fits}
use Rattle.sn_probe.specs.Probes.{Meter}
use Rattle.sink_pieces.specs.Pieces.{Ends}
use Rattle.call_files.proofs.Watched.{watched_is}
use Rattle.script_replay.specs.declared.replaying.ReplayFault.{ReplayFault}
use Rattle.script_replay.specs.declared.replaying.ReplayFault.TheVariants as replay_fault
use Rattle.saved_replay.specs.declared.job.SavedReplay.{SavedReplay}
use Rattle.saved_replay.specs.Shown.{MaySave, IsDone as IsSaved, IsBrokenOff as IsSaveBroken}
use Rattle.resumed_replay.specs.declared.job.ResumedReplay.{ResumedReplay}
use Rattle.resumed_replay.specs.Shown.{MayGoOn, job_of, IsDone as IsGoneOn, IsBrokenOff as IsGoingOnBroken}
use Rattle.safetynet_main.specs.Outcome.{Finished}
use Rattle.safetynet_main.specs.Call.{Follows}
use Rattle.safetynet_main.specs.declared.job.Job.{Job}
use Rattle.safetynet_main.specs.declared.job.Job.TheVariants.{Save as SaveJob, Resume as ResumeJob}
use Rattle.call_status.specs.declared.status.Status.{Status}
use Rattle.call_status.specs.declared.status.Status.TheVariants.{Done, SinkFault, Memory}

pub save_may_begin : (config : Config) (image : ImageData) (events : List Event) → config_fits config ≡ true → AllFit config.nodes events →
    length events ≤ EVENTS → MaySave (record { program = image; config = config; script = events })
save_may_begin config image events fits fit few = record { run = record { fits = fits; events_fit = fit }; few = few }

pub resume_may_begin : (m : MachineData) (nodes : ℕ) (watch : Option ℕ) (events : List Event) → nodes ≡ m.config.nodes →
    (saved : Saved) × HasRunFrom m (Resumed saved) [] → AllFit nodes events → length events ≤ EVENTS → watch_fits watch ≡ true →
    MayGoOn (job_of m watch events)
resume_may_begin m nodes watch events same h fit few fits = record {
  saved = h.0;
  led = h.1;
  run = record { fits = h.1.run.fits; events_fit = subst (λ n. AllFit n events) same fit };
  few = few;
  watched = watched_is watch fits;
}

module _ (probes : List Meter) (job : Job) (status : Status) (was is : ℕ) (before behind : Ends) where
  of_job : (made : Job) → job ≡ made → Follows probes (Ok made) status was is before behind → Follows probes (Ok job) status was is before behind
  of_job made e h = subst (λ (j : Job). Follows probes (Ok j) status was is before behind) (sym e) h

  pub follows-save : (r : SavedReplay) (ended : Result (Unit {0}) ReplayFault) → job ≡ SaveJob r → OnOk ended (status ≡ Done) →
      (ended ≡ Err replay_fault.Sink → status ≡ SinkFault) → (ended ≡ Err replay_fault.Memory → status ≡ Memory) →
      OnOk ended (IsSaved r before behind) → (ended ≡ Err replay_fault.Sink → IsSaveBroken r before behind) →
      (status ≡ Memory → ⊥) → Follows probes (Ok job) status was is before behind
  follows-save r (Ok u) e done sink memory ok broken m = of_job (SaveJob r) e (inl (Finished, (refl, inl (done, ok.put, ok))))
  follows-save r (Err replay_fault.Sink) e done sink memory ok broken m =
      of_job (SaveJob r) e (inl (Finished, (refl, inr (sink refl, (broken refl).broken, broken refl))))
  follows-save r (Err replay_fault.Memory) e done sink memory ok broken m = absurd (m (memory refl))

  pub follows-resume : (r : ResumedReplay) (ended : Result (Unit {0}) ReplayFault) → job ≡ ResumeJob r → OnOk ended (status ≡ Done) →
      (ended ≡ Err replay_fault.Sink → status ≡ SinkFault) → (ended ≡ Err replay_fault.Memory → status ≡ Memory) →
      OnOk ended (IsGoneOn r probes before behind) → (ended ≡ Err replay_fault.Sink → IsGoingOnBroken r probes before behind) →
      (status ≡ Memory → ⊥) → Follows probes (Ok job) status was is before behind
  follows-resume r (Ok u) e done sink memory ok broken m = of_job (ResumeJob r) e (inl (Finished, (refl, inl (done, ok.put, ok))))
  follows-resume r (Err replay_fault.Sink) e done sink memory ok broken m =
      of_job (ResumeJob r) e (inl (Finished, (refl, inr (sink refl, (broken refl).broken, broken refl))))
  follows-resume r (Err replay_fault.Memory) e done sink memory ok broken m = absurd (m (memory refl))
