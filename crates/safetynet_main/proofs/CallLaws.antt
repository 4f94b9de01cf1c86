-- What follows of a call from how its files were found.
use Rattle.std.proofs.Common.{◌≡◌, ℕ, List, [], ◌∷◌, ◌++◌, length, refl, ap, sym, subst, ◌∙◌, inl, inr, append-nil}
use Rattle.std.specs.Prelude.{Option, Some, None, IfSome, IfOk, Result, Ok, Err, ◌⊎◌}
use Rattle.sn_io.specs.Outside.{Found, Rose, followed_by}
use Rattle.command_words.specs.Request.{Request}
use Rattle.sn_probe.specs.Probes.{Meter}
use Rattle.sink_pieces.specs.Pieces.{Ends, Report, ends, after, Breaks}
use Rattle.sink_pieces.proofs.PieceLaws.{followed_by-nil}
use Rattle.access_check.specs.declared.verdict.Verdict.{Verdict as AccessVerdict}
use Rattle.access_check.specs.declared.verdict.Verdict.TheVariants as access_verdict
use Rattle.access_texts.specs.Lists.{Said}
use Rattle.access_texts.specs.Verdicts.{verdict_text, IsPut, IsBrokenOff as IsAccessBroken}
use Rattle.monitor_run.specs.Ending.{Ending}
use Rattle.monitor_run.specs.Ending.TheVariants as ending
use Rattle.monitor_run.specs.Run.{Run}
use Rattle.monitor_run.specs.NodeRunShown.{IsDone as IsRunDone, IsBrokenOff as IsRunBroken}
use Rattle.monitor_run.specs.Pieces.{begins}
use Rattle.turn_orders.specs.declared.order.Order.{Order}
use Rattle.seed_runs.specs.Ordered.{ordered_journal}
use Rattle.seed_runs.specs.declared.job.SeedRuns.{SeedRuns}
use Rattle.seed_runs.specs.Shown.{IsCountedByThreads, IsBrokenByThreads, IsDoneCounted, IsBrokenCounted, AreShown as AreSeedsShown, AreBrokenOff as AreSeedsBroken}
use Rattle.seed_runs.specs.OrderedRunShown.{IsDone as IsOrderDone, IsBrokenOff as IsOrderBroken}
use Rattle.monitor_run.specs.declared.job.Monitor.{Monitor}
use Rattle.monitor_run.specs.Shown.{IsDone as IsWatchDone, IsBrokenOff as IsWatchBroken}
use Rattle.safetynet_main.specs.LoadPlan.{Loads}
use Rattle.call_files.specs.Fetches.{Fetches}
use Rattle.call_files.proofs.Found.{if_some-intro}
use Rattle.safetynet_main.specs.Call.{AsksNothing, plan_of, due_of, EndsIn, Follows, Comes, IsCutShort, EndsInTheMiddle}
use Rattle.safetynet_main.specs.Outcome.{Outcome, Finished, Judged, JudgedAccesses, Ran, Watched, IsVerdict, verdict_line, verdict_status}
use Rattle.safetynet_main.specs.Outcome.{access_status, ending_status, status_of}
use Rattle.safetynet_main.specs.declared.job.Check.{Check}
use Rattle.safetynet_main.specs.declared.job.Job.{Job}
use Rattle.safetynet_main.specs.declared.job.Job.TheVariants.{Run as RunJob, OrderedRun as OrderedJob, Monitor as MonitorJob}
use Rattle.safetynet_main.specs.declared.job.Job.TheVariants.{CountedByThreads as CountedByThreadsJob, CountedRun as CountedRunJob, Seeds as SeedsJob}
use Rattle.safetynet_main.specs.declared.job.Job.TheVariants.{Check as CheckJob, Judge as JudgeJob}
use Rattle.safetynet_main.specs.declared.job.Verdict.{Verdict}
use Rattle.safetynet_main.specs.declared.job.Verdict.TheVariants as verdict
use Rattle.call_status.specs.declared.status.Status.{Status}
use Rattle.call_status.specs.declared.status.Status.TheVariants.{Done, Usage, BadPlaces, StoreFault, BadProgram, BadScript, BadSave, BadAsm, SinkFault}
use Rattle.call_status.specs.declared.status.Status.TheVariants.{Budget, Memory, CutOff, Refused, Trapped, InputFault}
use Rattle.safetynet_main.proofs.LoadPlans.{plan-of_words, loads-sure, loads-told, loads-rose, loads-usage, refused-at_once}

-- a run ends in no refusal
ending-not_refused : (ending : Ending) (refusal : Status) → (refusal ≡ StoreFault) ⊎ (refusal ≡ Usage) → ending_status ending ≡ refusal → ⊥
ending-not_refused ending.Exited refusal (inl w) e = cc
ending-not_refused ending.Exited refusal (inr w) e = cc
ending-not_refused (ending.Trapped node cause) refusal (inl w) e = cc
ending-not_refused (ending.Trapped node cause) refusal (inr w) e = cc
ending-not_refused (ending.CutOff a b) refusal (inl w) e = cc
ending-not_refused (ending.CutOff a b) refusal (inr w) e = cc
ending-not_refused ending.Spent refusal (inl w) e = cc
ending-not_refused ending.Spent refusal (inr w) e = cc

-- nor does a job
not_refused : (outcome : Outcome) (refusal : Status) → (refusal ≡ StoreFault) ⊎ (refusal ≡ Usage) → status_of outcome ≡ refusal → ⊥
not_refused Finished refusal (inl w) e = cc
not_refused Finished refusal (inr w) e = cc
not_refused (Judged verdict.Legal) refusal (inl w) e = cc
not_refused (Judged verdict.Legal) refusal (inr w) e = cc
not_refused (Judged (verdict.Refused place)) refusal (inl w) e = cc
not_refused (Judged (verdict.Refused place)) refusal (inr w) e = cc
not_refused (JudgedAccesses access_verdict.Legal) refusal (inl w) e = cc
not_refused (JudgedAccesses access_verdict.Legal) refusal (inr w) e = cc
not_refused (JudgedAccesses (access_verdict.Refused fault)) refusal (inl w) e = cc
not_refused (JudgedAccesses (access_verdict.Refused fault)) refusal (inr w) e = cc
not_refused (Ran journal ending) refusal which e = ending-not_refused ending refusal which e
not_refused (Watched journal seen ending) refusal which e = ending-not_refused ending refusal which e

-- nor is a broken sink one
not_sink : (status refusal : Status) → status ≡ SinkFault → (refusal ≡ StoreFault) ⊎ (refusal ≡ Usage) → status ≡ refusal → ⊥
not_sink status refusal s (inl w) e = cc
not_sink status refusal s (inr w) e = cc

-- the status of a job that is refused is its refusal
refused-job : (probes : List Meter) (status refusal : Status) (job : Result Job Status) (was is : ℕ) (before behind : Ends) →
    Follows probes job status was is before behind → status ≡ refusal → (refusal ≡ StoreFault) ⊎ (refusal ≡ Usage) → job ≡ Err refusal
refused-job probes status refusal (Err s) was is before behind h e which = ap (λ t. Err t) (sym h.0 ∙ e)
refused-job probes status refusal (Ok job) was is before behind (inl (outcome, (due, inl h))) e which =
    absurd (not_refused outcome refusal which (sym h.0 ∙ e))
refused-job probes status refusal (Ok job) was is before behind (inl (outcome, (due, inr h))) e which = absurd (not_sink status refusal h.0 which e)
refused-job probes status refusal (Ok job) was is before behind (inr h) e which = absurd (not_sink status refusal h.0 which e)

store_fault-status : (probes : List Meter) (status : Status) (job : Result Job Status) (was is : ℕ) (before behind : Ends) →
    Follows probes job status was is before behind → job ≡ Err StoreFault → status ≡ StoreFault
store_fault-status probes status (Err s) was is before behind h e = h.0 ∙ cc
store_fault-status probes status (Ok job) was is before behind h e = absurd cc

is_memory : (status : Status) → (status ≡ Memory) ⊎ (status ≡ Memory → ⊥)
is_memory Memory = inl refl
is_memory Done = inr (λ e. cc)
is_memory Usage = inr (λ e. cc)
is_memory (BadPlaces events) = inr (λ e. cc)
is_memory StoreFault = inr (λ e. cc)
is_memory (BadProgram cause) = inr (λ e. cc)
is_memory (BadScript cause) = inr (λ e. cc)
is_memory (BadSave cause) = inr (λ e. cc)
is_memory (BadAsm cause) = inr (λ e. cc)
is_memory SinkFault = inr (λ e. cc)
is_memory InputFault = inr (λ e. cc)
is_memory Budget = inr (λ e. cc)
is_memory (CutOff a b) = inr (λ e. cc)
is_memory (Refused place) = inr (λ e. cc)
is_memory (Trapped node cause) = inr (λ e. cc)

done-or_fault : (probes : List Meter) (job : Job) (status : Status) (was is : ℕ) (before behind : Ends) (R : Type 0) →
    Follows probes (Ok job) status was is before behind → (status ≡ SinkFault → R) → (R → ⊥) → EndsIn job status
done-or_fault probes job status was is before behind R (inl (outcome, (due, inl h))) cause quiet = (outcome, due, h.0)
done-or_fault probes job status was is before behind R (inl (outcome, (due, inr h))) cause quiet = absurd (quiet (cause h.0))
done-or_fault probes job status was is before behind R (inr h) cause quiet = absurd (quiet (cause h.0))

-- where all is good and no sink's count rose
is-complete : (probes : List Meter) (due : Result Job Status) (status : Status) (was is : ℕ) (before behind : Ends) (R : Type 0) →
    ((status ≡ Memory → ⊥) → Follows probes due status was is before behind) → (status ≡ SinkFault → R) →
    IfOk due (λ job. (R → ⊥) → EndsIn job status ⊎ (status ≡ Memory))
is-complete probes (Err refusal) status was is before behind R follows cause = tt
is-complete probes (Ok job) status was is before behind R follows cause = λ quiet. by_memory quiet (is_memory status) where
  by_memory : (R → ⊥) → (status ≡ Memory) ⊎ (status ≡ Memory → ⊥) → EndsIn job status ⊎ (status ≡ Memory)
  by_memory quiet (inl m) = inr m
  by_memory quiet (inr m) = inl (done-or_fault probes job status was is before behind R (follows m) cause quiet)

module _ {S : Type 0} (files : S → Option (List ℕ → Option (List ℕ))) (sure : S → Type 0) (faults : S → ℕ) (gave : S → List ℕ → Found → S → Type 0) (old new : S) (probes : List Meter) (ask : Option Request) (status : Status) (was is : ℕ) (before behind : Ends) where
  -- the call knows its probes by the set that it makes of them
  of_given : (given : List Meter) → given ≡ probes → Comes (Fetches files sure faults gave) given ask status old new was is before behind →
      Comes (Fetches files sure faults gave) probes ask status old new was is before behind
  of_given given same h = subst (λ (p : List Meter). Comes (Fetches files sure faults gave) p ask status old new was is before behind) same h

  pub comes-rose : Comes (Fetches files sure faults gave) probes ask status old new was is before behind → status ≡ StoreFault →
      Rose (faults old) (faults new)
  comes-rose h e =
      loads-rose files sure faults gave (plan_of ask) h.0 old new (plan-of_words ask) h.1
      (refused-job probes status StoreFault h.0 was is before behind h.2 e (inl refl))

  pub comes-usage : Comes (Fetches files sure faults gave) probes ask status old new was is before behind → status ≡ Usage → AsksNothing ask
  comes-usage h e =
      refused-at_once ask (loads-usage files sure faults gave (plan_of ask) h.0 old new (plan-of_words ask) h.1
      (refused-job probes status Usage h.0 was is before behind h.2 e (inr refl)))

  -- over a sure store a call does what is due
  comes-sure : (held : List ℕ → Option (List ℕ)) → Comes (Fetches files sure faults gave) probes ask status old new was is before behind →
      sure old → files old ≡ Some held → Follows probes (due_of held ask) status was is before behind
  comes-sure held h s e =
      subst (λ (j : Result Job Status). Follows probes j status was is before behind)
      (loads-sure files sure faults gave (plan_of ask) h.0 old new held h.1 s e) h.2

  comes-told : (held : List ℕ → Option (List ℕ)) → Comes (Fetches files sure faults gave) probes ask status old new was is before behind →
      files old ≡ Some held → (status ≡ StoreFault → ⊥) → Follows probes (due_of held ask) status was is before behind
  comes-told held h e fine =
      subst (λ (j : Result Job Status). Follows probes j status was is before behind)
      (loads-told files sure faults gave (plan_of ask) h.0 old new held (plan-of_words ask) h.1 e
      (λ m. fine (store_fault-status probes status h.0 was is before behind h.2 m))) h.2

  -- these, as the clauses of the call have them
  pub clause-comes : (given : List Meter) →
      ((status ≡ Memory → ⊥) → Comes (Fetches files sure faults gave) given ask status old new was is before behind) → given ≡ probes →
      (status ≡ Memory → ⊥) → Comes (Fetches files sure faults gave) probes ask status old new was is before behind
  clause-comes given h same m = of_given given same (h m)

  pub clause-sure : (given : List Meter) →
      ((status ≡ Memory → ⊥) → Comes (Fetches files sure faults gave) given ask status old new was is before behind) → given ≡ probes → sure old →
      IfSome (files old) (λ held. (status ≡ Memory → ⊥) → Follows probes (due_of held ask) status was is before behind)
  clause-sure given h same s =
      if_some-intro (files old) (λ held. (status ≡ Memory → ⊥) → Follows probes (due_of held ask) status was is before behind)
      (λ held e m. comes-sure held (of_given given same (h m)) s e)

  pub clause-told : (given : List Meter) →
      ((status ≡ Memory → ⊥) → Comes (Fetches files sure faults gave) given ask status old new was is before behind) → given ≡ probes →
      IfSome (files old) (λ held. (status ≡ Memory → ⊥) → (status ≡ StoreFault → ⊥) → Follows probes (due_of held ask) status was is before behind)
  clause-told given h same =
      if_some-intro (files old)
      (λ held. (status ≡ Memory → ⊥) → (status ≡ StoreFault → ⊥) → Follows probes (due_of held ask) status was is before behind)
      (λ held e m fine. comes-told held (of_given given same (h m)) e fine)

  pub clause-complete : (R : Type 0) →
      ((status ≡ Memory → ⊥) → Comes (Fetches files sure faults gave) probes ask status old new was is before behind) → (status ≡ SinkFault → R) →
      sure old → IfSome (files old) (λ held. IfOk (due_of held ask) (λ job. (R → ⊥) → EndsIn job status ⊎ (status ≡ Memory)))
  clause-complete R h cause s =
      if_some-intro (files old) (λ held. IfOk (due_of held ask) (λ job. (R → ⊥) → EndsIn job status ⊎ (status ≡ Memory)))
      (λ held e. is-complete probes (due_of held ask) status was is before behind R (λ m. comes-sure held (h m) s e) cause)

-- words that ask for nothing: nothing is fetched, and the status is Usage
pub comes-none : {S : Type 0} (fetches : S → List ℕ → ℕ → Found → S → Type 0) (probes : List Meter) (ask : Option Request) (old : S)
    (was is : ℕ) (before : Ends) → ask ≡ None → Comes fetches probes ask Usage old old was is before before
comes-none fetches probes ask old was is before e =
    (Err Usage, subst (λ (a : Option Request). Loads fetches (plan_of a) (Err Usage) old old) (sym e) (refl, refl), (refl, refl))

-- words that ask for something
pub comes-some : {S : Type 0} (fetches : S → List ℕ → ℕ → Found → S → Type 0) (probes : List Meter) (ask : Option Request) (r : Request)
    (job : Result Job Status) (status : Status) (old new : S) (was is : ℕ) (before behind : Ends) → ask ≡ Some r →
    Loads fetches (plan_of (Some r)) job old new → Follows probes job status was is before behind →
    Comes fetches probes ask status old new was is before behind
comes-some fetches probes ask r job status old new was is before behind e h follows =
    (job, subst (λ (a : Option Request). Loads fetches (plan_of a) job old new) (sym e) h, follows)

-- a job that is a check puts no probe's numbers
pub follows-check : (probes : List Meter) (job : Job) (c : Check) (status : Status) (was is : ℕ) (before behind : Ends) → job ≡ CheckJob c →
    ((given : List Meter) → Follows given (Ok (CheckJob c)) status was is before behind) → Follows probes (Ok job) status was is before behind
follows-check probes job c status was is before behind e h = subst (λ (j : Job). Follows probes (Ok j) status was is before behind) (sym e) (h probes)

-- nor does one that judges accesses
pub follows-judge : (probes : List Meter) (job : Job) (said : Said) (status : Status) (was is : ℕ) (before behind : Ends) → job ≡ JudgeJob said →
    ((given : List Meter) → Follows given (Ok (JudgeJob said)) status was is before behind) → Follows probes (Ok job) status was is before behind
follows-judge probes job said status was is before behind e h =
    subst (λ (j : Job). Follows probes (Ok j) status was is before behind) (sym e) (h probes)

-- how each job comes to its outcome

pub follows-verdict_done : (probes : List Meter) (c : Check) (verdict : Verdict) (status : Status) (was is : ℕ) (before behind : Ends) →
    IsVerdict c verdict → status ≡ verdict_status verdict → behind ≡ after before (Report (verdict_line c verdict) ∷ []) →
    Follows probes (Ok (CheckJob c)) status was is before behind
follows-verdict_done probes c verdict status was is before behind right s put = inl (Judged verdict, (right, inl (s, put, tt)))

pub follows-verdict_broken : (probes : List Meter) (c : Check) (verdict : Verdict) (status : Status) (was is : ℕ) (before behind : Ends) →
    IsVerdict c verdict → status ≡ SinkFault → Breaks (Report (verdict_line c verdict) ∷ []) before behind →
    Follows probes (Ok (CheckJob c)) status was is before behind
follows-verdict_broken probes c verdict status was is before behind right s broken = inl (Judged verdict, (right, inr (s, broken, tt)))

-- a text that the report got is its piece
put_alone : (c old new : Option (List ℕ)) (text : List ℕ) → new ≡ followed_by old text → ends c new ≡ after (ends c old) (Report text ∷ [])
unfolding after
put_alone c old new text h =
    ap (λ t. ends c t) (h ∙ ap (λ t. followed_by old t) (sym (append-nil text)))
    ∙ ap (λ t. ends t (followed_by old (text ++ []))) (sym (followed_by-nil c))

pub follows-accesses_done : (probes : List Meter) (said : Said) (verdict : AccessVerdict) (status : Status) (was is : ℕ)
    (c old new : Option (List ℕ)) → status ≡ access_status verdict → IsPut said old new verdict →
    Follows probes (Ok (JudgeJob said)) status was is (ends c old) (ends c new)
follows-accesses_done probes said verdict status was is c old new s h =
    inl (JudgedAccesses verdict, (h.right, inl (s, put_alone c old new (verdict_text (length said.accesses) verdict) h.written, tt)))

pub follows-accesses_broken : (probes : List Meter) (said : Said) (verdict : AccessVerdict) (status : Status) (was is : ℕ)
    (c old new : Option (List ℕ)) → status ≡ SinkFault → IsAccessBroken said old new verdict →
    Follows probes (Ok (JudgeJob said)) status was is (ends c old) (ends c new)
follows-accesses_broken probes said verdict status was is c old new s h =
    inl (JudgedAccesses verdict, (h.right, inr (s, h.breaks c, tt)))

-- where memory was lacking nothing is written, or the job was cut short that the words asked for
pub middle-some : {S : Type 0} (fetches : S → List ℕ → ℕ → Found → S → Type 0) (probes : List Meter) (ask : Option Request) (r : Request)
    (job : Job) (status : Status) (old new : S) (before behind : Ends) (A : Type 0) → ask ≡ Some r →
    Loads fetches (plan_of (Some r)) (Ok job) old new → A ⊎ ((status ≡ Memory) × IsCutShort probes job before behind) →
    A ⊎ ((status ≡ Memory) × EndsInTheMiddle fetches probes ask old new before behind)
middle-some fetches probes ask r job status old new before behind A e h (inl a) = inl a
middle-some fetches probes ask r job status old new before behind A e h (inr (m, cut)) =
    inr (m, (job, subst (λ (a : Option Request). Loads fetches (plan_of a) (Ok job) old new) (sym e) h, cut))

pub middle-same : {S : Type 0} (fetches : S → List ℕ → ℕ → Found → S → Type 0) (probes others : List Meter) (ask : Option Request)
    (status : Status) (old new : S) (before behind : Ends) (A : Type 0) → others ≡ probes →
    A ⊎ ((status ≡ Memory) × EndsInTheMiddle fetches others ask old new before behind) →
    A ⊎ ((status ≡ Memory) × EndsInTheMiddle fetches probes ask old new before behind)
middle-same fetches probes others ask status old new before behind A e h =
    subst (λ (p : List Meter). A ⊎ ((status ≡ Memory) × EndsInTheMiddle fetches p ask old new before behind)) e h

pub follows-run_done : (probes told : List Meter) (job : Job) (r : Run) (ending : Ending) (status : Status) (was is : ℕ) (before behind : Ends) →
    job ≡ RunJob r → status ≡ ending_status ending → IsRunDone r probes ending before behind told →
    Follows probes (Ok job) status was is before behind
follows-run_done probes told job r ending status was is before behind e s (journal, (h, knows)) =
    subst (λ (j : Job). Follows probes (Ok j) status was is before behind) (sym e)
    (inl (Ran journal ending, ((h.journal_is, h.ended), inl (s, h.put, h.shown))))

broken-run : (probes told : List Meter) (r : Run) (status : Status) (was is : ℕ) (before behind : Ends) → status ≡ SinkFault →
    IsRunBroken r probes was is before behind told → Follows probes (Ok (RunJob r)) status was is before behind
broken-run probes told r status was is before behind s (journal, (knows, inl (rose, h))) = inr (s, (rose, (journal, h)))
broken-run probes told r status was is before behind s (journal, (knows, inr (ending, h))) =
    inl (Ran journal ending, ((h.journal_is, h.ended), inr (s, h.broken, h.shown)))

pub follows-run_broken : (probes told : List Meter) (job : Job) (r : Run) (status : Status) (was is : ℕ) (before behind : Ends) →
    job ≡ RunJob r → status ≡ SinkFault → IsRunBroken r probes was is before behind told → Follows probes (Ok job) status was is before behind
follows-run_broken probes told job r status was is before behind e s h =
    subst (λ (j : Job). Follows probes (Ok j) status was is before behind) (sym e) (broken-run probes told r status was is before behind s h)

pub follows-order_done : (probes told : List Meter) (job : Job) (r : Run) (order : Order) (ending : Ending) (status : Status) (was is : ℕ)
    (before behind : Ends) → job ≡ OrderedJob r order → status ≡ ending_status ending → IsOrderDone order r probes ending before behind told →
    Follows probes (Ok job) status was is before behind
follows-order_done probes told job r order ending status was is before behind e s (h, knows) =
    subst (λ (j : Job). Follows probes (Ok j) status was is before behind) (sym e)
    (inl (Ran (ordered_journal order (begins r)) ending, ((refl, h.journal_is, h.ended), inl (s, h.put, h.shown))))

broken-order : (probes told : List Meter) (r : Run) (order : Order) (status : Status) (was is : ℕ) (before behind : Ends) →
    status ≡ SinkFault → IsOrderBroken order r probes was is before behind told → Follows probes (Ok (OrderedJob r order)) status was is before behind
broken-order probes told r order status was is before behind s (inl (turn, h)) = inr (s, (h.rose, (turn, h.stopped)))
broken-order probes told r order status was is before behind s (inr (ending, h)) =
    inl (
      Ran (ordered_journal order (begins r)) ending,
      (
        (refl, h.cut_short.journal_is, h.cut_short.ended),
        inr (s, h.cut_short.broken, h.cut_short.shown),
      ),
    )

pub follows-order_broken : (probes told : List Meter) (job : Job) (r : Run) (order : Order) (status : Status) (was is : ℕ)
    (before behind : Ends) → job ≡ OrderedJob r order → status ≡ SinkFault → IsOrderBroken order r probes was is before behind told →
    Follows probes (Ok job) status was is before behind
follows-order_broken probes told job r order status was is before behind e s h =
    subst (λ (j : Job). Follows probes (Ok j) status was is before behind) (sym e) (broken-order probes told r order status was is before behind s h)

pub follows-watch_done : (probes told : List Meter) (job : Job) (r : Monitor) (ending : Ending) (status : Status) (was is : ℕ)
    (before behind : Ends) → job ≡ MonitorJob r → status ≡ ending_status ending → IsWatchDone r probes ending before behind told →
    Follows probes (Ok job) status was is before behind
follows-watch_done probes told job r ending status was is before behind e s (journal, seen, h, knows) =
    subst (λ (j : Job). Follows probes (Ok j) status was is before behind) (sym e)
    (inl (Watched journal seen ending, ((h.watched, h.ended), inl (s, h.put, h))))

pub follows-watch_broken : (probes told : List Meter) (job : Job) (r : Monitor) (status : Status) (was is : ℕ) (before behind : Ends) →
    job ≡ MonitorJob r → status ≡ SinkFault → IsWatchBroken r probes before behind told → Follows probes (Ok job) status was is before behind
follows-watch_broken probes told job r status was is before behind e s (journal, seen, ending, h, knows) =
    subst (λ (j : Job). Follows probes (Ok j) status was is before behind) (sym e)
    (inl (Watched journal seen ending, ((h.watched, h.ended), inr (s, h.broken, h))))

-- a run by threads that is counted
pub follows-threads_done : (probes told : List Meter) (job : Job) (r : Run) (ending : Ending) (status : Status) (was is : ℕ)
    (before behind : Ends) → job ≡ CountedByThreadsJob r → status ≡ ending_status ending → IsCountedByThreads r probes ending before behind told →
    Follows probes (Ok job) status was is before behind
follows-threads_done probes told job r ending status was is before behind e s (journal, h) =
    subst (λ (j : Job). Follows probes (Ok j) status was is before behind) (sym e)
    (inl (Ran journal ending, ((h.lawful.journal_is, h.lawful.ended), inl (s, h.put, (h.lawful, h.output)))))

pub follows-threads_broken : (probes told : List Meter) (job : Job) (r : Run) (status : Status) (was is : ℕ)
    (before behind : Ends) → job ≡ CountedByThreadsJob r → status ≡ SinkFault → IsBrokenByThreads r probes before behind told →
    Follows probes (Ok job) status was is before behind
follows-threads_broken probes told job r status was is before behind e s (journal, h) =
    subst (λ (j : Job). Follows probes (Ok j) status was is before behind) (sym e)
    (inl (Ran journal h.ending, ((h.lawful.journal_is, h.lawful.ended), inr (s, h.broken, h.lawful))))

-- a run in an order that is counted
pub follows-counted_done : (probes told : List Meter) (job : Job) (r : Run) (order : Order) (ending : Ending) (status : Status) (was is : ℕ)
    (before behind : Ends) → job ≡ CountedRunJob r order → status ≡ ending_status ending → IsDoneCounted order r probes ending before behind told →
    Follows probes (Ok job) status was is before behind
follows-counted_done probes told job r order ending status was is before behind e s h =
    subst (λ (j : Job). Follows probes (Ok j) status was is before behind) (sym e)
    (inl (Ran (ordered_journal order (begins r)) ending, ((refl, h.lawful.journal_is, h.ended), inl (s, h.put, (h.lawful, h.output)))))

pub follows-counted_broken : (probes told : List Meter) (job : Job) (r : Run) (order : Order) (status : Status) (was is : ℕ)
    (before behind : Ends) → job ≡ CountedRunJob r order → status ≡ SinkFault → IsBrokenCounted order r probes before behind told →
    Follows probes (Ok job) status was is before behind
follows-counted_broken probes told job r order status was is before behind e s h =
    subst (λ (j : Job). Follows probes (Ok j) status was is before behind) (sym e)
    (inl (Ran (ordered_journal order (begins r)) h.lawful.ending, ((refl, h.lawful.journal_is, h.lawful.ended), inr (s, h.broken, h.lawful))))

-- runs for the seeds of a range
pub follows-seeds_done : (probes : List Meter) (job : Job) (r : SeedRuns) (status : Status) (was is : ℕ) (before behind : Ends) →
    job ≡ SeedsJob r → status ≡ Done → AreSeedsShown r before behind → Follows probes (Ok job) status was is before behind
follows-seeds_done probes job r status was is before behind e s h =
    subst (λ (j : Job). Follows probes (Ok j) status was is before behind) (sym e) (inl (Finished, (refl, inl (s, h.put, h))))

pub follows-seeds_broken : (probes : List Meter) (job : Job) (r : SeedRuns) (status : Status) (was is : ℕ) (before behind : Ends) →
    job ≡ SeedsJob r → status ≡ SinkFault → AreSeedsBroken r before behind → Follows probes (Ok job) status was is before behind
follows-seeds_broken probes job r status was is before behind e s h =
    subst (λ (j : Job). Follows probes (Ok j) status was is before behind) (sym e) (inl (Finished, (refl, inr (s, h.broken, h))))
