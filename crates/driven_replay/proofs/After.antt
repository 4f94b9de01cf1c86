-- A machine that events have led to some state, and a line more.
use Rattle.std.proofs.Common.{◌≡◌, ℕ, ◌+◌, ◌<◌, ◌≤◌, Bool, true, false, cond, nat_lt, List, [], ◌∷◌, ◌++◌, take, map, length, refl, ap, sym, subst, ◌∙◌}
use Rattle.std.proofs.Common.{append_assoc, append-nil, length-append, arith}
use Rattle.std.proofs.lemmas.Bool.Decides.{nat_tests}
use Rattle.std.proofs.lemmas.List.{take_all, length-take}
use Rattle.sn_base.specs.Image.{ImageData}
use Rattle.sn_base.specs.declared.config.Config.{Config}
use Rattle.sn_base.specs.declared.event.Event.{Event}
use Rattle.sn_model.specs.Machine.{State}
use Rattle.sn_model.specs.Step.{step_of, state_after}
use Rattle.sn_machine.specs.Machine.{MachineData, next_of}
use Rattle.consistent_cuts.specs.Headline.{state_of_run}
use Rattle.consistent_cuts.specs.Runs.{AllFit, EventFits}
use Rattle.sn_probe.specs.Probes.{Meter, told_of}
use Rattle.driven_replay.specs.declared.job.DriveShowing.{DriveShowing}
use Rattle.script_replay.specs.Played.{after_event}
use Rattle.script_replay.proofs.Fits.{all_fit-take}
use Rattle.driven_replay.specs.declared.job.Said.{Said}
use Rattle.driven_replay.specs.declared.job.Said.TheVariants.{Nothing, Does, Foresees, Looks, Marks, Back, Refused}
use Rattle.driven_replay.specs.Said.{done_after, event_in, SaidFits}
use Rattle.driven_replay.specs.Answers.{answer_of}
use Rattle.due_events.specs.Numbers.{Numbers, numbers_after}
use Rattle.driven_replay.specs.Dues.{usual_rules, numbers_of}
use Rattle.driven_replay.specs.Told.{told_by}
use Rattle.driven_replay.specs.Answered.{IsFresh, IsAfter, answer_now, fresh_machine, after_events, machine_after, driver_after, driver_of, told_after}
use Rattle.driven_replay.proofs.Counted.{numbers-last}
use Rattle.driven_replay.proofs.Lines.{fit-last}
use Rattle.sn_base.specs.declared.limits.TheConstants.{EVENTS}

pub state-last : (image : ImageData) (config : Config) (s : State) (done : List Event) (event : Event) →
    state_after image config s (done ++ event ∷ []) ≡ (step_of image config (state_after image config s done) event).state
state-last image config s [] event = refl
state-last image config s (first ∷ done) event = state-last image config (step_of image config s first).state done event

pub after-start : (m : MachineData) → IsFresh m → IsAfter m [] m
after-start m fresh = record {
  program = refl;
  sizes = refl;
  state = fresh.start;
  count = fresh.new;
  room = omega (arith, fresh.new, fresh.room);
  fit = tt;
}

module _ (start m : MachineData) (done : List Event) (h : IsAfter start done m) where
  -- its answers are those of the state that they lead to
  pub answer-is : (showing : DriveShowing) (number : ℕ) (said : Said) →
      answer_now m (driver_of start done) showing number said
      ≡ answer_of start.image start.config showing (length done) (state_of_run start.image start.config done)
      (numbers_of start.image start.config done) number said
  answer-is showing number said =
      let x : Numbers = numbers_of start.image start.config done in
      ap (λ s. answer_of m.image m.config showing m.applied s x number said) h.state
      ∙ ap (λ n. answer_of m.image m.config showing n (state_of_run start.image start.config done) x number said) h.count
      ∙ ap (λ (t : Config). answer_of m.image t showing (length done) (state_of_run start.image start.config done) x number said) h.sizes
      ∙ ap (λ (t : ImageData). answer_of t start.config showing (length done) (state_of_run start.image start.config done) x number said) h.program

  next-state : (event : Event) → (after_event m event).state ≡ state_of_run start.image start.config (done ++ event ∷ [])
  next-state event =
      ap (λ (t : State). (step_of m.image m.config t event).state) h.state
      ∙ ap (λ (t : Config). (step_of m.image t (state_of_run start.image start.config done) event).state) h.sizes
      ∙ ap (λ (t : ImageData). (step_of t start.config (state_of_run start.image start.config done) event).state) h.program
      ∙ sym (state-last start.image start.config _ done event)

  fits-event : (event : Event) → SaidFits m.config.nodes (Does event) → EventFits start.config.nodes event
  fits-event event fits =
      let there = subst (λ (t : Config). SaidFits t.nodes (Does event)) h.sizes fits in
      record { numbers = there.0; block = there.1 }

  -- an event more
  after-one : (event : Event) → EventFits start.config.nodes event → 1 ≤ m.spare → IsAfter start (done ++ event ∷ []) (after_event m event)
  after-one event fits room = record {
    program = h.program;
    sizes = h.sizes;
    state = next-state event;
    count = omega (arith, h.count, length-append done (event ∷ []));
    room = omega (arith, h.room, room);
    fit = fit-last start.config.nodes done event h.fit fits;
  }

  -- what the probes are told of a line
  pub told-is : (said : Said) (probes : List Meter) → told_after m said probes ≡ told_by start.image start.config done said probes
  told-is (Does event) probes =
      ap (λ n. map (told_of (n + 1) event (next_of m event).answer) probes) h.count
      ∙ ap (λ (t : State). map (told_of (length done + 1) event (step_of m.image m.config t event).answer) probes) h.state
      ∙ ap (λ (t : Config). map (told_of (length done + 1) event (step_of m.image t (state_of_run start.image start.config done) event).answer) probes)
      h.sizes
      ∙ ap (λ (t : ImageData). map (told_of (length done + 1) event (step_of t start.config (state_of_run start.image start.config done) event).answer)
      probes) h.program
  told-is Nothing probes = refl
  told-is (Foresees event) probes = refl
  told-is (Looks asked) probes = refl
  told-is Marks probes = refl
  told-is (Back events) probes = refl
  told-is (Refused fault) probes = refl

-- events more
after-many : (start m : MachineData) (done more : List Event) → IsAfter start done m → AllFit start.config.nodes more →
    length done + length more ≤ EVENTS → IsAfter start (done ++ more) (after_events m more)
after-many start m done [] h fit room = subst (λ (t : List Event). IsAfter start t m) (sym (append-nil done)) h
after-many start m done (event ∷ more) h fit room =
    let some : 1 ≤ m.spare = omega (arith, h.count, h.room, room) in
    let few : length (done ++ event ∷ []) + length more ≤ EVENTS = omega (arith, room, length-append done (event ∷ [])) in
    subst (λ (t : List Event). IsAfter start t (after_events m (event ∷ more))) (append_assoc done (event ∷ []) more)
    (after-many start (after_event m event) (done ++ event ∷ []) more (after-one start m done h event fit.0 some) fit.1 few)

after-fresh : (start : MachineData) → IsAfter start [] (fresh_machine start.image start.config)
after-fresh start = record {
  program = refl;
  sizes = refl;
  state = refl;
  count = refl;
  room = omega arith;
  fit = tt;
}

-- the first of the events, on a machine made anew
after-anew : (start : MachineData) (done : List Event) (events : ℕ) → length done ≤ EVENTS → AllFit start.config.nodes done →
    IsAfter start (take events done) (after_events (fresh_machine start.image start.config) (take events done))
after-anew start done events few fit =
    let less : 0 + length (take events done) ≤ EVENTS = omega (arith, few, length-take events done) in
    after-many start (fresh_machine start.image start.config) [] (take events done) (after-fresh start)
    (all_fit-take start.config.nodes done events fit) less

beyond : (done events : ℕ) → nat_lt done events ≡ true → done < events
beyond done events is = grind (arith, nat_tests)

module _ (start m : MachineData) (done : List Event) (h : IsAfter start done m) where
  abbrev anew : ℕ → MachineData
  anew events = after_events (fresh_machine m.image m.config) (take events done)

  after-led : (events : ℕ) → IsAfter start (take events done) (anew events)
  after-led events =
      let few : length done ≤ EVENTS = omega (arith, h.count, h.room) in
      subst (λ (t : MachineData). IsAfter start (take events done) (after_events t (take events done)))
      (sym (ap (λ (t : ImageData). fresh_machine t m.config) h.program ∙ ap (λ (t : Config). fresh_machine start.image t) h.sizes))
      (after-anew start done events few h.fit)

  all-taken : (events : ℕ) → nat_lt m.applied events ≡ true → take events done ≡ done
  all-taken events is = take_all events done (omega (arith, beyond m.applied events is, h.count))

  after-back : (events : ℕ) (over : Bool) → nat_lt m.applied events ≡ over → IsAfter start (take events done) (cond over m (anew events))
  after-back events true is = subst (λ (t : List Event). IsAfter start t m) (sym (all-taken events is)) h
  after-back events false is = after-led events

  pub after-next : (said : Said) → SaidFits m.config.nodes said → length (event_in said) ≤ m.spare →
      IsAfter start (done_after done said) (machine_after m done said)
  after-next (Does event) fits room = after-one start m done h event (fits-event start m done h event fits) room
  after-next (Back events) fits room = after-back events (nat_lt m.applied events) refl
  after-next Nothing fits room = h
  after-next (Foresees event) fits room = h
  after-next (Looks asked) fits room = h
  after-next Marks fits room = h
  after-next (Refused fault) fits room = h

  -- the driver that has counted them, with what else is said
  counted-event : (event : Event) → driver_after (driver_of start done) m done (Does event) ≡ driver_of start (done ++ event ∷ [])
  counted-event event =
      let x : Numbers = numbers_of start.image start.config done in
      ap (λ (n : Numbers). record { rules = usual_rules; nodes = start.config.nodes; numbers = n })
      (ap (λ (t : State). numbers_after x event (step_of m.image m.config t event).answer) h.state
      ∙ ap (λ (t : Config). numbers_after x event (step_of m.image t (state_of_run start.image start.config done) event).answer) h.sizes
      ∙ ap (λ (t : ImageData). numbers_after x event (step_of t start.config (state_of_run start.image start.config done) event).answer) h.program
      ∙ sym (numbers-last start.image start.config done event))

  same-driver : (events : List Event) → driver_of m events ≡ driver_of start events
  same-driver events =
      ap (λ (t : ImageData). record { rules = usual_rules; nodes = m.config.nodes; numbers = numbers_of t m.config events }) h.program
      ∙ ap (λ (t : Config). record { rules = usual_rules; nodes = t.nodes; numbers = numbers_of start.image t events }) h.sizes

  counted-back : (events : ℕ) (over : Bool) → nat_lt m.applied events ≡ over →
      cond over (driver_of start done) (driver_of m (take events done)) ≡ driver_of start (take events done)
  counted-back events true is = ap (driver_of start) (sym (all-taken events is))
  counted-back events false is = same-driver (take events done)

  pub counted-more : (said : Said) → driver_after (driver_of start done) m done said ≡ driver_of start (done_after done said)
  counted-more (Does event) = counted-event event
  counted-more (Back events) = counted-back events (nat_lt m.applied events) refl
  counted-more Nothing = refl
  counted-more (Foresees event) = refl
  counted-more (Looks asked) = refl
  counted-more Marks = refl
  counted-more (Refused fault) = refl
