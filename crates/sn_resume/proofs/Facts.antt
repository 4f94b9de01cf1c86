-- What is known of a machine that is saved.
use Rattle.std.proofs.Common.{◌≡◌, ◌⊎◌, inl, inr, ⊎_elim, ℕ, zero, suc, ◌+◌, ◌*◌, ◌<◌, ◌≤◌, true, false, List, [], ◌∷◌, ◌++◌, length, map, get_or}
use Rattle.std.proofs.Common.{refl, sym, ap, subst, ◌∙◌, arith, Option, None}
use Rattle.std.specs.Prelude.{replicate, Result, Ok, Err, OnOk}
use Rattle.std.specs.List.{All}
use Rattle.std.proofs.lemmas.Bool.Decides.{nat_tests}
use Rattle.std.proofs.lemmas.List.{length-map, length-set, length_push}
use Rattle.std.proofs.lemmas.List.Elements.{All-nil, All-cons}
use Rattle.sn_base.specs.Image.{ImageData}
use Rattle.sn_base.specs.declared.block.Write.{Write}
use Rattle.sn_base.specs.declared.config.Config.{Config}
use Rattle.sn_base.specs.declared.event.Event.{Event}
use Rattle.sn_base.specs.declared.event.Event.TheVariants as event
use Rattle.route_plan.specs.Distances.{is_dead}
use Rattle.route_plan.specs.Routes.{first_cut_off}
use Rattle.rv_core.specs.declared.step.Record.{Record}
use Rattle.rv_core.specs.Flat.{FlatState, first_cores, flat_start, flat_step, after_write, next_by}
use Rattle.rv_core.specs.Execution.{Executes}
use Rattle.sn_model.specs.Machine.{State}
use Rattle.sn_model.specs.PointEvents.{living_switches}
use Rattle.sn_model.specs.Step.{step_of, state_after}
use Rattle.sn_saved.specs.Resumed.{resumed}
use Rattle.sn_saved.specs.Saved.{Saved, IsInForm, given_from, saved_of, most_saved, most_applied}
use Rattle.consistent_cuts.specs.Headline.{IsRun}
use Rattle.consistent_cuts.specs.Origins.{Origin, Start, Resumed, MayBegin, state_at, applied_at, reached_from, retirements_from}
use Rattle.consistent_cuts.specs.Runs.{EventFits, AllFit}
use Rattle.consistent_cuts.proofs.GivenDead.{IsNoKill, IsMarked, event_keeps, marked_same, killed}
use Rattle.consistent_cuts.proofs.Resumption.{recovery_resumes}
use Rattle.consistent_cuts.proofs.Run.{from_holds, from_consistent}
use Rattle.consistent_cuts.proofs.SavedForm.{saved_form}
use Rattle.sn_text.specs.Written.{HasValues, IsRecordOf}
use Rattle.sn_machine.specs.Machine.{MachineData, IsConsistentWithItsRun}
use Rattle.save_text.specs.Reading.{said_by}
use Rattle.save_text.specs.Text.{saved_text}
use Rattle.save_text.proofs.ReadBack.{read_back}
use Rattle.sn_io.specs.declared.outside.Failed.{Failed}
use Rattle.sn_resume.specs.Saving.{IsSavable}

-- no switch dies but one of the machine

none_set : (n i : ℕ) → get_or (replicate n false) i false ≡ false
none_set zero i = refl
none_set (suc n) zero = refl
none_set (suc n) (suc i) = none_set n i

kill_or : (image : ImageData) (config : Config) (s : State) (e : Event) → ((k : ℕ) × (e ≡ event.Kill k)) ⊎ IsNoKill image config s e
kill_or image config s (event.Kill k) = inl (k, refl)
kill_or image config s (event.Step n) = inr tt
kill_or image config s (event.Evict n block) = inr tt
kill_or image config s (event.Edge n) = inr tt
kill_or image config s (event.Hop id) = inr tt
kill_or image config s (event.Deliver id) = inr tt
kill_or image config s (event.Lose id) = inr tt
kill_or image config s (event.Report n) = inr tt
kill_or image config s event.Validate = inr tt
kill_or image config s event.Recover = inr tt
kill_or image config s (event.Input n byte) = inr tt

abbrev AreOwn : ℕ → State → Type 0
AreOwn nodes s = (k : ℕ) → 2 * nodes ≤ k → is_dead s.fabric.net.dead k ≡ false

module _ (image : ImageData) (config : Config) where
  killed_marks : (s : State) (switch : ℕ) → switch < 2 * config.nodes →
      IsMarked image config s config.nodes (step_of image config s (event.Kill switch)).state
  unfolding step_of
  killed_marks s switch low = (killed image config s switch config.nodes low).0

  event_marks : (s : State) (e : Event) → EventFits config.nodes e → IsMarked image config s config.nodes (step_of image config s e).state
  event_marks s e fits = ⊎_elim
      (λ (k : (switch : ℕ) × (e ≡ event.Kill switch)). subst (λ (x : Event). IsMarked image config s config.nodes (step_of image config s x).state) (sym k.1)
      (killed_marks s k.0 (low k.0 (subst (EventFits config.nodes) k.1 fits))))
      (λ (k : IsNoKill image config s e). marked_same image config s config.nodes (step_of image config s e) (event_keeps image config s e k))
      (kill_or image config s e)
    where
      low : (switch : ℕ) → EventFits config.nodes (event.Kill switch) → switch < 2 * config.nodes
      low switch f = let g = f.numbers in grind (arith, nat_tests)

  run_owns : (s : State) (events : List Event) → AllFit config.nodes events → AreOwn config.nodes s →
      AreOwn config.nodes (state_after image config s events)
  run_owns s [] fits h = h
  run_owns s (event ∷ events) fits h =
      run_owns (step_of image config s event).state events fits.1 (λ k l. (event_marks s event fits.0).1 k l ∙ h k l)

origin_owns : (image : ImageData) (config : Config) (origin : Origin) → MayBegin image config origin → AreOwn config.nodes (state_at image config origin)
origin_owns image config Start may = λ k l. none_set 32 k
origin_owns image config (Resumed saved) may =
    subst (λ (c : Config). AreOwn c.nodes (resumed image saved)) may.0 may.1.form.switches

-- the records of an execution are of its cores

count_cores : (n entry : ℕ) → length (first_cores n entry) ≡ n
count_cores zero entry = refl
count_cores (suc n) entry = length_push (first_cores n entry) _ ∙ omega (arith, count_cores n entry)

cores_stay : (image : ImageData) (flat : FlatState) (r : Record) → length (flat_step image flat r).cores ≡ length flat.cores
cores_stay image flat r =
    let wrote : Option Write = (next_by image flat r).effect.write in
    length-set (map (after_write wrote) flat.cores) r.core (next_by image flat r).core ∙ length-map flat.cores (after_write wrote)

records_within : (image : ImageData) (nodes : ℕ) (flat : FlatState) (records : List Record) → length flat.cores ≡ nodes →
    Executes image flat records → All HasValues records → All (IsRecordOf nodes) records
records_within image nodes flat [] count does values = All-nil (IsRecordOf nodes)
records_within image nodes flat (r ∷ records) count does values =
    let first : IsRecordOf nodes r = record { core = omega (arith, does.0.within, count); values = values 0 r (omega arith) } in
    All-cons (IsRecordOf nodes) r records first
    (records_within image nodes (flat_step image flat r) records (cores_stay image flat r ∙ count) does.1
    (λ k d l. values (suc k) d (omega (arith, l))))

-- after a run from where one may begin
module _ (image : ImageData) (config : Config) (origin : Origin) (events : List Event) (may : MayBegin image config origin) (run : IsRun config events) where
  abbrev s : State
  s = reached_from image config origin events

  abbrev applied : ℕ
  applied = applied_at origin + length events

  owns : AreOwn config.nodes s
  owns = run_owns image config (state_at image config origin) events run.events_fit (origin_owns image config origin may)

  processors : length s.processors ≡ config.nodes
  processors = let h = from_holds image config origin events may run in h.1.2.shape.processors ∙ h.0

  reads_back : applied ≤ most_applied → length (given_from 0 s.processors) ≤ most_saved → length s.committed ≤ most_saved →
      All (λ byte. byte.1 < 256) (given_from 0 s.processors) → All HasValues s.committed →
      said_by (saved_text (saved_of config s applied)) ≡ Ok (saved_of config s applied)
  reads_back few bytes records numbers values =
      read_back (saved_of config s applied) (saved_form image config origin events may run few bytes records) (record {
        bytes = numbers;
        records =
            records_within image config.nodes (flat_start image config.nodes) s.committed (count_cores config.nodes image.entry)
            (from_consistent image config origin events may run).execution values;
      })

  resumes : first_cut_off (living_switches s.fabric) ≡ None → (step_of image config s event.Recover).state ≡ resumed image (saved_of config s applied)
  resumes joined =
      recovery_resumes image config s (retirements_from image config origin events) applied (from_holds image config origin events may run) joined

-- of a machine
module _ (m : MachineData) (h : IsConsistentWithItsRun m) where
  pub machine_owns : (k : ℕ) → 2 * m.config.nodes ≤ k → is_dead m.state.fabric.net.dead k ≡ false
  machine_owns =
      subst (λ (s : State). AreOwn m.config.nodes s) (sym h.led.state) (owns m.image m.config h.origin h.events h.led.may h.led.run)

  pub machine_processors : length m.state.processors ≡ m.config.nodes
  machine_processors =
      ap (λ (s : State). length s.processors) h.led.state ∙ processors m.image m.config h.origin h.events h.led.may h.led.run

  abbrev IsReadBack : State → ℕ → Type 0
  IsReadBack s applied =
      applied ≤ most_applied → length (given_from 0 s.processors) ≤ most_saved → length s.committed ≤ most_saved →
      All (λ byte. byte.1 < 256) (given_from 0 s.processors) → All HasValues s.committed →
      said_by (saved_text (saved_of m.config s applied)) ≡ Ok (saved_of m.config s applied)

  pub machine_reads_back : IsReadBack m.state m.applied
  machine_reads_back =
      subst (λ (n : ℕ). IsReadBack m.state n) h.led.count
      (subst (λ (s : State). IsReadBack s (applied_at h.origin + length h.events)) (sym h.led.state)
      (reads_back m.image m.config h.origin h.events h.led.may h.led.run))

  pub machine_resumes : first_cut_off (living_switches m.state.fabric) ≡ None →
      (step_of m.image m.config m.state event.Recover).state ≡ resumed m.image (saved_of m.config m.state m.applied)
  machine_resumes =
      subst (λ (n : ℕ). first_cut_off (living_switches m.state.fabric) ≡ None →
      (step_of m.image m.config m.state event.Recover).state ≡ resumed m.image (saved_of m.config m.state n)) h.led.count
      (subst (λ (s : State). first_cut_off (living_switches s.fabric) ≡ None →
      (step_of m.image m.config s event.Recover).state ≡ resumed m.image (saved_of m.config s (applied_at h.origin + length h.events))) (sym h.led.state)
      (resumes m.image m.config h.origin h.events h.led.may h.led.run))

  -- where its text was put whole
  pub machine_read_back : IsSavable m.state → (r : Result (Unit {0}) Failed) →
      OnOk r (All (λ byte. byte.1 < 256) (given_from 0 m.state.processors)) → OnOk r (All HasValues m.state.committed) →
      OnOk r (m.applied ≤ most_applied → said_by (saved_text (saved_of m.config m.state m.applied)) ≡ Ok (saved_of m.config m.state m.applied))
  machine_read_back small (Ok done) numbers values = λ few. machine_reads_back few small.bytes small.records numbers values
  machine_read_back small (Err failed) numbers values = tt
