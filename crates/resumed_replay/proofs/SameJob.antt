-- What was done of a machine with room was done of the job, whose machine has as yet none; and it may go on as well.
use Rattle.std.proofs.Common.{◌≡◌, ◌≤◌, ℕ, ◌+◌, true, List, [], take, length, ap, sym, subst, inl, inr, arith}
use Rattle.std.proofs.lemmas.Bool.Decides.{nat_tests}
use Rattle.std.specs.Prelude.{Option}
use Rattle.sn_base.specs.declared.event.Event.{Event}
use Rattle.sn_saved.specs.Saved.{Saved, marks_fit, most_applied}
use Rattle.consistent_cuts.specs.Origins.{Resumed}
use Rattle.sn_machine.specs.Machine.{MachineData, HasRunFrom}
use Rattle.sn_probe.specs.Probes.{Meter}
use Rattle.sink_pieces.specs.Pieces.{Ends}
use Rattle.resumed_replay.specs.declared.job.ResumedReplay.{ResumedReplay}
use Rattle.resumed_replay.specs.Shown.{MayGoOn, job_of, told_script, turns_of, pieces_due, IsMoment, IsLawful, IsDone, IsBrokenOff, KnowApplied}

-- the machine with room for so many events more
abbrev pub with_room : MachineData → ℕ → MachineData
with_room m room = record m { spare = room }

pub may-with_room : (m : MachineData) (room : ℕ) (watch : Option ℕ) (events : List Event) → MayGoOn (job_of m watch events) →
    MayGoOn (job_of (with_room m room) watch events)
may-with_room m room watch events h = record {
  saved = h.saved;
  led = record { may = h.led.may; run = h.led.run; state = h.led.state; count = h.led.count };
  run = h.run;
  few = h.few;
  watched = h.watched;
}

module _ (m : MachineData) (room : ℕ) (watch : Option ℕ) (events : List Event) (probes : List Meter) where
  abbrev roomy : ResumedReplay
  roomy = job_of (with_room m room) watch events

  abbrev asked : ResumedReplay
  asked = job_of m watch events

  led-without : (saved : Saved) → HasRunFrom (with_room m room) (Resumed saved) [] → HasRunFrom m (Resumed saved) []
  led-without saved h = record { may = h.may; run = h.run; state = h.state; count = h.count }

  moment-without : (saved : Saved) (first : List Event) → IsMoment roomy probes saved first → IsMoment asked probes saved first
  unfolding turns_of pieces_due
  moment-without saved first h =
      record { consistent = h.consistent; adds = h.adds; others = h.others; order = h.order; output = h.output }

  lawful-without : IsLawful roomy probes → IsLawful asked probes
  lawful-without h = record {
    saved = h.saved;
    led = led-without h.saved h.led;
    moments = λ i. moment-without h.saved (take i events) (h.moments i);
  }

  module _ (before behind : Ends) where
    pub done-without : IsDone roomy probes before behind → IsDone asked probes before behind
    unfolding pieces_due
    done-without h = record { put = h.put; lawful = lawful-without h.lawful; fresh = h.fresh; adds = h.adds; output = h.output }

    pub broken-without : IsBrokenOff roomy probes before behind → IsBrokenOff asked probes before behind
    unfolding pieces_due
    broken-without h = record {
      broken = h.broken;
      lawful = lawful-without h.lawful;
      fresh = h.fresh;
      adds = h.adds;
      output = h.output;
      report = h.report;
    }

    pub known-without : (told : List Meter) → KnowApplied roomy probes before behind told → KnowApplied asked probes before behind told
    unfolding turns_of pieces_due
    known-without told (inl (i, h)) =
        inl (i, record { below = h.below; pieces = h.pieces; are = h.are; broken = h.broken; knows = h.knows })
    known-without told (inr h) = inr (record { pieces = h.pieces; are = h.are; broken = h.broken; knows = h.knows })

-- the job in the words of its machine, its watched word and its events
pub as-asked : (r : ResumedReplay) (events : List Event) → events ≡ r.script → job_of r.machine r.watch events ≡ r
as-asked r events same = ap (job_of r.machine r.watch) same

-- what its machine was saved of had so few events that there is room for these
few-saved : (saved : Saved) → marks_fit saved.marks ≡ true → saved.marks.applied ≤ most_applied
few-saved saved fit = grind (arith, nat_tests, fit)

pub few-in_all : (r : ResumedReplay) (events : List Event) → events ≡ r.script → MayGoOn r →
    r.machine.applied + length events ≤ 4000000000
few-in_all r events same h =
    let was = few-saved h.saved h.led.may.1.form.numbers in let count = h.led.count in let few = h.few in let l = ap length same in
    omega (arith, was, count, few, l)

-- the job's events on the machine that has room for them: it may go on, and what was done was done of the job
module _ (r : ResumedReplay) (events : List Event) (same : events ≡ r.script) (m : MachineData) (room : ℕ) (is : m ≡ with_room r.machine room) where
  pub may-begin : MayGoOn r → MayGoOn (job_of m r.watch events)
  may-begin h =
      subst (λ (t : MachineData). MayGoOn (job_of t r.watch events)) (sym is)
      (may-with_room r.machine room r.watch events (subst MayGoOn (sym (as-asked r events same)) h))

  module _ (probes : List Meter) where
    pub as-told : (now_ : List Meter) → now_ ≡ told_script (job_of m r.watch events) probes → now_ ≡ told_script r probes
    as-told now_ h =
        subst (λ (t : ResumedReplay). now_ ≡ told_script t probes) (as-asked r events same)
        (subst (λ (t : MachineData). now_ ≡ told_script (job_of t r.watch events) probes) is h)

    module _ (before behind : Ends) where
      pub as-done : IsDone (job_of m r.watch events) probes before behind → IsDone r probes before behind
      as-done h =
          subst (λ (t : ResumedReplay). IsDone t probes before behind) (as-asked r events same)
          (done-without r.machine room r.watch events probes before behind
          (subst (λ (t : MachineData). IsDone (job_of t r.watch events) probes before behind) is h))

      pub as-broken : IsBrokenOff (job_of m r.watch events) probes before behind → IsBrokenOff r probes before behind
      as-broken h =
          subst (λ (t : ResumedReplay). IsBrokenOff t probes before behind) (as-asked r events same)
          (broken-without r.machine room r.watch events probes before behind
          (subst (λ (t : MachineData). IsBrokenOff (job_of t r.watch events) probes before behind) is h))

      pub as-applied : (told : List Meter) → KnowApplied (job_of m r.watch events) probes before behind told →
          KnowApplied r probes before behind told
      as-applied told h =
          subst (λ (t : ResumedReplay). KnowApplied t probes before behind told) (as-asked r events same)
          (known-without r.machine room r.watch events probes before behind told
          (subst (λ (t : MachineData). KnowApplied (job_of t r.watch events) probes before behind told) is h))
