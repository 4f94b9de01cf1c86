-- Events are applied one after another, and a driver counts them.
use Rattle.std.proofs.Common.{◌≡◌, ℕ, ◌+◌, ◌<◌, ◌≤◌, true, List, [], ◌∷◌, drop, length, get_or, refl, ap, sym, subst, ◌∙◌, arith}
use Rattle.std.proofs.lemmas.List.{drop_more, drop_all}
use Rattle.sn_base.specs.Events.{event_fits}
use Rattle.sn_base.specs.declared.event.Event.{Event}
use Rattle.sn_machine.specs.Machine.{MachineData, next_of}
use Rattle.consistent_cuts.specs.Runs.{AllFit}
use Rattle.due_events.specs.Numbers.{numbers_after}
use Rattle.due_events.specs.Runs.{numbers_along}
use Rattle.sn_driver.specs.Driver.{DriverData}
use Rattle.script_replay.specs.Played.{after_event}
use Rattle.driven_replay.specs.Answered.{after_events}

abbrev pub counted-along : DriverData → MachineData → List Event → DriverData
counted-along driver m events = record driver { numbers = numbers_along m.image m.config m.state driver.numbers events }

-- these are left of all events
pub record IsApplying (start : MachineData) (first : DriverData) (all : List Event) (m : MachineData) (driver : DriverData) (rest : List Event) : Type 0 where
  pub next : after_events m rest ≡ after_events start all
  pub counted : counted-along driver m rest ≡ counted-along first start all
  pub fit : AllFit m.config.nodes rest
  pub room : length rest ≤ m.spare
  pub life : driver.numbers.done + length rest ≤ 4000000000

pub applying-starts : (m : MachineData) (driver : DriverData) (events : List Event) → AllFit m.config.nodes events → length events ≤ m.spare →
    driver.numbers.done + length events ≤ 4000000000 → IsApplying m driver events m driver events
applying-starts m driver events fit room life = record { next = refl; counted = refl; fit = fit; room = room; life = life }

module _ (start : MachineData) (first : DriverData) (all : List Event) (m : MachineData) (driver : DriverData) (i : ℕ) (h : IsApplying start first all m driver (drop i all)) where
  -- one of them
  module _ (event d : Event) (below : i < length all) (is : event ≡ get_or all i d) where
    more : IsApplying start first all m driver (event ∷ drop (i + 1) all)
    more =
        subst (IsApplying start first all m driver)
        (drop_more all i d below ∙ ap (λ e. e ∷ drop (i + 1) all) (sym is)) h

    pub applying-fits : event_fits m.config.nodes event ≡ true
    applying-fits = more.fit.0.numbers

    pub applying-room : 1 ≤ m.spare
    applying-room = omega (arith, more.room)

    pub applying-life : driver.numbers.done < 4000000000
    applying-life = omega (arith, more.life)

    pub applying-next : (n : MachineData) (later : DriverData) → n ≡ after_event m event →
        later ≡ record driver { numbers = numbers_after driver.numbers event (next_of m event).answer } →
        later.numbers.done ≤ driver.numbers.done + 1 → IsApplying start first all n later (drop (i + 1) all)
    applying-next n later is_next counts one =
        let rest : List Event = drop (i + 1) all in
        let spare : n.spare ≡ (after_event m event).spare = ap (λ (t : MachineData). t.spare) is_next in
        record {
          next = ap (λ (t : MachineData). after_events t rest) is_next ∙ more.next;
          counted = ap (λ (t : MachineData). counted-along later t rest) is_next
              ∙ ap (λ (d : DriverData). counted-along d (after_event m event) rest) counts ∙ more.counted;
          fit = subst (λ (t : MachineData). AllFit t.config.nodes rest) (sym is_next) more.fit.1;
          room = omega (arith, spare, more.room);
          life = omega (arith, one, more.life);
        }

  -- none is left
  module _ (end : length all ≡ i) where
    last : IsApplying start first all m driver []
    last = subst (IsApplying start first all m driver) (drop_all i all (omega (arith, end))) h

    pub applied-all : m ≡ after_events start all
    applied-all = last.next

    pub counted-all : driver ≡ counted-along first start all
    counted-all = last.counted
