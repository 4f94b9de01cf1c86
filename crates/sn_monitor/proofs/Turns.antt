-- A turn keeps what a monitored machine keeps.
use Rattle.std.proofs.Common.{◌≡◌, ℕ, ◌+◌, ◌-◌, ◌^◌, ◌<◌, ◌≤◌, true, List, [], ◌∷◌, ◌++◌, length, sym, subst, ap, ◌∙◌, arith}
use Rattle.sn_base.specs.declared.event.Event.{Event}
use Rattle.sn_base.specs.declared.event.Answer.{Answer}
use Rattle.sn_model.specs.MachineEvents.{is_validated}
use Rattle.sn_machine.specs.Machine.{MachineData, IsApplied, next_of}
use Rattle.sn_driver.specs.declared.turn.Turn.{Turn}
use Rattle.sn_driver.specs.declared.turn.Turn.TheVariants.{Did, Over, CutOff}
use Rattle.sn_driver.specs.Driver.{DriverData}
use Rattle.sn_driver.specs.Turns.{Took, IsLater}
use Rattle.snap_board.specs.Snap.{SnapData}
use Rattle.snap_board.specs.Fronts.{EndsIn}
use Rattle.snap_board.proofs.Fronts.{one_last, ends_added}
use Rattle.sn_monitor.specs.Goes.{records, Goes}
use Rattle.sn_monitor.specs.declared.monitored.Published.{Published}
use Rattle.sn_monitor.specs.declared.monitored.Published.TheVariants.{Nothing, New, Memory}
use Rattle.sn_monitor.specs.Monitored.{is_validation, Shows}
use Rattle.sn_monitor.proofs.Points.{GoesOn, step_goes}

-- an event
module _ (m after : MachineData) (event : Event) (answer : Answer) (a : IsApplied m after event answer) where
  step : GoesOn m.state (next_of m event)
  step = step_goes m.image m.config m.state event

  pub point_stays : m.state.fabric.point ≤ after.state.fabric.point
  point_stays = let e = ap (λ (x : MachineData). x.state.fabric.point) a.left in let h = step.point in omega (arith, e, h)

  pub records_more : records after.state ≤ records m.state + 1
  records_more = let e = ap (λ (x : MachineData). records x.state) a.left in let h = step.records_are in omega (arith, e, h)

  pub point_rises : is_validated answer ≡ true → m.state.fabric.point < after.state.fabric.point
  point_rises v =
      let e = ap (λ (x : MachineData). x.state.fabric.point) a.left in
      let h = step.rises (ap is_validated (sym a.answer) ∙ v) in omega (arith, e, h)

  pub applied_more : after.applied ≡ m.applied + 1
  applied_more = ap (λ (x : MachineData). x.applied) a.left

  pub spare_less : after.spare ≡ m.spare - 1
  spare_less = ap (λ (x : MachineData). x.spare) a.left

-- what a turn leaves, whatever it came to, if no list is longer
module _ (driver later : DriverData) (m after : MachineData) (published : List SnapData) (h : Goes m driver published) (l : IsLater driver m later after) (room : 1 ≤ m.spare) where
  applied : (event : Event) (answer : Answer) → IsApplied m after event answer → Goes after later published
  applied event answer a = record {
    nodes = l.nodes ∙ h.nodes ∙ ap (λ c. c.nodes) (sym l.config);
    done = let d = l.done in let e = h.done in let n = applied_more m after event answer a in omega (arith, d, e, n);
    life =
        let e = h.life in let n = applied_more m after event answer a in let k = spare_less m after event answer a in
        omega (arith, e, n, k, room);
    few =
        let e = h.few in let n = applied_more m after event answer a in let k = records_more m after event answer a in omega (arith, e, n, k);
    below = λ s ends. let e = h.below s ends in let k = point_stays m after event answer a in omega (arith, e, k);
  }

  same : later ≡ driver → after ≡ m → Goes after later published
  same d e =
      subst (λ (x : MachineData). Goes x later published) (sym e) (subst (λ (x : DriverData). Goes m x published) (sym d) h)

  pub turn_goes : (worker pick : ℕ) (turn : Turn) → Took driver m worker pick turn later after → Goes after later published
  turn_goes worker pick (Did event answer) t = applied event answer t.1
  turn_goes worker pick Over t = same t.1 t.2
  turn_goes worker pick (CutOff a b) t = same t.2 t.3

  -- a validation leaves a point above what was published
  pub turn_rises : (worker pick : ℕ) (turn : Turn) → Took driver m worker pick turn later after → is_validation turn ≡ true →
      (s : SnapData) → EndsIn published s → s.point < after.state.fabric.point
  turn_rises worker pick (Did event answer) t v s ends =
      let e = h.below s ends in let k = point_rises m after event answer t.1 v in omega (arith, e, k)
  turn_rises worker pick Over t v s ends = absurd (grind (arith, v))
  turn_rises worker pick (CutOff a b) t v s ends = absurd (grind (arith, v))

  pub few_committed : (worker pick : ℕ) (turn : Turn) → Took driver m worker pick turn later after →
      length after.state.committed < 2 ^ 32
  few_committed worker pick turn t =
      let g = turn_goes worker pick turn t in let a = g.few in let b = g.life in omega (arith, a, b)

-- once a snapshot is published, it is the last
pub published_goes : (m : MachineData) (driver : DriverData) (published longer : List SnapData) (last : SnapData) →
    Goes m driver published → longer ≡ published ++ last ∷ [] → last.point ≡ m.state.fabric.point → Goes m driver longer
published_goes m driver published longer last h is point = record {
  nodes = h.nodes;
  done = h.done;
  life = h.life;
  few = h.few;
  below = λ s ends.
      let e = one_last longer s last ends (ends_added published longer last is) in
      let k = ap (λ (t : SnapData). t.point) e in omega (arith, k, point);
}

pub shows_goes : (m : MachineData) (driver : DriverData) (said : Published) (before after : List SnapData) (snap : SnapData) →
    Goes m driver before → snap.point ≡ m.state.fabric.point → Shows said before snap after → Goes m driver after
shows_goes m driver Nothing before after snap h point shows = absurd shows
shows_goes m driver New before after snap h point shows = published_goes m driver before after snap h shows point
shows_goes m driver Memory before after snap h point shows = subst (λ (l : List SnapData). Goes m driver l) (sym shows) h
