use Rattle.std.proofs.Common.{refl, ap, ◌∙◌, arith}
use Rattle.sn_machine.specs.Machine.{MachineData}
use Rattle.run_journals.specs.Journal.{Began}
use Rattle.node_run.proofs.Puts.{rose-later}
use Rattle.ordered_run.proofs.Leaving.{same-self, same-then, ends-refused}
use Rattle.ordered_run.proofs.Puts.{put-none, put-same, had-few, then-whole, then-begun}
use Rattle.ordered_run.proofs.turns.make_turns.Goals as goal

pub turns-init : goal.turns-init
turns-init g c = record {
  stands = c.requires.stands;
  ready = c.requires.ready;
  counts = c.requires.counts;
  same = same-self c.args.course.now;
  put = put-none c.args.course.now.machine.state.released (g.C.Sink.written c.args.console.now);
  later = omega arith;
}

pub put_new-requires : goal.put_new-requires
put_new-requires g c =
    let next = c.in-None.ensures.on refl in
    had-few c.args.course.now.machine.state.released c.turns.course.machine.state.released c.turn.new.course.machine.state.released
    c.released-had.result.now _ (g.C.Sink.written c.args.console.now) (g.C.Sink.written c.turns.console) (g.C.Sink.written c.turns.console)
    next.grows (c.released-had.ensures ∙ ap (λ (m : MachineData). m.state.released) c.recovered.ensures.shown) refl

pub turns-preserved : goal.turns-preserved
turns-preserved g c =
    let next = c.in-None.ensures.on refl in record {
      stands = next.stands;
      ready = next.ready;
      counts = c.turn.ensures.counts;
      same = same-then c.args.course.now c.turns.course c.turn.new.course c.turns.invariant.same next.same;
      put =
          then-whole c.args.course.now.machine.state.released c.turns.course.machine.state.released c.turn.new.course.machine.state.released
          c.released-had.result.now _ (g.C.Sink.written c.args.console.now) (g.C.Sink.written c.turns.console)
          (g.C.Sink.written c.put_new.new.console) next.grows
          (c.released-had.ensures ∙ ap (λ (m : MachineData). m.state.released) c.recovered.ensures.shown) refl c.turns.invariant.put
          c.in-Ok.ensures.ok;
      later = omega (arith, c.put_new.ensures.later, c.turns.invariant.later);
    }

pub turns-smaller : goal.turns-smaller
turns-smaller g c =
    let next = c.in-None.ensures.on refl in
    let same = ap (λ (b : Began). b.budget) next.same.start in
    let few = next.stands.follows.few in
    let more = next.more in omega (arith, same, few, more)

pub returns-in-Some-clause-stands : goal.returns-in-Some-clause-stands
returns-in-Some-clause-stands g c = c.in-Some.ensures.stop.stands

pub returns-in-Some-clause-same : goal.returns-in-Some-clause-same
returns-in-Some-clause-same g c =
    same-then c.args.course.now c.turns.course c.turn.new.course c.turns.invariant.same c.in-Some.ensures.stop.same

pub returns-in-Some-clause-ends : goal.returns-in-Some-clause-ends
returns-in-Some-clause-ends g c =
    ends-refused c.args.course.now c.turn.new.course (g.C.Sink.written c.args.console.now) (g.C.Sink.written c.turns.console)
    (g.C.Sink.faults c.args.console.now) (g.C.Sink.faults c.turns.console) c.in-Some.finish c.in-Some.ensures.stop.refusal
    (put-same c.args.course.now.machine.state.released c.turns.course.machine c.turn.new.course.machine
    (g.C.Sink.written c.args.console.now) (g.C.Sink.written c.turns.console) c.in-Some.ensures.stop.machine c.turns.invariant.put)

pub returns-in-Err-clause-same : goal.returns-in-Err-clause-same
returns-in-Err-clause-same g c =
    let next = c.in-None.ensures.on refl in
    same-then c.args.course.now c.turns.course c.turn.new.course c.turns.invariant.same next.same

pub returns-in-Err-clause-stands : goal.returns-in-Err-clause-stands
returns-in-Err-clause-stands g c = let next = c.in-None.ensures.on refl in next.stands

pub returns-in-Err-clause-ends : goal.returns-in-Err-clause-ends
returns-in-Err-clause-ends g c =
    let next = c.in-None.ensures.on refl in (
      then-begun c.args.course.now.machine.state.released c.turns.course.machine.state.released c.turn.new.course.machine.state.released
          c.released-had.result.now _ (g.C.Sink.written c.args.console.now) (g.C.Sink.written c.turns.console)
          (g.C.Sink.written c.put_new.new.console) next.grows
          (c.released-had.ensures ∙ ap (λ (m : MachineData). m.state.released) c.recovered.ensures.shown) refl c.turns.invariant.put
          c.in-Err.ensures.err,
      rose-later (g.C.Sink.faults c.args.console.now) (g.C.Sink.faults c.turns.console) (g.C.Sink.faults c.put_new.new.console)
          c.turns.invariant.later c.in-Err.ensures.cause,
    )
