use Rattle.std.proofs.Common.{refl, arith}
use Rattle.std.proofs.lemmas.Result.{err_from_is_err_and}
use Rattle.script_replay.specs.Played.{since}
use Rattle.script_replay.proofs.Playing.{playing-starts}
use Rattle.script_replay.proofs.Since.{since-after, counted-after}
use Rattle.script_replay.proofs.Turned.{machine-next, played-next, stopped, machine-last, all-told, all-put}
use Rattle.script_replay.proofs.turns.put_turns.Goals as goal

pub events-init : goal.events-init
events-init g c = record {
  playing = playing-starts (since c.args.before c.args.machine.now) _ _ _ _ c.requires.fit c.requires.room;
  machine = refl;
  counted = c.requires.counted;
  console_later = omega arith;
  report_later = omega arith;
}

pub events-preserved : goal.events-preserved
events-preserved g c = record {
  playing = played-next c.args.events.now c.events.event-index c.event-item.result c.events-test.true c.event-item.is
      (since c.args.before c.args.machine.now) _ _ _ (since c.args.before c.events.machine) _ _ c.events.invariant.playing
      (since c.args.before c.turn_since.new.machine) _ _
      (since-after c.args.before c.events.machine c.turn_since.new.machine _ c.events.invariant.counted c.turn_since.ensures.next)
      c.turn_since.ensures.told c.in_ok-turn_since.ensures.ok;
  machine = machine-next c.args.events.now c.events.event-index c.event-item.result c.events-test.true c.event-item.is c.args.machine.now
      c.events.machine c.turn_since.new.machine c.turn_since.ensures.next c.events.invariant.machine;
  counted = counted-after c.args.before c.events.machine c.turn_since.new.machine _ c.events.invariant.counted c.turn_since.ensures.next;
  console_later = omega (arith, c.turn_since.ensures.console_later, c.events.invariant.console_later);
  report_later = omega (arith, c.turn_since.ensures.report_later, c.events.invariant.report_later);
}

pub returns-in_err-turn_since-clause-stops : goal.returns-in_err-turn_since-clause-stops
returns-in_err-turn_since-clause-stops g c =
    let p = err_from_is_err_and c.from_residual.result c.from_residual.ensures.1 in
    rw p.1
    (stopped c.args.events.now c.events.event-index c.event-item.result c.events-test.true c.event-item.is
    (since c.args.before c.args.machine.now) _ _ _ (since c.args.before c.events.machine) _ _ c.events.invariant.playing
    (since c.args.before c.turn_since.new.machine) _ _
    (since-after c.args.before c.events.machine c.turn_since.new.machine _ c.events.invariant.counted c.turn_since.ensures.next)
    c.turn_since.ensures.told c.in_err-turn_since.ensures.err)

pub returns-clause-machine : goal.returns-clause-machine
returns-clause-machine g c =
    machine-last c.args.events.now c.events.event-index (omega (arith, c.events-test.false, c.events.auto.event-index-end)) c.args.machine.now
    c.events.machine c.events.invariant.machine

pub returns-clause-told : goal.returns-clause-told
returns-clause-told g c =
    all-told c.args.events.now c.events.event-index (omega (arith, c.events-test.false, c.events.auto.event-index-end))
    (since c.args.before c.args.machine.now) _ _ _ (since c.args.before c.events.machine) _ _ c.events.invariant.playing

pub returns-clause-ok : goal.returns-clause-ok
returns-clause-ok g c =
    all-put c.args.events.now c.events.event-index (omega (arith, c.events-test.false, c.events.auto.event-index-end))
    (since c.args.before c.args.machine.now) _ _ _ (since c.args.before c.events.machine) _ _ c.events.invariant.playing
