use Rattle.std.proofs.Common.{All, subst, refl, arith}
use Rattle.sn_model.specs.Machine.{State}
use Rattle.sn_text.specs.Written.{HasValues}
use Rattle.script_replay.specs.Scheduled.{left_on, replay_of}
use Rattle.script_replay.proofs.Performed.{performed-all, performed-part, performed-told, performed-applied}
use Rattle.script_replay.proofs.Playing.{left-noted, playing-starts, playing-next, playing-breaks, playing-stops}
use Rattle.script_replay.proofs.Playing.{playing-reached, playing-told, playing-ends, end-breaks, end-stops}
use Rattle.script_replay.proofs.play.play.Goals as goal

pub events-init : goal.events-init
events-init g c = record {
  playing = playing-starts c.args.machine.now c.args.showing.now _ _ _ c.requires.begin.run.events_fit c.requires.ready.room;
  serves = c.requires.serves;
  console_later = omega arith;
  report_later = omega arith;
}

pub events-preserved : goal.events-preserved
events-preserved g c = record {
  playing =
      playing-next _ _ _ _ _ c.events.machine _ _ _ c.in-Some.event _ c.in-Some.ensures.next c.events.invariant.playing
      c.turn.new.machine _ _ c.turn.ensures.next c.turn.ensures.told _
      (left-noted _ (g.S.Schedule.noted c.next.new.self c.in-Some.event) c.events.machine c.turn.new.machine c.in-Some.event _
      c.note.ensures.noted c.in-Ok-turn.ensures.answer c.turn.ensures.next)
      c.in-Ok-turn.ensures.ok;
  serves = c.note.ensures.serves _ (c.next.ensures.serves _ c.events.invariant.serves);
  console_later = omega (arith, c.turn.ensures.console_later, c.events.invariant.console_later);
  report_later = omega (arith, c.turn.ensures.report_later, c.events.invariant.report_later);
}

pub returns-in-Err-clause-sink : goal.returns-in-Err-clause-sink
returns-in-Err-clause-sink g c = λ no.
    let events = left_on (g.S.Schedule.left c.args.schedule.now) c.args.machine.now in
    performed-part c.args.machine.now (replay_of c.args.machine.now c.args.showing.now events) events _ _ _ _ c.requires.ready refl
    c.requires.begin
    (playing-breaks _ _ _ _ _ c.events.machine _ _ _ c.in-Some.event _ c.in-Some.ensures.next c.events.invariant.playing
    c.turn.new.machine _ _ c.turn.ensures.next c.turn.ensures.told c.in-Err.ensures.err)

pub returns-in-Err-clause-applied : goal.returns-in-Err-clause-applied
returns-in-Err-clause-applied g c = λ no.
    let events = left_on (g.S.Schedule.left c.args.schedule.now) c.args.machine.now in
    performed-applied c.args.machine.now (replay_of c.args.machine.now c.args.showing.now events) events _ _ _ _ _ c.requires.ready refl
    (playing-stops _ _ _ _ _ c.events.machine _ _ _ c.in-Some.event _ c.in-Some.ensures.next c.events.invariant.playing
    c.turn.new.machine _ _ c.turn.ensures.next c.turn.ensures.told c.in-Err.ensures.err)

pub returns-clause-sink : goal.returns-clause-sink
returns-clause-sink g c = λ no.
    let events = left_on (g.S.Schedule.left c.args.schedule.now) c.args.machine.now in
    performed-part c.args.machine.now (replay_of c.args.machine.now c.args.showing.now events) events _ _ _ _ c.requires.ready refl
    c.requires.begin
    (end-breaks _ _ _ _ _ c.events.machine _ _ _ c.in_default-next.ensures.next c.events.invariant.playing _ (c.in-Err-put_end.ensures.err _))

pub returns-clause-applied : goal.returns-clause-applied
returns-clause-applied g c = λ no.
    let events = left_on (g.S.Schedule.left c.args.schedule.now) c.args.machine.now in
    performed-applied c.args.machine.now (replay_of c.args.machine.now c.args.showing.now events) events _ _ _ _ _ c.requires.ready refl
    (end-stops _ _ _ _ _ c.events.machine _ _ _ c.in_default-next.ensures.next c.events.invariant.playing _ (c.in-Err-put_end.ensures.err _))

pub returns-in-Ok-put_end-clause-ok : goal.returns-in-Ok-put_end-clause-ok
returns-in-Ok-put_end-clause-ok g c =
    let events = left_on (g.S.Schedule.left c.args.schedule.now) c.args.machine.now in
    performed-all c.args.machine.now (replay_of c.args.machine.now c.args.showing.now events) events _ _ _ _ c.requires.ready refl
    c.requires.begin
    (λ is. subst (λ (s : State). All HasValues s.committed)
    (playing-reached _ _ _ _ _ c.events.machine _ _ _ c.in_default-next.ensures.next c.events.invariant.playing)
    (c.in-Ok-put_end.ensures.values is))
    (playing-ends _ _ _ _ _ c.events.machine _ _ _ c.in_default-next.ensures.next c.events.invariant.playing _ (c.in-Ok-put_end.ensures.ok _))

pub returns-in-Ok-put_end-clause-told : goal.returns-in-Ok-put_end-clause-told
returns-in-Ok-put_end-clause-told g c =
    let events = left_on (g.S.Schedule.left c.args.schedule.now) c.args.machine.now in
    performed-told c.args.machine.now (replay_of c.args.machine.now c.args.showing.now events) events _ _ c.requires.ready refl _
    (playing-told _ _ _ _ _ c.events.machine _ _ _ c.in_default-next.ensures.next c.events.invariant.playing)
