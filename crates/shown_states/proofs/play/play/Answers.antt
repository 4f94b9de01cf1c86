use Rattle.std.proofs.Common.{refl, inr, arith}
use Rattle.std.proofs.lemmas.Result.{on_ok_weaker}
use Rattle.shown_states.specs.Played.{states_of}
use Rattle.shown_states.proofs.Played.{played-starts, start-broken, start-known, fits-next, event-next, room-next, played-next, as-fault, turn-broken, turn-known, cut-short}
use Rattle.shown_states.proofs.Ended.{ended-told, ended-all, ended-broken, ended-known}
use Rattle.shown_states.proofs.play.play.Goals as goal

pub returns-in-Err-clause-sink : goal.returns-in-Err-clause-sink
returns-in-Err-clause-sink g c = λ e.
    start-broken c.args.machine.now c.args.watch c.args.only.now c.args.events.now c.requires.ready c.requires.begin _ _ _
    (c.in-Err.ensures.sink e _)

pub returns-in-Err-clause-applied : goal.returns-in-Err-clause-applied
returns-in-Err-clause-applied g c = λ e.
    start-known c.args.machine.now c.args.watch c.args.only.now c.args.events.now c.requires.ready _ _ _ _ (c.in-Err.ensures.sink e _) refl

pub events-init : goal.events-init
events-init g c = record {
  played = λ start put.
      played-starts c.args.machine.now c.args.watch c.args.only.now c.args.events.now c.requires.ready _ start _ put;
  console_later = omega arith;
  report_later = omega arith;
}

pub turn_with_state-requires-clause-fits : goal.turn_with_state-requires-clause-fits
turn_with_state-requires-clause-fits g c = fits-next (states_of c.args.machine.now c.args.watch c.args.only.now c.args.events.now) c.events.event-index c.event-item.result c.events-test.true c.event-item.is c.events.machine (c.events.invariant.played _ (c.in-Ok.ensures.ok _)).reached c.requires.begin

pub turn_with_state-requires-clause-whole : goal.turn_with_state-requires-clause-whole
turn_with_state-requires-clause-whole g c =
    event-next (states_of c.args.machine.now c.args.watch c.args.only.now c.args.events.now) c.events.event-index c.event-item.result c.events-test.true c.event-item.is c.events.machine (c.events.invariant.played _ (c.in-Ok.ensures.ok _)).reached c.requires.begin

pub turn_with_state-requires-clause-room : goal.turn_with_state-requires-clause-room
turn_with_state-requires-clause-room g c = room-next (states_of c.args.machine.now c.args.watch c.args.only.now c.args.events.now) c.events.event-index c.event-item.result c.events-test.true c.event-item.is c.events.machine (c.events.invariant.played _ (c.in-Ok.ensures.ok _)).reached

pub events-preserved : goal.events-preserved
events-preserved g c = record {
  played = λ start put. played-next (states_of c.args.machine.now c.args.watch c.args.only.now c.args.events.now) c.events.event-index c.event-item.result c.events-test.true c.event-item.is _ start c.events.machine _ _ (c.events.invariant.played start put) c.turn_with_state.new.machine _ _ c.in-Ok-turn_with_state.ensures.next c.in-Ok-turn_with_state.ensures.told
      c.in-Ok-turn_with_state.ensures.ok;
  console_later = omega (arith, c.turn_with_state.ensures.console_later, c.events.invariant.console_later);
  report_later = omega (arith, c.turn_with_state.ensures.report_later, c.events.invariant.report_later);
}

pub returns-in-Err-turn_with_state-clause-sink : goal.returns-in-Err-turn_with_state-clause-sink
returns-in-Err-turn_with_state-clause-sink g c = λ e. turn-broken (states_of c.args.machine.now c.args.watch c.args.only.now c.args.events.now) c.events.event-index c.event-item.result c.events-test.true c.event-item.is _ _ c.events.machine _ _ (c.events.invariant.played _ (c.in-Ok.ensures.ok _)) _ (c.in-Err-turn_with_state.ensures.sink (as-fault _ _ e)) c.requires.begin

pub returns-in-Err-turn_with_state-clause-applied : goal.returns-in-Err-turn_with_state-clause-applied
returns-in-Err-turn_with_state-clause-applied g c = λ e. turn-known (states_of c.args.machine.now c.args.watch c.args.only.now c.args.events.now) c.events.event-index c.event-item.result c.events-test.true c.event-item.is _ _ c.events.machine _ _ (c.events.invariant.played _ (c.in-Ok.ensures.ok _)) _ (c.in-Err-turn_with_state.ensures.sink (as-fault _ _ e)) _ (c.in-Err-turn_with_state.ensures.knows (as-fault _ _ e))

pub returns-in-Err-turn_with_state-clause-memory : goal.returns-in-Err-turn_with_state-clause-memory
returns-in-Err-turn_with_state-clause-memory g c = λ e.
    let k = c.in-Err-turn_with_state.ensures.memory (as-fault _ _ e) in
    inr (rw (k.0, k.1, k.2) (cut-short (states_of c.args.machine.now c.args.watch c.args.only.now c.args.events.now) c.requires.begin c.events.event-index _ _ c.events.machine _ _ _ _
    (omega (arith, c.events-test.true)) (c.events.invariant.played _ (c.in-Ok.ensures.ok _)) refl refl))

pub returns-clause-ok : goal.returns-clause-ok
returns-clause-ok g c = on_ok_weaker c.put_last_line.result (λ ok. ended-all (states_of c.args.machine.now c.args.watch c.args.only.now c.args.events.now) c.requires.begin _ _ c.events.event-index c.events.machine _ _ (c.events.invariant.played _ (c.in-Ok.ensures.ok _)) (omega (arith, c.events-test.false, c.events.auto.event-index-end)) _ (ok _)) c.put_last_line.ensures.ok

pub returns-clause-told : goal.returns-clause-told
returns-clause-told g c = on_ok_weaker c.put_last_line.result (λ ok. ended-told (states_of c.args.machine.now c.args.watch c.args.only.now c.args.events.now) c.requires.begin _ _ c.events.event-index c.events.machine _ _ (c.events.invariant.played _ (c.in-Ok.ensures.ok _)) (omega (arith, c.events-test.false, c.events.auto.event-index-end))) c.put_last_line.ensures.ok

pub returns-clause-sink : goal.returns-clause-sink
returns-clause-sink g c = λ e. ended-broken (states_of c.args.machine.now c.args.watch c.args.only.now c.args.events.now) c.requires.begin _ _ c.events.event-index c.events.machine _ _ (c.events.invariant.played _ (c.in-Ok.ensures.ok _)) (omega (arith, c.events-test.false, c.events.auto.event-index-end)) _ (c.put_last_line.ensures.sink e _)

pub returns-clause-applied : goal.returns-clause-applied
returns-clause-applied g c = λ e. ended-known (states_of c.args.machine.now c.args.watch c.args.only.now c.args.events.now) c.requires.begin _ _ c.events.event-index c.events.machine _ _ (c.events.invariant.played _ (c.in-Ok.ensures.ok _)) (omega (arith, c.events-test.false, c.events.auto.event-index-end)) _ (c.put_last_line.ensures.sink e _) _ refl

pub returns-clause-memory : goal.returns-clause-memory
returns-clause-memory g c = λ e.
    inr (rw (c.put_last_line.ensures.memory e) (cut-short (states_of c.args.machine.now c.args.watch c.args.only.now c.args.events.now) c.requires.begin c.events.event-index _ _ c.events.machine _ _ _ _
    (omega (arith, c.events-test.false, c.events.auto.event-index-end)) (c.events.invariant.played _ (c.in-Ok.ensures.ok _)) refl refl))
