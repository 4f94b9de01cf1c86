use Rattle.std.proofs.Common.{refl, ap, sym, subst, ◌≤◌, inr, arith}
use Rattle.std.proofs.lemmas.Result.{on_ok_weaker, on_err_weaker}
use Rattle.sn_machine.specs.Machine.{MachineData}
use Rattle.rolling_recovery.specs.Rolling.{rolling_start}
use Rattle.rolled_replay.specs.Rolled.{roll_of}
use Rattle.rolled_replay.proofs.Left.{left-room}
use Rattle.rolled_replay.proofs.LedOn.{fit-left}
use Rattle.rolled_replay.proofs.Rolled.{all-told, events-broken, events-known, rolled, recovery-broken, recovery-known}
use Rattle.rolled_replay.proofs.rolling.put_all.Goals as goal

pub put_events-requires-clause-room : goal.put_events-requires-clause-room
put_events-requires-clause-room g c = omega (arith, ap (λ (m : MachineData). m.spare) c.requires.start)

pub put_rest-requires-clause-room : goal.put_rest-requires-clause-room
put_rest-requires-clause-room g c =
    subst (λ (m : MachineData). 1 ≤ m.spare) (sym c.in-Ok.ensures.machine)
    (left-room c.args.ready.machine c.args.events.now 1 (omega (arith, ap (λ (m : MachineData). m.spare) c.requires.start)))

pub put_rest-requires-clause-fit : goal.put_rest-requires-clause-fit
put_rest-requires-clause-fit g c =
    fit-left c.args.ready.machine c.put_events.new.machine (rolling_start c.put_events.new.machine) c.args.events.now c.args.controls.now
    c.in-Ok.ensures.machine refl c.requires.may.fit

pub returns-in-Err-clause-sink : goal.returns-in-Err-clause-sink
returns-in-Err-clause-sink g c =
    let asked = roll_of c.args.ready.machine c.args.watch c.args.events.now c.args.controls.now in
    events-broken c.args.ready.machine asked _ c.requires.may c.requires.start c.in-Err.ensures.stops.0 _ _ _ c.in-Err.ensures.stops.1

pub returns-in-Err-clause-applied : goal.returns-in-Err-clause-applied
returns-in-Err-clause-applied g c =
    let asked = roll_of c.args.ready.machine c.args.watch c.args.events.now c.args.controls.now in
    events-known c.args.ready.machine asked _ c.requires.may c.requires.start c.in-Err.ensures.stops.0 _ _ _ c.in-Err.ensures.stops.1

pub returns-in-Ok-clause-sink : goal.returns-in-Ok-clause-sink
returns-in-Ok-clause-sink g c =
    let asked = roll_of c.args.ready.machine c.args.watch c.args.events.now c.args.controls.now in
    on_err_weaker c.put_rest.result
    (λ broke. recovery-broken c.args.ready.machine asked _ c.requires.may c.requires.start _ _ _ c.put_events.new.machine _
    (rolling_start c.put_events.new.machine) _ c.in-Ok.ensures.ok c.in-Ok.ensures.told c.in-Ok.ensures.machine refl refl (broke _))
    c.put_rest.ensures.err

pub returns-in-Ok-clause-applied : goal.returns-in-Ok-clause-applied
returns-in-Ok-clause-applied g c =
    let asked = roll_of c.args.ready.machine c.args.watch c.args.events.now c.args.controls.now in
    on_err_weaker c.put_rest.result
    (λ broke. recovery-known c.args.ready.machine asked _ c.requires.may c.requires.start _ _ _ c.put_events.new.machine _
    (rolling_start c.put_events.new.machine) _ c.in-Ok.ensures.ok c.in-Ok.ensures.told c.in-Ok.ensures.machine refl refl (broke _))
    c.put_rest.ensures.err

pub returns-in-Ok-clause-ok : goal.returns-in-Ok-clause-ok
returns-in-Ok-clause-ok g c =
    let asked = roll_of c.args.ready.machine c.args.watch c.args.events.now c.args.controls.now in
    on_ok_weaker c.put_rest.result
    (λ put. rolled c.args.ready.machine asked _ c.requires.may c.requires.start _ _ _ c.put_events.new.machine _
    (rolling_start c.put_events.new.machine) _ c.in-Ok.ensures.ok c.in-Ok.ensures.told c.in-Ok.ensures.machine refl refl (put _))
    c.put_rest.ensures.ok

pub returns-in-Ok-clause-told : goal.returns-in-Ok-clause-told
returns-in-Ok-clause-told g c =
    let asked = roll_of c.args.ready.machine c.args.watch c.args.events.now c.args.controls.now in
    on_ok_weaker c.put_rest.result
    (λ put. all-told c.args.ready.machine asked _ c.requires.may c.requires.start _ c.in-Ok.ensures.told) c.put_rest.ensures.ok

pub returns-in-Ok-clause-cause : goal.returns-in-Ok-clause-cause
returns-in-Ok-clause-cause g c =
    on_err_weaker c.put_rest.result (λ rose. inr (omega (arith, rose, c.put_events.ensures.report_later))) c.put_rest.ensures.cause
