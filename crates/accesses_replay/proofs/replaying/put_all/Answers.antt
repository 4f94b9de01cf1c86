use Rattle.std.proofs.Common.{ap, sym, ◌∙◌, arith}
use Rattle.std.proofs.lemmas.Result.{err_from_is_err_and}
use Rattle.sn_machine.specs.Machine.{MachineData}
use Rattle.script_replay.specs.Scheduled.{replay_of}
use Rattle.accesses_replay.proofs.Left.{left-cores}
use Rattle.accesses_replay.proofs.Replayed.{all-told, events-broken, events-known, shown, end-broken, end-known}
use Rattle.accesses_replay.proofs.replaying.put_all.Goals as goal

pub put_events-requires-clause-room : goal.put_events-requires-clause-room
put_events-requires-clause-room g c = omega (arith, ap (λ (m : MachineData). m.spare) c.requires.start)

pub put_end-requires-clause-start : goal.put_end-requires-clause-start
put_end-requires-clause-start g c =
    c.requires.rows ∙ sym (left-cores c.args.ready.now.machine c.put_events.new.machine c.args.events.now c.in_ok-put_events.ensures.machine)

pub returns-in_err-put_events-clause-sink : goal.returns-in_err-put_events-clause-sink
returns-in_err-put_events-clause-sink g c =
    let p = err_from_is_err_and c.from_residual.result c.from_residual.ensures.1 in
    let asked = replay_of c.args.ready.now.machine c.args.showing.now c.args.events.now in
    rw p.1
    (events-broken c.args.ready.now.machine asked _ c.requires.may c.requires.start c.in_err-put_events.ensures.stops.0 _ _ _
    c.in_err-put_events.ensures.stops.1)

pub returns-in_err-put_events-clause-applied : goal.returns-in_err-put_events-clause-applied
returns-in_err-put_events-clause-applied g c =
    let p = err_from_is_err_and c.from_residual.result c.from_residual.ensures.1 in
    let asked = replay_of c.args.ready.now.machine c.args.showing.now c.args.events.now in
    rw p.1
    (events-known c.args.ready.now.machine asked _ c.requires.may c.requires.start c.in_err-put_events.ensures.stops.0 _ _ _
    c.in_err-put_events.ensures.stops.1)

pub returns-in_err-put_end-clause-sink : goal.returns-in_err-put_end-clause-sink
returns-in_err-put_end-clause-sink g c =
    let p = err_from_is_err_and c.from_residual-in_err-put_end.result c.from_residual-in_err-put_end.ensures.1 in
    let asked = replay_of c.args.ready.now.machine c.args.showing.now c.args.events.now in
    rw p.1
    (end-broken c.args.ready.now.machine asked _ c.requires.may c.requires.start _ _ _ c.put_events.new.machine _
    c.in_ok-put_events.ensures.ok c.in_ok-put_events.ensures.told c.in_ok-put_events.ensures.machine (c.in_err-put_end.ensures.err _))

pub returns-in_err-put_end-clause-applied : goal.returns-in_err-put_end-clause-applied
returns-in_err-put_end-clause-applied g c =
    let p = err_from_is_err_and c.from_residual-in_err-put_end.result c.from_residual-in_err-put_end.ensures.1 in
    let asked = replay_of c.args.ready.now.machine c.args.showing.now c.args.events.now in
    rw p.1
    (end-known c.args.ready.now.machine asked _ c.requires.may c.requires.start _ _ _ c.put_events.new.machine _
    c.in_ok-put_events.ensures.ok c.in_ok-put_events.ensures.told c.in_ok-put_events.ensures.machine (c.in_err-put_end.ensures.err _))

pub returns-clause-ok : goal.returns-clause-ok
returns-clause-ok g c =
    let asked = replay_of c.args.ready.now.machine c.args.showing.now c.args.events.now in
    shown c.args.ready.now.machine asked _ c.requires.may c.requires.start _ _ _ c.put_events.new.machine _
    c.in_ok-put_events.ensures.ok c.in_ok-put_events.ensures.told c.in_ok-put_events.ensures.machine (c.in_ok-put_end.ensures.ok _)

pub returns-clause-told : goal.returns-clause-told
returns-clause-told g c =
    let asked = replay_of c.args.ready.now.machine c.args.showing.now c.args.events.now in
    all-told c.args.ready.now.machine asked _ c.requires.may c.requires.start _ c.in_ok-put_events.ensures.told
