use Rattle.std.proofs.Common.{refl, inr, arith}
use Rattle.std.proofs.lemmas.Result.{err_from_is_err_and, on_ok_weaker, on_err_weaker}
use Rattle.resumed_replay.specs.Shown.{job_of}
use Rattle.resumed_replay.proofs.Resumed.{all-told, events-broken, events-known, done, summary-broken, summary-known}
use Rattle.resumed_replay.proofs.going_on.put_all.Goals as goal

pub returns-in_err-put_turns-clause-sink : goal.returns-in_err-put_turns-clause-sink
returns-in_err-put_turns-clause-sink g c =
    let p = err_from_is_err_and c.from_residual.result c.from_residual.ensures.1 in
    let asked = job_of c.args.machine.now c.args.watch c.args.events.now in
    rw p.1
    (events-broken asked _ c.requires.may c.applied-before.result c.applied-before.ensures.same c.in_err-put_turns.ensures.stops.0 _ _ _
    c.in_err-put_turns.ensures.stops.1)

pub returns-in_err-put_turns-clause-applied : goal.returns-in_err-put_turns-clause-applied
returns-in_err-put_turns-clause-applied g c =
    let p = err_from_is_err_and c.from_residual.result c.from_residual.ensures.1 in
    let asked = job_of c.args.machine.now c.args.watch c.args.events.now in
    rw p.1
    (events-known asked _ c.requires.may c.applied-before.result c.applied-before.ensures.same c.in_err-put_turns.ensures.stops.0 _ _ _
    c.in_err-put_turns.ensures.stops.1)

pub returns-clause-sink : goal.returns-clause-sink
returns-clause-sink g c =
    let asked = job_of c.args.machine.now c.args.watch c.args.events.now in
    on_err_weaker c.put_counted_summary.result
    (λ broke. summary-broken asked _ c.requires.may c.applied-before.result c.applied-before.ensures.same _ _ _ c.put_turns.new.machine _ _
    c.in_ok-put_turns.ensures.ok c.in_ok-put_turns.ensures.told c.in_ok-put_turns.ensures.machine refl (broke _))
    c.put_counted_summary.ensures.err

pub returns-clause-applied : goal.returns-clause-applied
returns-clause-applied g c =
    let asked = job_of c.args.machine.now c.args.watch c.args.events.now in
    on_err_weaker c.put_counted_summary.result
    (λ broke. summary-known asked _ c.requires.may c.applied-before.result c.applied-before.ensures.same _ _ _ c.put_turns.new.machine _ _
    c.in_ok-put_turns.ensures.ok c.in_ok-put_turns.ensures.told c.in_ok-put_turns.ensures.machine refl (broke _))
    c.put_counted_summary.ensures.err

pub returns-clause-ok : goal.returns-clause-ok
returns-clause-ok g c =
    let asked = job_of c.args.machine.now c.args.watch c.args.events.now in
    on_ok_weaker c.put_counted_summary.result
    (λ put. done asked _ c.requires.may c.applied-before.result c.applied-before.ensures.same _ _ _ c.put_turns.new.machine _ _
    c.in_ok-put_turns.ensures.ok c.in_ok-put_turns.ensures.told c.in_ok-put_turns.ensures.machine refl (put _))
    c.put_counted_summary.ensures.ok

pub returns-clause-told : goal.returns-clause-told
returns-clause-told g c =
    let asked = job_of c.args.machine.now c.args.watch c.args.events.now in
    on_ok_weaker c.put_counted_summary.result
    (λ put. all-told asked _ c.requires.may c.applied-before.result c.applied-before.ensures.same _ c.in_ok-put_turns.ensures.told)
    c.put_counted_summary.ensures.ok

pub returns-clause-cause : goal.returns-clause-cause
returns-clause-cause g c =
    on_err_weaker c.put_counted_summary.result (λ rose. inr (omega (arith, rose, c.put_turns.ensures.report_later))) c.put_counted_summary.ensures.cause
