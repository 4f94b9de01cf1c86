use Rattle.std.proofs.Common.{refl, inr, arith}
use Rattle.std.proofs.lemmas.Result.{err_from_is_err_and, on_ok_weaker, on_err_weaker}
use Rattle.saved_replay.specs.Shown.{job_of}
use Rattle.saved_replay.proofs.Saved.{all-told, events-broken, events-known, savable, few-applied, both-ok, saved-whole, save-broken, save-known}
use Rattle.saved_replay.proofs.saving.put_all.Goals as goal

pub returns-in_err-put_turns-clause-sink : goal.returns-in_err-put_turns-clause-sink
returns-in_err-put_turns-clause-sink g c =
    let p = err_from_is_err_and c.from_residual.result c.from_residual.ensures.1 in
    let asked = job_of c.args.machine.now c.args.events.now in
    rw p.1
    (events-broken c.args.machine.now asked _ c.requires.may c.requires.start c.in_err-put_turns.ensures.stops.0 _ _ _
    c.in_err-put_turns.ensures.stops.1)

pub returns-in_err-put_turns-clause-applied : goal.returns-in_err-put_turns-clause-applied
returns-in_err-put_turns-clause-applied g c =
    let p = err_from_is_err_and c.from_residual.result c.from_residual.ensures.1 in
    let asked = job_of c.args.machine.now c.args.events.now in
    rw p.1
    (events-known c.args.machine.now asked _ c.requires.may c.requires.start c.in_err-put_turns.ensures.stops.0 _ _ _
    c.in_err-put_turns.ensures.stops.1)

pub save-requires : goal.save-requires
save-requires g c =
    let asked = job_of c.args.machine.now c.args.events.now in
    savable c.args.machine.now asked _ c.requires.may c.requires.start _ _ c.put_turns.new.machine _ c.in_ok-put_turns.ensures.ok
    c.in_ok-put_turns.ensures.told c.in_ok-put_turns.ensures.machine

pub returns-clause-told : goal.returns-clause-told
returns-clause-told g c =
    let asked = job_of c.args.machine.now c.args.events.now in
    on_ok_weaker c.save.result
    (λ put. all-told c.args.machine.now asked _ c.requires.may c.requires.start _ c.in_ok-put_turns.ensures.told) c.save.ensures.whole

pub returns-clause-cause : goal.returns-clause-cause
returns-clause-cause g c =
    on_err_weaker c.save.result (λ rose. inr (omega (arith, rose, c.put_turns.ensures.report_later))) c.save.ensures.cause

pub returns-clause-ok : goal.returns-clause-ok
returns-clause-ok g c =
    let asked = job_of c.args.machine.now c.args.events.now in
    both-ok c.save.result _ _ _ _ c.save.ensures.whole c.save.ensures.read_back
    (few-applied c.args.machine.now asked _ c.requires.may c.requires.start _ _ c.put_turns.new.machine _ c.in_ok-put_turns.ensures.ok
    c.in_ok-put_turns.ensures.told c.in_ok-put_turns.ensures.machine)
    (λ wrote read. saved-whole c.args.machine.now asked _ c.requires.may c.requires.start _ _ c.put_turns.new.machine _
    c.in_ok-put_turns.ensures.ok c.in_ok-put_turns.ensures.told c.in_ok-put_turns.ensures.machine _ _ _ refl wrote read c.save.ensures.goes_on)

pub returns-clause-sink : goal.returns-clause-sink
returns-clause-sink g c =
    let asked = job_of c.args.machine.now c.args.events.now in
    on_err_weaker c.save.result
    (λ part. save-broken c.args.machine.now asked _ c.requires.may c.requires.start _ _ c.put_turns.new.machine _
    c.in_ok-put_turns.ensures.ok c.in_ok-put_turns.ensures.told c.in_ok-put_turns.ensures.machine _ _ _ refl part) c.save.ensures.part

pub returns-clause-applied : goal.returns-clause-applied
returns-clause-applied g c =
    let asked = job_of c.args.machine.now c.args.events.now in
    on_err_weaker c.save.result
    (λ part. save-known c.args.machine.now asked _ c.requires.may c.requires.start _ _ c.put_turns.new.machine _
    c.in_ok-put_turns.ensures.ok c.in_ok-put_turns.ensures.told c.in_ok-put_turns.ensures.machine _ _ _ refl part) c.save.ensures.part
