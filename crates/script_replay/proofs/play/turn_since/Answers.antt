use Rattle.std.proofs.Common.{◌∙◌, ◌-◌, ap}
use Rattle.std.proofs.lemmas.Result.{err_from_is_err_and}
use Rattle.script_replay.proofs.ToldSoFar.{told-applied}
use Rattle.script_replay.proofs.PieceLaws.{fresh-is, had-few, alone-after, turn-whole, turn-breaks_first, turn-breaks_second}
use Rattle.script_replay.proofs.Since.{since-applied, counted-later}
use Rattle.script_replay.specs.Played.{since}
use Rattle.script_replay.proofs.play.turn_since.Goals as goal

pub fresh-requires : goal.fresh-requires
fresh-requires g c =
    had-few c.args.machine.now c.apply-answer.new.self c.recovered.result c.recovered-view.result c.args.event.now c.apply-answer.result
    c.released-had.result.now c.released.result.now
    c.recovered.ensures.shown c.released-had.ensures c.recovered-view.ensures.shown c.released.ensures c.apply-answer.ensures.applied
    c.apply-answer.ensures.run

pub put_group-requires-clause-alone : goal.put_group-requires-clause-alone
put_group-requires-clause-alone g c = alone-after _ _ _ _ c.apply-answer.ensures.applied

pub put_group-requires-clause-counted : goal.put_group-requires-clause-counted
put_group-requires-clause-counted g c =
    counted-later c.args.before c.args.machine.now _ _ _ c.requires.counted c.apply-answer.ensures.applied

pub returns-in_err-put_console-clause-err : goal.returns-in_err-put_console-clause-err
returns-in_err-put_console-clause-err g c =
    let p = err_from_is_err_and c.from_residual.result c.from_residual.ensures.1 in
    rw p.1 (turn-breaks_first (since c.args.before c.args.machine.now) c.args.showing.now c.args.event.now c.fresh.result.now _ _
    (fresh-is c.args.machine.now c.apply-answer.new.self c.recovered.result c.recovered-view.result c.args.event.now c.apply-answer.result
    c.released-had.result.now c.released.result.now c.fresh.result.now
    c.recovered.ensures.shown c.released-had.ensures c.recovered-view.ensures.shown c.released.ensures c.fresh.ensures
    c.apply-answer.ensures.applied)
    (c.in_err-put_console.ensures.err _))

pub returns-in_err-put_group-clause-err : goal.returns-in_err-put_group-clause-err
returns-in_err-put_group-clause-err g c =
    let p = err_from_is_err_and c.from_residual-in_err-put_group.result c.from_residual-in_err-put_group.ensures.1 in
    rw p.1
    (turn-breaks_second (since c.args.before c.args.machine.now) (since c.args.before c.apply-answer.new.self) c.args.showing.now c.args.event.now c.apply-answer.result
    c.fresh.result.now _ _ _
    (fresh-is c.args.machine.now c.apply-answer.new.self c.recovered.result c.recovered-view.result c.args.event.now c.apply-answer.result
    c.released-had.result.now c.released.result.now c.fresh.result.now
    c.recovered.ensures.shown c.released-had.ensures c.recovered-view.ensures.shown c.released.ensures c.fresh.ensures
    c.apply-answer.ensures.applied)
    (since-applied c.args.before c.args.machine.now _ _ _ c.requires.counted c.apply-answer.ensures.applied)
    (c.in_ok-put_console.ensures.ok _) (c.in_err-put_group.ensures.err _))

pub returns-clause-ok : goal.returns-clause-ok
returns-clause-ok g c =
    turn-whole (since c.args.before c.args.machine.now) (since c.args.before c.apply-answer.new.self) c.args.showing.now c.args.event.now c.apply-answer.result c.fresh.result.now _ _ _
    (fresh-is c.args.machine.now c.apply-answer.new.self c.recovered.result c.recovered-view.result c.args.event.now c.apply-answer.result
    c.released-had.result.now c.released.result.now c.fresh.result.now
    c.recovered.ensures.shown c.released-had.ensures c.recovered-view.ensures.shown c.released.ensures c.fresh.ensures
    c.apply-answer.ensures.applied)
    (since-applied c.args.before c.args.machine.now _ _ _ c.requires.counted c.apply-answer.ensures.applied)
    (c.in_ok-put_console.ensures.ok _) (c.in_ok-put_group.ensures.ok _)

pub returns-in_err-put_console-clause-told : goal.returns-in_err-put_console-clause-told
returns-in_err-put_console-clause-told g c =
    told-applied (since c.args.before c.args.machine.now) (since c.args.before c.apply-answer.new.self) c.args.event.now c.apply-answer.result
    c.from-place.result _ _
    (since-applied c.args.before c.args.machine.now _ _ _ c.requires.counted c.apply-answer.ensures.applied)
    (c.from-place.ensures ∙ ap (λ k. k - c.args.before) c.applied.ensures.same) c.told.ensures

pub returns-in_err-put_group-clause-told : goal.returns-in_err-put_group-clause-told
returns-in_err-put_group-clause-told g c =
    told-applied (since c.args.before c.args.machine.now) (since c.args.before c.apply-answer.new.self) c.args.event.now c.apply-answer.result
    c.from-place.result _ _
    (since-applied c.args.before c.args.machine.now _ _ _ c.requires.counted c.apply-answer.ensures.applied)
    (c.from-place.ensures ∙ ap (λ k. k - c.args.before) c.applied.ensures.same) c.told.ensures

pub returns-clause-told : goal.returns-clause-told
returns-clause-told g c =
    told-applied (since c.args.before c.args.machine.now) (since c.args.before c.apply-answer.new.self) c.args.event.now c.apply-answer.result
    c.from-place.result _ _
    (since-applied c.args.before c.args.machine.now _ _ _ c.requires.counted c.apply-answer.ensures.applied)
    (c.from-place.ensures ∙ ap (λ k. k - c.args.before) c.applied.ensures.same) c.told.ensures
