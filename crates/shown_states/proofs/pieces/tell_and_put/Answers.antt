use Rattle.std.proofs.Common.{◌≤◌, ◌∙◌, ap, sym, subst, List, ℕ, length}
use Rattle.std.specs.Prelude.{drop}
use Rattle.std.proofs.lemmas.Result.{err_from_is_err_and}
use Rattle.script_replay.specs.Machine.{MachineData}
use Rattle.shown_states.proofs.Puts.{first-breaks, both-put, second-breaks, told-at}
use Rattle.shown_states.proofs.pieces.tell_and_put.Goals as goal

pub released_since-requires : goal.released_since-requires
released_since-requires g c =
    subst (λ (t : List ℕ). c.args.had ≤ length t)
    (sym (c.released.ensures ∙ ap (λ (t : MachineData). t.state.released) c.recovered-view.ensures.shown)) c.requires.few

pub returns-in_err-put_console-clause-err : goal.returns-in_err-put_console-clause-err
returns-in_err-put_console-clause-err g c =
    let p = err_from_is_err_and c.from_residual.result c.from_residual.ensures.1 in
    rw p.1 (first-breaks _ _ c.args.text.now
    (c.released_since.ensures ∙ ap (drop c.args.had) (c.released.ensures ∙ ap (λ (t : MachineData). t.state.released) c.recovered-view.ensures.shown))
    _ _ (c.in_err-put_console.ensures.err _))

pub returns-in_err-put_text-clause-err : goal.returns-in_err-put_text-clause-err
returns-in_err-put_text-clause-err g c =
    let p = err_from_is_err_and c.from_residual-in_err-put_text.result c.from_residual-in_err-put_text.ensures.1 in
    rw p.1 (second-breaks _ _ c.args.text.now
    (c.released_since.ensures ∙ ap (drop c.args.had) (c.released.ensures ∙ ap (λ (t : MachineData). t.state.released) c.recovered-view.ensures.shown))
    _ _ _ (c.in_ok-put_console.ensures.ok _) (c.in_err-put_text.ensures.err _))

pub returns-clause-ok : goal.returns-clause-ok
returns-clause-ok g c =
    both-put _ _ c.args.text.now
    (c.released_since.ensures ∙ ap (drop c.args.had) (c.released.ensures ∙ ap (λ (t : MachineData). t.state.released) c.recovered-view.ensures.shown))
    _ _ _ (c.in_ok-put_console.ensures.ok _) (c.in_ok-put_text.ensures.ok _)

pub returns-in_err-put_console-clause-told : goal.returns-in_err-put_console-clause-told
returns-in_err-put_console-clause-told g c = told-at _ _ _ _ _ _ (c.from.ensures ∙ c.applied.ensures.same) c.told.ensures

pub returns-in_err-put_text-clause-told : goal.returns-in_err-put_text-clause-told
returns-in_err-put_text-clause-told g c = told-at _ _ _ _ _ _ (c.from.ensures ∙ c.applied.ensures.same) c.told.ensures

pub returns-clause-told : goal.returns-clause-told
returns-clause-told g c = told-at _ _ _ _ _ _ (c.from.ensures ∙ c.applied.ensures.same) c.told.ensures
