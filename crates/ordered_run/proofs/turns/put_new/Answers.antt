use Rattle.std.proofs.Common.{◌≡◌, drop, ap, ◌∙◌}
use Rattle.std.proofs.lemmas.Result.{on_ok_weaker, on_err_weaker}
use Rattle.sn_machine.specs.Machine.{MachineData}
use Rattle.ordered_run.proofs.Puts.{put-whole, put-begun}
use Rattle.ordered_run.proofs.turns.put_new.Goals as goal

pub returns-clause-ok : goal.returns-clause-ok
returns-clause-ok g c =
    let is : c.beyond.result.now ≡ drop c.args.had c.args.machine.now.state.released = c.beyond.ensures
    ∙ ap (drop c.args.had) (c.released.ensures ∙ ap (λ (m : MachineData). m.state.released) c.recovered-view.ensures.shown) in
    on_ok_weaker c.put_console.result (λ put. put-whole c.args.machine.now.state.released c.beyond.result.now c.args.had _ _ is put)
    c.put_console.ensures.ok

pub returns-clause-err : goal.returns-clause-err
returns-clause-err g c =
    let is : c.beyond.result.now ≡ drop c.args.had c.args.machine.now.state.released = c.beyond.ensures
    ∙ ap (drop c.args.had) (c.released.ensures ∙ ap (λ (m : MachineData). m.state.released) c.recovered-view.ensures.shown) in
    on_err_weaker c.put_console.result (λ broke. put-begun c.args.machine.now.state.released c.beyond.result.now c.args.had _ _ is broke)
    c.put_console.ensures.err
