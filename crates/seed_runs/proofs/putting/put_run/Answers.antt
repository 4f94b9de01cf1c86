use Rattle.std.proofs.Common.{◌⊎◌, inl, inr, ⊎_elim, ap, ◌∙◌}
use Rattle.std.proofs.lemmas.Option.{IfSome_then}
use Rattle.sn_machine.specs.Machine.{MachineData}
use Rattle.seed_runs.proofs.Puts.{handed-on, console-broke}
use Rattle.seed_runs.proofs.putting.put_run.Goals as goal

pub returns-in-Ok-clause-console : goal.returns-in-Ok-clause-console
returns-in-Ok-clause-console g c =
    let is = c.released.ensures ∙ ap (λ (m : MachineData). m.state.released) c.recovered-view.ensures.shown in
    IfSome_then c.put_ended.result c.put_ended.ensures.some
    (λ ending reported. handed-on c.args.finished.now.machine.state.released c.released.result.now _ _ is c.in-Ok.ensures.ok)

pub returns-in-Ok-clause-none : goal.returns-in-Ok-clause-none
returns-in-Ok-clause-none g c =
    let is = c.released.ensures ∙ ap (λ (m : MachineData). m.state.released) c.recovered-view.ensures.shown in
    λ no. inr (
      handed-on c.args.finished.now.machine.state.released c.released.result.now _ _ is c.in-Ok.ensures.ok,
      c.put_ended.ensures.none no,
    )

pub returns-in-Err-clause-none : goal.returns-in-Err-clause-none
returns-in-Err-clause-none g c =
    let is = c.released.ensures ∙ ap (λ (m : MachineData). m.state.released) c.recovered-view.ensures.shown in
    λ no. inl (console-broke c.args.finished.now.machine.state.released c.released.result.now _ _ is
    (c.in-Err.ensures.err (g.R.Sink.written c.args.report.now)))

pub returns-in-Ok-clause-cause : goal.returns-in-Ok-clause-cause
returns-in-Ok-clause-cause g c = λ no. ⊎_elim inl (λ rose. inr (inr rose)) (c.put_ended.ensures.cause no)

pub returns-in-Err-clause-cause : goal.returns-in-Err-clause-cause
returns-in-Err-clause-cause g c = λ no. inr (inl c.in-Err.ensures.cause)
