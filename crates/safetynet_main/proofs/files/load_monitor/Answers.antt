use Rattle.std.proofs.Common.{refl, ap}
use Rattle.std.specs.Prelude.{Ok, Err}
use Rattle.call_files.specs.Fetches.{Fetches}
use Rattle.call_files.specs.Files.{program_limit, program_in}
use Rattle.safetynet_main.specs.Call.{monitor_with}
use Rattle.safetynet_main.specs.declared.job.Job.TheVariants.{Monitor as MonitorJob}
use Rattle.safetynet_main.proofs.Loading.{loads-last}
use Rattle.safetynet_main.proofs.files.load_monitor.Goals as goal

pub returns-in-Ok-clause-loads : goal.returns-in-Ok-clause-loads
returns-in-Ok-clause-loads g c = λ no.
    loads-last (Fetches g.S.Store.files g.S.Store.sure g.S.Store.faults g.S.Store.gave) _ _ program_limit program_in
    (monitor_with c.args.asked.now.config c.args.asked.now.rules c.args.asked.now.watch)
    (Ok c.in-Ok.program) (Ok (MonitorJob c.monitor_of.result)) c.as_str.result.now _ c.as_str.ensures.value (c.in-Ok.ensures.found (λ m. cc))
    (ap (λ r. Ok (MonitorJob r)) c.monitor_of.ensures.same)

pub returns-in-Err-clause-loads : goal.returns-in-Err-clause-loads
returns-in-Err-clause-loads g c = λ no.
    loads-last (Fetches g.S.Store.files g.S.Store.sure g.S.Store.faults g.S.Store.gave) _ _ program_limit program_in
    (monitor_with c.args.asked.now.config c.args.asked.now.rules c.args.asked.now.watch)
    (Err c.in-Err.status) (Err c.in-Err.status) c.as_str.result.now _ c.as_str.ensures.value (c.in-Err.ensures.found (λ m. no cc)) refl
