use Rattle.std.proofs.Common.{refl, sym, subst, string_bytes}
use Rattle.std.specs.Prelude.{Result, Ok, Err, IfOk}
use Rattle.call_files.specs.Fetches.{Fetches}
use Rattle.call_status.specs.declared.status.Status.{Status}
use Rattle.safetynet_main.specs.Call.{script_plan, IsRead}
use Rattle.safetynet_main.specs.declared.job.Job.{Job}
use Rattle.safetynet_main.proofs.Loading.{loads-refused, loads-replay}
use Rattle.safetynet_main.proofs.Watched.{replay_may_begin}
use Rattle.safetynet_main.proofs.files.load_replay.Goals as goal

pub returns-in-Err-clause-loads : goal.returns-in-Err-clause-loads
returns-in-Err-clause-loads g c = λ no.
    loads-refused (Fetches g.S.Store.files g.S.Store.sure g.S.Store.faults g.S.Store.gave) _ _
    (script_plan c.args.asked.now.config c.args.asked.now.report c.args.asked.now.watch (string_bytes c.args.asked.now.script))
    c.in-Err.status c.as_str.result.now _ refl c.as_str.ensures.value (c.in-Err.ensures.found (λ m. no cc))

pub returns-in-Err-fetch_script-clause-loads : goal.returns-in-Err-fetch_script-clause-loads
returns-in-Err-fetch_script-clause-loads g c = λ no.
    loads-replay (Fetches g.S.Store.files g.S.Store.sure g.S.Store.faults g.S.Store.gave) c.in-Ok.program _ _ _ c.args.asked.now.config
    c.args.asked.now.report c.args.asked.now.watch (Err c.in-Err-fetch_script.status) (Err c.in-Err-fetch_script.status)
    c.as_str.result.now c.as_str-2.result.now _ _ c.as_str.ensures.value c.as_str-2.ensures.value
    (c.in-Ok.ensures.found (λ m. cc)) (c.in-Err-fetch_script.ensures.found (λ m. no cc)) refl

pub returns-in-Ok-fetch_script-clause-loads : goal.returns-in-Ok-fetch_script-clause-loads
returns-in-Ok-fetch_script-clause-loads g c = λ no.
    loads-replay (Fetches g.S.Store.files g.S.Store.sure g.S.Store.faults g.S.Store.gave) c.in-Ok.program _ _ _ c.args.asked.now.config
    c.args.asked.now.report c.args.asked.now.watch (Ok c.in-Ok-fetch_script.script) c.replay_job.result
    c.as_str.result.now c.as_str-2.result.now _ _ c.as_str.ensures.value c.as_str-2.ensures.value
    (c.in-Ok.ensures.found (λ m. cc)) (c.in-Ok-fetch_script.ensures.found (λ m. cc)) c.replay_job.ensures

pub returns-in-Ok-fetch_script-clause-read : goal.returns-in-Ok-fetch_script-clause-read
returns-in-Ok-fetch_script-clause-read g c =
    subst (λ (r : Result Job Status). IfOk r IsRead) (sym c.replay_job.ensures)
    (replay_may_begin c.args.asked.now.config c.args.asked.now.report c.args.asked.now.watch c.in-Ok.program c.in-Ok-fetch_script.script
    c.requires.sizes c.in-Ok-fetch_script.ensures.fit c.in-Ok-fetch_script.ensures.few c.requires.watched)
