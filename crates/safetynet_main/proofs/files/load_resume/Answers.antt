use Rattle.std.proofs.Common.{refl, ap, string_bytes}
use Rattle.std.specs.Prelude.{Ok, Err}
use Rattle.sn_base.specs.declared.config.Config.{Config}
use Rattle.call_files.specs.Fetches.{Fetches}
use Rattle.safetynet_main.specs.Call.{resumed_plan}
use Rattle.safetynet_main.proofs.Loading.{loads-refused, loads-resume_save, loads-resume}
use Rattle.safetynet_main.proofs.Saves.{resume_may_begin}
use Rattle.safetynet_main.proofs.files.load_resume.Goals as goal

pub returns-in-Err-clause-loads : goal.returns-in-Err-clause-loads
returns-in-Err-clause-loads g c = λ no.
    loads-refused (Fetches g.S.Store.files g.S.Store.sure g.S.Store.faults g.S.Store.gave) _ _
    (resumed_plan c.args.asked.now.watch (string_bytes c.args.asked.now.save) (string_bytes c.args.asked.now.script))
    c.in-Err.status c.as_str.result.now _ refl c.as_str.ensures.value (c.in-Err.ensures.found (λ m. no cc))

pub returns-in-Err-fetch_save-clause-loads : goal.returns-in-Err-fetch_save-clause-loads
returns-in-Err-fetch_save-clause-loads g c = λ no.
    loads-resume_save (Fetches g.S.Store.files g.S.Store.sure g.S.Store.faults g.S.Store.gave) c.in-Ok.program c.args.asked.now.watch
    _ _ c.as_str.result.now c.as_str-2.result.now (string_bytes c.args.asked.now.script) _ _ _
    c.as_str.ensures.value c.as_str-2.ensures.value refl (c.in-Ok.ensures.found (λ m. cc)) c.in-Err-fetch_save.status _
    (c.in-Err-fetch_save.ensures.found (λ m. no cc))

pub returns-in-Err-fetch_script-clause-loads : goal.returns-in-Err-fetch_script-clause-loads
returns-in-Err-fetch_script-clause-loads g c = λ no.
    loads-resume (Fetches g.S.Store.files g.S.Store.sure g.S.Store.faults g.S.Store.gave) c.in-Ok.program c.args.asked.now.watch
    _ _ c.as_str.result.now c.as_str-2.result.now c.as_str-3.result.now _ _ _
    c.as_str.ensures.value c.as_str-2.ensures.value c.as_str-3.ensures.value (c.in-Ok.ensures.found (λ m. cc)) c.in-Ok-fetch_save.machine
    c.config.result.now.nodes (Err c.in-Err-fetch_script.status) (Err c.in-Err-fetch_script.status) _ _
    (ap (λ (t : Config). t.nodes) c.config.ensures.same) (c.in-Ok-fetch_save.ensures.found (λ m. cc))
    (c.in-Err-fetch_script.ensures.found (λ m. no cc)) refl

pub returns-in-Ok-fetch_script-clause-loads : goal.returns-in-Ok-fetch_script-clause-loads
returns-in-Ok-fetch_script-clause-loads g c = λ no.
    loads-resume (Fetches g.S.Store.files g.S.Store.sure g.S.Store.faults g.S.Store.gave) c.in-Ok.program c.args.asked.now.watch
    _ _ c.as_str.result.now c.as_str-2.result.now c.as_str-3.result.now _ _ _
    c.as_str.ensures.value c.as_str-2.ensures.value c.as_str-3.ensures.value (c.in-Ok.ensures.found (λ m. cc)) c.in-Ok-fetch_save.machine
    c.config.result.now.nodes (Ok c.in-Ok-fetch_script.script) _ _ _
    (ap (λ (t : Config). t.nodes) c.config.ensures.same) (c.in-Ok-fetch_save.ensures.found (λ m. cc))
    (c.in-Ok-fetch_script.ensures.found (λ m. cc)) refl

pub returns-in-Ok-fetch_script-clause-read : goal.returns-in-Ok-fetch_script-clause-read
returns-in-Ok-fetch_script-clause-read g c =
    resume_may_begin c.in-Ok-fetch_save.machine c.config.result.now.nodes c.args.asked.now.watch c.in-Ok-fetch_script.script
    (ap (λ (t : Config). t.nodes) c.config.ensures.same) c.in-Ok-fetch_save.ensures.led c.in-Ok-fetch_script.ensures.fit c.in-Ok-fetch_script.ensures.few c.requires.watched
