use Rattle.std.proofs.Common.{refl, string_bytes}
use Rattle.std.specs.Prelude.{Ok, Err}
use Rattle.call_files.specs.Fetches.{Fetches}
use Rattle.safetynet_main.specs.Call.{later_plan}
use Rattle.safetynet_main.proofs.Loading.{loads-refused, loads-save}
use Rattle.safetynet_main.proofs.Saves.{save_may_begin}
use Rattle.safetynet_main.proofs.files.load_save.Goals as goal

pub returns-in-Err-clause-loads : goal.returns-in-Err-clause-loads
returns-in-Err-clause-loads g c = λ no.
    loads-refused (Fetches g.S.Store.files g.S.Store.sure g.S.Store.faults g.S.Store.gave) _ _
    (later_plan c.args.asked.now.config (string_bytes c.args.asked.now.script))
    c.in-Err.status c.as_str.result.now _ refl c.as_str.ensures.value (c.in-Err.ensures.found (λ m. no cc))

pub returns-in-Err-fetch_script-clause-loads : goal.returns-in-Err-fetch_script-clause-loads
returns-in-Err-fetch_script-clause-loads g c = λ no.
    loads-save (Fetches g.S.Store.files g.S.Store.sure g.S.Store.faults g.S.Store.gave) c.in-Ok.program _ _ _ c.args.asked.now.config
    (Err c.in-Err-fetch_script.status) (Err c.in-Err-fetch_script.status)
    c.as_str.result.now c.as_str-2.result.now _ _ c.as_str.ensures.value c.as_str-2.ensures.value
    (c.in-Ok.ensures.found (λ m. cc)) (c.in-Err-fetch_script.ensures.found (λ m. no cc)) refl

pub returns-in-Ok-fetch_script-clause-loads : goal.returns-in-Ok-fetch_script-clause-loads
returns-in-Ok-fetch_script-clause-loads g c = λ no.
    loads-save (Fetches g.S.Store.files g.S.Store.sure g.S.Store.faults g.S.Store.gave) c.in-Ok.program _ _ _ c.args.asked.now.config
    (Ok c.in-Ok-fetch_script.script) _
    c.as_str.result.now c.as_str-2.result.now _ _ c.as_str.ensures.value c.as_str-2.ensures.value
    (c.in-Ok.ensures.found (λ m. cc)) (c.in-Ok-fetch_script.ensures.found (λ m. cc)) refl

pub returns-in-Ok-fetch_script-clause-read : goal.returns-in-Ok-fetch_script-clause-read
returns-in-Ok-fetch_script-clause-read g c =
    save_may_begin c.args.asked.now.config c.in-Ok.program c.in-Ok-fetch_script.script
    c.requires.sizes c.in-Ok-fetch_script.ensures.fit c.in-Ok-fetch_script.ensures.few
