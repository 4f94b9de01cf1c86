use Rattle.std.proofs.Common.{refl, string_bytes}
use Rattle.std.specs.Prelude.{Ok, Err}
use Rattle.call_files.specs.Fetches.{Fetches}
use Rattle.safetynet_main.specs.Call.{rolled_plan}
use Rattle.safetynet_main.proofs.Loading.{loads-refused, loads-roll_script, loads-roll}
use Rattle.safetynet_main.proofs.Watched.{roll_may_begin}
use Rattle.safetynet_main.proofs.files.load_roll.Goals as goal

pub returns-in-Err-clause-loads : goal.returns-in-Err-clause-loads
returns-in-Err-clause-loads g c = λ no.
    loads-refused (Fetches g.S.Store.files g.S.Store.sure g.S.Store.faults g.S.Store.gave) _ _
    (rolled_plan c.args.asked.now.config c.args.asked.now.watch (string_bytes c.args.asked.now.script)
    (string_bytes c.args.asked.now.control)) c.in-Err.status c.as_str.result.now _ refl c.as_str.ensures.value
    (c.in-Err.ensures.found (λ m. no cc))

pub returns-in-Err-fetch_script-clause-loads : goal.returns-in-Err-fetch_script-clause-loads
returns-in-Err-fetch_script-clause-loads g c = λ no.
    loads-roll_script (Fetches g.S.Store.files g.S.Store.sure g.S.Store.faults g.S.Store.gave) c.in-Ok.program c.args.asked.now.config
    c.args.asked.now.watch _ _ c.as_str.result.now c.as_str-2.result.now (string_bytes c.args.asked.now.control) _ _ _
    c.as_str.ensures.value c.as_str-2.ensures.value refl (c.in-Ok.ensures.found (λ m. cc)) c.in-Err-fetch_script.status _
    (c.in-Err-fetch_script.ensures.found (λ m. no cc))

pub returns-in-Err-fetch_control-clause-loads : goal.returns-in-Err-fetch_control-clause-loads
returns-in-Err-fetch_control-clause-loads g c = λ no.
    loads-roll (Fetches g.S.Store.files g.S.Store.sure g.S.Store.faults g.S.Store.gave) c.in-Ok.program c.args.asked.now.config
    c.args.asked.now.watch _ _ c.as_str.result.now c.as_str-2.result.now c.as_str-3.result.now _ _ _
    c.as_str.ensures.value c.as_str-2.ensures.value c.as_str-3.ensures.value (c.in-Ok.ensures.found (λ m. cc)) c.in-Ok-fetch_script.script
    (Err c.in-Err-fetch_control.status) (Err c.in-Err-fetch_control.status) _ _ (c.in-Ok-fetch_script.ensures.found (λ m. cc))
    (c.in-Err-fetch_control.ensures.found (λ m. no cc)) refl

pub returns-in-Ok-fetch_control-clause-loads : goal.returns-in-Ok-fetch_control-clause-loads
returns-in-Ok-fetch_control-clause-loads g c = λ no.
    loads-roll (Fetches g.S.Store.files g.S.Store.sure g.S.Store.faults g.S.Store.gave) c.in-Ok.program c.args.asked.now.config
    c.args.asked.now.watch _ _ c.as_str.result.now c.as_str-2.result.now c.as_str-3.result.now _ _ _
    c.as_str.ensures.value c.as_str-2.ensures.value c.as_str-3.ensures.value (c.in-Ok.ensures.found (λ m. cc)) c.in-Ok-fetch_script.script
    (Ok c.in-Ok-fetch_control.controls) _ _ _ (c.in-Ok-fetch_script.ensures.found (λ m. cc))
    (c.in-Ok-fetch_control.ensures.found (λ m. cc)) refl

pub returns-in-Ok-fetch_control-clause-read : goal.returns-in-Ok-fetch_control-clause-read
returns-in-Ok-fetch_control-clause-read g c =
    roll_may_begin c.args.asked.now.config c.args.asked.now.watch c.in-Ok.program c.in-Ok-fetch_script.script
    c.in-Ok-fetch_control.controls c.requires.sizes c.in-Ok-fetch_script.ensures.fit c.in-Ok-fetch_script.ensures.few
    c.in-Ok-fetch_control.ensures.fit c.in-Ok-fetch_control.ensures.few c.requires.watched
