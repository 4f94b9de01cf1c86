use Rattle.std.proofs.Common.{◌∙◌, ap, string_bytes}
use Rattle.std.specs.Prelude.{Some}
use Rattle.command_words.specs.Request.{as_request}
use Rattle.command_words.specs.declared.request.Request.{Request as Asked}
use Rattle.call_files.specs.Fetches.{Fetches}
use Rattle.safetynet_drive.proofs.CallLaws.{comes-of, in-the-middle}
use Rattle.safetynet_drive.proofs.call.answer.Goals as goal

pub returns-clause-comes : goal.returns-clause-comes
returns-clause-comes g c = λ m.
    comes-of (Fetches g.S.Store.files g.S.Store.sure g.S.Store.faults g.S.Store.gave) _ _ c.in-Ok-Drive.asked.config
    c.in-Ok-Drive.asked.report c.in-Ok-Drive.asked.watch (string_bytes c.in-Ok-Drive.asked.program)
    c.as_str.result.now c.in-Ok-fetch_program.program c.showing_of.result _ _ _ _ _ _ _
    (c.in-Ok-Drive.ensures.ok ∙ ap (λ (r : Asked). Some (as_request r)) c.in-Ok-Drive.field-0-is) c.as_str.ensures.value
    (c.in-Ok-fetch_program.ensures.found (λ e. cc)) c.showing_of.ensures (c.perform.ensures.follows m)

pub returns-clause-nothing : goal.returns-clause-nothing
returns-clause-nothing g c = λ w.
    in-the-middle (Fetches g.S.Store.files g.S.Store.sure g.S.Store.faults g.S.Store.gave) _ _ c.in-Ok-Drive.asked.config
    c.in-Ok-Drive.asked.report c.in-Ok-Drive.asked.watch (string_bytes c.in-Ok-Drive.asked.program) c.as_str.result.now c.in-Ok-fetch_program.program
    c.showing_of.result _ _ _ _ _ _ _ _
    (c.in-Ok-Drive.ensures.ok ∙ ap (λ (r : Asked). Some (as_request r)) c.in-Ok-Drive.field-0-is) c.as_str.ensures.value
    (c.in-Ok-fetch_program.ensures.found (λ e. cc)) c.showing_of.ensures (c.perform.ensures.nothing w)
