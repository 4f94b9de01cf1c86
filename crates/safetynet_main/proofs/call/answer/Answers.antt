use Rattle.std.proofs.Common.{ap, refl}
use Rattle.std.specs.Prelude.{Ok, Err}
use Rattle.call_files.specs.Fetches.{Fetches}
use Rattle.safetynet_main.proofs.CallLaws.{comes-none, comes-some, middle-some}
use Rattle.safetynet_main.proofs.Demos.{comes-demo}
use Rattle.safetynet_main.proofs.call.answer.Goals as goal

pub returns-in-Err-Usage-clause-comes : goal.returns-in-Err-Usage-clause-comes
returns-in-Err-Usage-clause-comes g c = λ no.
    comes-none (Fetches g.S.Store.files g.S.Store.sure g.S.Store.faults g.S.Store.gave) _ _ _ _ _ _
    (c.in-Err-Usage.ensures.usage (ap (λ t. Err t) c.in-Err-Usage.field-0-is))

pub returns-in-Demo-clause-comes : goal.returns-in-Demo-clause-comes
returns-in-Demo-clause-comes g c = λ m.
    comes-demo (Fetches g.S.Store.files g.S.Store.sure g.S.Store.faults g.S.Store.gave) _ _ c.in-Ok.request _ _ _ _ _ _ _ c.in-Ok.ensures.ok
    c.in-Demo.is (c.demo-ended.ensures.follows m)

pub returns-in-Err-clause-comes : goal.returns-in-Err-clause-comes
returns-in-Err-clause-comes g c = λ no.
    comes-some (Fetches g.S.Store.files g.S.Store.sure g.S.Store.faults g.S.Store.gave) _ _ _
    (Err c.in-Err.status) _ _ _ _ _ _ _ c.in-Ok.ensures.ok (c.in-Err.ensures.loads (λ m. no cc)) (refl, refl)

pub returns-in-Ok-loaded-clause-comes : goal.returns-in-Ok-loaded-clause-comes
returns-in-Ok-loaded-clause-comes g c = λ m.
    comes-some (Fetches g.S.Store.files g.S.Store.sure g.S.Store.faults g.S.Store.gave) _ _ _
    (Ok c.in-Ok-loaded.job) _ _ _ _ _ _ _ c.in-Ok.ensures.ok (c.in-Ok-loaded.ensures.loads (λ e. cc)) (c.perform.ensures.follows m)

pub returns-in-Ok-loaded-clause-nothing : goal.returns-in-Ok-loaded-clause-nothing
returns-in-Ok-loaded-clause-nothing g c = λ w.
    middle-some (Fetches g.S.Store.files g.S.Store.sure g.S.Store.faults g.S.Store.gave) _ _ _
    c.in-Ok-loaded.job c.perform.result _ _ _ _ _ c.in-Ok.ensures.ok (c.in-Ok-loaded.ensures.loads (λ e. cc)) (c.perform.ensures.nothing w)
