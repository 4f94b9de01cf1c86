use Rattle.call_files.specs.Fetches.{Fetches}
use Rattle.call_files.proofs.Probes.{meters-same}
use Rattle.safetynet_main.proofs.CallLaws.{clause-comes, clause-sure, clause-told, clause-complete, comes-rose, comes-usage, middle-same}
use Rattle.safetynet_main.proofs.call.safetynet.Given as given
use Rattle.safetynet_main.proofs.call.safetynet.Goals as goal

pub returns-clause-comes : goal.returns-clause-comes
returns-clause-comes g c =
    clause-comes _ _ _ _ _ _ _ _ _ _ _ _ _ _ c.answer.ensures.comes
    (meters-same (λ z. (given.Probe-dyn g z).first z.1) (λ z. (given.Probe-dyn g z).tally z.1)
    (λ z. (given.Probe-dyn g z).step z.1) _ _ c.new-probes.ensures)

pub returns-clause-sure : goal.returns-clause-sure
returns-clause-sure g c =
    clause-sure _ _ _ _ _ _ _ _ _ _ _ _ _ _ c.answer.ensures.comes
    (meters-same (λ z. (given.Probe-dyn g z).first z.1) (λ z. (given.Probe-dyn g z).tally z.1)
    (λ z. (given.Probe-dyn g z).step z.1) _ _ c.new-probes.ensures)

pub returns-clause-complete : goal.returns-clause-complete
returns-clause-complete g c = clause-complete _ _ _ _ _ _ _ _ _ _ _ _ _ _ c.answer.ensures.comes c.answer.ensures.sink_fault

pub returns-clause-usage : goal.returns-clause-usage
returns-clause-usage g c = λ e. comes-usage _ _ _ _ _ _ _ _ _ _ _ _ _ (c.answer.ensures.comes (λ m. cc)) e

pub returns-clause-store_fault : goal.returns-clause-store_fault
returns-clause-store_fault g c = λ e. comes-rose _ _ _ _ _ _ _ _ _ _ _ _ _ (c.answer.ensures.comes (λ m. cc)) e

pub returns-clause-told : goal.returns-clause-told
returns-clause-told g c =
    clause-told _ _ _ _ _ _ _ _ _ _ _ _ _ _ c.answer.ensures.comes
    (meters-same (λ z. (given.Probe-dyn g z).first z.1) (λ z. (given.Probe-dyn g z).tally z.1)
    (λ z. (given.Probe-dyn g z).step z.1) _ _ c.new-probes.ensures)

pub returns-clause-nothing : goal.returns-clause-nothing
returns-clause-nothing g c = λ e.
    middle-same (Fetches g.S.Store.files g.S.Store.sure g.S.Store.faults g.S.Store.gave) _ _ _ _ _ _ _ _ _
    (meters-same (λ z. (given.Probe-dyn g z).first z.1) (λ z. (given.Probe-dyn g z).tally z.1)
    (λ z. (given.Probe-dyn g z).step z.1) _ _ c.new-probes.ensures) (c.answer.ensures.nothing e)
