use Rattle.std.proofs.Common.{ap}
use Rattle.std.specs.Prelude.{Err}
use Rattle.safetynet_drive.proofs.CallLaws.{broken-off, left-off, cut-short}
use Rattle.safetynet_drive.proofs.call.perform.Goals as goal

pub returns-in-Err-Sink-clause-follows : goal.returns-in-Err-Sink-clause-follows
returns-in-Err-Sink-clause-follows g c = λ m.
    broken-off g.L.Lines.read g.L.Lines.left _ _ c.args.job _ _ _ _ (c.in-Err-Sink.ensures.sink (ap (λ t. Err t) c.in-Err-Sink.field-0-is))

pub returns-in-Err-Input-clause-follows : goal.returns-in-Err-Input-clause-follows
returns-in-Err-Input-clause-follows g c = λ m.
    left-off c.args.job _ _ _ _ _ _ _ (c.in-Err-Input.ensures.input (ap (λ t. Err t) c.in-Err-Input.field-0-is))

pub returns-in-Err-Memory-clause-nothing : goal.returns-in-Err-Memory-clause-nothing
returns-in-Err-Memory-clause-nothing g c = λ w.
    cut-short c.args.job _ _ _ _ _ _ _ _ _ _ (c.in-Err-Memory.ensures.memory (ap (λ t. Err t) c.in-Err-Memory.field-0-is))
