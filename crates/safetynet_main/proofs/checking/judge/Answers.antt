use Rattle.std.proofs.Common.{ap}
use Rattle.std.specs.Prelude.{Err}
use Rattle.safetynet_main.proofs.Verdicts.{refused-verdict}
use Rattle.safetynet_main.proofs.checking.judge.Goals as goal

pub returns-in-Err-NotLegal : goal.returns-in-Err-NotLegal
returns-in-Err-NotLegal g c =
    refused-verdict c.args.job.now c.records-records.result.now
    (Err c.in-Err-NotLegal.field-0) c.in-Err-NotLegal.place c.records-records.ensures (ap (λ t. Err t) c.in-Err-NotLegal.field-0-is)
    c.in-Err-NotLegal.ensures.legal c.in-Err-NotLegal.ensures.refused
