use Rattle.std.proofs.Common.{arith}
use Rattle.call_files.proofs.Resumed.{machine-read, machine-refused}
use Rattle.call_files.proofs.reading.read_save.Goals as goal

pub returns-in-Ok-clause-read : goal.returns-in-Ok-clause-read
returns-in-Ok-clause-read c = λ no.
    machine-read c.args.program c.args.bytes.now c.in-Ok.machine (omega (arith, c.if-bytes-gt-SAVE_LIMIT.false)) c.in-Ok.ensures.resumed

pub returns-in-Ok-clause-led : goal.returns-in-Ok-clause-led
returns-in-Ok-clause-led c = (c.in-Ok.ensures.resumed.saved, c.in-Ok.ensures.resumed.led)

pub returns-in-Err-Refused-clause-read : goal.returns-in-Err-Refused-clause-read
returns-in-Err-Refused-clause-read c = λ no.
    machine-refused c.args.program c.args.bytes.now c.in-Err-Refused.cause c.in-Err-Refused.field-0
    (omega (arith, c.if-bytes-gt-SAVE_LIMIT.false)) c.in-Err-Refused.field-0-is c.in-Err-Refused.ensures.refused
