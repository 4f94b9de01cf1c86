use Rattle.sn_text.proofs.Written.{record-back}
use Rattle.sn_text.proofs.line.Line.trace.Goals as goal

pub returns-clause-read_back : goal.returns-clause-read_back
returns-clause-read_back c =
    λ nodes few there. record-back nodes c.args.taken.now few
    (record { core = there; values = c.record.ensures.values })
