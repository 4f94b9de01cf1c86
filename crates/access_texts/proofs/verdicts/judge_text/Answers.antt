use Rattle.std.proofs.Common.{sym, subst}
use Rattle.access_texts.specs.Verdicts.{IsJudgedInPart}
use Rattle.access_texts.proofs.verdicts.judge_text.Goals as goal

pub returns-in-Ok-clause-put : goal.returns-in-Ok-clause-put
returns-in-Ok-clause-put g c = λ verdict is.
    let broken = c.judge_list.ensures.put verdict is in (
      subst (λ said. IsJudgedInPart said (g.R.Sink.written c.args.report.now) (g.R.Sink.written c.judge_list.new.report) verdict)
          (sym c.in-Ok.ensures.ok) broken.0,
      broken.1,
    )
