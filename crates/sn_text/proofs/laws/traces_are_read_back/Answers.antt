use Rattle.sn_text.proofs.Written.{record-back, trace-back, trace-back_commented}
use Rattle.sn_text.proofs.laws.traces_are_read_back.Goals as goal

pub returns-clause-line : goal.returns-clause-line
returns-clause-line c = λ nodes taken few is. record-back nodes taken few is

pub returns-clause-trace : goal.returns-clause-trace
returns-clause-trace c = λ nodes records few are short. trace-back nodes records few are short

pub returns-clause-commented : goal.returns-clause-commented
returns-clause-commented c = λ nodes records comments few are short nothing. trace-back_commented nodes records comments few are short nothing
