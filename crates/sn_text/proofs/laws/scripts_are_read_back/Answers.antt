use Rattle.sn_text.proofs.Written.{event-back, script-back}
use Rattle.sn_text.proofs.laws.scripts_are_read_back.Goals as goal

pub returns-clause-line : goal.returns-clause-line
returns-clause-line c = λ nodes event few is. event-back nodes event few is.fits is.numbers

pub returns-clause-script : goal.returns-clause-script
returns-clause-script c = λ nodes events few are short. script-back nodes events few are short
