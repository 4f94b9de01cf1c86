use Rattle.sn_text.proofs.Written.{event-back}
use Rattle.sn_text.proofs.line.Line.script.Goals as goal

pub returns-clause-read_back : goal.returns-clause-read_back
returns-clause-read_back c = λ nodes few fits. event-back nodes c.args.event.now few fits c.the_event.ensures.numbers
