use Rattle.safetynet_main.proofs.Watched.{monitor_may_begin}
use Rattle.safetynet_main.proofs.files.monitor_of.Goals as goal

pub returns-clause-may : goal.returns-clause-may
returns-clause-may c =
    monitor_may_begin c.args.asked.now.config c.args.asked.now.rules c.args.asked.now.watch c.args.program c.requires.sizes c.requires.ruled
    c.requires.watched
