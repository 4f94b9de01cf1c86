use Rattle.sn_resume.proofs.Facts.{machine_processors}
use Rattle.sn_resume.proofs.savable.may_save.Goals as goal

pub has_few_bytes-requires : goal.has_few_bytes-requires
has_few_bytes-requires c = machine_processors c.args.machine.now c.recovered-view.ensures.consistent
