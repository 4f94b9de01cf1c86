use Rattle.std.proofs.Common.{sym, subst}
use Rattle.consistent_cuts.specs.Runs.{AllFit}
use Rattle.call_files.proofs.Scripts.{script-fits}
use Rattle.call_files.proofs.reading.read_script.Goals as goal

pub returns-in-Ok-clause-fit : goal.returns-in-Ok-clause-fit
returns-in-Ok-clause-fit c =
    subst (AllFit c.args.nodes) (sym c.new.ensures)
    (script-fits c.args.nodes c.args.bytes.now c.in-Ok.events.items c.in-Ok.ensures.ok c.in-Ok.ensures.fit)
