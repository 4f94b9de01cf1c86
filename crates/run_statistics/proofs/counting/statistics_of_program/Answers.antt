use Rattle.std.proofs.Common.{[], sym, ap, subst, ◌∙◌}
use Rattle.run_statistics.proofs.CountedSoFar.{handed-over}
use Rattle.sn_machine.specs.Machine.{MachineData}
use Rattle.run_statistics.specs.Counted.{Counts}
use Rattle.run_statistics.specs.Statistics.{statistics_of}
use Rattle.run_statistics.proofs.counting.statistics_of_program.Goals as goal

pub apply_all-requires-clause-counts : goal.apply_all-requires-clause-counts
apply_all-requires-clause-counts c =
    subst (λ (m : MachineData). Counts c.new-count.result m []) (sym c.in_ok-machine.ensures.start)
    (c.new-count.ensures.counts c.args.program c.args.config _ c.requires.sizes)

pub returns : goal.returns
returns c =
    handed-over c.into_statistics.result c.apply_all.new.count.on c.apply_all.new.count.statistics _ c.into_statistics.ensures.on
    c.into_statistics.ensures.counted
    (λ on. c.apply_all.ensures on
    ∙ ap (λ (m : MachineData). statistics_of m.image m.config c.args.events.now) c.in_ok-machine.ensures.start)
