use Rattle.std.proofs.Common.{◌≡◌, Err, ap, inl, inr, ⊎_elim, arith}
use Rattle.ordered_run.proofs.NodeThreadsPuts.{rose-later}
use Rattle.seed_runs.proofs.Puts.{all-lawful}
use Rattle.seed_runs.specs.declared.job.SeedsFault.{SeedsFault}
use Rattle.seed_runs.specs.declared.job.SeedsFault.TheVariants.{Sink, Memory}
use Rattle.seed_runs.proofs.Ranges.{none-put, group-put, broken-off, left-off, all-shown}
use Rattle.seed_runs.proofs.seeds.run_seeds.Goals as goal

pub groups-init : goal.groups-init
groups-init g c = record {
  put = none-put c.args.job c.args.job.first _;
  within = omega arith;
  console_later = omega arith;
  report_later = omega arith;
}

pub groups-preserved : goal.groups-preserved
groups-preserved g c = record {
  put = group-put c.args.job c.args.job.first c.groups.place _ _ _ c.groups.invariant.put c.in-Ok.done c.in-Ok.ensures.ok;
  within = omega (arith, c.in-Ok.ensures.few, c.min-count.ensures, c.groups-test.true);
  console_later = omega (arith, c.run_group.ensures.console_later, c.groups.invariant.console_later);
  report_later = omega (arith, c.run_group.ensures.report_later, c.groups.invariant.report_later);
}

pub returns-in-Err-clause-sink : goal.returns-in-Err-clause-sink
returns-in-Err-clause-sink g c = λ e.
    let is : c.in-Err.fault ≡ Sink = cc in
    broken-off c.args.job c.groups.place _ _ _ c.groups.invariant.put (all-lawful c.args.job c.requires) _
    (omega (arith, c.min-count.ensures, c.groups-test.true)) (c.in-Err.ensures.sink (ap (λ (f : SeedsFault). Err f) is))

pub returns-in-Err-clause-memory : goal.returns-in-Err-clause-memory
returns-in-Err-clause-memory g c = λ e.
    let is : c.in-Err.fault ≡ Memory = cc in
    left-off c.args.job c.groups.place _ _ _ c.groups.invariant.put (all-lawful c.args.job c.requires) (omega (arith, c.groups-test.true))
    (c.in-Err.ensures.memory (ap (λ (f : SeedsFault). Err f) is))

pub returns-in-Err-clause-cause : goal.returns-in-Err-clause-cause
returns-in-Err-clause-cause g c = λ e.
    let is : c.in-Err.fault ≡ Sink = cc in
    ⊎_elim
    (λ rose. inl (rose-later (g.C.Sink.faults c.args.console.now) (g.C.Sink.faults c.groups.console)
    (g.C.Sink.faults c.run_group.new.console) c.groups.invariant.console_later rose))
    (λ rose. inr (rose-later (g.R.Sink.faults c.args.report.now) (g.R.Sink.faults c.groups.report)
    (g.R.Sink.faults c.run_group.new.report) c.groups.invariant.report_later rose))
    (c.in-Err.ensures.cause (ap (λ (f : SeedsFault). Err f) is))

pub returns-clause-ok : goal.returns-clause-ok
returns-clause-ok g c =
    all-shown c.args.job c.groups.place _ _ c.groups.invariant.put
    (omega (arith, c.groups-test.false, c.groups.invariant.within)) (all-lawful c.args.job c.requires)
