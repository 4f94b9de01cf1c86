use Rattle.std.proofs.Common.{◌≡◌, Err, ap, ◌∙◌}
use Rattle.sink_pieces.specs.Pieces.{ends}
use Rattle.seed_runs.specs.declared.job.SeedsFault.{SeedsFault}
use Rattle.seed_runs.specs.declared.job.SeedsFault.TheVariants.{Sink, Memory}
use Rattle.seed_runs.proofs.Ranges.{first-put, first-breaks_off, still-none}
use Rattle.seed_runs.proofs.group.run_group.Goals as goal

pub returns-in-Ok-run_seed-clause-ok : goal.returns-in-Ok-run_seed-clause-ok
returns-in-Ok-run_seed-clause-ok g c =
    first-put c.args.job.now c.args.first_seed c.in-Ok-eq0.field-0 _ _ _ c.in-Ok-eq0.ensures.ok c.in-Ok-eq0.field-0-test c.in-Ok-run_seed.ensures.ok

pub returns-in-Err-run_seed-clause-sink : goal.returns-in-Err-run_seed-clause-sink
returns-in-Err-run_seed-clause-sink g c = λ e.
    let is : c.in-Err-run_seed.fault ≡ Sink = cc in
    first-breaks_off c.args.job.now c.args.first_seed c.in-Ok-eq0.field-0 _ _ _ c.in-Ok-eq0.ensures.ok c.in-Ok-eq0.field-0-test c.args.count
    c.requires.some (c.in-Err-run_seed.ensures.sink (ap (λ (f : SeedsFault). Err f) is))

pub returns-in-Err-run_seed-clause-memory : goal.returns-in-Err-run_seed-clause-memory
returns-in-Err-run_seed-clause-memory g c = λ e.
    let is : c.in-Err-run_seed.fault ≡ Memory = cc in
    let same = c.in-Err-run_seed.ensures.memory (ap (λ (f : SeedsFault). Err f) is) in
    ap (λ x. ends (g.C.Sink.written x) (g.R.Sink.written c.run_seed.new.report)) same.0
    ∙ ap (λ x. ends (g.C.Sink.written c.run_side_by_side.new.console) (g.R.Sink.written x)) same.1
    ∙ still-none c.args.job.now c.args.first_seed c.in-Ok-eq0.field-0 _ _ (ends (g.C.Sink.written c.args.console.now) (g.R.Sink.written c.args.report.now))
    c.in-Ok-eq0.ensures.ok c.in-Ok-eq0.field-0-test
