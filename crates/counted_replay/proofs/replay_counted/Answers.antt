use Rattle.std.proofs.Common.{◌∙◌, inl}
use Rattle.counted_replay.proofs.Behind.{fits-script, text-is, counted, broken-replay, broken-lines, knows-lines}
use Rattle.counted_replay.proofs.replay_counted.Goals as goal

pub statistics_text-requires-clause-fit : goal.statistics_text-requires-clause-fit
statistics_text-requires-clause-fit g c = fits-script c.args.job _ c.events.ensures c.requires.run.events_fit

pub returns-in-Ok-put_report-clause-ok : goal.returns-in-Ok-put_report-clause-ok
returns-in-Ok-put_report-clause-ok g c =
    counted c.args.job _ _ _ _ _ _ (c.as_slice.ensures.value ∙ text-is c.args.job _ _ c.in-Ok.ensures c.events.ensures) c.in-Ok-replay.ensures.ok
    (c.in-Ok-put_report.ensures.ok _)

pub returns-in-Err-clause-sink : goal.returns-in-Err-clause-sink
returns-in-Err-clause-sink g c = λ e. broken-replay c.args.job _ _ _ (c.in-Err.ensures.sink e)

pub returns-in-Err-clause-applied : goal.returns-in-Err-clause-applied
returns-in-Err-clause-applied g c = λ e. inl (c.in-Err.ensures.applied e)

pub returns-clause-sink : goal.returns-clause-sink
returns-clause-sink g c = λ e.
    broken-lines c.args.job _ _ _ _ _ _ (c.as_slice.ensures.value ∙ text-is c.args.job _ _ c.in-Ok.ensures c.events.ensures) c.in-Ok-replay.ensures.ok
    (c.in-Err-put_report.ensures.err _)

pub returns-clause-applied : goal.returns-clause-applied
returns-clause-applied g c = λ e.
    knows-lines c.args.job _ _ _ _ _ _ _ (c.as_slice.ensures.value ∙ text-is c.args.job _ _ c.in-Ok.ensures c.events.ensures) c.in-Ok-replay.ensures.ok
    (c.in-Err-put_report.ensures.err _) c.in-Ok-replay.ensures.told
