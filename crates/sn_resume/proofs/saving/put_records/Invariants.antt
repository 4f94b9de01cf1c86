use Rattle.std.proofs.Common.{drop, take}
use Rattle.std.specs.Prelude.{flat_map}
use Rattle.std.specs.List.{All}
use Rattle.sn_text.specs.Written.{HasValues}
use Rattle.save_text.specs.Text.{record_line}
use Rattle.sn_resume.proofs.Putting.{IsLeft}
use Rattle.sn_resume.proofs.saving.put_records.Given as goal

abbrev pub invariant-records : goal.invariant-records
invariant-records g l = record {
  put :
      IsLeft (flat_map record_line l.records) (flat_map record_line (drop l.taken-index l.records))
      (g.R.Sink.written l.initial.sink) (g.R.Sink.written l.sink) (g.R.Sink.faults l.initial.sink) (g.R.Sink.faults l.sink);
  values : All HasValues (take l.taken-index l.records);
}
