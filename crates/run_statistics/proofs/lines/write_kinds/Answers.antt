use Rattle.std.proofs.Common.{arith}
use Rattle.run_statistics.specs.Lines.{kind_names}
use Rattle.run_statistics.proofs.Written.{named-next}
use Rattle.run_statistics.proofs.lines.write_kinds.Goals as goal

pub places-preserved : goal.places-preserved
places-preserved c = record {
  text = named-next c.args.line.now c.places.line c.write_stat.new.line c.kind_name.result.now kind_names c.args.x.now.sent c.places.place c.at.result
      c.places.invariant.text c.write_stat.ensures.text c.kind_name.ensures.name c.at.ensures;
  short = omega (arith, c.write_stat.ensures.short, c.places.invariant.short);
}
