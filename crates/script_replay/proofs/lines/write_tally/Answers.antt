use Rattle.std.proofs.Common.{◌≡◌, length, ap, arith}
use Rattle.script_replay.proofs.Tallies.{tally-start, tally-next, tally-ends}
use Rattle.script_replay.proofs.lines.write_tally.Goals as goal

pub places-init : goal.places-init
places-init g c =
    let none : length c.clear.new.self ≡ 0 = ap length c.clear.ensures in
    record { written = tally-start _ c.args.before.now c.args.probe c.clear.new.self c.clear.ensures; short = omega (arith, none) }

pub returns-in_default : goal.returns-in_default
returns-in_default g c =
    tally-ends _ c.args.before.now c.args.probe c.places.place 16 c.places.line c.line.result
    (omega (arith, c.places-test.true)) c.line.ensures c.in_default.not-Some c.places.invariant.written

pub places-preserved : goal.places-preserved
places-preserved g c = record {
  written =
      tally-next _ c.args.before.now c.args.probe c.places.place c.in-Some.value c.places.line c.probe.new.self c.line.result c.line.ensures
      c.in-Some.is c.probe.ensures.text c.places.invariant.written;
  short = omega (arith, c.probe.ensures.short, c.places.invariant.short);
}
