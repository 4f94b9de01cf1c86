use Rattle.std.proofs.Common.{arith, ◌≤◌, ap}
use Rattle.sn_base.specs.declared.config.Config.{Config}
use Rattle.script_replay.proofs.Groups.{cores-none, cores-more, few-nodes, some-is}
use Rattle.script_replay.proofs.lines.write_cores.Goals as goal

pub cores-init : goal.cores-init
cores-init c = record { same = cores-none _ _ _; short = omega arith }

pub core-requires-in-cores-clause-room : goal.core-requires-in-cores-clause-room
core-requires-in-cores-clause-room c =
    let few : c.args.machine.now.config.nodes ≤ 16 = few-nodes c.args.machine.now.config c.config.ensures.fits in
    let same = ap (λ (t : Config). t.nodes) c.config.ensures.same in
    omega (arith, few, same, c.cores-test.true, c.cores.invariant.short, c.requires.room)

pub cores-preserved : goal.cores-preserved
cores-preserved c = record {
  same =
      cores-more c.args.line.now c.cores.line c.core-in-cores.new.self c.args.before.now c.recovered-view.result c.args.machine.now
      c.cores.number c.unwrap-node.result c.core.result.now
      c.recovered-view.ensures.shown
      (some-is _ _ _ c.new.ensures.some c.unwrap-node.ensures) c.core.ensures c.cores.invariant.same c.core-in-cores.ensures.text;
  short = omega (arith, c.cores.invariant.short, c.core-in-cores.ensures.short);
}
