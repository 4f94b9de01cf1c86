use Rattle.std.proofs.Common.{arith}
use Rattle.sn_probe.proofs.Observation.{told-one, told-next, told-all}
use Rattle.sn_probe.proofs.probe_set.tell_all.Goals as goal

pub each-preserved : goal.each-preserved
each-preserved g c = record {
  told =
      told-next _ _ c.each.place _ c.each.probes.items _ _ (omega (arith, c.each-test.true, c.len-place-end.ensures))
      (omega (arith, c.each-test.true, c.len-place-end.ensures, c.each.invariant.same)) c.index_mut.ensures.value
      (told-one _ _ _ _ _ c.tell_one.ensures.tally c.tell_one.ensures.first c.tell_one.ensures.step) c.each.invariant.told;
  same = c.each.invariant.same;
}

pub returns : goal.returns
returns g c =
    told-all _ _ c.each.place _ c.each.probes.items
    (omega (arith, c.each-test.false, c.each.auto.place-end, c.len-place-end.ensures)) c.each.invariant.told
