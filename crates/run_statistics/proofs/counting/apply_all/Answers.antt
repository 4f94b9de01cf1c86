use Rattle.std.proofs.Common.{take, refl, arith}
use Rattle.std.proofs.lemmas.List.{take_all}
use Rattle.run_statistics.proofs.CountedSoFar.{next-fits, next-room, next-counted, counted-all}
use Rattle.run_statistics.proofs.counting.apply_all.Goals as goal

pub events-init : goal.events-init
events-init c = record { counts = c.requires.counts; image = refl; config = refl; room = let r = c.requires.room in omega (arith, r) }

pub apply-requires-clause-fits : goal.apply-requires-clause-fits
apply-requires-clause-fits c =
    next-fits c.args.machine.now c.args.events.now c.events.event-index c.events.count c.events.machine c.events.invariant
    c.event-item.result c.events-test.true c.event-item.is c.requires.fit

pub apply-requires-clause-room : goal.apply-requires-clause-room
apply-requires-clause-room c =
    next-room c.args.machine.now c.args.events.now c.events.event-index c.events.count c.events.machine c.events.invariant
    c.event-item.result c.events-test.true c.event-item.is

pub apply-requires-clause-counts : goal.apply-requires-clause-counts
apply-requires-clause-counts c = (take c.events.event-index c.args.events.now, c.events.invariant.counts)

pub events-preserved : goal.events-preserved
events-preserved c =
    next-counted c.args.machine.now c.args.events.now c.events.event-index c.events.count c.events.machine c.events.invariant
    c.event-item.result c.events-test.true c.event-item.is c.apply.new.self c.apply.new.machine c.apply.result c.apply.ensures.applied
    (c.apply.ensures.counts (take c.events.event-index c.args.events.now) c.events.invariant.counts)

pub returns : goal.returns
returns c =
    counted-all c.args.machine.now c.args.events.now c.events.event-index c.events.count c.events.machine c.events.invariant
    (take_all c.events.event-index c.args.events.now (omega (arith, c.events-test.false, c.events.auto.event-index-end)))
