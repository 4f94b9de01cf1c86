use Rattle.std.proofs.Common.{arith}
use Rattle.driven_replay.proofs.Applied.{applying-starts, applying-fits, applying-room, applying-life, applying-next, applied-all, counted-all}
use Rattle.driven_replay.proofs.going_back.apply_all.Goals as goal

pub events-init : goal.events-init
events-init c = applying-starts c.args.machine.now c.args.driver.now c.args.events.now c.requires.fit c.requires.room c.requires.life

pub apply-requires-clause-fits : goal.apply-requires-clause-fits
apply-requires-clause-fits c = applying-fits _ _ _ _ _ _ c.events.invariant c.event-item.result c.event-item.result c.events-test.true c.event-item.is

pub apply-requires-clause-room : goal.apply-requires-clause-room
apply-requires-clause-room c = applying-room _ _ _ _ _ _ c.events.invariant c.event-item.result c.event-item.result c.events-test.true c.event-item.is

pub apply-requires-clause-life : goal.apply-requires-clause-life
apply-requires-clause-life c = applying-life _ _ _ _ _ _ c.events.invariant c.event-item.result c.event-item.result c.events-test.true c.event-item.is

pub events-preserved : goal.events-preserved
events-preserved c =
    applying-next _ _ _ _ _ _ c.events.invariant c.event-item.result c.event-item.result c.events-test.true c.event-item.is c.apply.new.machine c.apply.new.driver
    c.apply.ensures.next c.apply.ensures.counted c.apply.ensures.one

pub returns : goal.returns
returns c =
    record {
      next = applied-all _ _ _ _ _ _ c.events.invariant (omega (arith, c.events-test.false, c.events.auto.event-index-end));
      counted = counted-all _ _ _ _ _ _ c.events.invariant (omega (arith, c.events-test.false, c.events.auto.event-index-end));
    }
