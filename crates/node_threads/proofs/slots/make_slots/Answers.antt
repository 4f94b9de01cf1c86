use Rattle.std.proofs.Common.{arith}
use Rattle.node_threads.proofs.Numbers.{numbers-more}
use Rattle.node_threads.proofs.slots.make_slots.Goals as goal

pub workers-preserved : goal.workers-preserved
workers-preserved g c = record {
  parts = omega (arith, c.split_off-share.ensures.parts_left, c.in_ok-push.ensures.len, c.workers.invariant.parts);
  amount = omega (arith, c.split_off-share.ensures.amount_left, c.workers.invariant.amount);
  many = omega (arith, c.in_ok-push.ensures.len, c.workers.invariant.many);
  numbers = numbers-more c.workers.slots.items _ _ (λ s. s.worker) c.workers.worker c.in_ok-push.ensures.items c.from-in-workers.ensures
      c.workers.invariant.numbers;
}
