use Rattle.std.proofs.Common.{◌≡◌, ◌+◌, map, vec_len}
use Rattle.std.specs.List.{range_with_len}
use Rattle.node_threads.proofs.slots.make_slots.Given as goal

abbrev pub invariant-workers : goal.invariant-workers
invariant-workers g l = record {
  parts : l.all.parts + vec_len l.slots ≡ l.initial.all.parts;
  amount : l.all.amount ≡ 0;
  many : vec_len l.slots ≡ l.worker;
  numbers : map (λ s. s.worker) l.slots.items ≡ range_with_len 0 l.worker;
}
