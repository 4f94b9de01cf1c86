use Rattle.std.proofs.Common.{codes}
use Rattle.sn_console.proofs.FirstOf.{IsFirstOf-nil, IsFirstOf-take, IsFirstOf-trans}
use Rattle.sn_console.proofs.tests.bytes_are_written_once_and_in_order.Goals as goal

pub offer-requires : goal.offer-requires
offer-requires g c = rw c.in_ok-outbox.ensures.outbox.0 (IsFirstOf-nil _)

pub offer-requires-2 : goal.offer-requires-2
offer-requires-2 g c = IsFirstOf-trans _ _ _ c.offer.ensures.first (IsFirstOf-take 3 (codes "abcdefghij"))

pub settle-requires-clause-passed : goal.settle-requires-clause-passed
settle-requires-clause-passed g c =
    rw c.meet.ensures.same.0 (IsFirstOf-trans _ _ _ c.offer-2.ensures.first (IsFirstOf-take 10 (codes "abcdefghijkl")))
