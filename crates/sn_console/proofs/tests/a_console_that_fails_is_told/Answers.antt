use Rattle.std.proofs.Common.{codes}
use Rattle.sn_console.proofs.FirstOf.{IsFirstOf-nil, IsFirstOf-take, IsFirstOf-trans}
use Rattle.sn_console.proofs.tests.a_console_that_fails_is_told.Goals as goal

pub offer-requires : goal.offer-requires
offer-requires g c = rw c.in_ok-outbox.ensures.outbox.0 (IsFirstOf-nil _)

pub settle-requires-clause-passed : goal.settle-requires-clause-passed
settle-requires-clause-passed g c = IsFirstOf-trans _ _ _ c.offer.ensures.first (IsFirstOf-take 2 (codes "abcdef"))
