use Rattle.std.proofs.Common.{take}
use Rattle.access_check.specs.Verdicts.{IsLast, ends_reservation}
use Rattle.access_check.proofs.refusal.last_end.Given as goal

-- so for the accesses so far
abbrev pub invariant-earlier : goal.invariant-earlier
invariant-earlier l = IsLast (ends_reservation l.core l.block) (take l.place l.before) l.last
