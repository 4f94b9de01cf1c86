use Rattle.std.proofs.Common.{take}
use Rattle.access_check.specs.Verdicts.{IsLast, writes_into}
use Rattle.access_check.proofs.refusal.last_write.Given as goal

-- so for the accesses so far
abbrev pub invariant-earlier : goal.invariant-earlier
invariant-earlier l = IsLast (writes_into l.access) (take l.place l.before) l.last
