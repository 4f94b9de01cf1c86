use Rattle.std.proofs.Common.{◌≡◌, ◌++◌}
use Rattle.sn_base.specs.Image.{bytes_from}
use Rattle.sn_flat.proofs.flat.push_bytes.Given as goal

abbrev pub invariant-bytes : goal.invariant-bytes
invariant-bytes l = l.memory.items ≡ l.initial.memory.items ++ bytes_from l.place l.image.segments l.start
