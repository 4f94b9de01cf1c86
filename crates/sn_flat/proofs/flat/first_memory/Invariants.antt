use Rattle.std.proofs.Common.{◌≡◌, ◌*◌}
use Rattle.sn_base.specs.Blocks.{ram_start}
use Rattle.sn_base.specs.Image.{bytes_from}
use Rattle.sn_flat.proofs.flat.first_memory.Given as goal

abbrev pub invariant-numbers : goal.invariant-numbers
invariant-numbers l = l.memory.items ≡ bytes_from (64 * l.number) l.image.segments ram_start
