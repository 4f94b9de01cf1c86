use Rattle.std.proofs.Common.{arith, add-one, ◌∙◌}
use Rattle.elf_load.specs.Elf.{first_headers}
use Rattle.elf_load.proofs.program_header.read_headers.Goals as goal

pub headers-init : goal.headers-init
unfolding first_headers
headers-init c = record { same = c.new-headers.ensures.items; counted = c.new-headers.ensures.len }

pub headers-preserved : goal.headers-preserved
unfolding first_headers
headers-preserved c = record {
  same = c.in_ok-push.ensures.items ∙ rw (c.headers.invariant.same, c.read.ensures, add-one);
  counted = omega (arith, c.in_ok-push.ensures.len, c.headers.invariant.counted);
}
