use Rattle.std.proofs.Common.{◌≡◌, drop}
use Rattle.sn_base.specs.Image.{is_executable}
use Rattle.elf_load.proofs.loading.executable.Given as goal

abbrev pub invariant-segments : goal.invariant-segments
invariant-segments l = is_executable l.segments l.address ≡ is_executable (drop l.segment-index l.segments) l.address
