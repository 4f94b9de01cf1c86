use Rattle.std.proofs.Common.{arith, sym, subst, ◌<◌, ◌^◌, List, ℕ}
use Rattle.elf_load.specs.Writing.{IsReadAs}
use Rattle.elf_load.proofs.Written.{file-read, pieces-joined}
use Rattle.elf_load.proofs.writing.write_elf.Goals as goal

pub returns : goal.returns
returns c =
    let image = c.args.image.now in
    let small : image.entry < 2 ^ 32 = omega (arith, c.entry.ensures, c.entry.type_inv) in
    let joined = pieces-joined image _ _ _ _ _ _ _ c.segments-segments.ensures.same c.entry.ensures c.from.ensures c.new-file.ensures.items c.in_ok-add_file_header.ensures c.in_ok-add_table.ensures c.in_ok-add_content.ensures in
    subst (λ (file : List ℕ). IsReadAs file image) (sym joined) (file-read image c.segments-segments.ensures.good c.requires small)
