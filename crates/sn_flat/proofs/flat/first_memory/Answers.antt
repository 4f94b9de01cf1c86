use Rattle.std.proofs.Common.{◌≡◌, ◌+◌, ◌*◌, ◌++◌, arith, ap, ◌∙◌}
use Rattle.sn_base.specs.Blocks.{ram_start, ram_size}
use Rattle.sn_base.specs.Image.{bytes_from}
use Rattle.sn_flat.proofs.Bytes.{bytes_from-more, all-bytes}
use Rattle.sn_flat.proofs.flat.first_memory.Goals as goal

pub numbers-preserved : goal.numbers-preserved
numbers-preserved c =
    let e : 64 * c.numbers.number + 64 ≡ 64 * (c.numbers.number + 1) = omega arith in
    c.in_ok-push_block.ensures
    ∙ ap (λ block. c.numbers.memory.items ++ bytes_from 64 c.args.image.now.segments (ram_start + 64 * block)) c.block_of_number.ensures
    ∙ ap (λ bytes. bytes ++ bytes_from 64 c.args.image.now.segments (ram_start + 64 * c.numbers.number)) c.numbers.invariant
    ∙ bytes_from-more (64 * c.numbers.number) 64 c.args.image.now.segments ram_start
    ∙ ap (λ n. bytes_from n c.args.image.now.segments ram_start) e

pub returns : goal.returns
returns c = let e : 64 * c.numbers.number ≡ ram_size = omega arith in c.numbers.invariant ∙ all-bytes c.args.image.now (64 * c.numbers.number) e
