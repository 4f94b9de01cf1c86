use Rattle.std.proofs.Common.{◌++◌, ap, sym, ◌∙◌}
use Rattle.sn_flat.proofs.flat.push_block.Goals as goal

pub returns-then-is_zero : goal.returns-then-is_zero
returns-then-is_zero c =
    c.in_ok-extend_from_slice.ensures.items
    ∙ ap (λ bytes. c.args.memory.now.items ++ bytes) (sym (c.is_zero.ensures c.if-is_zero.true) ∙ c.block.ensures)
