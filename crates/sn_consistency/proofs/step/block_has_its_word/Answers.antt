use Rattle.sn_consistency.proofs.BlockLaws.{word_block}
use Rattle.sn_consistency.proofs.step.block_has_its_word.Goals as goal

pub returns : goal.returns
returns c = word_block
