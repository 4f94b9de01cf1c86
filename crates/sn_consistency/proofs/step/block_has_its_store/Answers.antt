use Rattle.sn_consistency.proofs.BlockLaws.{store_block}
use Rattle.sn_consistency.proofs.step.block_has_its_store.Goals as goal

pub returns : goal.returns
returns c = store_block
