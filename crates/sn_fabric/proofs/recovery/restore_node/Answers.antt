use Rattle.std.proofs.Common.{refl, arith}
use Rattle.log_buffer.proofs.Entries.{from_shorter}
use Rattle.mosi_cache.proofs.Restored.{fits-unwound, unwound-restored}
use Rattle.sn_fabric.proofs.recovery.restore_node.Goals as goal

pub unwind-requires-clause-fits : goal.unwind-requires-clause-fits
unwind-requires-clause-fits c =
    fits-unwound c.args.unit.now.cache c.begin_restore.new.self c.args.unit.now.log.entries c.args.k c.begin_restore.ensures c.requires.lines c.requires.frames

pub returns-clause-unit : goal.returns-clause-unit
returns-clause-unit c =
    rw (
      c.back_to.ensures,
      unwound-restored c.args.unit.now.cache c.begin_restore.new.self c.unwind.new.target c.args.unit.now.log.entries c.args.k c.begin_restore.ensures c.unwind.ensures.held c.unwind.ensures.stays,
      c.clear.ensures,
    ) refl

pub returns-clause-undone : goal.returns-clause-undone
returns-clause-undone c =
    let s = from_shorter c.args.k c.args.unit.now.log.entries in omega (arith, c.unwind-undone.ensures.count, c.requires.few)
