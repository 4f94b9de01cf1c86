use Rattle.std.proofs.Common.{Some, arith}
use Rattle.log_buffer.proofs.Indexed.{puts}
use Rattle.log_buffer.proofs.ClosedUp.{IsClosedUp-kept, IsClosedUp-freed, IsClosedUp-all}
use Rattle.log_buffer.proofs.renewal.close_up.Goals as goal
use Rattle.log_buffer.proofs.renewal.close_up.Goals.{then-x-k, else-x-k}

pub places-preserved : goal.places-preserved
places-preserved c =
    let x = c.index-stored-place.result in
    elim c.if-x-k.branch [
      | then-x-k w ↦ rw (w.stored-is, w.newest-is, w.kept-is) (
          IsClosedUp-kept c.args.k c.args.stored.now c.args.newest.now c.places.stored c.places.newest w.put.new.self c.places.place c.places.kept x c.before-older.result
          c.places.invariant c.requires.indexed.linked c.places.auto.stored
          (omega arith) c.index-stored-place.is c.before-older.ensures.small c.before-older.ensures.place w.if-x-k.true
          (puts c.places.newest w.put.new.self x.entry c.is_home_side-home_side.result
          (Some c.places.kept) c.is_home_side-home_side.ensures w.put.ensures.places))
      | else-x-k w ↦ rw (w.stored-is, w.newest-is, w.kept-is) (
          IsClosedUp-freed c.args.k c.args.stored.now c.args.newest.now c.places.stored c.places.newest w.put-else-x-k.new.self c.places.place c.places.kept x c.before-older.result
          c.places.invariant c.requires.indexed.linked c.places.auto.stored
          (omega arith) c.index-stored-place.is c.before-older.ensures.small c.before-older.ensures.place w.if-x-k.false
          (puts c.places.newest w.put-else-x-k.new.self x.entry c.is_home_side-home_side.result c.before-older.result c.is_home_side-home_side.ensures w.put-else-x-k.ensures.places))
    ]

pub returns-clause-indexed : goal.returns-clause-indexed
returns-clause-indexed c =
    IsClosedUp-all c.args.k c.args.stored.now c.args.newest.now c.places.stored c.places.newest c.places.place c.places.kept
    (omega arith) c.requires.indexed c.places.invariant
