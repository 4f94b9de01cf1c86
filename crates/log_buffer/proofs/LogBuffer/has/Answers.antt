use Rattle.std.proofs.Common.{◌∙◌, sym, ap, arith, subst, take, suc, ◌<◌}
use Rattle.log_buffer.specs.Log.{has_entry, LogData}
use Rattle.log_buffer.specs.Index.{entries_of}
use Rattle.log_buffer.proofs.LastPlace.{last_place-is, has_entry-last, upto}
use Rattle.log_buffer.proofs.Linked.{StandsAt, stands_here, steps_down, has_newer, has_here}
use Rattle.log_buffer.proofs.LogBuffer.has.Goals as goal

pub older-init : goal.older-init
older-init c = let e = c.of-place.ensures.place ∙ c.self.invariant.index.last c.args.home_side c.args.block c.of-place.ensures.small in
    record {
      is = rw e (last_place-is (entries_of c.self.inside.stored.items) c.args.home_side c.args.block);
      same = rw e (has_entry-last (entries_of c.self.inside.stored.items) c.args.interval c.args.home_side c.args.block);
    }

pub returns-then-stored-interval : goal.returns-then-stored-interval
returns-then-stored-interval c =
    let h : StandsAt c.self.inside.stored.items c.args.home_side c.args.block c.in-Some.at c.index-stored.result.now =
    stands_here _ _ _ _ _ _ _ c.self.invariant.index.linked c.older.invariant.is c.in-Some.is c.from.ensures c.index-stored.ensures in
    has_here _ _ _ _ c.args.interval _ h c.self.invariant.log.growing c.if-stored-interval.true
    ∙ (ap (λ o. has_entry (take (upto o) (entries_of c.self.inside.stored.items)) c.args.interval c.args.home_side c.args.block)
    (sym c.in-Some.is)
    ∙ (c.older.invariant.same
    ∙ ap (λ (d : LogData). has_entry d.entries c.args.interval c.args.home_side c.args.block) c.self.view_is))

pub older-smaller : goal.older-smaller
older-smaller c =
    let h : StandsAt c.self.inside.stored.items c.args.home_side c.args.block c.in-Some.at c.index-stored.result.now =
    stands_here _ _ _ _ _ _ _ c.self.invariant.index.linked c.older.invariant.is c.in-Some.is c.from.ensures c.index-stored.ensures in
    let l : upto c.index-stored.result.now.older < suc c.in-Some.at = omega (arith, (steps_down _ _ _ _ _ h).lower) in
    subst (λ o. upto c.index-stored.result.now.older < upto o) (sym c.in-Some.is) l

pub older-preserved : goal.older-preserved
older-preserved c =
    let h : StandsAt c.self.inside.stored.items c.args.home_side c.args.block c.in-Some.at c.index-stored.result.now =
    stands_here _ _ _ _ _ _ _ c.self.invariant.index.linked c.older.invariant.is c.in-Some.is c.from.ensures c.index-stored.ensures in
    let k = steps_down _ _ _ _ _ h in
    record {
      is = k.is;
      same =
          k.has c.args.interval
          ∙ (has_newer _ _ _ _ c.args.interval _ h c.if-stored-interval.false
          ∙ (ap (λ o. has_entry (take (upto o) (entries_of c.self.inside.stored.items)) c.args.interval c.args.home_side c.args.block)
          (sym c.in-Some.is)
          ∙ c.older.invariant.same));
    }
