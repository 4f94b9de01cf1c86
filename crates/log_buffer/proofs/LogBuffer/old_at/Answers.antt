use Rattle.std.proofs.Common.{◌∙◌, ◌<◌, suc, Some, sym, ap, arith, subst, take, option_copied}
use Rattle.log_buffer.specs.Log.{old_at, LogData}
use Rattle.log_buffer.specs.Index.{entries_of}
use Rattle.log_buffer.proofs.Laws.{or_else}
use Rattle.log_buffer.proofs.LastPlace.{last_place-is, old_at-last, upto}
use Rattle.log_buffer.proofs.Linked.{StandsAt, stands_here, steps_down, old_older, old_here, or_else-none}
use Rattle.log_buffer.proofs.LogBuffer.old_at.Goals as goal

pub older-init : goal.older-init
older-init c = let e = c.of-place.ensures.place ∙ c.self.invariant.index.last c.args.home_side c.args.block c.of-place.ensures.small in
    record {
      is = rw e (last_place-is (entries_of c.self.inside.stored.items) c.args.home_side c.args.block);
      same = rw e (or_else-none _ ∙ old_at-last (entries_of c.self.inside.stored.items) c.args.home_side c.args.block c.args.k);
    }

pub returns-then-stored-k-clause-old : goal.returns-then-stored-k-clause-old
returns-then-stored-k-clause-old c =
    let h : StandsAt c.self.inside.stored.items c.args.home_side c.args.block c.in-Some.at c.index-stored.result.now =
    stands_here _ _ _ _ _ _ _ c.self.invariant.index.linked c.older.invariant.is c.in-Some.is c.from.ensures c.index-stored.ensures in
    ap (λ o. or_else o (option_copied c.older.found)) (sym (old_older _ _ _ _ c.args.k _ h c.self.invariant.log.growing c.if-stored-k.true))
    ∙ (ap (λ o. or_else (old_at (take (upto o) (entries_of c.self.inside.stored.items)) c.args.home_side c.args.block c.args.k)
    (option_copied c.older.found)) (sym c.in-Some.is)
    ∙ (c.older.invariant.same
    ∙ ap (λ (d : LogData). old_at d.entries c.args.home_side c.args.block c.args.k) c.self.view_is))

pub older-smaller : goal.older-smaller
older-smaller c =
    let h : StandsAt c.self.inside.stored.items c.args.home_side c.args.block c.in-Some.at c.index-stored.result.now =
    stands_here _ _ _ _ _ _ _ c.self.invariant.index.linked c.older.invariant.is c.in-Some.is c.from.ensures c.index-stored.ensures in
    let l : upto c.index-stored.result.now.older < suc c.in-Some.at = omega (arith, (steps_down _ _ _ _ _ h).lower) in
    subst (λ o. upto c.index-stored.result.now.older < upto o) (sym c.in-Some.is) l

pub older-preserved : goal.older-preserved
older-preserved c =
    let h : StandsAt c.self.inside.stored.items c.args.home_side c.args.block c.in-Some.at c.index-stored.result.now =
    stands_here _ _ _ _ _ _ _ c.self.invariant.index.linked c.older.invariant.is c.in-Some.is c.from.ensures c.index-stored.ensures in
    let k = steps_down _ _ _ _ _ h in
    record {
      is = k.is;
      same =
          ap (λ o. or_else o (Some c.index-stored.result.now.entry.old)) (k.old c.args.k)
          ∙ (old_here _ _ _ _ c.args.k _ (option_copied c.older.found) h c.self.invariant.log.growing c.if-stored-k.false
          ∙ (ap (λ o. or_else (old_at (take (upto o) (entries_of c.self.inside.stored.items)) c.args.home_side c.args.block c.args.k)
          (option_copied c.older.found)) (sym c.in-Some.is)
          ∙ c.older.invariant.same));
    }
