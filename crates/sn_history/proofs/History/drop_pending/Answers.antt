use Rattle.std.proofs.Common.{◌≡◌, List, [], ap, ◌∙◌, arith}
use Rattle.interval_list.specs.declared.Waiting.{Waiting}
use Rattle.interval_list.proofs.Intervals.{below-none}
use Rattle.sn_history.specs.History.{Record, pending_records, reads_of}
use Rattle.sn_history.proofs.History.drop_pending.Goals as goal

-- what was pending is forgotten
pub invariant_of-self : goal.invariant_of-self
invariant_of-self c =
    let records = c.self.inside.records in
    let e : c.drop_from.new.self ≡ record records { waiting = [] } = c.drop_from.ensures
    ∙ ap (λ (ws : List (Waiting Record)). record records { waiting = ws }) (below-none 0 records.waiting (λ k d l. omega arith)) in
    rw e (
      omega (arith, c.self.invariant.0),
      λ n l. (let w : reads_of n (pending_records c.waiting.result.now)
          ≡ reads_of n (pending_records records.waiting) = ap
          (λ (ws : List (Waiting Record)). reads_of n (pending_records ws)) c.waiting.ensures in
          omega (arith, c.forget_reads.ensures n l, w, c.self.invariant.1 n l)),
    )

pub returns : goal.returns
returns c =
    let records = c.self.inside.records in
    let e : c.drop_from.new.self ≡ record records { waiting = [] } = c.drop_from.ensures
    ∙ ap (λ (ws : List (Waiting Record)). record records { waiting = ws }) (below-none 0 records.waiting (λ k d l. omega arith)) in
    rw (← c.self.view_is, e)
