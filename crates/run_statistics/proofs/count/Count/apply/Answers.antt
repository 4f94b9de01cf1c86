use Rattle.std.proofs.Common.{true≢false, sym, ◌∙◌}
use Rattle.run_statistics.proofs.CountedSoFar.{waits-apply, with-applied, reach-apply, covered-apply, owned-apply, added-ok, counted-next}
use Rattle.run_statistics.proofs.count.Count.apply.Goals as goal

pub returns-then-not-self-clause-counts : goal.returns-then-not-self-clause-counts
returns-then-not-self-clause-counts c = λ events had on. absurd (true≢false (sym on ∙ c.if-not-self.true))

pub of-had-requires : goal.of-had-requires
of-had-requires c = (c.requires.counts.1 c.if-not-self.false).owned

pub add-added-requires-clause-waits : goal.add-added-requires-clause-waits
add-added-requires-clause-waits c =
    let had = c.requires.counts.1 c.if-not-self.false in
    waits-apply c.args.machine.now c.apply-answer.new.self c.args.event c.apply-answer.result c.apply-answer.ensures.applied
    c.args.self.now.statistics.instructions.waiting c.apply-answer.ensures.run had.waits

pub add-added-requires-clause-owned : goal.add-added-requires-clause-owned
add-added-requires-clause-owned c =
    let had = c.requires.counts.1 c.if-not-self.false in
    owned-apply c.args.machine.now c.apply-answer.new.self c.args.event c.apply-answer.result c.apply-answer.ensures.applied
    c.args.self.now.owned c.follow.new.owned c.of-had.result.lines c.of-had.result.count c.of-had.result.at_point c.apply-answer.ensures.run
    c.of-had.ensures.nodes c.of-had.ensures.few c.of-had.ensures.homes c.of-had.ensures.cut c.requires.fits c.of-had.ensures.lines
    c.of-had.ensures.there c.of-had.ensures.count c.of-had.ensures.point c.of-had.ensures.recovery had.owned c.follow.ensures.moved
    c.follow.ensures.back

pub add-added-requires-clause-reach : goal.add-added-requires-clause-reach
add-added-requires-clause-reach c =
    reach-apply c.args.machine.now c.apply-answer.new.self c.args.event c.apply-answer.result c.apply-answer.ensures.applied
    c.of-had.result.lines c.of-had.result.reach c.requires.fits c.of-had.ensures.lines c.of-had.ensures.there c.of-had.ensures.reach

pub add-added-requires-clause-covered : goal.add-added-requires-clause-covered
add-added-requires-clause-covered c =
    covered-apply c.args.machine.now c.apply-answer.new.self c.args.event c.apply-answer.result c.apply-answer.ensures.applied
    c.args.self.now.statistics c.args.self.now.owned c.requires.counts.0 c.of-had.result.reach (c.requires.counts.1 c.if-not-self.false)
    c.of-had.ensures.nodes c.of-had.ensures.few c.requires.fits c.of-had.ensures.reach

pub returns-clause-counts : goal.returns-clause-counts
returns-clause-counts c = λ events had on.
    let was = had c.if-not-self.false in
    counted-next c.args.machine.now c.args.event c.args.self.now.statistics c.args.self.now.owned events was c.apply-answer.new.self
    c.add-added.new.self c.follow.new.owned c.apply-answer.ensures.applied.left
    (added-ok c.add-added.result c.add-added.ensures (sym c.is_ok-self.ensures.value ∙ on)
    ∙ with-applied c.args.machine.now c.apply-answer.new.self c.args.event c.apply-answer.result c.apply-answer.ensures.applied
    c.args.self.now.statistics c.of-before.result c.of-before.ensures)
    (owned-apply c.args.machine.now c.apply-answer.new.self c.args.event c.apply-answer.result c.apply-answer.ensures.applied
    c.args.self.now.owned c.follow.new.owned c.of-had.result.lines c.of-had.result.count c.of-had.result.at_point c.apply-answer.ensures.run
    c.of-had.ensures.nodes c.of-had.ensures.few c.of-had.ensures.homes c.of-had.ensures.cut c.requires.fits c.of-had.ensures.lines
    c.of-had.ensures.there c.of-had.ensures.count c.of-had.ensures.point c.of-had.ensures.recovery was.owned c.follow.ensures.moved
    c.follow.ensures.back)
