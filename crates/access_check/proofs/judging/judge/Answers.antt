use Rattle.std.proofs.Common.{◌<◌, length, arith}
use Rattle.access_check.specs.Legal.{start_of}
use Rattle.access_check.proofs.Runs.{legal_or_refused}
use Rattle.access_check.proofs.judging.judge.Goals as goal

pub returns-clause-legal : goal.returns-clause-legal
returns-clause-legal c =
    let within = c.count_legal-done.ensures.within in
    let less : c.count_legal-done.result < length c.args.accesses.now = omega (arith, within, c.if-done-accesses.false) in
    let m = start_of c.args.words.now in (
      (λ e. absurd (cc)),
      (λ g. absurd (legal_or_refused m c.args.accesses.now c.count_legal-done.result
          (c.count_legal-done.ensures.refused m c.in_ok-blocks.ensures.shows less) g)),
    )
