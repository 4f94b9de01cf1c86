use Rattle.std.proofs.Common.{◌≡◌, ◌+◌, Err, subst, ap, arith}
use Rattle.rv_core.specs.Flat.{flat_start}
use Rattle.sn_consistency.specs.Projections.{FirstWithoutStep}
use Rattle.trace_check.specs.declared.verdict.CheckFault.TheVariants.{NotLegal}
use Rattle.trace_check.proofs.FirstRefused.{none_first, one_first}
use Rattle.trace_check.proofs.verdict.check.Goals as goal
use Rattle.trace_check.proofs.verdict.check.Goals.{Else-done-records}

pub returns-then-done-records-clause-refused : goal.returns-then-done-records-clause-refused
returns-then-done-records-clause-refused g c = λ place t. (
  (λ e. absurd (cc)),
  λ f. absurd (none_first c.args.image.now c.args.nodes c.args.records.now place (c.in-Ok.ensures.all c.if-done-records.true) f),
)

refused : (g : _) (c : Else-done-records g) → FirstWithoutStep c.args.image.now (flat_start c.args.image.now c.args.nodes) c.args.records.now c.in-Ok.done
refused g c = c.in-Ok.ensures.some (let w = c.in-Ok.ensures.within in let n = c.if-done-records.false in omega (arith, w, n))

pub returns-clause-legal : goal.returns-clause-legal
returns-clause-legal g c = λ t. (
  (λ e. absurd (cc)),
  λ x. absurd (none_first c.args.image.now c.args.nodes c.args.records.now c.in-Ok.done x (refused g ((goal.at.returns-clause-legal g c).Else-done-records))),
)

pub returns-clause-refused : goal.returns-clause-refused
returns-clause-refused g c = λ place t. (
  (λ e. let i : c.in-Ok.done + 1 ≡ place + 1 = cc in
      let j : c.in-Ok.done ≡ place = omega (arith, i) in
      subst (FirstWithoutStep c.args.image.now (flat_start c.args.image.now c.args.nodes) c.args.records.now) j (refused g ((goal.at.returns-clause-refused g c).Else-done-records))),
  λ f.
      let j : c.in-Ok.done ≡ place = one_first c.args.image.now c.args.nodes c.args.records.now c.in-Ok.done place (refused g ((goal.at.returns-clause-refused g c).Else-done-records)) f in
      ap (λ n. Err (NotLegal (n + 1))) j,
)
