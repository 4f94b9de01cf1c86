use Rattle.std.proofs.Common.{List, arith, sym, subst}
use Rattle.std.specs.List.{Contains}
use Rattle.std.proofs.lemmas.List.Elements.{Contains-append_left, Contains-push}
use Rattle.monitor_run.specs.declared.marks.Mark.{Mark}
use Rattle.monitor_run.proofs.Some.{taken-none, taken-all, taken-less}
use Rattle.monitor_run.proofs.Looked.{all-seen, looked-or-last}
use Rattle.monitor_run.proofs.marks.take_seen.Goals as goal

pub returns-in_default-clause-taken : goal.returns-in_default-clause-taken
returns-in_default-clause-taken c = taken-none _ _ c.requires.none c.in_default.ensures.cases

pub returns-then-last-gt0-clause-taken : goal.returns-then-last-gt0-clause-taken
returns-then-last-gt0-clause-taken c =
    taken-all _ _ _ _ c.in-Some.ensures.cases.0 c.take_looked.ensures.some c.take_looked.ensures.above _ c.keep.ensures.mark c.if-last-gt0.true

pub returns-else-last-gt0-clause-taken : goal.returns-else-last-gt0-clause-taken
returns-else-last-gt0-clause-taken c =
    taken-less _ _ _ _ c.in-Some.ensures.cases.0 c.take_looked.ensures.some c.take_looked.ensures.above (omega (arith, c.if-last-gt0.false))

pub returns-then-last-gt0-clause-looked : goal.returns-then-last-gt0-clause-looked
returns-then-last-gt0-clause-looked c =
    looked-or-last c.args.published.now _ _ c.in-Some.ensures.cases.0 c.args.looks.now _ _ c.keep.ensures.mark c.take_looked.ensures.looked

pub returns-then-last-gt0-clause-all : goal.returns-then-last-gt0-clause-all
returns-then-last-gt0-clause-all c =
    let seen = c.take_looked.new.seen.items in
    all-seen c.args.published.now _ _ c.in-Some.ensures.cases.0 c.args.looks.now seen c.keep.new.marks.items
    (λ m at. subst (λ (l : List Mark). Contains l m) (sym c.keep.ensures.mark) (Contains-append_left seen _ m at))
    (λ high. subst (λ (l : List Mark). Contains l c.in-Some.last.now) (sym c.keep.ensures.mark) (Contains-push seen c.in-Some.last.now))
    c.take_looked.ensures.all

pub returns-else-last-gt0-clause-all : goal.returns-else-last-gt0-clause-all
returns-else-last-gt0-clause-all c =
    all-seen c.args.published.now _ _ c.in-Some.ensures.cases.0 c.args.looks.now c.take_looked.new.seen.items c.take_looked.new.seen.items
    (λ m at. at) (λ high. absurd (omega (arith, high, c.if-last-gt0.false))) c.take_looked.ensures.all
