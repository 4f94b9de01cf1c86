use Rattle.std.proofs.Common.{◌≡◌, ◌+◌, ◌<◌, ◌≤◌, [], All, length, take, get_or, List, Vec, Global, vec_capacity, sym, ap, subst, ◌∙◌, true≢false, arith}
use Rattle.std.specs.List.{Contains}
use Rattle.std.proofs.lemmas.List.Elements.{All-push}
use Rattle.monitor_run.specs.declared.marks.Mark.{Mark}
use Rattle.monitor_run.specs.Seen.{IsSomeOf}
use Rattle.monitor_run.specs.Taken.{Grow}
use Rattle.monitor_run.proofs.Some.{some-passed, some-taken, one-more}
use Rattle.monitor_run.proofs.Looked.{IsPassed, AreTakenUpTo, stands-there, passed-next, is-there, all-taken, all-passed}
use Rattle.monitor_run.proofs.marks.take_looked.Goals.{then-mark-gt0+then-is_at, else-mark-gt0}
use Rattle.monitor_run.proofs.marks.take_looked.Goals.{else-mark-gt0-via-then-mark-gt0+else-is_at, else-mark-gt0-via-else-mark-gt0}
use Rattle.monitor_run.proofs.marks.take_looked.Goals as goal

pub marks-init : goal.marks-init
marks-init c =
    let none : length c.args.seen.now.items ≡ 0 = ap (λ (l : List Mark). length l) c.requires.none in record {
      some = subst (λ (l : List Mark). IsSomeOf l []) (sym c.requires.none) tt;
      above = λ k d l. absurd (omega (arith, l, none));
      looked = λ k d l. absurd (omega (arith, l, none));
      passed = λ grow i k d e low. absurd (omega (arith, low));
      all = λ grow risen k d low. absurd (omega (arith, low));
      few = omega (arith, none);
      room = omega arith;
    }

pub marks-preserved : goal.marks-preserved
marks-preserved c =
    let published = c.args.published.now in
    let looks = c.args.looks.now in
    let index = c.marks.mark-index in
    let place = c.marks.place in
    let found = c.first_from-place.result in
    let none : Mark = record { point = 0; committed = 0 } in
    let mark = get_or published index none in
    let passed = passed-next published looks index place found none c.marks-test.true c.marks.invariant.passed c.first_from-place.ensures in
    elim c.if-mark-gt0.branch [
      | then-mark-gt0+then-is_at w ↦
          let seen : List Mark = c.marks.seen.items in
          let longer = ap (λ (v : Vec Mark Global). v.items) w.seen-is ∙ w.keep.ensures.mark in
          let more = one-more seen c.if-mark-gt0.seen.items _ longer in record {
            some = some-taken published index none c.marks-test.true seen c.if-mark-gt0.seen.items c.marks.invariant.some longer;
            above = subst (λ (l : List Mark). All (λ (m : Mark). 0 < m.point) l) (sym longer)
                (All-push (λ (m : Mark). 0 < m.point) seen mark c.marks.invariant.above w.if-mark-gt0.true);
            looked = subst (λ (l : List Mark). All (λ (m : Mark). Contains looks m) l) (sym longer)
                (All-push (λ (m : Mark). Contains looks m) seen mark c.marks.invariant.looked
                (stands-there looks found mark (w.is_at.ensures.0 w.if-is_at.true)));
            passed = passed;
            all = all-taken published looks index none c.marks-test.true seen c.marks.invariant.all c.if-mark-gt0.seen.items longer;
            few = omega (arith, more, c.marks.invariant.few);
            room = subst (λ (v : Vec Mark Global). vec_capacity c.args.seen.now ≤ vec_capacity v) (sym w.seen-is) (omega (arith, c.marks.invariant.room, w.keep.ensures.room));
          }
      | else-mark-gt0 w ↦
          let untaken : Grow published → Grow looks → 0 < mark.point → Contains looks mark → ⊥ = elim w.else-mark-gt0.branch [
            | else-mark-gt0-via-then-mark-gt0+else-is_at v ↦ λ grow risen high at.
                absurd (true≢false (sym (v.is_at.ensures.1
                (is-there published looks index place found none c.marks-test.true c.marks.invariant.passed c.first_from-place.ensures grow risen at))
                ∙ v.if-is_at.false))
            | else-mark-gt0-via-else-mark-gt0 v ↦ λ grow risen high at. absurd (omega (arith, high, v.if-mark-gt0.false))
          ] in
          subst (λ (v : Vec Mark Global). record {
            some : IsSomeOf v.items (take (index + 1) published);
            above : All (λ (m : Mark). 0 < m.point) v.items;
            looked : All (λ (m : Mark). Contains looks m) v.items;
            passed : IsPassed published looks (index + 1) found;
            all : AreTakenUpTo published looks (index + 1) v.items;
            few : length v.items ≤ index + 1;
            room : vec_capacity c.args.seen.now ≤ vec_capacity v;
          }) (sym w.seen-is) (record {
            some = some-passed published index none c.marks-test.true c.marks.seen.items c.marks.invariant.some;
            above = c.marks.invariant.above;
            looked = c.marks.invariant.looked;
            passed = passed;
            all = all-passed published looks index none c.marks-test.true c.marks.seen.items c.marks.invariant.all untaken;
            few = omega (arith, c.marks.invariant.few);
            room = c.marks.invariant.room;
          })
    ]

pub returns-clause-looked : goal.returns-clause-looked
returns-clause-looked c = c.marks.invariant.looked

pub returns-clause-all : goal.returns-clause-all
returns-clause-all c = λ grow risen k d low. c.marks.invariant.all grow risen k d (omega (arith, low, c.marks-test.false, c.marks.auto.mark-index-end)) low
