use Rattle.std.proofs.Common.{refl, arith, inl, inr, ap}
use Rattle.std.specs.Prelude.{Err}
use Rattle.sn_base.specs.declared.config.Config.{Config}
use Rattle.driven_replay.proofs.SoFar.{driving-starts, driving-answered, driving-fits, driving-ends, next-said, fits-said, none-more}
use Rattle.driven_replay.proofs.SoFar.{line-read, wants-memory, too-many, driving-next, driving-breaks}
use Rattle.driven_replay.proofs.SoFar.{same-nodes, by-usual, long-life, kept-count, kept-fit, kept-few}
use Rattle.driven_replay.proofs.driving.answer_lines.Goals as goal

pub driving-init : goal.driving-init
driving-init g c = record {
  driving = driving-starts c.args.machine.now _ _ _ _ c.args.driver.now c.args.kept.now c.requires.fresh c.requires.driver c.requires.kept;
  nodes = ap (λ (t : Config). t.nodes) c.config.ensures.same;
  source_later = omega arith;
  console_later = omega arith;
  report_later = omega arith;
}

pub answer-requires-clause-nodes : goal.answer-requires-clause-nodes
answer-requires-clause-nodes g c = same-nodes _ _ _ _ _ _ _ _ _ _ _ _ c.driving.invariant.driving

pub answer-requires-clause-rules : goal.answer-requires-clause-rules
answer-requires-clause-rules g c = by-usual _ _ _ _ _ _ _ _ _ _ _ _ c.driving.invariant.driving

pub answer-requires-clause-life : goal.answer-requires-clause-life
answer-requires-clause-life g c = long-life _ _ _ _ _ _ _ _ _ _ _ _ c.driving.invariant.driving

pub answer-requires-clause-count : goal.answer-requires-clause-count
answer-requires-clause-count g c = kept-count _ _ _ _ _ _ _ _ _ _ _ _ c.driving.invariant.driving

pub answer-requires-clause-few : goal.answer-requires-clause-few
answer-requires-clause-few g c =
    kept-few _ _ _ _ _ _ _ _ _ _ _ _ c.driving.invariant.driving c.in-Ok-Some.said (c.is_full.ensures.room c.if-is_full.false)

pub answer-requires-clause-fit : goal.answer-requires-clause-fit
answer-requires-clause-fit g c = kept-fit _ _ _ _ _ _ _ _ _ _ _ _ c.driving.invariant.driving

pub driving-preserved : goal.driving-preserved
driving-preserved g c =
    let h = c.driving.invariant.driving in
    let next = next-said _ _ _ _ c.in-Ok-Some.said c.in-Ok-Some.field-0-is c.in-Ok-Some.ensures.next in
    let fits = fits-said _ _ c.in-Ok-Some.said c.in-Ok-Some.field-0-is c.in-Ok-Some.ensures.fits in
    record {
      driving = driving-next _ _ _ _ _ _ _ _ _ _ _ _ h _ c.driving.invariant.nodes c.in-Ok-Some.said _ next _ refl _ _
          c.in-Ok.ensures.told c.answer.new.machine c.answer.new.driver c.answer.new.kept
          c.in-Ok.ensures.next c.in-Ok.ensures.counted c.in-Ok.ensures.kept
          (driving-fits _ _ _ _ _ _ _ _ _ _ _ _ h _ c.in-Ok-Some.said c.driving.invariant.nodes fits)
          (c.is_full.ensures.room c.if-is_full.false) c.in-Ok.ensures.ok;
      nodes = c.driving.invariant.nodes;
      source_later = omega (arith, c.next_said.ensures.later, c.driving.invariant.source_later);
      console_later = omega (arith, c.answer.ensures.console_later, c.driving.invariant.console_later);
      report_later = omega (arith, c.answer.ensures.report_later, c.driving.invariant.report_later);
    }

pub returns-in-Ok-None-clause-ok : goal.returns-in-Ok-None-clause-ok
returns-in-Ok-None-clause-ok g c =
    let h = c.driving.invariant.driving in (
      h.lines,
      driving-answered _ _ _ _ _ _ _ _ _ _ _ _ h,
      driving-ends _ _ _ _ _ _ _ _ _ _ _ _ h _ _ _ c.in-Ok-None.field-0-is c.in-Ok-None.ensures.next,
    )

pub returns-in-Err-clause-input : goal.returns-in-Err-clause-input
returns-in-Err-clause-input g c = λ e.
    let h = c.driving.invariant.driving in (
      h.lines,
      driving-answered _ _ _ _ _ _ _ _ _ _ _ _ h,
      none-more _ _ _ _ _ _ _ _ _ _ _ _ h _ c.in-Err.ensures.failed,
      inl (grind (arith, c.in-Err.ensures.cause, c.driving.invariant.source_later)),
    )

pub returns-then-is_full-clause-ok : goal.returns-then-is_full-clause-ok
returns-then-is_full-clause-ok g c =
    let h = c.driving.invariant.driving in
    let next = next-said _ _ _ _ c.in-Ok-Some.said c.in-Ok-Some.field-0-is c.in-Ok-Some.ensures.next in
    let full = c.is_full.ensures.full c.if-is_full.true in (
      h.lines,
      driving-answered _ _ _ _ _ _ _ _ _ _ _ _ h,
      too-many _ _ _ _ _ _ _ _ _ _ _ _ h _ c.driving.invariant.nodes c.in-Ok-Some.said _ next full.1.0 full.0 full.1.1,
    )

pub returns-in-Err-Sink-clause-sink : goal.returns-in-Err-Sink-clause-sink
returns-in-Err-Sink-clause-sink g c = λ e.
    let h = c.driving.invariant.driving in
    let next = next-said _ _ _ _ c.in-Ok-Some.said c.in-Ok-Some.field-0-is c.in-Ok-Some.ensures.next in (
      h.lines,
      next.0,
      driving-breaks _ _ _ _ _ _ _ _ _ _ _ _ h _ c.driving.invariant.nodes c.in-Ok-Some.said _ next _ refl _ _
          (c.in-Err-Sink.ensures.knows (ap (λ t. Err t) c.in-Err-Sink.field-0-is))
          (c.in-Err-Sink.ensures.sink (ap (λ t. Err t) c.in-Err-Sink.field-0-is)),
      line-read _ _ _ _ _ _ _ _ _ _ _ _ h _ c.driving.invariant.nodes c.in-Ok-Some.said _ next,
    )

pub returns-in-Err-Memory-clause-memory : goal.returns-in-Err-Memory-clause-memory
returns-in-Err-Memory-clause-memory g c = λ e.
    let h = c.driving.invariant.driving in
    let next = next-said _ _ _ _ c.in-Ok-Some.said c.in-Ok-Some.field-0-is c.in-Ok-Some.ensures.next in
    let k = c.in-Err-Memory.ensures.memory (ap (λ t. Err t) c.in-Err-Memory.field-0-is) in (
      h.lines,
      next.0,
      c.driving.machine,
      wants-memory _ _ _ _ _ _ _ _ _ _ _ _ h _ c.driving.invariant.nodes c.in-Ok-Some.said _ next k.0,
      rw (k.3, k.4, k.5) (driving-answered _ _ _ _ _ _ _ _ _ _ _ _ h),
      line-read _ _ _ _ _ _ _ _ _ _ _ _ h _ c.driving.invariant.nodes c.in-Ok-Some.said _ next,
    )

pub returns-clause-input : goal.returns-clause-input
returns-clause-input g c = λ e.
    let h = c.driving.invariant.driving in (
      h.lines,
      driving-answered _ _ _ _ _ _ _ _ _ _ _ _ h,
      h.read,
      inr (omega (arith, h.many, c.driving-test.false, c.driving.auto.count-end)),
    )
