use Rattle.std.proofs.Common.{refl, ap, inl, inr}
use Rattle.std.specs.Prelude.{Err}
use Rattle.driven_replay.proofs.Ended.{left-off, lacking, lacking-last, driven, broken-at_start, broken-in_answer, broken-at_end}
use Rattle.driven_replay.proofs.driving.drive_all.Goals as goal

pub returns-in-Err-Sink-clause-sink : goal.returns-in-Err-Sink-clause-sink
returns-in-Err-Sink-clause-sink g c = λ e.
    inl (
      refl,
      broken-at_start c.args.ready.now.machine c.args.showing.now c.requires.fresh _ _ _ _
          (c.in-Err-Sink.ensures.sink (ap (λ t. Err t) c.in-Err-Sink.field-0-is) _) refl,
    )

pub returns-in-Err-Memory-clause-memory : goal.returns-in-Err-Memory-clause-memory
returns-in-Err-Memory-clause-memory g c = λ e.
    inl (refl, refl, c.in-Err-Memory.ensures.memory (ap (λ t. Err t) c.in-Err-Memory.field-0-is), refl)

pub returns-in-Err-clause-input : goal.returns-in-Err-clause-input
returns-in-Err-clause-input g c = λ e.
    let t = c.in-Err.ensures.input e in
    (t.0, left-off c.args.ready.now.machine c.args.showing.now c.requires.fresh _ _ (c.in-Ok.ensures.ok _) t.0 _ _ _ _ t.1, t.2, t.3)

pub returns-in-Err-clause-sink : goal.returns-in-Err-clause-sink
returns-in-Err-clause-sink g c = λ e.
    let t = c.in-Err.ensures.sink e in
    inr (inl (
      t.0,
      t.1,
      broken-in_answer c.args.ready.now.machine c.args.showing.now c.requires.fresh _ _ (c.in-Ok.ensures.ok _) t.0 t.1 _ _ _ t.2,
      t.3,
    ))

pub returns-in-Err-clause-memory : goal.returns-in-Err-clause-memory
returns-in-Err-clause-memory g c = λ e.
    let t = c.in-Err.ensures.memory e in
    inr (inl (
      t.0,
      t.1,
      lacking c.args.ready.now.machine c.args.showing.now c.requires.fresh _ _ (c.in-Ok.ensures.ok _) t.0 _ t.2 _ _ t.4 t.1 t.3,
      t.5,
    ))

pub returns-in-Ok-put_last-clause-ok : goal.returns-in-Ok-put_last-clause-ok
returns-in-Ok-put_last-clause-ok g c =
    let t = c.in-Ok-answer_lines.ensures.ok in (
      t.0,
      driven c.args.ready.now.machine c.args.showing.now c.requires.fresh _ _ (c.in-Ok.ensures.ok _) t.0 _ _ _ _ t.1 _ _
          (c.in-Ok-put_last.ensures.ok _),
      t.2,
    )

pub returns-in-Err-Sink-put_last-clause-sink : goal.returns-in-Err-Sink-put_last-clause-sink
returns-in-Err-Sink-put_last-clause-sink g c = λ e.
    let t = c.in-Ok-answer_lines.ensures.ok in
    inr (inr (
      _,
      t.0,
      broken-at_end c.args.ready.now.machine c.args.showing.now c.requires.fresh _ _ (c.in-Ok.ensures.ok _) t.0 _ _ _ _ t.1 _ _
          (c.in-Err-Sink-put_last.ensures.sink (ap (λ t. Err t) c.in-Err-Sink-put_last.field-0-is) _),
      t.2,
    ))

pub returns-in-Err-Memory-put_last-clause-memory : goal.returns-in-Err-Memory-put_last-clause-memory
returns-in-Err-Memory-put_last-clause-memory g c = λ e.
    let t = c.in-Ok-answer_lines.ensures.ok in
    let k = c.in-Err-Memory-put_last.ensures.memory (ap (λ t. Err t) c.in-Err-Memory-put_last.field-0-is) in
    inr (inr (
      _,
      t.0,
      lacking-last c.args.ready.now.machine c.args.showing.now c.requires.fresh _ _ (c.in-Ok.ensures.ok _) t.0 _ _ _ _ t.1 _ _ k.0 (k.1 _),
      t.2,
    ))
