use Rattle.std.proofs.Common.{◌+◌, drop, ap, sym, subst, refl, ◌∙◌, arith}
use Rattle.std.proofs.lemmas.Result.{err_from_is_err_and}
use Rattle.sink_pieces.specs.Pieces.{ends}
use Rattle.sink_pieces.proofs.SoFar.{SoFar, SoFar-start}
use Rattle.rolled_replay.specs.declared.stage.Stage.{Stage}
use Rattle.rolled_replay.specs.Pieces.{control_pieces}
use Rattle.rolled_replay.specs.Stages.{IsNumbered, machine_of, stage_after}
use Rattle.rolled_replay.proofs.Lined.{last-next, line-next, line-breaks, lines-whole}
use Rattle.rolled_replay.proofs.Staged.{stage-numbered, stage-sizes}
use Rattle.rolled_replay.proofs.leading.put_controls.Goals as goal

pub controls-init : goal.controls-init
controls-init g c = record {
  place = refl;
  numbers = c.requires.numbers;
  sizes = refl;
  last = refl;
  put = λ r. SoFar-start _ _;
  later = omega arith;
}

pub controls-preserved : goal.controls-preserved
controls-preserved g c = record {
  place = ap (λ k. k + 1) c.controls.invariant.place;
  numbers = subst (λ (s : Stage). IsNumbered s (c.controls.control-index + 1 + 1)) (sym c.in_ok-stage.ensures.stage)
      (stage-numbered c.controls.stage c.control-item.result (c.controls.control-index + 1) c.controls.invariant.numbers);
  sizes = ap (λ (s : Stage). (machine_of s).config) c.in_ok-stage.ensures.stage
      ∙ stage-sizes c.controls.stage c.control-item.result ∙ c.controls.invariant.sizes;
  last = ap (λ (s : Stage). stage_after s (drop (c.controls.control-index + 1) c.args.controls.now)) c.in_ok-stage.ensures.stage
      ∙ last-next c.args.controls.now c.controls.control-index c.control-item.result c.controls-test.true c.control-item.is c.args.stage
      c.controls.stage c.controls.invariant.last;
  put = λ r.
      subst (λ (s : Stage). SoFar (control_pieces 0 c.args.stage c.args.controls.now)
      (control_pieces (c.controls.control-index + 1) s (drop (c.controls.control-index + 1) c.args.controls.now)) (ends r (g.R.Sink.written c.args.report.now))
      (ends r (g.R.Sink.written c.put_control.new.report)))
      (sym c.in_ok-stage.ensures.stage)
      (line-next c.args.controls.now c.controls.control-index c.control-item.result c.controls-test.true c.control-item.is
      (control_pieces 0 c.args.stage c.args.controls.now) c.controls.stage c.controls.place c.controls.invariant.place _ refl
      _ _ _ (c.controls.invariant.put r) (c.in_ok-stage.ensures.ok r));
  later = omega (arith, c.put_control.ensures.later, c.controls.invariant.later);
}

pub returns-in_err-stage-clause-err : goal.returns-in_err-stage-clause-err
returns-in_err-stage-clause-err g c =
    let p = err_from_is_err_and c.from_residual.result c.from_residual.ensures.1 in
    rw p.1
    (λ r.
    line-breaks c.args.controls.now c.controls.control-index c.control-item.result c.controls-test.true c.control-item.is
    (control_pieces 0 c.args.stage c.args.controls.now) c.controls.stage c.controls.place c.controls.invariant.place _ refl
    _ _ _ (c.controls.invariant.put r) (c.in_err-stage.ensures.err r))

pub returns-clause-ok : goal.returns-clause-ok
returns-clause-ok g c =
    λ r. lines-whole (control_pieces 0 c.args.stage c.args.controls.now) c.args.controls.now c.controls.control-index c.controls.stage _ _
    (omega (arith, c.controls-test.false, c.controls.auto.control-index-end)) (c.controls.invariant.put r)
