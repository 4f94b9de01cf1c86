use Rattle.std.proofs.Common.{◌≡◌, ◌∙◌, ◌<◌, true, not, sym, ap, subst, arith, length, take, get_or, rules}
use Rattle.std.specs.Result.{is_ok}
use Rattle.rv_core.specs.declared.step.Record.{Record}
use Rattle.rv_core.specs.Flat.{FlatState, HasStep, flat_step}
use Rattle.rv_core.specs.Execution.{state_after}
use Rattle.save_text.proofs.Replayed.{steps-more, state-more}
use Rattle.save_text.proofs.replay.count_steps.Goals as goal

pub records-preserved : goal.records-preserved
records-preserved c =
    let l : c.records.place < length c.args.records.now = omega arith in
    let r = c.index-records-place.result in
    let ok : is_ok c.step.result ≡ true = c.is_err.ensures.negation ∙ ap not c.if-is_err.false in
    let h : HasStep c.args.image.now c.records.flat r = search rules in
    let s : c.step.new.self ≡ flat_step c.args.image.now c.records.flat r = search rules in
    record {
      steps =
          steps-more c.args.image.now c.args.flat.now c.args.records.now c.records.place r l c.records.invariant.steps
          (subst (λ (f : FlatState). HasStep c.args.image.now f (get_or c.args.records.now c.records.place r)) c.records.invariant.state
          (subst (λ (x : Record). HasStep c.args.image.now c.records.flat x) c.index-records-place.is h));
      state =
          s ∙ (ap (λ (f : FlatState). flat_step c.args.image.now f r) c.records.invariant.state
          ∙ (ap (λ (x : Record). flat_step c.args.image.now (state_after c.args.image.now c.args.flat.now (take c.records.place c.args.records.now)) x) c.index-records-place.is
          ∙ sym (state-more c.args.image.now c.args.flat.now c.args.records.now c.records.place r l)));
    }
