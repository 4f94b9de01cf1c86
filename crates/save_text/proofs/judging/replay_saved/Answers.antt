use Rattle.std.proofs.Common.{ap, ◌∙◌}
use Rattle.sn_saved.specs.Saved.{Saved}
use Rattle.save_text.proofs.Judged.{is_not_legal}
use Rattle.save_text.proofs.judging.replay_saved.Goals as goal

pub returns-in-Err-At-clause-refused : goal.returns-in-Err-At-clause-refused
returns-in-Err-At-clause-refused c =
    is_not_legal c.args.image.now c.args.saved.now _ c.in-Err-At.place _ (ap (λ (s : Saved). s.config.nodes) c.saved.view_is)
    (c.as_slice.ensures.value ∙ ap (λ (s : Saved). s.committed) c.saved.view_is) c.requires.places
    (rw c.in-Err-At.field-0-is at c.in-Err-At.ensures.stops)
