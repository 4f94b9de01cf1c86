use Rattle.std.proofs.Common.{List, length, sym, ap, subst, ◌∙◌}
use Rattle.run_journals.specs.declared.entry.JournalEntry.{JournalEntry}
use Rattle.sn_base.specs.declared.event.Answer.{Answer}
use Rattle.shared_machine.specs.Pickers.{AreDrawn}
use Rattle.shared_machine.specs.Shared.{SharedData, begins_with}
use Rattle.shared_machine.proofs.Starts.{kept-start, room-start}
use Rattle.shared_machine.proofs.shared.SharedMachine.begin.Goals as goal

pub invariant_of-result : goal.invariant_of-result
invariant_of-result g c =
    let ready = c.self.invariant.0 in
    let journal = c.self.invariant.1 in
    let answers = c.self.invariant.2 in (
      kept-start _ _ _ ready _ _ _ journal answers c.requires.passed,
      room-start _ _ _ ready _ _ _ journal,
      c.self.invariant.3,
      c.self.invariant.4,
      ap (λ (l : List Answer). length l) answers ∙ sym (ap (λ (l : List JournalEntry). length l) journal),
      subst (λ (l : List JournalEntry). AreDrawn c.self.inside.seed l c.self.inside.pickers.items) (sym journal) ready.drawn,
      ready.drawers,
      ap (λ (s : SharedData). begins_with s) c.self.view_is ∙ c.requires.began,
      ap (λ (l : List JournalEntry). length l) journal ∙ sym c.requires.total,
      c.requires.ring,
    )
