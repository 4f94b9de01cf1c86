use Rattle.std.proofs.Common.{◌≡◌, true, List, sym, ap, subst, ◌∙◌}
use Rattle.std.specs.Prelude.{All}
use Rattle.sn_base.specs.declared.config.Config.{Config}
use Rattle.sn_base.specs.declared.event.Event.{Event}
use Rattle.sn_base.specs.Events.{event_fits}
use Rattle.run_journals.specs.declared.entry.JournalEntry.{JournalEntry}
use Rattle.run_journals.specs.Journal.{events_of}
use Rattle.ordered_run.proofs.CountedSoFar.{fits-all}
use Rattle.seed_runs.proofs.play.statistics_by.Goals as goal

pub statistics_text-requires-clause-fit : goal.statistics_text-requires-clause-fit
statistics_text-requires-clause-fit c =
    subst (λ (l : List Event). All (λ (e : Event). event_fits c.config-config.result.now.nodes e ≡ true) l)
    (sym (c.as_slice-2.ensures.value ∙ c.in_ok-events.ensures ∙ ap (λ (l : List JournalEntry). events_of l) c.as_slice.ensures.value))
    (subst (λ (k : Config). All (λ (e : Event). event_fits k.nodes e ≡ true) (events_of c.args.finished.now.journal.items))
    (sym c.config-config.ensures.same)
    (fits-all c.args.finished.now.machine.config.nodes (events_of c.args.finished.now.journal.items) c.requires.fit))
