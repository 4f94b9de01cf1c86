use Rattle.std.proofs.Common.{◌≡◌, ◌+◌, ◌++◌, List, [], drop, ap, sym, ◌∙◌, arith, append-nil}
use Rattle.std.proofs.lemmas.List.{drop_all}
use Rattle.sn_base.specs.declared.event.Event.{Event}
use Rattle.run_journals.specs.declared.entry.JournalEntry.{JournalEntry}
use Rattle.run_journals.specs.Journal.{events_of}
use Rattle.seed_runs.proofs.Playing.{events-next}
use Rattle.seed_runs.proofs.play.events_in.Goals as goal

pub entries-preserved : goal.entries-preserved
entries-preserved c =
    ap (λ (l : List Event). l ++ events_of (drop (c.entries.entry-index + 1) c.args.journal.now)) c.in_ok-push.ensures.items
    ∙ events-next c.args.journal.now c.entries.entry-index c.entry-item.result c.entries.events.items c.entries-test.true c.entry-item.is
    c.entries.invariant

pub returns : goal.returns
returns c =
    sym (append-nil c.entries.events.items)
    ∙ ap (λ (l : List JournalEntry). c.entries.events.items ++ events_of l)
    (sym (drop_all c.entries.entry-index c.args.journal.now (omega (arith, c.entries-test.false, c.entries.auto.entry-index-end))))
    ∙ c.entries.invariant
