use Rattle.std.proofs.Common.{◌≡◌, ℕ, nat_le, List, length, sym, ap, subst, ◌∙◌, arith}
use Rattle.sn_base.specs.declared.event.Event.{Event}
use Rattle.sn_machine.specs.Machine.{MachineData}
use Rattle.run_journals.specs.declared.entry.JournalEntry.{JournalEntry}
use Rattle.run_journals.specs.Journal.{entry_of, events_of}
use Rattle.run_journals.proofs.Folds.{events_of-snoc}
use Rattle.run_statistics.specs.declared.count.Count.{Count}
use Rattle.run_statistics.specs.Counted.{Counts}
use Rattle.ordered_run.proofs.Going.{turn-next, turn-refused}
use Rattle.ordered_run.proofs.turns.turn.Goals as goal

pub returns-in-Ok-clause-on : goal.returns-in-Ok-clause-on
returns-in-Ok-clause-on c = λ none.
    let t = c.args.course.now in
    let had : c.len.result ≡ length t.journal.items = omega (arith, c.len.ensures) in
    turn-next t c.drive.new.machine c.drive.new.driver c.next-worker.new.self c.draw-pick.new.generators c.note.new.journal c.note.new.answers
    c.next-worker.result c.draw-pick.result _ c.in-Ok.event c.in-Ok.answer c.in-Ok.ensures.ok c.requires.stands c.requires.ready
    c.note.ensures.entry c.note.ensures.answer (c.draw-pick.ensures.pick t.seed t.journal.items c.requires.ready.drawn)
    c.next-worker.ensures.worker c.next-worker.ensures.few c.next-worker.ensures.had (ap (λ (k : ℕ). nat_le t.budget k) had)
    c.note.ensures.room.0 c.note.ensures.room.1
    (c.draw-pick.ensures.drawn t.seed t.journal.items c.in-Ok.event c.requires.ready.drawn) c.draw-pick.ensures.count

pub drive-requires-clause-counts : goal.drive-requires-clause-counts
drive-requires-clause-counts c = (events_of c.args.course.now.journal.items, c.requires.counts)

pub returns-in-Ok-clause-counts : goal.returns-in-Ok-clause-counts
returns-in-Ok-clause-counts c =
    let journal = c.args.course.now.journal.items in
    subst (λ (l : List Event). Counts c.drive.new.count c.drive.new.machine l)
    (sym (ap (λ (l : List JournalEntry). events_of l) c.note.ensures.entry
    ∙ events_of-snoc journal (entry_of c.next-worker.result c.in-Ok.event)))
    (c.in-Ok.ensures.counts (events_of journal) c.requires.counts)

pub returns-in-Err-clause-counts : goal.returns-in-Err-clause-counts
returns-in-Err-clause-counts c =
    let journal = c.args.course.now.journal.items in
    subst (λ (n : Count). Counts n c.drive.new.machine (events_of journal)) (sym c.in-Err.ensures.idle)
    (subst (λ (m : MachineData). Counts c.args.count.now m (events_of journal)) (sym c.in-Err.ensures.err.1) c.requires.counts)

pub returns-in-Err-clause-stop : goal.returns-in-Err-clause-stop
returns-in-Err-clause-stop c =
    let t = c.args.course.now in
    let had : c.len.result ≡ length t.journal.items = omega (arith, c.len.ensures) in
    turn-refused t c.drive.new.machine c.drive.new.driver c.next-worker.new.self c.draw-pick.new.generators c.in-Err.ensures.err.0
    c.in-Err.ensures.err.1 c.next-worker.ensures.had c.requires.stands _ c.in-Err.finish (ap (λ (k : ℕ). nat_le t.budget k) had)
    c.in-Err.ensures.err.2
