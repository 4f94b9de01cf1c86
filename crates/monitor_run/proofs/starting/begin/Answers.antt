use Rattle.std.proofs.Common.{◌++◌, [], ◌∷◌, List, sym, ap, subst, ◌∙◌, arith}
use Rattle.run_journals.specs.declared.entry.JournalEntry.{JournalEntry}
use Rattle.sn_driver.specs.Driver.{DriverData}
use Rattle.sn_monitor.specs.Cut.{snap_now}
use Rattle.sn_monitor.specs.Monitored.{MonitoredData}
use Rattle.monitor_run.specs.declared.marks.Mark.{Mark}
use Rattle.monitor_run.specs.declared.turns.Turns.{Turns}
use Rattle.turn_orders.specs.Drawn.{AreDrawn}
use Rattle.monitor_run.specs.Seen.{mark_of}
use Rattle.monitor_run.specs.Stands.{Stands, IsReady}
use Rattle.monitor_run.proofs.Beginnings.{stands-first}
use Rattle.monitor_run.proofs.starting.begin.Goals as goal

pub returns-in-Ok-clause-stands : goal.returns-in-Ok-clause-stands
returns-in-Ok-clause-stands g c =
    let m = c.args.machine in let t = c.args.turns.now in let new_ = c.requires.new in
    let made = c.in-Ok.ensures.ok.0 in
    let snap = snap_now m c.args.watch in
    let noted = c.note_last.ensures.mark snap (record { before = []; is = ap (λ (x : MonitoredData). x.published) made })
    ∙ ap (λ (l : List Mark). l ++ mark_of snap ∷ []) new_.published in
    let after : Turns = record {
      generators = t.generators;
      journal = t.journal;
      answers = t.answers;
      published = c.note_last.new.published;
      seed = t.seed;
      budget = t.budget;
    } in
    subst (λ (x : MonitoredData). Stands x after × IsReady x after) (sym (c.note_last.ensures.same ∙ made)) (
      stands-first m c.new.result c.args.watch t.seed t.budget c.requires.fresh.0 c.requires.fresh.1
          (ap (λ (d : DriverData). d.nodes) c.new.ensures ∙ ap (λ k. k.nodes) c.config.ensures.same)
          (ap (λ (d : DriverData). d.numbers) c.new.ensures) c.requires.room c.requires.few c.requires.sizes c.in-Ok.monitored.board t.generators t.journal t.answers
          c.note_last.new.published new_.journal new_.answers noted new_.journal_room new_.answers_room
          (omega (arith, new_.marks_room, c.note_last.ensures.room)),
      record {
        drawn = subst (λ (l : List JournalEntry). AreDrawn t.seed l t.generators.items) (sym new_.journal) new_.drawn;
        drawers = new_.drawers;
      },
    )
