use Rattle.std.proofs.Common.{◌≡◌, ℕ, ◌%◌, nat_le, List, length, length-append, sym, ap, subst, ◌∙◌, arith}
use Rattle.sn_base.specs.declared.config.Config.{Config}
use Rattle.run_journals.specs.declared.entry.JournalEntry.{JournalEntry}
use Rattle.sn_monitor.specs.Monitored.{MonitoredData}
use Rattle.turn_orders.specs.Drawn.{AreDrawn}
use Rattle.monitor_run.specs.Stands.{Stands, IsReady}
use Rattle.monitor_run.proofs.Going.{stands-same, stands-more}
use Rattle.monitor_run.proofs.turns.turn.Goals as goal

pub returns-in-Nothing-clause-on : goal.returns-in-Nothing-clause-on
returns-in-Nothing-clause-on g c = λ on.
    let m = c.args.monitored.now in let t = c.args.turns.now in let n = c.drive.new.monitored in
    let s = c.requires.stands in
    let ready = c.requires.ready in
    let did = c.in-Ok.ensures.ok.0 in
    let took = c.in-Ok.ensures.ok.1 in
    let longer = c.note.ensures.entry in
    let turns_had : c.len.result ≡ length t.journal.items = omega (arith, c.len.ensures) in
    let workers : c.len-2.result ≡ m.machine.config.nodes = omega (arith, c.len-2.ensures, ready.drawers) in
    let had : c.len-3.result ≡ length t.journal.items = omega (arith, c.len-3.ensures) in
    let whose = ap (λ (k : ℕ). k % c.len-2.result) turns_had ∙ ap (λ (k : ℕ). length t.journal.items % k) workers in (
      stands-same m n t c.draw-pick.new.generators c.note.new.journal c.note.new.answers _ _ _ c.in-Ok.did.0 c.in-Ok.did.1 did took.watch s longer
          c.note.ensures.answer (c.draw-pick.ensures.pick t.seed t.journal.items ready.drawn) whose
          (ap (λ (k : ℕ). nat_le t.budget k) had) c.note.ensures.room.0 c.note.ensures.room.1 _
          c.in-Nothing.is took,
      record {
        drawn = subst (λ (l : List JournalEntry). AreDrawn t.seed l c.draw-pick.new.generators.items) (sym longer)
            (c.draw-pick.ensures.drawn t.seed t.journal.items c.in-Ok.did.0 ready.drawn);
        drawers = c.draw-pick.ensures.count ∙ ready.drawers ∙ ap (λ (k : Config). k.nodes) (sym did.later.config);
      },
    )

pub returns-in-New-clause-on : goal.returns-in-New-clause-on
returns-in-New-clause-on g c = λ on.
    let m = c.args.monitored.now in let t = c.args.turns.now in let n = c.drive.new.monitored in
    let s = c.requires.stands in
    let ready = c.requires.ready in
    let did = c.in-Ok.ensures.ok.0 in
    let took = c.in-Ok.ensures.ok.1 in
    let longer = c.note.ensures.entry in
    let turns_had : c.len.result ≡ length t.journal.items = omega (arith, c.len.ensures) in
    let workers : c.len-2.result ≡ m.machine.config.nodes = omega (arith, c.len-2.ensures, ready.drawers) in
    let had : c.len-3.result ≡ length t.journal.items = omega (arith, c.len-3.ensures) in
    let whose = ap (λ (k : ℕ). k % c.len-2.result) turns_had ∙ ap (λ (k : ℕ). length t.journal.items % k) workers in
    subst (λ (x : MonitoredData). Stands x (record {
      generators = c.draw-pick.new.generators;
      journal = c.note.new.journal;
      answers = c.note.new.answers;
      published = c.note_last.new.published;
      seed = t.seed;
      budget = t.budget;
    }) × IsReady x (record {
      generators = c.draw-pick.new.generators;
      journal = c.note.new.journal;
      answers = c.note.new.answers;
      published = c.note_last.new.published;
      seed = t.seed;
      budget = t.budget;
    })) (sym c.note_last.ensures.same) (
      stands-more m n t c.draw-pick.new.generators c.note.new.journal c.note.new.answers _ _ _ c.in-Ok.did.0 c.in-Ok.did.1 did took.watch s longer
          c.note.ensures.answer (c.draw-pick.ensures.pick t.seed t.journal.items ready.drawn) whose
          (ap (λ (k : ℕ). nat_le t.budget k) had) c.note.ensures.room.0 c.note.ensures.room.1 _ c.in-New.is took
          c.note_last.new.published c.note_last.ensures.mark c.note_last.ensures.room,
      record {
        drawn = subst (λ (l : List JournalEntry). AreDrawn t.seed l c.draw-pick.new.generators.items) (sym longer)
            (c.draw-pick.ensures.drawn t.seed t.journal.items c.in-Ok.did.0 ready.drawn);
        drawers = c.draw-pick.ensures.count ∙ ready.drawers ∙ ap (λ (k : Config). k.nodes) (sym did.later.config);
      },
    )

pub returns-in-Nothing-clause-had : goal.returns-in-Nothing-clause-had
returns-in-Nothing-clause-had g c = λ on. ap (λ (l : List JournalEntry). length l) c.note.ensures.entry ∙ length-append c.args.turns.now.journal.items _

pub returns-in-New-clause-had : goal.returns-in-New-clause-had
returns-in-New-clause-had g c = λ on. ap (λ (l : List JournalEntry). length l) c.note.ensures.entry ∙ length-append c.args.turns.now.journal.items _
