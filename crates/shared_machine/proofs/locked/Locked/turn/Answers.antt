use Rattle.std.proofs.Common.{◌≡◌, ◌<◌, length, sym, ap, subst, ◌∙◌, arith, false, nat_le, List, ℕ}
use Rattle.std.proofs.lemmas.Bool.Decides.{nat_tests}
use Rattle.sn_base.specs.declared.config.Config.{Config}
use Rattle.run_journals.specs.declared.entry.JournalEntry.{JournalEntry}
use Rattle.run_journals.specs.Journal.{Began}
use Rattle.shared_machine.specs.Pickers.{AreDrawn}
use Rattle.shared_machine.specs.Shared.{LockedData}
use Rattle.sn_console.specs.Ends.{bytes_passed, free_places}
use Rattle.shared_machine.proofs.Goes.{passed-next, turn-keeps, turn-room, turn-lengths, turn-count, turn-begun}
use Rattle.shared_machine.proofs.locked.Locked.turn.Goals as goal

pub pass-requires : goal.pass-requires
pass-requires g c =
    passed-next _ _ _ _ _ c.in_ok-event.ensures.ok.applied c.self.invariant.0.passed

pub invariant_of-self-2 : goal.invariant_of-self-2
invariant_of-self-2 g c =
    let s : LockedData = record {
      machine = c.self.inside.machine;
      driver = c.self.inside.driver;
      seed = c.self.inside.seed;
      budget = c.self.inside.budget;
      journal = c.self.inside.journal.items;
      answers = c.self.inside.answers.items;
      passed = bytes_passed c.self.inside.outbox;
      free = free_places c.self.inside.outbox;
      stopped = c.self.inside.stopped;
    } in
    let did = c.in_ok-event.ensures.ok in
    let picked = c.pick_of-pick.ensures s.seed s.journal c.self.invariant.5 in
    let over : nat_le s.budget (length s.journal) ≡ false = sym c.is_spent-spent.ensures ∙ did.unspent in
    let left : length s.journal < s.budget = grind (arith, nat_tests, over) in
    let there : c.args.worker < s.machine.config.nodes = subst (λ (b : Began). c.args.worker < b.config.nodes)
    (sym c.self.invariant.7) c.requires.worker in
    let passes : List ℕ = bytes_passed c.pass.new.outbox in
    let frees : ℕ = free_places c.pass.new.outbox in
    let longer = c.note.ensures.entry in
    let more = c.note.ensures.answer in (
      turn-keeps s c.args.worker c.in_ok-event.event c.in_ok-event.answer _ _ _ _ passes frees _ _ longer more picked did c.self.invariant.0 there c.pass.ensures.first left,
      turn-room s c.args.worker c.in_ok-event.event c.in_ok-event.answer _ _ _ _ passes frees _ _ longer more picked did c.self.invariant.1 left,
      omega (arith, c.self.invariant.2, c.note.ensures.room.0),
      omega (arith, c.self.invariant.3, c.note.ensures.room.1),
      turn-lengths s c.args.worker c.in_ok-event.event c.in_ok-event.answer _ _ _ _ passes frees _ _ longer more picked did c.self.invariant.4,
      subst (λ (l : List JournalEntry). AreDrawn s.seed l c.draw.new.pickers.items) (sym longer)
          (c.draw.ensures.drawn s.seed s.journal c.in_ok-event.event c.self.invariant.5),
      c.draw.ensures.count ∙ c.self.invariant.6 ∙ ap (λ (k : Config). k.nodes) (sym did.later.config),
      turn-begun s c.args.worker c.in_ok-event.event c.in_ok-event.answer _ _ _ _ passes frees _ _ longer more picked did _ c.self.invariant.7,
      turn-count s c.args.worker c.in_ok-event.event c.in_ok-event.answer _ _ _ _ passes frees _ _ longer more picked did _ _ c.self.invariant.8 c.add.ensures.total,
      g.L.RunName.keeps _ _ c.self.invariant.9 c.pass.ensures.end,
    )
