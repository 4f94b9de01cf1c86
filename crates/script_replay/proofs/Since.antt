-- A machine whose events are counted from a place on sees the next one as every machine does.
use Rattle.std.proofs.Common.{◌≡◌, ℕ, ◌+◌, ◌-◌, ◌≤◌, ap, ◌∙◌, arith}
use Rattle.sn_base.specs.declared.event.Event.{Event}
use Rattle.sn_base.specs.declared.event.Answer.{Answer}
use Rattle.due_events.specs.Machine.{MachineData, IsApplied}
use Rattle.script_replay.specs.Played.{after_event, since}

one-later : (n before : ℕ) → before ≤ n → (n + 1) - before ≡ (n - before) + 1
one-later n before h = omega (arith, h)

-- with so many events counted
abbrev counting : MachineData → ℕ → MachineData
counting m k = record m { applied = k }

pub since-after : (before : ℕ) (m n : MachineData) (event : Event) → before ≤ m.applied → n ≡ after_event m event →
    since before n ≡ after_event (since before m) event
since-after before m n event h is = ap (since before) is ∙ ap (counting (after_event m event)) (one-later m.applied before h)

pub since-applied : (before : ℕ) (m n : MachineData) (event : Event) (said : Answer) → before ≤ m.applied → IsApplied m n event said →
    IsApplied (since before m) (since before n) event said
since-applied before m n event said h applied = record {
  answer = applied.answer;
  left = since-after before m n event h applied.left;
}

pub counted-later : (before : ℕ) (m n : MachineData) (event : Event) (said : Answer) → before ≤ m.applied → IsApplied m n event said →
    before ≤ n.applied
counted-later before m n event said h applied = let is = ap (λ (t : MachineData). t.applied) applied.left in omega (arith, is, h)

pub counted-after : (before : ℕ) (m n : MachineData) (event : Event) → before ≤ m.applied → n ≡ after_event m event → before ≤ n.applied
counted-after before m n event h is = let more = ap (λ (t : MachineData). t.applied) is in omega (arith, more, h)
