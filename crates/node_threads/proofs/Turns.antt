-- The closing turns end with the budget.
use Rattle.std.proofs.Common.{◌≡◌, ℕ, ◌+◌, ◌-◌, ◌<◌, Bool, true, false, nat_le, if◌then◌else◌, List, [], ◌∷◌, ◌++◌, length, Option, Some}
use Rattle.std.proofs.Common.{None, ap, ◌∙◌, arith, length-append}
use Rattle.std.proofs.lemmas.Bool.Decides.{nat_tests}
use Rattle.sn_base.specs.declared.event.Event.{Event}
use Rattle.sn_base.specs.declared.event.Answer.{Answer}
use Rattle.shared_machine.specs.Due.{is_over}
use Rattle.shared_machine.specs.Journal.{entry_of}
use Rattle.shared_machine.specs.declared.finish.Finish.TheVariants.{Over, Stopped}
use Rattle.shared_machine.specs.Shared.{LockedData, finish_of, cut_off_or_spent, IsTurn}

-- a turn is had only where the budget isn't spent
unspent : (stopped over : Bool) (cut : Option (ℕ × ℕ)) (spent : Bool) →
    (if stopped then Some Stopped else (if over then Some Over else cut_off_or_spent cut spent)) ≡ None → spent ≡ false
unspent true over cut spent e = absurd cc
unspent false true cut spent e = absurd cc
unspent false false (Some nodes) spent e = absurd cc
unspent false false None true e = absurd cc
unspent false false None false e = cc

-- so fewer are left after it
pub fewer-left : (s t : LockedData) (worker : ℕ) (event : Event) (answer : Answer) → finish_of s ≡ None → IsTurn s worker event answer t →
    t.budget - length t.journal < s.budget - length s.journal
fewer-left s t worker event answer goes_on turn =
    let left : nat_le s.budget (length s.journal) ≡ false =
    unspent s.stopped (is_over s.machine.image s.machine.config s.machine.state) s.driver.numbers.cut_off
    (nat_le s.budget (length s.journal)) goes_on in
    let below : length s.journal < s.budget = grind (arith, nat_tests, left) in
    let same : t.budget ≡ s.budget = ap (λ (x : LockedData). x.budget) turn.left in
    let grown : length t.journal ≡ length s.journal + 1 = ap (λ (x : LockedData). length x.journal) turn.left
    ∙ length-append s.journal (entry_of worker event ∷ []) in
    omega (arith, below, same, grown)
