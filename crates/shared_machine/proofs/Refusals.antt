-- When a turn is refused.
use Rattle.std.proofs.Common.{◌≡◌, ℕ, Bool, true, false, ◌||◌, Option, Some, None, is_some, refl, ap, ◌∙◌, if◌then◌else◌}
use Rattle.sn_base.specs.declared.event.Event.{Event}
use Rattle.run_journals.specs.Machine.{MachineData}
use Rattle.run_journals.specs.Due.{is_over, due_of}
use Rattle.sn_driver.specs.Driver.{DriverData}
use Rattle.sn_driver.specs.Turns.{due_at}
use Rattle.shared_machine.specs.declared.finish.Finish.{Finish}
use Rattle.shared_machine.specs.declared.finish.Finish.TheVariants.{Over, Budget}
use Rattle.shared_machine.specs.Shared.{refusal_of, cut_off_or_spent}

opens : (over : Bool) (cut : Option (ℕ × ℕ)) (x event : Event) → (if over || is_some cut then None else Some x) ≡ Some event →
    (over ≡ false) × (cut ≡ None)
opens true cut x event e = absurd cc
opens false (Some nodes) x event e = absurd cc
opens false None x event e = (refl, refl)

-- something is due exactly where the machine isn't over and no nodes are cut off
pub due-opens : (driver : DriverData) (m : MachineData) (worker pick : ℕ) (event : Event) → due_at driver m worker pick ≡ Some event →
    (is_over m.image m.config m.state ≡ false) × (driver.numbers.cut_off ≡ None)
unfolding due_of
due-opens driver m worker pick event e = opens (is_over m.image m.config m.state) driver.numbers.cut_off _ event e

pub refusal-open : (driver : DriverData) (m : MachineData) (spent : Bool) → is_over m.image m.config m.state ≡ false →
    driver.numbers.cut_off ≡ None →
    refusal_of driver m spent ≡ (if spent then Some Budget else None)
refusal-open driver m spent over cut =
    ap (λ (b : Bool). if b then Some Over else cut_off_or_spent driver.numbers.cut_off spent) over
    ∙ ap (λ (o : Option (ℕ × ℕ)). cut_off_or_spent o spent) cut

-- where something is due, only a spent budget refuses it
pub due-some : (driver : DriverData) (m : MachineData) (worker pick : ℕ) (spent : Bool) → is_some (due_at driver m worker pick) ≡ true →
    refusal_of driver m spent ≡ (if spent then Some Budget else None)
due-some driver m worker pick spent some = found (due_at driver m worker pick) refl some
  where
    found : (o : Option Event) → due_at driver m worker pick ≡ o → is_some o ≡ true →
        refusal_of driver m spent ≡ (if spent then Some Budget else None)
    found None e some = absurd cc
    found (Some event) e some = let o = due-opens driver m worker pick event e in refusal-open driver m spent o.0 o.1

pub unspent : (driver : DriverData) (m : MachineData) (worker pick : ℕ) (spent : Bool) (event : Event) →
    due_at driver m worker pick ≡ Some event → spent ≡ false →
    refusal_of driver m spent ≡ None
unspent driver m worker pick spent event due left =
    due-some driver m worker pick spent (ap (λ (o : Option Event). is_some o) due)
    ∙ ap (λ (b : Bool). let none : Option Finish = None in if b then Some Budget else none) left
