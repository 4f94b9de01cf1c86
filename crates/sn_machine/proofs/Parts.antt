-- What the parts say of the state that they stand for, and how they change.
use Rattle.std.proofs.Common.{◌≡◌, ℕ, zero, suc, ◌+◌, ◌<◌, true, List, [], ◌∷◌, length, map, get_or, refl, sym, ◌∙◌, subst, arith}
use Rattle.std.proofs.lemmas.List.{get_or_read}
use Rattle.sn_base.specs.declared.event.Answer.{Answer}
use Rattle.sn_model.specs.Fabric.{FabricStep}
use Rattle.sn_model.specs.Machine.{processor_at, first_processor}
use Rattle.sn_model.specs.Instructions.{machine_step_of}
use Rattle.sn_fabric.specs.Fabric.{IsAfter}
use Rattle.consistent_cuts.proofs.Clocks.{IsSameClocks}
use Rattle.sn_machine.specs.declared.processor.Processor.{Processor as ProcessorUnit}
use Rattle.sn_machine.specs.declared.hardware.Hardware.{Hardware}
use Rattle.sn_machine.specs.Parts.{processor_as, state_of, unit_at, no_unit, IsWhole, HasRoom, Does}

at_map : {A B : Type 0} (f : A → B) (xs : List A) (n : ℕ) (d : A) (e : B) → n < length xs → get_or (map f xs) n e ≡ f (get_or xs n d)
at_map f [] n d e l = absurd (omega arith)
at_map f (x ∷ xs) zero d e l = refl
at_map f (x ∷ xs) (suc n) d e l = at_map f xs n d e (omega arith)

pub processor-at : (h : Hardware) (n : ℕ) → n < length h.processors.items →
    processor_at (state_of h) n ≡ processor_as (unit_at h.processors.items n)
processor-at h n l = at_map processor_as h.processors.items n no_unit (first_processor 0 0) l

-- the node of an event has a processor
pub is_here : (h : Hardware) (n : ℕ) → IsWhole h → n < length h.fabric.fabric.nodes → n < length h.processors.items
is_here h n w l = let e = w.count in omega (arith, e, l)

-- a processor that was read
pub unit-read : (h : Hardware) (n place : ℕ) (x : ProcessorUnit) → IsWhole h → n < length h.fabric.fabric.nodes → place ≡ n →
    x ≡ get_or h.processors.items place x → x ≡ unit_at h.processors.items n
unit-read h n place x w l e r =
    let here = is_here h n w l in
    get_or_read h.processors.items n x here (subst (λ (k : ℕ). x ≡ get_or h.processors.items k x) e r) no_unit

-- the parts but for the fabric, and the mark that its event was the last, are as they were
pub record HasSameRest (old new : Hardware) : Type 0 where
  pub processors : new.processors.items ≡ old.processors.items
  pub controller : new.controller ≡ old.controller
  pub history : new.history ≡ old.history
  pub output : new.output ≡ old.output

less_room : (h g : Hardware) → HasSameRest h g → (events : ℕ) → HasRoom (events + 1) h → HasRoom events g
less_room h g same events room = record {
  records = rw same.history (let a = room.records in omega (arith, a));
  bytes = rw same.output (let a = room.bytes in omega (arith, a));
  given = rw same.processors (λ n l. let a = room.given n l in omega (arith, a));
}

-- an event of the fabric of which the rest doesn't hear
pub carried-does : (h g : Hardware) (said : Answer) (moved : FabricStep) → IsWhole h → IsAfter h.fabric g.fabric said moved →
    IsSameClocks h.fabric.fabric moved.fabric → HasSameRest h g → g.is_carried ≡ true →
    Does h g said (machine_step_of (state_of h) moved)
carried-does h g said moved w after clocks same is = record {
  state = rw (same.processors, same.controller, same.history, same.output, after.left) refl;
  says = after.answer;
  sent = rw (is, after.left) refl;
  sizes = rw after.left refl;
  whole = record {
    count = rw (same.processors, after.left) (w.count ∙ sym clocks.count);
    known = rw (same.processors, after.left) (λ n l. w.known n l ∙ sym (clocks.known n));
    point = rw (same.controller, after.left) (w.point ∙ sym clocks.point);
  };
  room = less_room h g same;
}
