-- What a delivery comes to, by what the fabric tells of it.
use Rattle.std.proofs.Common.{◌≡◌, ℕ, ◌+◌, ◌<◌, true, false, max, length, Option, Some, None, refl, sym, ap, ◌∙◌, subst, arith, ◌==◌}
use Rattle.std.proofs.Common.{length-set}
use Rattle.std.specs.Prelude.{slice_set, slice_index}
use Rattle.std.proofs.lemmas.Bool.Decides.{nat_tests}
use Rattle.sn_base.specs.declared.config.Config.{Config}
use Rattle.sn_base.specs.declared.event.Answer.{Answer}
use Rattle.reg_ckpt.specs.Checkpoints.{next, freed_below}
use Rattle.consistent_cuts.proofs.InFlight.{in_flight}
use Rattle.sn_model.specs.declared.net.News.{News}
use Rattle.sn_model.specs.declared.net.News.TheVariants.{LostCopy, Ready, Advance}
use Rattle.sn_model.specs.Fabric.{Fabric, FabricStep, node_at}
use Rattle.sn_model.specs.Machine.{State, Processor}
use Rattle.sn_model.specs.MachineEvents.{machine_step_with_news, core_without_reservation}
use Rattle.sn_model.specs.NetEvents.{step_of_delivery}
use Rattle.sn_fabric.specs.Fabric.{IsAfter}
use Rattle.consistent_cuts.proofs.Clocks.{IsSameClocks}
use Rattle.consistent_cuts.proofs.Hearings.{Rightly, rightly_delivered}
use Rattle.sn_machine.specs.declared.hardware.Hardware.{Hardware}
use Rattle.sn_machine.specs.Parts.{state_of, unit_at, IsWhole, Does}
use Rattle.sn_machine.specs.Sound.{IsSound}
use Rattle.sn_machine.proofs.Parts.{processor-at, is_here}
use Rattle.sn_machine.proofs.Units.{HasUnit, unit-state, unit-room, each_unit, hearing-lost}
use Rattle.sn_machine.specs.Hearing.{CanHear, Hear}

-- what a delivery tells is right

pub rightly : (config : Config) (s : State) (id : ℕ) → IsSound s →
    Rightly s.fabric (step_of_delivery config s.fabric id).fabric (step_of_delivery config s.fabric id).told
rightly config s id sound =
    rightly_delivered config s.fabric sound.keeps.0 sound.keeps.1 id (λ f found. in_flight s.fabric id f sound.keeps.1.shape found)

pub rightly-as : (s t : Fabric) (x y : Option News) → Rightly s t x → x ≡ y → Rightly s t y
rightly-as s t x y right is = subst (Rightly s t) is right

-- a report

pub hearing-ready : (h g : Hardware) (said : Answer) (moved : FabricStep) (n k : ℕ) → IsWhole h → IsAfter h.fabric g.fabric said moved →
    Rightly h.fabric.fabric moved.fabric moved.told → moved.told ≡ Some (Ready n k) →
    g.processors.items ≡ h.processors.items →
    g.controller ≡ record h.controller { reported = slice_set h.controller.reported n (max (slice_index h.controller.reported n) k) } →
    g.history ≡ h.history → g.output ≡ h.output → g.is_carried ≡ true →
    Does h g said (machine_step_with_news (state_of h) moved)
hearing-ready h g said moved n k w after right told processors controller history output is =
    let clocks : IsSameClocks h.fabric.fabric moved.fabric = (subst (Rightly h.fabric.fabric moved.fabric) told right).1 in
    record {
      state = rw (told, after.left, processors, controller, history, output) refl;
      says = after.answer;
      sent = rw (is, after.left) refl;
      sizes = rw after.left refl;
      whole = record {
        count = rw (processors, after.left) (w.count ∙ sym clocks.count);
        known = rw (processors, after.left) (λ m l. w.known m l ∙ sym (clocks.known m));
        point = rw (controller, after.left) (w.point ∙ sym clocks.point);
      };
      room = λ events room. record {
        records = rw history (let a = room.records in omega (arith, a));
        bytes = rw output (let a = room.bytes in omega (arith, a));
        given = rw processors (λ m l. let a = room.given m l in omega (arith, a));
      };
    }

pub ready-here : (h : Hardware) (t : Fabric) (n k : ℕ) → IsSound (state_of h) → Rightly h.fabric.fabric t (Some (Ready n k)) →
    n < length h.controller.reported
ready-here h t n k sound right = let e = sound.shape.reported in let l = right.0 in omega (arith, e, l)

-- a recovery point

module _ (h : Hardware) (t : Fabric) (n k : ℕ) (w : IsWhole h) (right : Rightly h.fabric.fabric t (Some (Advance n k))) where
  pub advance-here : n < length h.processors.items
  advance-here = is_here h n w right.0

  count : IsSound (state_of h) →
      (node_at h.fabric.fabric n).known + length (unit_at h.processors.items n).checkpoints.cores ≡ (node_at h.fabric.fabric n).now + 1
  count sound =
      ap (λ (p : Processor). (node_at h.fabric.fabric n).known + length p.checkpoints) (sym (processor-at h n advance-here))
      ∙ sound.shape.checkpoints n right.0

  pub advance-number : IsSound (state_of h) → k < next (unit_at h.processors.items n).checkpoints
  advance-number sound =
      let c = count sound in
      let first = w.known n advance-here in
      let low = right.1 in
      let high = (sound.times n right.0).reached in
      omega (arith, c, first, low, high)

pub hearing-advance : (h g : Hardware) (said : Answer) (moved : FabricStep) (n k : ℕ) → IsWhole h → IsAfter h.fabric g.fabric said moved →
    Rightly h.fabric.fabric moved.fabric (Some (Advance n k)) → moved.told ≡ Some (Advance n k) →
    HasUnit h g n (record (unit_at h.processors.items n) { checkpoints = freed_below (unit_at h.processors.items n).checkpoints k }) →
    g.is_carried ≡ true → Does h g said (machine_step_with_news (state_of h) moved)
hearing-advance h g said moved n k w after news told same is =
    let here = is_here h n w news.0 in
    let y = record (unit_at h.processors.items n) { checkpoints = freed_below (unit_at h.processors.items n).checkpoints k } in
    let first = w.known n here in
    record {
      state = unit-state h g n y same ∙ rw (told, after.left, processor-at h n here, first) refl;
      says = after.answer;
      sent = rw (is, after.left) refl;
      sizes = rw after.left refl;
      whole = record {
        count = rw (same.processors, after.left) (length-set h.processors.items n y ∙ w.count ∙ sym news.2.count);
        known =
            λ m lm. each_unit h g n y same here
            (λ j z. j < length g.processors.items → z.checkpoints.first ≡ (node_at g.fabric.fabric j).known)
            (λ lj. rw (after.left, first) (sym (news.2.known n ∙ (let t : (n == n) ≡ true = grind (arith, nat_tests) in rw t refl))))
            (λ j ne lj. w.known j (low j lj)
            ∙ rw after.left (sym (news.2.known j ∙ (let t : (j == n) ≡ false = grind (arith, nat_tests) in rw t refl)))) m lm;
        point = rw (same.controller, after.left) (w.point ∙ sym news.2.point);
      };
      room = unit-room h g n y same here (omega arith);
    }
  where
    low : (j : ℕ) → j < length g.processors.items → j < length h.processors.items
    low j lj =
        let q = ap length same.processors
        ∙ length-set h.processors.items n
        (record (unit_at h.processors.items n) { checkpoints = freed_below (unit_at h.processors.items n).checkpoints k }) in
        omega (arith, q, lj)

-- whatever is told can be heard, and is

pub can-hear : (h : Hardware) (t : Fabric) (x : Option News) → IsWhole h → IsSound (state_of h) → Rightly h.fabric.fabric t x →
    CanHear h.processors.items h.controller x
can-hear h t None w sound right = tt
can-hear h t (Some (LostCopy n block)) w sound right = is_here h n w right.0
can-hear h t (Some (Ready n k)) w sound right = ready-here h t n k sound right
can-hear h t (Some (Advance n k)) w sound right = (advance-here h t n k w right, advance-number h t n k w right sound)

pub hears-does : (h g : Hardware) (said : Answer) (moved : FabricStep) (x : News) → IsWhole h → IsAfter h.fabric g.fabric said moved →
    Rightly h.fabric.fabric moved.fabric moved.told → moved.told ≡ Some x →
    Hear h.processors.items h.controller (Some x) g.processors.items g.controller → g.history ≡ h.history → g.output ≡ h.output →
    g.is_carried ≡ true → Does h g said (machine_step_with_news (state_of h) moved)
hears-does h g said moved (LostCopy n block) w after right told hear history output is =
    hearing-lost h g said moved n block (core_without_reservation (unit_at h.processors.items n).core block) w
    (subst (Rightly h.fabric.fabric moved.fabric) told right).0 after right told
    (record { processors = hear.0; controller = hear.1; history = history; output = output }) refl is
hears-does h g said moved (Ready n k) w after right told hear history output is =
    hearing-ready h g said moved n k w after right told hear.0 hear.1 history output is
hears-does h g said moved (Advance n k) w after right told hear history output is =
    hearing-advance h g said moved n k w after (subst (Rightly h.fabric.fabric moved.fabric) told right) told
    (record { processors = hear.0; controller = hear.1; history = history; output = output }) is
