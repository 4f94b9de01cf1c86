use Rattle.std.proofs.Common.{refl, sym, ◌∙◌, subst}
use Rattle.sn_model.specs.NetEvents.{step_of_delivery}
use Rattle.sn_machine.specs.Hearing.{CanHear}
use Rattle.sn_machine.specs.Parts.{state_of}
use Rattle.sn_machine.proofs.Deliveries.{rightly, can-hear, hears-does}
use Rattle.sn_machine.proofs.Units.{hearing-none}
use Rattle.sn_machine.proofs.hardware.Hardware.deliver.Goals as goal

pub hear-requires : goal.hear-requires
hear-requires c =
    subst (CanHear c.args.self.now.processors.items c.args.self.now.controller) (sym c.deliver-delivery.ensures.told ∙ c.in-Some.is)
    (can-hear c.args.self.now (step_of_delivery c.args.self.now.fabric.config c.args.self.now.fabric.fabric c.args.id).fabric
    (step_of_delivery c.args.self.now.fabric.config c.args.self.now.fabric.fabric c.args.id).told c.requires.whole c.requires.sound
    (rightly c.args.self.now.fabric.config (state_of c.args.self.now) c.args.id c.requires.sound))

pub returns-in-Some : goal.returns-in-Some
returns-in-Some c =
    hears-does c.args.self.now _ c.deliver-delivery.result.0
    (step_of_delivery c.args.self.now.fabric.config c.args.self.now.fabric.fabric c.args.id) c.in-Some.told c.requires.whole c.deliver-delivery.ensures.after
    (rightly c.args.self.now.fabric.config (state_of c.args.self.now) c.args.id c.requires.sound)
    (sym c.deliver-delivery.ensures.told ∙ c.in-Some.is) c.hear.ensures refl refl refl

pub returns-in_default : goal.returns-in_default
returns-in_default c =
    hearing-none c.args.self.now _ c.deliver-delivery.result.0
    (step_of_delivery c.args.self.now.fabric.config c.args.self.now.fabric.fabric c.args.id) c.requires.whole c.deliver-delivery.ensures.after
    (rightly c.args.self.now.fabric.config (state_of c.args.self.now) c.args.id c.requires.sound)
    (sym c.deliver-delivery.ensures.told ∙ c.in_default.is)
    (record { processors = refl; controller = refl; history = refl; output = refl }) refl
