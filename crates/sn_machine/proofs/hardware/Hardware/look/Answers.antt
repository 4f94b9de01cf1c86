use Rattle.std.proofs.Common.{◌∙◌}
use Rattle.rv_core.specs.declared.step.Want.TheVariants.{Nothing, Input, Load, Lr, Store, Amo, Sc}
use Rattle.sn_machine.specs.Parts.{state_of}
use Rattle.sn_machine.proofs.Turns.{want-read, inside-read, load-comes, reserved-comes, store-comes, amo-comes}
use Rattle.sn_machine.proofs.Turns.{conditional-comes, nothing-comes, input-comes}
use Rattle.sn_machine.proofs.hardware.Hardware.look.Goals as goal

pub returns-in-Nothing : goal.returns-in-Nothing
returns-in-Nothing c =
    nothing-comes c.args.image.now c.args.self.now.fabric.config (state_of c.args.self.now) c.args.node c.requires.here
    c.requires.may.running c.requires.may.no_miss c.quiet.result
    (want-read c.args.self.now c.args.node c.from.result c.index.result.now c.requires.whole c.requires.here
    (c.from.ensures ∙ c.number.ensures.same) c.index.ensures c.args.image.now c.args.instruction c.want_by.result
    Nothing c.requires.next c.want_by.ensures c.in-Nothing.is) c.quiet.ensures

pub returns-in-Input : goal.returns-in-Input
returns-in-Input c =
    input-comes c.args.image.now c.args.self.now.fabric.config (state_of c.args.self.now) c.args.node c.requires.here
    c.requires.may.running c.requires.may.no_miss c.look_input.result
    (want-read c.args.self.now c.args.node c.from.result c.index.result.now c.requires.whole c.requires.here
    (c.from.ensures ∙ c.number.ensures.same) c.index.ensures c.args.image.now c.args.instruction c.want_by.result
    Input c.requires.next c.want_by.ensures c.in-Input.is) c.look_input.ensures

pub look_load-requires-clause-low : goal.look_load-requires-clause-low
look_load-requires-clause-low c =
    (inside-read c.args.self.now c.args.node c.from.result c.index.result.now c.requires.whole c.requires.here
    (c.from.ensures ∙ c.number.ensures.same) c.index.ensures c.args.image.now c.args.instruction c.want_by.result
    (Load c.in-Load.address) c.requires.next c.want_by.ensures c.in-Load.is).0

pub look_load-requires-clause-high : goal.look_load-requires-clause-high
look_load-requires-clause-high c =
    (inside-read c.args.self.now c.args.node c.from.result c.index.result.now c.requires.whole c.requires.here
    (c.from.ensures ∙ c.number.ensures.same) c.index.ensures c.args.image.now c.args.instruction c.want_by.result
    (Load c.in-Load.address) c.requires.next c.want_by.ensures c.in-Load.is).1

pub returns-in-Load : goal.returns-in-Load
returns-in-Load c =
    load-comes c.args.image.now c.args.self.now.fabric.config (state_of c.args.self.now) c.args.node c.requires.here
    c.requires.may.running c.requires.may.no_miss c.in-Load.address c.look_load.result
    (want-read c.args.self.now c.args.node c.from.result c.index.result.now c.requires.whole c.requires.here
    (c.from.ensures ∙ c.number.ensures.same) c.index.ensures c.args.image.now c.args.instruction c.want_by.result
    (Load c.in-Load.address) c.requires.next c.want_by.ensures c.in-Load.is) c.look_load.ensures

pub look_load-requires-in-Lr-clause-low : goal.look_load-requires-in-Lr-clause-low
look_load-requires-in-Lr-clause-low c =
    (inside-read c.args.self.now c.args.node c.from.result c.index.result.now c.requires.whole c.requires.here
    (c.from.ensures ∙ c.number.ensures.same) c.index.ensures c.args.image.now c.args.instruction c.want_by.result
    (Lr c.in-Lr.address) c.requires.next c.want_by.ensures c.in-Lr.is).0

pub look_load-requires-in-Lr-clause-high : goal.look_load-requires-in-Lr-clause-high
look_load-requires-in-Lr-clause-high c =
    (inside-read c.args.self.now c.args.node c.from.result c.index.result.now c.requires.whole c.requires.here
    (c.from.ensures ∙ c.number.ensures.same) c.index.ensures c.args.image.now c.args.instruction c.want_by.result
    (Lr c.in-Lr.address) c.requires.next c.want_by.ensures c.in-Lr.is).1

pub returns-in-Lr : goal.returns-in-Lr
returns-in-Lr c =
    reserved-comes c.args.image.now c.args.self.now.fabric.config (state_of c.args.self.now) c.args.node c.requires.here
    c.requires.may.running c.requires.may.no_miss c.in-Lr.address c.look_load-in-Lr.result
    (want-read c.args.self.now c.args.node c.from.result c.index.result.now c.requires.whole c.requires.here
    (c.from.ensures ∙ c.number.ensures.same) c.index.ensures c.args.image.now c.args.instruction c.want_by.result
    (Lr c.in-Lr.address) c.requires.next c.want_by.ensures c.in-Lr.is) c.look_load-in-Lr.ensures

pub look_access-requires-clause-low : goal.look_access-requires-clause-low
look_access-requires-clause-low c =
    (inside-read c.args.self.now c.args.node c.from.result c.index.result.now c.requires.whole c.requires.here
    (c.from.ensures ∙ c.number.ensures.same) c.index.ensures c.args.image.now c.args.instruction c.want_by.result
    (Store c.in-Store.address) c.requires.next c.want_by.ensures c.in-Store.is).0

pub look_access-requires-clause-high : goal.look_access-requires-clause-high
look_access-requires-clause-high c =
    (inside-read c.args.self.now c.args.node c.from.result c.index.result.now c.requires.whole c.requires.here
    (c.from.ensures ∙ c.number.ensures.same) c.index.ensures c.args.image.now c.args.instruction c.want_by.result
    (Store c.in-Store.address) c.requires.next c.want_by.ensures c.in-Store.is).1

pub returns-in-Store : goal.returns-in-Store
returns-in-Store c =
    store-comes c.args.image.now c.args.self.now.fabric.config (state_of c.args.self.now) c.args.node c.requires.here
    c.requires.may.running c.requires.may.no_miss c.in-Store.address c.look_access.result
    (want-read c.args.self.now c.args.node c.from.result c.index.result.now c.requires.whole c.requires.here
    (c.from.ensures ∙ c.number.ensures.same) c.index.ensures c.args.image.now c.args.instruction c.want_by.result
    (Store c.in-Store.address) c.requires.next c.want_by.ensures c.in-Store.is) c.look_access.ensures

pub look_load-requires-in-Amo-clause-low : goal.look_load-requires-in-Amo-clause-low
look_load-requires-in-Amo-clause-low c =
    (inside-read c.args.self.now c.args.node c.from.result c.index.result.now c.requires.whole c.requires.here
    (c.from.ensures ∙ c.number.ensures.same) c.index.ensures c.args.image.now c.args.instruction c.want_by.result
    (Amo c.in-Amo.address) c.requires.next c.want_by.ensures c.in-Amo.is).0

pub look_load-requires-in-Amo-clause-high : goal.look_load-requires-in-Amo-clause-high
look_load-requires-in-Amo-clause-high c =
    (inside-read c.args.self.now c.args.node c.from.result c.index.result.now c.requires.whole c.requires.here
    (c.from.ensures ∙ c.number.ensures.same) c.index.ensures c.args.image.now c.args.instruction c.want_by.result
    (Amo c.in-Amo.address) c.requires.next c.want_by.ensures c.in-Amo.is).1

pub returns-in-Amo : goal.returns-in-Amo
returns-in-Amo c =
    amo-comes c.args.image.now c.args.self.now.fabric.config (state_of c.args.self.now) c.args.node c.requires.here
    c.requires.may.running c.requires.may.no_miss c.in-Amo.address c.look_load-in-Amo.result
    (want-read c.args.self.now c.args.node c.from.result c.index.result.now c.requires.whole c.requires.here
    (c.from.ensures ∙ c.number.ensures.same) c.index.ensures c.args.image.now c.args.instruction c.want_by.result
    (Amo c.in-Amo.address) c.requires.next c.want_by.ensures c.in-Amo.is) c.look_load-in-Amo.ensures

pub look_conditional-requires-clause-low : goal.look_conditional-requires-clause-low
look_conditional-requires-clause-low c =
    (inside-read c.args.self.now c.args.node c.from.result c.index.result.now c.requires.whole c.requires.here
    (c.from.ensures ∙ c.number.ensures.same) c.index.ensures c.args.image.now c.args.instruction c.want_by.result
    (Sc c.in-Sc.address) c.requires.next c.want_by.ensures c.in-Sc.is).0

pub look_conditional-requires-clause-high : goal.look_conditional-requires-clause-high
look_conditional-requires-clause-high c =
    (inside-read c.args.self.now c.args.node c.from.result c.index.result.now c.requires.whole c.requires.here
    (c.from.ensures ∙ c.number.ensures.same) c.index.ensures c.args.image.now c.args.instruction c.want_by.result
    (Sc c.in-Sc.address) c.requires.next c.want_by.ensures c.in-Sc.is).1

pub returns-in-Sc : goal.returns-in-Sc
returns-in-Sc c =
    conditional-comes c.args.image.now c.args.self.now.fabric.config (state_of c.args.self.now) c.args.node c.requires.here
    c.requires.may.running c.requires.may.no_miss c.in-Sc.address c.look_conditional.result
    (want-read c.args.self.now c.args.node c.from.result c.index.result.now c.requires.whole c.requires.here
    (c.from.ensures ∙ c.number.ensures.same) c.index.ensures c.args.image.now c.args.instruction c.want_by.result
    (Sc c.in-Sc.address) c.requires.next c.want_by.ensures c.in-Sc.is) c.look_conditional.ensures
