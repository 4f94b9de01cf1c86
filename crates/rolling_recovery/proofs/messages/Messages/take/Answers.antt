use Rattle.std.proofs.Common.{◌≡◌, ap, length, sym, ◌∙◌, Some, arith}
use Rattle.rolling_recovery.specs.Messages.{MessagesData, message_in}
use Rattle.rolling_recovery.proofs.Flights.{shorter}
use Rattle.rolling_recovery.proofs.messages.Messages.take.Goals as goal

pub invariant_of-self : goal.invariant_of-self
invariant_of-self c =
    let there : message_in c.self.inside.flights.items c.args.id ≡ Some c.in_ok-message.message =
    ap (λ (m : MessagesData). message_in m.flights c.args.id) c.self.view_is ∙ sym c.get.ensures ∙ c.in_ok-message.was in
    let less = shorter c.self.inside.flights.items c.args.id c.in_ok-message.message there in
    let items = ap length c.drop_number.ensures.others in
    (omega (arith, less, items, c.self.invariant.0), omega (arith, c.self.invariant.1, c.drop_number.ensures.room))

pub returns-clause-room : goal.returns-clause-room
returns-clause-room c =
    let there : message_in c.self.inside.flights.items c.args.id ≡ Some c.in_ok-message.message =
    ap (λ (m : MessagesData). message_in m.flights c.args.id) c.self.view_is ∙ sym c.get.ensures ∙ c.in_ok-message.was in
    let less = shorter c.self.inside.flights.items c.args.id c.in_ok-message.message there in
    let items = ap length c.drop_number.ensures.others in
    omega (arith, less, items, c.self.invariant.0)
