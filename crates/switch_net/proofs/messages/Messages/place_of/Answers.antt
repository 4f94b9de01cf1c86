use Rattle.std.proofs.Common.{◌==◌, List, ap, rules, ◌∙◌}
use Rattle.std.specs.List.{position}
use Rattle.std.proofs.lemmas.List.Sorted.{answers_always}
use Rattle.switch_net.specs.declared.flight.Flight.{Flight}
use Rattle.switch_net.proofs.Ordered.{position-searched}
use Rattle.switch_net.proofs.messages.Messages.place_of.Goals as goal

pub returns : goal.returns
returns c =
    let facts = c.binary_search_by_key.ensures in
    let by_number = facts.position (λ f. f.message.id) (answers_always _ _ _ (λ f a r g called. search rules)) in
    let same = c.deref.ensures.value ∙ c.self.view_is in
    c.ok.ensures.value
    ∙ position-searched c.args.id 1 c.requires.0 c.deref.result.now c.binary_search_by_key.result (rw same c.requires.1) facts.bound by_number
    ∙ ap (λ (fs : List Flight). position (λ f. f.message.id == c.args.id) fs) same
