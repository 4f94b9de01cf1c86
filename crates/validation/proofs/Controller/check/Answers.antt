use Rattle.std.proofs.Common.{◌≡◌, sym, ◌∙◌}
use Rattle.validation.proofs.Reports.{ready-checked, behind-checked}
use Rattle.validation.proofs.Controller.check.Goals as goal

pub returns-in-None : goal.returns-in-None
returns-in-None c =
    ready-checked c.self.inside.point c.self.inside.nodes c.self.inside.reports c.args.self.now c.self.view_is
    (sym c.first_behind.ensures ∙ c.in-None.is)

pub returns-in-Some : goal.returns-in-Some
returns-in-Some c =
    let r : c.unwrap.result ≡ c.in-Some.place = rw c.unwrap.ensures at c.new.ensures.some in
    rw r (behind-checked c.self.inside.point c.self.inside.nodes c.in-Some.place c.self.inside.reports c.args.self.now c.self.view_is
    (sym c.first_behind.ensures ∙ c.in-Some.is))
