use Rattle.std.proofs.Common.{◌≡◌, ◌∙◌}
use Rattle.validation.proofs.Reports.{one_more}
use Rattle.validation.proofs.Controller.ready.Goals as goal

pub returns : goal.returns
returns c =
    let p : c.from-place.result ≡ c.args.node = c.from-place.ensures ∙ c.number.ensures.same in
    rw (c.max.ensures, p)
    (one_more c.self.inside.point c.self.inside.nodes c.args.node c.args.k c.self.inside.reports c.args.self.now c.self.view_is c.requires)
