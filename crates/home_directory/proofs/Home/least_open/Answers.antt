use Rattle.std.proofs.Common.{ap, ◌∙◌}
use Rattle.home_directory.specs.Home.{HomeData, least_open}
use Rattle.home_directory.specs.Open.{least_in}
use Rattle.home_directory.proofs.Opens.{least_is}
use Rattle.home_directory.proofs.Home.least_open.Goals as goal

-- the list of the open transactions has the least of the entries
pub returns : goal.returns
returns c =
    c.least.ensures
    ∙ ap least_in (c.as_slice.ensures.value ∙ c.self.invariant.1)
    ∙ least_is 0 c.self.inside.entries
    ∙ ap (λ (h : HomeData). least_open h.entries) c.self.view_is
