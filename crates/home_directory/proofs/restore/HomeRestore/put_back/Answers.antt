use Rattle.std.proofs.Common.{refl, ap, ◌∙◌}
use Rattle.sn_model.specs.Homes.{Itself, OfCache}
use Rattle.home_directory.specs.Home.{HomeData}
use Rattle.home_directory.specs.Restored.{had}
use Rattle.home_directory.proofs.PutBack.{here-put, had-put}
use Rattle.home_directory.proofs.restore.HomeRestore.put_back.Goals as goal

pub returns-in-WasHome-clause-held : goal.returns-in-WasHome-clause-held
returns-in-WasHome-clause-held c b =
    rw c.in-WasHome.is
    (ap (λ (h : HomeData). had h b) c.put_home.ensures.put
    ∙ had-put c.args.self.now c.args.block (Itself c.in-WasHome.content)
    (here-put c.args.self.now c.args.block _ (rw c.in-WasHome.is refl) c.requires) c.put_home.ensures.inside b)

pub returns-in-WasCache-clause-held : goal.returns-in-WasCache-clause-held
returns-in-WasCache-clause-held c b =
    rw c.in-WasCache.is
    (ap (λ (h : HomeData). had h b) c.put_cache.ensures.put
    ∙ had-put c.args.self.now c.args.block (OfCache c.in-WasCache.node)
    (here-put c.args.self.now c.args.block _ (rw c.in-WasCache.is refl) c.requires) c.put_cache.ensures.inside b)
