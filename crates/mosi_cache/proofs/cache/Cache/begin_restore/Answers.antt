use Rattle.std.proofs.Common.{sym, subst}
use Rattle.atomicity_point.specs.Txn.{Open}
use Rattle.std.specs.Prelude.{map}
use Rattle.mosi_cache.specs.Frames.{LinesData}
use Rattle.mosi_cache.specs.Restored.{begun_line}
use Rattle.mosi_cache.specs.Controller.{cache_of}
use Rattle.mosi_cache.proofs.Restored.{fits-begun}
use Rattle.sn_model.specs.Caches.{FitsSets}
use Rattle.mosi_cache.proofs.cache.Cache.begin_restore.Goals as goal

pub invariant_of-self : goal.invariant_of-self
invariant_of-self c = (
  c.self.invariant.0,
  c.self.invariant.1,
  subst (λ (a : LinesData). FitsSets (cache_of c.self.inside.need a c.new-self-inside.result) a.sets a.ways) (sym c.keep_owned.ensures)
      (subst (λ (o : Open). FitsSets
      (cache_of c.self.inside.need
      (record c.self.inside.lines { lines = map begun_line c.self.inside.lines.lines }) o) c.self.inside.lines.sets c.self.inside.lines.ways) (sym c.new-self-inside.ensures)
      (fits-begun
      (cache_of c.self.inside.need c.self.inside.lines c.self.inside.transactions) c.self.inside.lines.sets c.self.inside.lines.ways c.self.invariant.2)),
)
