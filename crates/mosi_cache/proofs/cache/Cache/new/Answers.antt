use Rattle.std.proofs.Common.{◌≡◌, ◌≤◌, true, sym, subst, arith}
use Rattle.atomicity_point.specs.Txn.{Open}
use Rattle.sn_model.specs.declared.cache.Need.TheVariants.{Read}
use Rattle.mosi_cache.specs.Controller.{cache_of}
use Rattle.mosi_cache.proofs.cache.Cache.new.Goals as goal
use Rattle.sn_model.proofs.Taken.{fits-none}
use Rattle.std.proofs.lemmas.Bool.Decides.{nat_tests}
use Rattle.sn_base.specs.Config.{config_fits}
use Rattle.sn_base.specs.declared.config.Config.{Config}
use Rattle.sn_model.specs.Caches.{empty_lines, FitsSets}
use Rattle.mosi_cache.specs.Frames.{LinesData}

few_nodes : (g : Config) → config_fits g ≡ true → (1 ≤ g.nodes) × (g.nodes ≤ 16)
few_nodes g h = (grind (arith, nat_tests), grind (arith, nat_tests))

pub invariant_of-result : goal.invariant_of-result
invariant_of-result c =
    let n = few_nodes c.args.config.now c.requires in (
      n.0,
      n.1,
      subst (λ (a : LinesData). FitsSets (cache_of Read a c.new-2.result) a.sets a.ways) (sym c.in_ok-lines.ensures)
          (subst (λ (o : Open). FitsSets
          (cache_of Read (record {
            lines = empty_lines;
            sets = c.args.config.now.sets;
            ways = c.args.config.now.ways;
          }) o) c.args.config.now.sets c.args.config.now.ways) (sym c.new-2.ensures)
          (fits-none c.args.config.now.sets c.args.config.now.ways)),
    )
