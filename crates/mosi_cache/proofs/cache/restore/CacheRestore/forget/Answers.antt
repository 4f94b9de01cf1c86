use Rattle.std.proofs.Common.{ℕ, refl, sym, ap, subst}
use Rattle.sn_base.specs.declared.log.Old.{Old}
use Rattle.sn_model.specs.Caches.{no_line}
use Rattle.mosi_cache.specs.Frames.{LinesData}
use Rattle.mosi_cache.specs.Controller.{CacheData}
use Rattle.mosi_cache.specs.Restored.{HeldFits}
use Rattle.mosi_cache.proofs.Held.{fits-held, fits-changed}
use Rattle.mosi_cache.proofs.Fits.{fits-gone}
use Rattle.mosi_cache.proofs.CompletedOrWaiting.{data_by}
use Rattle.mosi_cache.proofs.cache.restore.CacheRestore.forget.Goals as goal
use Rattle.mosi_cache.proofs.cache.restore.CacheRestore.forget.Goals.{in-WasHome, in-WasHome-2, in-NotOwned}

pub invariant_of-self : goal.invariant_of-self
invariant_of-self c =
    elim c.match-old.branch [
      | in-WasHome w ↦ rw w.self-inside-is c.self.invariant
      | in-WasHome-2 w ↦ rw w.self-inside-is c.self.invariant
      | in-NotOwned w ↦ rw w.self-inside-is (
        c.self.invariant.0,
        c.self.invariant.1,
        fits-gone c.self.inside.need c.self.inside.lines w.remove.new.self c.self.inside.transactions c.self.inside.transactions c.args.block w.remove.ensures.lines refl c.self.invariant.2,
      )
    ]

pub returns-clause-fits : goal.returns-clause-fits
returns-clause-fits c =
    let i = c.match-old.self-inside in
    fits-held (data_by i.node i.nodes i.need i.lines i.transactions) (invariant_of-self c).2

before : (c : goal.Joined-old) (map : ℕ → Old) → HeldFits c.args.self.now map →
    HeldFits (data_by c.self.inside.node c.self.inside.nodes c.self.inside.need c.self.inside.lines c.self.inside.transactions) map
before c map f = subst (λ (d : CacheData). HeldFits d map) (sym c.self.view_is) f

pub returns-clause-room : goal.returns-clause-room
returns-clause-room c = λ map f.
    elim c.match-old.branch [
      | in-WasHome w ↦ rw w.self-inside-is (before c map f)
      | in-WasHome-2 w ↦ rw w.self-inside-is (before c map f)
      | in-NotOwned w ↦ rw w.self-inside-is (let i = c.self.inside in
          fits-changed (data_by i.node i.nodes i.need i.lines i.transactions)
          (data_by i.node i.nodes i.need w.remove.new.self i.transactions) c.args.block no_line map
          (ap (λ (a : LinesData). data_by i.node i.nodes i.need a i.transactions) w.remove.ensures.lines) refl (before c map f))
    ]
