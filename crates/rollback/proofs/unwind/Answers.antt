use Rattle.std.proofs.Common.{◌∙◌}
use Rattle.rollback.proofs.Steps.{unwound-forgotten}
use Rattle.rollback.proofs.unwind.Goals as goal

pub returns-clause-held : goal.returns-clause-held
returns-clause-held g c = λ b.
    c.put_back_oldest.ensures.held b
    ∙ unwound-forgotten (g.E.Entries.entries c.args.log.now) g.T.Restore.home_side c.args.k b (g.T.Restore.holds c.args.target.now)
    (g.T.Restore.holds c.forget_all.new.target) (c.forget_all.ensures.held b)

pub returns-clause-stays : goal.returns-clause-stays
returns-clause-stays g c =
    g.met.T.Restore.stays_trans c.args.target.now c.forget_all.new.target c.put_back_oldest.new.target c.forget_all.ensures.stays c.put_back_oldest.ensures.stays
