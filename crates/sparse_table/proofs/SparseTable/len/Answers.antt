use Rattle.std.proofs.Common.{length, ap, sym, ◌∙◌}
use Rattle.sparse_table.proofs.Values.{length-below}
use Rattle.sparse_table.proofs.SparseTable.len.Goals as goal

pub returns : goal.returns
returns g c =
    sym (length-below g.T.Usual.usual c.self.inside.pages.items c.self.inside.values.items c.self.inside.len) ∙ ap length c.self.view_is
