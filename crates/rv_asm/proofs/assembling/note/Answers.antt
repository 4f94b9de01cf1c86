use Rattle.std.proofs.Common.{Some}
use Rattle.std.proofs.lemmas.Map.Text.{btree_map_updates_str}
use Rattle.rv_asm.proofs.assembling.note.Goals as goal

pub returns-clause-noted : goal.returns-clause-noted
returns-clause-noted c =
    λ other. btree_map_updates_str c.args.name.now c.args.labels.now c.insert.new.self
    (Some c.args.place) c.in_ok-insert.ensures.updates other
