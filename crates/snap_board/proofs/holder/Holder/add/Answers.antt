use Rattle.std.proofs.Common.{sym, ap, ◌∙◌, arith}
use Rattle.snap_board.proofs.Kept.{adding}
use Rattle.snap_board.proofs.holder.Holder.add.Goals as goal

pub compare_exchange_with-requires : goal.compare_exchange_with-requires
compare_exchange_with-requires c =
    let own = c.args.self.now.own in
    let same = own.0 ∙ ap (λ r. r.shared.table_id) (sym c.deref.ensures) in
    let one = own.1 in
    let as_many = ap (λ z. z.words) same in
    (same, omega (arith, one, as_many), adding c.deref.result.now.shared.table_id.slots c.args.self.now.note.id c.args.self.now.note.me c.args.snap.now (λ n. n) c.requires.leads c.requires.rises)
