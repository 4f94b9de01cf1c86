use Rattle.std.proofs.Common.{sym, ap, ◌∙◌, arith}
use Rattle.snap_board.proofs.Kept.{splits}
use Rattle.snap_board.proofs.holder.Holder.copy_of.Goals as goal

pub split_seat-requires : goal.split_seat-requires
split_seat-requires c =
    let own = c.args.self.now.own in
    let same = own.0 ∙ ap (λ r. r.shared.table_id) (sym c.deref.ensures) in
    let one = own.1 in
    let as_many = ap (λ z. z.words) same in
    (c.requires.0 ∙ same, omega (arith, one, as_many), splits c.args.note.now.id c.args.note.now.me.0)
