use Rattle.std.proofs.Common.{sym, ap, ◌∙◌, arith}
use Rattle.snap_board.proofs.Kept.{joins, hearing}
use Rattle.snap_board.proofs.holder.Holder.hear.Goals as goal

pub join_seat-requires : goal.join_seat-requires
join_seat-requires c =
    let own = c.args.self.now.own in
    let same = own.0 ∙ ap (λ r. r.shared.table_id) (sym c.deref.ensures) in
    let one = own.1 in
    let as_many = ap (λ z. z.words) same in
    (same, c.requires.own.0 ∙ same, c.requires.own.1, omega (arith, one, as_many), joins c.args.self.now.note.id c.args.self.now.note.me.0 c.args.note.id c.args.note.me.0 c.requires.follows)

pub load-requires : goal.load-requires
load-requires c =
    let own = c.args.self.now.own in
    let same = own.0 ∙ ap (λ r. r.shared.table_id) (sym c.deref-2.ensures) in
    let one = own.1 in
    let as_many = ap (λ z. z.words) same in
    let joined = c.join_seat.ensures in
    (joined.0 ∙ same, omega (arith, one, as_many), hearing c.deref-2.result.now.shared.table_id.slots c.join_seat.new.seat.id c.join_seat.new.seat.me (ap (λ m. m.0.leads) joined.2 ∙ c.requires.follows))
