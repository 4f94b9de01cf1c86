use Rattle.std.proofs.Common.{not, ap, sym, arith}
use Rattle.std.proofs.lemmas.Bool.Decides.{nat_tests}
use Rattle.rollback.proofs.Oldest.{older-inside, oldest-alone, oldest-told}
use Rattle.rollback.proofs.is_oldest.Goals as goal

pub entry-requires : goal.entry-requires
entry-requires g c =
    older-inside (g.E.Entries.entries c.args.log.now) c.args.place c.in-Some.before c.older.result c.requires.place c.older.ensures c.in-Some.is

pub returns-in-Some : goal.returns-in-Some
returns-in-Some g c = λ e h.
    let t = oldest-told (g.E.Entries.entries c.args.log.now) c.args.place c.args.k c.in-Some.before e c.entry.result.now c.older.result
    c.requires.growing (c.older.ensures e h) c.in-Some.is c.entry.ensures in
    grind (arith, nat_tests)

pub returns-in-None : goal.returns-in-None
returns-in-None g c = λ e h.
    ap not
    (sym (oldest-alone (g.E.Entries.entries c.args.log.now) c.args.place c.args.k e c.older.result c.requires.growing (c.older.ensures e h)
    c.in-None.is))
