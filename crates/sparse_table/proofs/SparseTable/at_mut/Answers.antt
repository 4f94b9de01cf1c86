use Rattle.std.proofs.Common.{◌+◌, ◌%◌, ◌<◌, length, get_or, set, refl, ap, sym, subst, ◌∙◌, arith}
use Rattle.std.proofs.lemmas.List.{get_or_read}
use Rattle.sparse_table.specs.Pages.{page_size, values_below, IsTable}
use Rattle.sparse_table.proofs.Values.{length-below, at-below, same-below}
use Rattle.sparse_table.proofs.OwnPage.{position-inside}
use Rattle.sparse_table.proofs.Written.{written-below, written-table}
use Rattle.sparse_table.proofs.SparseTable.at_mut.Goals as goal

pub own-first-requires-clause-inside : goal.own-first-requires-clause-inside
own-first-requires-clause-inside g c =
    let e = length-below g.T.Usual.usual c.self.inside.pages.items c.self.inside.values.items c.self.inside.len in
    let n = ap length c.self.view_is in
    omega (arith, e, n, c.requires, c.self.invariant.1)

-- whatever is written, it is still a table
pub invariant_of-self-lent : goal.invariant_of-self-lent
invariant_of-self-lent g c w = (
  subst (λ k. IsTable g.T.Usual.usual c.own-first.new.pages.items (set c.own-first.new.values.items (k + c.args.place % page_size) w))
      (sym c.own-first.ensures.first)
      (written-table g.T.Usual.usual c.own-first.new.pages.items c.own-first.new.values.items c.args.place w c.own-first.ensures.table
      c.own-first.ensures.own),
  omega (arith, c.own-first.ensures.count, c.self.invariant.1),
  omega (arith, c.own-first.ensures.count, c.own-first.ensures.room, c.self.invariant.2),
)

-- the place alone is written
pub returns : goal.returns
returns g c =
    let usual = g.T.Usual.usual in
    let ps = c.self.inside.pages.items in
    let vs = c.self.inside.values.items in
    let e = length-below usual ps vs c.self.inside.len in
    let n = ap length c.self.view_is in
    let l : c.args.place < c.self.inside.len = omega (arith, e, n, c.requires) in
    let m = position-inside usual c.own-first.new.pages.items c.own-first.new.values.items c.args.place c.own-first.ensures.table in (
      (
        refl,
        λ w. ap (λ k. values_below usual c.own-first.new.pages.items (set c.own-first.new.values.items (k + c.args.place % page_size) w) c.self.inside.len)
            c.own-first.ensures.first
            ∙ written-below usual c.own-first.new.pages.items c.own-first.new.values.items c.args.place w c.own-first.ensures.table
            c.own-first.ensures.own c.self.inside.len l
            ∙ ap (λ xs. set xs c.args.place w)
            (same-below usual ps vs c.own-first.new.pages.items c.own-first.new.values.items c.own-first.ensures.same c.self.inside.len
            ∙ c.self.view_is),
      ),
      record {
        lent = tt;
        value =
            get_or_read c.own-first.new.values.items (c.own-first.result + c.args.place % page_size) c.index_mut.result.now
            (omega (arith, m, c.own-first.ensures.first)) c.index_mut.ensures.value usual
            ∙ ap (λ k. get_or c.own-first.new.values.items (k + c.args.place % page_size) usual) c.own-first.ensures.first
            ∙ c.own-first.ensures.same c.args.place
            ∙ sym (at-below usual ps vs c.self.inside.len c.args.place c.index_mut.result.now l)
            ∙ ap (λ xs. get_or xs c.args.place c.index_mut.result.now) c.self.view_is;
      },
    )
