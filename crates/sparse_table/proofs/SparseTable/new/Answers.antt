use Rattle.std.proofs.Common.{◌≡◌, ◌+◌, ◌/◌, ◌++◌, length, replicate, ap, ◌∙◌, arith}
use Rattle.std.proofs.lemmas.List.{length-replicate}
use Rattle.sparse_table.specs.Pages.{page_size, values_below}
use Rattle.sparse_table.proofs.Values.{usual-below, table-first}
use Rattle.sparse_table.proofs.SparseTable.new.Goals as goal

-- no places have a page of their own
pub invariant_of-result : goal.invariant_of-result
invariant_of-result g c =
    let e : c.add_page.new.values.items ≡ replicate page_size g.T.Usual.usual = c.add_page.ensures.items
    ∙ ap (λ xs. xs ++ replicate page_size g.T.Usual.usual) c.in_ok-values.ensures.items in
    let n : length c.in_ok-pages.pages.items ≡ c.args.len / page_size + 1 = ap length (c.in_ok-pages.ensures.items_if_clones_equal (λ y h. h))
    ∙ length-replicate (c.args.len / page_size + 1) 0 in (
      rw (c.in_ok-pages.ensures.items_if_clones_equal (λ y h. h), e) (table-first g.T.Usual.usual (c.args.len / page_size + 1)),
      omega (arith, n),
      omega (arith, n, c.in_ok-values.ensures.capacity, c.add_page.ensures.room),
    )

pub returns : goal.returns
returns g c =
    ap (λ vs. values_below g.T.Usual.usual c.in_ok-pages.pages.items vs c.args.len)
    (c.add_page.ensures.items ∙ ap (λ xs. xs ++ replicate page_size g.T.Usual.usual) c.in_ok-values.ensures.items)
    ∙ usual-below g.T.Usual.usual c.in_ok-pages.pages.items c.args.len
