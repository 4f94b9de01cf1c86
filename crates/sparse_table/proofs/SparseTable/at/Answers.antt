use Rattle.std.proofs.Common.{◌+◌, ◌*◌, ◌/◌, ◌%◌, ◌<◌, length, get_or, ap, sym, ◌∙◌, arith}
use Rattle.std.proofs.lemmas.List.{get_or_read}
use Rattle.sparse_table.specs.Pages.{page_size}
use Rattle.sparse_table.proofs.Values.{place-inside, page-inside, at-below}
use Rattle.sparse_table.proofs.OwnPage.{position-inside}
use Rattle.sparse_table.proofs.SparseTable.at.Goals as goal

-- the place has a page
pub index-requires : goal.index-requires
index-requires g c =
    let l : c.args.place / page_size < length c.self.inside.pages.items = page-inside g.T.Usual.usual c.self.inside.pages.items c.self.inside.values.items c.args.self.now
    c.self.inside.len c.args.place c.self.view_is c.requires c.self.invariant.1 in
    omega (arith, l, c.self.inside.pages.ok.0)

pub overflow_mul-index : goal.overflow_mul-index
overflow_mul-index g c =
    let l : c.args.place / page_size < length c.self.inside.pages.items = page-inside g.T.Usual.usual c.self.inside.pages.items c.self.inside.values.items c.args.self.now
    c.self.inside.len c.args.place c.self.view_is c.requires c.self.invariant.1 in
    let p = get_or_read c.self.inside.pages.items (c.args.place / page_size) c.index.result.now l c.index.ensures 0 in
    let m = position-inside g.T.Usual.usual c.self.inside.pages.items c.self.inside.values.items c.args.place c.self.invariant.0 in
    omega (arith, p, m, c.self.inside.values.ok.0, c.self.inside.values.ok.1, c.self.inside.values.small)

pub overflow_add-index : goal.overflow_add-index
overflow_add-index g c =
    let l : c.args.place / page_size < length c.self.inside.pages.items = page-inside g.T.Usual.usual c.self.inside.pages.items c.self.inside.values.items c.args.self.now
    c.self.inside.len c.args.place c.self.view_is c.requires c.self.invariant.1 in
    let p = get_or_read c.self.inside.pages.items (c.args.place / page_size) c.index.result.now l c.index.ensures 0 in
    let m = position-inside g.T.Usual.usual c.self.inside.pages.items c.self.inside.values.items c.args.place c.self.invariant.0 in
    omega (arith, p, m, c.self.inside.values.ok.0, c.self.inside.values.ok.1, c.self.inside.values.small)

pub index-requires-2 : goal.index-requires-2
index-requires-2 g c =
    let l : c.args.place / page_size < length c.self.inside.pages.items = page-inside g.T.Usual.usual c.self.inside.pages.items c.self.inside.values.items c.args.self.now
    c.self.inside.len c.args.place c.self.view_is c.requires c.self.invariant.1 in
    let p = get_or_read c.self.inside.pages.items (c.args.place / page_size) c.index.result.now l c.index.ensures 0 in
    let m = position-inside g.T.Usual.usual c.self.inside.pages.items c.self.inside.values.items c.args.place c.self.invariant.0 in
    omega (arith, p, m, c.self.inside.values.ok.0)

-- it is the place's value
pub returns : goal.returns
returns g c =
    let l : c.args.place / page_size < length c.self.inside.pages.items = page-inside g.T.Usual.usual c.self.inside.pages.items c.self.inside.values.items c.args.self.now
    c.self.inside.len c.args.place c.self.view_is c.requires c.self.invariant.1 in
    let p = get_or_read c.self.inside.pages.items (c.args.place / page_size) c.index.result.now l c.index.ensures 0 in
    let m = position-inside g.T.Usual.usual c.self.inside.pages.items c.self.inside.values.items c.args.place c.self.invariant.0 in
    get_or_read c.self.inside.values.items (page_size * c.index.result.now + c.args.place % page_size) c.index-2.result.now
    (omega (arith, p, m)) c.index-2.ensures g.T.Usual.usual
    ∙ ap (λ k. get_or c.self.inside.values.items (page_size * k + c.args.place % page_size) g.T.Usual.usual) p
    ∙ sym (at-below g.T.Usual.usual c.self.inside.pages.items c.self.inside.values.items c.self.inside.len c.args.place c.index-2.result.now
    (place-inside g.T.Usual.usual c.self.inside.pages.items c.self.inside.values.items c.args.self.now c.self.inside.len c.args.place c.self.view_is c.requires))
    ∙ ap (λ xs. get_or xs c.args.place c.index-2.result.now) c.self.view_is
