use Rattle.std.proofs.Common.{◌≡◌, ◌/◌, ap, sym, ◌∙◌, arith}
use Rattle.std.proofs.lemmas.List.{get_or_read}
use Rattle.sparse_table.specs.Pages.{page_size, page_at}
use Rattle.sparse_table.proofs.OwnPage.{own-table, own-more, own-first, own-same, own-room}
use Rattle.sparse_table.proofs.own.Goals as goal

-- places that have no page have room for one
pub add_page-requires : goal.add_page-requires
add_page-requires g c =
    let none : page_at c.args.pages.now.items c.args.places
    ≡ 0 = sym (get_or_read c.args.pages.now.items c.args.places c.index-page.result.now c.requires.inside c.index-page.ensures 0)
    ∙ omega (arith, c.if-page-gt0.false) in
    let r = own-room g.T.Usual.usual c.args.pages.now.items c.args.values.now.items c.args.places (c.len-first.result / page_size)
    c.requires.table c.requires.inside none (ap (λ k. k / page_size) (c.len-first.ensures ∙ c.args.values.now.ok.0)) in
    omega (arith, r, c.requires.room)

pub returns-clause-table : goal.returns-clause-table
returns-clause-table g c =
    let none : page_at c.args.pages.now.items c.args.places
    ≡ 0 = sym (get_or_read c.args.pages.now.items c.args.places c.index-page.result.now c.requires.inside c.index-page.ensures 0)
    ∙ omega (arith, c.if-page-gt0.false) in
    rw c.add_page.ensures.items
    (own-table g.T.Usual.usual c.args.pages.now.items c.args.values.now.items c.args.places (c.len-first.result / page_size)
    c.requires.table c.requires.inside none (ap (λ k. k / page_size) (c.len-first.ensures ∙ c.args.values.now.ok.0)))

pub returns-clause-own : goal.returns-clause-own
returns-clause-own g c =
    let none : page_at c.args.pages.now.items c.args.places
    ≡ 0 = sym (get_or_read c.args.pages.now.items c.args.places c.index-page.result.now c.requires.inside c.index-page.ensures 0)
    ∙ omega (arith, c.if-page-gt0.false) in
    own-more g.T.Usual.usual c.args.pages.now.items c.args.values.now.items c.args.places (c.len-first.result / page_size)
    c.requires.table c.requires.inside none (ap (λ k. k / page_size) (c.len-first.ensures ∙ c.args.values.now.ok.0))

pub returns-clause-first : goal.returns-clause-first
returns-clause-first g c =
    let none : page_at c.args.pages.now.items c.args.places
    ≡ 0 = sym (get_or_read c.args.pages.now.items c.args.places c.index-page.result.now c.requires.inside c.index-page.ensures 0)
    ∙ omega (arith, c.if-page-gt0.false) in
    c.len-first.ensures ∙ c.args.values.now.ok.0
    ∙ sym (own-first g.T.Usual.usual c.args.pages.now.items c.args.values.now.items c.args.places (c.len-first.result / page_size)
    c.requires.table c.requires.inside none (ap (λ k. k / page_size) (c.len-first.ensures ∙ c.args.values.now.ok.0)))

-- the values stay
pub returns-clause-same : goal.returns-clause-same
returns-clause-same g c =
    let none : page_at c.args.pages.now.items c.args.places
    ≡ 0 = sym (get_or_read c.args.pages.now.items c.args.places c.index-page.result.now c.requires.inside c.index-page.ensures 0)
    ∙ omega (arith, c.if-page-gt0.false) in
    rw c.add_page.ensures.items
    (own-same g.T.Usual.usual c.args.pages.now.items c.args.values.now.items c.args.places (c.len-first.result / page_size)
    c.requires.table c.requires.inside none (ap (λ k. k / page_size) (c.len-first.ensures ∙ c.args.values.now.ok.0)))
