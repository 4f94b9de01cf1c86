use Rattle.std.proofs.Common.{◌≡◌, ◌+◌, ◌-◌, ◌*◌, suc, length, get_or, set, ap, ◌∙◌, arith}
use Rattle.sn_model.specs.Fabric.{first_home, no_entry}
use Rattle.home_directory.specs.Home.{places_of}
use Rattle.home_directory.proofs.Starts.{begun, length_begun, begun_next, begun_written}
use Rattle.home_directory.proofs.start.first_entries.Goals as goal

-- the next place is there, and has the usual entry yet

pub begin-requires-clause-inside : goal.begin-requires-clause-inside
begin-requires-clause-inside c =
    let e = ap length c.places.invariant
    ∙ length_begun c.args.image.now c.args.node c.args.nodes c.places.place (places_of c.args.node c.args.nodes - c.places.place) in
    omega (arith, e, c.count_places-places.ensures.count)

pub begin-requires-clause-usual : goal.begin-requires-clause-usual
begin-requires-clause-usual c =
    let rest = places_of c.args.node c.args.nodes - (c.places.place + 1) in
    let s : places_of c.args.node c.args.nodes - c.places.place ≡ suc rest = omega (arith, c.count_places-places.ensures.count) in
    ap (λ es. get_or es c.places.place no_entry)
    (c.places.invariant ∙ ap (λ n. begun c.args.image.now c.args.node c.args.nodes c.places.place n) s)
    ∙ begun_next c.args.image.now c.args.node c.args.nodes c.places.place rest

-- one entry more is there
pub places-preserved : goal.places-preserved
places-preserved c =
    let rest = places_of c.args.node c.args.nodes - (c.places.place + 1) in
    let s : places_of c.args.node c.args.nodes - c.places.place ≡ suc rest = omega (arith, c.count_places-places.ensures.count) in
    c.begin.ensures
    ∙ ap (λ b. set c.places.entries c.places.place (first_home c.args.image.now b)) c.block_at_place-block.ensures
    ∙ ap (λ es. set es c.places.place (first_home c.args.image.now (c.args.node + c.args.nodes * c.places.place)))
    (c.places.invariant ∙ ap (λ n. begun c.args.image.now c.args.node c.args.nodes c.places.place n) s)
    ∙ begun_written c.args.image.now c.args.node c.args.nodes c.places.place rest
