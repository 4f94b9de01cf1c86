use Rattle.std.proofs.Common.{◌+◌, ◌<◌, length, drop, set, sym, subst, ◌∙◌, arith}
use Rattle.std.specs.Prelude.{slice_index_or}
use Rattle.std.proofs.lemmas.List.{get_or_default}
use Rattle.sn_model.specs.Homes.{HomeEntry}
use Rattle.sn_model.specs.Fabric.{no_entry}
use Rattle.home_directory.specs.Restored.{entry_without_sharers}
use Rattle.home_directory.proofs.Listing.{AreClearing, clearing-more, clearing-all}
use Rattle.home_directory.proofs.restore.clear_entries.Goals as goal

-- one entry more is cleared
pub places-preserved : goal.places-preserved
places-preserved c =
    let places = c.places-place-items.result.now in
    let i = c.places.place-index in
    let place = slice_index_or places i 0 in
    let now = c.places.entries in
    let l : i < length places = omega arith in
    let m : place < length now = omega (arith, c.places-place-items.ensures.inside i 0 l, c.requires.whole, c.places.invariant.whole) in
    rw c.empty-entry-inside.ensures
    (subst (λ (x : HomeEntry). AreClearing c.args.entries.now (set now place (entry_without_sharers x)) (drop (i + 1) places)) (sym c.entry.view_is)
    (clearing-more c.args.entries.now now places i place c.at_mut-entry.result.now l (get_or_default places i 0 place l) m
    (c.at_mut-entry.ensures.value ∙ get_or_default now place c.at_mut-entry.result.now no_entry m) c.places.invariant))

-- what isn't listed was cleared before
pub returns : goal.returns
returns c =
    clearing-all c.args.entries.now c.places.entries c.places-place-items.result.now c.places.place-index
    (omega arith) c.places.invariant
