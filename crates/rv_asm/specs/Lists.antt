-- The code's lists of items and its map of labels as the definitions' listing.
use Rattle.std.specs.Prelude.{ℕ, List, map, Option}
use Rattle.std.specs.Borrow.{Bor}
use Rattle.std.specs.Ordering.{nat_cmp}
use Rattle.std.specs.Cmp.Lexicographic.{slice_cmp}
use Rattle.std.specs.BTreeMap.{BTreeMap, get_by}
use Rattle.rv_asm.specs.declared.assembling.Item as code
use Rattle.rv_asm.specs.declared.assembling.Item.TheVariants.{Known, Led}
use Rattle.rv_asm.specs.Assembly.{Item, known, led, Listing}

abbrev pub item_seen : code.Item → Item
item_seen (Known word) = known word
item_seen (Led instr name line) = led instr name.now line

-- the place of a label
abbrev pub place_in : BTreeMap (Bor (List ℕ)) ℕ → List ℕ → Option ℕ
place_in labels name = get_by (λ key. slice_cmp nat_cmp name key.now) labels

abbrev pub listing_of : List code.Item → BTreeMap (Bor (List ℕ)) ℕ → Listing
listing_of items labels = record { items = map item_seen items; places = place_in labels }
