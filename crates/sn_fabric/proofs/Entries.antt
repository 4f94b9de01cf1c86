-- The homes' entries as the fabric has them, block by block, and the least interval in which one of a node's was begun.
use Rattle.std.proofs.Common.{◌≡◌, ℕ, ◌/◌, ◌%◌, ◌<◌, ◌≤◌, List, length, get_or, refl, ap, ◌∙◌, subst, arith}
use Rattle.std.specs.Prelude.{Option, Some, None}
use Rattle.std.proofs.lemmas.List.FromFn.{get_or-map-range_with_len, length-map-range_with_len}
use Rattle.sn_base.specs.declared.config.Config.{Config}
use Rattle.home_directory.specs.Home.{HomeData, places_of, lesser_of, least_open}
use Rattle.home_directory.proofs.LeastBegun.{least-begun}
use Rattle.mosi_cache.specs.Machine.{at_most}
use Rattle.mosi_cache.specs.Probe.{least_open_of}
use Rattle.sn_model.specs.Caches.{Miss, Put, block_count}
use Rattle.sn_model.specs.Homes.{HomeEntry}
use Rattle.sn_model.specs.Fabric.{Node, no_entry}
use Rattle.sn_model.specs.NodeEvents.{least_begun, issued_by, put_issued_by, ready_of}
use Rattle.sn_fabric.specs.Parts.{Parts, fabric_as, unit_at, home_at, homes_as, entry_at, AreWhole}
use Rattle.sn_fabric.proofs.Parts.{node-at, count-nodes}
use Rattle.sn_fabric.proofs.FirstParts.{few-nodes}

-- the entry of a block
pub entry-as : (homes : List HomeData) (b : ℕ) → b < block_count → get_or (homes_as homes) b no_entry ≡ entry_at homes b
unfolding homes_as
entry-as homes b h = get_or-map-range_with_len (entry_at homes) 0 block_count b b no_entry h (omega arith)

-- there is one for each block
pub length-homes : (homes : List HomeData) → length (homes_as homes) ≡ block_count
unfolding homes_as
length-homes homes = length-map-range_with_len (entry_at homes) 0 block_count

-- the lesser of now and of what there may be is the machine's number
at_most_is : (x now : ℕ) (o : Option ℕ) → Some x ≡ lesser_of (Some now) o → x ≡ at_most now o
at_most_is x now None e = cc
at_most_is x now (Some i) e = cc

-- the least begun of a node's blocks is that of its home's entries
module _ (homes : List HomeData) (nodes n now : ℕ) (l : n < nodes) (few : nodes ≤ 16) (count : length homes ≡ nodes) (is : (home_at homes n).nodes ≡ nodes) (filled : length (home_at homes n).entries ≡ places_of n nodes) where
  abbrev entries : List HomeEntry
  entries = (home_at homes n).entries

  entry_here : (b : ℕ) → b % nodes ≡ n → entry_at homes b ≡ get_or entries (b / nodes) no_entry
  entry_here b e =
      ap (λ (k : ℕ). get_or (home_at homes (b % k)).entries (b / (home_at homes (b % k)).nodes) no_entry) count
      ∙ ap (λ (k : ℕ). get_or (home_at homes k).entries (b / (home_at homes k).nodes) no_entry) e
      ∙ ap (λ (k : ℕ). get_or entries (b / k) no_entry) is

  least-of-node : least_begun now nodes n 0 (homes_as homes) ≡ at_most now (least_open entries)
  least-of-node =
      at_most_is (least_begun now nodes n 0 (homes_as homes)) now (least_open entries)
      (least-begun (homes_as homes) entries nodes n now l few (length-homes homes) filled (λ b h e. entry-as homes b h ∙ entry_here b e))

issued_least : (now : ℕ) (miss : Option Miss) (put : Option Put) →
    put_issued_by (issued_by now miss) put ≡ at_most now (least_open_of miss put)
issued_least now None None = refl
issued_least now (Some miss) None = refl
issued_least now None (Some put) = refl
issued_least now (Some miss) (Some put) = omega arith

-- what a node has completed
pub ready-is : (config : Config) (p : Parts) (n : ℕ) → AreWhole config p → n < length p.units →
    ready_of (fabric_as p) n
    ≡ at_most (at_most (unit_at p.units n).clock.interval (least_open (home_at p.homes n).entries))
    (least_open_of (unit_at p.units n).cache.cache.miss (unit_at p.units n).cache.cache.put)
unfolding ready_of
ready-is config p n w l =
    let h : n < config.nodes = subst (λ (k : ℕ). n < k) w.count l in
    let i = w.homes n h in
    ap (λ (y : Node). put_issued_by
    (issued_by (least_begun y.now (length (fabric_as p).nodes) n 0 (homes_as p.homes)) y.cache.miss) y.cache.put) (node-at p n l)
    ∙ issued_least (least_begun (unit_at p.units n).clock.interval (length (fabric_as p).nodes) n 0 (homes_as p.homes))
    (unit_at p.units n).cache.cache.miss (unit_at p.units n).cache.cache.put
    ∙ ap (λ (j : ℕ). at_most j (least_open_of (unit_at p.units n).cache.cache.miss (unit_at p.units n).cache.cache.put))
    (ap (λ (k : ℕ). least_begun (unit_at p.units n).clock.interval k n 0 (homes_as p.homes)) (count-nodes p ∙ w.count)
    ∙ least-of-node p.homes config.nodes n (unit_at p.units n).clock.interval h (few-nodes config w.fits).few w.count_homes i.nodes
    (i.whole.filled ∙ ap (λ (k : ℕ). places_of k (home_at p.homes n).nodes) i.node ∙ ap (λ (k : ℕ). places_of n k) i.nodes))
