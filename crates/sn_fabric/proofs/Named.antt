-- Whom a block's home names at a cut, by what was looked at.
use Rattle.std.proofs.Common.{◌≡◌, ℕ, ◌%◌, ◌<◌, true, length, get_or, refl, sym, ap, ◌∙◌, subst}
use Rattle.std.specs.Prelude.{Option, Some, None}
use Rattle.std.proofs.Math.Nat.{mod-lt}
use Rattle.std.proofs.lemmas.List.{get_or_read}
use Rattle.sn_base.specs.declared.config.Config.{Config}
use Rattle.sn_base.specs.declared.log.Old.{Old}
use Rattle.sn_base.specs.declared.log.Old.TheVariants.{NotOwned, Owned, WasHome, WasCache}
use Rattle.log_buffer.specs.Log.{old_at}
use Rattle.home_directory.specs.Home.{HomeData, owner_of, entry_of}
use Rattle.sn_model.specs.declared.home.Owner.{Owner}
use Rattle.sn_model.specs.Caches.{block_count}
use Rattle.sn_model.specs.Cuts.{named_by, names_at}
use Rattle.sn_model.specs.Homes.{HomeEntry, Holder}
use Rattle.sn_model.specs.Fabric.{Node, node_at, home_of}
use Rattle.sn_fabric.specs.declared.node.NodeUnit.{NodeUnit}
use Rattle.sn_fabric.specs.Parts.{Parts, fabric_as, node_as, unit_at, no_unit, home_at, no_home, AreParts}
use Rattle.sn_fabric.specs.Units.{owner_by}
use Rattle.sn_fabric.proofs.FirstParts.{few-nodes}
use Rattle.sn_fabric.proofs.Parts.{node-at, count-nodes}
use Rattle.sn_fabric.proofs.Entries.{entry-as}

owner-named : (o : Option Old) (holder : Holder) → owner_of (named_by o holder) ≡ owner_by o (owner_of holder)
owner-named None holder = refl
owner-named (Some NotOwned) holder = refl
owner-named (Some (Owned content)) holder = refl
owner-named (Some (WasHome content)) holder = refl
owner-named (Some (WasCache node)) holder = refl

module _ (config : Config) (p : Parts) (k : AreParts config p) (place block : ℕ) (home : HomeData) (e : place ≡ block % config.nodes) (eh : home ≡ get_or p.homes place home) where
  few : block % config.nodes < config.nodes
  few = mod-lt block (few-nodes config k.whole.fits).some

  home-read : home ≡ home_at p.homes (block % config.nodes)
  home-read =
      get_or_read p.homes (block % config.nodes) home (rw k.whole.count_homes few)
      (subst (λ (j : ℕ). home ≡ get_or p.homes j home) e eh) no_home

  -- the block is one of the home's
  pub block-here : block % home.nodes ≡ home.node
  block-here =
      let i = k.whole.homes (block % config.nodes) few in
      ap (λ (y : HomeData). block % y.nodes) home-read ∙ ap (λ (j : ℕ). block % j) i.nodes
      ∙ sym (ap (λ (y : HomeData). y.node) home-read ∙ i.node)

  -- the home has the block's entry
  pub entry-is : block < block_count → home_of (fabric_as p) block ≡ entry_of home block
  entry-is b =
      entry-as p.homes block b ∙ ap (λ (j : ℕ). entry_of (home_at p.homes (block % j)) block) k.whole.count_homes
      ∙ ap (λ (y : HomeData). entry_of y block) (sym home-read)

  -- whom it names, by its log and its entry
  pub names-are : (x : NodeUnit) (cut : ℕ) → block < block_count → x ≡ get_or p.units place x →
      names_at (fabric_as p) block cut ≡ named_by (old_at x.log.entries true block cut) (entry_of home block).holder
  names-are x cut b ex =
      let r : x ≡ unit_at p.units (block % config.nodes) = get_or_read p.units (block % config.nodes) x (rw k.whole.count few)
      (subst (λ (j : ℕ). x ≡ get_or p.units j x) e ex) no_unit in
      let g : length (fabric_as p).nodes ≡ config.nodes = count-nodes p ∙ k.whole.count in
      sym (
      ap (λ (o : Option Old). named_by o (entry_of home block).holder)
      (ap (λ (y : Node). old_at y.log true block cut)
      (ap node_as r ∙ sym (node-at p (block % config.nodes) (rw k.whole.count few))
      ∙ ap (λ (j : ℕ). node_at (fabric_as p) (block % j)) (sym g)))
      ∙ ap (λ (y : HomeEntry). named_by (old_at (node_at (fabric_as p) (block % length (fabric_as p).nodes)).log true block cut) y.holder)
      (sym (entry-is b))
      )

  pub named-is : (x : NodeUnit) (old : Option Old) (owner said : Owner) (cut : ℕ) → block < block_count → x ≡ get_or p.units place x →
      old ≡ old_at x.log.entries true block cut → owner ≡ owner_of (entry_of home block).holder →
      said ≡ owner_by old owner → said ≡ owner_of (names_at (fabric_as p) block cut)
  named-is x old owner said cut b ex eo ew es =
      es
      ∙ ap (λ (o : Option Old). owner_by o owner) eo
      ∙ ap (owner_by (old_at x.log.entries true block cut)) ew
      ∙ sym (owner-named (old_at x.log.entries true block cut) (entry_of home block).holder)
      ∙ ap owner_of (sym (names-are x cut b ex))
