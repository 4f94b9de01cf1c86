-- What a block has at a cut: the content of its one holder.
use Rattle.std.proofs.Common.{◌≡◌, ℕ, ◌%◌, ◌<◌, ◌≤◌, true, false, List, length, get_or, refl, sym, ap, ◌∙◌, subst, arith, Option, Some}
use Rattle.std.proofs.Common.{None}
use Rattle.std.proofs.lemmas.Bool.Decides.{nat_tests}
use Rattle.std.specs.Prelude.{is_some}
use Rattle.sn_base.specs.declared.config.Config.{Config}
use Rattle.sn_base.specs.declared.log.Old.{Old}
use Rattle.sn_base.specs.declared.log.Old.TheVariants.{NotOwned, Owned, WasHome, WasCache}
use Rattle.log_buffer.specs.Log.{old_at}
use Rattle.home_directory.specs.Home.{HomeData, entry_of, owner_of}
use Rattle.sn_model.specs.declared.home.Kind.{Kind}
use Rattle.sn_model.specs.declared.home.Kind.TheVariants as kind
use Rattle.sn_model.specs.declared.home.Owner.TheVariants.{Home, Cache}
use Rattle.sn_model.specs.Caches.{block_count}
use Rattle.sn_model.specs.Cuts.{named_by, names_at, holds_at, transaction_before}
use Rattle.sn_model.specs.Fabric.{Fabric, home_of}
use Rattle.sn_model.specs.Homes.{Holder, Itself, OfCache, Transaction}
use Rattle.sn_model.specs.RecoveryPoint.{HasOneHolderWith}
use Rattle.sn_coherence.specs.Block as block
use Rattle.fabric_bounds.specs.Holders.{HasHolder}
use Rattle.fabric_bounds.specs.View.{kind_seen, kind_open, begun_of}
use Rattle.fabric_bounds.proofs.Holders.{coherent}
use Rattle.sn_fabric.specs.declared.node.NodeUnit.{NodeUnit}
use Rattle.sn_fabric.specs.Parts.{Parts, fabric_as, AreParts}
use Rattle.sn_fabric.specs.Units.{noted_content}
use Rattle.sn_fabric.proofs.Named.{names-are}

-- a home that names itself, and noted no content, has it

pub names-kept : (o : Option Old) (holder : Holder) → noted_content o ≡ None → owner_of (named_by o holder) ≡ Home →
    named_by o holder ≡ holder
names-kept None holder e h = refl
names-kept (Some NotOwned) holder e h = refl
names-kept (Some (Owned other)) holder e h = refl
names-kept (Some (WasHome other)) holder e h = cc
names-kept (Some (WasCache node)) holder e h = cc

pub kept-name : (config : Config) (p : Parts) (a : AreParts config p) (place block : ℕ) (home : HomeData) (e : place ≡ block % config.nodes)
    (eh : home ≡ get_or p.homes place home) (x : NodeUnit) (old : Option Old) (cut : ℕ) →
    block < block_count → x ≡ get_or p.units place x → old ≡ old_at x.log.entries true block cut → noted_content old ≡ None →
    owner_of (names_at (fabric_as p) block cut) ≡ Home →
    names_at (fabric_as p) block cut ≡ (entry_of home block).holder
kept-name config p a place block home e eh x old cut low ex eo none names =
    let n = names-are config p a place block home e eh x cut low ex in
    n ∙ names-kept (old_at x.log.entries true block cut) (entry_of home block).holder (ap noted_content (sym eo) ∙ none)
    (ap owner_of (sym n) ∙ names)

-- the holder of a block

pub holder-at : (config : Config) (p : Parts) (k b : ℕ) → AreParts config p → b < block_count → (fabric_as p).point ≤ k →
    transaction_before (home_of (fabric_as p) b).transaction k ≡ false → HasHolder (fabric_as p) b k
holder-at config p k b a low from settled = (coherent (fabric_as p) a.keeps.0 a.keeps.1 b low).holder k from settled

-- at the recovery point nothing is open that was begun before it

not_idle : (k : Kind) → kind_seen k ≡ block.Idle → ⊥
not_idle kind.Read e = absurd (cc)
not_idle kind.Take e = absurd (cc)
not_idle kind.Move e = absurd (cc)
not_idle kind.Upgrade e = absurd (cc)
not_idle kind.Put e = absurd (cc)

nothing_before : (t : Option Transaction) (point : ℕ) → ((kind_open t ≡ block.Idle → ⊥) → point ≤ begun_of t) →
    transaction_before t point ≡ false
nothing_before None point h = refl
nothing_before (Some t) point h = let l : point ≤ t.begun = h (not_idle t.kind) in grind (arith, nat_tests)

pub settled-at-point : (config : Config) (p : Parts) (b : ℕ) → AreParts config p → b < block_count →
    transaction_before (home_of (fabric_as p) b).transaction (fabric_as p).point ≡ false
settled-at-point config p b a low = nothing_before (home_of (fabric_as p) b).transaction p.point (a.keeps.1.blocks b low).clocks.begun_point

of_cache : (holder : Holder) (n : ℕ) → owner_of holder ≡ Cache n → holder ≡ OfCache n
of_cache (Itself content) n e = cc
of_cache (OfCache node) n e = let f : node ≡ n = cc in ap OfCache f

module _ (s : Fabric) (b k : ℕ) (has : HasHolder s b k) where
  pub held-home : (content : List ℕ) → names_at s b k ≡ Itself content → HasOneHolderWith s b k content (names_at s b k)
  held-home content e = subst (HasOneHolderWith s b k content) (sym e) (refl, (subst (HasOneHolderWith s b k has.0) e has.1).1)

  module _ (n : ℕ) (names : owner_of (names_at s b k) ≡ Cache n) where
    held : HasOneHolderWith s b k has.0 (OfCache n)
    held = subst (HasOneHolderWith s b k has.0) (of_cache (names_at s b k) n names) has.1

    pub holder-here : n < length s.nodes
    holder-here = held.0

    pub holder-holds : is_some (holds_at s n b k) ≡ true
    holder-holds = ap is_some held.1

    pub held-cache : (content : List ℕ) → holds_at s n b k ≡ Some content → HasOneHolderWith s b k content (names_at s b k)
    held-cache content e = subst (HasOneHolderWith s b k content) (sym (of_cache (names_at s b k) n names)) (held.0, e, held.2)
