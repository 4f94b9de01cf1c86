-- A home that is put back to a checkpoint: what it holds of its blocks, and what an unwinding leaves as it is.
use Rattle.std.specs.Prelude.{◌≡◌, ℕ, ◌%◌, Bool, true, false, nat_eq, if◌then◌else◌, List, length, map, slice_index_or, Option, None, refl}
use Rattle.std.proofs.Common.{◌∙◌, inl, inr}
use Rattle.sn_base.specs.declared.log.Old.{Old}
use Rattle.sn_base.specs.declared.log.Old.TheVariants.{NotOwned, WasHome, WasCache}
use Rattle.rollback.specs.Unwound.{IsPart, IsBetween}
use Rattle.sn_model.specs.Homes.{HomeEntry, Holder, Transaction, Itself, OfCache, no_sharers}
use Rattle.sn_model.specs.Fabric.{no_entry}
use Rattle.home_directory.specs.Home.{HomeData, entry_of, with_entry}

-- an entry that nobody shares and on which nothing is open
abbrev pub entry_without_sharers : HomeEntry → HomeEntry
entry_without_sharers entry = record { holder = entry.holder; sharers = no_sharers; transaction = None }

-- a home whose entries are all so
abbrev pub begun_restore : HomeData → HomeData
begun_restore home = record home { entries = map entry_without_sharers home.entries }

-- who holds a block, as an old content of a log says it
abbrev pub old_of : Holder → Old
old_of (Itself content) = WasHome content
old_of (OfCache node) = WasCache node

-- whether the home of a block is this one
abbrev pub is_here : HomeData → ℕ → Bool
is_here home block = nat_eq (block % home.nodes) home.node

-- what the home has of a block: who holds it, and nothing of a block of another home
abbrev pub had : HomeData → ℕ → Old
had home block = if is_here home block then old_of (entry_of home block).holder else NotOwned

-- what a home can have: nothing of blocks of other homes
abbrev pub CanHave : HomeData → (ℕ → Old) → Type 0
CanHave home old = (block : ℕ) → is_here home block ≡ false → old block ≡ NotOwned

-- the entry of a block with another holder
abbrev pub with_holder : HomeData → ℕ → Holder → HomeData
with_holder home block holder = with_entry home block (record (entry_of home block) { holder = holder })

-- the sharers, and what is open, at a place
abbrev pub sharers_at : HomeData → ℕ → List Bool
sharers_at home place = (slice_index_or home.entries place no_entry).sharers

abbrev pub open_at_place : HomeData → ℕ → Option Transaction
open_at_place home place = (slice_index_or home.entries place no_entry).transaction

-- only holders have changed
pub record Stays (before after : HomeData) : Type 0 where
  pub node : after.node ≡ before.node
  pub nodes : after.nodes ≡ before.nodes
  pub count : length after.entries ≡ length before.entries
  pub sharers : (place : ℕ) → sharers_at after place ≡ sharers_at before place
  pub transactions : (place : ℕ) → open_at_place after place ≡ open_at_place before place

-- so it is where nothing has changed, and from one change to the next

pub stays-same : (home : HomeData) → Stays home home
stays-same home = record {
  node = refl;
  nodes = refl;
  count = refl;
  sharers = λ place. refl;
  transactions = λ place. refl;
}

pub stays-along : (first second third : HomeData) → Stays first second → Stays second third → Stays first third
stays-along first second third h k = record {
  node = k.node ∙ h.node;
  nodes = k.nodes ∙ h.nodes;
  count = k.count ∙ h.count;
  sharers = λ place. k.sharers place ∙ h.sharers place;
  transactions = λ place. k.transactions place ∙ h.transactions place;
}

-- a part of what a home can have, and what is between two such, it can have

pub can-part : (home : HomeData) (part whole : ℕ → Old) → CanHave home whole → IsPart part whole → CanHave home part
can-part home part whole can is block other = elim (is block) [ inl e ↦ e ∙ can block other | inr e ↦ e ]

pub can-way : (home : HomeData) (before after between : ℕ → Old) →
    CanHave home before → CanHave home after → IsBetween true before after between → CanHave home between
can-way home before after between first last is block other =
    elim (is block) [ inl e ↦ e ∙ last block other | inr e ↦ e ∙ first block other ]
