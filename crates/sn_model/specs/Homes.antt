-- A home's entry of one block as a value.
use Rattle.std.specs.Prelude.{ℕ, Bool, false, List, replicate, nat_eq, Option}
use Rattle.sn_model.specs.declared.home.Kind.{Kind}

-- who owns the block: its home, with this content, or a node's cache
pub data Holder : Type 0 where
  Itself : (content : List ℕ) → Holder
  OfCache : (node : ℕ) → Holder

-- the open transaction: its kind, the node that asked for it, and the interval in which the home began it
pub record Transaction : Type 0 where
  pub kind : Kind
  pub requester : ℕ
  pub begun : ℕ

pub record HomeEntry : Type 0 where
  pub holder : Holder
  pub sharers : List Bool
  pub transaction : Option Transaction

abbrev pub no_sharers : List Bool
no_sharers = replicate 16 false

-- whether a node's cache owns the block
abbrev pub is_owner : Holder → ℕ → Bool
is_owner (Itself content) node = false
is_owner (OfCache owner) node = nat_eq owner node
