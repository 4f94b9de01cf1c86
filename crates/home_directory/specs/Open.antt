-- The list of the open transactions beside the entries: the place of each in order, with the interval in which it was begun.
use Rattle.std.specs.Prelude.{ℕ, ◌+◌, not, nat_eq, nat_lt, List, [], ◌∷◌, count_by, filter, Option, Some, None}
use Rattle.std.specs.List.{insert}
use Rattle.sn_model.specs.Homes.{HomeEntry, Transaction}
use Rattle.home_directory.specs.Home.{lesser_of}
pub use Rattle.home_directory.specs.declared.open.Open.{Open}

abbrev pub open_at : ℕ → ℕ → Open
open_at place begun = record { place = place; begun = begun }

abbrev pub with_open : ℕ → Option Transaction → List Open → List Open
with_open place None rest = rest
with_open place (Some transaction) rest = open_at place transaction.begun ∷ rest

-- the open transactions of entries, the first of which stands at this place
abbrev pub opens_from : ℕ → List HomeEntry → List Open
opens_from place [] = []
opens_from place (entry ∷ entries) = with_open place entry.transaction (opens_from (place + 1) entries)

abbrev pub without_place : ℕ → List Open → List Open
without_place place opens = filter (λ o. not (nat_eq o.place place)) opens

-- a transaction is put where its place is in order
abbrev pub put_in : ℕ → ℕ → List Open → List Open
put_in place begun opens = insert opens (count_by (λ o. nat_lt o.place place) opens) (open_at place begun)

-- the list after what a place has open is this
abbrev pub opens_after : ℕ → Option ℕ → List Open → List Open
opens_after place None opens = without_place place opens
opens_after place (Some begun) opens = put_in place begun (without_place place opens)

-- the least interval in a list
abbrev pub least_in : List Open → Option ℕ
least_in [] = None
least_in (o ∷ os) = lesser_of (Some o.begun) (least_in os)
