-- What the lists of all nodes have in common.
use Rattle.std.specs.Prelude.{◌≡◌, ℕ, Bool, false, nat_eq, nat_lt, List, get_or}
use Rattle.std.specs.List.{All}
use Rattle.route_plan.specs.Grid.{node_of}
use Rattle.sn_model.specs.Fabric.{Fabric, Flight, node_at}
use Rattle.due_events.specs.Lists.{is_behind}
use Rattle.sn_driver.specs.declared.overview.Overview.{Overview}

-- whether a message stands in a switch of node n
abbrev pub stands_at : ℕ → Flight → Bool
stands_at n f = nat_eq (node_of f.place) n

-- none of the messages stands at a node without a mark
abbrev pub AreMarked : List Bool → List Flight → Type 0
AreMarked marks flights = (n : ℕ) → get_or marks n false ≡ false → All (λ f. stands_at n f ≡ false) flights

-- a node is behind where its interval is below this one
abbrev pub IsLatest : Fabric → ℕ → Type 0
IsLatest s latest = (n : ℕ) → is_behind s n ≡ nat_lt (node_at s n).now latest

pub record IsOverview (s : Fabric) (overview : Overview) : Type 0 where
  pub marked : AreMarked overview.occupied s.net.flights
  pub latest : IsLatest s overview.latest
