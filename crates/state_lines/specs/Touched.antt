-- The parts that an event may have touched, in the words of the code.
use Rattle.std.specs.Prelude.{ℕ, ◌<◌, List, [], ◌∷◌, option_to_list, ⊤}
use Rattle.state_parts.specs.Touched.{TouchedParts, OnlyThese, AllParts, numbers_below}
use Rattle.state_lines.specs.declared.touched.TouchedNodes.{TouchedNodes}
use Rattle.state_lines.specs.declared.touched.TouchedNodes.TheVariants.{NoNode, OneNode, EveryNode}
use Rattle.state_lines.specs.declared.touched.Touched.{Touched}
use Rattle.state_lines.specs.declared.touched.Touched.TheVariants.{Only, All}

-- nodes of so many
abbrev pub nodes_as : ℕ → TouchedNodes → List ℕ
nodes_as count NoNode = []
nodes_as count (OneNode n) = n ∷ []
nodes_as count EveryNode = numbers_below count

abbrev pub touched_as : ℕ → Touched → TouchedParts
touched_as count (Only parts) = OnlyThese (nodes_as count parts.nodes) (option_to_list parts.home) parts.net parts.controller
touched_as count All = AllParts

-- a node that is named is one of so many
abbrev pub AreThere : ℕ → TouchedNodes → Type 0
AreThere count (OneNode n) = n < count
AreThere count _ = ⊤

abbrev pub HasItsNodes : ℕ → Touched → Type 0
HasItsNodes count (Only parts) = AreThere count parts.nodes
HasItsNodes count All = ⊤
