-- A driver as a value.
use Rattle.std.specs.Prelude.{◌≡◌, ℕ, ◌≤◌, length}
use Rattle.std.specs.List.{All}
use Rattle.sn_base.specs.declared.rules.Rules.{Rules}
use Rattle.due_events.specs.Numbers.{Numbers}

-- its rules, the number of nodes of the machines that it drives, and what it has counted
pub record DriverData : Type 0 where
  pub rules : Rules
  pub nodes : ℕ
  pub numbers : Numbers

-- numbers of 16 nodes, none above the events so far, of which there are 4,000,000,000 at most
pub record AreNumbers (x : Numbers) : Type 0 where
  pub life : x.done ≤ 4000000000
  pub since : x.since ≤ x.done
  pub moves : x.moves ≤ x.done
  pub retired : All (λ count. count ≤ x.done) x.retired
  pub nodes : length x.retired ≡ 16
  pub tellers : length x.told ≡ 16
