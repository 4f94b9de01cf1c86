-- A grid as the code keeps it.
use Rattle.std.specs.Prelude.{◌≡◌, ℕ, ◌*◌, ◌≤◌}
use Rattle.route_plan.specs.Grid.{row_count, column_count}

-- 1 to 16 nodes, in as many rows and columns
pub record IsGrid (nodes rows columns : ℕ) : Type 0 where
  pub few : nodes ≤ 16
  pub in_rows : rows ≡ row_count nodes
  pub in_columns : columns ≡ column_count nodes
  pub some_rows : 1 ≤ rows
  pub some_columns : 1 ≤ columns
  pub filled : rows * columns ≡ nodes
