-- What the rows of a trace say: of each record its core, where that core stands, its instruction, and what it does in memory.
use Rattle.std.specs.Prelude.{ℕ, List, [], ◌∷◌, ◌++◌, Option, option_to_list}
use Rattle.sn_base.specs.Image.{ImageData, word_fetched}
use Rattle.rv_core.specs.declared.state.CoreState.{CoreState}
use Rattle.rv_core.specs.declared.step.Record.{Record}
use Rattle.rv_core.specs.Flat.{flat_start, core_at}
use Rattle.sn_consistency.specs.Projections.{core_step}
use Rattle.access_check.specs.declared.access.Access.{Access}
use Rattle.access_check.specs.Executions.{access_of}

pub record AccessRow : Type 0 where
  pub core : ℕ
  pub pc : ℕ
  -- the word at that address, where it may be executed
  pub word : Option ℕ
  pub access : Option Access

-- the row of a record that this core does
abbrev pub access_row : ImageData → CoreState → Record → AccessRow
access_row image c r = record { core = r.core; pc = c.pc; word = word_fetched image.segments c.pc; access = access_of image c r }

-- the rows of records, in their order, from these cores on
abbrev pub access_rows_from : ImageData → (ℕ → CoreState) → List Record → List AccessRow
access_rows_from image c [] = []
access_rows_from image c (r ∷ rs) = access_row image (c r.core) r ∷ access_rows_from image (λ n. core_step image n (c n) r) rs

-- the rows of a trace of a program on so many nodes
abbrev pub access_rows_of : ImageData → ℕ → List Record → List AccessRow
access_rows_of image nodes rs = access_rows_from image (core_at (flat_start image nodes)) rs

-- the accesses that stand in rows
abbrev pub accesses_in : List AccessRow → List Access
accesses_in [] = []
accesses_in (row ∷ rows) = option_to_list row.access ++ accesses_in rows
