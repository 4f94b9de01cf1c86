-- Reservations that a write clears.
use Rattle.std.specs.Prelude.{ℕ, if◌then◌else◌}
use Rattle.rv_core.specs.declared.state.CoreState.{CoreState}
use Rattle.rv_core.specs.Core.{bare, is_reserved}

-- a core without a reservation of this block
abbrev pub without : ℕ → CoreState → CoreState
without block core = if is_reserved core.reservation block then bare core else core
