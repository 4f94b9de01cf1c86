-- What an instruction does in memory, and how it is kept.
use Rattle.std.specs.Prelude.{ℕ, Option, Some, None}
use Rattle.sn_base.specs.declared.block.Width.{Width}
use Rattle.sn_base.specs.declared.block.Write.{Write}
use Rattle.rv_core.specs.declared.step.Want.{Want}
use Rattle.rv_core.specs.declared.step.Want.TheVariants as wants
use Rattle.trace_check.specs.declared.kind.Kind.{Kind}
use Rattle.trace_check.specs.declared.kind.Kind.TheVariants.{Nothing, Load, Store, Amo, Lr, Sc, Input}

-- what it wants of memory, and what it writes there
pub record EffectData : Type 0 where
  pub want : Want
  pub write : Option Write

-- kept apart

abbrev pub want_by : Kind → ℕ → Want
want_by Nothing address = wants.Nothing
want_by Load address = wants.Load address
want_by Store address = wants.Store address
want_by Amo address = wants.Amo address
want_by Lr address = wants.Lr address
want_by Sc address = wants.Sc address
want_by Input address = wants.Input

abbrev pub write_by : Option Width → ℕ → ℕ → Option Write
write_by None address value = None
write_by (Some width) address value = Some (record { address = address; width = width; value = value })
