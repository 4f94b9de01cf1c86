-- What holds of a retirement, of an access of the fabric and of the three refusals of a step holds of a step.
use Rattle.std.proofs.Common.{ℕ, Bool, true, false, not, if◌then◌else◌, Option, Some, None}
use Rattle.sn_base.specs.Image.{ImageData}
use Rattle.sn_base.specs.declared.config.Config.{Config}
use Rattle.sn_base.specs.declared.event.Answer.TheVariants.{Waits, Ended, NoInput}
use Rattle.rv_core.specs.declared.step.Want.{Want}
use Rattle.rv_core.specs.declared.step.Want.TheVariants.{Nothing, Load, Store, Amo, Lr, Sc, Input}
use Rattle.rv_core.specs.Core.{block_of, is_reserved, is_running}
use Rattle.rv_core.specs.Step.{want_of}
use Rattle.sn_model.specs.declared.cache.Need.{Need}
use Rattle.sn_model.specs.declared.cache.Need.TheVariants.{Read, Write as ToWrite}
use Rattle.sn_model.specs.Access.{has_miss, step_of_access}
use Rattle.sn_model.specs.Fabric.{node_at}
use Rattle.sn_model.specs.Machine.{State, processor_at}
use Rattle.sn_model.specs.Instructions.{MachineStep, machine_step_refused, machine_step_of, step_of_retirement, is_retired, accessing, takes_input, next_byte}
use Rattle.sn_model.specs.Instructions.{step_wanting, step_of_instruction}

module _ (image : ImageData) (config : Config) (s : State) (n : ℕ) (P : MachineStep → Type 0) (done : P (step_of_retirement image s n))
    (carries : (block : ℕ) (need : Need) → P (machine_step_of s (step_of_access config s.fabric n block need)))
    (ended : P (machine_step_refused s Ended)) (waits : P (machine_step_refused s Waits)) (no_input : P (machine_step_refused s NoInput)) where
  either : (test : Bool) (a b : MachineStep) → P a → P b → P (if test then a else b)
  either true a b first second = first
  either false a b first second = second

  access : (address : ℕ) (need : Need) → P (accessing image config s n address need)
  access address need =
      either (is_retired (step_of_access config s.fabric n (block_of address) need).answer) (step_of_retirement image s n)
      (machine_step_of s (step_of_access config s.fabric n (block_of address) need)) done (carries (block_of address) need)

  input : (byte : Option ℕ) → P (takes_input image s n byte)
  input None = no_input
  input (Some byte) = done

  wanting : (w : Want) → P (step_wanting image config s n w)
  wanting Nothing = done
  wanting Input = input (next_byte s n)
  wanting (Load address) = access address Read
  wanting (Lr address) = access address Read
  wanting (Store address) = access address ToWrite
  wanting (Amo address) = access address ToWrite
  wanting (Sc address) =
      either (is_reserved (processor_at s n).core.reservation (block_of address)) (accessing image config s n address ToWrite)
      (step_of_retirement image s n) (access address ToWrite) done

  pub each_step : P (step_of_instruction image config s n)
  each_step =
      either (not (is_running (processor_at s n).core.end)) (machine_step_refused s Ended) _ ended
      (either (has_miss (node_at s.fabric n).cache.miss) (machine_step_refused s Waits) _ waits (wanting (want_of image (processor_at s n).core)))
