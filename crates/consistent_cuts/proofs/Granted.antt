-- A step that is a retirement may retire: its line has what the records of its block say.
use Rattle.std.proofs.Common.{◌≡◌, ℕ, ◌<◌, Bool, true, false, length, Option, Some, None, refl}
use Rattle.sn_base.specs.Image.{ImageData}
use Rattle.sn_base.specs.declared.config.Config.{Config}
use Rattle.rv_core.specs.declared.step.Want.{Want}
use Rattle.rv_core.specs.declared.step.Want.TheVariants.{Nothing, Load, Store, Amo, Lr, Sc, Input}
use Rattle.rv_core.specs.Core.{block_of}
use Rattle.rv_core.specs.Step.{want_of}
use Rattle.sn_model.specs.declared.cache.LineState.{LineState}
use Rattle.sn_model.specs.declared.cache.LineState.TheVariants as line
use Rattle.sn_model.specs.declared.cache.Need.TheVariants as need
use Rattle.sn_model.specs.Access.{has_miss}
use Rattle.sn_model.specs.Caches.{Miss, block_count, is_present, is_writable_state, misses_on}
use Rattle.sn_model.specs.Fabric.{node_at, line_of_node}
use Rattle.sn_model.specs.Machine.{State, processor_at}
use Rattle.sn_model.specs.Instructions.{found_at}
use Rattle.sn_coherence.specs.Records.{Records}
use Rattle.consistent_cuts.specs.Accesses.{CanServe, CanServeWant, CanRetire, IsReadable, IsWritable, IsServed, MayRetire}
use Rattle.fabric_bounds.specs.Told.{Tells}

-- a line that may be written is there
pub writable_present : (state : LineState) → is_writable_state state ≡ true → is_present state ≡ true
writable_present line.Absent e = cc
writable_present line.Shared e = refl
writable_present line.Owned e = refl
writable_present line.Modified e = refl
writable_present line.Exclusive e = refl

none_on : (miss : Option Miss) (b : ℕ) → has_miss miss ≡ false → misses_on miss b ≡ false
none_on None b e = refl
none_on (Some miss) b e = cc

module _ (config : Config) (s : State) (r : ℕ → Records) (n : ℕ) (tells : (b : ℕ) → b < block_count → Tells s.fabric b (r b)) where
  present_read : (b : ℕ) → b < block_count → n < length s.fabric.nodes → is_present (line_of_node s.fabric n b).state ≡ true →
      IsReadable s.fabric r n b
  present_read b low l there = record {
    below = low;
    present = there;
    content = (tells b low).copies n l there;
    newest = ((tells b low).read n l there).1;
  }

  served_read : (b : ℕ) → CanServe config s.fabric n b need.Read → IsReadable s.fabric r n b
  served_read b can = present_read b can.line.block can.line.node can.serving

  served_write : (b : ℕ) → CanServe config s.fabric n b need.Write → IsWritable s.fabric r n b
  served_write b can = record {
    read = present_read b can.line.block can.line.node (writable_present (line_of_node s.fabric n b).state can.serving);
    writable = can.serving;
    alone = (tells b can.line.block).write n can.line can.serving;
    unreserved =
        λ m l other. (tells b can.line.block).alone n m can.line.node can.serving
        (none_on (node_at s.fabric n).cache.miss b can.line.no_miss) other;
  }

  served_want : (w : Want) (done : Bool) → CanServeWant w done config s n → IsServed w done s r n
  served_want Nothing done can = tt
  served_want (Load a) done can = served_read (block_of a) can
  served_want (Store a) done can = served_write (block_of a) can
  served_want (Amo a) done can = served_write (block_of a) can
  served_want (Lr a) done can = served_read (block_of a) can
  served_want (Sc a) true can = served_write (block_of a) can
  served_want (Sc a) false can = tt
  served_want Input done can = can

  pub may_retire : (image : ImageData) → CanRetire image config s n → MayRetire image s r n
  may_retire image can =
      record {
        node = can.node;
        running = can.running;
        served = served_want (want_of image (processor_at s n).core) (found_at image s n).sc_done can.served;
      }
