use Rattle.std.proofs.Common.{◌≡◌, ℕ, ◌<◌, true, is_ok, get_or, length}
use Rattle.projection_places.specs.Passes.{Passes}
use Rattle.trace_check.specs.declared.cores.Slot.{Slot}
use Rattle.trace_check.specs.Slots.{CoresBelow}
use Rattle.trace_check.proofs.cores.count_passed.Given as goal

-- the least so far, of slots that are done
abbrev pub invariant-slots : goal.invariant-slots
invariant-slots l = record {
  least : Passes (CoresBelow l.image l.nodes l.records l.place) (length l.records) l.least;
  done : (n : ℕ) (d : Slot) → n < l.place → is_ok (get_or l.slots n d).passed ≡ true;
}
