use Rattle.std.proofs.Common.{◌≡◌, ℕ, ◌<◌, length, get_or}
use Rattle.trace_check.specs.declared.cores.Slot.{Slot}
use Rattle.trace_check.specs.CellPlaces.{IsWide, cell_at}
use Rattle.trace_check.specs.Tags.{accesses_before}
use Rattle.trace_check.specs.Slots.{HasEffects, own_before}
use Rattle.trace_check.proofs.BlockReplay.{IsPartReplayed}
use Rattle.trace_check.proofs.blocks.replay_tagged.Given as goal

-- how many of the records so far are each core's, how many of these are accesses, and the blocks of the part as the accesses
-- so far leave them
abbrev pub invariant-records : goal.invariant-records
invariant-records l = record {
  own_width : length l.own ≡ 16;
  own : (n : ℕ) → n < 16 → get_or l.own n 0 ≡ own_before l.records n l.place;
  next_width : length l.next ≡ 16;
  next : (n : ℕ) (d : Slot) → n < 16 → get_or l.next n 0 ≡ accesses_before (get_or l.slots n d).tagged (own_before l.records n l.place);
  wide : IsWide l.cells;
  replayed : (N : ℕ) → HasEffects l.image N l.part.count l.records l.count l.slots →
      IsPartReplayed l.image N l.part.count l.part.number l.records l.place (cell_at l.image l.cells);
}
