-- How long a byte that was put out is held before it is released.
use Rattle.std.specs.Prelude.{ℕ, ◌-◌, List, [], ◌∷◌, ◌++◌, map, filter, slice_index}
use Rattle.sn_base.specs.declared.event.Event.{Event}
use Rattle.sn_base.specs.declared.event.Event.TheVariants.{Step}
use Rattle.sn_base.specs.declared.event.Answer.{Answer}
use Rattle.sn_base.specs.declared.event.Answer.TheVariants.{Retired, Validated, Recovered}
use Rattle.sn_model.specs.Machine.{HeldByte}
use Rattle.run_statistics.specs.declared.puts.Put.{Put}
use Rattle.run_statistics.specs.declared.bytes.ByteStatistics.{ByteStatistics}
use Rattle.run_statistics.specs.Numbers.{with_greater, no_numbers}
use Rattle.run_statistics.specs.Puts.{puts_by_node, is_before, is_from}
use Rattle.run_statistics.specs.Spreads.{no_spread, spread_with_all}

abbrev pub no_bytes : ByteStatistics
no_bytes = record { held = []; most_held = no_numbers; waits = no_spread }

-- the bytes that a node put out at an event
abbrev pub puts_at : ℕ → ℕ → List HeldByte → List Put
puts_at number n bytes = map (λ (b : HeldByte). record { node = n; interval = b.interval; event = number }) bytes

-- with these held, which a node has put out last
abbrev pub with_held : ByteStatistics → ℕ → List Put → ByteStatistics
with_held x n held = record x {
  held = held;
  most_held = with_greater x.most_held n (slice_index (puts_by_node held) n);
}

abbrev pub with_output : ByteStatistics → ℕ → List HeldByte → Event → ByteStatistics
with_output x number [] event = x
with_output x number (byte ∷ bytes) (Step n) = with_held x n (x.held ++ puts_at number n (byte ∷ bytes))
with_output x number (byte ∷ bytes) _ = x

-- those that are held when checkpoint k is validated: those of an interval before it are released, and the others stay
abbrev pub released_from : ℕ → List Put → List Put
released_from k held = filter (is_before k) held

abbrev pub kept_from : ℕ → List Put → List Put
kept_from k held = filter (is_from k) held

-- for how many events they were held
abbrev pub waits_of : ℕ → List Put → List ℕ
waits_of number puts = map (λ (p : Put). number - p.event) puts

abbrev pub with_release : ByteStatistics → ℕ → ℕ → ByteStatistics
with_release x number k = record x {
  held = kept_from k x.held;
  waits = spread_with_all x.waits (waits_of number (released_from k x.held));
}

-- after the event of this number, by which these bytes came to be held
abbrev pub bytes_with : ByteStatistics → ℕ → Event → Answer → List HeldByte → ByteStatistics
bytes_with x number event Retired bytes = with_output x number bytes event
bytes_with x number event (Validated k) bytes = with_release x number k
bytes_with x number event (Recovered undo) bytes = record x { held = [] }
bytes_with x number event _ bytes = x
