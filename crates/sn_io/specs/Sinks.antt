-- A sink in memory.
use Rattle.std.specs.Prelude.{ℕ, ◌+◌, Bool, true, false, not, ◌&&◌, nat_le, List, [], ◌∷◌, ◌++◌, length, if◌then◌else◌}
use Rattle.sn_io.specs.Outside.{count_plus_one}
use Rattle.sn_io.specs.Calls.{CallsData, next_call, is_next_named}

pub record SinkData : Type 0 where
  pub bytes : List ℕ
  pub room : ℕ
  pub calls : CallsData
  pub faults : ℕ

-- whether the next piece is taken: it fits the room, and its call isn't named to fail
abbrev pub takes : SinkData → List ℕ → Bool
takes s piece = nat_le (length s.bytes + length piece) s.room && not (is_next_named s.calls)

-- a piece with bytes: the call is counted, and the piece is there whole, or the failure is counted
abbrev pub counted_put : SinkData → List ℕ → SinkData × Bool
counted_put s piece = if takes s piece
    then (record s { bytes = s.bytes ++ piece; calls = next_call s.calls }, true)
    else (record s { faults = count_plus_one s.faults; calls = next_call s.calls }, false)

-- what a put leaves, and whether the piece was taken; an empty piece changes nothing
abbrev pub after_put : SinkData → List ℕ → SinkData × Bool
after_put s [] = (s, true)
after_put s (byte ∷ piece) = counted_put s (byte ∷ piece)
