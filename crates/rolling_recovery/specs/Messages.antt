-- Control messages in flight.
use Rattle.std.specs.Prelude.{ℕ, ◌+◌, Bool, not, nat_eq, nat_le, List, [], ◌∷◌, ◌++◌, length, Option, option_map}
use Rattle.std.specs.List.{filter, find}
use Rattle.rolling_recovery.specs.declared.messages.ControlMessage.{ControlMessage}
use Rattle.rolling_recovery.specs.declared.messages.Flight.{Flight}

-- those in flight, in order of their numbers, and the next number
pub record MessagesData : Type 0 where
  pub flights : List Flight
  pub next : ℕ

-- the message of a number, and the others
abbrev pub message_in : List Flight → ℕ → Option ControlMessage
message_in flights id = option_map (λ f. f.message) (find (λ f. nat_eq f.id id) flights)

abbrev pub without : List Flight → ℕ → List Flight
without flights id = filter (λ f. not (nat_eq f.id id)) flights

-- after a message is sent, under the next number
abbrev pub messages_with : MessagesData → ControlMessage → MessagesData
messages_with m message = record { flights = m.flights ++ record { id = m.next; message = message } ∷ []; next = m.next + 1 }

-- no more may be in flight
abbrev pub is_full : MessagesData → Bool
is_full m = nat_le 64 (length m.flights)
