-- Scripts: one event a line.
use Rattle.std.specs.Prelude.{ℕ, ◌+◌, ◌*◌, ◌-◌, Bool, ◌&&◌, nat_eq, nat_lt, nat_le, if◌then◌else◌, List, [], ◌∷◌, take, drop, length, codes}
use Rattle.std.specs.Prelude.{bytes_eq, Option, Some, None, Result, Ok, Err, slice_index}
use Rattle.std.specs.List.{position}
use Rattle.sn_base.specs.declared.event.Event.{Event}
use Rattle.sn_base.specs.declared.event.Event.TheVariants.{Step, Evict, Edge, Hop, Deliver, Lose, Kill, Report, Validate, Recover, Input}
use Rattle.sn_model.specs.Caches.{block_count}
use Rattle.sn_text.specs.Digits.{number_of}
use Rattle.sn_text.specs.Items.{items_of}
use Rattle.sn_text.specs.declared.cause.Fault.{Fault}
use Rattle.sn_text.specs.declared.cause.Fault.TheVariants.{NotOfForm, NotThere}
use Rattle.sn_text.specs.declared.cause.ScriptCause.{ScriptCause}

-- a number that is written, and must be below a limit
abbrev pub number_below : ℕ → Option ℕ → Result ℕ Fault
number_below limit None = Err NotOfForm
number_below limit (Some number) = if nat_lt number limit then Ok number else Err NotThere

abbrev pub node_in : ℕ → List ℕ → Result ℕ Fault
node_in nodes text = number_below nodes (number_of text)

-- a message, whose number may be any below 2^64
abbrev pub message_by : Option ℕ → Result ℕ Fault
message_by None = Err NotOfForm
message_by (Some id) = Ok id

abbrev pub message_in : List ℕ → Result ℕ Fault
message_in text = message_by (number_of text)

-- the switch of a side, `a` or `b`, at a node
abbrev pub switch_by : ℕ → (ℕ → ℕ) → Option ℕ → Result ℕ Fault
switch_by nodes switch_at None = Err NotOfForm
switch_by nodes switch_at (Some node) = if nat_lt node nodes then Ok (switch_at node) else Err NotThere

abbrev pub switch_in : ℕ → List ℕ → Result ℕ Fault
switch_in nodes [] = Err NotOfForm
switch_in nodes (letter ∷ text) =
    if nat_eq letter 97 then switch_by nodes (λ node. 2 * node) (number_of text)
    else if nat_eq letter 98 then switch_by nodes (λ node. 2 * node + 1) (number_of text)
    else Err NotOfForm

-- the event of a number that is good
abbrev pub event_said : (ℕ → Event) → Result ℕ Fault → Result Event Fault
event_said event_with (Ok number) = Ok (event_with number)
event_said event_with (Err fault) = Err fault

-- two words with one blank between them: what stands before the first blank, and what stands after it
abbrev pub parted_at : List ℕ → Option ℕ → Option (List ℕ × List ℕ)
parted_at text None = None
parted_at text (Some place) = Some (take place text, drop (place + 1) text)

abbrev pub parts_at_blank : List ℕ → Option (List ℕ × List ℕ)
parts_at_blank text = parted_at text (position (λ byte. nat_eq byte 32) text)

-- a node and a block of memory
abbrev pub evicted_at : ℕ → Option ℕ → Option ℕ → Result Event Fault
evicted_at nodes (Some node) (Some block) = if nat_lt node nodes && nat_lt block block_count then Ok (Evict node block) else Err NotThere
evicted_at nodes (Some node) None = Err NotOfForm
evicted_at nodes None block = Err NotOfForm

abbrev pub eviction_by : ℕ → Option (List ℕ × List ℕ) → Result Event Fault
eviction_by nodes None = Err NotOfForm
eviction_by nodes (Some words) = evicted_at nodes (number_of words.0) (number_of words.1)

abbrev pub eviction_in : ℕ → List ℕ → Result Event Fault
eviction_in nodes text = eviction_by nodes (parts_at_blank text)

-- the value of a lower-case hexadecimal digit
abbrev pub hex_value : ℕ → Option ℕ
hex_value byte =
    if nat_le 48 byte && nat_le byte 57 then Some (byte - 48)
    else if nat_le 97 byte && nat_le byte 102 then Some (byte - 87)
    else None

-- the byte of two digits
abbrev pub byte_by : Option ℕ → Option ℕ → Option ℕ
byte_by (Some high) (Some low) = Some (16 * high + low)
byte_by (Some high) None = None
byte_by None low = None

abbrev pub byte_of : List ℕ → Option ℕ
byte_of text = if nat_eq (length text) 2 then byte_by (hex_value (slice_index text 0)) (hex_value (slice_index text 1)) else None

-- a node and a byte
abbrev pub given_to : ℕ → Option ℕ → Option ℕ → Result Event Fault
given_to nodes (Some node) (Some byte) = if nat_lt node nodes then Ok (Input node byte) else Err NotThere
given_to nodes (Some node) None = Err NotOfForm
given_to nodes None byte = Err NotOfForm

abbrev pub input_by : ℕ → Option (List ℕ × List ℕ) → Result Event Fault
input_by nodes None = Err NotOfForm
input_by nodes (Some words) = given_to nodes (number_of words.0) (byte_of words.1)

abbrev pub input_in : ℕ → List ℕ → Result Event Fault
input_in nodes text = input_by nodes (parts_at_blank text)

-- whether a line begins with a word, and what stands after it
abbrev pub begins : List ℕ → List ℕ → Bool
begins word line = bytes_eq (take (length word) line) word

abbrev pub after : List ℕ → List ℕ → List ℕ
after word line = drop (length word) line

-- the event of a switch, of a block or of input
abbrev pub other_event_of : ℕ → List ℕ → Result Event Fault
other_event_of nodes line =
    if begins (codes "kill ") line then event_said Kill (switch_in nodes (after (codes "kill ") line))
    else if begins (codes "evict ") line then eviction_in nodes (after (codes "evict ") line)
    else if begins (codes "input ") line then input_in nodes (after (codes "input ") line)
    else Err NotOfForm

-- the event of a message, or another
abbrev pub message_event_of : ℕ → List ℕ → Result Event Fault
message_event_of nodes line =
    if begins (codes "hop ") line then event_said Hop (message_in (after (codes "hop ") line))
    else if begins (codes "deliver ") line then event_said Deliver (message_in (after (codes "deliver ") line))
    else if begins (codes "lose ") line then event_said Lose (message_in (after (codes "lose ") line))
    else other_event_of nodes line

-- the event that a line says, in a machine of so many nodes
unfoldable pub event_of : ℕ → List ℕ → Result Event Fault
event_of nodes line =
    if bytes_eq line (codes "validate") then Ok Validate
    else if bytes_eq line (codes "recover") then Ok Recover
    else if begins (codes "step ") line then event_said Step (node_in nodes (after (codes "step ") line))
    else if begins (codes "edge ") line then event_said Edge (node_in nodes (after (codes "edge ") line))
    else if begins (codes "report ") line then event_said Report (node_in nodes (after (codes "report ") line))
    else message_event_of nodes line

-- the events of a script, or the first cause for which it is refused
abbrev pub script_of : ℕ → List ℕ → Result (List Event) ScriptCause
script_of nodes bytes = items_of (event_of nodes) bytes
