-- What is written, and which of it is read back.
use Rattle.std.specs.Prelude.{◌≡◌, ℕ, ◌<◌, ◌^◌, true, List, IfSome, ⊤}
use Rattle.std.specs.List.{All, flat_map}
use Rattle.sn_base.specs.Events.{event_fits}
use Rattle.sn_base.specs.declared.event.Event.{Event}
use Rattle.sn_base.specs.declared.event.Event.TheVariants.{Evict, Hop, Deliver, Lose, Input}
use Rattle.rv_core.specs.declared.step.Record.{Record}
use Rattle.sn_model.specs.Caches.{block_count}
use Rattle.text_lines.specs.Lines.{lines_of}
use Rattle.sn_text.specs.Items.{is_skipped}
use Rattle.sn_text.specs.Text.{script_line, trace_line}

-- the block, the message and the byte of an event are numbers of their types
abbrev pub HasNumbers : Event → Type 0
HasNumbers (Evict node block) = block < block_count
HasNumbers (Hop id) = id < 2 ^ 64
HasNumbers (Deliver id) = id < 2 ^ 64
HasNumbers (Lose id) = id < 2 ^ 64
HasNumbers (Input node byte) = byte < 256
HasNumbers _ = ⊤

-- an event of a machine of so many nodes
pub record IsEventOf (nodes : ℕ) (event : Event) : Type 0 where
  pub fits : event_fits nodes event ≡ true
  pub numbers : HasNumbers event

-- the word and the byte of a record are numbers of their types
pub record HasValues (taken : Record) : Type 0 where
  pub seen : taken.seen < 2 ^ 32
  pub read : IfSome taken.read (λ byte. byte < 256)

-- a record of a machine of so many nodes
pub record IsRecordOf (nodes : ℕ) (taken : Record) : Type 0 where
  pub core : taken.core < nodes
  pub values : HasValues taken

-- events as a script, and records as a trace, one a line
abbrev pub script_text : List Event → List ℕ
script_text events = flat_map script_line events

abbrev pub trace_text : List Record → List ℕ
trace_text records = flat_map trace_line records

-- a text that says nothing: each of its lines is empty or a comment
abbrev pub SaysNothing : List ℕ → Type 0
SaysNothing text = All (λ line. is_skipped line ≡ true) (lines_of text)
