-- Traces: one record a line, `CORE SEEN F` or `CORE SEEN F BB`.
use Rattle.std.specs.Prelude.{ℕ, ◌+◌, ◌*◌, Bool, true, false, nat_eq, nat_lt, if◌then◌else◌, List, take, drop, length, codes, bytes_eq}
use Rattle.std.specs.Prelude.{Option, Some, None, option_map, Result, Ok, Err}
use Rattle.rv_core.specs.declared.step.Record.{Record}
use Rattle.sn_text.specs.Digits.{number_of}
use Rattle.sn_text.specs.Items.{items_of}
use Rattle.sn_text.specs.Script.{parts_at_blank, byte_of}
use Rattle.sn_text.specs.declared.cause.Fault.{Fault}
use Rattle.sn_text.specs.declared.cause.Fault.TheVariants.{NotOfForm, NotThere}
use Rattle.sn_text.specs.declared.cause.ScriptCause.{ScriptCause}

-- the word of four bytes, from its highest
abbrev pub word_by : Option ℕ → Option ℕ → Option ℕ → Option ℕ → Option ℕ
word_by (Some a) (Some b) (Some c) (Some d) = Some (16777216 * a + 65536 * b + 256 * c + d)
word_by a b c d = None

-- the word of eight digits, two for each byte
unfoldable pub word_of : List ℕ → Option ℕ
word_of text =
    if nat_eq (length text) 8
    then word_by (byte_of (take 2 text)) (byte_of (take 2 (drop 2 text))) (byte_of (take 2 (drop 4 text))) (byte_of (drop 6 text))
    else None

-- `1` or `0`
abbrev pub flag_of : List ℕ → Option Bool
flag_of text = if bytes_eq text (codes "1") then Some true else if bytes_eq text (codes "0") then Some false else None

-- a core of the machine, the word that it saw, whether a store-conditional was done, and the byte that was read, if any
abbrev pub record_by : ℕ → Option ℕ → Option ℕ → Option Bool → Option (Option ℕ) → Result Record Fault
record_by nodes (Some core) (Some seen) (Some sc_done) (Some read) =
    if nat_lt core nodes then Ok (record { core = core; seen = seen; sc_done = sc_done; read = read }) else Err NotThere
record_by nodes core seen sc_done read = Err NotOfForm

-- the last words: `F`, or `F BB`
abbrev pub with_last : ℕ → Option ℕ → Option ℕ → List ℕ → Option (List ℕ × List ℕ) → Result Record Fault
with_last nodes core seen text None = record_by nodes core seen (flag_of text) (Some None)
with_last nodes core seen text (Some words) = record_by nodes core seen (flag_of words.0) (option_map (λ byte. Some byte) (byte_of words.1))

-- the words after the core
abbrev pub with_seen : ℕ → Option ℕ → Option (List ℕ × List ℕ) → Result Record Fault
with_seen nodes core None = Err NotOfForm
with_seen nodes core (Some words) = with_last nodes core (word_of words.0) words.1 (parts_at_blank words.1)

abbrev pub with_core : ℕ → Option (List ℕ × List ℕ) → Result Record Fault
with_core nodes None = Err NotOfForm
with_core nodes (Some words) = with_seen nodes (number_of words.0) (parts_at_blank words.1)

-- the record that a line says, in a machine of so many nodes
unfoldable pub record_of : ℕ → List ℕ → Result Record Fault
record_of nodes line = with_core nodes (parts_at_blank line)

-- the records of a trace, or the first cause for which it is refused
abbrev pub trace_of : ℕ → List ℕ → Result (List Record) ScriptCause
trace_of nodes bytes = items_of (record_of nodes) bytes
