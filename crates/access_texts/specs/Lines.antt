-- Lines of lists of accesses: `CORE OP ADDRESS SIZE VALUE`, `CORE amo ADDRESS SIZE VALUE OLD` and `init ADDRESS WORD`.
use Rattle.std.specs.Prelude.{ℕ, ◌+◌, ◌*◌, ◌&&◌, nat_eq, nat_lt, if◌then◌else◌, List, take, drop, length, codes, bytes_eq}
use Rattle.std.specs.Prelude.{Option, Some, None, option_map, option_and_then, Result, Ok, Err}
use Rattle.sn_base.specs.declared.block.Width.{Width}
use Rattle.sn_base.specs.declared.block.Width.TheVariants.{Byte, Half, Word}
use Rattle.sn_text.specs.Digits.{number_of}
use Rattle.sn_text.specs.Script.{parts_at_blank, byte_of, begins, after}
use Rattle.sn_text.specs.Trace.{word_of}
use Rattle.sn_text.specs.declared.cause.Fault.{Fault}
use Rattle.sn_text.specs.declared.cause.Fault.TheVariants.{NotOfForm, NotThere}
use Rattle.access_check.specs.declared.access.Operation.{Operation}
use Rattle.access_check.specs.declared.access.Operation.TheVariants.{Read, Write, Lr, Sc, ScFail, Amo}
use Rattle.access_check.specs.Accesses.{is_fitting}
use Rattle.access_texts.specs.declared.access_line.Statement.{Statement}
use Rattle.access_texts.specs.declared.access_line.Statement.TheVariants.{Start, Access as Accesses}

-- the words of a line: the values are all that stands after the size
pub record Words : Type 0 where
  pub core : List ℕ
  pub operation : List ℕ
  pub address : List ℕ
  pub size : List ℕ
  pub values : List ℕ

-- parted by one blank each
unfoldable pub words_of : List ℕ → Option Words
words_of line =
    option_and_then (λ a. option_and_then (λ b. option_and_then (λ c. option_map (λ d.
    record { core = a.0; operation = b.0; address = c.0; size = d.0; values = d.1 })
    (parts_at_blank c.1)) (parts_at_blank b.1)) (parts_at_blank a.1)) (parts_at_blank line)

-- the number of bytes, `1`, `2` or `4`
abbrev pub width_of : List ℕ → Option Width
width_of text =
    if bytes_eq text (codes "1") then Some Byte
    else if bytes_eq text (codes "2") then Some Half
    else if bytes_eq text (codes "4") then Some Word
    else None

-- a value of two bytes, of four digits
abbrev pub half_by : Option ℕ → Option ℕ → Option ℕ
half_by (Some high) (Some low) = Some (256 * high + low)
half_by (Some high) None = None
half_by None low = None

abbrev pub half_of : List ℕ → Option ℕ
half_of text = if nat_eq (length text) 4 then half_by (byte_of (take 2 text)) (byte_of (drop 2 text)) else None

-- a value, of two digits for each byte
abbrev pub value_of : Width → List ℕ → Option ℕ
value_of Byte text = byte_of text
value_of Half text = half_of text
value_of Word text = word_of text

-- the operation of a word with one value
abbrev pub one_value : List ℕ → Option ℕ → Option Operation
one_value word None = None
one_value word (Some value) =
    if bytes_eq word (codes "r") then Some (Read value)
    else if bytes_eq word (codes "w") then Some (Write value)
    else if bytes_eq word (codes "lr") then Some (Lr value)
    else if bytes_eq word (codes "sc") then Some (Sc value)
    else if bytes_eq word (codes "scfail") then Some (ScFail value)
    else None

-- an atomic operation's two values: what it wrote, and what it read
abbrev pub both_values : Option ℕ → Option ℕ → Option Operation
both_values (Some new) (Some old) = Some (Amo new old)
both_values (Some new) None = None
both_values None old = None

abbrev pub two_values : Width → Option (List ℕ × List ℕ) → Option Operation
two_values width None = None
two_values width (Some words) = both_values (value_of width words.0) (value_of width words.1)

-- what an access of this width did, by its word and its values
abbrev pub operation_of : List ℕ → List ℕ → Width → Option Operation
operation_of word values width =
    if bytes_eq word (codes "amo") then two_values width (parts_at_blank values) else one_value word (value_of width values)

-- an access of these parts, if each is there, of a core below 16, to bytes that lie in memory
abbrev pub access_by : Option ℕ → Option ℕ → Option Width → Option Operation → Result Statement Fault
access_by (Some core) (Some address) (Some width) (Some operation) =
    if nat_lt core 16 && is_fitting width address
    then Ok (Accesses (record { core = core; address = address; width = width; operation = operation }))
    else Err NotThere
access_by core address width operation = Err NotOfForm

abbrev pub access_of : Option Words → Result Statement Fault
access_of None = Err NotOfForm
access_of (Some w) =
    access_by (number_of w.core) (word_of w.address) (width_of w.size) (option_and_then (operation_of w.operation w.values) (width_of w.size))

-- a word that memory has from the start, if it lies there
abbrev pub start_by : Option ℕ → Option ℕ → Result Statement Fault
start_by (Some address) (Some word) =
    if is_fitting Word address then Ok (Start (record { address = address; word = word })) else Err NotThere
start_by address word = Err NotOfForm

abbrev pub start_of : Option (List ℕ × List ℕ) → Result Statement Fault
start_of None = Err NotOfForm
start_of (Some words) = start_by (word_of words.0) (word_of words.1)

-- what a line says
unfoldable pub statement_of : List ℕ → Result Statement Fault
statement_of line =
    if begins (codes "init ") line then start_of (parts_at_blank (after (codes "init ") line)) else access_of (words_of line)
