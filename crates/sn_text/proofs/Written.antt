-- Events and records that are written are read back.
use Rattle.std.proofs.Common.{◌≡◌, ℕ, ◌+◌, ◌*◌, ◌/◌, ◌%◌, ◌^◌, ◌<◌, ◌≤◌, List, [], ◌∷◌, ◌++◌, length, All, refl, ap, sym, subst, ◌∙◌}
use Rattle.std.proofs.Common.{append_assoc, append-nil, arith}
use Rattle.std.proofs.lemmas.Bool.Decides.{nat_tests}
use Rattle.std.proofs.lemmas.Fmt.{decimal_nonempty}
use Rattle.std.specs.Prelude.{Bool, true, false, nat_eq, nat_lt, nat_le, if◌then◌else◌, codes, decimal, Option, Some, None, IfSome}
use Rattle.std.specs.Prelude.{Ok}
use Rattle.sn_base.specs.Events.{event_fits}
use Rattle.sn_base.specs.declared.event.Event.{Event}
use Rattle.sn_base.specs.declared.event.Event.TheVariants.{Step, Evict, Edge, Hop, Deliver, Lose, Kill, Report, Validate, Recover, Input}
use Rattle.rv_core.specs.declared.step.Record.{Record}
use Rattle.sn_model.specs.Caches.{block_count}
use Rattle.sn_text.specs.Script.{node_in, message_in, switch_in, event_said, parts_at_blank, eviction_in, input_in, event_of, script_of}
use Rattle.sn_text.specs.Items.{most_items}
use Rattle.text_lines.specs.Hex.{hex_byte, hex_word}
use Rattle.sn_text.specs.Text.{event_text, switch_text, flag_text, read_text, record_text, script_line, trace_line}
use Rattle.sn_text.specs.Trace.{record_by, with_last, record_of, trace_of}
use Rattle.sn_text.specs.Written.{HasNumbers, IsEventOf, IsRecordOf, SaysNothing, script_text, trace_text}
use Rattle.sn_text.proofs.Lines.{IsLine, says-nothing, text-read_back}
use Rattle.sn_text.proofs.Printed.{From, is_from, from-tested, from-append, from-lower, from-decimal, from-byte, from-word}
use Rattle.sn_text.proofs.Printed.{number_of-decimal, byte_of-text, word_of-text, parted-words}

small : (nodes n : ℕ) → nodes ≤ 16 → nat_lt n nodes ≡ true → n < 2 ^ 64
small nodes n few fits = grind (arith, nat_tests)

node-back : (nodes n : ℕ) → nodes ≤ 16 → nat_lt n nodes ≡ true → node_in nodes (decimal n) ≡ Ok n
node-back nodes n few fits = rw (number_of-decimal n (small nodes n few fits), fits) refl

message-back : (id : ℕ) → id < 2 ^ 64 → message_in (decimal id) ≡ Ok id
message-back id l = rw (number_of-decimal id l) refl

pub switch-back : (nodes switch : ℕ) → nodes ≤ 16 → nat_lt switch (2 * nodes) ≡ true → switch_in nodes (switch_text switch) ≡ Ok switch
switch-back nodes switch few fits = by_test (nat_eq (switch % 2) 0) refl where
  by_test : (b : Bool) → nat_eq (switch % 2) 0 ≡ b → switch_in nodes ((if b then codes "a" else codes "b") ++ decimal (switch / 2)) ≡ Ok switch
  by_test true e =
      let there : nat_lt (switch / 2) nodes ≡ true = grind (arith, nat_tests) in
      let same : 2 * (switch / 2) ≡ switch = grind (arith, nat_tests) in
      rw (number_of-decimal (switch / 2) (small nodes (switch / 2) few there), there) (ap (λ t. Ok t) same)
  by_test false e =
      let there : nat_lt (switch / 2) nodes ≡ true = grind (arith, nat_tests) in
      let same : 2 * (switch / 2) + 1 ≡ switch = grind (arith, nat_tests) in
      rw (number_of-decimal (switch / 2) (small nodes (switch / 2) few there), there) (ap (λ t. Ok t) same)

node-word : (nodes n : ℕ) → nodes ≤ 16 → nat_lt n nodes ≡ true → From 33 (decimal n)
node-word nodes n few fits = from-lower 33 48 (decimal n) (omega arith) (from-decimal n (small nodes n few fits))

eviction-back : (nodes n block : ℕ) → nodes ≤ 16 → nat_lt n nodes ≡ true → block < block_count →
    eviction_in nodes (decimal n ++ 32 ∷ decimal block) ≡ Ok (Evict n block)
eviction-back nodes n block few fits l =
    let there : nat_lt block block_count ≡ true = grind (arith, nat_tests) in
    rw (
      parted-words (decimal n) (decimal block) (node-word nodes n few fits),
      number_of-decimal n (small nodes n few fits),
      number_of-decimal block (omega arith),
      fits,
      there,
    ) refl

input-back : (nodes n byte : ℕ) → nodes ≤ 16 → nat_lt n nodes ≡ true → byte < 256 →
    input_in nodes (decimal n ++ 32 ∷ hex_byte byte) ≡ Ok (Input n byte)
input-back nodes n byte few fits l =
    rw (
      parted-words (decimal n) (hex_byte byte) (node-word nodes n few fits),
      number_of-decimal n (small nodes n few fits),
      byte_of-text byte l,
      fits,
    ) refl

-- an event's line is read back as the event
pub event-back : (nodes : ℕ) (event : Event) → nodes ≤ 16 → event_fits nodes event ≡ true → HasNumbers event →
    event_of nodes (event_text event) ≡ Ok event
unfolding event_of
event-back nodes (Step n) few fits numbers = ap (event_said Step) (node-back nodes n few fits)
event-back nodes (Evict n block) few fits numbers =
    ap (eviction_in nodes) (append_assoc (decimal n) (32 ∷ []) (decimal block)) ∙ eviction-back nodes n block few fits numbers
event-back nodes (Edge n) few fits numbers = ap (event_said Edge) (node-back nodes n few fits)
event-back nodes (Hop id) few fits numbers = ap (event_said Hop) (message-back id numbers)
event-back nodes (Deliver id) few fits numbers = ap (event_said Deliver) (message-back id numbers)
event-back nodes (Lose id) few fits numbers = ap (event_said Lose) (message-back id numbers)
event-back nodes (Kill switch) few fits numbers = ap (event_said Kill) (switch-back nodes switch few fits)
event-back nodes (Report n) few fits numbers = ap (event_said Report) (node-back nodes n few fits)
event-back nodes Validate few fits numbers = refl
event-back nodes Recover few fits numbers = refl
event-back nodes (Input n byte) few fits numbers =
    ap (input_in nodes) (append_assoc (decimal n) (32 ∷ []) (hex_byte byte)) ∙ input-back nodes n byte few fits numbers

-- a name begins it
begun_by : (x : ℕ) (xs rest : List ℕ) → nat_le 48 x ≡ true → is_from 32 xs ≡ true → From 32 rest → IsLine ((x ∷ xs) ++ rest)
begun_by x xs rest h name more = (grind (arith, nat_tests), from-append 32 xs rest (from-tested 32 xs name) more)

-- a number begins it
begun_by_number : (ds rest : List ℕ) → 0 < length ds → From 48 ds → From 32 rest → IsLine (ds ++ rest)
begun_by_number [] rest some a more = absurd (omega arith)
begun_by_number (d ∷ ds) rest some a more = (a.0, from-append 32 ds rest (from-lower 32 48 ds (omega arith) a.1) more)

plain-number : (n : ℕ) → n < 2 ^ 64 → From 32 (decimal n)
plain-number n l = from-lower 32 48 (decimal n) (omega arith) (from-decimal n l)

plain-node : (nodes n : ℕ) → nodes ≤ 16 → nat_lt n nodes ≡ true → From 32 (decimal n)
plain-node nodes n few fits = plain-number n (small nodes n few fits)

plain-byte : (byte : ℕ) → From 32 (hex_byte byte)
plain-byte byte = from-lower 32 48 (hex_byte byte) (omega arith) (from-byte byte)

plain-word : (word : ℕ) → From 32 (hex_word word)
plain-word word = from-lower 32 48 (hex_word word) (omega arith) (from-word word)

plain-pair : (xs ys : List ℕ) → From 32 xs → From 32 ys → From 32 ((xs ++ 32 ∷ []) ++ ys)
plain-pair xs ys a b = from-append 32 (xs ++ 32 ∷ []) ys (from-append 32 xs (32 ∷ []) a (omega arith, tt)) b

pub plain-switch : (nodes switch : ℕ) → nodes ≤ 16 → nat_lt switch (2 * nodes) ≡ true → From 32 (switch_text switch)
plain-switch nodes switch few fits = from-append 32 (if nat_eq (switch % 2) 0 then codes "a" else codes "b") (decimal (switch / 2)) (by_test (nat_eq (switch % 2) 0)) (plain-number (switch / 2) (grind (arith, nat_tests))) where
  by_test : (b : Bool) → From 32 (if b then codes "a" else codes "b")
  by_test true = (omega arith, tt)
  by_test false = (omega arith, tt)

-- an event's line is a line
pub event-line : (nodes : ℕ) (event : Event) → nodes ≤ 16 → event_fits nodes event ≡ true → HasNumbers event → IsLine (event_text event)
event-line nodes (Step n) few fits numbers = begun_by 115 (codes "tep ") (decimal n) refl refl (plain-node nodes n few fits)
event-line nodes (Evict n block) few fits numbers =
    begun_by 101 (codes "vict ") ((decimal n ++ 32 ∷ []) ++ decimal block) refl refl (plain-pair (decimal n) (decimal block) (plain-node nodes n few fits) (plain-number block (omega (arith, numbers))))
event-line nodes (Edge n) few fits numbers = begun_by 101 (codes "dge ") (decimal n) refl refl (plain-node nodes n few fits)
event-line nodes (Hop id) few fits numbers = begun_by 104 (codes "op ") (decimal id) refl refl (plain-number id numbers)
event-line nodes (Deliver id) few fits numbers = begun_by 100 (codes "eliver ") (decimal id) refl refl (plain-number id numbers)
event-line nodes (Lose id) few fits numbers = begun_by 108 (codes "ose ") (decimal id) refl refl (plain-number id numbers)
event-line nodes (Kill switch) few fits numbers = begun_by 107 (codes "ill ") (switch_text switch) refl refl (plain-switch nodes switch few fits)
event-line nodes (Report n) few fits numbers = begun_by 114 (codes "eport ") (decimal n) refl refl (plain-node nodes n few fits)
event-line nodes Validate few fits numbers = begun_by 118 (codes "alidate") [] refl refl tt
event-line nodes Recover few fits numbers = begun_by 114 (codes "ecover") [] refl refl tt
event-line nodes (Input n byte) few fits numbers =
    begun_by 105 (codes "nput ") ((decimal n ++ 32 ∷ []) ++ hex_byte byte) refl refl (plain-pair (decimal n) (hex_byte byte) (plain-node nodes n few fits) (plain-byte byte))

-- the words of a record's line
joined : (a b c d s : List ℕ) → ((((a ++ s) ++ b) ++ s) ++ c) ++ d ≡ a ++ (s ++ (b ++ (s ++ (c ++ d))))
joined a b c d s =
    append_assoc (((a ++ s) ++ b) ++ s) c d ∙ append_assoc ((a ++ s) ++ b) s (c ++ d) ∙ append_assoc (a ++ s) b (s ++ (c ++ d))
    ∙ append_assoc a s (b ++ (s ++ (c ++ d)))

abbrev last_words : Bool → Option ℕ → List ℕ
last_words sc_done read = flag_text sc_done ++ read_text read

abbrev record_words : ℕ → ℕ → Bool → Option ℕ → List ℕ
record_words core seen sc_done read = decimal core ++ (32 ∷ (hex_word seen ++ (32 ∷ last_words sc_done read)))

text-is : (taken : Record) → record_text taken ≡ record_words taken.core taken.seen taken.sc_done taken.read
text-is taken = joined (decimal taken.core) (hex_word taken.seen) (flag_text taken.sc_done) (read_text taken.read) (32 ∷ [])

last-back : (nodes : ℕ) (core seen : Option ℕ) (sc_done : Bool) (read : Option ℕ) → IfSome read (λ byte. byte < 256) →
    with_last nodes core seen (last_words sc_done read) (parts_at_blank (last_words sc_done read))
    ≡ record_by nodes core seen (Some sc_done) (Some read)
last-back nodes core seen true None l = refl
last-back nodes core seen false None l = refl
last-back nodes core seen true (Some byte) l = rw (parted-words (49 ∷ []) (hex_byte byte) (omega arith, tt), byte_of-text byte l) refl
last-back nodes core seen false (Some byte) l = rw (parted-words (48 ∷ []) (hex_byte byte) (omega arith, tt), byte_of-text byte l) refl

words-back : (nodes core seen : ℕ) (sc_done : Bool) (read : Option ℕ) → nodes ≤ 16 → core < nodes → seen < 2 ^ 32 →
    IfSome read (λ byte. byte < 256) →
    record_of nodes (record_words core seen sc_done read) ≡ Ok (record { core = core; seen = seen; sc_done = sc_done; read = read })
unfolding record_of
words-back nodes core seen sc_done read few there word byte =
    let wide : core < 2 ^ 64 = omega arith in
    let fits : nat_lt core nodes ≡ true = grind (arith, nat_tests) in
    rw (
      parted-words (decimal core) (hex_word seen ++ (32 ∷ last_words sc_done read))
          (from-lower 33 48 (decimal core) (omega arith) (from-decimal core wide)),
      number_of-decimal core wide,
      parted-words (hex_word seen) (last_words sc_done read) (from-lower 33 48 (hex_word seen) (omega arith) (from-word seen)),
      word_of-text seen word,
      last-back nodes (Some core) (Some seen) sc_done read byte,
      fits,
    ) refl

-- a record's line is read back as the record
pub record-back : (nodes : ℕ) (taken : Record) → nodes ≤ 16 → IsRecordOf nodes taken → record_of nodes (record_text taken) ≡ Ok taken
record-back nodes taken few is =
    ap (record_of nodes) (text-is taken) ∙ words-back nodes taken.core taken.seen taken.sc_done taken.read few is.core is.values.seen is.values.read

plain-last : (sc_done : Bool) (read : Option ℕ) → From 32 (last_words sc_done read)
plain-last true None = (omega arith, tt)
plain-last false None = (omega arith, tt)
plain-last true (Some byte) = (omega arith, (omega arith, plain-byte byte))
plain-last false (Some byte) = (omega arith, (omega arith, plain-byte byte))

-- a record's line is a line
pub record-line : (nodes : ℕ) (taken : Record) → nodes ≤ 16 → IsRecordOf nodes taken → IsLine (record_text taken)
record-line nodes taken few is =
    let wide : taken.core < 2 ^ 64 = omega (arith, is.core) in
    subst IsLine (sym (text-is taken))
    (begun_by_number (decimal taken.core) _ (decimal_nonempty taken.core wide) (from-decimal taken.core wide)
    (omega arith, from-append 32 (hex_word taken.seen) _ (plain-word taken.seen) (omega arith, plain-last taken.sc_done taken.read)))

-- whole texts
pub script-back : (nodes : ℕ) (events : List Event) → nodes ≤ 16 → All (IsEventOf nodes) events → length events ≤ most_items →
    script_of nodes (script_text events) ≡ Ok events
unfolding script_line
script-back nodes events few are short =
    ap (script_of nodes) (sym (append-nil (script_text events)))
    ∙ text-read_back (event_of nodes) event_text script_line (IsEventOf nodes) (λ event. refl)
    (λ event is. event-line nodes event few is.fits is.numbers)
    (λ event is. event-back nodes event few is.fits is.numbers) events [] are short says-nothing

pub trace-back_commented : (nodes : ℕ) (records : List Record) (comments : List ℕ) → nodes ≤ 16 → All (IsRecordOf nodes) records →
    length records ≤ most_items → SaysNothing comments → trace_of nodes (trace_text records ++ comments) ≡ Ok records
unfolding trace_line
trace-back_commented nodes records comments few are short nothing =
    text-read_back (record_of nodes) record_text trace_line (IsRecordOf nodes) (λ taken. refl) (λ taken is. record-line nodes taken few is)
    (λ taken is. record-back nodes taken few is) records comments are short nothing

pub trace-back : (nodes : ℕ) (records : List Record) → nodes ≤ 16 → All (IsRecordOf nodes) records → length records ≤ most_items →
    trace_of nodes (trace_text records) ≡ Ok records
trace-back nodes records few are short =
    ap (trace_of nodes) (sym (append-nil (trace_text records))) ∙ trace-back_commented nodes records [] few are short says-nothing
