-- A written file, as it is read.
use Rattle.std.proofs.Common.{◌≡◌, ℕ, zero, suc, ◌+◌, ◌*◌, ◌^◌, ◌%◌, ◌<◌, ◌≤◌, ◌==◌, Bool, false, true, not, ◌&&◌, List, [], ◌∷◌, ◌++◌}
use Rattle.std.proofs.Common.{length, take, drop, map, filter, position, All, Option, Some, None, nat_eq, nat_le, nat_lt, ◌||◌, refl, ap}
use Rattle.std.proofs.Common.{◌∙◌, sym, append_assoc, cond, get_or, arith, lit<, Ok}
use Rattle.std.specs.Int.RustNames.{bit_and}
use Rattle.std.proofs.lemmas.Bool.{le-ltb}
use Rattle.std.proofs.lemmas.Bool.Decides.{nat_tests}
use Rattle.std.proofs.lemmas.List.{length-append, drop_more, append-nil}
use Rattle.std.proofs.lemmas.List.Elements.{All-nil, All-head, All-tail, All-push}
use Rattle.std.proofs.lemmas.List.Sums.{prefix_len_is}
use Rattle.std.specs.List.{position_or_len}
use Rattle.std.proofs.Math.Seq.{drop-append-add, drop-append_seam, take-append_seam}
use Rattle.byteorder.specs.Endian.{little_number}
use Rattle.byteorder.specs.Numbers.{little_number-reads_back}
use Rattle.sn_base.specs.Blocks.{ram_start, ram_size}
use Rattle.sn_base.specs.Image.{SegmentData, ImageData, IsImage, IsSegment, AreApart, covers, byte_in, byte_at, is_executable}
use Rattle.sn_base.specs.Image.{is_unprotected, all_executable}
use Rattle.elf_load.specs.declared.fault.LoadCause.{LoadCause}
use Rattle.elf_load.specs.declared.program_header.ProgramHeader.{ProgramHeader}
use Rattle.elf_load.specs.Elf.{Step, first_refusal, refuse_if, is_apart, is_inside, is_entry, elf_image, image_of_step, word_at, identity}
use Rattle.elf_load.specs.Elf.{entry_of, table_place, file_flags, header_count, header_at, first_headers, headers_of, loads, segment_of}
use Rattle.elf_load.specs.Elf.{segments_of, shares, header_step, table_step, elf_step}
use Rattle.elf_load.specs.Loading.{image_of}
use Rattle.elf_load.specs.Writing.{IsSameProgram, IsReadAs, file_header, flags_of, header_bytes, table_from, content_of, file_of}

-- the file header
pub identity-written : (count entry : ℕ) (rest : List ℕ) → identity (file_header count entry ++ rest) ≡ Ok tt
unfolding identity
identity-written count entry rest = refl

pub entry-written : (count entry : ℕ) (rest : List ℕ) → entry < 2 ^ 32 → entry_of (file_header count entry ++ rest) ≡ entry
entry-written count entry rest h = little_number-reads_back 4 entry (drop 28 (file_header count entry ++ rest)) h

pub count-written : (count entry : ℕ) (rest : List ℕ) → count < 2 ^ 16 → header_count (file_header count entry ++ rest) ≡ count
count-written count entry rest h = little_number-reads_back 2 count (drop 46 (file_header count entry ++ rest)) h

pub table_place-written : (count entry : ℕ) (rest : List ℕ) → table_place (file_header count entry ++ rest) ≡ 52
table_place-written count entry rest = refl

pub flags-written : (count entry : ℕ) (rest : List ℕ) → file_flags (file_header count entry ++ rest) ≡ 0
flags-written count entry rest = refl

-- the header that a segment is read with
abbrev pub row_of : SegmentData → ℕ → ProgramHeader
row_of s place =
    record {
      kind = 1;
      offset = place;
      address = s.start;
      file_size = length s.bytes;
      memory_size = s.size;
      flags = flags_of s.write s.exec;
    }

abbrev pub rows_from : List SegmentData → ℕ → List ProgramHeader
rows_from [] place = []
rows_from (s ∷ segments) place = row_of s place ∷ rows_from segments (place + length s.bytes)

word_past : (before bytes : List ℕ) (place : ℕ) → word_at (before ++ bytes) (length before + place) ≡ word_at bytes place
word_past before bytes place = ap (little_number 4) (drop-append-add before bytes place)

word_after : (before bytes : List ℕ) → word_at (before ++ bytes) (length before) ≡ word_at bytes 0
word_after before bytes = ap (little_number 4) (drop-append_seam before bytes)

same_header : (a b c d e f a' b' c' d' e' f' : ℕ) → a ≡ a' → b ≡ b' → c ≡ c' → d ≡ d' → e ≡ e' → f ≡ f' →
    (let h : ProgramHeader = record { kind = a; offset = b; address = c; file_size = d; memory_size = e; flags = f } in h)
    ≡ (let h : ProgramHeader = record { kind = a'; offset = b'; address = c'; file_size = d'; memory_size = e'; flags = f' } in h)
same_header a b c d e f a' b' c' d' e' f' ea eb ec ed ee ef = cc

flags-small : (write exec : Bool) → flags_of write exec < 2 ^ 32
flags-small true exec = lit< tt
flags-small false true = lit< tt
flags-small false false = lit< tt

-- a segment's numbers fit their fields
pub record IsWritable (s : SegmentData) (place : ℕ) : Type 0 where
  pub start : s.start < 2 ^ 32
  pub size : s.size < 2 ^ 32
  pub bytes : length s.bytes < 2 ^ 32
  pub near : place < 2 ^ 32

pub header-written : (before rest : List ℕ) (s : SegmentData) (place : ℕ) → IsWritable s place →
    header_at (before ++ (header_bytes s place ++ rest)) (length before) ≡ row_of s place
unfolding header_at
header-written before rest s place w =
    let bytes = header_bytes s place ++ rest in
    same_header _ _ _ _ _ _ _ _ _ _ _ _
    (word_after before bytes)
    (word_past before bytes 4 ∙ little_number-reads_back 4 place (drop 8 bytes) w.near)
    (word_past before bytes 8 ∙ little_number-reads_back 4 s.start (drop 12 bytes) w.start)
    (word_past before bytes 16 ∙ little_number-reads_back 4 (length s.bytes) (drop 20 bytes) w.bytes)
    (word_past before bytes 20 ∙ little_number-reads_back 4 s.size (drop 24 bytes) w.size)
    (word_past before bytes 24 ∙ little_number-reads_back 4 (flags_of s.write s.exec) (drop 28 bytes) (flags-small s.write s.exec))

first_headers-front : (n : ℕ) (bytes : List ℕ) (place : ℕ) →
    first_headers (suc n) bytes place ≡ header_at bytes place ∷ first_headers n bytes (place + 32)
unfolding first_headers
first_headers-front zero bytes place = let e : place + 32 * 0 ≡ place = omega arith in rw e
first_headers-front (suc n) bytes place =
    let e : place + 32 * (suc n) ≡ place + 32 + 32 * n = omega arith in
    ap (λ (l : List ProgramHeader). l ++ header_at bytes (place + 32 * (suc n)) ∷ []) (first_headers-front n bytes place) ∙ rw e

-- the numbers of segments whose bytes stand one after the other fit
fits-first : (s : SegmentData) (segments : List SegmentData) (place : ℕ) → All IsSegment (s ∷ segments) →
    place + 4194304 * length (s ∷ segments) < 2 ^ 32 → IsWritable s place
fits-first s segments place each near =
    let good = All-head IsSegment s segments each in
    record {
      start = omega (arith, good.below);
      size = omega (arith, good.below, good.above);
      bytes = omega (arith, good.below, good.above, good.filled);
      near = omega arith;
    }

fits-next : (s : SegmentData) (segments : List SegmentData) (place : ℕ) → All IsSegment (s ∷ segments) →
    place + 4194304 * length (s ∷ segments) < 2 ^ 32 → place + length s.bytes + 4194304 * length segments < 2 ^ 32
fits-next s segments place each near =
    let good = All-head IsSegment s segments each in
    omega (arith, good.below, good.above, good.filled)

pub headers-written : (segments : List SegmentData) (before rest : List ℕ) (place : ℕ) → All IsSegment segments →
    place + 4194304 * length segments < 2 ^ 32 →
    first_headers (length segments) (before ++ (table_from segments place ++ rest)) (length before) ≡ rows_from segments place
unfolding first_headers table_from
headers-written [] before rest place each near = refl
headers-written (s ∷ segments) before rest place each near =
    let row = header_bytes s place in
    let after = table_from segments (place + length s.bytes) ++ rest in
    let bytes = before ++ ((row ++ table_from segments (place + length s.bytes)) ++ rest) in
    let inner : bytes ≡ before
    ++ (row ++ after) = ap (λ (l : List ℕ). before ++ l) (append_assoc row (table_from segments (place + length s.bytes)) rest) in
    let outer : bytes ≡ (before ++ row) ++ after = inner ∙ sym (append_assoc before row after) in
    let past : length before + 32 ≡ length (before ++ row) = sym (length-append before row) in
    let first : header_at bytes (length before) ≡ row_of s place =
    ap (λ (l : List ℕ). header_at l (length before)) inner ∙ header-written before after s place (fits-first s segments place each near) in
    let others : first_headers (length segments) bytes (length before + 32) ≡ rows_from segments (place + length s.bytes) =
    ap (λ (l : List ℕ). first_headers (length segments) l (length before + 32)) outer
    ∙ ap (first_headers (length segments) ((before ++ row) ++ after)) past
    ∙ headers-written segments (before ++ row) rest (place + length s.bytes) (All-tail IsSegment s segments each)
    (fits-next s segments place each near) in
    first_headers-front (length segments) bytes (length before)
    ∙ ap (λ (h : ProgramHeader). h ∷ first_headers (length segments) bytes (length before + 32)) first
    ∙ ap (λ (l : List ProgramHeader). row_of s place ∷ l) others

-- the segments that take memory
abbrev pub kept : List SegmentData → List SegmentData
kept segments = filter (λ s. not (nat_eq s.size 0)) segments

same_segment : (s : SegmentData) (bytes : List ℕ) (write exec : Bool) → bytes ≡ s.bytes → write ≡ s.write → exec ≡ s.exec →
    (let t : SegmentData = record { start = s.start; size = s.size; bytes = bytes; write = write; exec = exec } in t) ≡ s
same_segment s bytes write exec eb ew ex = rw (eb, ew, ex) refl

flags-write : (write exec : Bool) → (bit_and (flags_of write exec) 2 == 2) ≡ write
flags-write true exec = refl
flags-write false true = refl
flags-write false false = refl

flags-exec : (write exec : Bool) → (write && exec) ≡ false → (bit_and (flags_of write exec) 1 == 1) ≡ exec
flags-exec true true e = absurd (cc)
flags-exec true false e = refl
flags-exec false true e = refl
flags-exec false false e = refl

pub segment-written : (before rest : List ℕ) (s : SegmentData) → (s.write && s.exec) ≡ false →
    segment_of (before ++ (s.bytes ++ rest)) (row_of s (length before)) ≡ s
segment-written before rest s protected =
    same_segment s _ _ _
    (ap (take (length s.bytes)) (drop-append_seam before (s.bytes ++ rest)) ∙ take-append_seam s.bytes rest)
    (flags-write s.write s.exec)
    (flags-exec s.write s.exec protected)

one_kept : (s : SegmentData) (segments : List SegmentData) (h : ProgramHeader) (headers : List ProgramHeader) (bytes : List ℕ)
    (test : Bool) → segment_of bytes h ≡ s → map (segment_of bytes) (filter loads headers) ≡ kept segments →
    map (segment_of bytes) (cond test (h ∷ filter loads headers) (filter loads headers)) ≡ cond test (s ∷ kept segments) (kept segments)
one_kept s segments h headers bytes true first others = cc
one_kept s segments h headers bytes false first others = others

pub segments-written : (segments : List SegmentData) (before rest : List ℕ) → All IsSegment segments →
    segments_of (before ++ (content_of segments ++ rest)) (rows_from segments (length before)) ≡ kept segments
segments-written [] before rest each = refl
segments-written (s ∷ segments) before rest each =
    let after = content_of segments ++ rest in
    let bytes = before ++ ((s.bytes ++ content_of segments) ++ rest) in
    let inner : bytes ≡ before ++ (s.bytes ++ after) = ap (λ (l : List ℕ). before ++ l) (append_assoc s.bytes (content_of segments) rest) in
    let outer : bytes ≡ (before ++ s.bytes) ++ after = inner ∙ sym (append_assoc before s.bytes after) in
    let past : length before + length s.bytes ≡ length (before ++ s.bytes) = sym (length-append before s.bytes) in
    let good = All-head IsSegment s segments each in
    let first : segment_of bytes (row_of s (length before)) ≡ s =
    ap (λ (l : List ℕ). segment_of l (row_of s (length before))) inner ∙ segment-written before after s good.protected in
    let others : segments_of bytes (rows_from segments (length before + length s.bytes)) ≡ kept segments =
    ap (λ (l : List ℕ). segments_of l (rows_from segments (length before + length s.bytes))) outer
    ∙ ap (λ (n : ℕ). segments_of ((before ++ s.bytes) ++ after) (rows_from segments n)) past
    ∙ segments-written segments (before ++ s.bytes) rest (All-tail IsSegment s segments each) in
    one_kept s segments (row_of s (length before)) (rows_from segments (length before + length s.bytes)) bytes
    (not (nat_eq s.size 0)) first others

-- one step of the loop that writes the table
pub table-step : (file : List ℕ) (segments : List SegmentData) (i : ℕ) (s d : SegmentData) (place : ℕ) → i < length segments →
    s ≡ get_or segments i d →
    (file ++ header_bytes s place) ++ table_from (drop (i + 1) segments) (place + length s.bytes) ≡ file
    ++ table_from (drop i segments) place
unfolding table_from
table-step file segments i s d place b e =
    let rest = table_from (drop (i + 1) segments) (place + length s.bytes) in
    append_assoc file (header_bytes s place) rest
    ∙ ap (λ (l : List SegmentData). file ++ table_from l place)
    (ap (λ (t : SegmentData). t ∷ drop (i + 1) segments) e ∙ sym (drop_more segments i d b))

-- steps that pass
passed : (s : Step) (steps : List Step) → s ≡ Ok tt → first_refusal steps ≡ Ok tt → first_refusal (s ∷ steps) ≡ Ok tt
passed s steps e others = ap (λ (t : Step). first_refusal (t ∷ steps)) e ∙ others

accept_if : (b : Bool) (cause : LoadCause) → b ≡ false → refuse_if b cause ≡ Ok tt
accept_if b cause e = ap (λ (t : Bool). refuse_if t cause) e

no_place : (b : Bool) (place : ℕ) → b ≡ false → cond b (Some place) None ≡ None
no_place b place e = ap (λ (t : Bool). cond t (Some place) None) e

none-found : (p : ProgramHeader → Bool) (headers : List ProgramHeader) (d : ProgramHeader) → All (λ g. p g ≡ false) headers →
    position p headers ≡ None
none-found p headers d none =
    let far : position_or_len p headers
    ≡ length headers = prefix_len_is (λ g. not (p g)) headers (length headers) d (omega arith) (λ k b. ap not (none k d b))
    (λ b. absurd (omega arith)) in
    no_place _ _ (le-ltb (position_or_len p headers) (length headers) (omega arith))

is-inside : (h : ProgramHeader) → ram_start ≤ h.address → h.address + h.memory_size ≤ ram_start + ram_size → not (is_inside h) ≡ false
is-inside h a b = grind (arith, nat_tests)

no-share : (a b : Bool) → b ≡ false → (a && b) ≡ false
no-share true b e = e
no-share false b e = refl

none-sharing : (earlier : List ProgramHeader) (h : ProgramHeader) → All (λ g. shares g h ≡ false) earlier →
    position (λ g. loads g && shares g h) earlier ≡ None
none-sharing earlier h apart =
    none-found (λ g. loads g && shares g h) earlier h
    (λ k d b. no-share (loads (get_or earlier k d)) (shares (get_or earlier k d) h) (apart k d b))

row-protected : (write exec : Bool) → (write && exec) ≡ false →
    ((bit_and (flags_of write exec) 1 == 1) && (bit_and (flags_of write exec) 2 == 2)) ≡ false
row-protected true true e = absurd (cc)
row-protected true false e = refl
row-protected false true e = refl
row-protected false false e = refl

row-accepted : (bytes : List ℕ) (earlier : List ProgramHeader) (s : SegmentData) (place : ℕ) → IsSegment s →
    place + length s.bytes ≤ length bytes → All (λ g. shares g (row_of s place) ≡ false) earlier →
    header_step bytes earlier (row_of s place) ≡ Ok tt
unfolding header_step
row-accepted bytes earlier s place good reached apart =
    passed _ _ (accept_if _ _ (le-ltb s.size (length s.bytes) good.filled))
    (passed _ _ (accept_if _ _ (le-ltb (length bytes) (place + length s.bytes) reached))
    (passed _ _ (accept_if _ _ (is-inside (row_of s place) good.above good.below))
    (passed _ _ (accept_if _ _ (row-protected s.write s.exec good.protected))
    (passed _ _ (ap (λ (o : Option ℕ). is_apart o (length earlier)) (none-sharing earlier (row_of s place) apart)) refl))))

either_way : (b : Bool) (s : Step) → s ≡ Ok tt → cond b s (Ok tt) ≡ Ok tt
either_way true s e = e
either_way false s e = refl

pub table-written : (segments : List SegmentData) (bytes : List ℕ) (earlier : List ProgramHeader) (place : ℕ) → All IsSegment segments →
    AreApart segments → place + length (content_of segments) ≤ length bytes →
    All (λ s. All (λ g. shares g (row_of s 0) ≡ false) earlier) segments → table_step bytes earlier (rows_from segments place) ≡ Ok tt
unfolding table_step
table-written [] bytes earlier place each apart reached before = refl
table-written (s ∷ segments) bytes earlier place each apart reached before =
    let row = row_of s place in
    let size = length-append s.bytes (content_of segments) in
    let others = All-tail (λ t. All (λ g. shares g (row_of t 0) ≡ false) earlier) s segments before in
    passed _ _ (either_way (loads row) _
    (row-accepted bytes earlier s place (All-head IsSegment s segments each) (omega arith)
    (All-head (λ t. All (λ g. shares g (row_of t 0) ≡ false) earlier) s segments before)))
    (passed _ _ (table-written segments bytes (earlier ++ row ∷ []) (place + length s.bytes) (All-tail IsSegment s segments each) apart.1
    (omega arith)
    (λ k d b. All-push (λ g. shares g (row_of (get_or segments k d) 0) ≡ false) earlier row (others k d b) (apart.0 k d b))) refl)

-- segments that take no memory say nothing of any address
size-zero : (s : SegmentData) → not (nat_eq s.size 0) ≡ false → s.size ≡ 0
size-zero s e = grind (arith, nat_tests)

covers-none : (s : SegmentData) (address : ℕ) → s.size ≡ 0 → covers s address ≡ false
covers-none s address e = grind (arith, nat_tests)

or-absent : (x y r t : Bool) → y ≡ false → r ≡ t → r ≡ ((x && y) || t)
or-absent true y r t e h = rw e h
or-absent false y r t e h = h

and-absent : (x y r t : Bool) → y ≡ false → r ≡ t → r ≡ (not (not x && y) && t)
and-absent true y r t e h = h
and-absent false y r t e h = rw e h

executable-kept : (s : SegmentData) (segments : List SegmentData) (address : ℕ) (b : Bool) → not (nat_eq s.size 0) ≡ b →
    is_executable (kept segments) address ≡ is_executable segments address →
    is_executable (cond b (s ∷ kept segments) (kept segments)) address ≡ is_executable (s ∷ segments) address
executable-kept s segments address true e h = ap (λ (t : Bool). (s.exec && covers s address) || t) h
executable-kept s segments address false e h = or-absent s.exec (covers s address) _ _ (covers-none s address (size-zero s e)) h

pub kept-executable : (segments : List SegmentData) (address : ℕ) → is_executable (kept segments) address ≡ is_executable segments address
kept-executable [] address = refl
kept-executable (s ∷ segments) address = executable-kept s segments address (not (nat_eq s.size 0)) refl (kept-executable segments address)

unprotected-kept : (s : SegmentData) (segments : List SegmentData) (address : ℕ) (b : Bool) → not (nat_eq s.size 0) ≡ b →
    is_unprotected (kept segments) address ≡ is_unprotected segments address →
    is_unprotected (cond b (s ∷ kept segments) (kept segments)) address ≡ is_unprotected (s ∷ segments) address
unprotected-kept s segments address true e h = ap (λ (t : Bool). not (not s.write && covers s address) && t) h
unprotected-kept s segments address false e h = and-absent s.write (covers s address) _ _ (covers-none s address (size-zero s e)) h

pub kept-unprotected : (segments : List SegmentData) (address : ℕ) →
    is_unprotected (kept segments) address ≡ is_unprotected segments address
kept-unprotected [] address = refl
kept-unprotected (s ∷ segments) address =
    unprotected-kept s segments address (not (nat_eq s.size 0)) refl (kept-unprotected segments address)

byte-kept : (s : SegmentData) (segments : List SegmentData) (address : ℕ) (b : Bool) → not (nat_eq s.size 0) ≡ b →
    byte_at (kept segments) address ≡ byte_at segments address →
    byte_at (cond b (s ∷ kept segments) (kept segments)) address ≡ byte_at (s ∷ segments) address
byte-kept s segments address true e h = ap (λ (n : ℕ). cond (covers s address) (byte_in s address) n) h
byte-kept s segments address false e h = rw (covers-none s address (size-zero s e)) h

pub kept-byte : (segments : List SegmentData) (address : ℕ) → byte_at (kept segments) address ≡ byte_at segments address
kept-byte [] address = refl
kept-byte (s ∷ segments) address = byte-kept s segments address (not (nat_eq s.size 0)) refl (kept-byte segments address)

pub kept-all_executable : (n : ℕ) (segments : List SegmentData) (address : ℕ) →
    all_executable n (kept segments) address ≡ all_executable n segments address
kept-all_executable zero segments address = refl
kept-all_executable (suc n) segments address =
    ap (λ (t : Bool). t && all_executable n (kept segments) (address + 1)) (kept-executable segments address)
    ∙ ap (λ (t : Bool). is_executable segments address && t) (kept-all_executable n segments (address + 1))

pub kept-same : (image : ImageData) → IsSameProgram (record { segments = kept image.segments; entry = image.entry }) image
kept-same image = record {
  bytes = kept-byte image.segments;
  executable = kept-executable image.segments;
  writable =
      λ address. ap (λ (t : Bool). nat_le ram_start address && nat_lt address (ram_start + ram_size) && t)
      (kept-unprotected image.segments address);
  entry = refl;
}

-- the whole file
pub table_from-length : (segments : List SegmentData) (place : ℕ) → length (table_from segments place) ≡ 32 * length segments
unfolding table_from
table_from-length [] place = refl
table_from-length (s ∷ segments) place =
    let first = length-append (header_bytes s place) (table_from segments (place + length s.bytes)) in
    let others = table_from-length segments (place + length s.bytes) in
    omega (arith, first, others)

elf_image-is : (bytes : List ℕ) (segments : List SegmentData) (entry : ℕ) → elf_step bytes ≡ Ok tt →
    segments_of bytes (headers_of bytes) ≡ segments → entry_of bytes ≡ entry →
    elf_image bytes ≡ Ok (record { segments = segments; entry = entry })
elf_image-is bytes segments entry passes same at =
    ap (λ (s : Step). image_of_step s (record { segments = segments_of bytes (headers_of bytes); entry = entry_of bytes })) passes
    ∙ ap (λ (l : List SegmentData). Ok (let i : ImageData = record { segments = l; entry = entry_of bytes } in i)) same
    ∙ ap (λ (n : ℕ). Ok (let i : ImageData = record { segments = segments; entry = n } in i)) at

entry-test : (a b : Bool) → a ≡ true → b ≡ true → (a && b) ≡ true
entry-test a b ea eb = rw (ea, eb) refl

headers-read : (image : ImageData) → IsImage image.segments image.entry → length image.segments ≤ 64 →
    headers_of (file_of image) ≡ rows_from image.segments (52 + 32 * length image.segments)
unfolding file_of
headers-read image good few =
    let n = length image.segments in
    let place = 52 + 32 * n in
    let rest = table_from image.segments place ++ content_of image.segments in
    let counted : header_count (file_header n image.entry ++ rest) ≡ n = count-written n image.entry rest (omega arith) in
    ap (λ (k : ℕ). first_headers k (file_header n image.entry ++ rest) 52) counted
    ∙ headers-written image.segments (file_header n image.entry) (content_of image.segments) place good.each (omega arith)

segments-read : (image : ImageData) → IsImage image.segments image.entry →
    segments_of (file_of image) (rows_from image.segments (52 + 32 * length image.segments)) ≡ kept image.segments
unfolding file_of
segments-read image good =
    let n = length image.segments in
    let place = 52 + 32 * n in
    let head = file_header n image.entry in
    let table = table_from image.segments place in
    let content = content_of image.segments in
    let far : length (head ++ table) ≡ place = length-append head table ∙ ap (λ (k : ℕ). 52 + k) (table_from-length image.segments place) in
    let whole : head ++ (table ++ content) ≡ (head ++ table) ++ (content ++ []) = sym (append_assoc head table content)
    ∙ ap (λ (l : List ℕ). (head ++ table) ++ l) (sym (append-nil content)) in
    ap (λ (l : List ℕ). segments_of l (rows_from image.segments place)) whole
    ∙ ap (λ (k : ℕ). segments_of ((head ++ table) ++ (content ++ [])) (rows_from image.segments k)) (sym far)
    ∙ segments-written image.segments (head ++ table) [] good.each

file-length : (image : ImageData) → length (file_of image) ≡ 52 + 32 * length image.segments + length (content_of image.segments)
unfolding file_of
file-length image =
    let n = length image.segments in
    let place = 52 + 32 * n in
    let a = length-append (file_header n image.entry) (table_from image.segments place ++ content_of image.segments) in
    let b = length-append (table_from image.segments place) (content_of image.segments) in
    let t = table_from-length image.segments place in
    omega (arith, a, b, t)

not-entry : (b : Bool) → b ≡ true → not b ≡ false
not-entry b e = ap not e

elf_step-passes : (bytes : List ℕ) → 52 ≤ length bytes → identity bytes ≡ Ok tt → (bit_and (file_flags bytes) 1 == 1) ≡ false →
    header_count bytes ≤ 64 → table_place bytes + 32 * header_count bytes ≤ length bytes → table_step bytes [] (headers_of bytes) ≡ Ok tt →
    is_entry (segments_of bytes (headers_of bytes)) (entry_of bytes) ≡ true → elf_step bytes ≡ Ok tt
unfolding elf_step
elf_step-passes bytes long named plain few reached tried entered =
    passed _ _ (accept_if _ _ (le-ltb (length bytes) 52 long))
    (passed _ _ named
    (passed _ _ (accept_if _ _ plain)
    (passed _ _ (accept_if _ _ (le-ltb 64 (header_count bytes) few))
    (passed _ _ (accept_if _ _ (le-ltb (length bytes) (table_place bytes + 32 * header_count bytes) reached))
    (passed _ _ tried
    (passed _ _ (accept_if _ _ (not-entry _ entered)) refl))))))

elf_step-written : (image : ImageData) → IsImage image.segments image.entry → length image.segments ≤ 64 → image.entry < 2 ^ 32 →
    elf_step (file_of image) ≡ Ok tt
unfolding file_of
elf_step-written image good few small =
    let n = length image.segments in
    let place = 52 + 32 * n in
    let rest = table_from image.segments place ++ content_of image.segments in
    let bytes = file_header n image.entry ++ rest in
    let long : length bytes ≡ 52 + 32 * n + length (content_of image.segments) = file-length image in
    let counted : header_count bytes ≡ n = count-written n image.entry rest (omega arith) in
    let at : entry_of bytes ≡ image.entry = entry-written n image.entry rest small in
    let headers : headers_of bytes ≡ rows_from image.segments place = headers-read image good few in
    let segments : segments_of bytes (headers_of bytes) ≡ kept image.segments = ap (segments_of bytes) headers ∙ segments-read image good in
    let apart : All (λ s. All (λ g. shares g (row_of s 0) ≡ false) []) image.segments = λ k d b. All-nil
    (λ g. shares g (row_of (get_or image.segments k d) 0) ≡ false) in
    elf_step-passes bytes (omega arith) (identity-written n image.entry rest) refl (omega arith) (omega arith)
    (ap (table_step bytes []) headers ∙ table-written image.segments bytes [] place good.each good.apart (omega arith) apart)
    (entry-test _ _
    (ap (λ (k : ℕ). nat_eq (k % 4) 0) at ∙ ap (λ (k : ℕ). nat_eq k 0) good.aligned)
    (ap (λ (l : List SegmentData). all_executable 4 l (entry_of bytes)) segments
    ∙ ap (all_executable 4 (kept image.segments)) at
    ∙ kept-all_executable 4 image.segments image.entry ∙ good.entered))

accepted : (image : ImageData) → IsImage image.segments image.entry → length image.segments ≤ 64 → image.entry < 2 ^ 32 →
    image_of (file_of image) ≡ Ok (record { segments = kept image.segments; entry = image.entry })
unfolding image_of file_of
accepted image good few small =
    let n = length image.segments in
    let rest = table_from image.segments (52 + 32 * n) ++ content_of image.segments in
    elf_image-is (file_header n image.entry ++ rest) (kept image.segments) image.entry
    (elf_step-written image good few small)
    (ap (segments_of (file_header n image.entry ++ rest)) (headers-read image good few) ∙ segments-read image good)
    (entry-written n image.entry rest small)

-- the file of an image is read as the same program
pub file-read : (image : ImageData) → IsImage image.segments image.entry → length image.segments ≤ 64 → image.entry < 2 ^ 32 →
    IsReadAs (file_of image) image
file-read image good few small = record {
  read = record { segments = kept image.segments; entry = image.entry };
  accepted = accepted image good few small;
  same = kept-same image;
}

-- the pieces, written one after the other, are the file
pub pieces-joined : (image : ImageData) (segments : List SegmentData) (entry place : ℕ) (none head table file : List ℕ) →
    segments ≡ image.segments → entry ≡ image.entry → place ≡ 52 + 32 * length segments → none ≡ [] →
    head ≡ none ++ file_header (length segments) entry → table ≡ head ++ table_from segments place → file ≡ table ++ content_of segments →
    file ≡ file_of image
unfolding file_of
pieces-joined image segments entry place none head table file es ee ep en eh et ef =
    let n = length segments in
    let h = file_header n entry in
    let begun : head ≡ h = eh ∙ ap (λ (l : List ℕ). l ++ h) en in
    let more : table ≡ h ++ table_from segments (52 + 32 * n) = et ∙ ap (λ (l : List ℕ). l ++ table_from segments place) begun
    ∙ ap (λ (k : ℕ). h ++ table_from segments k) ep in
    ef ∙ ap (λ (l : List ℕ). l ++ content_of segments) more
    ∙ append_assoc h (table_from segments (52 + 32 * n)) (content_of segments)
    ∙ ap (λ (l : List SegmentData). file_header (length l) entry ++ (table_from l (52 + 32 * length l) ++ content_of l)) es
    ∙ ap (λ (k : ℕ). file_header (length image.segments) k
    ++ (table_from image.segments (52 + 32 * length image.segments) ++ content_of image.segments)) ee
