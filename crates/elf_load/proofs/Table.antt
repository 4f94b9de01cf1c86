-- How a table of program headers is tried header by header.
use Rattle.std.proofs.Common.{◌≡◌, ℕ, ◌+◌, ◌<◌, ◌≤◌, Bool, false, true, not, ◌&&◌, List, [], ◌∷◌, ◌++◌, length, take, drop, map, filter}
use Rattle.std.proofs.Common.{position, All, Option, Some, None, refl, ap, ◌∙◌, sym, cond, get_or, arith, Ok, Err}
use Rattle.std.proofs.lemmas.Bool.{ltb-false}
use Rattle.std.proofs.lemmas.Bool.Decides.{nat_tests}
use Rattle.std.proofs.lemmas.List.{map-append, append-nil, take_more, drop_more, drop_all, take_all, length-take}
use Rattle.std.proofs.lemmas.List.Elements.{All-nil, All-push, All-head, All-tail, All-map, All-filter, All-same, filter_passes}
use Rattle.std.proofs.lemmas.List.Elements.{filter-append}
use Rattle.std.proofs.lemmas.List.Sums.{prefix_len_passes}
use Rattle.std.specs.List.{position_or_len}
use Rattle.sn_base.specs.Blocks.{ram_start, ram_size}
use Rattle.sn_base.specs.Image.{SegmentData, overlaps, IsSegment, AreApart}
use Rattle.elf_load.specs.declared.fault.LoadCause.{LoadCause}
use Rattle.elf_load.specs.declared.program_header.ProgramHeader.{ProgramHeader}
use Rattle.elf_load.specs.Elf.{Step, first_refusal, refuse_if, is_apart, is_inside, is_executed, is_written, loads, shares, segment_of}
use Rattle.elf_load.specs.Elf.{segments_of, header_step, table_step}

-- the segments so far with one more stay apart where none of them shares a byte with it
pub apart-more : (segments : List SegmentData) (s : SegmentData) → AreApart segments → All (λ t. overlaps t s ≡ false) segments →
    AreApart (segments ++ s ∷ [])
apart-more [] s h g = (All-nil (λ t. overlaps s t ≡ false), tt)
apart-more (t ∷ segments) s h g = (
  All-push (λ u. overlaps t u ≡ false) segments s h.0 (All-head (λ u. overlaps u s ≡ false) t segments g),
  apart-more segments s h.1 (All-tail (λ u. overlaps u s ≡ false) t segments g),
)

none-means_false : (b : Bool) (place : ℕ) → cond b (Some place) None ≡ None → b ≡ false
none-means_false true place e = absurd (cc)
none-means_false false place e = refl

not-false : (b : Bool) → not b ≡ true → b ≡ false
not-false true e = sym e
not-false false e = refl

second-false : (a b : Bool) → (a && b) ≡ false → a ≡ true → b ≡ false
second-false true b e t = e
second-false false b e t = absurd (cc)

-- where there is no first header that passes a test, none does
none-passes : (p : ProgramHeader → Bool) (headers : List ProgramHeader) → position p headers ≡ None → All (λ g. p g ≡ false) headers
none-passes p headers none k d below =
    let far : length headers ≤ position_or_len p headers = ltb-false _ _ (none-means_false _ _ none) in
    not-false (p (get_or headers k d)) (prefix_len_passes (λ g. not (p g)) headers k d (omega arith))

-- the header's segment overlaps none of those that the earlier headers load
pub none-overlaps : (bytes : List ℕ) (earlier : List ProgramHeader) (h : ProgramHeader) →
    position (λ g. loads g && shares g h) earlier ≡ None → All (λ s. overlaps s (segment_of bytes h) ≡ false) (segments_of bytes earlier)
none-overlaps bytes earlier h none =
    let alone = All-filter loads (λ g. (loads g && shares g h) ≡ false) earlier (none-passes (λ g. loads g && shares g h) earlier none) in
    let loaded = filter_passes loads earlier in
    All-map (λ s. overlaps s (segment_of bytes h) ≡ false) (segment_of bytes) (filter loads earlier)
    (λ k d below. second-false (loads (get_or (filter loads earlier) k d)) (shares (get_or (filter loads earlier) k d) h) (alone k d below)
    (loaded k d below))

-- a step that is passed is followed by the others
first-passes : (s : Step) (steps : List Step) → first_refusal (s ∷ steps) ≡ Ok tt → (s ≡ Ok tt) × (first_refusal steps ≡ Ok tt)
first-passes (Err cause) steps e = absurd (cc)
first-passes (Ok passed) steps e = (refl, e)

if-passes : (b : Bool) (cause : LoadCause) → refuse_if b cause ≡ Ok tt → b ≡ false
if-passes true cause e = absurd (cc)
if-passes false cause e = refl

apart-passes : (o : Option ℕ) (n : ℕ) → is_apart o n ≡ Ok tt → o ≡ None
apart-passes None n e = refl
apart-passes (Some k) n e = absurd (cc)

-- a header that passes is within the file, loads a good segment, and shares a byte with none before it
pub record Passes (bytes : List ℕ) (earlier : List ProgramHeader) (h : ProgramHeader) : Type 0 where
  pub reached : h.offset + h.file_size ≤ length bytes
  pub good : IsSegment (segment_of bytes h)
  pub alone : position (λ g. loads g && shares g h) earlier ≡ None

either-order : (a b : Bool) → (a && b) ≡ false → (b && a) ≡ false
either-order true true e = e
either-order true false e = refl
either-order false true e = refl
either-order false false e = refl

inside-start : (h : ProgramHeader) → not (is_inside h) ≡ false → ram_start ≤ h.address
inside-start h e = grind (arith, nat_tests)

inside-end : (h : ProgramHeader) → not (is_inside h) ≡ false → h.address + h.memory_size ≤ ram_start + ram_size
inside-end h e = grind (arith, nat_tests)

pub header_step-passes : (bytes : List ℕ) (earlier : List ProgramHeader) (h : ProgramHeader) → header_step bytes earlier h ≡ Ok tt →
    Passes bytes earlier h
unfolding header_step
header_step-passes bytes earlier h e =
    let sizes = first-passes _ _ e in
    let reach = first-passes _ _ sizes.1 in
    let inside = first-passes _ _ reach.1 in
    let safe = first-passes _ _ inside.1 in
    let alone = first-passes _ _ safe.1 in
    let small : h.file_size ≤ h.memory_size = ltb-false _ _ (if-passes _ _ sizes.0) in
    let in_ram = if-passes _ _ inside.0 in
    record {
      reached = ltb-false _ _ (if-passes _ _ reach.0);
      good = record {
        above = inside-start h in_ram;
        below = inside-end h in_ram;
        filled = omega (arith, length-take h.file_size (drop h.offset bytes));
        protected = either-order (is_executed h) (is_written h) (if-passes _ _ safe.0);
      };
      alone = apart-passes _ _ alone.0;
    }

only : (s : Step) → first_refusal (s ∷ []) ≡ s
only (Err cause) = refl
only (Ok passed) = refl

-- a header that loads nothing is passed over
pub table_step-over : (bytes : List ℕ) (earlier rest : List ProgramHeader) (h : ProgramHeader) → loads h ≡ false →
    table_step bytes earlier (h ∷ rest) ≡ table_step bytes (earlier ++ h ∷ []) rest
unfolding table_step
table_step-over bytes earlier rest h e = rw e (only (table_step bytes (earlier ++ h ∷ []) rest))

pub table_step-next : (bytes : List ℕ) (earlier rest : List ProgramHeader) (h : ProgramHeader) → loads h ≡ true →
    header_step bytes earlier h ≡ Ok tt → table_step bytes earlier (h ∷ rest) ≡ table_step bytes (earlier ++ h ∷ []) rest
unfolding table_step
table_step-next bytes earlier rest h e passes = rw (e, passes) (only (table_step bytes (earlier ++ h ∷ []) rest))

pub table_step-refuses : (bytes : List ℕ) (earlier rest : List ProgramHeader) (h : ProgramHeader) (cause : LoadCause) → loads h ≡ true →
    header_step bytes earlier h ≡ Err cause → table_step bytes earlier (h ∷ rest) ≡ Err cause
unfolding table_step
table_step-refuses bytes earlier rest h cause e refused = rw (e, refused) refl

pub segments_of-over : (bytes : List ℕ) (earlier : List ProgramHeader) (h : ProgramHeader) → loads h ≡ false →
    segments_of bytes (earlier ++ h ∷ []) ≡ segments_of bytes earlier
segments_of-over bytes earlier h e = ap (map (segment_of bytes)) (filter-append loads earlier (h ∷ []) ∙ rw (e, append-nil))

pub segments_of-next : (bytes : List ℕ) (earlier : List ProgramHeader) (h : ProgramHeader) → loads h ≡ true →
    segments_of bytes (earlier ++ h ∷ []) ≡ segments_of bytes earlier ++ segment_of bytes h ∷ []
segments_of-next bytes earlier h e =
    ap (map (segment_of bytes)) (filter-append loads earlier (h ∷ []) ∙ rw e)
    ∙ map-append (segment_of bytes) (filter loads earlier) (h ∷ [])

-- what is kept true while the headers of a table are tried
pub record IsTriedTo (bytes : List ℕ) (headers : List ProgramHeader) (segments : List SegmentData) (i : ℕ) : Type 0 where
  pub tried : table_step bytes (take i headers) (drop i headers) ≡ table_step bytes [] headers
  pub same : segments ≡ segments_of bytes (take i headers)
  pub each : All IsSegment segments
  pub apart : AreApart segments

pub tried-over : (bytes : List ℕ) (headers : List ProgramHeader) (segments : List SegmentData) (i : ℕ) (h d : ProgramHeader) →
    i < length headers → h ≡ get_or headers i d → loads h ≡ false → IsTriedTo bytes headers segments i →
    IsTriedTo bytes headers segments (i + 1)
tried-over bytes headers segments i h d b e skipped t =
    let earlier : take (i + 1) headers ≡ take i headers ++ h ∷ [] = take_more headers i d b
    ∙ ap (λ (g : ProgramHeader). take i headers ++ g ∷ []) (sym e) in
    let rest : drop i headers ≡ h ∷ drop (i + 1) headers = drop_more headers i d b
    ∙ ap (λ (g : ProgramHeader). g ∷ drop (i + 1) headers) (sym e) in
    record {
      tried =
          ap (λ (l : List ProgramHeader). table_step bytes l (drop (i + 1) headers)) earlier
          ∙ sym (table_step-over bytes (take i headers) (drop (i + 1) headers) h skipped)
          ∙ ap (table_step bytes (take i headers)) (sym rest) ∙ t.tried;
      same = t.same ∙ sym (ap (segments_of bytes) earlier ∙ segments_of-over bytes (take i headers) h skipped);
      each = t.each;
      apart = t.apart;
    }

pub tried-next : (bytes : List ℕ) (headers : List ProgramHeader) (segments : List SegmentData) (i : ℕ) (h d : ProgramHeader) →
    i < length headers → h ≡ get_or headers i d → loads h ≡ true → header_step bytes (take i headers) h ≡ Ok tt →
    IsTriedTo bytes headers segments i → IsTriedTo bytes headers (segments ++ segment_of bytes h ∷ []) (i + 1)
tried-next bytes headers segments i h d b e loads passes t =
    let earlier : take (i + 1) headers ≡ take i headers ++ h ∷ [] = take_more headers i d b
    ∙ ap (λ (g : ProgramHeader). take i headers ++ g ∷ []) (sym e) in
    let rest : drop i headers ≡ h ∷ drop (i + 1) headers = drop_more headers i d b
    ∙ ap (λ (g : ProgramHeader). g ∷ drop (i + 1) headers) (sym e) in
    let good = header_step-passes bytes (take i headers) h passes in
    record {
      tried =
          ap (λ (l : List ProgramHeader). table_step bytes l (drop (i + 1) headers)) earlier
          ∙ sym (table_step-next bytes (take i headers) (drop (i + 1) headers) h loads passes)
          ∙ ap (table_step bytes (take i headers)) (sym rest) ∙ t.tried;
      same =
          ap (λ (l : List SegmentData). l ++ segment_of bytes h ∷ []) t.same
          ∙ sym (ap (segments_of bytes) earlier ∙ segments_of-next bytes (take i headers) h loads);
      each = All-push IsSegment segments (segment_of bytes h) t.each good.good;
      apart =
          apart-more segments (segment_of bytes h) t.apart
          (All-same (λ s. overlaps s (segment_of bytes h) ≡ false) segments (segments_of bytes (take i headers)) t.same
          (none-overlaps bytes (take i headers) h good.alone));
    }

pub tried-refuses : (bytes : List ℕ) (headers : List ProgramHeader) (segments : List SegmentData) (i : ℕ) (h d : ProgramHeader)
    (cause : LoadCause) → i < length headers → h ≡ get_or headers i d → loads h ≡ true → header_step bytes (take i headers) h ≡ Err cause →
    IsTriedTo bytes headers segments i → table_step bytes [] headers ≡ Err cause
tried-refuses bytes headers segments i h d cause b e loads refused t =
    let rest : drop i headers ≡ h ∷ drop (i + 1) headers = drop_more headers i d b
    ∙ ap (λ (g : ProgramHeader). g ∷ drop (i + 1) headers) (sym e) in
    sym t.tried ∙ ap (table_step bytes (take i headers)) rest
    ∙ table_step-refuses bytes (take i headers) (drop (i + 1) headers) h cause loads refused

pub tried-all : (bytes : List ℕ) (headers : List ProgramHeader) (segments : List SegmentData) (i : ℕ) → length headers ≤ i →
    IsTriedTo bytes headers segments i → table_step bytes [] headers ≡ Ok tt
unfolding table_step
tried-all bytes headers segments i b t = sym t.tried ∙ ap (table_step bytes (take i headers)) (drop_all i headers b)

pub tried-same : (bytes : List ℕ) (headers : List ProgramHeader) (segments : List SegmentData) (i : ℕ) → length headers ≤ i →
    IsTriedTo bytes headers segments i → segments ≡ segments_of bytes headers
tried-same bytes headers segments i b t = t.same ∙ ap (segments_of bytes) (take_all i headers b)
