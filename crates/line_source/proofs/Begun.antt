-- A line that has begun, piece by piece.
use Rattle.std.proofs.Common.{◌≡◌, ℕ, zero, suc, ◌+◌, ◌-◌, ◌<◌, ◌≤◌, Bool, true, false, cond, List, [], ◌∷◌, ◌++◌, take, drop, length, refl, ap, sym, subst, ◌∙◌}
use Rattle.std.proofs.Common.{append_assoc, append-nil, length-append, get_or, get_or-take, arith}
use Rattle.std.proofs.lemmas.Bool.Decides.{nat_tests}
use Rattle.std.proofs.lemmas.List.{length-take, take_all, take-append-drop, take-append-le, take-take}
use Rattle.std.proofs.lemmas.List.Elements.{All-head, All-tail}
use Rattle.std.proofs.lemmas.List.Quantifiers.{position-Some}
use Rattle.std.proofs.lemmas.List.Sums.{fails_before_first}
use Rattle.std.proofs.Math.Seq.{take-append-add}
use Rattle.std.specs.Prelude.{Option, Some, None, IfSome, nat_le, nat_lt, nat_eq, slice_index, min}
use Rattle.std.specs.List.{position, position_or_len}
use Rattle.std.specs.Io.{StartsWith}
use Rattle.std.specs.Io.KnownBytes.{Keeps}
use Rattle.std.specs.Io.BufRead.{DropsConsumable}
use Rattle.text_lines.specs.Lines.{is_line_feed, without_return}
use Rattle.line_source.specs.Lines.{LineRead, as_read, TooLong}
use Rattle.line_source.specs.Reading.{first_from, line_in, kept_of, HasNoEnd, TakesPiece}
use Rattle.line_source.specs.declared.reader_lines.Piece.{Piece}
use Rattle.line_source.specs.declared.reader_lines.Piece.TheVariants.{Ended, Open, Over}
use Rattle.line_source.specs.declared.room.TheConstants.{LINE_MOST, ROOM}

-- what a reader holds

at-feed : (byte : ℕ) → is_line_feed byte ≡ true → byte ≡ 10
at-feed byte is = grind (arith, nat_tests)

-- an end among the bytes that it holds
held-ended : (held others : List ℕ) (n : ℕ) → n < length held → is_line_feed (get_or held n 0) ≡ true →
    held ++ others ≡ take n held ++ 10 ∷ drop (suc n) (held ++ others)
held-ended [] others n few feed = absurd (omega arith)
held-ended (x ∷ xs) others zero few feed = ap (λ b. b ∷ (xs ++ others)) (at-feed x feed)
held-ended (x ∷ xs) others (suc n) few feed = ap (λ t. x ∷ t) (held-ended xs others n (omega arith) feed)

none-before : (held : List ℕ) (n : ℕ) → ((k d : ℕ) → k < n → is_line_feed (get_or held k d) ≡ false) → HasNoEnd (take n held)
none-before held n others = λ k d h.
    let few : k < n = omega (arith, h, length-take n held) in
    ap is_line_feed (get_or-take n held k d few) ∙ others k d few

not-found : (text : List ℕ) → position is_line_feed text ≡ None → length text ≤ position_or_len is_line_feed text
not-found text e = by_test (nat_lt (position_or_len is_line_feed text) (length text)) refl e where
  by_test : (b : Bool) → nat_lt (position_or_len is_line_feed text) (length text) ≡ b →
      cond b (Some (position_or_len is_line_feed text)) None ≡ (let none : Option ℕ = None in none) →
      length text ≤ position_or_len is_line_feed text
  by_test false t h = grind (arith, nat_tests, t)
  by_test true t h = absurd (cc)

module _ (bytes held : List ℕ) (front : take (length held) bytes ≡ held) where
  held-first : held ++ drop (length held) bytes ≡ bytes
  held-first = ap (λ t. t ++ drop (length held) bytes) (sym front) ∙ take-append-drop (length held) bytes

  module _ (n : ℕ) (is : position is_line_feed held ≡ Some n) where
    end-inside : n + 1 ≤ length held
    end-inside = let p = position-Some is_line_feed held n 0 is in omega (arith, p.0)

    takes-ended : (left : Option (List ℕ)) (room filled : List ℕ) → left ≡ Some (drop (n + 1) bytes) → filled ≡ kept_of (room ++ take n held) →
        TakesPiece bytes left room filled Ended
    takes-ended left room filled dropped added =
        let p = position-Some is_line_feed held n 0 is in
        let one : suc n ≡ n + 1 = omega arith in (
          take n held,
          drop (n + 1) bytes,
          none-before held n (λ k d h. (position-Some is_line_feed held n d is).2 k h),
          sym held-first ∙ held-ended held (drop (length held) bytes) n p.0 p.1
              ∙ ap (λ t. take n held ++ 10 ∷ drop (suc n) t) held-first
              ∙ ap (λ m. take n held ++ 10 ∷ drop m bytes) one,
          dropped,
          added,
        )

  takes-open : position is_line_feed held ≡ None → (left : Option (List ℕ)) (room filled : List ℕ) →
      left ≡ Some (drop (length held) bytes) → filled ≡ kept_of (room ++ held) → TakesPiece bytes left room filled Open
  takes-open is left room filled dropped added = (
    held,
    drop (length held) bytes,
    λ k d h. fails_before_first is_line_feed held k d (omega (arith, h, not-found held is)),
    sym held-first,
    dropped,
    added,
  )

-- the same, where the bytes may be known

within : (limit : Option ℕ) (a b : ℕ) → a ≤ b → IfSome limit (λ m. b ≤ m) → IfSome limit (λ m. a ≤ m)
within None a b less h = tt
within (Some m) a b less h = omega (arith, less, h)

pub known-over : (known left : Option (List ℕ)) (held room : List ℕ) → Keeps known left → IfSome known (λ xs. length held ≡ 0 → xs ≡ []) →
    length held ≡ 0 → IfSome known (λ bytes. TakesPiece bytes left room room Over)
known-over None left held room same end none = tt
known-over (Some xs) None held room same end none = absurd same
known-over (Some xs) (Some ys) held room same end none = (end none, ap (λ (t : List ℕ). Some t) (same ∙ end none), refl)

module _ (limit : Option ℕ) (left : Option (List ℕ)) (held room filled : List ℕ) where
  pub known-ended : (known mid : Option (List ℕ)) (n : ℕ) → Keeps known mid → IfSome known (λ _. IfSome limit (λ m. length held ≤ m)) →
      DropsConsumable mid left limit (n + 1) → IfSome known (λ xs. StartsWith xs held) → position is_line_feed held ≡ Some n →
      filled ≡ kept_of (room ++ take n held) → IfSome known (λ bytes. TakesPiece bytes left room filled Ended)
  known-ended None mid n same most drops front is added = tt
  known-ended (Some xs) None n same most drops front is added = absurd same
  known-ended (Some xs) (Some ys) n same most drops front is added =
      takes-ended xs held front n is left room filled
      (drops (within limit (n + 1) (length held) (end-inside xs held front n is) most) ∙ ap (λ (t : List ℕ). Some (drop (n + 1) t)) same) added

  pub known-open : (known mid : Option (List ℕ)) → Keeps known mid → IfSome known (λ _. IfSome limit (λ m. length held ≤ m)) →
      DropsConsumable mid left limit (length held) → IfSome known (λ xs. StartsWith xs held) → position is_line_feed held ≡ None →
      filled ≡ kept_of (room ++ held) → IfSome known (λ bytes. TakesPiece bytes left room filled Open)
  known-open None mid same most drops front is added = tt
  known-open (Some xs) None same most drops front is added = absurd same
  known-open (Some xs) (Some ys) same most drops front is added =
      takes-open xs held front is left room filled
      (drops (within limit (length held) (length held) (omega arith) most) ∙ ap (λ (t : List ℕ). Some (drop (length held) t)) same) added

-- what the room keeps of a line

take-over : (room piece : List ℕ) → length room ≤ ROOM → room ++ take (min (length piece) (ROOM - length room)) piece ≡ kept_of (room ++ piece)
take-over room piece few =
    let whole : length room + (ROOM - length room) ≡ ROOM = omega (arith, few) in
    ap (λ t. room ++ t) (cut (ROOM - length room)) ∙ sym (take-append-add room piece (ROOM - length room))
    ∙ ap (λ n. take n (room ++ piece)) whole
  where
    cut : (free : ℕ) → take (min (length piece) free) piece ≡ take free piece
    cut free = by_test (nat_le (length piece) free) refl where
      by_test : (t : Bool) → nat_le (length piece) free ≡ t → take (min (length piece) free) piece ≡ take free piece
      by_test true is =
          let less : length piece ≤ free = grind (arith, nat_tests, is) in
          take_all (min (length piece) free) piece (omega (arith, less)) ∙ sym (take_all free piece less)
      by_test false is =
          let more : free < length piece = grind (arith, nat_tests, is) in
          let same : min (length piece) free ≡ free = omega (arith, more) in
          ap (λ n. take n piece) same

pub added-is : (room piece fitting : List ℕ) (n free : ℕ) → length room ≤ ROOM → free ≡ ROOM - length room → n ≡ min (length piece) free →
    fitting ≡ take n piece → room ++ fitting ≡ kept_of (room ++ piece)
added-is room piece fitting n free few f m t =
    ap (λ (l : List ℕ). room ++ l) (t ∙ ap (λ k. take k piece) (m ∙ ap (λ k. min (length piece) k) f)) ∙ take-over room piece few

kept-more : (begun part : List ℕ) → kept_of (kept_of begun ++ part) ≡ kept_of (begun ++ part)
kept-more begun part = by_test (nat_le (length begun) ROOM) refl where
  by_test : (t : Bool) → nat_le (length begun) ROOM ≡ t → kept_of (kept_of begun ++ part) ≡ kept_of (begun ++ part)
  by_test true is =
      let few : length begun ≤ ROOM = grind (arith, nat_tests, is) in
      ap (λ t. kept_of (t ++ part)) (take_all ROOM begun few)
  by_test false is =
      let many : ROOM < length begun = grind (arith, nat_tests, is) in
      let full : ROOM ≤ length (take ROOM begun) = omega (arith, many, length-take ROOM begun) in
      take-append-le ROOM (take ROOM begun) part full ∙ take-take ROOM ROOM begun (omega arith)
      ∙ sym (take-append-le ROOM begun part (omega (arith, many)))

length-cut : (t : Bool) (line : List ℕ) → length line ≤ length (cond t (take (length line - 1) line) line) + 1
length-cut true line = omega (arith, length-take (length line - 1) line)
length-cut false line = omega arith

is-long : (line : List ℕ) → LINE_MOST < length line → as_read line ≡ TooLong
is-long line long = by_test (nat_le (length line) LINE_MOST) refl where
  by_test : (t : Bool) → nat_le (length line) LINE_MOST ≡ t → as_read line ≡ TooLong
  by_test true is = absurd (grind (arith, nat_tests, is, long))
  by_test false is = rw is refl

long-cut : (line : List ℕ) → LINE_MOST + 1 < length line → as_read (without_return line) ≡ TooLong
long-cut line long =
    is-long (without_return line) (omega (arith, long, length-cut (nat_eq (slice_index line (length line - 1)) 13) line))

-- a line is told alike by what is kept of it
kept-cut : (line : List ℕ) → as_read (without_return (kept_of line)) ≡ as_read (without_return line)
kept-cut line = by_test (nat_le (length line) ROOM) refl where
  by_test : (t : Bool) → nat_le (length line) ROOM ≡ t → as_read (without_return (kept_of line)) ≡ as_read (without_return line)
  by_test true is =
      let few : length line ≤ ROOM = grind (arith, nat_tests, is) in
      ap (λ t. as_read (without_return t)) (take_all ROOM line few)
  by_test false is =
      let many : ROOM < length line = grind (arith, nat_tests, is) in
      let full : LINE_MOST + 1 < length (take ROOM line) = omega (arith, many, length-take ROOM line) in
      long-cut (take ROOM line) full ∙ sym (long-cut line (omega (arith, many)))

kept-whole : (line : List ℕ) → as_read (kept_of line) ≡ as_read line
kept-whole line = by_test (nat_le (length line) ROOM) refl where
  by_test : (t : Bool) → nat_le (length line) ROOM ≡ t → as_read (kept_of line) ≡ as_read line
  by_test true is =
      let few : length line ≤ ROOM = grind (arith, nat_tests, is) in
      ap (λ t. as_read t) (take_all ROOM line few)
  by_test false is =
      let many : ROOM < length line = grind (arith, nat_tests, is) in
      let full : LINE_MOST < length (take ROOM line) = omega (arith, many, length-take ROOM line) in
      is-long (take ROOM line) full ∙ sym (is-long line (omega (arith, many)))

-- a line of these bytes has begun, and these are left
pub record HasBegun (bytes : List ℕ) (left : Option (List ℕ)) (room : List ℕ) : Type 0 where
  pub begun : List ℕ
  pub rest : List ℕ
  pub left_is : left ≡ Some rest
  pub whole : begun ++ rest ≡ bytes
  pub same : first_from begun rest ≡ first_from [] bytes
  pub holds : room ≡ kept_of begun

pub begun-starts : (bytes room : List ℕ) (left : Option (List ℕ)) → left ≡ Some bytes → room ≡ [] → HasBegun bytes left room
begun-starts bytes room left is empty = record { begun = []; rest = bytes; left_is = is; whole = refl; same = refl; holds = empty }

first-more : (part begun rest : List ℕ) → HasNoEnd part → first_from begun (part ++ rest) ≡ first_from (begun ++ part) rest
unfolding first_from
first-more [] begun rest none = ap (λ t. first_from t rest) (sym (append-nil begun))
first-more (byte ∷ part) begun rest none =
    rw (All-head (λ b. is_line_feed b ≡ false) byte part none)
    (first-more part (begun ++ byte ∷ []) rest (All-tail (λ b. is_line_feed b ≡ false) byte part none)
    ∙ ap (λ t. first_from t rest) (append_assoc begun (byte ∷ []) part))

first-ended : (begun rest : List ℕ) → first_from begun (10 ∷ rest) ≡ (without_return begun, rest)
unfolding first_from
first-ended begun rest = refl

first-last : (begun : List ℕ) → first_from begun [] ≡ (begun, [])
unfolding first_from
first-last begun = refl

-- the line of bytes of which there are some
line-there : (bytes : List ℕ) → 1 ≤ length bytes → line_in bytes ≡ as_read (first_from [] bytes).0 ∷ []
line-there [] some = absurd (omega (arith, some))
line-there (byte ∷ bytes) some = refl

no-line : (all : List ℕ) → length all ≡ 0 → [] ≡ line_in all
no-line [] none = refl
no-line (byte ∷ all) none = absurd (omega (arith, none))

taken-rest : (left : Option (List ℕ)) (rest : List ℕ) → left ≡ Some rest → (P : List ℕ → Type 0) → IfSome left P → P rest
taken-rest None rest is P h = cc
taken-rest (Some bytes) rest is P h = let same : bytes ≡ rest = cc in subst P same h

module _ (bytes : List ℕ) (left after : Option (List ℕ)) (room filled : List ℕ) (h : HasBegun bytes left room) where
  room-is : (part : List ℕ) → filled ≡ kept_of (room ++ part) → filled ≡ kept_of (h.begun ++ part)
  room-is part added = added ∙ ap (λ t. kept_of (t ++ part)) h.holds ∙ kept-more h.begun part

  -- a piece more
  pub begun-more : IfSome left (λ rest. TakesPiece rest after room filled Open) → HasBegun bytes after filled
  begun-more took =
      let t = taken-rest left h.rest h.left_is _ took in
      record {
        begun = h.begun ++ t.0;
        rest = t.1;
        left_is = t.4;
        whole = append_assoc h.begun t.0 t.1 ∙ ap (λ r. h.begun ++ r) (sym t.3) ∙ h.whole;
        same = sym (first-more t.0 h.begun t.1 t.2) ∙ ap (first_from h.begun) (sym t.3) ∙ h.same;
        holds = room-is t.0 t.5;
      }

  -- the line's end
  module _ (took : IfSome left (λ rest. TakesPiece rest after room filled Ended)) where
    abbrev last : List ℕ
    last = (taken-rest left h.rest h.left_is (λ rest. TakesPiece rest after room filled Ended) took).0

    abbrev others : List ℕ
    others = (taken-rest left h.rest h.left_is (λ rest. TakesPiece rest after room filled Ended) took).1

    ended : first_from [] bytes ≡ (without_return (h.begun ++ last), others)
    ended =
        let t = taken-rest left h.rest h.left_is (λ rest. TakesPiece rest after room filled Ended) took in
        sym h.same ∙ ap (first_from h.begun) t.3 ∙ first-more t.0 h.begun (10 ∷ t.1) t.2 ∙ first-ended (h.begun ++ t.0) t.1

    pub ended-rest : after ≡ Some (first_from [] bytes).1
    ended-rest =
        let t = taken-rest left h.rest h.left_is (λ rest. TakesPiece rest after room filled Ended) took in
        t.4 ∙ ap (λ (p : List ℕ × List ℕ). Some p.1) (sym ended)

    some-bytes : 1 ≤ length bytes
    some-bytes =
        let t = taken-rest left h.rest h.left_is (λ rest. TakesPiece rest after room filled Ended) took in
        omega (arith, ap length h.whole, length-append h.begun h.rest, ap length t.3, length-append t.0 (10 ∷ t.1))

    pub ended-line : as_read (without_return filled) ∷ [] ≡ line_in bytes
    ended-line =
        let t = taken-rest left h.rest h.left_is (λ rest. TakesPiece rest after room filled Ended) took in
        ap (λ l. as_read (without_return l) ∷ []) (room-is t.0 t.5) ∙ ap (λ l. l ∷ []) (kept-cut (h.begun ++ t.0))
        ∙ ap (λ (p : List ℕ × List ℕ). as_read p.0 ∷ []) (sym ended) ∙ sym (line-there bytes some-bytes)

  -- no byte is left
  module _ (took : IfSome left (λ rest. TakesPiece rest after room filled Over)) where
    begun-all : h.begun ≡ bytes
    begun-all =
        let t = taken-rest left h.rest h.left_is (λ rest. TakesPiece rest after room filled Over) took in
        sym (append-nil h.begun) ∙ ap (λ r. h.begun ++ r) (sym t.0) ∙ h.whole

    over : first_from [] bytes ≡ (h.begun, [])
    over =
        let t = taken-rest left h.rest h.left_is (λ rest. TakesPiece rest after room filled Over) took in
        sym h.same ∙ ap (first_from h.begun) t.0 ∙ first-last h.begun

    pub over-rest : after ≡ Some (first_from [] bytes).1
    over-rest =
        let t = taken-rest left h.rest h.left_is (λ rest. TakesPiece rest after room filled Over) took in
        t.1 ∙ ap (λ (p : List ℕ × List ℕ). Some p.1) (sym over)

    filled-is : filled ≡ kept_of h.begun
    filled-is =
        let t = taken-rest left h.rest h.left_is (λ rest. TakesPiece rest after room filled Over) took in
        t.2 ∙ h.holds

    some-begun : 1 ≤ length filled → 1 ≤ length bytes
    some-begun some = omega (arith, some, ap length filled-is, length-take ROOM h.begun, ap length begun-all)

    none-begun : length filled ≡ 0 → length bytes ≡ 0
    none-begun none = omega (arith, none, ap length filled-is, length-take ROOM h.begun, ap length begun-all)

    pub over-line : 1 ≤ length filled → as_read filled ∷ [] ≡ line_in bytes
    over-line some =
        ap (λ l. as_read l ∷ []) filled-is ∙ ap (λ l. l ∷ []) (kept-whole h.begun)
        ∙ ap (λ (p : List ℕ × List ℕ). as_read p.0 ∷ []) (sym over) ∙ sym (line-there bytes (some-begun some))

    pub over-none : length filled ≡ 0 → [] ≡ line_in bytes
    over-none empty = no-line bytes (none-begun empty)

-- the same, where the bytes may be known

module _ (left after : Option (List ℕ)) (room filled : List ℕ) (piece : Piece) (took : IfSome left (λ rest. TakesPiece rest after room filled piece)) where
  abbrev took-so : (kind : Piece) → piece ≡ kind → IfSome left (λ rest. TakesPiece rest after room filled kind)
  took-so kind is = subst (λ (k : Piece). IfSome left (λ rest. TakesPiece rest after room filled k)) is took

  pub known-more : (known : Option (List ℕ)) → piece ≡ Open → IfSome known (λ bytes. HasBegun bytes left room) →
      IfSome known (λ bytes. HasBegun bytes after filled)
  known-more None is h = tt
  known-more (Some bytes) is h = begun-more bytes left after room filled h (took-so Open is)

  pub known-ended-line : (known : Option (List ℕ)) (cut : List ℕ) (said : List LineRead) → piece ≡ Ended →
      IfSome known (λ bytes. HasBegun bytes left room) → cut ≡ without_return filled → said ≡ as_read cut ∷ [] →
      IfSome known (λ bytes. said ≡ line_in bytes)
  known-ended-line None cut said is h cut_is says = tt
  known-ended-line (Some bytes) cut said is h cut_is says =
      says ∙ ap (λ (l : List ℕ). as_read l ∷ []) cut_is ∙ ended-line bytes left after room filled h (took-so Ended is)

  pub known-ended-rest : (known : Option (List ℕ)) → piece ≡ Ended → IfSome known (λ bytes. HasBegun bytes left room) →
      IfSome known (λ bytes. after ≡ Some (first_from [] bytes).1)
  known-ended-rest None is h = tt
  known-ended-rest (Some bytes) is h = ended-rest bytes left after room filled h (took-so Ended is)

  pub known-over-line : (known : Option (List ℕ)) (said : List LineRead) → piece ≡ Over → IfSome known (λ bytes. HasBegun bytes left room) →
      1 ≤ length filled → said ≡ as_read filled ∷ [] → IfSome known (λ bytes. said ≡ line_in bytes)
  known-over-line None said is h some says = tt
  known-over-line (Some bytes) said is h some says = says ∙ over-line bytes left after room filled h (took-so Over is) some

  pub known-over-none : (known : Option (List ℕ)) → piece ≡ Over → IfSome known (λ bytes. HasBegun bytes left room) → length filled ≡ 0 →
      IfSome known (λ bytes. [] ≡ line_in bytes)
  known-over-none None is h none = tt
  known-over-none (Some bytes) is h none = over-none bytes left after room filled h (took-so Over is) none

  pub known-over-rest : (known : Option (List ℕ)) → piece ≡ Over → IfSome known (λ bytes. HasBegun bytes left room) →
      IfSome known (λ bytes. after ≡ Some (first_from [] bytes).1)
  known-over-rest None is h = tt
  known-over-rest (Some bytes) is h = over-rest bytes left after room filled h (took-so Over is)
