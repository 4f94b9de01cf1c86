-- Where a text is cut, and what is left without the blanks at its ends.
use Rattle.std.proofs.Common.{◌≡◌, ℕ, suc, ◌+◌, Bool, true, false, not, List, [], ◌∷◌, ◌++◌, length, get_or, drop, reverse, Option, Some}
use Rattle.std.proofs.Common.{None, refl, ap, ◌∙◌, arith, add-one}
use Rattle.std.proofs.lemmas.Bool.{and_parts, not-true, lt-ltb, le-ltb}
use Rattle.std.proofs.lemmas.List.{length-append, reverse-reverse, take_at}
use Rattle.std.specs.List.{position, position_or_len}
use Rattle.rv_statement.specs.Lines.{is_blank, without_blanks, without_outer_blanks, cut, cut_at}
use Rattle.asm_round_trip.proofs.Bytes.{all, none, is_solid, Begins, Ends, solid-begins, solid-ends}

found-at : (test : ℕ → Bool) (front rest : List ℕ) (byte : ℕ) → none test front ≡ true → test byte ≡ true →
    position_or_len test (front ++ byte ∷ rest) ≡ length front
found-at test [] rest byte h is = rw is refl
found-at test (x ∷ front) rest byte h is =
    let p = and_parts (not (test x)) (none test front) h in
    rw (not-true (test x) p.0) (omega (arith, found-at test front rest byte p.1 is))

found-nowhere : (test : ℕ → Bool) (text : List ℕ) → none test text ≡ true → position_or_len test text ≡ length text
found-nowhere test [] h = refl
found-nowhere test (x ∷ text) h =
    let p = and_parts (not (test x)) (none test text) h in
    rw (not-true (test x) p.0) (omega (arith, found-nowhere test text p.1))

rest-past : (front rest : List ℕ) (byte : ℕ) → drop (suc (length front)) (front ++ byte ∷ rest) ≡ rest
rest-past [] rest byte = refl
rest-past (x ∷ front) rest byte = rest-past front rest byte

rest-after : (front rest : List ℕ) (byte : ℕ) → drop (length front + 1) (front ++ byte ∷ rest) ≡ rest
rest-after front rest byte = rw add-one (rest-past front rest byte)

position-at : (test : ℕ → Bool) (front rest : List ℕ) (byte : ℕ) → none test front ≡ true → test byte ≡ true →
    position test (front ++ byte ∷ rest) ≡ Some (length front)
position-at test front rest byte h is =
    rw (
      found-at test front rest byte h is,
      lt-ltb (length front) (length (front ++ byte ∷ rest)) (omega (arith, length-append front (byte ∷ rest))),
    ) refl

-- cut at the first byte that passes
pub cut-at : (test : ℕ → Bool) (front rest : List ℕ) (byte : ℕ) → none test front ≡ true → test byte ≡ true →
    cut test (front ++ byte ∷ rest) ≡ Some (front, rest)
unfolding cut
cut-at test front rest byte h is =
    ap (cut_at (front ++ byte ∷ rest)) (position-at test front rest byte h is)
    ∙ ap (λ (l : List ℕ). let cut : Option (List ℕ × List ℕ) = Some (l, drop (length front + 1) (front ++ byte ∷ rest)) in cut)
    (take_at front (byte ∷ rest) (length front) refl)
    ∙ ap (λ (l : List ℕ). let cut : Option (List ℕ × List ℕ) = Some (front, l) in cut) (rest-after front rest byte)

pub cut-nowhere : (test : ℕ → Bool) (text : List ℕ) → none test text ≡ true → cut test text ≡ None
unfolding cut
cut-nowhere test text h = rw (found-nowhere test text h, le-ltb (length text) (length text) (omega arith)) refl

skipped-none : (text : List ℕ) → is_blank (get_or text 0 0) ≡ false → without_blanks text ≡ text
skipped-none [] h = refl
skipped-none (x ∷ text) h = rw h refl

pub trimmed-none : (text : List ℕ) → Begins text → Ends text → without_outer_blanks text ≡ text
unfolding without_outer_blanks
trimmed-none text b e = rw (skipped-none text b.first, skipped-none (reverse text) e.last) (reverse-reverse text)

-- a blank at the front
pub trimmed-blank : (text : List ℕ) → Begins text → Ends text → without_outer_blanks (32 ∷ text) ≡ text
unfolding without_outer_blanks
trimmed-blank text b e = rw (skipped-none text b.first, skipped-none (reverse text) e.last) (reverse-reverse text)

pub trimmed-solid : (text : List ℕ) → all is_solid text ≡ true → without_outer_blanks text ≡ text
unfolding without_outer_blanks
trimmed-solid [] h = refl
trimmed-solid (x ∷ text) h = trimmed-none (x ∷ text) (solid-begins (x ∷ text) h (omega arith)) (solid-ends (x ∷ text) h (omega arith))
