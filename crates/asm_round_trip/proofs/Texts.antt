-- The text of a list of words is assembled to the list.
use Rattle.std.proofs.Common.{◌≡◌, ℕ, ◌+◌, ◌-◌, ◌<◌, ◌≤◌, ◌^◌, true, List, [], ◌∷◌, ◌++◌, length, get_or, map, All, codes, Option, Some}
use Rattle.std.proofs.Common.{None, Result, Ok, refl, sym, ap, ◌∙◌, arith, append_assoc, append-nil}
use Rattle.std.proofs.lemmas.Bool.{and_parts, lt-leb}
use Rattle.std.proofs.lemmas.List.{length-append}
use Rattle.std.proofs.lemmas.List.Elements.{All-head, All-tail}
use Rattle.text_lines.specs.Lines.{without_return, lines_from}
use Rattle.rv_statement.specs.Lines.{bare, without_outer_blanks, cut}
use Rattle.rv_statement.specs.Reading.{statement_of, nothing, said, fixed}
use Rattle.rv_asm.specs.declared.fault.AsmCause.{AsmCause}
use Rattle.rv_asm.specs.Assembly.{known, Listing, with_line, listed_from, words_from, words_of, nothing_listed, asm_of}
use Rattle.rv_asm.specs.Text.{word_text, dis_of}
use Rattle.asm_round_trip.specs.RoundTrip.{HasText, ReadsBack}
use Rattle.asm_round_trip.proofs.Bytes.{all, all-at, is_inner, inner-no_feed, inner-no_return}
use Rattle.asm_round_trip.proofs.Lines.{word_text-line}

-- ---- the lines

line-ends : (begun line rest : List ℕ) → all is_inner line ≡ true →
    lines_from begun (line ++ 10 ∷ rest) ≡ without_return (begun ++ line) ∷ lines_from [] rest
unfolding lines_from
line-ends begun [] rest h = rw (append-nil begun) refl
line-ends begun (byte ∷ line) rest h =
    let p = and_parts (is_inner byte) (all is_inner line) h in
    rw (inner-no_feed byte p.0)
    (line-ends (begun ++ byte ∷ []) line rest p.1
    ∙ ap (λ (l : List ℕ). without_return l ∷ lines_from [] rest) (append_assoc begun (byte ∷ []) line))

no-return : (line : List ℕ) → all is_inner line ≡ true → without_return line ≡ line
no-return [] h = refl
no-return (byte ∷ line) h =
    rw (inner-no_return (get_or (byte ∷ line) (length (byte ∷ line) - 1) 0)
    (all-at is_inner (byte ∷ line) (length (byte ∷ line) - 1) h (omega arith))) refl

-- the line of each word, and an empty line at the end
abbrev word_lines : List ℕ → List (List ℕ)
word_lines [] = [] ∷ []
word_lines (word ∷ words) = word_text word ∷ word_lines words

lines-are : (words : List ℕ) → All (λ word. word < 2 ^ 32) words → lines_from [] (dis_of words) ≡ word_lines words
unfolding lines_from dis_of
lines-are [] small = refl
lines-are (word ∷ words) small =
    let l = word_text-line word (All-head (λ w. w < 2 ^ 32) word words small) in
    ap (lines_from []) (append_assoc (word_text word) (codes "\n") (dis_of words))
    ∙ line-ends [] (word_text word) (dis_of words) l.inner
    ∙ ap (λ (line : List ℕ). line ∷ lines_from [] (dis_of words)) (no-return (word_text word) l.inner)
    ∙ ap (λ (lines : List (List ℕ)). word_text word ∷ lines) (lines-are words (All-tail (λ w. w < 2 ^ 32) word words small))

-- ---- the first pass

abbrev longer : Listing → List ℕ → Listing
longer listing words = record { items = listing.items ++ map known words; places = listing.places }

empty-says : statement_of (bare []) ≡ nothing
unfolding statement_of bare without_outer_blanks cut
empty-says = refl

-- the empty line at the end of a text
none-more : (number : ℕ) (listing : Listing) → listed_from number listing ([] ∷ []) ≡ Ok listing
unfolding listed_from
none-more number listing =
    let adds : with_line number listing (statement_of (bare [])) ≡ Ok listing = ap (with_line number listing) empty-says in
    rw (adds, listed_from)

one-more : (number : ℕ) (listing : Listing) (word : ℕ) (line : List ℕ) (lines : List (List ℕ)) → length listing.items < 1048576 →
    statement_of (bare line) ≡ said (fixed (Some word)) →
    listed_from number listing (line ∷ lines) ≡ listed_from (number + 1) (longer listing (word ∷ [])) lines
unfolding listed_from
one-more number listing word line lines room says =
    let adds : with_line number listing (statement_of (bare line)) ≡ Ok (longer listing (word ∷ [])) = ap (with_line number listing) says
    ∙ rw (lt-leb 1048576 (length listing.items) room) refl in
    rw (adds, listed_from)

same-listing : (listing : Listing) (word : ℕ) (words : List ℕ) → longer (longer listing (word ∷ [])) words ≡ longer listing (word ∷ words)
same-listing listing word words =
    ap (λ items. let l : Listing = record { items = items; places = listing.places } in l)
    (append_assoc listing.items (known word ∷ []) (map known words))

first-pass : (number : ℕ) (listing : Listing) (words : List ℕ) → All (λ word. word < 2 ^ 32) words →
    length listing.items + length words ≤ 1048576 →
    listed_from number listing (word_lines words) ≡ Ok (longer listing words)
unfolding listed_from
first-pass number listing [] small few =
    none-more number listing
    ∙ ap (λ items. let r : Result Listing AsmCause = Ok (record { items = items; places = listing.places }) in r)
    (sym (append-nil listing.items))
first-pass number listing (word ∷ words) small few =
    let l = word_text-line word (All-head (λ w. w < 2 ^ 32) word words small) in
    one-more number listing word (word_text word) (word_lines words) (omega arith) l.says
    ∙ first-pass (number + 1) (longer listing (word ∷ [])) words (All-tail (λ w. w < 2 ^ 32) word words small)
    (omega (arith, length-append listing.items (known word ∷ [])))
    ∙ ap (λ listing. let r : Result Listing AsmCause = Ok listing in r) (same-listing listing word words)

-- ---- the second pass

second-pass : (places : List ℕ → Option ℕ) (before words : List ℕ) → words_from places before (map known words) ≡ Ok (before ++ words)
unfolding words_from
second-pass places before [] = ap Ok (sym (append-nil before))
second-pass places before (word ∷ words) = second-pass places (before ++ word ∷ []) words ∙ ap Ok (append_assoc before (word ∷ []) words)

pub text-reads_back : (words : List ℕ) → HasText words → ReadsBack words
unfolding asm_of
text-reads_back words h =
    ap (λ lines. words_of (listed_from 1 nothing_listed lines)) (lines-are words h.small)
    ∙ ap words_of (first-pass 1 nothing_listed words h.small (omega (arith, h.few)))
    ∙ second-pass (λ name. None) [] words
