-- How the texts grow by one line.
use Rattle.std.proofs.Common.{◌≡◌, ℕ, zero, suc, ◌+◌, ◌<◌, List, [], ◌∷◌, ◌++◌, length, get_or, take, refl, ap, ◌∙◌, append-nil, add-one}
use Rattle.std.proofs.Common.{arith}
use Rattle.std.proofs.lemmas.List.{take_more}
use Rattle.std.proofs.lemmas.List.Concat.{flat_map-append}
use Rattle.std.specs.List.{flat_map, range_with_len}
use Rattle.sn_base.specs.Image.{SegmentData}
use Rattle.asm_texts.specs.Texts.{digits_line, words_text, place_lines, first_lines, listing}

one-more : (f : ℕ → List ℕ) (xs : List ℕ) (x : ℕ) → flat_map f (xs ++ x ∷ []) ≡ flat_map f xs ++ f x
one-more f xs x = flat_map-append f xs (x ∷ []) ∙ ap (λ (l : List ℕ). flat_map f xs ++ l) (append-nil (f x))

pub words-more : (words : List ℕ) (i : ℕ) → i < length words →
    words_text (take (i + 1) words) ≡ words_text (take i words) ++ digits_line (get_or words i 0)
words-more words i h = ap words_text (take_more words i 0 h) ∙ one-more digits_line (take i words) (get_or words i 0)

range-more : (a n : ℕ) → range_with_len a (suc n) ≡ range_with_len a n ++ (a + n) ∷ []
range-more a zero = let e : a + 0 ≡ a = omega arith in rw e refl
range-more a (suc n) =
    let e : a + 1 + n ≡ a + suc n = omega arith in
    ap (λ (l : List ℕ). a ∷ l) (range-more (a + 1) n ∙ ap (λ m. range_with_len (a + 1) n ++ m ∷ []) e)

pub lines-none : (segments : List SegmentData) → first_lines segments 0 ≡ []
unfolding first_lines
lines-none segments = refl

-- the lines of one more place
pub lines-more : (segments : List SegmentData) (place : ℕ) →
    first_lines segments (place + 1) ≡ first_lines segments place ++ place_lines segments place
unfolding first_lines
lines-more segments place =
    let zero_more : 0 + place ≡ place = omega arith in
    let more : range_with_len 0 (place + 1) ≡ range_with_len 0 place ++ place ∷ [] = ap (range_with_len 0) (add-one place)
    ∙ range-more 0 place ∙ ap (λ m. range_with_len 0 place ++ m ∷ []) zero_more in
    ap (flat_map (place_lines segments)) more ∙ one-more (place_lines segments) (range_with_len 0 place) place

pub lines-all : (segments : List SegmentData) (place : ℕ) → place ≡ 1048576 → first_lines segments place ≡ listing segments
unfolding listing
lines-all segments place e = ap (first_lines segments) e
