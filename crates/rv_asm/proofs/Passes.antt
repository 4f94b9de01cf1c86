-- How a text is read line by line, and its items one by one.
use Rattle.std.proofs.Common.{◌≡◌, ℕ, ◌+◌, ◌*◌, ◌<◌, ◌≤◌, List, [], ◌∷◌, ◌++◌, length, get_or, drop, map, Option, None, Result, Ok, refl}
use Rattle.std.proofs.Common.{sym, ap, ◌∙◌, subst}
use mathlib.Core.Path.{fun_ext}
use Rattle.std.proofs.lemmas.List.{drop_more, drop_all}
use Rattle.std.specs.Borrow.{Bor}
use Rattle.std.specs.BTreeMap.{BTreeMap}
use Rattle.rv_asm.specs.declared.fault.AsmCause.{AsmCause}
use Rattle.rv_asm.specs.declared.fault.AsmFault.{AsmFault}
use Rattle.rv_asm.specs.declared.fault.AsmFault.TheVariants.{Refused, Memory}
use Rattle.rv_statement.specs.Lines.{bare}
use Rattle.rv_statement.specs.Reading.{statement_of}
use Rattle.rv_asm.specs.Assembly.{Item, Listing, IsRefusedAs, with_line, listed_from, nothing_listed, item_word, words_from}
use Rattle.rv_asm.specs.declared.assembling.Item as code
use Rattle.rv_asm.specs.Lists.{place_in, item_seen, listing_of}

-- a line that adds to the listing
listed_from-next : (number : ℕ) (listing longer : Listing) (line : List ℕ) (lines : List (List ℕ)) →
    with_line number listing (statement_of (bare line)) ≡ Ok longer →
    listed_from number listing (line ∷ lines) ≡ listed_from (number + 1) longer lines
unfolding listed_from
listed_from-next number listing longer line lines adds = rw (adds, listed_from)

-- a line that is refused
listed_from-refused : (number : ℕ) (listing : Listing) (line : List ℕ) (lines : List (List ℕ)) (fault : AsmFault) →
    IsRefusedAs (with_line number listing (statement_of (bare line))) fault → IsRefusedAs (listed_from number listing (line ∷ lines)) fault
unfolding listed_from
listed_from-refused number listing line lines (Refused cause) refused = rw (refused, listed_from)
listed_from-refused number listing line lines Memory refused = tt

refused-along : {A : Type 0} (r s : Result A AsmCause) (fault : AsmFault) → r ≡ s → IsRefusedAs r fault → IsRefusedAs s fault
refused-along {A} r s fault e h = subst (λ (t : Result A AsmCause). IsRefusedAs t fault) e h

-- before the first line
pub reader-begins : (labels : BTreeMap (Bor (List ℕ)) ℕ) (lines : List (List ℕ)) → labels.entries ≡ [] →
    listed_from 1 (listing_of [] labels) lines ≡ listed_from 1 nothing_listed lines
reader-begins labels lines empty =
    let none : place_in labels ≡ (λ name. None) = fun_ext (λ name. rw empty) in
    ap (λ places. listed_from 1 (record { items = []; places = places }) lines) none

-- what the reader keeps true: the listing so far, followed by what the lines that are left add, is the whole
module _ (listing : Listing) (number : ℕ) (left : List (List ℕ)) (whole : Result Listing AsmCause) (h : listed_from number listing left ≡ whole) where
  pub reader-next : (longer : Listing) (line : List ℕ) (more : List (List ℕ)) → left ≡ line ∷ more →
      with_line number listing (statement_of (bare line)) ≡ Ok longer → listed_from (number + 1) longer more ≡ whole
  reader-next longer line more e adds =
      sym (listed_from-next number listing longer line more adds) ∙ ap (listed_from number listing) (sym e) ∙ h

  pub reader-refuses : (line : List ℕ) (more : List (List ℕ)) (fault : AsmFault) → left ≡ line ∷ more →
      IsRefusedAs (with_line number listing (statement_of (bare line))) fault → IsRefusedAs whole fault
  reader-refuses line more fault e refused =
      refused-along _ _ fault (ap (listed_from number listing) (sym e) ∙ h) (listed_from-refused number listing line more fault refused)

  pub reader-ends : left ≡ [] → whole ≡ Ok listing
  unfolding listed_from
  reader-ends e = sym h ∙ ap (listed_from number listing) e

-- one more word
pub words_from-next : (places : List ℕ → Option ℕ) (words : List ℕ) (item : Item) (items : List Item) (word : ℕ) →
    item_word places (4 * length words) item ≡ Ok word →
    words_from places words (item ∷ items) ≡ words_from places (words ++ word ∷ []) items
unfolding words_from
words_from-next places words item items word known = rw (known, words_from)

pub words_from-refused : (places : List ℕ → Option ℕ) (words : List ℕ) (item : Item) (items : List Item) (fault : AsmFault) →
    IsRefusedAs (item_word places (4 * length words) item) fault → IsRefusedAs (words_from places words (item ∷ items)) fault
unfolding words_from
words_from-refused places words item items (Refused cause) refused = rw (refused, words_from)
words_from-refused places words item items Memory refused = tt

pub words_from-none : (places : List ℕ → Option ℕ) (words : List ℕ) → words_from places words [] ≡ Ok words
unfolding words_from
words_from-none places words = refl

-- what the second pass keeps true: the words so far, followed by those of the rest, are the whole
abbrev pub IsWrittenSoFar : (List ℕ → Option ℕ) → List ℕ → ℕ → List code.Item → Type 0
IsWrittenSoFar places words i items = words_from places words (map item_seen (drop i items)) ≡ words_from places [] (map item_seen items)

pub writer-next : (places : List ℕ → Option ℕ) (words : List ℕ) (here i : ℕ) (items : List code.Item) (d : code.Item) (word : ℕ) →
    i < length items → here ≡ 4 * length words → item_word places here (item_seen (get_or items i d)) ≡ Ok word →
    IsWrittenSoFar places words i items → IsWrittenSoFar places (words ++ word ∷ []) (i + 1) items
writer-next places words here i items d word inside place known h =
    let known_here : item_word places (4 * length words) (item_seen (get_or items i d))
    ≡ Ok word = ap (λ n. item_word places n (item_seen (get_or items i d))) (sym place) ∙ known in
    sym (words_from-next places words (item_seen (get_or items i d)) (map item_seen (drop (i + 1) items)) word known_here)
    ∙ sym (ap (λ rest. words_from places words (map item_seen rest)) (drop_more items i d inside)) ∙ h

pub writer-refuses : (places : List ℕ → Option ℕ) (words : List ℕ) (here i : ℕ) (items : List code.Item) (d : code.Item)
    (fault : AsmFault) → i < length items → here ≡ 4 * length words →
    IsRefusedAs (item_word places here (item_seen (get_or items i d))) fault → IsWrittenSoFar places words i items →
    IsRefusedAs (words_from places [] (map item_seen items)) fault
writer-refuses places words here i items d fault inside place refused h =
    refused-along _ _ fault (sym (ap (λ rest. words_from places words (map item_seen rest)) (drop_more items i d inside)) ∙ h)
    (words_from-refused places words (item_seen (get_or items i d)) (map item_seen (drop (i + 1) items)) fault
    (refused-along _ _ fault (ap (λ n. item_word places n (item_seen (get_or items i d))) place) refused))

pub writer-ends : (places : List ℕ → Option ℕ) (words : List ℕ) (i : ℕ) (items : List code.Item) → length items ≤ i →
    IsWrittenSoFar places words i items → words_from places [] (map item_seen items) ≡ Ok words
writer-ends places words i items outside h =
    sym h ∙ ap (λ rest. words_from places words (map item_seen rest)) (drop_all i items outside) ∙ words_from-none places words
