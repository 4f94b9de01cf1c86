-- Lines that are written, and read again.
use Rattle.std.proofs.Common.{◌≡◌, ℕ, suc, ◌+◌, ◌-◌, ◌≤◌, List, [], ◌∷◌, ◌++◌, length, get_or, All, refl, ap, sym, ◌∙◌, append_assoc}
use Rattle.std.proofs.Common.{append-nil, arith}
use Rattle.std.proofs.lemmas.Bool.Decides.{nat_tests}
use Rattle.std.proofs.lemmas.List.Elements.{All-nil, All-push}
use Rattle.std.specs.List.{flat_map}
use Rattle.std.specs.Prelude.{true, false, nat_eq, nat_le, Result, Ok}
use Rattle.text_lines.specs.Lines.{without_return, lines_from}
use Rattle.sn_text.specs.declared.cause.Fault.{Fault}
use Rattle.sn_text.specs.Items.{most_items, is_skipped, items_and, items_from, items_of}
use Rattle.sn_text.specs.Written.{SaysNothing}
use Rattle.sn_text.proofs.Printed.{From}

-- a line that says something: its first byte is no mark, and no byte is one that ends a line
abbrev pub IsLine : List ℕ → Type 0
IsLine [] = ⊥
IsLine (byte ∷ bytes) = (48 ≤ byte) × From 32 bytes

last-from : (x : ℕ) (xs : List ℕ) → 32 ≤ x → From 32 xs → 32 ≤ get_or (x ∷ xs) (length xs) 0
last-from x [] h a = h
last-from x (y ∷ ys) h a = last-from y ys a.0 a.1

without_return-line : (line : List ℕ) → IsLine line → without_return line ≡ line
without_return-line [] a = absurd a
without_return-line (x ∷ xs) a =
    let at : suc (length xs) - 1 ≡ length xs = omega arith in
    let other : nat_eq (get_or (x ∷ xs) (length xs) 0) 13 ≡ false = grind (arith, nat_tests, last-from x xs (omega (arith, a.0)) a.1) in
    rw (at, other) refl

pub line_ends : (begun line rest : List ℕ) → From 32 line →
    lines_from begun (line ++ 10 ∷ rest) ≡ without_return (begun ++ line) ∷ lines_from [] rest
unfolding lines_from
line_ends begun [] rest a = ap (λ t. without_return t ∷ lines_from [] rest) (sym (append-nil begun))
line_ends begun (x ∷ xs) rest a =
    let other : nat_eq x 10 ≡ false = grind (arith, nat_tests, a.0) in
    rw other (line_ends (begun ++ x ∷ []) xs rest a.1 ∙ ap (λ t. without_return t ∷ lines_from [] rest) (append_assoc begun (x ∷ []) xs))

all-from : (line : List ℕ) → IsLine line → From 32 line
all-from [] a = absurd a
all-from (x ∷ xs) a = (omega (arith, a.0), a.1)

-- the first line of a text
pub line-first : (line rest : List ℕ) → IsLine line → lines_from [] (line ++ 10 ∷ rest) ≡ line ∷ lines_from [] rest
line-first line rest a = line_ends [] line rest (all-from line a) ∙ ap (λ t. t ∷ lines_from [] rest) (without_return-line line a)

not_skipped : (line : List ℕ) → IsLine line → is_skipped line ≡ false
not_skipped [] a = absurd a
not_skipped (x ∷ xs) a = grind (arith, nat_tests, a.0)

-- lines that are skipped say nothing
pub read-past : {A : Type 0} (item_of : List ℕ → Result A Fault) (number count : ℕ) (lines more : List (List ℕ)) →
    All (λ line. is_skipped line ≡ true) lines →
    items_from item_of number count (lines ++ more) ≡ items_from item_of (number + length lines) count more
unfolding items_from
read-past item_of number count [] more skipped =
    let same : number ≡ number + 0 = omega arith in ap (λ n. items_from item_of n count more) same
read-past item_of number count (line ∷ lines) more skipped =
    let first : is_skipped line ≡ true = skipped 0 line (omega arith) in
    let same : number + 1 + length lines ≡ number + suc (length lines) = omega arith in
    rw first (read-past item_of (number + 1) count lines more (λ k d l. skipped (suc k) d (omega (arith, l)))
    ∙ ap (λ n. items_from item_of n count more) same)

read-skipped : {A : Type 0} (item_of : List ℕ → Result A Fault) (number count : ℕ) (lines : List (List ℕ)) →
    All (λ line. is_skipped line ≡ true) lines → items_from item_of number count lines ≡ Ok []
unfolding items_from
read-skipped item_of number count lines skipped =
    ap (items_from item_of number count) (sym (append-nil lines)) ∙ read-past item_of number count lines [] skipped

pub says-nothing : SaysNothing []
unfolding lines_from
says-nothing = All-push (λ line. is_skipped line ≡ true) [] [] (All-nil (λ line. is_skipped line ≡ true)) refl

module _ {A : Type 0} (item_of : List ℕ → Result A Fault) (text_of line_of : A → List ℕ) (Good : A → Type 0)
    (ends : (x : A) → line_of x ≡ text_of x ++ 10 ∷ []) (is_line : (x : A) → Good x → IsLine (text_of x))
    (back : (x : A) → Good x → item_of (text_of x) ≡ Ok x) where
  lines-next : (x : A) (rest : List ℕ) → Good x → lines_from [] (line_of x ++ rest) ≡ text_of x ∷ lines_from [] rest
  lines-next x rest g =
      ap (λ t. lines_from [] (t ++ rest)) (ends x) ∙ ap (lines_from []) (append_assoc (text_of x) (10 ∷ []) rest)
      ∙ line-first (text_of x) rest (is_line x g)

  read_on : (number count : ℕ) (items : List A) (comments : List ℕ) → All Good items → count + length items ≤ most_items →
      SaysNothing comments → items_from item_of number count (lines_from [] (flat_map line_of items ++ comments)) ≡ Ok items
  unfolding items_from
  read_on number count [] comments good few nothing = read-skipped item_of number count (lines_from [] comments) nothing
  read_on number count (x ∷ items) comments good few nothing =
      let g : Good x = good 0 x (omega arith) in
      let more : All Good items = λ k d l. good (suc k) d (omega (arith, l)) in
      let room : nat_le most_items count ≡ false = grind (arith, nat_tests) in
      ap (λ t. items_from item_of number count (lines_from [] t)) (append_assoc (line_of x) (flat_map line_of items) comments)
      ∙ ap (items_from item_of number count) (lines-next x (flat_map line_of items ++ comments) g)
      ∙ rw (not_skipped (text_of x) (is_line x g), back x g, room)
      (ap (items_and (x ∷ [])) (read_on (number + 1) (count + 1) items comments more (omega (arith, few)) nothing))

  -- a text of such lines is read back as the list of their items, also where comments stand behind it
  pub text-read_back : (items : List A) (comments : List ℕ) → All Good items → length items ≤ most_items → SaysNothing comments →
      items_of item_of (flat_map line_of items ++ comments) ≡ Ok items
  text-read_back items comments good few nothing = read_on 1 0 items comments good (omega (arith, few)) nothing
