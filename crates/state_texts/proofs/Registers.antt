-- How the texts of a core's registers, of a set of nodes and of a block's bytes go on.
use Rattle.std.proofs.Common.{◌≡◌, ℕ, zero, suc, ◌+◌, ◌/◌, ◌%◌, ◌<◌, ◌≤◌, Bool, true, false, not, nat_eq, if◌then◌else◌, List, [], ◌∷◌, ◌++◌, drop, length, get_or, refl, ap, sym, subst, ◌∙◌}
use Rattle.std.proofs.Common.{append_assoc, append-nil, arith}
use Rattle.std.specs.Prelude.{decimal, slice_index}
use Rattle.std.proofs.lemmas.List.{drop_more, drop_all}
use Rattle.text_lines.specs.Hex.{hex_byte}
use Rattle.sn_base.specs.Nodes.{has_node}
use Rattle.state_json.specs.Json.{with_commas, IsAddedIf, digits_below}
use Rattle.state_json.specs.Values.{register_text, register_texts, marked_texts}
use Rattle.state_texts.proofs.Lists.{added-first, AreBehind, none-behind, add-behind}

module _ (start : List ℕ) (others : Bool) (values : List ℕ) (i : ℕ) where
  pub registers-next : (new : List ℕ) (some : Bool) → i < length values →
      IsAddedIf (not (nat_eq (get_or values i 0) 0)) (register_text (i + 1) (get_or values i 0)) start new others some →
      new ++ with_commas some (register_texts (i + 1 + 1) (drop (i + 1) values))
      ≡ start ++ with_commas others (register_texts (i + 1) (drop i values))
  registers-next new some b step =
      added-first start new (register_text (i + 1) (get_or values i 0)) (register_texts (i + 1 + 1) (drop (i + 1) values))
      (not (nat_eq (get_or values i 0) 0)) others some step
      ∙ ap (λ t. start ++ with_commas others t) (turned (nat_eq (get_or values i 0) 0))
      ∙ ap (λ t. start ++ with_commas others (register_texts (i + 1) t)) (sym (drop_more values i 0 b))
    where
      turned : (zero : Bool) →
          (if not zero then register_text (i + 1) (get_or values i 0) ∷ register_texts (i + 1 + 1) (drop (i + 1) values)
          else register_texts (i + 1 + 1) (drop (i + 1) values))
          ≡ (if zero then register_texts (i + 1 + 1) (drop (i + 1) values)
          else register_text (i + 1) (get_or values i 0) ∷ register_texts (i + 1 + 1) (drop (i + 1) values))
      turned true = refl
      turned false = refl

  pub registers-end : length values ≤ i → start ++ with_commas others (register_texts (i + 1) (drop i values)) ≡ start
  registers-end past = rw (drop_all i values past) (append-nil start)

pub marks-none : (start : List ℕ) (marks : List Bool) → AreBehind start start (marked_texts 0 marks) false
unfolding marked_texts
marks-none start marks = none-behind start

marks-more : (n m : ℕ) (marks : List Bool) → m ≡ suc n →
    marked_texts m marks ≡ marked_texts n marks ++ (if has_node marks n then decimal n ∷ [] else [])
unfolding marked_texts
marks-more n m marks e = rw e refl

pub marks-next : (start old new : List ℕ) (n : ℕ) (marks : List Bool) (others some : Bool) → AreBehind start old (marked_texts n marks) others →
    IsAddedIf (has_node marks n) (decimal n) old new others some → AreBehind start new (marked_texts (n + 1) marks) some
marks-next start old new n marks others some before step =
    let next : n + 1 ≡ suc n = omega arith in
    subst (λ t. AreBehind start new t some) (sym (marks-more n (n + 1) marks next))
    (add-behind start old new (decimal n) (marked_texts n marks) (has_node marks n) others some before step)

-- the bytes of a content

pub digits-none : (start content : List ℕ) → start ≡ start ++ digits_below 0 content
unfolding digits_below
digits-none start content = sym (append-nil start)

digits-more : (n m : ℕ) (content : List ℕ) → m ≡ suc n →
    digits_below m content ≡ digits_below n content ++ hex_byte (slice_index content n)
unfolding digits_below
digits-more n m content e = rw e refl

pub digits-next : (start old new content : List ℕ) (n byte : ℕ) → old ≡ start ++ digits_below n content → new ≡ old ++ hex_byte byte →
    hex_byte byte ≡ hex_byte (slice_index content n) → new ≡ start ++ digits_below (n + 1) content
digits-next start old new content n byte before added same =
    let next : n + 1 ≡ suc n = omega arith in
    added ∙ ap (λ t. t ++ hex_byte byte) before ∙ append_assoc start (digits_below n content) (hex_byte byte)
    ∙ ap (λ t. start ++ (digits_below n content ++ t)) same ∙ ap (λ t. start ++ t) (sym (digits-more n (n + 1) content next))

-- the byte at a place, as it is loaded
there : (bytes : List ℕ) (i : ℕ) → slice_index (drop i bytes) 0 ≡ slice_index bytes i
there [] zero = refl
there [] (suc i) = refl
there (b ∷ bytes) zero = refl
there (b ∷ bytes) (suc i) = there bytes i

pub byte-there : (bytes : List ℕ) (i loaded : ℕ) → loaded ≡ slice_index (drop i bytes) 0 + 0 →
    hex_byte (loaded % 256) ≡ hex_byte (slice_index bytes i)
unfolding hex_byte
byte-there bytes i loaded e =
    let same : loaded ≡ slice_index bytes i = omega (arith, e, there bytes i) in
    let high_digit : loaded % 256 / 16 % 16 ≡ slice_index bytes i / 16 % 16 = omega (arith, same) in
    let low_digit : loaded % 256 % 16 ≡ slice_index bytes i % 16 = omega (arith, same) in
    rw (high_digit, low_digit) refl
