-- How lists of texts go on.
use Rattle.std.proofs.Common.{◌≡◌, ℕ, ◌+◌, ◌<◌, ◌≤◌, Bool, true, false, ◌||◌, if◌then◌else◌, List, [], ◌∷◌, ◌++◌, drop, length, get_or, refl, ap, sym, ◌∙◌}
use Rattle.std.proofs.Common.{append_assoc, append-nil}
use Rattle.std.specs.Prelude.{map, codes}
use Rattle.std.specs.List.{flat_map}
use Rattle.std.proofs.lemmas.List.{drop_more, drop_all}
use Rattle.state_json.specs.Json.{comma_after, with_commas, IsAddedIf}

-- a text grows by a piece; and by a piece that is written in two
pub more : (start mid new y x : List ℕ) → mid ≡ start ++ y → new ≡ mid ++ x → new ≡ start ++ (y ++ x)
more start mid new y x e f = f ∙ ap (λ t. t ++ x) e ∙ append_assoc start y x

pub more-by-two : (start mid named new y name value : List ℕ) → mid ≡ start ++ y → named ≡ mid ++ name → new ≡ named ++ value →
    new ≡ start ++ (y ++ (name ++ value))
more-by-two start mid named new y name value e f g = more start mid new y (name ++ value) e (more mid named new name value f g)

-- parts without commas, of which the next is there; and of which none is left
module _ {A : Type 0} (text_of : A → List ℕ) (text : List ℕ) (xs : List A) (i : ℕ) where
  pub flat-more : (x : A) → i < length xs →
      text ++ flat_map text_of (drop i xs) ≡ (text ++ text_of (get_or xs i x)) ++ flat_map text_of (drop (i + 1) xs)
  flat-more x b = rw (drop_more xs i x b) (sym (append_assoc text (text_of (get_or xs i x)) (flat_map text_of (drop (i + 1) xs))))

  pub flat-end : length xs ≤ i → text ++ flat_map text_of (drop i xs) ≡ text
  flat-end past = rw (drop_all i xs past) (append-nil text)

-- the next of texts with commas
pub comma-next : (text rest x : List ℕ) (others : Bool) →
    text ++ (comma_after others ++ x ++ rest) ≡ text ++ comma_after others ++ x ++ rest
comma-next text rest x others = simp append_assoc

module _ {A : Type 0} (text_of : A → List ℕ) (text : List ℕ) (others : Bool) (xs : List A) (i : ℕ) where
  pub commas-more : (x : A) → i < length xs →
      text ++ with_commas others (map text_of (drop i xs))
      ≡ ((text ++ comma_after others) ++ text_of (get_or xs i x)) ++ with_commas true (map text_of (drop (i + 1) xs))
  commas-more x b =
      rw (drop_more xs i x b) (comma-next text (with_commas true (map text_of (drop (i + 1) xs))) (text_of (get_or xs i x)) others)

  pub commas-end : length xs ≤ i → text ++ with_commas others (map text_of (drop i xs)) ≡ text
  commas-end past = rw (drop_all i xs past) (append-nil text)

-- one more text behind those that stand there
abbrev pub has_some : List (List ℕ) → Bool
has_some [] = false
has_some (text ∷ texts) = true

pub some-behind : (texts : List (List ℕ)) (x : List ℕ) → has_some (texts ++ x ∷ []) ≡ true
some-behind [] x = refl
some-behind (text ∷ texts) x = refl

behind-others : (texts : List (List ℕ)) (x : List ℕ) →
    with_commas true (texts ++ x ∷ []) ≡ with_commas true texts ++ (codes "," ++ x)
behind-others [] x = ap (λ t. codes "," ++ t) (append-nil x)
behind-others (text ∷ texts) x =
    ap (λ t. codes "," ++ (text ++ t)) (behind-others texts x)
    ∙ ap (λ t. codes "," ++ t) (sym (append_assoc text (with_commas true texts) (codes "," ++ x)))

pub commas-behind : (texts : List (List ℕ)) (x : List ℕ) →
    with_commas false (texts ++ x ∷ []) ≡ with_commas false texts ++ (comma_after (has_some texts) ++ x)
commas-behind [] x = append-nil x
commas-behind (text ∷ texts) x =
    ap (λ t. text ++ t) (behind-others texts x) ∙ sym (append_assoc text (with_commas true texts) (codes "," ++ x))

-- a text to which the next is added, or none; and whether some stand there then
pub record AreBehind (start new : List ℕ) (texts : List (List ℕ)) (some : Bool) : Type 0 where
  pub same : new ≡ start ++ with_commas false texts
  pub known : some ≡ has_some texts

pub none-behind : (start : List ℕ) → AreBehind start start [] false
none-behind start = record { same = sym (append-nil start); known = refl }

pub add-behind : (start old new x : List ℕ) (texts : List (List ℕ)) (added others some : Bool) → AreBehind start old texts others →
    IsAddedIf added x old new others some → AreBehind start new (texts ++ (if added then x ∷ [] else [])) some
add-behind start old new x texts true others some before step = record {
  same =
      step.written ∙ ap (λ t. t ++ (comma_after others ++ x)) before.same
      ∙ append_assoc start (with_commas false texts) (comma_after others ++ x)
      ∙ ap (λ b. start ++ (with_commas false texts ++ (comma_after b ++ x))) before.known
      ∙ ap (λ t. start ++ t) (sym (commas-behind texts x));
  known = step.known ∙ or-true others ∙ sym (some-behind texts x);
} where
  or-true : (b : Bool) → (b || true) ≡ true
  or-true true = refl
  or-true false = refl
add-behind start old new x texts false others some before step = record {
  same = step.written ∙ append-nil old ∙ before.same ∙ ap (λ t. start ++ with_commas false t) (sym (append-nil texts));
  known = step.known ∙ or-false others ∙ before.known ∙ ap has_some (sym (append-nil texts));
} where
  or-false : (b : Bool) → (b || false) ≡ b
  or-false true = refl
  or-false false = refl

-- the same, where the rest of the texts is known
pub added-first : (old new x : List ℕ) (rest : List (List ℕ)) (added others some : Bool) → IsAddedIf added x old new others some →
    new ++ with_commas some rest ≡ old ++ with_commas others (if added then x ∷ rest else rest)
added-first old new x rest true others some step =
    ap (λ b. new ++ with_commas b rest) (step.known ∙ or-true others) ∙ ap (λ t. t ++ with_commas true rest) step.written
    ∙ append_assoc old (comma_after others ++ x) (with_commas true rest)
  where
    or-true : (b : Bool) → (b || true) ≡ true
    or-true true = refl
    or-true false = refl
added-first old new x rest false others some step =
    ap (λ b. new ++ with_commas b rest) (step.known ∙ or-false others) ∙ ap (λ t. t ++ with_commas others rest) (step.written ∙ append-nil old)
  where
    or-false : (b : Bool) → (b || false) ≡ b
    or-false true = refl
    or-false false = refl
