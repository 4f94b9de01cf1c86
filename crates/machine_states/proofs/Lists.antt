-- How lists of texts go on, of things that stand for others.
use Rattle.std.proofs.Common.{◌≡◌, ℕ, ◌+◌, ◌<◌, ◌≤◌, Bool, true, List, ◌++◌, drop, length, get_or, append-nil}
use Rattle.std.specs.Prelude.{map}
use Rattle.std.proofs.lemmas.List.{drop_more, drop_all}
use Rattle.state_json.specs.Json.{comma_after, with_commas}
use Rattle.state_texts.proofs.Lists.{comma-next}

module _ {A B : Type 0} (text_of : B → List ℕ) (thing : A → B) (text : List ℕ) (others : Bool) (xs : List A) (i : ℕ) where
  pub things-more : (x : A) → i < length xs →
      text ++ with_commas others (map text_of (map thing (drop i xs)))
      ≡ ((text ++ comma_after others) ++ text_of (thing (get_or xs i x))) ++ with_commas true (map text_of (map thing (drop (i + 1) xs)))
  things-more x b =
      rw (drop_more xs i x b)
      (comma-next text (with_commas true (map text_of (map thing (drop (i + 1) xs)))) (text_of (thing (get_or xs i x))) others)

  pub things-end : length xs ≤ i → text ++ with_commas others (map text_of (map thing (drop i xs))) ≡ text
  things-end past = rw (drop_all i xs past) (append-nil text)
