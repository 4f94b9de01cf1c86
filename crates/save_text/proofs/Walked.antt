-- The bytes that were given to a node, and those that its records have read, are walked side by side.
use Rattle.std.proofs.Common.{◌≡◌, ℕ, zero, suc, ◌+◌, ◌<◌, ◌≤◌, Bool, true, false, cond, List, [], ◌∷◌, ◌++◌, length, drop, get_or, refl, sym, ap, ◌∙◌, ◌⊎◌, inl, inr, arith}
use Rattle.std.proofs.Common.{add-one}
use Rattle.std.specs.Prelude.{nat_eq, Option, Some, None, option_to_list}
use Rattle.std.specs.List.{find, range_with_len}
use Rattle.std.proofs.Math.Seq.{drop-cons}
use Rattle.std.proofs.lemmas.Bool.{cases_lt}
use Rattle.rv_core.specs.declared.step.Record.{Record}
use Rattle.rv_core.specs.Execution.{in_of}
use Rattle.sn_saved.specs.Saved.{given_to}

-- one byte given, which is the node's or not
first_given : (b : Bool) (x : ℕ × ℕ) (rest : List (ℕ × ℕ)) (node : ℕ) → nat_eq x.0 node ≡ b →
    given_to (x ∷ rest) node ≡ cond b (x.1 ∷ given_to rest node) (given_to rest node)
first_given true x rest node e = rw e refl
first_given false x rest node e = rw e refl

module _ (given : List (ℕ × ℕ)) (node place : ℕ) (d : ℕ × ℕ) (l : place < length given) where
  pub given-mine : nat_eq (get_or given place d).0 node ≡ true →
      given_to (drop place given) node ≡ (get_or given place d).1 ∷ given_to (drop (place + 1) given) node
  given-mine e =
      ap (λ (xs : List (ℕ × ℕ)). given_to xs node) (drop-cons given place d l)
      ∙ (first_given true (get_or given place d) (drop (suc place) given) node e
      ∙ ap (λ (k : ℕ). (get_or given place d).1 ∷ given_to (drop k given) node) (sym (add-one place)))

  pub given-other : nat_eq (get_or given place d).0 node ≡ false →
      given_to (drop place given) node ≡ given_to (drop (place + 1) given) node
  given-other e =
      ap (λ (xs : List (ℕ × ℕ)). given_to xs node) (drop-cons given place d l)
      ∙ (first_given false (get_or given place d) (drop (suc place) given) node e
      ∙ ap (λ (k : ℕ). given_to (drop k given) node) (sym (add-one place)))

-- the byte that one record has read, if it is the node's
abbrev pub byte_of : Record → ℕ → Option ℕ
byte_of r node = cond (nat_eq r.core node) r.read None

one_read : (b : Bool) (read : Option ℕ) (rest : List ℕ) →
    cond b (option_to_list read) [] ++ rest ≡ option_to_list (cond b read None) ++ rest
one_read true read rest = refl
one_read false read rest = refl

module _ (records : List Record) (node place : ℕ) (d : Record) (l : place < length records) where
  pub read-next : in_of node (drop place records) ≡ option_to_list (byte_of (get_or records place d) node) ++ in_of node (drop (place + 1) records)
  read-next =
      ap (in_of node) (drop-cons records place d l)
      ∙ (one_read (nat_eq (get_or records place d).core node) (get_or records place d).read (in_of node (drop (suc place) records))
      ∙ ap (λ (k : ℕ). option_to_list (byte_of (get_or records place d) node) ++ in_of node (drop k records)) (sym (add-one place)))

-- the first that fails

find_step : (b : Bool) (test : ℕ → Bool) (a : ℕ) (rest : Option ℕ) → test a ≡ b → cond (test a) (Some a) rest ≡ cond b (Some a) rest
find_step b test a rest e = ap (λ (t : Bool). cond t (Some a) rest) e

pub first-found : (test : ℕ → Bool) (a n k : ℕ) → a ≤ k → k < a + n → ((b : ℕ) → a ≤ b → b < k → test b ≡ false) → test k ≡ true →
    find test (range_with_len a n) ≡ Some k
first-found test a zero k low high before at = absurd (omega (arith, low, high))
first-found test a (suc n) k low high before at =
    go (cases_lt a k) (λ l. first-found test (a + 1) n k (omega (arith, l)) (omega (arith, high)) (λ b m h. before b (omega (arith, m)) h) at)
  where
    go : ((a < k) ⊎ (k ≤ a)) → (a < k → find test (range_with_len (a + 1) n) ≡ Some k) → find test (range_with_len a (suc n)) ≡ Some k
    go (inl l) later = find_step false test a (find test (range_with_len (a + 1) n)) (before a (omega arith) l) ∙ later l
    go (inr l) later =
        let i : a ≡ k = omega (arith, low, l) in
        find_step true test a (find test (range_with_len (a + 1) n)) (ap test i ∙ at) ∙ ap (λ j. Some j) i

pub none-found : (test : ℕ → Bool) (a n : ℕ) → ((b : ℕ) → a ≤ b → b < a + n → test b ≡ false) → find test (range_with_len a n) ≡ None
none-found test a zero h = refl
none-found test a (suc n) h =
    find_step false test a (find test (range_with_len (a + 1) n)) (h a (omega arith) (omega arith))
    ∙ none-found test (a + 1) n (λ b m l. h b (omega (arith, m)) (omega (arith, l)))
