-- How texts that are added go on.
use Rattle.std.proofs.Common.{◌≡◌, ℕ, Bool, true, false, ◌||◌, if◌then◌else◌, List, [], ◌∷◌, ◌++◌, refl, ap, sym, ◌∙◌, append_assoc, append-nil}
use Rattle.std.specs.Prelude.{codes}
use Rattle.state_json.specs.Json.{comma_after, with_commas}
use Rattle.state_texts.proofs.Lists.{AreBehind, has_some}
use Rattle.state_lines.specs.Added.{are_some, AreAdded}

or-false : (b : Bool) → b ≡ (b || false)
or-false true = refl
or-false false = refl

or-true : (b : Bool) → true ≡ (b || true)
or-true true = refl
or-true false = refl

pub added-none : (text : List ℕ) (others : Bool) → AreAdded [] text text others others
added-none text others = record { written = sym (append-nil text); known = or-false others }

pub added-one : (old comma new x : List ℕ) (others : Bool) → comma ≡ old ++ comma_after others → new ≡ comma ++ x →
    AreAdded (x ∷ []) old new others true
added-one old comma new x others e f = record {
  written =
      f ∙ ap (λ t. t ++ x) e ∙ append_assoc old (comma_after others) x ∙ ap (λ t. old ++ t) (sym (append-nil (comma_after others ++ x)));
  known = or-true others;
}

-- these texts, where they are there
pub added-if : (b : Bool) (x old new : List ℕ) (others some : Bool) → b ≡ true → AreAdded (x ∷ []) old new others some →
    AreAdded (if b then x ∷ [] else []) old new others some
added-if b x old new others some is h = rw is h

true-more : (a b : List (List ℕ)) → with_commas true (a ++ b) ≡ with_commas true a ++ with_commas true b
true-more [] b = refl
true-more (x ∷ a) b =
    ap (λ t. codes "," ++ (x ++ t)) (true-more a b)
    ∙ ap (λ t. codes "," ++ t) (sym (append_assoc x (with_commas true a) (with_commas true b)))

with-more : (a b : List (List ℕ)) → with_commas false (a ++ b) ≡ with_commas false a ++ with_commas (has_some a) b
with-more [] b = refl
with-more (x ∷ a) b = ap (λ t. x ++ t) (true-more a b) ∙ sym (append_assoc x (with_commas true a) (with_commas true b))

same-some : (a : List (List ℕ)) → has_some a ≡ are_some a
same-some [] = refl
same-some (x ∷ a) = refl

some-more : (a b : List (List ℕ)) → has_some (a ++ b) ≡ (has_some a || are_some b)
some-more [] b = same-some b
some-more (x ∷ a) b = refl

-- they stand behind those before
pub behind-more : (start old new : List ℕ) (a b : List (List ℕ)) (others some : Bool) → AreBehind start old a others →
    AreAdded b old new others some → AreBehind start new (a ++ b) some
behind-more start old new a b others some before step = record {
  same =
      step.written ∙ ap (λ t. t ++ with_commas others b) before.same ∙ append_assoc start (with_commas false a) (with_commas others b)
      ∙ ap (λ c. start ++ (with_commas false a ++ with_commas c b)) before.known ∙ ap (λ t. start ++ t) (sym (with-more a b));
  known = step.known ∙ ap (λ c. c || are_some b) before.known ∙ sym (some-more a b);
}

-- one more of those that are always told
pub behind-one : (start old comma new x : List ℕ) (a : List (List ℕ)) (others : Bool) → AreBehind start old a others →
    comma ≡ old ++ comma_after others → new ≡ comma ++ x → AreBehind start new (a ++ x ∷ []) true
behind-one start old comma new x a others before e f =
    behind-more start old new a (x ∷ []) others true before (added-one old comma new x others e f)
