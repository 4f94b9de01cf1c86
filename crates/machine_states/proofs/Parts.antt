-- How the texts of a state's nodes and homes go on.
use Rattle.std.proofs.Common.{◌≡◌, ℕ, suc, ◌+◌, Bool, true, false, not, ◌||◌, if◌then◌else◌, List, [], ◌∷◌, ◌++◌, refl, ap, sym, ◌∙◌, subst, arith}
use Rattle.std.proofs.Common.{append_assoc}
use Rattle.sn_base.specs.Image.{ImageData}
use Rattle.sn_model.specs.Fabric.{home_of}
use Rattle.sn_model.specs.Machine.{State}
use Rattle.state_parts.specs.Parts.{node_part}
use Rattle.state_json.specs.Json.{comma_after, IsAddedIf}
use Rattle.state_json.specs.Parts.{node_text, node_texts, is_as_at_start, other_home_text, home_texts}
use Rattle.state_texts.proofs.Lists.{AreBehind, none-behind, add-behind}

nodes-more : (n m : ℕ) (s : State) → m ≡ suc n → node_texts m s ≡ node_texts n s ++ node_text n (node_part s n) ∷ []
nodes-more n m s e = rw e refl

-- a text with its comma
always : (old comma new text : List ℕ) (others : Bool) → comma ≡ old ++ comma_after others → new ≡ comma ++ text →
    IsAddedIf true text old new others true
always old comma new text others e f = record {
  written = f ∙ ap (λ t. t ++ text) e ∙ append_assoc old (comma_after others) text;
  known = marked others;
} where
  marked : (b : Bool) → true ≡ (b || true)
  marked true = refl
  marked false = refl

pub nodes-next : (start old comma new : List ℕ) (n : ℕ) (s : State) (others : Bool) → AreBehind start old (node_texts n s) others →
    comma ≡ old ++ comma_after others → new ≡ comma ++ node_text n (node_part s n) →
    AreBehind start new (node_texts (n + 1) s) true
nodes-next start old comma new n s others before e f =
    let next : n + 1 ≡ suc n = omega arith in
    subst (λ t. AreBehind start new t true) (sym (nodes-more n (n + 1) s next))
    (add-behind start old new (node_text n (node_part s n)) (node_texts n s) true others true before
    (always old comma new (node_text n (node_part s n)) others e f))

pub homes-none : (start : List ℕ) (image : ImageData) (s : State) → AreBehind start start (home_texts image 0 s) false
unfolding home_texts
homes-none start image s = none-behind start

homes-more : (n m : ℕ) (image : ImageData) (s : State) → m ≡ suc n →
    home_texts image m s
    ≡ home_texts image n s ++ (if is_as_at_start image n (home_of s.fabric n) then [] else other_home_text n (home_of s.fabric n) ∷ [])
unfolding home_texts
homes-more n m image s e = rw e refl

turned : (b : Bool) (x : List ℕ) → (if not b then x ∷ [] else []) ≡ (if b then [] else x ∷ [])
turned true x = refl
turned false x = refl

pub homes-next : (start old new : List ℕ) (n block : ℕ) (image : ImageData) (s : State) (others some : Bool) → block ≡ n →
    AreBehind start old (home_texts image n s) others →
    IsAddedIf (not (is_as_at_start image block (home_of s.fabric block))) (other_home_text block (home_of s.fabric block)) old new others some →
    AreBehind start new (home_texts image (n + 1) s) some
homes-next start old new n block image s others some e before found =
    let next : n + 1 ≡ suc n = omega arith in
    let step =
    subst (λ (b : ℕ). IsAddedIf (not (is_as_at_start image b (home_of s.fabric b))) (other_home_text b (home_of s.fabric b)) old new others some)
    e found in
    subst (λ t. AreBehind start new t some)
    (ap (λ t. home_texts image n s ++ t) (turned (is_as_at_start image n (home_of s.fabric n)) (other_home_text n (home_of s.fabric n)))
    ∙ sym (homes-more n (n + 1) image s next))
    (add-behind start old new (other_home_text n (home_of s.fabric n)) (home_texts image n s)
    (not (is_as_at_start image n (home_of s.fabric n))) others some before step)
