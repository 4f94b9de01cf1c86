-- How the texts of the lines of a cache and of the dead switches go on.
use Rattle.std.proofs.Common.{◌≡◌, ℕ, suc, ◌+◌, Bool, false, if◌then◌else◌, List, [], ◌∷◌, ◌++◌, refl, sym, subst, arith}
use Rattle.route_plan.specs.Distances.{is_dead}
use Rattle.sn_model.specs.Caches.{Cache, line_of, is_present}
use Rattle.sn_text.specs.Text.{switch_text}
use Rattle.state_json.specs.Json.{quotation_of, IsAddedIf}
use Rattle.state_json.specs.Values.{line_text, line_texts}
use Rattle.state_json.specs.Parts.{dead_texts}
use Rattle.state_texts.proofs.Lists.{AreBehind, none-behind, add-behind}

pub lines-none : (start : List ℕ) (cache : Cache) → AreBehind start start (line_texts 0 cache) false
unfolding line_texts
lines-none start cache = none-behind start

lines-more : (n m : ℕ) (cache : Cache) → m ≡ suc n →
    line_texts m cache ≡ line_texts n cache ++ (if is_present (line_of cache n).state then line_text n (line_of cache n) ∷ [] else [])
unfolding line_texts
lines-more n m cache e = rw e refl

pub lines-next : (start old new : List ℕ) (n block : ℕ) (cache : Cache) (others some : Bool) → block ≡ n →
    AreBehind start old (line_texts n cache) others →
    IsAddedIf (is_present (line_of cache block).state) (line_text block (line_of cache block)) old new others some →
    AreBehind start new (line_texts (n + 1) cache) some
lines-next start old new n block cache others some e before found =
    let next : n + 1 ≡ suc n = omega arith in
    let step =
    subst (λ (b : ℕ). IsAddedIf (is_present (line_of cache b).state) (line_text b (line_of cache b)) old new others some) e found in
    subst (λ t. AreBehind start new t some) (sym (lines-more n (n + 1) cache next))
    (add-behind start old new (line_text n (line_of cache n)) (line_texts n cache) (is_present (line_of cache n).state) others some before step)

pub dead-none : (start : List ℕ) (dead : List Bool) → AreBehind start start (dead_texts 0 dead) false
unfolding dead_texts
dead-none start dead = none-behind start

dead-more : (n m : ℕ) (dead : List Bool) → m ≡ suc n →
    dead_texts m dead ≡ dead_texts n dead ++ (if is_dead dead n then quotation_of (switch_text n) ∷ [] else [])
unfolding dead_texts
dead-more n m dead e = rw e refl

pub dead-next : (start old new : List ℕ) (n : ℕ) (dead : List Bool) (others some : Bool) → AreBehind start old (dead_texts n dead) others →
    IsAddedIf (is_dead dead n) (quotation_of (switch_text n)) old new others some → AreBehind start new (dead_texts (n + 1) dead) some
dead-next start old new n dead others some before step =
    let next : n + 1 ≡ suc n = omega arith in
    subst (λ t. AreBehind start new t some) (sym (dead-more n (n + 1) dead next))
    (add-behind start old new (quotation_of (switch_text n)) (dead_texts n dead) (is_dead dead n) others some before step)
