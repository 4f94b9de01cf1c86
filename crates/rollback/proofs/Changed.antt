-- Which blocks a log changes, entry by entry.
use Rattle.std.proofs.Common.{◌≡◌, ℕ, suc, ◌+◌, ◌-◌, ◌^◌, ◌<◌, ◌≤◌, Bool, true, false, ◌&&◌, ◌||◌, cond, min, List, [], ◌∷◌, ◌++◌}
use Rattle.std.proofs.Common.{Option, Some, None, length, get_or, take, drop, refl, sym, ap, ◌∙◌, subst, drop-cons, arith}
use Rattle.std.specs.Prelude.{nat_le, slice_get, unwrap_or}
use Rattle.std.specs.Option.{option_map}
use Rattle.std.proofs.lemmas.List.{take_more, take-append-drop}
use Rattle.std.proofs.lemmas.List.Filters.{length-filter_more}
use Rattle.std.proofs.lemmas.Option.{get_or_from_slice_get}
use Rattle.std.proofs.lemmas.Bool.Decides.{nat_tests}
use Rattle.log_buffer.specs.Log.{is_home_side, is_about, earlier, entry_at, IsGrowing, entries_from}
use Rattle.log_buffer.proofs.Entries.{entry_at-first, IsGrowing-drop}
use Rattle.rollback.specs.Unwound.{LogEntry, Old, is_changed, content_unwound}

or_assoc : (p q r : Bool) → (p || (q || r)) ≡ ((p || q) || r)
or_assoc true q r = refl
or_assoc false q r = refl

or_false : (p : Bool) → (p || false) ≡ p
or_false true = refl
or_false false = refl

pub changed-append : (xs ys : List LogEntry) (s : Bool) (b k : ℕ) →
    is_changed (xs ++ ys) s b k ≡ (is_changed xs s b k || is_changed ys s b k)
changed-append [] ys s b k = refl
changed-append (x ∷ xs) ys s b k =
    ap (λ (t : Bool). (is_about s b x && nat_le k x.interval) || t) (changed-append xs ys s b k)
    ∙ or_assoc (is_about s b x && nat_le k x.interval) (is_changed xs s b k) (is_changed ys s b k)

-- one more entry
pub changed-more : (es : List LogEntry) (i : ℕ) (e : LogEntry) (s : Bool) (b k : ℕ) → i < length es → slice_get es i ≡ Some e →
    is_changed (take (i + 1) es) s b k ≡ (is_changed (take i es) s b k || (is_about s b e && nat_le k e.interval))
changed-more es i e s b k l h =
    let g : get_or es i e ≡ e = get_or_from_slice_get es i e e h in
    ap (λ (xs : List LogEntry). is_changed xs s b k) (take_more es i e l ∙ ap (λ (x : LogEntry). take i es ++ x ∷ []) g)
    ∙ changed-append (take i es) (e ∷ []) s b k
    ∙ ap (λ (t : Bool). is_changed (take i es) s b k || t) (or_false (is_about s b e && nat_le k e.interval))

-- an entry is of one side and block
pub about-side : (s : Bool) (b : ℕ) (e : LogEntry) → is_about s b e ≡ true → s ≡ is_home_side e.old
about-side true b e h = grind arith
about-side false b e h = grind arith

pub about-block : (s : Bool) (b : ℕ) (e : LogEntry) → is_about s b e ≡ true → b ≡ e.block
about-block s b e h = grind (arith, nat_tests)

pub changed-about : (xs : List LogEntry) (s : Bool) (b k : ℕ) (e : LogEntry) → is_about s b e ≡ true →
    is_changed xs s b k ≡ is_changed xs (is_home_side e.old) e.block k
changed-about xs s b k e h = let p = about-side s b e h in let q = about-block s b e h in cc

skip_step : (c t : Bool) (o p q : Option LogEntry) → (c || t) ≡ false → (t ≡ false → p ≡ q) → cond c o p ≡ q
skip_step c t o p q h i = grind arith

-- entries that change nothing of a block play no part
pub entry_at-skip : (xs ys : List LogEntry) (s : Bool) (b k : ℕ) → is_changed xs s b k ≡ false →
    entry_at (xs ++ ys) s b k ≡ entry_at ys s b k
entry_at-skip [] ys s b k h = refl
entry_at-skip (x ∷ xs) ys s b k h =
    skip_step (is_about s b x && nat_le k x.interval) (is_changed xs s b k) (Some (earlier x (entry_at (xs ++ ys) s b k)))
    (entry_at (xs ++ ys) s b k) (entry_at ys s b k) h (λ t. entry_at-skip xs ys s b k t)

none_step : (c t : Bool) (o p : Option LogEntry) → (c || t) ≡ false → (t ≡ false → p ≡ None) → cond c o p ≡ None
none_step c t o p h i = grind arith

pub entry_at-unchanged : (xs : List LogEntry) (s : Bool) (b k : ℕ) → is_changed xs s b k ≡ false → entry_at xs s b k ≡ None
entry_at-unchanged [] s b k h = refl
entry_at-unchanged (x ∷ xs) s b k h =
    none_step (is_about s b x && nat_le k x.interval) (is_changed xs s b k) (Some (earlier x (entry_at xs s b k))) (entry_at xs s b k) h
    (λ t. entry_at-unchanged xs s b k t)

-- a block that no entry changes stays
pub unwound-unchanged : (es : List LogEntry) (s : Bool) (b k : ℕ) (m : ℕ → Old) → is_changed es s b k ≡ false → content_unwound es s k m b ≡ m b
unwound-unchanged es s b k m h =
    ap (λ (o : Option LogEntry). unwrap_or (option_map (λ (e : LogEntry). e.old) o) (m b)) (entry_at-unchanged es s b k h)

first_here : (es rest : List LogEntry) (s : Bool) (b k : ℕ) (e : LogEntry) → IsGrowing es → es ≡ e ∷ rest → is_about s b e ≡ true →
    nat_le k e.interval ≡ true → entry_at es s b k ≡ Some e
first_here es rest s b k e g h a l = let g2 : IsGrowing (e ∷ rest) = subst IsGrowing h g in rw h (entry_at-first e rest s b k g2 a l)

-- an entry that no earlier one of its side and block goes before is what unwinding gives
pub unwound-oldest : (es : List LogEntry) (i : ℕ) (e : LogEntry) (s : Bool) (b k : ℕ) (m : ℕ → Old) → i < length es →
    slice_get es i ≡ Some e → IsGrowing es →
    is_changed (take i es) s b k ≡ false → is_about s b e ≡ true → k ≤ e.interval → content_unwound es s k m b ≡ e.old
unwound-oldest es i e s b k m l h g n a r =
    let d : drop i es ≡ e ∷ drop (suc i) es = drop-cons es i e l
    ∙ ap (λ (x : LogEntry). x ∷ drop (suc i) es) (get_or_from_slice_get es i e e h) in
    let f : entry_at (drop i es) s b k
    ≡ Some e = first_here (drop i es) (drop (suc i) es) s b k e (IsGrowing-drop i es g) d a (grind (arith, nat_tests)) in
    let w : entry_at es s b k ≡ Some e = ap (λ (xs : List LogEntry). entry_at xs s b k) (sym (take-append-drop i es))
    ∙ entry_at-skip (take i es) (drop i es) s b k n ∙ f in
    ap (λ (o : Option LogEntry). unwrap_or (option_map (λ (x : LogEntry). x.old) o) (m b)) w

-- one more entry counted
more_step : (t : Bool) (n m c big : ℕ) → n ≡ m + cond t 1 0 → c ≡ min m big → cond t (min (c + 1) big) c ≡ min n big
more_step true n m c big h i = omega arith
more_step false n m c big h i = omega arith

pub count-more : (es : List LogEntry) (i k c : ℕ) (e : LogEntry) (t : Bool) → i < length es → slice_get es i ≡ Some e →
    nat_le k e.interval ≡ t → c ≡ min (length (entries_from k (take i es))) (2 ^ 32 - 1) →
    cond t (min (c + 1) (2 ^ 32 - 1)) c ≡ min (length (entries_from k (take (i + 1) es))) (2 ^ 32 - 1)
count-more es i k c e t l h q r =
    let g : get_or es i e ≡ e = get_or_from_slice_get es i e e h in
    let f = length-filter_more (λ (x : LogEntry). nat_le k x.interval) es i e l in
    more_step t (length (entries_from k (take (i + 1) es))) (length (entries_from k (take i es))) c (2 ^ 32 - 1)
    (f ∙ ap (λ (x : LogEntry). length (entries_from k (take i es)) + cond (nat_le k x.interval) 1 0) g
    ∙ ap (λ (u : Bool). length (entries_from k (take i es)) + cond u 1 0) q) r

some_step : (c t : Bool) (e : LogEntry) (o p : Option LogEntry) (x y : Old) → (c || t) ≡ true →
    (t ≡ true → unwrap_or (option_map (λ (f : LogEntry). f.old) o) x ≡ unwrap_or (option_map (λ (f : LogEntry). f.old) o) y) →
    unwrap_or (option_map (λ (f : LogEntry). f.old) (cond c (Some e) o)) x
    ≡ unwrap_or (option_map (λ (f : LogEntry). f.old) (cond c (Some e) o)) y
some_step true t e o p x y h i = refl
some_step false t e o p x y h i = i h

-- what is held now plays no part for a block that an entry changes
pub unwound-changed : (es : List LogEntry) (s : Bool) (b k : ℕ) (m n : ℕ → Old) → is_changed es s b k ≡ true →
    content_unwound es s k m b ≡ content_unwound es s k n b
unwound-changed [] s b k m n h = absurd (grind arith)
unwound-changed (e ∷ es) s b k m n h =
    some_step (is_about s b e && nat_le k e.interval) (is_changed es s b k) (earlier e (entry_at es s b k)) (entry_at es s b k) None (m b)
    (n b) h (λ t. unwound-changed es s b k m n t)
