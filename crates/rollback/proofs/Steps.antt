-- How what is held moves along the way.
use Rattle.std.proofs.Common.{◌≡◌, ℕ, ◌+◌, ◌<◌, ◌≤◌, Bool, true, false, not, ◌&&◌, ◌||◌, cond, List, ◌⊎◌, inl, inr, Some, ◌≢◌, length}
use Rattle.std.proofs.Common.{get_or, take, refl, sym, ap, ◌∙◌, arith}
use Rattle.std.specs.Prelude.{nat_le, slice_get}
use Rattle.std.proofs.lemmas.Option.{get_or_from_slice_get}
use Rattle.std.proofs.lemmas.Bool.Decides.{nat_tests}
use Rattle.log_buffer.specs.Log.{is_home_side, is_about, IsGrowing}
use Rattle.rollback.specs.Unwound.{LogEntry, Old, content_unwound, content_left, contents_after_loss, contents_with_old, is_changed, all_forgotten, some_restored, IsBetween}
use Rattle.rollback.proofs.Changed.{changed-more, changed-about, unwound-unchanged, unwound-changed, unwound-oldest}

pub left_again : (s : Bool) (x : Old) → content_left s (content_left s x) ≡ content_left s x
left_again true x = refl
left_again false x = refl

forget_cases : (s t a : Bool) (now new first : Old) → new ≡ cond a (content_left s now) now → now ≡ cond t (content_left s first) first →
    new ≡ cond (t || a) (content_left s first) first
forget_cases s true true now new first h i = h ∙ ap (content_left s) i ∙ left_again s first
forget_cases s true false now new first h i = h ∙ i
forget_cases s false true now new first h i = h ∙ ap (content_left s) i
forget_cases s false false now new first h i = h ∙ i

-- one more entry is forgotten
pub forget_more : (es : List LogEntry) (i k : ℕ) (e : LogEntry) (s : Bool) (b : ℕ) (first now new : ℕ → Old) → i < length es →
    slice_get es i ≡ Some e → k ≤ e.interval →
    now b ≡ all_forgotten (take i es) s k first b → new b ≡ contents_after_loss s now e.block e.old b →
    new b ≡ all_forgotten (take (i + 1) es) s k first b
forget_more es i k e s b first now new l h r p q =
    let t : nat_le k e.interval ≡ true = grind (arith, nat_tests) in
    let m = changed-more es i e s b k l h in
    let u : (is_about s b e && nat_le k e.interval) ≡ is_about s b e = grind arith in
    forget_cases s (is_changed (take i es) s b k) (is_about s b e) (now b) (new b) (first b) q p
    ∙ ap (λ (w : Bool). cond w (content_left s (first b)) (first b)) (ap (λ (v : Bool). is_changed (take i es) s b k || v) (sym u) ∙ sym m)

-- an entry below the checkpoint is passed over
pub forget_over : (es : List LogEntry) (i k : ℕ) (e : LogEntry) (s : Bool) (b : ℕ) (first now : ℕ → Old) → i < length es →
    slice_get es i ≡ Some e → e.interval < k →
    now b ≡ all_forgotten (take i es) s k first b → now b ≡ all_forgotten (take (i + 1) es) s k first b
forget_over es i k e s b first now l h r p =
    let t : nat_le k e.interval ≡ false = grind (arith, nat_tests) in
    let m = changed-more es i e s b k l h in
    let u : (is_changed (take i es) s b k || (is_about s b e && nat_le k e.interval)) ≡ is_changed (take i es) s b k = grind arith in
    p ∙ ap (λ (w : Bool). cond w (content_left s (first b)) (first b)) (sym u ∙ sym m)

back_cases : (t a : Bool) (now new u first old : Old) → new ≡ cond a old now → now ≡ cond t u first → (a ≡ true → u ≡ old) →
    new ≡ cond (t || a) u first
back_cases true true now new u first old h i f = h ∙ sym (f refl)
back_cases true false now new u first old h i f = h ∙ i
back_cases false true now new u first old h i f = h ∙ sym (f refl)
back_cases false false now new u first old h i f = h ∙ i

is_first : (es : List LogEntry) (i k : ℕ) (e : LogEntry) (s : Bool) (b : ℕ) (first : ℕ → Old) → i < length es → slice_get es i ≡ Some e →
    IsGrowing es → k ≤ e.interval →
    is_changed (take i es) (is_home_side e.old) e.block k ≡ false → is_about s b e ≡ true → content_unwound es s k first b ≡ e.old
is_first es i k e s b first l h g r o a = unwound-oldest es i e s b k first l h g (changed-about (take i es) s b k e a ∙ o) a r

-- the oldest entry of a side and block is put back
pub back_more : (es : List LogEntry) (i k : ℕ) (e : LogEntry) (s : Bool) (b : ℕ) (first now new : ℕ → Old) → i < length es →
    slice_get es i ≡ Some e → IsGrowing es → k ≤ e.interval →
    is_changed (take i es) (is_home_side e.old) e.block k ≡ false →
    now b ≡ some_restored (take i es) es s k first b → new b ≡ contents_with_old s now e.block e.old b →
    new b ≡ some_restored (take (i + 1) es) es s k first b
back_more es i k e s b first now new l h g r o p q =
    let t : nat_le k e.interval ≡ true = grind (arith, nat_tests) in
    let m = changed-more es i e s b k l h in
    let u : (is_about s b e && nat_le k e.interval) ≡ is_about s b e = grind arith in
    back_cases (is_changed (take i es) s b k) (is_about s b e) (now b) (new b) (content_unwound es s k first b) (first b) e.old q p
    (λ a. is_first es i k e s b first l h g r o a)
    ∙ ap (λ (w : Bool). cond w (content_unwound es s k first b) (first b)) (ap (λ (v : Bool). is_changed (take i es) s b k || v) (sym u) ∙ sym m)

or_same : (t a c : Bool) → (a ≡ true → c ≡ true → t ≡ true) → (t || (a && c)) ≡ t
or_same true a c h = refl
or_same false true true h = sym (h refl refl)
or_same false true false h = refl
or_same false false c h = refl

-- an entry that is below the checkpoint, or not the oldest, is passed over
pub back_over : (es : List LogEntry) (i k : ℕ) (e : LogEntry) (s : Bool) (b : ℕ) (first now : ℕ → Old) → i < length es →
    slice_get es i ≡ Some e →
    (nat_le k e.interval ≡ true → is_changed (take i es) (is_home_side e.old) e.block k ≡ true) →
    now b ≡ some_restored (take i es) es s k first b → now b ≡ some_restored (take (i + 1) es) es s k first b
back_over es i k e s b first now l h o p =
    let m = changed-more es i e s b k l h in
    let v : is_about s b e ≡ true → nat_le k e.interval ≡ true →
    is_changed (take i es) s b k ≡ true = λ a t. changed-about (take i es) s b k e a ∙ o t in
    let u : (is_changed (take i es) s b k || (is_about s b e && nat_le k e.interval))
    ≡ is_changed (take i es) s b k = or_same (is_changed (take i es) s b k) (is_about s b e) (nat_le k e.interval) v in
    p ∙ ap (λ (w : Bool). cond w (content_unwound es s k first b) (first b)) (sym u ∙ sym m)

between_cases : (a t c : Bool) (now new u first gone old : Old) → new ≡ cond a old now → now ≡ cond t u first → (a ≡ true → u ≡ old) →
    (c ≡ true → gone ≡ first) → (c ≡ false → u ≡ first) →
    (new ≡ u) ⊎ (new ≡ gone)
between_cases true t c now new u first gone old h i f y n = inl (h ∙ sym (f refl))
between_cases false true c now new u first gone old h i f y n = inl (h ∙ i)
between_cases false false true now new u first gone old h i f y n = inr (h ∙ i ∙ sym (y refl))
between_cases false false false now new u first gone old h i f y n = inl (h ∙ i ∙ sym (n refl))

-- what is held after a put-back lies on the way
pub back_between : (es : List LogEntry) (i k : ℕ) (e : LogEntry) (s : Bool) (first now : ℕ → Old) → i < length es →
    slice_get es i ≡ Some e → IsGrowing es → k ≤ e.interval →
    is_changed (take i es) (is_home_side e.old) e.block k ≡ false → ((b : ℕ) → is_changed es s b k ≡ true → content_left s (first b) ≡ first b) →
    ((b : ℕ) → now b ≡ some_restored (take i es) es s k first b) → IsBetween s first (content_unwound es s k first) (contents_with_old s now e.block e.old)
back_between es i k e s first now l h g r o gone p b =
    between_cases (is_about s b e) (is_changed (take i es) s b k) (is_changed es s b k) (now b) (contents_with_old s now e.block e.old b)
    (content_unwound es s k first b) (first b) (content_left s (first b)) e.old
    refl (p b) (λ a. is_first es i k e s b first l h g r o a) (gone b) (λ n. unwound-unchanged es s b k first n)

last_cases : (t : Bool) (now u first : Old) → now ≡ cond t u first → (t ≡ false → u ≡ first) → now ≡ u
last_cases true now u first h f = h
last_cases false now u first h f = h ∙ sym (f refl)

-- once all are put back the log is unwound
pub back_last : (es : List LogEntry) (k : ℕ) (s : Bool) (b : ℕ) (first now : ℕ → Old) → now b ≡ some_restored es es s k first b →
    now b ≡ content_unwound es s k first b
back_last es k s b first now p =
    last_cases (is_changed es s b k) (now b) (content_unwound es s k first b) (first b) p (λ n. unwound-unchanged es s b k first n)

-- what is forgotten plays no part in what is put back
unwound_cases : (t s : Bool) (es : List LogEntry) (k b : ℕ) (first now : ℕ → Old) → is_changed es s b k ≡ t →
    now b ≡ cond t (content_left s (first b)) (first b) → content_unwound es s k now b ≡ content_unwound es s k first b
unwound_cases true s es k b first now c p = unwound-changed es s b k now first c
unwound_cases false s es k b first now c p = unwound-unchanged es s b k now c ∙ p ∙ sym (unwound-unchanged es s b k first c)

pub unwound-forgotten : (es : List LogEntry) (s : Bool) (k b : ℕ) (first now : ℕ → Old) → now b ≡ all_forgotten es s k first b →
    content_unwound es s k now b ≡ content_unwound es s k first b
unwound-forgotten es s k b first now p = unwound_cases (is_changed es s b k) s es k b first now refl p

pub forgotten-gone : (es : List LogEntry) (s : Bool) (k b : ℕ) (first now : ℕ → Old) → now b ≡ all_forgotten es s k first b →
    is_changed es s b k ≡ true → content_left s (now b) ≡ now b
forgotten-gone es s k b first now p c =
    let q : now b ≡ content_left s (first b) = p ∙ ap (λ (t : Bool). cond t (content_left s (first b)) (first b)) c in
    ap (content_left s) q ∙ left_again s (first b) ∙ sym q

-- an entry that is not below the checkpoint is another than one that is
pub earlier_place : (es : List LogEntry) (i k j : ℕ) (e d : LogEntry) → slice_get es i ≡ Some e → e.interval < k → j < i + 1 →
    k ≤ (get_or es j d).interval → j < i
earlier_place es i k j e d h r m n =
    let q : get_or es i d ≡ e = get_or_from_slice_get es i e d h in
    let p : j ≡ i → get_or es j d ≡ e = λ u. ap (λ (x : ℕ). get_or es x d) u ∙ q in
    let v : j ≢ i = λ u. let w : (get_or es j d).interval ≡ e.interval = ap (λ (x : LogEntry). x.interval) (p u) in absurd (omega arith) in
    omega arith

pub was_false : (r t : Bool) → r ≡ not t → r ≡ true → t ≡ false
was_false r t h i = grind arith

pub was_true : (r t : Bool) → r ≡ not t → r ≡ false → t ≡ true
was_true r t h i = grind arith
