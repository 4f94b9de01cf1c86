-- One step down the entries of a side and block.
use Rattle.std.proofs.Common.{◌≡◌, ℕ, suc, ◌+◌, ◌<◌, ◌≤◌, Bool, true, false, ◌&&◌, ◌||◌, max, List, [], ◌∷◌, ◌++◌, Option, Some, None}
use Rattle.std.proofs.Common.{length, get_or, take, refl, sym, ap, subst, ◌∙◌, arith, add-one}
use Rattle.std.specs.Prelude.{nat_le, nat_eq, if◌then◌else◌}
use Rattle.std.specs.Option.{option_map}
use Rattle.std.proofs.lemmas.List.{take_more, get_or-map, length-map}
use Rattle.std.proofs.lemmas.Bool.Decides.{nat_tests}
use Rattle.log_buffer.specs.Log.{LogEntry, Old, is_about, old_at, has_entry, logged_to, IsGrowing}
use Rattle.log_buffer.specs.Index.{Stored, entries_of, last_place, place_before, IsLinked}
use Rattle.log_buffer.proofs.Laws.{or_else, old_at-push, old_at-above, logged_to-has, logged_to-push}
use Rattle.log_buffer.proofs.LastPlace.{upto, IsPlaceOf, about_is, last_place-is, has_entry-last, has_entry-push, old_at-last}
use Rattle.log_buffer.proofs.LastPlace.{logged_to-before, place-take}

-- the entry that stands at a place of its side and block
pub record StandsAt (ss : List Stored) (s : Bool) (b p : ℕ) (x : Stored) : Type 0 where
  pub inside : p < length (entries_of ss)
  pub about : is_about s b x.entry ≡ true
  pub entry : (d : LogEntry) → get_or (entries_of ss) p d ≡ x.entry
  pub older : x.older ≡ last_place (take p (entries_of ss)) s b

pub stands_at : (ss : List Stored) (s : Bool) (b p : ℕ) (x : Stored) → IsLinked ss → IsPlaceOf (entries_of ss) s b (Some p) →
    x ≡ get_or ss p x → StandsAt ss s b p x
stands_at ss s b p x h i e =
    let l : p < length ss = subst (λ n. p < n) (length-map ss (λ (y : Stored). y.entry)) i.0 in
    let n : (d : LogEntry) →
    get_or (entries_of ss) p d ≡ x.entry = λ d. get_or-map (λ (y : Stored). y.entry) ss p x d l
    ∙ ap (λ (y : Stored). y.entry) (sym e) in
    let a : is_about s b x.entry ≡ true = sym (ap (is_about s b) (n x.entry)) ∙ i.1 x.entry in
    let q : x.older ≡ place_before (entries_of ss) p x.entry = subst (λ (y : Stored). y.older ≡ place_before (entries_of ss) p y.entry)
    (sym e) (h p x l) in
    let k = about_is s b x.entry a in
    record { inside = i.0; about = a; entry = n; older = q ∙ rw (k.0, k.1) refl }

-- the next older place, and what stands up to it
pub record StepsDown (ss : List Stored) (s : Bool) (b p : ℕ) (o : Option ℕ) : Type 0 where
  pub is : IsPlaceOf (entries_of ss) s b o
  pub lower : upto o ≤ p
  pub has : (i : ℕ) → has_entry (take (upto o) (entries_of ss)) i s b ≡ has_entry (take p (entries_of ss)) i s b
  pub old : (k : ℕ) → old_at (take (upto o) (entries_of ss)) s b k ≡ old_at (take p (entries_of ss)) s b k

pub steps_down : (ss : List Stored) (s : Bool) (b p : ℕ) (x : Stored) → StandsAt ss s b p x → StepsDown ss s b p x.older
steps_down ss s b p x h =
    let es = entries_of ss in
    let t = place-take es p s b x.older (rw h.older (last_place-is (take p es) s b)) in
    record {
      is = t.0;
      lower = t.1;
      has =
          λ i. ap (λ fs. has_entry fs i s b) (sym t.2)
          ∙ (ap (λ o. has_entry (take (upto o) (take p es)) i s b) h.older ∙ has_entry-last (take p es) i s b);
      old =
          λ k. ap (λ fs. old_at fs s b k) (sym t.2)
          ∙ (ap (λ o. old_at (take (upto o) (take p es)) s b k) h.older ∙ old_at-last (take p es) s b k);
    }

up_to : (ss : List Stored) (s : Bool) (b p : ℕ) (x : Stored) → StandsAt ss s b p x →
    take (suc p) (entries_of ss) ≡ take p (entries_of ss) ++ x.entry ∷ []
up_to ss s b p x h =
    ap (λ n. take n (entries_of ss)) (sym (add-one p))
    ∙ (take_more (entries_of ss) p x.entry h.inside ∙ ap (λ e. take p (entries_of ss) ++ e ∷ []) (h.entry x.entry))

before : (ss : List Stored) (s : Bool) (b p : ℕ) (x : Stored) → StandsAt ss s b p x → IsGrowing (entries_of ss) →
    logged_to (take p (entries_of ss)) s b ≤ x.entry.interval
before ss s b p x h g =
    subst (λ (e : LogEntry). logged_to (take p (entries_of ss)) s b ≤ e.interval) (h.entry x.entry)
    (logged_to-before (entries_of ss) p s b x.entry g h.inside (ap (is_about s b) (h.entry x.entry) ∙ h.about))

has_newer_step : (r a : Bool) (n i : ℕ) → a ≡ true → i < n → (r || (a && nat_eq n i)) ≡ r
has_newer_step r a n i h l = grind (arith, nat_tests)

-- an entry of a later interval doesn't count
pub has_newer : (ss : List Stored) (s : Bool) (b p i : ℕ) (x : Stored) → StandsAt ss s b p x → i < x.entry.interval →
    has_entry (take p (entries_of ss)) i s b ≡ has_entry (take (suc p) (entries_of ss)) i s b
has_newer ss s b p i x h l =
    sym (ap (λ es. has_entry es i s b) (up_to ss s b p x h)
    ∙ (has_entry-push (take p (entries_of ss)) x.entry i s b ∙ has_newer_step _ (is_about s b x.entry) x.entry.interval i h.about l))

has_here_step : (r a : Bool) (n i m : ℕ) → a ≡ true → n ≤ i → m ≤ n → (r ≡ true → i + 1 ≤ m) → nat_eq n i ≡ (r || (a && nat_eq n i))
has_here_step r a n i m h l k t = grind (arith, nat_tests)

-- the first entry whose interval isn't later decides
pub has_here : (ss : List Stored) (s : Bool) (b p i : ℕ) (x : Stored) → StandsAt ss s b p x → IsGrowing (entries_of ss) →
    x.entry.interval ≤ i →
    nat_eq x.entry.interval i ≡ has_entry (take (suc p) (entries_of ss)) i s b
has_here ss s b p i x h g l =
    has_here_step (has_entry (take p (entries_of ss)) i s b) (is_about s b x.entry) x.entry.interval i
    (logged_to (take p (entries_of ss)) s b) h.about l (before ss s b p x h g)
    (logged_to-has (take p (entries_of ss)) i s b)
    ∙ sym (ap (λ es. has_entry es i s b) (up_to ss s b p x h) ∙ has_entry-push (take p (entries_of ss)) x.entry i s b)

-- the entry that was read at the place that was found
pub stands_here : (ss : List Stored) (s : Bool) (b : ℕ) (o : Option ℕ) (p q : ℕ) (x : Stored) → IsLinked ss →
    IsPlaceOf (entries_of ss) s b o → o ≡ Some p → q ≡ p → x ≡ get_or ss q x →
    StandsAt ss s b p x
stands_here ss s b o p q x h i e r t =
    stands_at ss s b p x h (subst (IsPlaceOf (entries_of ss) s b) e i) (subst (λ n. x ≡ get_or ss n x) r t)

pub or_else-none : (o : Option Old) → or_else o None ≡ o
or_else-none None = refl
or_else-none (Some x) = refl

or_else-twice : (o p : Option Old) (x : Old) → or_else o (Some x) ≡ or_else (or_else o (Some x)) p
or_else-twice None p x = refl
or_else-twice (Some y) p x = refl

logged_step : (a : Bool) (e : LogEntry) (m k : ℕ) → m ≤ e.interval → e.interval < k → max m (if a then e.interval + 1 else 0) ≤ k
logged_step true e m k h l = omega arith
logged_step false e m k h l = omega arith

-- an entry below the checkpoint and what stands before it say nothing of it
pub old_older : (ss : List Stored) (s : Bool) (b p k : ℕ) (x : Stored) → StandsAt ss s b p x → IsGrowing (entries_of ss) →
    x.entry.interval < k →
    old_at (take (suc p) (entries_of ss)) s b k ≡ None
old_older ss s b p k x h g l =
    ap (λ es. old_at es s b k) (up_to ss s b p x h)
    ∙ old_at-above (take p (entries_of ss) ++ x.entry ∷ []) s b k
    (rw (logged_to-push (take p (entries_of ss)) x.entry s b)
    (logged_step (is_about s b x.entry) x.entry (logged_to (take p (entries_of ss)) s b) k (before ss s b p x h g) l))

alone_step : (a : Bool) (e : LogEntry) (k : ℕ) → a ≡ true → k ≤ e.interval →
    option_map (λ (f : LogEntry). f.old) (if a && nat_le k e.interval then Some e else None) ≡ Some e.old
alone_step a e k h l = grind (arith, nat_tests)

-- of the entries not below the checkpoint an older one comes first
pub old_here : (ss : List Stored) (s : Bool) (b p k : ℕ) (x : Stored) (o : Option Old) → StandsAt ss s b p x → IsGrowing (entries_of ss) →
    k ≤ x.entry.interval →
    or_else (old_at (take p (entries_of ss)) s b k) (Some x.entry.old) ≡ or_else (old_at (take (suc p) (entries_of ss)) s b k) o
old_here ss s b p k x o h g l =
    let m = before ss s b p x h g in
    let e = old_at-push (take p (entries_of ss)) x.entry s b k (omega arith) in
    or_else-twice (old_at (take p (entries_of ss)) s b k) o x.entry.old
    ∙ ap (λ q. or_else q o)
    (ap (or_else (old_at (take p (entries_of ss)) s b k)) (sym (alone_step (is_about s b x.entry) x.entry k h.about l))
    ∙ (sym e ∙ ap (λ es. old_at es s b k) (sym (up_to ss s b p x h))))
