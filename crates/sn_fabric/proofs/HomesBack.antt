-- A home gets the contents of its blocks at a recovery point, and then the names of the caches that own some of them.
use Rattle.std.proofs.Common.{◌≡◌, ℕ, zero, suc, ◌+◌, ◌/◌, ◌%◌, ◌<◌, ◌≤◌, Bool, true, false, cond, List, [], ◌∷◌, ◌++◌, length, take, get_or}
use Rattle.std.proofs.Common.{refl, sym, ap, ◌∙◌, subst, arith, Option, Some, None, ⊎_elim}
use Rattle.std.specs.Prelude.{nat_eq}
use Rattle.std.specs.List.{All}
use Rattle.std.proofs.lemmas.Bool.{cases_lt}
use Rattle.std.proofs.lemmas.Bool.Decides.{nat_tests}
use Rattle.std.proofs.lemmas.List.{get_or_past, get_or_append_left, get_or_push}
use Rattle.std.proofs.lemmas.List.Elements.{All-nil, All-push}
use Rattle.sn_base.specs.Image.{ImageData}
use Rattle.sn_base.specs.declared.log.Old.{Old}
use Rattle.sn_base.specs.declared.log.Old.TheVariants.{NotOwned, WasHome, WasCache}
use Rattle.rollback.specs.Unwound.{contents_with_old}
use Rattle.sn_model.specs.Caches.{block_count}
use Rattle.sn_model.specs.Homes.{HomeEntry, Holder, Itself, OfCache, no_sharers}
use Rattle.sn_model.specs.Fabric.{no_entry}
use Rattle.sn_saved.specs.Resumed.{holder_resumed}
use Rattle.sn_saved.specs.Saved.{AreAscending, owner_in}
use Rattle.home_directory.specs.Home.{HomeData, entry_of, entries_below, first_of, places_of}
use Rattle.home_directory.proofs.Starts.{length_entries}
use Rattle.home_directory.specs.Restored.{old_of, is_here, had, CanHave, Stays, sharers_at, open_at_place}
use Rattle.sn_fabric.specs.Parts.{home_at, no_home}
use Rattle.sn_fabric.specs.Resumed.{content_in, IsHomeWith}
use Rattle.sn_fabric.proofs.GivenBack.{owner_more}

-- what is put back of a block of this home, it can have
pub can_put : (h : HomeData) (block : ℕ) (old : Old) → is_here h block ≡ true → CanHave h (contents_with_old true (had h) block old)
can_put h block old here b other = go (nat_eq block b) refl
  where
    nothing : had h b ≡ NotOwned
    nothing = ap (λ q. cond q (old_of (entry_of h b).holder) NotOwned) other

    go : (q : Bool) → nat_eq block b ≡ q → contents_with_old true (had h) block old b ≡ NotOwned
    go true e =
        let i : block ≡ b = grind (arith, nat_tests) in
        let t : is_here h b ≡ true = subst (λ x. is_here h x ≡ true) i here in
        absurd (cc)
    go false e = grind (arith, nat_tests, nothing)

-- the holder that an old content says

home_of_old : (h : Holder) (v : List ℕ) → old_of h ≡ WasHome v → h ≡ Itself v
home_of_old (Itself w) v e = cc
home_of_old (OfCache n) v e = absurd (cc)

same_holder : (a b : Holder) → old_of a ≡ old_of b → a ≡ b
same_holder (Itself v) (Itself w) e = cc
same_holder (Itself v) (OfCache n) e = absurd (cc)
same_holder (OfCache n) (Itself v) e = absurd (cc)
same_holder (OfCache n) (OfCache m) e = cc

held_here : (h : HomeData) (b : ℕ) → is_here h b ≡ true → had h b ≡ old_of (entry_of h b).holder
held_here h b here = ap (λ q. cond q (old_of (entry_of h b).holder) NotOwned) here

-- at the start nobody shares, and nothing is open

abbrev IsAtRest : HomeEntry → Type 0
IsAtRest e = (e.sharers ≡ no_sharers) × (e.transaction ≡ None)

first_rest : (k node nodes : ℕ) (image : ImageData) → All IsAtRest (entries_below k image node nodes)
first_rest zero node nodes image = All-nil IsAtRest
first_rest (suc k) node nodes image = All-push IsAtRest (entries_below k image node nodes) _ (first_rest k node nodes image) (refl, refl)

rest_at : (es : List HomeEntry) (place : ℕ) → All IsAtRest es → IsAtRest (get_or es place no_entry)
rest_at es place a = ⊎_elim
    (λ (l : place < length es). a place no_entry l)
    (λ (l : length es ≤ place). subst IsAtRest (sym (get_or_past es place no_entry l)) (refl, refl))
    (cases_lt place (length es))

-- a home with such a holder, of which only holders have changed
entry_with : (h : HomeData) (b : ℕ) (holder : Holder) → (entry_of h b).holder ≡ holder → IsAtRest (entry_of h b) →
    entry_of h b ≡ record { holder = holder; sharers = no_sharers; transaction = None }
entry_with h b holder e rest = λ i. record { holder = e i; sharers = rest.0 i; transaction = rest.1 i }

rest_of : (first h : HomeData) → Stays first h → ((place : ℕ) → IsAtRest (get_or first.entries place no_entry)) → (b : ℕ) → IsAtRest (entry_of h b)
rest_of first h stays rest b =
    let r = rest (b / h.nodes) in (stays.sharers (b / h.nodes) ∙ r.0, stays.transactions (b / h.nodes) ∙ r.1)

-- the contents of all blocks
module _ (image : ImageData) (node nodes : ℕ) (contents : List (List ℕ)) (first h : HomeData) (start : first ≡ first_of image node nodes) (stays : Stays first h) where
  pub contents_back : ((b : ℕ) → b < block_count → is_here h b ≡ true → had h b ≡ WasHome (content_in contents b)) → IsHomeWith node nodes contents [] h
  contents_back held = record {
    node = stays.node ∙ ap (λ x. x.node) start;
    nodes = stays.nodes ∙ ap (λ x. x.nodes) start;
    filled =
        stays.count ∙ (ap (λ (x : HomeData). length x.entries) start ∙ length_entries (places_of node nodes) image node nodes);
    entries =
        λ b l here. entry_with h b (Itself (content_in contents b))
        (home_of_old (entry_of h b).holder (content_in contents b) (sym (held_here h b here) ∙ held b l here))
        (rest_of first h stays (λ place. subst (λ (x : HomeData). IsAtRest (get_or x.entries place no_entry)) (sym start)
        (rest_at (entries_below (places_of node nodes) image node nodes) place (first_rest (places_of node nodes) node nodes image))) b);
  }

-- one block more
pub next_content : (contents : List (List ℕ)) (old new : HomeData) (k : ℕ) → Stays old new → is_here old k ≡ true →
    ((b : ℕ) → had new b ≡ contents_with_old true (had old) k (WasHome (content_in contents k)) b) →
    ((b : ℕ) → b < k → is_here old b ≡ true → had old b ≡ WasHome (content_in contents b)) →
    (b : ℕ) → b < k + 1 → is_here new b ≡ true → had new b ≡ WasHome (content_in contents b)
next_content contents old new k stays here put before b l there = put b ∙ go (nat_eq k b) refl
  where
    go : (q : Bool) → nat_eq k b ≡ q → cond q (WasHome (content_in contents k)) (had old b) ≡ WasHome (content_in contents b)
    go true e = let i : k ≡ b = grind (arith, nat_tests) in ap (λ x. WasHome (content_in contents x)) i
    go false e =
        let m : b < k = grind (arith, nat_tests) in
        let n = stays.node in let s = stays.nodes in
        before b m (ap (λ x. nat_eq (b % x) old.node) (sym s) ∙ (ap (λ x. nat_eq (b % new.nodes) x) (sym n) ∙ there))

pub skipped_content : (contents : List (List ℕ)) (h : HomeData) (k : ℕ) → is_here h k ≡ false →
    ((b : ℕ) → b < k → is_here h b ≡ true → had h b ≡ WasHome (content_in contents b)) →
    (b : ℕ) → b < k + 1 → is_here h b ≡ true → had h b ≡ WasHome (content_in contents b)
skipped_content contents h k other before b l there = go (nat_eq k b) refl
  where
    go : (q : Bool) → nat_eq k b ≡ q → had h b ≡ WasHome (content_in contents b)
    go true e =
        let i : k ≡ b = grind (arith, nat_tests) in
        let t : is_here h k ≡ true = subst (λ x. is_here h x ≡ true) (sym i) there in
        absurd (cc)
    go false e = before b (grind (arith, nat_tests)) there

-- one owner more
module _ (node nodes : ℕ) (contents : List (List ℕ)) (owners : List (ℕ × ℕ)) (k : ℕ) (d : ℕ × ℕ) (order : AreAscending 0 owners) (l : k < length owners) where
  abbrev o : ℕ × ℕ
  o = get_or owners k d

  abbrev resumed_by : ℕ → Option ℕ → HomeEntry
  resumed_by b r = record { holder = holder_resumed r (content_in contents b); sharers = no_sharers; transaction = None }

  owner_is : (b : ℕ) → owner_in (take (k + 1) owners) b ≡ cond (nat_eq o.0 b) (Some o.1) (owner_in (take k owners) b)
  owner_is b = owner_more owners k b d order l

  pub named_next : (old new : HomeData) → Stays old new → is_here old o.0 ≡ true →
      ((b : ℕ) → had new b ≡ contents_with_old true (had old) o.0 (WasCache o.1) b) → IsHomeWith node nodes contents (take k owners) old →
      IsHomeWith node nodes contents (take (k + 1) owners) new
  named_next old new stays here put before = record {
    node = stays.node ∙ before.node;
    nodes = stays.nodes ∙ before.nodes;
    filled = stays.count ∙ before.filled;
    entries = λ b m there. entry_with new b (holder_resumed (owner_in (take (k + 1) owners) b) (content_in contents b))
        (holder b m there) (rest b m (was_here b there));
  }
    where
      was_here : (b : ℕ) → is_here new b ≡ true → is_here old b ≡ true
      was_here b there =
          ap (λ x. nat_eq (b % x) old.node) (sym stays.nodes) ∙ (ap (λ x. nat_eq (b % new.nodes) x) (sym stays.node) ∙ there)

      same_place : (b : ℕ) → b / new.nodes ≡ b / old.nodes
      same_place b = ap (λ x. b / x) stays.nodes

      rest : (b : ℕ) → b < block_count → is_here old b ≡ true → IsAtRest (entry_of new b)
      rest b m there =
          let e = before.entries b m there in (
            stays.sharers (b / new.nodes) ∙ (ap (sharers_at old) (same_place b) ∙ ap (λ x. x.sharers) e),
            stays.transactions (b / new.nodes) ∙ (ap (open_at_place old) (same_place b) ∙ ap (λ x. x.transaction) e),
          )

      holder : (b : ℕ) → b < block_count → is_here new b ≡ true →
          (entry_of new b).holder ≡ holder_resumed (owner_in (take (k + 1) owners) b) (content_in contents b)
      holder b m there = go (nat_eq o.0 b) refl ∙ ap (λ r. holder_resumed r (content_in contents b)) (sym (owner_is b))
        where
          go : (q : Bool) → nat_eq o.0 b ≡ q →
              (entry_of new b).holder ≡ holder_resumed (cond q (Some o.1) (owner_in (take k owners) b)) (content_in contents b)
          go true e =
              same_holder (entry_of new b).holder (OfCache o.1)
              (sym (held_here new b there) ∙ (put b ∙ ap (λ q. cond q (WasCache o.1) (had old b)) e))
          go false e =
              same_holder (entry_of new b).holder (entry_of old b).holder
              (sym (held_here new b there)
              ∙ (put b ∙ (ap (λ q. cond q (WasCache o.1) (had old b)) e ∙ held_here old b (was_here b there))))
              ∙ ap (λ x. x.holder) (before.entries b m (was_here b there))

  pub named_elsewhere : (h : HomeData) → is_here h o.0 ≡ false → IsHomeWith node nodes contents (take k owners) h →
      IsHomeWith node nodes contents (take (k + 1) owners) h
  named_elsewhere h other before = record {
    node = before.node;
    nodes = before.nodes;
    filled = before.filled;
    entries = λ b m there. before.entries b m there ∙ ap (resumed_by b) (sym (owner_is b ∙ same b there));
  }
    where
      same : (b : ℕ) → is_here h b ≡ true → cond (nat_eq o.0 b) (Some o.1) (owner_in (take k owners) b) ≡ owner_in (take k owners) b
      same b there = go (nat_eq o.0 b) refl
        where
          go : (q : Bool) → nat_eq o.0 b ≡ q → cond q (Some o.1) (owner_in (take k owners) b) ≡ owner_in (take k owners) b
          go true e =
              let i : o.0 ≡ b = grind (arith, nat_tests) in
              let t : is_here h o.0 ≡ true = subst (λ x. is_here h x ≡ true) (sym i) there in
              absurd (cc)
          go false e = refl

-- one home more
pub homes_more : (nodes k : ℕ) (contents : List (List ℕ)) (owners : List (ℕ × ℕ)) (homes : List HomeData) (h : HomeData) → length homes ≡ k →
    ((n : ℕ) → n < k → IsHomeWith n nodes contents owners (home_at homes n)) → IsHomeWith k nodes contents owners h → (n : ℕ) → n < k + 1 →
    IsHomeWith n nodes contents owners (home_at (homes ++ h ∷ []) n)
homes_more nodes k contents owners homes h count before last n l = ⊎_elim
    (λ (m : n < k). subst (IsHomeWith n nodes contents owners) (sym (get_or_append_left homes (h ∷ []) no_home n (omega (arith, m, count)))) (before n m))
    (λ (m : k ≤ n). let e : k ≡ n = omega (arith, l, m) in
    subst (λ (j : ℕ). IsHomeWith j nodes contents owners (home_at (homes ++ h ∷ []) j)) e
    (subst (IsHomeWith k nodes contents owners) (sym (get_or_push homes h no_home k count)) last))
    (cases_lt n k)
