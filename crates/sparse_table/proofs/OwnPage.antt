-- Places that are given a page of their own: the values stay.
use Rattle.std.proofs.Common.{◌≡◌, ◌≢◌, ℕ, ◌+◌, ◌*◌, ◌/◌, ◌%◌, ◌<◌, ◌≤◌, Bool, true, false, cond, List, ◌++◌, length, get_or, set, replicate}
use Rattle.std.proofs.Common.{refl, sym, ap, ◌∙◌, arith, length-set, length-append, get_or-set_same, get_or-set_other}
use Rattle.std.specs.Prelude.{nat_eq, nat_lt, count_by}
use Rattle.std.proofs.lemmas.Bool.Decides.{nat_tests}
use Rattle.std.proofs.lemmas.List.{get_or_append_left, get_or-append-add, length-replicate}
use Rattle.std.proofs.lemmas.List.Sums.{count_by-le-length, sum_by-set}
use Rattle.sparse_table.specs.Pages.{page_size, page_at, position, value_at, IsTable}
use Rattle.sparse_table.proofs.Values.{usual_at}

abbrev count : List ℕ → ℕ
count pages = count_by (λ (page : ℕ). nat_lt 0 page) pages

abbrev own_count : ℕ → ℕ
own_count page = cond (nat_lt 0 page) 1 0

-- a place's value is one of the values
pub position-inside : {X : Type 0} (usual : X) (pages : List ℕ) (values : List X) (place : ℕ) → IsTable usual pages values →
    position pages place < length values
position-inside usual pages values place is = omega (arith, is.inside (place / page_size))

module _ {X : Type 0} (usual : X) (pages : List ℕ) (values : List X) (p n : ℕ) (is : IsTable usual pages values) (l : p < length pages) (none : page_at pages p ≡ 0) (new : n ≡ length values / page_size) where
  abbrev new_pages : List ℕ
  new_pages = set pages p n

  abbrev new_values : List X
  new_values = values ++ replicate page_size usual

  whole : page_size * n ≡ length values
  whole = omega (arith, is.count, new)

  page-own : page_at new_pages p ≡ n
  page-own = get_or-set_same pages p n 0 l

  pub own-first : page_size * page_at new_pages p ≡ length values
  own-first = ap (λ (k : ℕ). page_size * k) page-own ∙ whole

  pub own-more : 0 < page_at new_pages p
  own-more = omega (arith, page-own, is.count, new)

  page-other : (q : ℕ) → q ≢ p → page_at new_pages q ≡ page_at pages q
  page-other q o = get_or-set_other pages p q n 0 o

  old_at : (i : ℕ) → i < length values → get_or new_values i usual ≡ get_or values i usual
  old_at i h = get_or_append_left values (replicate page_size usual) usual i h

  new_at : (i : ℕ) → get_or new_values (page_size * n + i) usual ≡ usual
  new_at i =
      ap (λ (k : ℕ). get_or new_values (k + i) usual) whole
      ∙ get_or-append-add values (replicate page_size usual) i usual ∙ usual_at usual page_size i

  same_at : (place : ℕ) (t : Bool) → nat_eq (place / page_size) p ≡ t →
      value_at usual new_pages new_values place ≡ value_at usual pages values place
  same_at place true h =
      let e : place / page_size ≡ p = grind (arith, nat_tests) in
      let m : place % page_size < page_size = omega arith in
      let z : page_at pages (place / page_size) ≡ 0 = ap (page_at pages) e ∙ none in
      let w : position pages place ≡ place % page_size = omega (arith, z) in
      ap (λ (k : ℕ). get_or new_values (page_size * k + place % page_size) usual) (ap (page_at new_pages) e ∙ page-own)
      ∙ new_at (place % page_size)
      ∙ sym (ap (λ (k : ℕ). get_or values k usual) w ∙ is.first (place % page_size) m)
  same_at place false h =
      let o : place / page_size ≢ p = λ e. grind (arith, nat_tests) in
      ap (λ (k : ℕ). get_or new_values (page_size * k + place % page_size) usual) (page-other (place / page_size) o)
      ∙ old_at (position pages place) (position-inside usual pages values place is)

  pub own-same : (place : ℕ) → value_at usual new_pages new_values place ≡ value_at usual pages values place
  own-same place = same_at place (nat_eq (place / page_size) p) refl

  length_more : length new_values ≡ length values + page_size
  length_more = length-append values (replicate page_size usual) ∙ ap (λ (k : ℕ). length values + k) (length-replicate page_size usual)

  inside_at : (q : ℕ) (t : Bool) → nat_eq q p ≡ t → page_size * page_at new_pages q + page_size ≤ length new_values
  inside_at q true h =
      let e : q ≡ p = grind (arith, nat_tests) in
      let f : page_at new_pages q ≡ n = ap (page_at new_pages) e ∙ page-own in
      omega (arith, f, whole, length_more)
  inside_at q false h =
      let f = page-other q (λ e. grind (arith, nat_tests)) in
      omega (arith, f, is.inside q, length_more)

  -- the new page is nobody else's
  apart_from : (q : ℕ) → q ≢ p → page_at new_pages q ≢ n
  apart_from q o e = omega (arith, page-other q o, is.inside q, whole)

  apart_at : (q r : ℕ) (t u : Bool) → nat_eq q p ≡ t → nat_eq r p ≡ u → q ≢ r → page_at new_pages q ≡ page_at new_pages r →
      page_at new_pages q ≡ 0
  apart_at q r true true h k o e = absurd (o (grind (arith, nat_tests)))
  apart_at q r true false h k o e =
      let s : q ≡ p = grind (arith, nat_tests) in
      absurd (apart_from r (λ i. grind (arith, nat_tests)) (sym e ∙ (ap (page_at new_pages) s ∙ page-own)))
  apart_at q r false true h k o e =
      let s : r ≡ p = grind (arith, nat_tests) in
      absurd (apart_from q (λ i. grind (arith, nat_tests)) (e ∙ (ap (page_at new_pages) s ∙ page-own)))
  apart_at q r false false h k o e =
      let f = page-other q (λ i. grind (arith, nat_tests)) in
      let g = page-other r (λ i. grind (arith, nat_tests)) in
      f ∙ is.apart q r o (sym f ∙ (e ∙ g))

  count_more : count new_pages ≡ count pages + 1
  count_more =
      let e : count new_pages + own_count (page_at pages p) ≡ count pages + own_count n = sum_by-set own_count pages p n 0 l in
      let z : own_count (page_at pages p) ≡ 0 = ap own_count none in
      let m : 0 < n = omega (arith, is.count, new) in
      let o : own_count n ≡ 1 = grind (arith, nat_tests) in
      omega (arith, e, z, o)

  pub own-table : IsTable usual new_pages new_values
  own-table = record {
    first = λ i h. old_at i (omega (arith, is.inside 0)) ∙ is.first i h;
    inside = λ q. inside_at q (nat_eq q p) refl;
    apart = λ q r o e. apart_at q r (nat_eq q p) (nat_eq r p) refl refl o e;
    count = omega (arith, length_more, count_more, is.count);
  }

  -- there is room for the page
  pub own-room : length values + page_size ≤ page_size * (length pages + 1)
  own-room =
      let h : count new_pages ≤ length new_pages = count_by-le-length (λ (page : ℕ). nat_lt 0 page) new_pages in
      omega (arith, h, count_more, is.count, length-set pages p n)
