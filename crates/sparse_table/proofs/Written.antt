-- A place that has a page of its own is written: the other places keep their values.
use Rattle.std.proofs.Common.{◌≡◌, ◌≢◌, ℕ, ◌/◌, ◌<◌, Bool, true, false, List, get_or, set}
use Rattle.std.proofs.Common.{refl, sym, ap, ◌∙◌, arith, length-set, get_or-set_same, get_or-set_other, ext_get_or}
use Rattle.std.specs.Prelude.{nat_eq}
use Rattle.std.proofs.lemmas.Bool.Decides.{nat_tests}
use Rattle.sparse_table.specs.Pages.{page_size, page_at, position, value_at, values_below, IsTable}
use Rattle.sparse_table.proofs.Values.{length-below, at-below}
use Rattle.sparse_table.proofs.OwnPage.{position-inside}

module _ {X : Type 0} (usual : X) (pages : List ℕ) (values : List X) (place : ℕ) (value : X) (is : IsTable usual pages values) (own : 0 < page_at pages (place / page_size)) where
  abbrev written : List X
  written = set values (position pages place) value

  other_page : (q : ℕ) (t : Bool) → nat_eq (q / page_size) (place / page_size) ≡ t → q ≢ place → position pages q ≢ position pages place
  other_page q true h o e =
      let s : q / page_size ≡ place / page_size = grind (arith, nat_tests) in
      let k : page_at pages (q / page_size) ≡ page_at pages (place / page_size) = ap (page_at pages) s in
      o (omega (arith, s, k, e))
  other_page q false h o e =
      let s : place / page_size ≢ q / page_size = λ i. grind (arith, nat_tests) in
      let k : page_at pages (place / page_size) ≡ page_at pages (q / page_size) = omega (arith, e) in
      omega (arith, is.apart (place / page_size) (q / page_size) s k, own)

  other_position : (q : ℕ) → q ≢ place → position pages q ≢ position pages place
  other_position q o = other_page q (nat_eq (q / page_size) (place / page_size)) refl o

  value_by : (n q : ℕ) (t : Bool) → nat_eq q place ≡ t → q < n → place < n →
      value_at usual pages written q ≡ get_or (set (values_below usual pages values n) place value) q usual
  value_by n q true h l m =
      let e : q ≡ place = grind (arith, nat_tests) in
      ap (value_at usual pages written) e
      ∙ get_or-set_same values (position pages place) value usual (position-inside usual pages values place is)
      ∙ sym (ap (λ (k : ℕ). get_or (set (values_below usual pages values n) place value) k usual) e
      ∙ get_or-set_same (values_below usual pages values n) place value usual (omega (arith, length-below usual pages values n)))
  value_by n q false h l m =
      let o : q ≢ place = λ e. grind (arith, nat_tests) in
      get_or-set_other values (position pages place) (position pages q) value usual (other_position q o)
      ∙ sym (get_or-set_other (values_below usual pages values n) place q value usual o ∙ at-below usual pages values n q usual l)

  pub written-below : (n : ℕ) → place < n → values_below usual pages written n ≡ set (values_below usual pages values n) place value
  written-below n m =
      let e = length-below usual pages written n in
      ext_get_or usual (values_below usual pages written n) (set (values_below usual pages values n) place value)
      (e ∙ sym (length-set (values_below usual pages values n) place value ∙ length-below usual pages values n))
      (λ q l. let k : q < n = omega (arith, e, l) in
      at-below usual pages written n q usual k ∙ value_by n q (nat_eq q place) refl k m)

  pub written-table : IsTable usual pages written
  written-table = record {
    first =
        λ i h. get_or-set_other values (position pages place) i value usual (λ (e : i ≡ position pages place). omega (arith, e, h, own))
        ∙ is.first i h;
    inside = λ p. omega (arith, is.inside p, length-set values (position pages place) value);
    apart = is.apart;
    count = length-set values (position pages place) value ∙ is.count;
  }
