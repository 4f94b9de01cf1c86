-- How many blocks a cache owned at a checkpoint: what each entry of its log keeps is counted back, the newest first.
use Rattle.std.proofs.Common.{◌≡◌, ◌≢◌, ℕ, zero, suc, ◌+◌, ◌-◌, ◌<◌, ◌≤◌, ◌^◌, Bool, true, false, not, ◌&&◌, if◌then◌else◌, nat_eq, List, [], ◌∷◌}
use Rattle.std.proofs.Common.{length, get_or, drop, Option, Some, None, All, refl, sym, ap, subst, ◌∙◌, arith, true≢false, is_some}
use Rattle.std.specs.Prelude.{nat_le, nat_lt, slice_get}
use Rattle.std.specs.Option.{option_map}
use Rattle.std.proofs.lemmas.Bool.{eq-eqb, ne_eqb, leb-true, ltb-false}
use Rattle.std.proofs.lemmas.Bool.Decides.{nat_tests}
use Rattle.std.proofs.lemmas.List.{drop_more, drop_all}
use Rattle.std.proofs.lemmas.List.Elements.{All-head, All-tail, All-nil, All-cons}
use Rattle.std.proofs.lemmas.Option.{slice_get-get_or}
use Rattle.sn_base.specs.declared.log.LogEntry.{LogEntry}
use Rattle.sn_base.specs.declared.log.Old.{Old}
use Rattle.sn_base.specs.declared.log.Old.TheVariants.{NotOwned, Owned, WasHome, WasCache}
use Rattle.log_buffer.specs.Log.{is_home_side, is_about, earlier, entry_at, old_at, IsGrowing}
use Rattle.log_buffer.proofs.Entries.{about_same, IsGrowing-head, IsGrowing-tail, IsGrowing-drop, entry_at-first}
use Rattle.sn_model.specs.declared.cache.LineState.{LineState}
use Rattle.sn_model.specs.declared.cache.LineState.TheVariants as state
use Rattle.sn_model.specs.Caches.{Cache, Line, block_count, line_of, is_owned}
use Rattle.sn_model.specs.Cuts.{held_by, owned_content}
use Rattle.sn_model.specs.Fabric.{Fabric, node_at}
use Rattle.run_statistics.specs.Numbers.{bounded_sum}
use Rattle.run_statistics.specs.Owned.{one_if, count_below, owns, owned_blocks, owns_at, owned_blocks_at, is_undone, was_owned, owned_behind}
use Rattle.run_statistics.proofs.CountBelow.{all-at-most, one-at-most, same-below, one-differs}

-- by a log, whether a cache owned a block at a checkpoint

abbrev pub owned_by : List LogEntry → ℕ → Cache → ℕ → Bool
owned_by log k cache b = is_some (held_by (old_at log false b k) (line_of cache b))

pub owned-now : (line : Line) (s : LineState) → is_some (owned_content line s) ≡ is_owned s
owned-now line state.Absent = refl
owned-now line state.Shared = refl
owned-now line state.Owned = refl
owned-now line state.Modified = refl
owned-now line state.Exclusive = refl

pub owned-then : (line : Line) (old : Old) → is_some (held_by (Some old) line) ≡ was_owned old
owned-then line NotOwned = refl
owned-then line (Owned content) = refl
owned-then line (WasHome content) = refl
owned-then line (WasCache node) = refl

-- an entry that isn't of the cache's side, or below the checkpoint, or of another block

passed_over : (h q l : Bool) (a b : Option LogEntry) → (not h && l) ≡ false → (if (not h && q) && l then a else b) ≡ b
passed_over true q l a b e = refl
passed_over false true true a b e = absurd (true≢false e)
passed_over false true false a b e = refl
passed_over false false l a b e = refl

of_another : (h q l : Bool) (a b : Option LogEntry) → q ≡ false → (if (not h && q) && l then a else b) ≡ b
of_another true q l a b e = refl
of_another false true l a b e = absurd (true≢false e)
of_another false false l a b e = refl

module _ (k : ℕ) (cache : Cache) (e : LogEntry) (es : List LogEntry) where
  abbrev by_entry : ℕ → Option LogEntry → Bool
  by_entry b o = is_some (held_by (option_map (λ (f : LogEntry). f.old) o) (line_of cache b))

  passed : is_undone k e ≡ false → (b : ℕ) → owned_by (e ∷ es) k cache b ≡ owned_by es k cache b
  passed not_undone b =
      ap (by_entry b) (passed_over (is_home_side e.old) (nat_eq e.block b) (nat_le k e.interval) (Some (earlier e (entry_at es false b k))) (entry_at es false b k) not_undone)

  beside : (b : ℕ) → b ≢ e.block → owned_by (e ∷ es) k cache b ≡ owned_by es k cache b
  beside b d =
      ap (by_entry b)
      (of_another (is_home_side e.old) (nat_eq e.block b) (nat_le k e.interval) (Some (earlier e (entry_at es false b k))) (entry_at es false b k)
      (ne_eqb e.block b (λ is. d (sym is))))

  left_true : (a b : Bool) → (a && b) ≡ true → a ≡ true
  left_true true b h = refl
  left_true false b h = absurd (true≢false (sym h))

  right_true : (a b : Bool) → (a && b) ≡ true → b ≡ true
  right_true true b h = h
  right_true false b h = absurd (true≢false (sym h))

  with_block : (a b : Bool) → a ≡ true → b ≡ true → (a && b) ≡ true
  with_block true true h i = refl
  with_block true false h i = i
  with_block false b h i = absurd (true≢false (sym h))

  pub about-itself : is_undone k e ≡ true → is_about false e.block e ≡ true
  about-itself undone =
      with_block (not (is_home_side e.old)) (nat_eq e.block e.block) (left_true (not (is_home_side e.old)) (nat_le k e.interval) undone)
      (eq-eqb e.block e.block refl)

  pub not-below : is_undone k e ≡ true → nat_le k e.interval ≡ true
  not-below undone = right_true (not (is_home_side e.old)) (nat_le k e.interval) undone

  at_itself : IsGrowing (e ∷ es) → is_undone k e ≡ true → owned_by (e ∷ es) k cache e.block ≡ was_owned e.old
  at_itself growing undone =
      ap (by_entry e.block) (entry_at-first e es false e.block k growing (about-itself undone) (not-below undone))
      ∙ owned-then (line_of cache e.block) e.old

  pub passed-back : is_undone k e ≡ false → count_below (owned_by (e ∷ es) k cache) block_count ≡ count_below (owned_by es k cache) block_count
  passed-back not_undone = same-below (owned_by (e ∷ es) k cache) (owned_by es k cache) block_count (λ b l. passed not_undone b)

  pub balanced-back : IsGrowing (e ∷ es) → is_undone k e ≡ true → e.block < block_count →
      count_below (owned_by es k cache) block_count + one_if (was_owned e.old)
      ≡ count_below (owned_by (e ∷ es) k cache) block_count + one_if (owned_by es k cache e.block)
  balanced-back growing undone below =
      ap (λ t. count_below (owned_by es k cache) block_count + one_if t) (sym (at_itself growing undone))
      ∙ one-differs (owned_by es k cache) (owned_by (e ∷ es) k cache) e.block block_count (λ b d. sym (beside b d)) below

-- behind an entry: what stood at the checkpoint after its interval is what the later entries say of any checkpoint up to it

same_tests : (a : Bool) (x i k : ℕ) → (a ≡ true → i < x) → k ≤ i → (a && nat_le (i + 1) x) ≡ (a && nat_le k x)
same_tests true x i k later low = let l = later refl in grind (arith, nat_tests, l, low)
same_tests false x i k later low = refl

chosen : (s t : Bool) (e : LogEntry) (a b : Option LogEntry) → s ≡ t → a ≡ b → (if s then Some (earlier e a) else a) ≡ (if t then Some (earlier e b) else b)
chosen s t e a b h i =
    ap (λ (x : Bool). if x then Some (earlier e a) else a) h ∙ ap (λ (o : Option LogEntry). if t then Some (earlier e o) else o) i

all_later : (es : List LogEntry) (b i k : ℕ) → All (λ (f : LogEntry). is_about false b f ≡ true → i < f.interval) es → k ≤ i →
    entry_at es false b (i + 1) ≡ entry_at es false b k
all_later [] b i k later low = refl
all_later (f ∷ es) b i k later low =
    chosen (is_about false b f && nat_le (i + 1) f.interval) (is_about false b f && nat_le k f.interval) f (entry_at es false b (i + 1))
    (entry_at es false b k) (same_tests (is_about false b f) f.interval i k (All-head (λ (g : LogEntry). is_about false b g ≡ true → i < g.interval) f es later) low)
    (all_later es b i k (All-tail (λ (g : LogEntry). is_about false b g ≡ true → i < g.interval) f es later) low)

too_early : (a : Bool) (x i : ℕ) (e : LogEntry) (o : Option LogEntry) → (a ≡ true → x ≤ i) → (if a && nat_le (i + 1) x then Some (earlier e o) else o) ≡ o
too_early true x i e o early = let l = early refl in grind (arith, nat_tests, l)
too_early false x i e o early = refl

after_first : (e : LogEntry) (es : List LogEntry) (k : ℕ) → IsGrowing (e ∷ es) → is_about false e.block e ≡ true → k ≤ e.interval →
    entry_at (e ∷ es) false e.block (e.interval + 1) ≡ entry_at es false e.block k
after_first e es k growing about low =
    too_early (is_about false e.block e) e.interval e.interval e (entry_at es false e.block (e.interval + 1)) (λ t. omega arith)
    ∙ all_later es e.block e.interval k
    (λ j d l h. IsGrowing-head e es growing j d l (about_same false e.block e (get_or es j d) about h)) low

-- an entry at a place of a log
pub entry-behind : (log : List LogEntry) (p : ℕ) (d : LogEntry) (k : ℕ) → IsGrowing log → p < length log →
    is_about false (get_or log p d).block (get_or log p d) ≡ true → k ≤ (get_or log p d).interval →
    entry_at log false (get_or log p d).block ((get_or log p d).interval + 1) ≡ entry_at (drop (suc p) log) false (get_or log p d).block k
entry-behind [] p d k growing inside about low = absurd (omega (arith, inside))
entry-behind (e ∷ es) zero d k growing inside about low = after_first e es k growing about low
entry-behind (e ∷ es) (suc p) d k growing inside about low =
    too_early (is_about false (get_or es p d).block e) e.interval (get_or es p d).interval e
    (entry_at es false (get_or es p d).block ((get_or es p d).interval + 1))
    (λ t. let l = IsGrowing-head e es growing p d (omega (arith, inside)) (about_same false (get_or es p d).block e (get_or es p d) t about) in omega (arith, l))
    ∙ entry-behind es p d k (IsGrowing-tail e es growing) (omega (arith, inside)) about low

-- where no later interval has a number
none_later : (es : List LogEntry) (b i k : ℕ) → All (λ (f : LogEntry). is_about false b f ≡ true → i < f.interval) es →
    All (λ (f : LogEntry). f.interval < 2 ^ 32) es → 2 ^ 32 ≤ i + 1 → entry_at es false b k ≡ None
none_later [] b i k later small last = refl
none_later (f ∷ es) b i k later small last =
    go (is_about false b f) refl
    (none_later es b i k (All-tail (λ (g : LogEntry). is_about false b g ≡ true → i < g.interval) f es later)
    (All-tail (λ (g : LogEntry). g.interval < 2 ^ 32) f es small) last)
  where
    go : (a : Bool) → is_about false b f ≡ a → entry_at es false b k ≡ None →
        (if a && nat_le k f.interval then Some (earlier f (entry_at es false b k)) else entry_at es false b k) ≡ None
    go true is none =
        let l = All-head (λ (g : LogEntry). is_about false b g ≡ true → i < g.interval) f es later is in
        let m = All-head (λ (g : LogEntry). g.interval < 2 ^ 32) f es small in
        absurd (omega (arith, l, m, last))
    go false is none = none

-- a log that is counted back as far as a place

pub record IsCountedBack (s : Fabric) (k n done back : ℕ) : Type 0 where
  pub small : All (λ (e : LogEntry). e.interval < 2 ^ 32) (drop (length (node_at s n).log - done) (node_at s n).log)
  pub counted : back ≡ count_below (owned_by (drop (length (node_at s n).log - done) (node_at s n).log) k (node_at s n).cache) block_count

moved_back : (old new had has : ℕ) → old + had ≡ new + has → old ≤ 65536 → had ≤ 1 → has ≤ 1 → bounded_sum old had - has ≡ new
moved_back old new had has e few one two = grind (arith, e, few, one, two)

module _ (s : Fabric) (k n : ℕ) where
  abbrev log : List LogEntry
  log = (node_at s n).log

  abbrev cache : Cache
  cache = (node_at s n).cache

  none_yet : owned_blocks s n ≡ count_below (owned_by [] k cache) block_count
  none_yet = same-below (owns s n) (owned_by [] k cache) block_count (λ b l. sym (owned-now (line_of cache b) (line_of cache b).state))

  abbrev IsCounted : ℕ → List LogEntry → Type 0
  IsCounted back es = All (λ (e : LogEntry). e.interval < 2 ^ 32) es × (back ≡ count_below (owned_by es k cache) block_count)

  pub counted-none : (owned : ℕ) → owned ≡ owned_blocks s n → IsCountedBack s k n 0 owned
  counted-none owned is =
      let h : IsCounted owned (drop (length log - 0) log) =
      subst (IsCounted owned) (sym (drop_all (length log - 0) log (omega arith))) (All-nil (λ (e : LogEntry). e.interval < 2 ^ 32), is ∙ none_yet) in
      record { small = h.0; counted = h.1 }

  pub counted-all : (done owned : ℕ) → length log ≤ done → IsCountedBack s k n done owned → owned ≡ owned_blocks_at s k n
  counted-all done owned all h =
      h.counted ∙ ap (λ (i : ℕ). count_below (owned_by (drop i log) k cache) block_count) (let e : length log - done ≡ 0 = omega (arith, all) in e)

  module _ (done back : ℕ) (entry : LogEntry) (growing : IsGrowing log) (h : IsCountedBack s k n done back) (left : done < length log)
      (small : entry.interval < 2 ^ 32) (here : slice_get log (length log - 1 - done) ≡ Some entry) (below : entry.block < block_count) where
    abbrev place : ℕ
    place = length log - 1 - done

    abbrev rest : List LogEntry
    rest = drop (length log - done) log

    read : get_or log place entry ≡ entry
    read =
        let same : Some (get_or log place entry) ≡ Some entry = sym (slice_get-get_or log place entry (omega (arith, left))) ∙ here in
        cc

    next : suc place ≡ length log - done
    next = omega (arith, left)

    from_place : drop place log ≡ entry ∷ rest
    from_place =
        drop_more log place entry (omega (arith, left)) ∙ ap (λ (e : LogEntry). e ∷ drop (place + 1) log) read
        ∙ ap (λ (i : ℕ). entry ∷ drop i log) (let e : place + 1 ≡ length log - done = omega (arith, left) in e)

    growing_here : IsGrowing (entry ∷ rest)
    growing_here = subst IsGrowing from_place (IsGrowing-drop place log growing)

    owned_rest : is_undone k entry ≡ true → owned_behind s n entry ≡ owned_by rest k cache entry.block
    owned_rest undone = by (nat_lt (entry.interval + 1) (2 ^ 32)) refl where
      about : is_about false entry.block entry ≡ true
      about = about-itself k cache entry rest undone

      low : k ≤ entry.interval
      low = leb-true k entry.interval (not-below k cache entry rest undone)

      behind : entry_at log false entry.block (entry.interval + 1) ≡ entry_at rest false entry.block k
      behind =
          subst (λ (e : LogEntry). entry_at log false e.block (e.interval + 1) ≡ entry_at (drop (suc place) log) false e.block k) read
          (entry-behind log place entry k growing (omega (arith, left)) (subst (λ (e : LogEntry). is_about false e.block e ≡ true) (sym read) about)
          (subst (λ (e : LogEntry). k ≤ e.interval) (sym read) low))
          ∙ ap (λ (i : ℕ). entry_at (drop i log) false entry.block k) next

      by : (t : Bool) → nat_lt (entry.interval + 1) (2 ^ 32) ≡ t →
          (if t then owns_at s (entry.interval + 1) n entry.block else owns s n entry.block) ≡ owned_by rest k cache entry.block
      by true is =
          ap (λ (o : Option LogEntry). is_some (held_by (option_map (λ (f : LogEntry). f.old) o) (line_of cache entry.block))) behind
      by false is =
          sym (owned-now (line_of cache entry.block) (line_of cache entry.block).state)
          ∙ ap (λ (o : Option LogEntry). is_some (held_by (option_map (λ (f : LogEntry). f.old) o) (line_of cache entry.block)))
          (sym (none_later rest entry.block entry.interval k
          (λ j d l a. IsGrowing-head entry rest growing_here j d l (about_same false entry.block entry (get_or rest j d) about a)) h.small
          (ltb-false (entry.interval + 1) (2 ^ 32) is)))

    counted_next : (new : ℕ) → new ≡ count_below (owned_by (entry ∷ rest) k cache) block_count → IsCountedBack s k n (done + 1) new
    counted_next new is =
        let e : drop (length log - (done + 1)) log ≡ entry ∷ rest =
        ap (λ (i : ℕ). drop i log) (let m : length log - (done + 1) ≡ place = omega (arith, left) in m) ∙ from_place in
        let g : IsCounted new (drop (length log - (done + 1)) log) =
        subst (IsCounted new) (sym e) (All-cons (λ (f : LogEntry). f.interval < 2 ^ 32) entry rest small h.small, is) in
        record { small = g.0; counted = g.1 }

    pub counted-next : (new : ℕ) → (is_undone k entry ≡ false → new ≡ back) →
        (is_undone k entry ≡ true → new ≡ bounded_sum back (one_if (was_owned entry.old)) - one_if (owned_behind s n entry)) →
        IsCountedBack s k n (done + 1) new
    counted-next new passed undone = by (is_undone k entry) refl where
      by : (t : Bool) → is_undone k entry ≡ t → IsCountedBack s k n (done + 1) new
      by false is = counted_next new (passed is ∙ h.counted ∙ sym (passed-back k cache entry rest is))
      by true is =
          counted_next new
          (undone is
          ∙ ap (λ (t : Bool). bounded_sum back (one_if (was_owned entry.old)) - one_if t) (owned_rest is)
          ∙ ap (λ (c : ℕ). bounded_sum c (one_if (was_owned entry.old)) - one_if (owned_by rest k cache entry.block)) h.counted
          ∙ moved_back (count_below (owned_by rest k cache) block_count) (count_below (owned_by (entry ∷ rest) k cache) block_count)
          (one_if (was_owned entry.old)) (one_if (owned_by rest k cache entry.block)) (balanced-back k cache entry rest growing_here is below)
          (all-at-most (owned_by rest k cache) block_count) (one-at-most (was_owned entry.old)) (one-at-most (owned_by rest k cache entry.block)))
