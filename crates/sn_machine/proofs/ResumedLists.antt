-- Lists on the way to a machine that goes on: bytes given, records committed and bytes released.
use Rattle.std.proofs.Common.{◌≡◌, ℕ, zero, suc, ◌+◌, ◌-◌, ◌<◌, ◌≤◌, Bool, true, false, cond, List, [], ◌∷◌, ◌++◌, length, map, take, drop, get_or}
use Rattle.std.proofs.Common.{drop-cons, refl, sym, ap, ◌∙◌, subst, append_assoc, arith, add-one, length-set}
use Rattle.std.specs.Prelude.{nat_eq, option_to_list}
use Rattle.std.specs.List.{filter}
use Rattle.std.proofs.lemmas.Bool.Decides.{nat_tests}
use Rattle.std.proofs.lemmas.List.{length-map, length_push, map-append, append-nil, take_all, take_more, get_or_append_left, get_or_push}
use Rattle.sn_base.specs.Image.{ImageData}
use Rattle.rv_core.specs.declared.step.Record.{Record}
use Rattle.rv_core.specs.Core.{start_of as start_core}
use Rattle.rv_core.specs.Flat.{FlatState, HasStep, flat_start, flat_step, first_cores, next_by, after_write}
use Rattle.rv_core.specs.Execution.{Executes, state_after, put_out_by, end_of}
use Rattle.interval_list.specs.WaitingList.{entries_in, entries_below, waiting_from}
use Rattle.sn_saved.specs.Saved.{given_to}
use Rattle.output_commit.specs.Output.{Output}
use Rattle.sn_history.specs.History.{HistoryData}
use Rattle.sn_machine.specs.Resumed.{of_interval_0}

-- a list that has one element more

pub pushed-at : {A : Type 0} (f : ℕ → A) (xs : List A) (x d : A) (n : ℕ) → length xs ≡ n → ((k : ℕ) → k < n → get_or xs k d ≡ f k) →
    x ≡ f n → (k : ℕ) → k < n + 1 → get_or (xs ++ x ∷ []) k d ≡ f k
pushed-at f xs x d n long each last k l = go (nat_eq k n) refl
  where
    go : (b : Bool) → nat_eq k n ≡ b → get_or (xs ++ x ∷ []) k d ≡ f k
    go true e =
        let same : k ≡ n = grind (arith, nat_tests, e) in get_or_push xs x d k (omega (arith, long, same)) ∙ (last ∙ ap f (sym same))
    go false e =
        let below : k < n = grind (arith, nat_tests, e, l) in get_or_append_left xs (x ∷ []) d k (omega (arith, long, below)) ∙ each k below

-- the bytes of a node

module _ (given : List (ℕ × ℕ)) (place node : ℕ) (d : ℕ × ℕ) (l : place < length given) where
  by_test : (b : Bool) → nat_eq (get_or given place d).0 node ≡ b →
      given_to (drop place given) node
      ≡ cond b ((get_or given place d).1 ∷ given_to (drop (place + 1) given) node) (given_to (drop (place + 1) given) node)
  by_test b e =
      ap (λ (xs : List (ℕ × ℕ)). given_to xs node) (drop-cons given place d l)
      ∙ (one (get_or given place d) (drop (suc place) given) b e
      ∙ ap (λ (k : ℕ). cond b ((get_or given place d).1 ∷ given_to (drop k given) node) (given_to (drop k given) node)) (sym (add-one place)))
    where
      one : (x : ℕ × ℕ) (xs : List (ℕ × ℕ)) (q : Bool) → nat_eq x.0 node ≡ q →
          given_to (x ∷ xs) node ≡ cond q (x.1 ∷ given_to xs node) (given_to xs node)
      one x xs true f = ap (λ (t : Bool). map (λ (y : ℕ × ℕ). y.1) (cond t (x ∷ filter (λ (y : ℕ × ℕ). nat_eq y.0 node) xs) (filter (λ (y : ℕ × ℕ). nat_eq y.0 node) xs))) f
      one x xs false f = ap (λ (t : Bool). map (λ (y : ℕ × ℕ). y.1) (cond t (x ∷ filter (λ (y : ℕ × ℕ). nat_eq y.0 node) xs) (filter (λ (y : ℕ × ℕ). nat_eq y.0 node) xs))) f

  pub given-here : (get_or given place d).0 ≡ node → given_to (drop place given) node ≡ (get_or given place d).1 ∷ given_to (drop (place + 1) given) node
  given-here e = by_test true (grind (arith, nat_tests, e))

  pub given-elsewhere : ((get_or given place d).0 ≡ node → ⊥) → given_to (drop place given) node ≡ given_to (drop (place + 1) given) node
  given-elsewhere e = by_test false (grind (arith, nat_tests, e))

-- what waits of interval 0 alone

module _ {T : Type 0} where
  pub held-more : (xs : List T) (place : ℕ) (d : T) → place < length xs →
      of_interval_0 (take (place + 1) xs) ≡ of_interval_0 (take place xs) ++ record { interval = 0; entry = get_or xs place d } ∷ []
  held-more xs place d l =
      ap of_interval_0 (take_more xs place d l)
      ∙ map-append (λ (x : T). record { interval = 0; entry = x }) (take place xs) (get_or xs place d ∷ [])

  pub held-append : (xs ys : List T) → of_interval_0 (xs ++ ys) ≡ of_interval_0 xs ++ of_interval_0 ys
  held-append xs ys = map-append (λ (x : T). record { interval = 0; entry = x }) xs ys

  all_in : (xs : List T) → entries_in 0 (of_interval_0 xs) ≡ xs
  all_in [] = refl
  all_in (x ∷ xs) = ap (λ (ys : List T). x ∷ ys) (all_in xs)

  -- all is committed at checkpoint 1
  pub all-below : (xs : List T) → entries_below 1 (of_interval_0 xs) ≡ xs
  all-below xs = all_in xs

  pub none-left : (xs : List T) → waiting_from 1 (of_interval_0 xs) ≡ []
  none-left [] = refl
  none-left (x ∷ xs) = none-left xs

-- the history gets one record more, and then commits all

abbrev pub waiting_records : List Record → ℕ → HistoryData
waiting_records rs place = record { pending = of_interval_0 (take place rs); committed = []; room = length rs - place }

module _ (rs : List Record) (place : ℕ) (old new : HistoryData) (e : old ≡ waiting_records rs place) where
  pub record-added : (r : Record) → place < length rs → r ≡ get_or rs place r →
      new ≡ record old { pending = old.pending ++ record { interval = 0; entry = r } ∷ []; room = old.room - 1 } →
      new ≡ waiting_records rs (place + 1)
  record-added r l is n = n ∙ (λ i. record { pending = pending i; committed = (e i).committed; room = room i })
    where
      pending : old.pending ++ record { interval = 0; entry = r } ∷ [] ≡ of_interval_0 (take (place + 1) rs)
      pending =
          ap (λ (h : HistoryData). h.pending ++ record { interval = 0; entry = r } ∷ []) e
          ∙ (ap (λ (x : Record). of_interval_0 (take place rs) ++ record { interval = 0; entry = x } ∷ []) is ∙ sym (held-more rs place r l))

      room : old.room - 1 ≡ length rs - (place + 1)
      room = let q = ap (λ (h : HistoryData). h.room) e in omega (arith, q)

  pub records-committed : length rs ≤ place →
      new ≡ record old { pending = waiting_from 1 old.pending; committed = old.committed ++ entries_below 1 old.pending } →
      new ≡ record { pending = []; committed = rs; room = 0 }
  records-committed l n = n ∙ (λ i. record { pending = pending i; committed = committed i; room = room i })
    where
      pending : waiting_from 1 old.pending ≡ []
      pending =
          ap (λ (h : HistoryData). waiting_from 1 h.pending) e
          ∙ (ap (λ (xs : List Record). waiting_from 1 (of_interval_0 xs)) (take_all place rs l) ∙ none-left rs)

      committed : old.committed ++ entries_below 1 old.pending ≡ rs
      committed =
          ap (λ (h : HistoryData). h.committed ++ entries_below 1 h.pending) e
          ∙ (ap (λ (xs : List Record). entries_below 1 (of_interval_0 xs)) (take_all place rs l) ∙ all-below rs)

      room : old.room ≡ 0
      room = let q = ap (λ (h : HistoryData). h.room) e in omega (arith, q, l)

-- the bytes that are held are released
pub all-released : (bytes : List ℕ) (old new : Output) → old.held ≡ of_interval_0 bytes → old.released ≡ [] →
    new ≡ record old { held = waiting_from 1 old.held; released = old.released ++ entries_below 1 old.held } →
    (new.held ≡ []) × (new.released ≡ bytes)
all-released bytes old new held released n = (
  ap (λ (o : Output). o.held) n ∙ (ap (waiting_from 1) held ∙ none-left bytes),
  ap (λ (o : Output). o.released) n
      ∙ (ap (λ (xs : List ℕ). xs ++ entries_below 1 old.held) released ∙ (ap (entries_below 1) held ∙ all-below bytes)),
)

-- the flat machine does one record more

module _ (image : ImageData) where
  step_at : (s : FlatState) (rs : List Record) (p : ℕ) (d : Record) → p < length rs → Executes image s rs →
      HasStep image (state_after image s (take p rs)) (get_or rs p d)
  step_at s [] p d l g = absurd (omega arith)
  step_at s (r ∷ rs) zero d l g = g.0
  step_at s (r ∷ rs) (suc p) d l g = step_at (flat_step image s r) rs p d (omega arith) g.1

  state_more : (s : FlatState) (rs : List Record) (p : ℕ) (d : Record) → p < length rs →
      state_after image s (take (suc p) rs) ≡ flat_step image (state_after image s (take p rs)) (get_or rs p d)
  state_more s [] p d l = absurd (omega arith)
  state_more s (r ∷ rs) zero d l = refl
  state_more s (r ∷ rs) (suc p) d l = state_more (flat_step image s r) rs p d (omega arith)

  out_more : (s : FlatState) (rs : List Record) (p : ℕ) (d : Record) → p < length rs →
      put_out_by image s (take (suc p) rs)
      ≡ put_out_by image s (take p rs) ++ option_to_list (next_by image (state_after image s (take p rs)) (get_or rs p d)).effect.out
  out_more s [] p d l = absurd (omega arith)
  out_more s (r ∷ rs) zero d l = append-nil (option_to_list (next_by image s r).effect.out)
  out_more s (r ∷ rs) (suc p) d l =
      ap (λ (bytes : List ℕ). option_to_list (next_by image s r).effect.out ++ bytes) (out_more (flat_step image s r) rs p d (omega arith))
      ∙ sym (append_assoc (option_to_list (next_by image s r).effect.out) (put_out_by image (flat_step image s r) (take p rs))
      (option_to_list (next_by image (state_after image (flat_step image s r) (take p rs)) (get_or rs p d)).effect.out))

  module _ (s : FlatState) (rs : List Record) (p : ℕ) (r : Record) (l : p < length rs) (is : r ≡ get_or rs p r) (flat : FlatState)
      (at : flat ≡ state_after image s (take p rs)) where
    pub step-at : Executes image s rs → HasStep image flat r
    step-at g = subst (λ (f : FlatState). HasStep image f r) (sym at)
        (subst (HasStep image (state_after image s (take p rs))) (sym is) (step_at s rs p r l g))

    pub state-more : flat_step image flat r ≡ state_after image s (take (p + 1) rs)
    state-more =
        ap (λ (f : FlatState). flat_step image f r) at
        ∙ (ap (flat_step image (state_after image s (take p rs))) is
        ∙ (sym (state_more s rs p r l) ∙ ap (λ (k : ℕ). state_after image s (take k rs)) (sym (add-one p))))

    pub out-more : put_out_by image s (take p rs) ++ option_to_list (next_by image flat r).effect.out ≡ put_out_by image s (take (p + 1) rs)
    out-more =
        ap (λ (f : FlatState). put_out_by image s (take p rs) ++ option_to_list (next_by image f r).effect.out) at
        ∙ (ap (λ (x : Record). put_out_by image s (take p rs) ++ option_to_list (next_by image (state_after image s (take p rs)) x).effect.out) is
        ∙ (sym (out_more s rs p r l) ∙ ap (λ (k : ℕ). put_out_by image s (take k rs)) (sym (add-one p))))

-- the flat machine keeps its cores

length_first : (n entry : ℕ) → length (first_cores n entry) ≡ n
length_first zero entry = refl
length_first (suc n) entry =
    let a = length_push (first_cores n entry) (start_core n entry) in let b = length_first n entry in omega (arith, a, b)

cores_stay : (image : ImageData) (s : FlatState) (rs : List Record) → length (state_after image s rs).cores ≡ length s.cores
cores_stay image s [] = refl
cores_stay image s (r ∷ rs) =
    cores_stay image (flat_step image s r) rs
    ∙ (length-set (map (after_write (next_by image s r).effect.write) s.cores) r.core (next_by image s r).core
    ∙ length-map s.cores (after_write (next_by image s r).effect.write))

pub cores-count : (image : ImageData) (nodes : ℕ) (rs : List Record) (flat : FlatState) → flat ≡ end_of image nodes rs →
    length flat.cores ≡ nodes
cores-count image nodes rs flat e =
    ap (λ (f : FlatState). length f.cores) e ∙ (cores_stay image (flat_start image nodes) rs ∙ length_first nodes image.entry)
