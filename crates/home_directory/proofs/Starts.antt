-- A home at the start: an entry for each place, nothing open, and each as a recovery leaves it.
use Rattle.std.proofs.Common.{◌≡◌, ℕ, zero, suc, ◌+◌, ◌*◌, Bool, true, false, cond, List, [], ◌∷◌, ◌++◌, length, get_or, set, take, slice_get}
use Rattle.std.proofs.Common.{Some, None, replicate, refl, sym, ap, subst, ◌∙◌, add-one, length-append}
use Rattle.std.proofs.lemmas.List.{append_assoc, set_at, set-get_or, get_or_at, length-replicate}
use Rattle.sn_base.specs.Image.{SegmentData, ImageData, covers, byte_in, byte_at}
use Rattle.sn_model.specs.Homes.{HomeEntry}
use Rattle.sn_model.specs.Fabric.{first_home, no_entry}
use Rattle.home_directory.specs.Home.{usual_entry, entries_below}
use Rattle.home_directory.specs.Open.{with_open, opens_from}
use Rattle.home_directory.specs.Touched.{IsCleared}

-- one entry more
pub entries_more : (place : ℕ) (image : ImageData) (node nodes : ℕ) →
    entries_below (place + 1) image node nodes ≡ entries_below place image node nodes ++ first_home image (node + nodes * place) ∷ []
entries_more place image node nodes = ap (λ k. entries_below k image node nodes) (add-one place)

pub length_entries : (places : ℕ) (image : ImageData) (node nodes : ℕ) → length (entries_below places image node nodes) ≡ places
length_entries zero image node nodes = refl
length_entries (suc place) image node nodes =
    length-append (entries_below place image node nodes) (first_home image (node + nodes * place) ∷ [])
    ∙ ap (λ n. n + 1) (length_entries place image node nodes) ∙ add-one place

closed_more : (s : ℕ) (xs : List HomeEntry) (e : HomeEntry) → e.transaction ≡ None → opens_from s (xs ++ e ∷ []) ≡ opens_from s xs
closed_more s [] e h = rw h refl
closed_more s (x ∷ xs) e h = ap (with_open s x.transaction) (closed_more (s + 1) xs e h)

pub nothing_open : (places s : ℕ) (image : ImageData) (node nodes : ℕ) → opens_from s (entries_below places image node nodes) ≡ []
nothing_open zero s image node nodes = refl
nothing_open (suc place) s image node nodes =
    closed_more s (entries_below place image node nodes) (first_home image (node + nodes * place)) refl
    ∙ nothing_open place s image node nodes

cleared_more : (xs : List HomeEntry) (e : HomeEntry) → IsCleared e → ((p : ℕ) → IsCleared (get_or xs p no_entry)) → (p : ℕ) →
    IsCleared (get_or (xs ++ e ∷ []) p no_entry)
cleared_more [] e h k zero = h
cleared_more [] e h k (suc p) = refl
cleared_more (x ∷ xs) e h k zero = k zero
cleared_more (x ∷ xs) e h k (suc p) = cleared_more xs e h (λ q. k (suc q)) p

pub cleared_first : (places : ℕ) (image : ImageData) (node nodes : ℕ) (p : ℕ) →
    IsCleared (get_or (entries_below places image node nodes) p no_entry)
cleared_first zero image node nodes p = refl
cleared_first (suc place) image node nodes p =
    cleared_more (entries_below place image node nodes) (first_home image (node + nodes * place)) refl
    (cleared_first place image node nodes) p

-- a segment more that gives the address nothing but 0
pub nothing_more : (segments : List SegmentData) (k : ℕ) (s : SegmentData) (a : ℕ) → slice_get segments k ≡ Some s →
    (covers s a ≡ true → byte_in s a ≡ 0) → byte_at (take k segments) a ≡ 0 → byte_at (take (suc k) segments) a ≡ 0
nothing_more [] k s a e c h = absurd (cc)
nothing_more (t ∷ segments) zero s a e c h =
    let i : s ≡ t = cc in go (covers t a) refl (subst (λ (x : SegmentData). covers x a ≡ true → byte_in x a ≡ 0) i c)
  where
    go : (q : Bool) → covers t a ≡ q → (covers t a ≡ true → byte_in t a ≡ 0) → cond q (byte_in t a) 0 ≡ 0
    go true f g = g f
    go false f g = refl
nothing_more (t ∷ segments) (suc k) s a e c h = go (covers t a) h (λ g. nothing_more segments k s a e c g)
  where
    go : (q : Bool) → cond q (byte_in t a) (byte_at (take k segments) a) ≡ 0 →
        (byte_at (take k segments) a ≡ 0 → byte_at (take (suc k) segments) a ≡ 0) →
        cond q (byte_in t a) (byte_at (take (suc k) segments) a) ≡ 0
    go true g f = g
    go false g f = f g

-- the first entries, and so many usual ones after them
module _ (image : ImageData) (node nodes : ℕ) where
  abbrev pub begun : ℕ → ℕ → List HomeEntry
  begun place rest = entries_below place image node nodes ++ replicate rest usual_entry

  pub length_begun : (place rest : ℕ) → length (begun place rest) ≡ place + rest
  length_begun place rest =
      length-append (entries_below place image node nodes) (replicate rest usual_entry)
      ∙ ap (λ n. n + length (replicate rest usual_entry)) (length_entries place image node nodes)
      ∙ ap (λ n. place + n) (length-replicate rest usual_entry)

  joined : (place rest : ℕ) →
      entries_below place image node nodes ++ first_home image (node + nodes * place) ∷ replicate rest usual_entry ≡ begun (place + 1) rest
  joined place rest =
      sym (ap (λ (es : List HomeEntry). es ++ replicate rest usual_entry) (entries_more place image node nodes)
      ∙ append_assoc (entries_below place image node nodes) (first_home image (node + nodes * place) ∷ []) (replicate rest usual_entry))

  -- the next entry is the usual one yet, and is written
  pub begun_next : (place rest : ℕ) → get_or (begun place (suc rest)) place no_entry ≡ usual_entry
  begun_next place rest =
      get_or_at (entries_below place image node nodes) usual_entry (replicate rest usual_entry) no_entry place (length_entries place image node nodes)

  pub begun_written : (place rest : ℕ) → set (begun place (suc rest)) place (first_home image (node + nodes * place)) ≡ begun (place + 1) rest
  begun_written place rest =
      set_at (entries_below place image node nodes) usual_entry (replicate rest usual_entry) (first_home image (node + nodes * place)) place
      (length_entries place image node nodes)
      ∙ joined place rest

-- an entry that is the usual one needn't be written
pub usual_stays : (entries : List HomeEntry) (place : ℕ) (entry : HomeEntry) → entry ≡ usual_entry →
    get_or entries place no_entry ≡ usual_entry → entries ≡ set entries place entry
usual_stays entries place entry h k = sym (ap (set entries place) (h ∙ sym k) ∙ set-get_or entries place no_entry)
