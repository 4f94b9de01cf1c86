-- The frames while a recovery begins: one frame more is settled, and what all of them leave.
use Rattle.std.proofs.Common.{◌≡◌, ◌≢◌, ℕ, ◌+◌, ◌*◌, ◌<◌, ◌≤◌, Bool, true, false, List, [], ◌∷◌, length, get_or, set, drop, Option, Some, None, ◌⊎◌}
use Rattle.std.proofs.Common.{inl, inr, refl, sym, ap, ◌∙◌, subst, arith, ⊎_elim, length-set}
use Rattle.std.specs.Prelude.{map, nat_eq, replicate}
use Rattle.std.proofs.Math.ListN.{get_or-map, length-map}
use Rattle.std.proofs.lemmas.Bool.Decides.{nat_tests}
use Rattle.std.proofs.lemmas.List.{get_or-set_same, get_or-set_other, length-replicate, drop_more, drop_all, ext_get_or}
use Rattle.std.proofs.lemmas.Option.{none-some}
use Rattle.touched_places.specs.Touched.{is_listed, IsListOf}
use Rattle.touched_places.proofs.Listing.{unlisted, unmarked-first}
use Rattle.cache_array.specs.Slots.{FrameSlots, AreSlots, block_at, frame_of}
use Rattle.cache_array.proofs.Slots.{found-at, frame-found, frame-none, none-at}
use Rattle.sn_model.specs.declared.cache.LineState.{LineState}
use Rattle.sn_model.specs.declared.cache.LineState.TheVariants.{Absent, Shared, Owned, Modified, Exclusive}
use Rattle.sn_model.specs.Caches.{no_line, is_present, block_count}
use Rattle.mosi_cache.specs.Frames.{FrameLine, kept_at, line_kept, line_in_frame, line_in, lines_of, AreLines}
use Rattle.mosi_cache.specs.Restored.{begun_line}
use Rattle.mosi_cache.specs.Unshared.{slot_unless_shared, as_modified, AreUnshared, AreSettled}
use Rattle.mosi_cache.proofs.Frames.{length-lines, line-at}

pub not-shared : (s : LineState) (o : Option ℕ) → (s ≡ Shared → ⊥) → slot_unless_shared s o ≡ o
not-shared Absent o h = refl
not-shared Shared o h = absurd (h refl)
not-shared Owned o h = refl
not-shared Modified o h = refl
not-shared Exclusive o h = refl

pub unshared-none : (s : LineState) → slot_unless_shared s None ≡ None
unshared-none Absent = refl
unshared-none Shared = refl
unshared-none Owned = refl
unshared-none Modified = refl
unshared-none Exclusive = refl

-- frames of which those of a list are still to be settled: what settling leaves of a frame is what it left at first
pub record AreSettling (before now : FrameSlots) (kept left : List FrameLine) (rest : List ℕ) : Type 0 where
  pub slots : AreSlots now
  pub sets : now.sets ≡ before.sets
  pub ways : now.ways ≡ before.ways
  pub whole : length left ≡ length kept
  pub slot : (f : ℕ) → slot_unless_shared (kept_at left f).state (block_at now f) ≡ slot_unless_shared (kept_at kept f).state (block_at before f)
  pub line : (f : ℕ) → as_modified (kept_at left f) ≡ as_modified (kept_at kept f)
  pub others : (f b : ℕ) → is_listed rest f ≡ false → block_at now f ≡ Some b → (kept_at left f).state ≡ Modified

pub settling-first : (marks : List Bool) (places : List ℕ) (d : FrameSlots) (ks : List FrameLine) → AreSlots d → IsListOf marks places →
    AreSettled marks d ks → AreSettling d d ks ks places
settling-first marks places d ks s is h = record {
  slots = s;
  sets = refl;
  ways = refl;
  whole = refl;
  slot = λ f. refl;
  line = λ f. refl;
  others = λ f b k e. h.others f b ((unmarked-first marks places is).others f k) e;
}

-- a frame that is settled is left so
module _ (d e : FrameSlots) (ks ms : List FrameLine) (places : List ℕ) (i f : ℕ) (x : FrameLine) (h : AreSettling d e ks ms (drop i places)) (listed : i < length places) (is : f ≡ get_or places i f) (l : f < length e.slots) (m : f < length ms) (read : x ≡ kept_at ms f) where
  abbrev slots_then : List (Option ℕ)
  slots_then = set e.slots f (slot_unless_shared x.state (block_at e f))

  abbrev then : FrameSlots
  then = record e { slots = slots_then }

  rest : drop i places ≡ f ∷ drop (i + 1) places
  rest = drop_more places i f listed ∙ ap (λ (q : ℕ). q ∷ drop (i + 1) places) (sym is)

  slot_of : (g : ℕ) (t : Bool) → nat_eq f g ≡ t →
      slot_unless_shared (kept_at (set ms f (as_modified x)) g).state (block_at then g) ≡ slot_unless_shared (kept_at ks g).state (block_at d g)
  slot_of g true e' =
      let s : f ≡ g = grind (arith, nat_tests) in
      subst (λ (j : ℕ). slot_unless_shared (kept_at (set ms f (as_modified x)) j).state (block_at then j)
      ≡ slot_unless_shared (kept_at ks j).state (block_at d j)) s
      (ap (λ (k : FrameLine). slot_unless_shared k.state (block_at then f)) (get_or-set_same ms f (as_modified x) _ m)
      ∙ get_or-set_same e.slots f (slot_unless_shared x.state (block_at e f)) None l
      ∙ ap (λ (k : FrameLine). slot_unless_shared k.state (block_at e f)) read
      ∙ h.slot f)
  slot_of g false e' =
      let n : g ≢ f = λ s. grind (arith, nat_tests) in
      ap (λ (k : FrameLine). slot_unless_shared k.state (block_at then g)) (get_or-set_other ms f g (as_modified x) _ n)
      ∙ ap (slot_unless_shared (kept_at ms g).state) (get_or-set_other e.slots f g (slot_unless_shared x.state (block_at e f)) None n)
      ∙ h.slot g

  line_of : (g : ℕ) (t : Bool) → nat_eq f g ≡ t → as_modified (kept_at (set ms f (as_modified x)) g) ≡ as_modified (kept_at ks g)
  line_of g true e' =
      let s : f ≡ g = grind (arith, nat_tests) in
      subst (λ (j : ℕ). as_modified (kept_at (set ms f (as_modified x)) j) ≡ as_modified (kept_at ks j)) s
      (ap as_modified (get_or-set_same ms f (as_modified x) _ m) ∙ ap as_modified read ∙ h.line f)
  line_of g false e' =
      let n : g ≢ f = λ s. grind (arith, nat_tests) in ap as_modified (get_or-set_other ms f g (as_modified x) _ n) ∙ h.line g

  other_of : (g b : ℕ) (t : Bool) → nat_eq f g ≡ t → is_listed (drop (i + 1) places) g ≡ false → block_at then g ≡ Some b →
      (kept_at (set ms f (as_modified x)) g).state ≡ Modified
  other_of g b true e' k j =
      let s : f ≡ g = grind (arith, nat_tests) in
      subst (λ (n : ℕ). (kept_at (set ms f (as_modified x)) n).state ≡ Modified) s
      (ap (λ (y : FrameLine). y.state) (get_or-set_same ms f (as_modified x) _ m))
  other_of g b false e' k j =
      let n : g ≢ f = λ s. grind (arith, nat_tests) in
      ap (λ (y : FrameLine). y.state) (get_or-set_other ms f g (as_modified x) _ n)
      ∙ h.others g b (ap (λ (ps : List ℕ). is_listed ps g) rest ∙ unlisted f g (drop (i + 1) places) e' k)
      (sym (get_or-set_other e.slots f g (slot_unless_shared x.state (block_at e f)) None n) ∙ j)

  pub settling-more : AreSlots then → AreSettling d then ks (set ms f (as_modified x)) (drop (i + 1) places)
  settling-more s = record {
    slots = s;
    sets = h.sets;
    ways = h.ways;
    whole = length-set ms f (as_modified x) ∙ h.whole;
    slot = λ g. slot_of g (nat_eq f g) refl;
    line = λ g. line_of g (nat_eq f g) refl;
    others = λ g b k j. other_of g b (nat_eq f g) refl k j;
  }

-- what is left

freed_by : (s : LineState) (o p : Option ℕ) → ((b : ℕ) → o ≡ Some b → s ≡ Modified) → slot_unless_shared s o ≡ p → o ≡ p
freed_by s None p h e = sym (unshared-none s) ∙ e
freed_by s (Some b) p h e = sym (ap (λ (t : LineState). slot_unless_shared t (Some b)) (h b refl)) ∙ e

pub settling-all : (d e : FrameSlots) (ks ms : List FrameLine) (places : List ℕ) (i : ℕ) → length places ≤ i →
    AreSettling d e ks ms (drop i places) → AreUnshared d e ks ms
settling-all d e ks ms places i l h =
    let none : drop i places ≡ [] = drop_all i places l in
    let settled : (f b : ℕ) → block_at e f ≡ Some b → (kept_at ms f).state
    ≡ Modified = λ f b j. h.others f b (ap (λ (ps : List ℕ). is_listed ps f) none) j in
    record {
      slots = h.slots;
      sets = h.sets;
      ways = h.ways;
      whole = h.whole;
      freed = λ f. freed_by (kept_at ms f).state (block_at e f) _ (settled f) (h.slot f);
      modified = λ f b j. ap (λ (s : LineState). record (kept_at ms f) { state = s }) (settled f b j) ∙ h.line f;
    }

still : (s : LineState) (o : Option ℕ) (b : ℕ) → slot_unless_shared s o ≡ Some b → (o ≡ Some b) × (s ≡ Shared → ⊥)
still Absent o b h = (h, λ e. cc)
still Shared o b h = absurd (none-some b h)
still Owned o b h = (h, λ e. cc)
still Modified o b h = (h, λ e. cc)
still Exclusive o b h = (h, λ e. cc)

-- frames as they may be, that were all settled
pub record IsBegun (d e : FrameSlots) (ks ms : List FrameLine) : Type 0 where
  pub old : AreLines d ks
  pub unshared : AreUnshared d e ks ms

same_length : (d e : FrameSlots) (ks ms : List FrameLine) → IsBegun d e ks ms → length ks ≡ length e.slots
same_length d e ks ms h =
    h.old.whole ∙ h.old.slots.whole ∙ ap (λ (n : ℕ). n * d.ways) (sym h.unshared.sets) ∙ ap (λ (n : ℕ). e.sets * n) (sym h.unshared.ways)
    ∙ sym h.unshared.slots.whole

was_at : (d e : FrameSlots) (ks ms : List FrameLine) (f b : ℕ) → IsBegun d e ks ms → block_at e f ≡ Some b →
    (block_at d f ≡ Some b) × ((kept_at ks f).state ≡ Shared → ⊥)
was_at d e ks ms f b h i = still (kept_at ks f).state (block_at d f) b (sym (h.unshared.freed f) ∙ i)

pub lines-begun : (d e : FrameSlots) (ks ms : List FrameLine) → IsBegun d e ks ms → AreLines e ms
lines-begun d e ks ms h = record {
  slots = h.unshared.slots;
  whole = h.unshared.whole ∙ same_length d e ks ms h;
  inside = λ f b i. h.old.inside f b (was_at d e ks ms f b h i).0;
  present = λ f b i. subst (λ (k : FrameLine). is_present k.state ≡ true) (sym (h.unshared.modified f b i)) refl;
}

-- no frame is touched any more
pub settled-begun : (n : ℕ) (d e : FrameSlots) (ks ms : List FrameLine) → n ≡ length ks → AreUnshared d e ks ms →
    AreSettled (replicate n false) e ms
settled-begun n d e ks ms l h = record {
  whole = length-replicate n false ∙ l ∙ sym h.whole;
  others = λ f b _ i. ap (λ (k : FrameLine). k.state) (h.modified f b i);
}

-- the line of a block

absent : is_present Absent ≡ true → ⊥
absent h = cc

-- a line that is there is Shared, or becomes Modified and keeps its frame
shared_or_owned : (s : LineState) (x : List ℕ) → is_present s ≡ true →
    (s ≡ Shared) ⊎ ((begun_line (record { state = s; content = x }) ≡ record { state = Modified; content = x })
    × ((o : Option ℕ) → slot_unless_shared s o ≡ o))
shared_or_owned Absent x h = absurd (absent h)
shared_or_owned Shared x h = inl refl
shared_or_owned Owned x h = inr (refl, λ o. refl)
shared_or_owned Modified x h = inr (refl, λ o. refl)
shared_or_owned Exclusive x h = inr (refl, λ o. refl)

none_left : (s : LineState) (x : List ℕ) → s ≡ Shared → begun_line (record { state = s; content = x }) ≡ no_line
none_left Absent x h = refl
none_left Shared x h = refl
none_left Owned x h = cc
none_left Modified x h = cc
none_left Exclusive x h = cc

line_step : (d e : FrameSlots) (ks ms : List FrameLine) (b : ℕ) (o : Option ℕ) → IsBegun d e ks ms → frame_of d b ≡ o →
    line_in e ms b ≡ begun_line (line_in_frame ks o)
line_step d e ks ms b None h i = ap (line_in_frame ms) (frame-none e b (λ f j. none-at d f b i (was_at d e ks ms f b h j).0))
line_step d e ks ms b (Some f) h i =
    let a = found-at d f b i in
    ⊎_elim
    (λ (s : (kept_at ks f).state ≡ Shared).
    ap (line_in_frame ms) (frame-none e b (λ g j.
    let w = was_at d e ks ms g b h j in
    w.1 (sym (ap (λ (n : ℕ). (kept_at ks n).state) (h.old.slots.apart f g b a w.0)) ∙ s)))
    ∙ sym (none_left (kept_at ks f).state (kept_at ks f).content s))
    (λ (s : (begun_line (line_kept (kept_at ks f)) ≡ record { state = Modified; content = (kept_at ks f).content })
    × ((p : Option ℕ) → slot_unless_shared (kept_at ks f).state p ≡ p)).
    let j = h.unshared.freed f ∙ s.1 (block_at d f) ∙ a in
    ap (line_in_frame ms) (frame-found e f b h.unshared.slots j)
    ∙ ap line_kept (h.unshared.modified f b j)
    ∙ sym s.0)
    (shared_or_owned (kept_at ks f).state (kept_at ks f).content (h.old.present f b a))

pub map-begun : (d e : FrameSlots) (ks ms : List FrameLine) → IsBegun d e ks ms → lines_of e ms ≡ map begun_line (lines_of d ks)
map-begun d e ks ms h =
    ext_get_or no_line (lines_of e ms) (map begun_line (lines_of d ks))
    (length-lines e ms ∙ sym (length-map (lines_of d ks) begun_line ∙ length-lines d ks))
    (λ b l.
    let m : b < block_count = omega (arith, length-lines e ms) in
    line-at e ms b m
    ∙ line_step d e ks ms b (frame_of d b) h refl
    ∙ ap begun_line (sym (line-at d ks b m))
    ∙ sym (get_or-map begun_line (lines_of d ks) b no_line))
