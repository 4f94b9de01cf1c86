-- What a change of a block's line leaves: frames and what they keep as they may be, and the map from blocks with that line changed.
use Rattle.std.proofs.Common.{◌≡◌, ℕ, zero, suc, ◌<◌, ◌≤◌, true, false, cond, List, [], ◌∷◌, length, get_or, set, Option, Some, None, refl}
use Rattle.std.proofs.Common.{sym, ap, ◌∙◌, subst, arith, ⊎_elim, length-set}
use Rattle.std.specs.Prelude.{nat_eq, is_some, IfSome}
use Rattle.std.proofs.lemmas.Bool.{cases_eq, cases_lt}
use Rattle.std.proofs.lemmas.List.{get_or-set_same, get_or-set_other, get_or_past, set-get_or}
use Rattle.std.proofs.lemmas.Option.{none-some, same_Some}
use Rattle.cache_array.specs.Slots.{FrameSlots, block_at, IsOfSet, frame_of, is_full, slots_with_block, slots_without_block}
use Rattle.cache_array.proofs.Slots.{found-at, at-inside, frame-inside, slots-taken, slots-freed}
use Rattle.sn_model.specs.Caches.{Line, no_line, is_present, block_count, frames_taken, cache_of_lines, line_at}
use Rattle.mosi_cache.specs.Frames.{FrameLine, kept_at, line_kept, line_in_frame, line_in, lines_of, AreLines}
use Rattle.mosi_cache.proofs.Frames.{length-lines, line-at, lines-changed, line-written, line-taken, line-freed}
use Rattle.mosi_cache.proofs.Counts.{not-full}

-- what is said of a block's line by its frame

-- a block that has a frame
pub read-found : (d : FrameSlots) (ks : List FrameLine) (b f : ℕ) → AreLines d ks → frame_of d b ≡ Some f →
    (line_at (lines_of d ks) b ≡ line_kept (kept_at ks f)) × (is_present (kept_at ks f).state ≡ true)
read-found d ks b f h e =
    let a = found-at d f b e in (line-at d ks b (h.inside f b a) ∙ ap (line_in_frame ks) e, h.present f b a)

-- one that has none
pub read-absent : (d : FrameSlots) (ks : List FrameLine) (b : ℕ) → frame_of d b ≡ None → line_at (lines_of d ks) b ≡ no_line
read-absent d ks b e =
    ⊎_elim
    (λ (l : b < block_count). line-at d ks b l ∙ ap (line_in_frame ks) e)
    (λ (l : block_count ≤ b). get_or_past (lines_of d ks) b no_line (omega (arith, length-lines d ks)))
    (cases_lt b block_count)

pub frame-kept : (d : FrameSlots) (ks : List FrameLine) (b f : ℕ) → AreLines d ks → frame_of d b ≡ Some f → f < length ks
frame-kept d ks b f h e = omega (arith, h.whole, at-inside d f b (found-at d f b e))

-- what a frame keeps, whatever else would be read past the last
pub kept-read : (ks : List FrameLine) (f : ℕ) (k : FrameLine) → f < length ks → get_or ks f k ≡ kept_at ks f
kept-read [] f k l = absurd (omega arith)
kept-read (x ∷ ks) zero k l = refl
kept-read (x ∷ ks) (suc f) k l = kept-read ks f k (omega arith)

-- frames that give one block another line
pub record Changed (d e : FrameSlots) (ks ms : List FrameLine) (b : ℕ) (l : Line) : Type 0 where
  pub frames : AreLines e ms
  pub lines : lines_of e ms ≡ set (lines_of d ks) b l
  pub read : line_at (lines_of e ms) b ≡ l

changed : (d e : FrameSlots) (ks ms : List FrameLine) (b : ℕ) (l : Line) → AreLines e ms → b < block_count →
    ((x : ℕ) → line_in e ms x ≡ cond (nat_eq b x) l (line_in d ks x)) → Changed d e ks ms b l
changed d e ks ms b l h n i =
    let q : lines_of e ms ≡ set (lines_of d ks) b l = lines-changed d e ks ms b l i n in
    let j : b < length (lines_of d ks) = rw (length-lines d ks) n in
    record {
      frames = h;
      lines = q;
      read = rw q (get_or-set_same (lines_of d ks) b l no_line j);
    }

-- what was written into a frame, or what it kept
kept_step : (ks : List FrameLine) (f g : ℕ) (k : FrameLine) → f < length ks → is_present k.state ≡ true →
    ((f ≡ g → ⊥) → is_present (kept_at ks g).state ≡ true) → is_present (kept_at (set ks f k) g).state ≡ true
kept_step ks f g k l h i =
    ⊎_elim
    (λ (e : f ≡ g). subst (λ (m : FrameLine). is_present m.state ≡ true)
    (sym (ap (λ (n : ℕ). kept_at (set ks f k) n) (sym e) ∙ get_or-set_same ks f k _ l)) h)
    (λ (e : f ≡ g → ⊥). subst (λ (m : FrameLine). is_present m.state ≡ true) (sym (get_or-set_other ks f g k _ (λ j. e (sym j)))) (i e))
    (cases_eq f g)

-- a line in the place of the block's line
pub put-found : (d : FrameSlots) (ks : List FrameLine) (k : FrameLine) (b f : ℕ) → AreLines d ks → frame_of d b ≡ Some f →
    is_present k.state ≡ true → Changed d d ks (set ks f k) b (line_kept k)
put-found d ks k b f h e t =
    let l = frame-kept d ks b f h e in
    changed d d ks (set ks f k) b (line_kept k)
    (record {
      slots = h.slots;
      whole = length-set ks f k ∙ h.whole;
      inside = h.inside;
      present = λ g x i. kept_step ks f g k l t (λ _. h.present g x i);
    })
    (h.inside f b (found-at d f b e))
    (line-written d ks f b k e l)

-- what a slot that was taken has: the new block, or what it had
at_taken : (d : FrameSlots) (f b g x : ℕ) (P : Type 0) → f < length d.slots → block_at (slots_with_block d f b) g ≡ Some x → (f ≡ g → b ≡ x → P) →
    ((f ≡ g → ⊥) → block_at d g ≡ Some x → P) → P
at_taken d f b g x P l h same other =
    ⊎_elim
    (λ (e : f ≡ g). same e (same_Some b x (sym (get_or-set_same d.slots f (Some b) None l) ∙ ap (block_at (slots_with_block d f b)) e ∙ h)))
    (λ (e : f ≡ g → ⊥). other e (sym (get_or-set_other d.slots f g (Some b) None (λ j. e (sym j))) ∙ h))
    (cases_eq f g)

-- a line of a block that had none, in a free frame of its set
pub put-new : (d : FrameSlots) (ks : List FrameLine) (k : FrameLine) (b f : ℕ) → AreLines d ks → frame_of d b ≡ None → block_at d f ≡ None →
    IsOfSet d f b → b < block_count → is_present k.state ≡ true →
    Changed d (slots_with_block d f b) ks (set ks f k) b (line_kept k)
put-new d ks k b f h e z i n t =
    let l = frame-inside d f b h.slots i in
    let m : f < length ks = omega (arith, h.whole, l) in
    changed d (slots_with_block d f b) ks (set ks f k) b (line_kept k)
    (record {
      slots = slots-taken d f b h.slots e i;
      whole = length-set ks f k ∙ h.whole ∙ sym (length-set d.slots f (Some b));
      inside = λ g x j. at_taken d f b g x (x < block_count) l j (λ _ q. subst (λ (y : ℕ). y < block_count) q n) (λ _ q. h.inside g x q);
      present =
          λ g x j. kept_step ks f g k m t
          (λ a. at_taken d f b g x (is_present (kept_at ks g).state ≡ true) l j (λ q _. absurd (a q)) (λ _ q. h.present g x q));
    })
    n
    (line-taken d ks f b k h.slots e z i m)

-- what a slot that was freed has, it had
at_freed : (d : FrameSlots) (f g x : ℕ) → f < length d.slots → block_at (slots_without_block d f) g ≡ Some x → block_at d g ≡ Some x
at_freed d f g x l h =
    ⊎_elim
    (λ (e : f ≡ g). absurd (none-some x (sym (get_or-set_same d.slots f None None l) ∙ ap (block_at (slots_without_block d f)) e ∙ h)))
    (λ (e : f ≡ g → ⊥). sym (get_or-set_other d.slots f g None None (λ j. e (sym j))) ∙ h)
    (cases_eq f g)

-- the frame of a block is free
pub removed : (d : FrameSlots) (ks : List FrameLine) (b f : ℕ) → AreLines d ks → frame_of d b ≡ Some f →
    Changed d (slots_without_block d f) ks ks b no_line
removed d ks b f h e =
    let a = found-at d f b e in
    let l = at-inside d f b a in
    changed d (slots_without_block d f) ks ks b no_line
    (record {
      slots = slots-freed d f h.slots l;
      whole = h.whole ∙ sym (length-set d.slots f None);
      inside = λ g x j. h.inside g x (at_freed d f g x l j);
      present = λ g x j. h.present g x (at_freed d f g x l j);
    })
    (h.inside f b a)
    (line-freed d ks f b h.slots e)

pub dropped : (d e : FrameSlots) (ks : List FrameLine) (b : ℕ) (o : Option ℕ) → AreLines d ks → frame_of d b ≡ o → is_some o ≡ true →
    IfSome o (λ f. e ≡ slots_without_block d f) → Changed d e ks ks b no_line
dropped d e ks b None h i s q = cc
dropped d e ks b (Some f) h i s q = subst (λ (x : FrameSlots). Changed d x ks ks b no_line) (sym q) (removed d ks b f h i)

pub is-none : (o : Option ℕ) → is_some o ≡ false → o ≡ None
is-none None h = refl
is-none (Some f) h = cc

-- a block without a line has none after it is taken away
pub nothing-removed : (d : FrameSlots) (ks : List FrameLine) (b : ℕ) → frame_of d b ≡ None → lines_of d ks ≡ set (lines_of d ks) b no_line
nothing-removed d ks b e = sym (set-get_or (lines_of d ks) b no_line) ∙ ap (set (lines_of d ks) b) (read-absent d ks b e)

-- the set of a block without a line has a frame for it, where the machine's count says so
pub has-frame : (d : FrameSlots) (ks : List FrameLine) (b : ℕ) → AreLines d ks → frame_of d b ≡ None → b < block_count →
    (b < block_count → is_present (line_at (lines_of d ks) b).state ≡ false → frames_taken (cache_of_lines (lines_of d ks)) d.sets b < d.ways) →
    is_full d b ≡ false
has-frame d ks b h e n r =
    let w : is_present (line_at (lines_of d ks) b).state ≡ false = rw (read-absent d ks b e) refl in not-full d ks b h (r n w)
