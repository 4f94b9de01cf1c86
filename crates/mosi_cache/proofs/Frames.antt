-- What the map from blocks is after each change of the frames and of what they keep.
use Rattle.std.proofs.Common.{◌≡◌, ℕ, ◌*◌, ◌<◌, ◌≤◌, Bool, true, false, cond, List, length, get_or, set, replicate, Option, Some, None}
use Rattle.std.proofs.Common.{refl, sym, ap, ◌∙◌, arith, ⊎_elim, length-set}
use Rattle.std.specs.Prelude.{nat_eq, if◌then◌else◌}
use Rattle.std.proofs.lemmas.Bool.{cases_eq, cases_lt}
use Rattle.std.proofs.lemmas.Bool.Decides.{nat_tests}
use Rattle.std.proofs.lemmas.List.{get_or-set_same, get_or-set_other, get_or_past, get_or-replicate, length-replicate}
use Rattle.std.proofs.lemmas.List.FromFn.{length-map-range_with_len, get_or-map-range_with_len, fill_by_all}
use Rattle.std.proofs.lemmas.Option.{none-some, same_Some}
use Rattle.cache_array.specs.Slots.{FrameSlots, AreSlots, block_at, IsOfSet, frame_of, slots_with_block, slots_without_block}
use Rattle.cache_array.proofs.Slots.{frame-none, found-at, frame-taken, frame-freed}
use Rattle.sn_model.specs.Caches.{Line, no_line, empty_lines, block_count, line_at}
use Rattle.sn_model.proofs.Taken.{empty-at}
use Rattle.mosi_cache.specs.Frames.{FrameLine, line_kept, line_in_frame, line_in, lines_of}

pub length-lines : (d : FrameSlots) (ks : List FrameLine) → length (lines_of d ks) ≡ block_count
unfolding lines_of
length-lines d ks = length-map-range_with_len (line_in d ks) 0 block_count

pub line-at : (d : FrameSlots) (ks : List FrameLine) (b : ℕ) → b < block_count → line_at (lines_of d ks) b ≡ line_in d ks b
unfolding lines_of
line-at d ks b h = get_or-map-range_with_len (line_in d ks) 0 block_count b b no_line h (omega arith)

lines_all : (d : FrameSlots) (ks : List FrameLine) (ls : List Line) → length ls ≡ block_count →
    ((b : ℕ) → b < block_count → line_at ls b ≡ line_in d ks b) → ls ≡ lines_of d ks
unfolding lines_of
lines_all d ks ls n h = fill_by_all (line_in d ks) ls block_count no_line n h

-- where no frame has a block, there is no line

free_at : (n f b : ℕ) → get_or (replicate n None) f None ≡ Some b → ⊥
free_at n f b h =
    ⊎_elim
    (λ (l : f < n). none-some b (sym (get_or-replicate n f None None l) ∙ h))
    (λ (l : n ≤ f). none-some b (sym (get_or_past (replicate n None) f None (omega (arith, length-replicate {A = Option ℕ} n None))) ∙ h))
    (cases_lt f n)

abbrev pub all_free : ℕ → ℕ → FrameSlots
all_free sets ways = record { sets = sets; ways = ways; slots = replicate (sets * ways) None }

none_in : (sets ways : ℕ) (ks : List FrameLine) (b : ℕ) → line_in (all_free sets ways) ks b ≡ no_line
none_in sets ways ks b = ap (line_in_frame ks) (frame-none (all_free sets ways) b (λ f h. free_at (sets * ways) f b h))

length_empty : length empty_lines ≡ block_count
unfolding empty_lines
length_empty = length-replicate block_count no_line

pub lines-none : (sets ways : ℕ) (ks : List FrameLine) → lines_of (all_free sets ways) ks ≡ empty_lines
lines-none sets ways ks =
    sym (lines_all (all_free sets ways) ks empty_lines length_empty (λ b l. empty-at b ∙ sym (none_in sets ways ks b)))

-- one line is another

changed_at : (d e : FrameSlots) (ks ms : List FrameLine) (x : ℕ) (l : Line) →
    ((b : ℕ) → line_in e ms b ≡ (if nat_eq x b then l else line_in d ks b)) → x < block_count →
    (b : ℕ) → b < block_count → line_at (set (lines_of d ks) x l) b ≡ line_in e ms b
changed_at d e ks ms x l h n b m =
    ⊎_elim
    (λ (i : x ≡ b). let t : nat_eq x b ≡ true = grind (arith, nat_tests) in
    let j : x < length (lines_of d ks) = omega (arith, length-lines d ks) in
    rw (h b, t, ← i) (get_or-set_same (lines_of d ks) x l no_line j))
    (λ (i : x ≡ b → ⊥). let t : nat_eq x b ≡ false = grind (arith, nat_tests) in
    rw (h b, t) (get_or-set_other (lines_of d ks) x b l no_line (λ j. i (sym j)) ∙ line-at d ks b m))
    (cases_eq x b)

-- where frames give one block another line, the map has that line there
pub lines-changed : (d e : FrameSlots) (ks ms : List FrameLine) (x : ℕ) (l : Line) →
    ((b : ℕ) → line_in e ms b ≡ (if nat_eq x b then l else line_in d ks b)) → x < block_count →
    lines_of e ms ≡ set (lines_of d ks) x l
lines-changed d e ks ms x l h n =
    sym (lines_all e ms (set (lines_of d ks) x l) (length-set (lines_of d ks) x l ∙ length-lines d ks) (changed_at d e ks ms x l h n))

-- what a frame keeps is written

same_frame : (ks : List FrameLine) (f : ℕ) (k : FrameLine) (o : Option ℕ) → (o ≡ Some f → ⊥) →
    line_in_frame (set ks f k) o ≡ line_in_frame ks o
same_frame ks f k None h = refl
same_frame ks f k (Some g) h =
    ap line_kept (get_or-set_other ks f g k _ (λ (i : g ≡ f). h (ap (λ (n : ℕ). let s : Option ℕ = Some n in s) i)))

written : (ks : List FrameLine) (f : ℕ) (k : FrameLine) → f < length ks → line_in_frame (set ks f k) (Some f) ≡ line_kept k
written ks f k l = ap line_kept (get_or-set_same ks f k _ l)

pub line-written : (d : FrameSlots) (ks : List FrameLine) (f x : ℕ) (k : FrameLine) → frame_of d x ≡ Some f → f < length ks →
    (b : ℕ) → line_in d (set ks f k) b ≡ (if nat_eq x b then line_kept k else line_in d ks b)
line-written d ks f x k h l b =
    ⊎_elim
    (λ (i : x ≡ b). let t : nat_eq x b ≡ true = grind (arith, nat_tests) in rw (t, ← i, h) (written ks f k l))
    (λ (i : x ≡ b → ⊥). let t : nat_eq x b ≡ false = grind (arith, nat_tests) in
    rw t (same_frame ks f k (frame_of d b) (λ e. i (same_Some x b (sym (found-at d f x h) ∙ found-at d f b e)))))
    (cases_eq x b)

-- a block takes a free frame

after_taken : (ks : List FrameLine) (f : ℕ) (k : FrameLine) (c : Bool) (o p : Option ℕ) → o ≡ cond c (Some f) p → f < length ks →
    (p ≡ Some f → ⊥) →
    line_in_frame (set ks f k) o ≡ (if c then line_kept k else line_in_frame ks p)
after_taken ks f k true o p e l n = ap (line_in_frame (set ks f k)) e ∙ written ks f k l
after_taken ks f k false o p e l n = ap (line_in_frame (set ks f k)) e ∙ same_frame ks f k p n

pub line-taken : (d : FrameSlots) (ks : List FrameLine) (f x : ℕ) (k : FrameLine) → AreSlots d → frame_of d x ≡ None → block_at d f ≡ None →
    IsOfSet d f x → f < length ks →
    (b : ℕ) → line_in (slots_with_block d f x) (set ks f k) b ≡ (if nat_eq x b then line_kept k else line_in d ks b)
line-taken d ks f x k h n z i l b =
    after_taken ks f k (nat_eq x b) (frame_of (slots_with_block d f x) b) (frame_of d b) (frame-taken d f x b h n z i) l
    (λ e. none-some b (sym z ∙ found-at d f b e))

-- a frame is freed

after_freed : (ks : List FrameLine) (c : Bool) (o p : Option ℕ) → o ≡ cond c None p →
    line_in_frame ks o ≡ (if c then no_line else line_in_frame ks p)
after_freed ks true o p e = ap (line_in_frame ks) e
after_freed ks false o p e = ap (line_in_frame ks) e

pub line-freed : (d : FrameSlots) (ks : List FrameLine) (f x : ℕ) → AreSlots d → frame_of d x ≡ Some f →
    (b : ℕ) → line_in (slots_without_block d f) ks b ≡ (if nat_eq x b then no_line else line_in d ks b)
line-freed d ks f x h e b = after_freed ks (nat_eq x b) (frame_of (slots_without_block d f) b) (frame_of d b) (frame-freed d f x b h e)
