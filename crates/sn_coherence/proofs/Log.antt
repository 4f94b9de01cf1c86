-- The three laws of a log, over the list of its entries.
use Rattle.std.proofs.Common.{◌≡◌, ◌≢◌, ◌⊎◌, ℕ, ◌+◌, ◌≤◌, Bool, true, false, not, ◌&&◌, ◌||◌, max, cond, List, [], ◌∷◌, ◌++◌, Option, Some}
use Rattle.std.proofs.Common.{None, refl, ap, ◌∙◌, inl, inr, arith}
use Rattle.std.specs.Prelude.{nat_le, nat_eq, if◌then◌else◌}
use Rattle.std.specs.Option.{option_map}
use Rattle.std.proofs.lemmas.Bool.Decides.{nat_tests}
use Rattle.log_buffer.specs.Log.{LogEntry, Old, is_home_side, is_of_side, is_about, earlier, entry_at, has_entry, log_with_note, entries_from}
use Rattle.log_buffer.specs.Log.{logged_to}
use Rattle.sn_coherence.specs.Block.{above, freed_below_cut, newest_freed}
use Rattle.sn_coherence.specs.Log.{old_or_now, told_at, NoteLaw, NoNoteLaw, FreeLaw}

-- above the newest entry there is none
none_step : (c : Bool) (e : LogEntry) (j m : ℕ) (o : Option LogEntry) → max (if c then e.interval + 1 else 0) m ≤ j → (m ≤ j → o ≡ None) →
    (if c && nat_le j e.interval then Some (earlier e o) else o) ≡ None
none_step c e j m o l h = grind (arith, nat_tests)

pub entry_at-above : (es : List LogEntry) (s : Bool) (b j : ℕ) → logged_to es s b ≤ j → entry_at es s b j ≡ None
entry_at-above [] s b j l = refl
entry_at-above (e ∷ es) s b j l = none_step (is_about s b e) e j (logged_to es s b) (entry_at es s b j) l (entry_at-above es s b j)

-- of two entries that may be there, the first
abbrev pub first_entry : Option LogEntry → Option LogEntry → Option LogEntry
first_entry None p = p
first_entry (Some e) p = Some e

-- an entry that isn't below the others, put last, is what the log says where they say nothing
last_first : (e f : LogEntry) (o : Option LogEntry) (d : Bool) → e.interval ≤ f.interval →
    earlier e (first_entry o (if d then Some f else None)) ≡ earlier e o
last_first e f None true l = grind (arith, nat_tests)
last_first e f None false l = refl
last_first e f (Some x) d l = refl

push_step : (c d : Bool) (e f : LogEntry) (j m : ℕ) (o r : Option LogEntry) → max (if c then e.interval + 1 else 0) m ≤ f.interval + 1 →
    (m ≤ f.interval + 1 → r ≡ first_entry o (if d then Some f else None)) →
    (if c && nat_le j e.interval then Some (earlier e r) else r)
    ≡ first_entry (if c && nat_le j e.interval then Some (earlier e o) else o) (if d then Some f else None)
push_step true d e f j m o r l h = both (nat_le j e.interval) (h (omega arith))
  where
    both : (t : Bool) → r ≡ first_entry o (if d then Some f else None) →
        (if t then Some (earlier e r) else r) ≡ first_entry (if t then Some (earlier e o) else o) (if d then Some f else None)
    both true g = ap Some (ap (earlier e) g ∙ last_first e f o d (omega arith))
    both false g = g
push_step false d e f j m o r l h = h (omega arith)

pub entry_at-push : (es : List LogEntry) (f : LogEntry) (s : Bool) (b j : ℕ) → logged_to es s b ≤ f.interval + 1 →
    entry_at (es ++ f ∷ []) s b j ≡ first_entry (entry_at es s b j) (if is_about s b f && nat_le j f.interval then Some f else None)
entry_at-push [] f s b j l = refl
entry_at-push (e ∷ es) f s b j l =
    push_step (is_about s b e) (is_about s b f && nat_le j f.interval) e f j (logged_to es s b) (entry_at es s b j)
    (entry_at (es ++ f ∷ []) s b j) l (entry_at-push es f s b j)

-- where there is an entry of interval i, what is now plays no part at the cuts up to i
some_step : (A : Type 0) (says : Old → A) (c : Bool) (e : LogEntry) (h : Bool) (i j : ℕ) (o : Option LogEntry) (x y : A) →
    ((c && nat_eq e.interval i) || h) ≡ true → j ≤ i →
    (h ≡ true → old_or_now says (option_map (λ f. f.old) o) x ≡ old_or_now says (option_map (λ f. f.old) o) y) →
    old_or_now says (option_map (λ f. f.old) (if c && nat_le j e.interval then Some (earlier e o) else o)) x
    ≡ old_or_now says (option_map (λ f. f.old) (if c && nat_le j e.interval then Some (earlier e o) else o)) y
some_step A says c e h i j o x y t l r = chosen (c && nat_le j e.interval) refl
  where
    late : (c && nat_le j e.interval) ≡ false → h ≡ true
    late d = grind (arith, nat_tests)

    chosen : (d : Bool) → (c && nat_le j e.interval) ≡ d →
        old_or_now says (option_map (λ f. f.old) (if d then Some (earlier e o) else o)) x
        ≡ old_or_now says (option_map (λ f. f.old) (if d then Some (earlier e o) else o)) y
    chosen true d = refl
    chosen false d = r (late d)

pub told_at-entry : (A : Type 0) (says : Old → A) (es : List LogEntry) (i : ℕ) (s : Bool) (b j : ℕ) (x y : A) → has_entry es i s b ≡ true →
    j ≤ i → told_at says es s b x j ≡ told_at says es s b y j
told_at-entry A says [] i s b j x y h l = grind arith
told_at-entry A says (e ∷ es) i s b j x y h l =
    some_step A says (is_about s b e) e (has_entry es i s b) i j (entry_at es s b j) x y h l (λ g. told_at-entry A says es i s b j x y g l)

-- an entry put last
told_first : (A : Type 0) (says : Old → A) (o : Option LogEntry) (f : LogEntry) (d : Bool) (x : A) →
    old_or_now says (option_map (λ e. e.old) (first_entry o (if d then Some f else None))) x
    ≡ old_or_now says (option_map (λ e. e.old) o) (cond d (says f.old) x)
told_first A says None f true x = refl
told_first A says None f false x = refl
told_first A says (Some e) f d x = refl

pub told_at-push : (A : Type 0) (says : Old → A) (es : List LogEntry) (f : LogEntry) (s : Bool) (b j : ℕ) (x : A) →
    logged_to es s b ≤ f.interval + 1 →
    told_at says (es ++ f ∷ []) s b x j ≡ told_at says es s b (cond (is_about s b f && nat_le j f.interval) (says f.old) x) j
told_at-push A says es f s b j x l =
    ap (λ o. old_or_now says (option_map (λ e. e.old) o) x) (entry_at-push es f s b j l)
    ∙ told_first A says (entry_at es s b j) f (is_about s b f && nat_le j f.interval) x

newest_step : (c d : Bool) (m n i k : ℕ) → n ≡ max m (if d then i else 0) →
    max (if c then k else 0) n ≡ max (max (if c then k else 0) m) (if d then i else 0)
newest_step c d m n i k e = grind arith

pub logged_to-push : (es : List LogEntry) (f : LogEntry) (s : Bool) (b : ℕ) →
    logged_to (es ++ f ∷ []) s b ≡ max (logged_to es s b) (if is_about s b f then f.interval + 1 else 0)
logged_to-push [] f s b = grind arith
logged_to-push (e ∷ es) f s b =
    newest_step (is_about s b e) (is_about s b f) (logged_to es s b) (logged_to (es ++ f ∷ []) s b) (f.interval + 1) (e.interval + 1)
    (logged_to-push es f s b)

entry_newest_step : (c : Bool) (e : LogEntry) (h : Bool) (i m : ℕ) → ((c && nat_eq e.interval i) || h) ≡ true → (h ≡ true → i + 1 ≤ m) →
    i + 1 ≤ max (if c then e.interval + 1 else 0) m
entry_newest_step c e h i m t r = grind (arith, nat_tests)

pub logged_to-entry : (es : List LogEntry) (i : ℕ) (s : Bool) (b : ℕ) → has_entry es i s b ≡ true → i + 1 ≤ logged_to es s b
logged_to-entry [] i s b h = grind arith
logged_to-entry (e ∷ es) i s b h =
    entry_newest_step (is_about s b e) e (has_entry es i s b) i (logged_to es s b) h (logged_to-entry es i s b)

-- an old content is of its own side
of_own_side : (old : Old) → is_of_side (is_home_side old) old ≡ true
of_own_side old = side (is_home_side old)
  where
    side : (t : Bool) → (if t then t else not t) ≡ true
    side true = refl
    side false = refl

about_own : (old : Old) (i b : ℕ) → is_about (is_home_side old) b (record { interval = i; block = b; old = old }) ≡ true
about_own old i b = grind (arith, nat_tests, of_own_side old)

of_other_side : (s t : Bool) → s ≢ t → (if s then t else not t) ≡ false
of_other_side true true n = absurd (n refl)
of_other_side true false n = refl
of_other_side false true n = refl
of_other_side false false n = absurd (n refl)

about_other : (old : Old) (i b : ℕ) (s : Bool) (o : ℕ) → (s ≢ is_home_side old) ⊎ (o ≢ b) →
    is_about s o (record { interval = i; block = b; old = old }) ≡ false
about_other old i b s o (inl n) = grind (arith, of_other_side s (is_home_side old) n)
about_other old i b s o (inr n) = grind (arith, nat_tests)

-- an entry of another side or block says nothing
other_step : (c : Bool) (e : LogEntry) (j : ℕ) (o r : Option LogEntry) → r ≡ o →
    (if c && nat_le j e.interval then Some (earlier e r) else r) ≡ (if c && nat_le j e.interval then Some (earlier e o) else o)
other_step c e j o r h = ap (λ x. if c && nat_le j e.interval then Some (earlier e x) else x) h

pub entry_at-other : (es : List LogEntry) (f : LogEntry) (s : Bool) (b j : ℕ) → is_about s b f ≡ false →
    entry_at (es ++ f ∷ []) s b j ≡ entry_at es s b j
entry_at-other [] f s b j n = grind (arith, n)
entry_at-other (e ∷ es) f s b j n =
    other_step (is_about s b e) e j (entry_at es s b j) (entry_at (es ++ f ∷ []) s b j) (entry_at-other es f s b j n)

-- a list that is noted is the same or longer
chosen : (A : Type 0) (P : List LogEntry → A) (t : Bool) (es fs : List LogEntry) → P (if t then es else fs) ≡ cond t (P es) (P fs)
chosen A P true es fs = refl
chosen A P false es fs = refl

module _ (A : Type 0) (says : Old → A) (es : List LogEntry) (i b : ℕ) (old : Old) where
  abbrev new_entry : LogEntry
  new_entry = record { interval = i; block = b; old = old }

  note_cuts : (now new : A) → logged_to es (is_home_side old) b ≤ i + 1 → says old ≡ now → (j : ℕ) →
      told_at says (log_with_note es i b old) (is_home_side old) b new j ≡ above (told_at says es (is_home_side old) b now) i new j
  note_cuts now new l e j =
      chosen A (λ fs. told_at says fs (is_home_side old) b new j) (has_entry es i (is_home_side old) b) es (es ++ new_entry ∷ []) ∙
      either (has_entry es i (is_home_side old) b) refl
    where
      low : nat_le j i ≡ true → j ≤ i
      low t = grind (arith, nat_tests)

      high : nat_le j i ≡ false → logged_to es (is_home_side old) b ≤ j
      high t = grind (arith, nat_tests)

      none : (x y : A) → nat_le j i ≡ false → told_at says es (is_home_side old) b x j ≡ x
      none x y t = ap (λ o. old_or_now says (option_map (λ f. f.old) o) x) (entry_at-above es (is_home_side old) b j (high t))

      there : (t : Bool) → nat_le j i ≡ t → has_entry es i (is_home_side old) b ≡ true →
          told_at says es (is_home_side old) b new j ≡ cond t (told_at says es (is_home_side old) b now j) new
      there true t h = told_at-entry A says es i (is_home_side old) b j new now h (low t)
      there false t h = none new new t

      added : (t : Bool) → nat_le j i ≡ t →
          told_at says es (is_home_side old) b (cond t (says old) new) j ≡ cond t (told_at says es (is_home_side old) b now j) new
      added true t = ap (λ x. told_at says es (is_home_side old) b x j) e
      added false t = none new new t

      about : (is_about (is_home_side old) b new_entry && nat_le j i) ≡ nat_le j i
      about = grind (arith, about_own old i b)

      either : (h : Bool) → has_entry es i (is_home_side old) b ≡ h →
          cond h (told_at says es (is_home_side old) b new j) (told_at says (es ++ new_entry ∷ []) (is_home_side old) b new j)
          ≡ above (told_at says es (is_home_side old) b now) i new j
      either true h = there (nat_le j i) refl h
      either false h =
          told_at-push A says es new_entry (is_home_side old) b j new l
          ∙ (ap (λ t. told_at says es (is_home_side old) b (cond t (says old) new) j) about ∙ added (nat_le j i) refl)

  note_newest : logged_to es (is_home_side old) b ≤ i + 1 → logged_to (log_with_note es i b old) (is_home_side old) b ≡ i + 1
  note_newest l =
      chosen ℕ (λ fs. logged_to fs (is_home_side old) b) (has_entry es i (is_home_side old) b) es (es ++ new_entry ∷ [])
      ∙ either (has_entry es i (is_home_side old) b) refl
    where
      either : (h : Bool) → has_entry es i (is_home_side old) b ≡ h →
          cond h (logged_to es (is_home_side old) b) (logged_to (es ++ new_entry ∷ []) (is_home_side old) b) ≡ i + 1
      either true h = grind (arith, l, logged_to-entry es i (is_home_side old) b h)
      either false h = grind (arith, l, logged_to-push es new_entry (is_home_side old) b, about_own old i b)

  note_others : (s : Bool) (o j : ℕ) (was : A) → (s ≢ is_home_side old) ⊎ (o ≢ b) →
      told_at says (log_with_note es i b old) s o was j ≡ told_at says es s o was j
  note_others s o j was n =
      chosen A (λ fs. told_at says fs s o was j) (has_entry es i (is_home_side old) b) es (es ++ new_entry ∷ [])
      ∙ either (has_entry es i (is_home_side old) b)
    where
      added : told_at says (es ++ new_entry ∷ []) s o was j ≡ told_at says es s o was j
      added = ap (λ p. old_or_now says (option_map (λ e. e.old) p) was) (entry_at-other es new_entry s o j (about_other old i b s o n))

      either : (h : Bool) → cond h (told_at says es s o was j) (told_at says (es ++ new_entry ∷ []) s o was j) ≡ told_at says es s o was j
      either true = refl
      either false = added

  note_others_newest : (s : Bool) (o : ℕ) → (s ≢ is_home_side old) ⊎ (o ≢ b) → logged_to (log_with_note es i b old) s o ≡ logged_to es s o
  note_others_newest s o n =
      chosen ℕ (λ fs. logged_to fs s o) (has_entry es i (is_home_side old) b) es (es ++ new_entry ∷ [])
      ∙ either (has_entry es i (is_home_side old) b)
    where
      either : (h : Bool) → cond h (logged_to es s o) (logged_to (es ++ new_entry ∷ []) s o) ≡ logged_to es s o
      either true = refl
      either false = grind (arith, logged_to-push es new_entry s o, about_other old i b s o n)

pub note_law : (A : Type 0) (says : Old → A) (es : List LogEntry) (i block : ℕ) (old : Old) (now new : A) →
    logged_to es (is_home_side old) block ≤ i + 1 → says old ≡ now → NoteLaw A says es i block old now new
note_law A says es i block old now new l e = record {
  cuts = note_cuts A says es i block old now new l e;
  newest = note_newest A says es i block old l;
  others = note_others A says es i block old;
  others_newest = note_others_newest A says es i block old;
}

pub no_note_law : (A : Type 0) (says : Old → A) (es : List LogEntry) (home_side : Bool) (block : ℕ) → NoNoteLaw A says es home_side block
no_note_law A says es s b j now l = ap (λ o. old_or_now says (option_map (λ f. f.old) o) now) (entry_at-above es s b j l)

-- the entries from k on say at cut j what all say at the later of both
free_step : (c : Bool) (e : LogEntry) (k j : ℕ) (o r : Option LogEntry) → r ≡ o →
    (if nat_le k e.interval then (if c && nat_le j e.interval then Some (earlier e r) else r) else r)
    ≡ (if c && nat_le (max j k) e.interval then Some (earlier e o) else o)
free_step c e k j o r h = grind (arith, nat_tests)

filter_entry : (t : Bool) (e : LogEntry) (fs : List LogEntry) (s : Bool) (b j : ℕ) →
    entry_at (if t then e ∷ fs else fs) s b j ≡ (if t then entry_at (e ∷ fs) s b j else entry_at fs s b j)
filter_entry true e fs s b j = refl
filter_entry false e fs s b j = refl

pub entry_at-free : (k : ℕ) (es : List LogEntry) (s : Bool) (b j : ℕ) → entry_at (entries_from k es) s b j ≡ entry_at es s b (max j k)
entry_at-free k [] s b j = refl
entry_at-free k (e ∷ es) s b j =
    filter_entry (nat_le k e.interval) e (entries_from k es) s b j
    ∙ free_step (is_about s b e) e k j (entry_at es s b (max j k)) (entry_at (entries_from k es) s b j) (entry_at-free k es s b j)

newest_free_step : (c : Bool) (e : LogEntry) (k m n : ℕ) → n ≡ newest_freed m k →
    (if nat_le k e.interval then max (if c then e.interval + 1 else 0) n else n) ≡ newest_freed (max (if c then e.interval + 1 else 0) m) k
newest_free_step c e k m n h = grind (arith, nat_tests)

filter_newest : (t : Bool) (e : LogEntry) (fs : List LogEntry) (s : Bool) (b : ℕ) →
    logged_to (if t then e ∷ fs else fs) s b ≡ (if t then logged_to (e ∷ fs) s b else logged_to fs s b)
filter_newest true e fs s b = refl
filter_newest false e fs s b = refl

pub logged_to-free : (k : ℕ) (es : List LogEntry) (s : Bool) (b : ℕ) → logged_to (entries_from k es) s b ≡ newest_freed (logged_to es s b) k
logged_to-free k [] s b = grind (arith, nat_tests)
logged_to-free k (e ∷ es) s b =
    filter_newest (nat_le k e.interval) e (entries_from k es) s b
    ∙ newest_free_step (is_about s b e) e k (logged_to es s b) (logged_to (entries_from k es) s b) (logged_to-free k es s b)

freed_later : (A : Type 0) (f : ℕ → A) (k j : ℕ) → f (max j k) ≡ freed_below_cut f k j
freed_later A f k j = grind (arith, nat_tests)

pub free_law : (A : Type 0) (says : Old → A) (es : List LogEntry) (k : ℕ) (home_side : Bool) (block : ℕ) (now : A) →
    FreeLaw A says es k home_side block now
free_law A says es k s b now = record {
  cuts = λ j. ap (λ o. old_or_now says (option_map (λ f. f.old) o) now) (entry_at-free k es s b j) ∙ freed_later A (told_at says es s b now) k j;
  newest = logged_to-free k es s b;
}
