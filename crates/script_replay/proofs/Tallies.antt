-- What the summary says of the probes: the lines of each tally, and one piece after another.
use Rattle.std.proofs.Common.{◌≡◌, ℕ, zero, suc, ◌+◌, ◌<◌, ◌≤◌, List, [], ◌∷◌, ◌++◌, map, take, drop, length, get_or, refl, ap, sym, subst}
use Rattle.std.proofs.Common.{◌∙◌, append_assoc, append-nil, arith}
use Rattle.std.proofs.lemmas.List.{take_more, take_all, drop_all, length-map}
use Rattle.std.proofs.lemmas.Option.{slice_get_within, slice_get-get_or}
use Rattle.std.specs.Prelude.{Option, Some, None, IfSome, slice_get}
use Rattle.sn_text.specs.Text.{probe_line}
use Rattle.sn_probe.specs.Probes.{Meter, tallies_of}
use Rattle.sink_pieces.specs.Pieces.{Piece, Report, Ends, after, Breaks}
use Rattle.sink_pieces.proofs.PieceLaws.{after-nil}
use Rattle.sink_pieces.proofs.SoFar.{SoFar, SoFar-more, SoFar-breaks, SoFar-whole}
use Rattle.script_replay.specs.Pieces.{tally_lines, tally_pieces}

-- the lines of the first so many numbers are written
pub record IsWrittenUpTo (before : List ℕ) (probe place : ℕ) (line : List ℕ) (m : Meter) : Type 0 where
  pub there : place ≤ length m.tally
  pub same : line ≡ tally_lines before probe 0 (take place m.tally)

pub tally-start : (found : Option Meter) (before : List ℕ) (probe : ℕ) (line : List ℕ) → line ≡ [] →
    IfSome found (IsWrittenUpTo before probe 0 line)
unfolding tally_lines
tally-start None before probe line none = tt
tally-start (Some m) before probe line none = record { there = omega arith; same = none }

-- one more line
tally_lines-more : (before : List ℕ) (probe place : ℕ) (values : List ℕ) (value : ℕ) →
    tally_lines before probe place (values ++ value ∷ []) ≡ tally_lines before probe place values
    ++ probe_line before probe (place + length values) value
unfolding tally_lines
tally_lines-more before probe place [] value =
    let same : place ≡ place + 0 = omega arith in
    append-nil (probe_line before probe place value) ∙ ap (λ p. probe_line before probe p value) same
tally_lines-more before probe place (first ∷ values) value =
    let same : place + 1 + length values ≡ place + length (first ∷ values) = omega arith in
    ap (λ t. probe_line before probe place first ++ t)
    (tally_lines-more before probe (place + 1) values value
    ∙ ap (λ p. tally_lines before probe (place + 1) values ++ probe_line before probe p value) same)
    ∙ sym (append_assoc (probe_line before probe place first) (tally_lines before probe (place + 1) values)
    (probe_line before probe (place + length (first ∷ values)) value))

length-first : (xs : List ℕ) (i : ℕ) → i ≤ length xs → length (take i xs) ≡ i
length-first xs zero few = refl
length-first [] (suc i) few = absurd (omega (arith, few))
length-first (x ∷ xs) (suc i) few = ap suc (length-first xs i (omega (arith, few)))

tally_lines-next : (before : List ℕ) (probe place value : ℕ) (tally : List ℕ) → slice_get tally place ≡ Some value →
    tally_lines before probe 0 (take (place + 1) tally) ≡ tally_lines before probe 0 (take place tally)
    ++ probe_line before probe place value
tally_lines-next before probe place value tally found =
    let below : place < length tally = slice_get_within tally place value found in
    let there : place ≤ length tally = omega (arith, below) in
    let read : Some (get_or tally place value) ≡ Some value = sym (slice_get-get_or tally place value below) ∙ found in
    let short : length (take place tally) ≡ place = length-first tally place there in
    let same : 0 + length (take place tally) ≡ place = omega (arith, short) in
    ap (tally_lines before probe 0) (take_more tally place value below ∙ ap (λ v. take place tally ++ v ∷ []) cc)
    ∙ tally_lines-more before probe 0 (take place tally) value
    ∙ ap (λ p. tally_lines before probe 0 (take place tally) ++ probe_line before probe p value) same

pub tally-next : (found : Option Meter) (before : List ℕ) (probe place value : ℕ) (old new : List ℕ) (said : Option ℕ) →
    IfSome found (λ m. said ≡ slice_get m.tally place) → said ≡ Some value → new ≡ old ++ probe_line before probe place value →
    IfSome found (IsWrittenUpTo before probe place old) → IfSome found (IsWrittenUpTo before probe (place + 1) new)
tally-next None before probe place value old new said reads is put h = tt
tally-next (Some m) before probe place value old new said reads is put h =
    let found : slice_get m.tally place ≡ Some value = sym reads ∙ is in
    let below : place < length m.tally = slice_get_within m.tally place value found in
    record {
      there = omega (arith, below);
      same =
          put ∙ ap (λ t. t ++ probe_line before probe place value) h.same ∙ sym (tally_lines-next before probe place value m.tally found);
    }

-- past the end, or at the greatest place, the lines are there
past-end : (xs : List ℕ) (i : ℕ) → slice_get xs i ≡ None → length xs ≤ i
past-end [] i none = omega arith
past-end (x ∷ xs) zero none = cc
past-end (x ∷ xs) (suc i) none = let short : length xs ≤ i = past-end xs i none in omega (arith, short)

-- a probe that says nothing says None
said-none : (said : Option ℕ) → ((value : ℕ) → said ≡ Some value → ⊥) → said ≡ None
said-none None not = refl
said-none (Some value) not = absurd (not value refl)

pub tally-ends : (found : Option Meter) (before : List ℕ) (probe place most : ℕ) (line : List ℕ) (said : Option ℕ) → place ≤ most →
    IfSome found (λ m. said ≡ slice_get m.tally place) → ((value : ℕ) → said ≡ Some value → ⊥) →
    IfSome found (IsWrittenUpTo before probe place line) → IfSome found (λ m. line ≡ tally_lines before probe 0 (take most m.tally))
tally-ends None before probe place most line said few reads not h = tt
tally-ends (Some m) before probe place most line said few reads not h =
    let short : length m.tally ≤ place = past-end m.tally place (sym reads ∙ said-none said not) in
    h.same ∙ ap (tally_lines before probe 0) (take_all place m.tally short ∙ sym (take_all most m.tally (omega (arith, short, few))))

pub tally-most : (found : Option Meter) (before : List ℕ) (probe place most : ℕ) (line : List ℕ) → place ≡ most →
    IfSome found (IsWrittenUpTo before probe place line) → IfSome found (λ m. line ≡ tally_lines before probe 0 (take most m.tally))
tally-most None before probe place most line e h = tt
tally-most (Some m) before probe place most line e h = h.same ∙ ap (λ n. tally_lines before probe 0 (take n m.tally)) e

-- the pieces of the probes that are left begin with that of the first of them
tally_pieces-from : (before : List ℕ) (probes : List Meter) (i probe : ℕ) (line : List ℕ) → i < length probes →
    IfSome (slice_get probes i) (λ m. line ≡ tally_lines before probe 0 (take 16 m.tally)) →
    tally_pieces before probe (drop i (tallies_of probes)) ≡ Report line
    ∷ tally_pieces before (probe + 1) (drop (suc i) (tallies_of probes))
unfolding tally_pieces
tally_pieces-from before [] i probe line below h = absurd (omega (arith, below))
tally_pieces-from before (m ∷ probes) zero probe line below h =
    ap (λ t. Report t ∷ tally_pieces before (probe + 1) (tallies_of probes)) (sym h)
tally_pieces-from before (m ∷ probes) (suc i) probe line below h = tally_pieces-from before probes i probe line (omega (arith, below)) h

tally_pieces-end : (before : List ℕ) (probes : List Meter) (i probe : ℕ) → length probes ≡ i →
    tally_pieces before probe (drop i (tallies_of probes)) ≡ []
unfolding tally_pieces
tally_pieces-end before probes i probe e =
    let short : length (tallies_of probes) ≡ i = length-map probes (λ (m : Meter). m.tally) ∙ e in
    rw (drop_all i (tallies_of probes) (omega (arith, short)))

module _ {B : Type 0} (before : List ℕ) (meter : B → Meter) (boxes : List B) (count probe : ℕ) (line bytes : List ℕ) (a b d : Ends) (below : probe < count) (all : count ≡ length boxes) (written : IfSome (slice_get (map meter boxes) probe) (λ m. line ≡ tally_lines before probe 0 (take 16 m.tally))) (same : bytes ≡ line) (h : SoFar (tally_pieces before 0 (tallies_of (map meter boxes))) (tally_pieces before probe (drop probe (tallies_of (map meter boxes)))) a b) where
  left : SoFar (tally_pieces before 0 (tallies_of (map meter boxes)))
      ((Report line ∷ []) ++ tally_pieces before (probe + 1) (drop (probe + 1) (tallies_of (map meter boxes)))) a b
  left =
      let many : length (map meter boxes) ≡ length boxes = length-map boxes meter in
      let next : suc probe ≡ probe + 1 = omega arith in
      subst (λ (t : List Piece). SoFar (tally_pieces before 0 (tallies_of (map meter boxes))) t a b)
      (tally_pieces-from before (map meter boxes) probe probe line (omega (arith, below, all, many)) written
      ∙ ap (λ k. Report line ∷ tally_pieces before (probe + 1) (drop k (tallies_of (map meter boxes)))) next) h

  pub tallies-next : d ≡ after b (Report bytes ∷ []) →
      SoFar (tally_pieces before 0 (tallies_of (map meter boxes)))
      (tally_pieces before (probe + 1) (drop (probe + 1) (tallies_of (map meter boxes)))) a d
  tallies-next put =
      SoFar-more (tally_pieces before 0 (tallies_of (map meter boxes))) (Report line ∷ []) _ a b d left
      (put ∙ ap (λ t. after b (Report t ∷ [])) same)

  pub tallies-breaks : Breaks (Report bytes ∷ []) b d → Breaks (tally_pieces before 0 (tallies_of (map meter boxes))) a d
  tallies-breaks broken =
      SoFar-breaks (tally_pieces before 0 (tallies_of (map meter boxes))) (Report line ∷ []) _ a b d left
      (subst (λ (t : List ℕ). Breaks (Report t ∷ []) b d) same broken)

pub tallies-whole : {B : Type 0} (before : List ℕ) (meter : B → Meter) (boxes : List B) (probe : ℕ) (a b : Ends) → length boxes ≡ probe →
    SoFar (tally_pieces before 0 (tallies_of (map meter boxes)))
    (tally_pieces before probe (drop probe (tallies_of (map meter boxes)))) a b →
    b ≡ after a (tally_pieces before 0 (tallies_of (map meter boxes)))
tallies-whole before meter boxes probe a b e h =
    SoFar-whole (tally_pieces before 0 (tallies_of (map meter boxes))) [] a b b
    (subst (λ (t : List Piece). SoFar (tally_pieces before 0 (tallies_of (map meter boxes))) t a b)
    (tally_pieces-end before (map meter boxes) probe probe (length-map boxes meter ∙ e)) h) (sym (after-nil b))
