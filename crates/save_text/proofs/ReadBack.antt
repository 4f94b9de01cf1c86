-- What is written of a recovery point is read back.
use Rattle.std.proofs.Common.{◌≡◌, ⊎_elim, ℕ, zero, suc, ◌+◌, ◌*◌, ◌^◌, ◌<◌, ◌≤◌, Bool, true, false, ◌&&◌, cond, List, [], ◌∷◌, ◌++◌}
use Rattle.std.proofs.Common.{length, get_or, set, refl, sym, ap, ◌∙◌, subst, arith, append_assoc, append-nil}
use Rattle.std.specs.Prelude.{nat_le, nat_lt, min, codes, decimal, replicate, Result, Ok}
use Rattle.std.specs.List.{All, filter, flat_map, range_with_len, slice_split}
use Rattle.std.proofs.lemmas.Bool.{cases_eq, cases_lt}
use Rattle.std.proofs.lemmas.Bool.Decides.{nat_tests}
use Rattle.std.proofs.lemmas.List.{ext_get_or, get_or-set_same, get_or-set_other, length-set}
use Rattle.std.proofs.lemmas.List.Elements.{All-nil, All-cons}
use Rattle.std.proofs.lemmas.List.Splits.{length-slice_split, slice_split_at}
use Rattle.text_lines.specs.Hex.{hex_byte}
use Rattle.text_lines.specs.Lines.{is_line_feed}
use Rattle.sn_base.specs.Config.{config_fits}
use Rattle.sn_base.specs.declared.config.Config.{Config}
use Rattle.rv_core.specs.declared.step.Record.{Record}
use Rattle.route_plan.specs.Distances.{is_dead}
use Rattle.sn_model.specs.Caches.{block_count}
use Rattle.sn_model.specs.Fabric.{no_switches}
use Rattle.sn_saved.specs.declared.marks.Marks.{Marks}
use Rattle.sn_saved.specs.Saved.{Saved, IsInForm, AreAscending, AreInOrder, AreInside, marks_fit, most_saved}
use Rattle.sn_text.specs.declared.cause.Fault.{Fault}
use Rattle.sn_text.specs.Text.{switch_text, record_text, trace_line}
use Rattle.sn_text.specs.Written.{IsRecordOf}
use Rattle.sn_text.proofs.Printed.{From, from-tested, from-append, from-lower, from-decimal, from-byte, number_of-decimal, byte_of-text, parted-words}
use Rattle.sn_text.proofs.Written.{switch-back, plain-switch, record-back, record-line}
use Rattle.sn_text.proofs.Lines.{IsLine}
use Rattle.save_text.specs.declared.cause.SaveCause.{SaveCause}
use Rattle.save_text.specs.declared.part.Part.{Part}
use Rattle.save_text.specs.declared.part.Part.TheVariants.{Top, Head, Config as Sizes, Marks as Numbers, Dead, Owners, Given, Committed, End}
use Rattle.save_text.specs.Parts.{rank_of}
use Rattle.save_text.specs.Reading.{Reading, top, least_of, read_after, next_read, body_read, numbered, line_read, lines_read, said_by}
use Rattle.save_text.specs.Text.{config_line, marks_line, dead_line, dead_switches, owner_line, given_line, record_line, saved_text}
use Rattle.save_text.specs.Words.{config_of, marks_of, owner_of, given_of}
use Rattle.save_text.specs.Written.{HasValues}

-- a line, and what stands behind it

none_ends : (line : List ℕ) → From 32 line → All (λ x. is_line_feed x ≡ false) line
none_ends [] f = All-nil (λ x. is_line_feed x ≡ false)
none_ends (x ∷ xs) f = All-cons (λ y. is_line_feed y ≡ false) x xs (grind (arith, nat_tests, f.0)) (none_ends xs f.1)

line_split : (line rest : List ℕ) → From 32 line → slice_split is_line_feed (line ++ 10 ∷ rest) ≡ line ∷ slice_split is_line_feed rest
line_split line rest f = slice_split_at is_line_feed line 10 rest (none_ends line f) refl

some_lines : (text : List ℕ) → 1 ≤ length (slice_split is_line_feed text)
some_lines text = omega (arith, length-slice_split is_line_feed text)

next_line : (number : ℕ) (s : Result Reading SaveCause) (line : List ℕ) (lines : List (List ℕ)) → 1 ≤ length lines →
    lines_read number s (line ∷ lines) ≡ lines_read (number + 1) (line_read number s line) lines
unfolding lines_read
next_line number s line [] l = absurd (omega (arith, l))
next_line number s line (next ∷ lines) l = refl

-- these lines lead from one reading to another, whatever stands behind them
abbrev Goes : ℕ → Reading → List ℕ → ℕ → Reading → Type 0
Goes number s text later t =
    (rest : List ℕ) → lines_read number (Ok s) (slice_split is_line_feed (text ++ rest)) ≡ lines_read later (Ok t) (slice_split is_line_feed rest)

line_goes : (number : ℕ) (s t : Reading) (line text : List ℕ) → text ≡ line ++ 10 ∷ [] → From 32 line → next_read s line ≡ Ok t →
    Goes number s text (number + 1) t
line_goes number s t line text is f e rest =
    ap (λ (x : List ℕ). lines_read number (Ok s) (slice_split is_line_feed (x ++ rest))) is
    ∙ ap (λ (x : List ℕ). lines_read number (Ok s) (slice_split is_line_feed x)) (append_assoc line (10 ∷ []) rest)
    ∙ ap (λ (ls : List (List ℕ)). lines_read number (Ok s) ls) (line_split line rest f)
    ∙ next_line number (Ok s) line (slice_split is_line_feed rest) (some_lines rest)
    ∙ ap (λ (q : Result Reading Fault). lines_read (number + 1) (numbered number q) (slice_split is_line_feed rest)) e

goes_on : (a b c : ℕ) (s t u : Reading) (x y : List ℕ) → Goes a s x b t → Goes b t y c u → Goes a s (x ++ y) c u
goes_on a b c s t u x y g h rest =
    ap (λ (z : List ℕ). lines_read a (Ok s) (slice_split is_line_feed z)) (append_assoc x y rest) ∙ (g (y ++ rest) ∙ h rest)

-- numbers as words

from_number : (n : ℕ) → n < 2 ^ 64 → From 32 (decimal n)
from_number n l = from-lower 32 48 (decimal n) (omega arith) (from-decimal n l)

word_number : (n : ℕ) → n < 2 ^ 64 → From 33 (decimal n)
word_number n l = from-lower 33 48 (decimal n) (omega arith) (from-decimal n l)

-- words behind one another

behind_three : (a b c d : List ℕ) → ((a ++ b) ++ c) ++ d ≡ a ++ (b ++ (c ++ d))
behind_three a b c d = append_assoc (a ++ b) c d ∙ append_assoc a b (c ++ d)

behind_four : (a b c d e : List ℕ) → (((a ++ b) ++ c) ++ d) ++ e ≡ a ++ (b ++ (c ++ (d ++ e)))
behind_four a b c d e = append_assoc ((a ++ b) ++ c) d e ∙ behind_three a b c (d ++ e)

two_words : (a b e : List ℕ) → (a ++ 32 ∷ b) ++ e ≡ a ++ 32 ∷ (b ++ e)
two_words a b e = append_assoc a (32 ∷ b) e

three_words : (a b c e : List ℕ) → (a ++ 32 ∷ (b ++ 32 ∷ c)) ++ e ≡ a ++ 32 ∷ (b ++ 32 ∷ (c ++ e))
three_words a b c e = two_words a (b ++ 32 ∷ c) e ∙ ap (λ (x : List ℕ). a ++ 32 ∷ x) (two_words b c e)

four_words : (a b c d e : List ℕ) → (a ++ 32 ∷ (b ++ 32 ∷ (c ++ 32 ∷ d))) ++ e ≡ a ++ 32 ∷ (b ++ 32 ∷ (c ++ 32 ∷ (d ++ e)))
four_words a b c d e = two_words a (b ++ 32 ∷ (c ++ 32 ∷ d)) e ∙ ap (λ (x : List ℕ). a ++ 32 ∷ x) (three_words b c d e)

-- the first lines

config_body : Config → List ℕ
config_body c = codes "config " ++ (decimal c.nodes ++ 32 ∷ (decimal c.sets ++ 32 ∷ (decimal c.ways ++ 32 ∷ decimal c.log)))

config_line-is : (c : Config) → config_line c ≡ config_body c ++ 10 ∷ []
unfolding config_line config_body
config_line-is c =
    behind_four (codes "config " ++ decimal c.nodes) (32 ∷ decimal c.sets) (32 ∷ decimal c.ways) (32 ∷ decimal c.log) (10 ∷ [])
    ∙ ap (λ (x : List ℕ). codes "config " ++ x) (sym (four_words (decimal c.nodes) (decimal c.sets) (decimal c.ways) (decimal c.log) (10 ∷ [])))

module _ (c : Config) (fits : config_fits c ≡ true) where
  nodes_low : c.nodes < 2 ^ 64
  nodes_low = grind (arith, nat_tests)

  sets_low : c.sets < 2 ^ 64
  sets_low = grind (arith, nat_tests)

  ways_low : c.ways < 2 ^ 64
  ways_low = grind (arith, nat_tests)

  log_low : c.log < 2 ^ 64
  log_low = grind (arith, nat_tests)

  from_config : From 32 (config_body c)
  unfolding config_body
  from_config =
      from-append 32 (codes "config ") _ (from-tested 32 (codes "config ") refl)
      (from-append 32 (decimal c.nodes) _ (from_number c.nodes nodes_low) (
        omega arith,
        from-append 32 (decimal c.sets) _ (from_number c.sets sets_low)
            (omega arith, from-append 32 (decimal c.ways) _ (from_number c.ways ways_low) (omega arith, from_number c.log log_low)),
      ))

  config_back : config_of (config_body c) ≡ Ok c
  unfolding config_of config_body
  config_back =
      rw (
        parted-words (decimal c.nodes) (decimal c.sets ++ 32 ∷ (decimal c.ways ++ 32 ∷ decimal c.log)) (word_number c.nodes nodes_low),
        number_of-decimal c.nodes nodes_low,
        parted-words (decimal c.sets) (decimal c.ways ++ 32 ∷ decimal c.log) (word_number c.sets sets_low),
        number_of-decimal c.sets sets_low,
        parted-words (decimal c.ways) (decimal c.log) (word_number c.ways ways_low),
        number_of-decimal c.ways ways_low,
        number_of-decimal c.log log_low,
        fits,
      ) refl

marks_body : ℕ → ℕ → ℕ → List ℕ
marks_body point next_id applied = codes "marks " ++ (decimal point ++ 32 ∷ (decimal next_id ++ 32 ∷ decimal applied))

marks_line-is : (point next_id applied : ℕ) → marks_line point next_id applied ≡ marks_body point next_id applied ++ 10 ∷ []
unfolding marks_line marks_body
marks_line-is point next_id applied =
    behind_three (codes "marks " ++ decimal point) (32 ∷ decimal next_id) (32 ∷ decimal applied) (10 ∷ [])
    ∙ ap (λ (x : List ℕ). codes "marks " ++ x) (sym (three_words (decimal point) (decimal next_id) (decimal applied) (10 ∷ [])))

-- the marks, before a switch is named
abbrev living : Marks → Marks
living m = record m { dead = no_switches }

module _ (m : Marks) (fits : marks_fit m ≡ true) where
  point_low : m.point < 2 ^ 64
  point_low = grind (arith, nat_tests)

  next_low : m.next_id < 2 ^ 64
  next_low = grind (arith, nat_tests)

  applied_low : m.applied < 2 ^ 64
  applied_low = grind (arith, nat_tests)

  from_marks : From 32 (marks_body m.point m.next_id m.applied)
  unfolding marks_body
  from_marks =
      from-append 32 (codes "marks ") _ (from-tested 32 (codes "marks ") refl)
      (from-append 32 (decimal m.point) _ (from_number m.point point_low)
      (omega arith, from-append 32 (decimal m.next_id) _ (from_number m.next_id next_low) (omega arith, from_number m.applied applied_low)))

  marks_back : marks_of (marks_body m.point m.next_id m.applied) ≡ Ok (living m)
  unfolding marks_of marks_body
  marks_back =
      rw (
        parted-words (decimal m.point) (decimal m.next_id ++ 32 ∷ decimal m.applied) (word_number m.point point_low),
        number_of-decimal m.point point_low,
        parted-words (decimal m.next_id) (decimal m.applied) (word_number m.next_id next_low),
        number_of-decimal m.next_id next_low,
        number_of-decimal m.applied applied_low,
        fits,
      ) refl

-- the other lines

body_at : (s : Reading) (line : List ℕ) → 3 ≤ rank_of s.part → next_read s line ≡ body_read s line
unfolding next_read
body_at s line l = go s.part l
  where
    go : (p : Part) → 3 ≤ rank_of p → read_after p s line ≡ body_read s line
    go Top h = absurd (omega (arith, h))
    go Head h = absurd (omega (arith, h))
    go Sizes h = absurd (omega (arith, h))
    go Numbers h = refl
    go Dead h = refl
    go Owners h = refl
    go Given h = refl
    go Committed h = refl
    go End h = refl

dead_body : ℕ → List ℕ
dead_body switch = codes "dead " ++ switch_text switch

dead_line-is : (switch : ℕ) → dead_line switch ≡ dead_body switch ++ 10 ∷ []
unfolding dead_line dead_body
dead_line-is switch = simp append_assoc

abbrev with_dead : Reading → ℕ → Reading
with_dead s switch = record {
  saved = record s.saved { marks = record s.saved.marks { dead = set s.saved.marks.dead switch true } };
  part = Dead;
  least = switch + 1;
}

dead_back : (s : Reading) (switch : ℕ) → rank_of s.part ≤ 4 → s.saved.config.nodes ≤ 16 → switch < 2 * s.saved.config.nodes →
    0 < s.saved.marks.applied → least_of s Dead ≤ switch → body_read s (dead_body switch) ≡ Ok (with_dead s switch)
unfolding body_read dead_body
dead_back s switch high few fits some order =
    let part : nat_le (rank_of s.part) 4 ≡ true = grind (arith, nat_tests) in
    let there : nat_lt switch (2 * s.saved.config.nodes) ≡ true = grind (arith, nat_tests) in
    let may : nat_lt 0 s.saved.marks.applied ≡ true = grind (arith, nat_tests) in
    let next : nat_le (least_of s Dead) switch ≡ true = grind (arith, nat_tests) in
    rw (part, switch-back s.saved.config.nodes switch few there, may, next) refl

owner_body : ℕ × ℕ → List ℕ
owner_body owner = codes "owner " ++ (decimal owner.0 ++ 32 ∷ decimal owner.1)

owner_line-is : (owner : ℕ × ℕ) → owner_line owner ≡ owner_body owner ++ 10 ∷ []
unfolding owner_line owner_body
owner_line-is owner =
    append_assoc (codes "owner " ++ decimal owner.0) (32 ∷ decimal owner.1) (10 ∷ [])
    ∙ ap (λ (x : List ℕ). codes "owner " ++ x) (sym (two_words (decimal owner.0) (decimal owner.1) (10 ∷ [])))

abbrev with_owner : Reading → ℕ × ℕ → Reading
with_owner s owner =
    record { saved = record s.saved { owners = s.saved.owners ++ owner ∷ [] }; part = Owners; least = owner.0 + 1 }

owner_back : (s : Reading) (owner : ℕ × ℕ) → rank_of s.part ≤ 5 → s.saved.config.nodes ≤ 16 → owner.0 < block_count →
    owner.1 < s.saved.config.nodes → 0 < s.saved.marks.applied → least_of s Owners ≤ owner.0 → body_read s (owner_body owner) ≡ Ok (with_owner s owner)
unfolding body_read owner_body owner_of
owner_back s owner high few block node some order =
    let part : nat_le (rank_of s.part) 5 ≡ true = grind (arith, nat_tests) in
    let low : nat_lt owner.0 block_count ≡ true = grind (arith, nat_tests) in
    let there : nat_lt owner.1 s.saved.config.nodes ≡ true = grind (arith, nat_tests) in
    let may : nat_lt 0 s.saved.marks.applied ≡ true = grind (arith, nat_tests) in
    let next : nat_le (least_of s Owners) owner.0 ≡ true = grind (arith, nat_tests) in
    rw (
      part,
      parted-words (decimal owner.0) (decimal owner.1) (word_number owner.0 (omega (arith, block))),
      number_of-decimal owner.0 (omega (arith, block)),
      number_of-decimal owner.1 (omega (arith, node, few)),
      low,
      there,
      may,
      next,
    ) refl

given_body : ℕ × ℕ → List ℕ
given_body byte = codes "given " ++ (decimal byte.0 ++ 32 ∷ hex_byte byte.1)

given_line-is : (byte : ℕ × ℕ) → given_line byte ≡ given_body byte ++ 10 ∷ []
unfolding given_line given_body
given_line-is byte = simp append_assoc

abbrev with_given : Reading → ℕ × ℕ → Reading
with_given s byte = record { saved = record s.saved { given = s.saved.given ++ byte ∷ [] }; part = Given; least = byte.0 }

given_back : (s : Reading) (byte : ℕ × ℕ) → rank_of s.part ≤ 6 → s.saved.config.nodes ≤ 16 → byte.0 < s.saved.config.nodes → byte.1 < 256 →
    length s.saved.given < min most_saved s.saved.marks.applied → least_of s Given ≤ byte.0 → body_read s (given_body byte) ≡ Ok (with_given s byte)
unfolding body_read given_body given_of
given_back s byte high few node value room order =
    let part : nat_le (rank_of s.part) 6 ≡ true = grind (arith, nat_tests) in
    let there : nat_lt byte.0 s.saved.config.nodes ≡ true = grind (arith, nat_tests) in
    let may : nat_lt (length s.saved.given) (min most_saved s.saved.marks.applied) ≡ true = grind (arith, nat_tests) in
    let next : nat_le (least_of s Given) byte.0 ≡ true = grind (arith, nat_tests) in
    rw (
      part,
      parted-words (decimal byte.0) (hex_byte byte.1) (word_number byte.0 (omega (arith, node, few))),
      number_of-decimal byte.0 (omega (arith, node, few)),
      byte_of-text byte.1 value,
      there,
      next,
      may,
    ) refl

record_body : Record → List ℕ
record_body taken = codes "rec " ++ record_text taken

record_line-is : (taken : Record) → record_line taken ≡ record_body taken ++ 10 ∷ []
unfolding record_line record_body trace_line
record_line-is taken = simp append_assoc

abbrev with_record : Reading → Record → Reading
with_record s taken = record { saved = record s.saved { committed = s.saved.committed ++ taken ∷ [] }; part = Committed; least = 0 }

record_read_back : (s : Reading) (taken : Record) → rank_of s.part ≤ 7 → s.saved.config.nodes ≤ 16 → IsRecordOf s.saved.config.nodes taken →
    0 < s.saved.marks.point → length s.saved.committed < min most_saved s.saved.marks.applied →
    body_read s (record_body taken) ≡ Ok (with_record s taken)
unfolding body_read record_body
record_read_back s taken high few is moved room =
    let part : nat_le (rank_of s.part) 7 ≡ true = grind (arith, nat_tests) in
    let some : nat_lt 0 s.saved.marks.point ≡ true = grind (arith, nat_tests) in
    let may : nat_lt (length s.saved.committed) (min most_saved s.saved.marks.applied) ≡ true = grind (arith, nat_tests) in
    rw (part, record-back s.saved.config.nodes taken few is, some, may) refl

end_back : (s : Reading) → rank_of s.part ≤ 7 → body_read s (codes "end") ≡ Ok (record s { part = End })
unfolding body_read
end_back s high = let part : nat_lt (rank_of s.part) 8 ≡ true = grind (arith, nat_tests) in rw part refl

-- the lists

least_none : (s : Reading) (part : Part) → rank_of s.part < rank_of part → least_of s part ≤ 0
least_none s part l = grind (arith, nat_tests)

-- these lines are read: after them this is said, and the part of the last is none behind this one
record Reads (number : ℕ) (s : Reading) (text : List ℕ) (saved : Saved) (rank : ℕ) : Type 0 where
  later : ℕ
  t : Reading
  says : t.saved ≡ saved
  low : 3 ≤ rank_of t.part
  high : rank_of t.part ≤ rank
  goes : Goes number s text later t

from_owner : (owner : ℕ × ℕ) → owner.0 < block_count → owner.1 < 16 → From 32 (owner_body owner)
unfolding owner_body
from_owner owner l h =
    from-append 32 (codes "owner ") _ (from-tested 32 (codes "owner ") refl)
    (from-append 32 (decimal owner.0) _ (from_number owner.0 (omega (arith, l))) (omega arith, from_number owner.1 (omega (arith, h))))

owners_read : (xs : List (ℕ × ℕ)) (number : ℕ) (s : Reading) (least : ℕ) → 3 ≤ rank_of s.part → rank_of s.part ≤ 5 → s.saved.config.nodes ≤ 16 →
    (1 ≤ length xs → 0 < s.saved.marks.applied) → least_of s Owners ≤ least → AreAscending least xs → AreInside s.saved.config.nodes xs →
    Reads number s (flat_map owner_line xs) (record s.saved { owners = s.saved.owners ++ xs }) 5
owners_read [] number s least low high few some order ascending inside = record {
  later = number;
  t = s;
  says = ap (λ (l : List (ℕ × ℕ)). record s.saved { owners = l }) (sym (append-nil s.saved.owners));
  low = low;
  high = high;
  goes = λ rest. refl;
}
owners_read (x ∷ xs) number s least low high few some order ascending inside =
    let there = inside 0 x (omega arith) in
    let step : next_read s (owner_body x) ≡ Ok (with_owner s x) =
    body_at s (owner_body x) low
    ∙ owner_back s x high few there.0 there.1 (some (omega arith)) (let a = ascending.0 in omega (arith, order, a)) in
    let r = owners_read xs (number + 1) (with_owner s x) (x.0 + 1) (omega arith) (omega arith) few (λ l. some (omega arith)) (omega arith)
    ascending.1 (λ k d l. inside (suc k) d (omega (arith, l))) in
    record {
      later = r.later;
      t = r.t;
      says = r.says ∙ ap (λ (l : List (ℕ × ℕ)). record s.saved { owners = l }) (append_assoc s.saved.owners (x ∷ []) xs);
      low = r.low;
      high = r.high;
      goes =
          goes_on number (number + 1) r.later s (with_owner s x) r.t (owner_line x) (flat_map owner_line xs)
          (line_goes number s (with_owner s x) (owner_body x) (owner_line x) (owner_line-is x)
          (from_owner x there.0 (let n = there.1 in omega (arith, n, few))) step) r.goes;
    }

from_given : (byte : ℕ × ℕ) → byte.0 < 16 → From 32 (given_body byte)
unfolding given_body
from_given byte l =
    from-append 32 (codes "given ") _ (from-tested 32 (codes "given ") refl)
    (from-append 32 (decimal byte.0) _ (from_number byte.0 (omega (arith, l)))
    (omega arith, from-lower 32 48 (hex_byte byte.1) (omega arith) (from-byte byte.1)))

one_longer : {A : Type 0} (xs : List A) (x : A) (more limit : ℕ) → length xs + suc more ≤ limit → length (xs ++ x ∷ []) + more ≤ limit
one_longer xs x more limit l = rw (length-push xs x) (omega (arith, l))
  where
    length-push : {A : Type 0} (ys : List A) (y : A) → length (ys ++ y ∷ []) ≡ suc (length ys)
    length-push [] y = refl
    length-push (z ∷ ys) y = ap suc (length-push ys y)

given_read : (xs : List (ℕ × ℕ)) (number : ℕ) (s : Reading) (least : ℕ) → 3 ≤ rank_of s.part → rank_of s.part ≤ 6 → s.saved.config.nodes ≤ 16 →
    length s.saved.given + length xs ≤ min most_saved s.saved.marks.applied → least_of s Given ≤ least → AreInOrder least xs →
    All (λ byte. byte.0 < s.saved.config.nodes) xs → All (λ byte. byte.1 < 256) xs →
    Reads number s (flat_map given_line xs) (record s.saved { given = s.saved.given ++ xs }) 6
given_read [] number s least low high few room order ordered inside values = record {
  later = number;
  t = s;
  says = ap (λ (l : List (ℕ × ℕ)). record s.saved { given = l }) (sym (append-nil s.saved.given));
  low = low;
  high = high;
  goes = λ rest. refl;
}
given_read (x ∷ xs) number s least low high few room order ordered inside values =
    let node = inside 0 x (omega arith) in
    let step : next_read s (given_body x) ≡ Ok (with_given s x) =
    body_at s (given_body x) low
    ∙ given_back s x high few node (values 0 x (omega arith)) (omega (arith, room)) (let a = ordered.0 in omega (arith, order, a)) in
    let r = given_read xs (number + 1) (with_given s x) x.0 (omega arith) (omega arith) few
    (one_longer s.saved.given x (length xs) (min most_saved s.saved.marks.applied) room) (omega arith) ordered.1
    (λ k d l. inside (suc k) d (omega (arith, l))) (λ k d l. values (suc k) d (omega (arith, l))) in
    record {
      later = r.later;
      t = r.t;
      says = r.says ∙ ap (λ (l : List (ℕ × ℕ)). record s.saved { given = l }) (append_assoc s.saved.given (x ∷ []) xs);
      low = r.low;
      high = r.high;
      goes =
          goes_on number (number + 1) r.later s (with_given s x) r.t (given_line x) (flat_map given_line xs)
          (line_goes number s (with_given s x) (given_body x) (given_line x) (given_line-is x) (from_given x (omega (arith, node, few))) step)
          r.goes;
    }

plain : (line : List ℕ) → IsLine line → From 32 line
plain [] a = absurd a
plain (x ∷ xs) a = (let h = a.0 in omega (arith, h), a.1)

from_record : (nodes : ℕ) (taken : Record) → nodes ≤ 16 → IsRecordOf nodes taken → From 32 (record_body taken)
unfolding record_body
from_record nodes taken few is =
    from-append 32 (codes "rec ") (record_text taken) (from-tested 32 (codes "rec ") refl) (plain (record_text taken) (record-line nodes taken few is))

records_read : (xs : List Record) (number : ℕ) (s : Reading) → 3 ≤ rank_of s.part → rank_of s.part ≤ 7 → s.saved.config.nodes ≤ 16 →
    (1 ≤ length xs → 0 < s.saved.marks.point) → length s.saved.committed + length xs ≤ min most_saved s.saved.marks.applied →
    All (IsRecordOf s.saved.config.nodes) xs →
    Reads number s (flat_map record_line xs) (record s.saved { committed = s.saved.committed ++ xs }) 7
records_read [] number s low high few moved room values = record {
  later = number;
  t = s;
  says = ap (λ (l : List Record). record s.saved { committed = l }) (sym (append-nil s.saved.committed));
  low = low;
  high = high;
  goes = λ rest. refl;
}
records_read (x ∷ xs) number s low high few moved room values =
    let is = values 0 x (omega arith) in
    let step : next_read s (record_body x) ≡ Ok (with_record s x) =
    body_at s (record_body x) low ∙ record_read_back s x high few is (moved (omega arith)) (omega (arith, room)) in
    let r = records_read xs (number + 1) (with_record s x) (omega arith) (omega arith) few (λ l. moved (omega arith))
    (one_longer s.saved.committed x (length xs) (min most_saved s.saved.marks.applied) room) (λ k d l. values (suc k) d (omega (arith, l))) in
    record {
      later = r.later;
      t = r.t;
      says = r.says ∙ ap (λ (l : List Record). record s.saved { committed = l }) (append_assoc s.saved.committed (x ∷ []) xs);
      low = r.low;
      high = r.high;
      goes =
          goes_on number (number + 1) r.later s (with_record s x) r.t (record_line x) (flat_map record_line xs)
          (line_goes number s (with_record s x) (record_body x) (record_line x) (record_line-is x) (from_record s.saved.config.nodes x few is) step)
          r.goes;
    }

-- the dead switches: those below a number have been read

none_set : (n i : ℕ) → get_or (replicate n false) i false ≡ false
none_set zero i = refl
none_set (suc n) zero = refl
none_set (suc n) (suc i) = none_set n i

from_dead : (nodes switch : ℕ) → nodes ≤ 16 → nat_lt switch (2 * nodes) ≡ true → From 32 (dead_body switch)
unfolding dead_body
from_dead nodes switch few fits =
    from-append 32 (codes "dead ") (switch_text switch) (from-tested 32 (codes "dead ") refl) (plain-switch nodes switch few fits)

module _ (dead : List Bool) where
  -- of a list of marks: those below a number are these, and the others aren't set
  record MarkedBelow (xs : List Bool) (a : ℕ) : Type 0 where
    count : length xs ≡ 32
    marks : (i : ℕ) → get_or xs i false ≡ (nat_lt i a && get_or dead i false)

  marked : (xs : List Bool) (a : ℕ) → a < 32 → get_or dead a false ≡ true → MarkedBelow xs a → MarkedBelow (set xs a true) (a + 1)
  marked xs a l e f = record {
    count = length-set xs a true ∙ f.count;
    marks = λ i. ⊎_elim
        (λ (h : i ≡ a). rw h (get_or-set_same xs a true false (let c = f.count in omega (arith, c, l)) ∙ here))
        (λ (h : i ≡ a → ⊥). get_or-set_other xs a i true false h ∙ (f.marks i ∙ there i (get_or dead i false) h))
        (cases_eq i a);
  }
    where
      here : true ≡ (nat_lt a (a + 1) && get_or dead a false)
      here = grind (arith, nat_tests)

      there : (i : ℕ) (b : Bool) → (i ≡ a → ⊥) → (nat_lt i a && b) ≡ (nat_lt i (a + 1) && b)
      there i b h = grind (arith, nat_tests)

  passed : (xs : List Bool) (a : ℕ) → get_or dead a false ≡ false → MarkedBelow xs a → MarkedBelow xs (a + 1)
  passed xs a e f = record {
    count = f.count;
    marks = λ i. f.marks i ∙ ⊎_elim
        (λ (h : i ≡ a). rw h here)
        (λ (h : i ≡ a → ⊥). there i (get_or dead i false) h)
        (cases_eq i a);
  }
    where
      here : (nat_lt a a && get_or dead a false) ≡ (nat_lt a (a + 1) && get_or dead a false)
      here = grind (arith, nat_tests)

      there : (i : ℕ) (b : Bool) → (i ≡ a → ⊥) → (nat_lt i a && b) ≡ (nat_lt i (a + 1) && b)
      there i b h = grind (arith, nat_tests)

  all_marked : (xs : List Bool) → length dead ≡ 32 → MarkedBelow xs 32 → xs ≡ dead
  all_marked xs c f =
      ext_get_or false xs dead (f.count ∙ sym c)
      (λ i l. f.marks i ∙ low i (get_or dead i false) (let d = f.count in omega (arith, d, l)))
    where
      low : (i : ℕ) (b : Bool) → i < 32 → (nat_lt i 32 && b) ≡ b
      low i b l = grind (arith, nat_tests)

  abbrev left : ℕ → ℕ → List ℕ
  left a n = filter (is_dead dead) (range_with_len a n)

  abbrev ReadsDead : ℕ → Reading → List ℕ → Type 0
  ReadsDead number s switches =
      Reads number s (flat_map dead_line switches) (record s.saved { marks = record s.saved.marks { dead = dead } }) 4

  one_dead : (number : ℕ) (s : Reading) (a : ℕ) (rest : List ℕ) → s.saved.config.nodes ≤ 16 → a < 2 * s.saved.config.nodes →
      next_read s (dead_body a) ≡ Ok (with_dead s a) → ReadsDead (number + 1) (with_dead s a) rest → ReadsDead number s (a ∷ rest)
  one_dead number s a rest few fits step r = record {
    later = r.later;
    t = r.t;
    says = r.says;
    low = r.low;
    high = r.high;
    goes =
        goes_on number (number + 1) r.later s (with_dead s a) r.t (dead_line a) (flat_map dead_line rest)
        (line_goes number s (with_dead s a) (dead_body a) (dead_line a) (dead_line-is a)
        (from_dead s.saved.config.nodes a few (grind (arith, nat_tests))) step) r.goes;
  }

  dead_read : (n a number : ℕ) (s : Reading) → a + n ≡ 32 → 3 ≤ rank_of s.part → rank_of s.part ≤ 4 → s.saved.config.nodes ≤ 16 → length dead ≡ 32 →
      ((k : ℕ) → is_dead dead k ≡ true → (k < 2 * s.saved.config.nodes) × (0 < s.saved.marks.applied)) → least_of s Dead ≤ a →
      MarkedBelow s.saved.marks.dead a → ReadsDead number s (left a n)
  dead_read zero a number s e low high few count there order far = record {
    later = number;
    t = s;
    says =
        ap (λ (d : List Bool). record s.saved { marks = record s.saved.marks { dead = d } })
        (all_marked s.saved.marks.dead count (subst (MarkedBelow s.saved.marks.dead) (omega (arith, e)) far));
    low = low;
    high = high;
    goes = λ rest. refl;
  }
  dead_read (suc n) a number s e low high few count there order far =
      go (is_dead dead a) refl
      (λ t. dead_read n (a + 1) (number + 1) (with_dead s a) (omega (arith, e)) (omega arith) (omega arith) few count there (omega arith)
      (marked s.saved.marks.dead a (omega (arith, e)) t far))
      (λ t. dead_read n (a + 1) number s (omega (arith, e)) low high few count there (omega (arith, order)) (passed s.saved.marks.dead a t far))
    where
      go : (q : Bool) → is_dead dead a ≡ q →
          (is_dead dead a ≡ true → ReadsDead (number + 1) (with_dead s a) (left (a + 1) n)) →
          (is_dead dead a ≡ false → ReadsDead number s (left (a + 1) n)) → ReadsDead number s (cond q (a ∷ left (a + 1) n) (left (a + 1) n))
      go true t next other =
          one_dead number s a (left (a + 1) n) few (there a t).0
          (body_at s (dead_body a) low ∙ dead_back s a high few (there a t).0 (there a t).1 order) (next t)
      go false t next other = other t

-- all lines

module _ (saved : Saved) (form : IsInForm saved) (values : HasValues saved) where
  few_nodes : saved.config.nodes ≤ 16
  few_nodes = let f = form.fits in grind (arith, nat_tests)

  abbrev with_head : Reading
  with_head = record top { part = Head }

  abbrev with_config : Reading
  with_config = record with_head { saved = record top.saved { config = saved.config }; part = Sizes }

  abbrev with_marks : Reading
  with_marks = record with_config { saved = record with_config.saved { marks = living saved.marks }; part = Numbers }

  head_read_back : next_read top (codes "safetynet-save 1") ≡ Ok with_head
  unfolding next_read
  head_read_back = refl

  head_goes : Goes 1 top (codes "safetynet-save 1\n") 2 with_head
  head_goes =
      line_goes 1 top with_head (codes "safetynet-save 1") (codes "safetynet-save 1\n") refl (from-tested 32 (codes "safetynet-save 1") refl)
      head_read_back

  config_read_back : next_read with_head (config_body saved.config) ≡ Ok with_config
  unfolding next_read
  config_read_back = rw (config_back saved.config form.fits) refl

  config_goes : Goes 2 with_head (config_line saved.config) 3 with_config
  config_goes =
      line_goes 2 with_head with_config (config_body saved.config) (config_line saved.config) (config_line-is saved.config)
      (from_config saved.config form.fits) config_read_back

  marks_read_back : next_read with_config (marks_body saved.marks.point saved.marks.next_id saved.marks.applied) ≡ Ok with_marks
  unfolding next_read
  marks_read_back = rw (marks_back saved.marks form.numbers) refl

  marks_goes : Goes 3 with_config (marks_line saved.marks.point saved.marks.next_id saved.marks.applied) 4 with_marks
  marks_goes =
      line_goes 3 with_config with_marks (marks_body saved.marks.point saved.marks.next_id saved.marks.applied)
      (marks_line saved.marks.point saved.marks.next_id saved.marks.applied)
      (marks_line-is saved.marks.point saved.marks.next_id saved.marks.applied) (from_marks saved.marks form.numbers) marks_read_back

  -- a switch that is dead is one of the machine, to which some event was applied
  dead_there : (k : ℕ) → is_dead saved.marks.dead k ≡ true → (k < 2 * saved.config.nodes) × (0 < saved.marks.applied)
  dead_there k t = (
    ⊎_elim
        (λ (l : k < 2 * saved.config.nodes). l)
        (λ (h : 2 * saved.config.nodes ≤ k). absurd (let e = form.switches k h in cc))
        (cases_lt k (2 * saved.config.nodes)),
    ⊎_elim
        (λ (e : saved.marks.applied ≡ 0). absurd (let f = (form.untouched e).0 k in cc))
        (λ (e : saved.marks.applied ≡ 0 → ⊥). omega (arith, e))
        (cases_eq saved.marks.applied 0),
  )

  none_yet : MarkedBelow saved.marks.dead no_switches 0
  none_yet = record { count = refl; marks = λ i. none i }
    where
      below : (i : ℕ) (b : Bool) → false ≡ (nat_lt i 0 && b)
      below i b = grind (arith, nat_tests)

      none : (i : ℕ) → get_or no_switches i false ≡ (nat_lt i 0 && get_or saved.marks.dead i false)
      none i = none_set 32 i ∙ below i (get_or saved.marks.dead i false)

  deads : Reads 4 with_marks (flat_map dead_line (dead_switches saved.marks.dead))
      (record with_marks.saved { marks = record with_marks.saved.marks { dead = saved.marks.dead } }) 4
  deads = dead_read saved.marks.dead 32 0 4 with_marks refl (omega arith) (omega arith) few_nodes form.marks dead_there (omega arith) none_yet

  some_owner : 1 ≤ length saved.owners → 0 < saved.marks.applied
  some_owner l = ⊎_elim
      (λ (e : saved.marks.applied ≡ 0). let f = ap length (form.untouched e).1 in absurd (omega (arith, f, l)))
      (λ (e : saved.marks.applied ≡ 0 → ⊥). omega (arith, e))
      (cases_eq saved.marks.applied 0)

  some_record : 1 ≤ length saved.committed → 0 < saved.marks.point
  some_record l = ⊎_elim
      (λ (e : saved.marks.point ≡ 0). let f = ap length (form.unmoved e) in absurd (omega (arith, f, l)))
      (λ (e : saved.marks.point ≡ 0 → ⊥). omega (arith, e))
      (cases_eq saved.marks.point 0)

  owners_are : Reads deads.later deads.t (flat_map owner_line saved.owners) (record deads.t.saved { owners = deads.t.saved.owners ++ saved.owners }) 5
  owners_are =
      let d = deads in
      owners_read saved.owners d.later d.t 0 d.low (let h = d.high in omega (arith, h))
      (subst (λ (v : Saved). v.config.nodes ≤ 16) (sym d.says) few_nodes)
      (subst (λ (v : Saved). 1 ≤ length saved.owners → 0 < v.marks.applied) (sym d.says) some_owner)
      (least_none d.t Owners (let h = d.high in omega (arith, h))) form.owners
      (subst (λ (v : Saved). AreInside v.config.nodes saved.owners) (sym d.says) form.blocks)

  abbrev owned : Saved
  owned = record with_marks.saved { marks = saved.marks; owners = saved.owners }

  owners_say : owners_are.t.saved ≡ owned
  owners_say = owners_are.says ∙ ap (λ (v : Saved). record v { owners = v.owners ++ saved.owners }) deads.says

  few_bytes : length saved.given ≤ min most_saved saved.marks.applied
  few_bytes = let a = form.few_given.0 in let b = form.few_given.1 in omega (arith, a, b)

  few_records : length saved.committed ≤ min most_saved saved.marks.applied
  few_records = let a = form.few_records.0 in let b = form.few_records.1 in omega (arith, a, b)

  bytes_are : Reads owners_are.later owners_are.t (flat_map given_line saved.given) (record owners_are.t.saved { given = owners_are.t.saved.given ++ saved.given }) 6
  bytes_are =
      given_read saved.given owners_are.later owners_are.t 0 owners_are.low (let h = owners_are.high in omega (arith, h))
      (subst (λ (v : Saved). v.config.nodes ≤ 16) (sym owners_say) few_nodes)
      (subst (λ (v : Saved). length v.given + length saved.given ≤ min most_saved v.marks.applied) (sym owners_say) (omega (arith, few_bytes)))
      (least_none owners_are.t Given (let h = owners_are.high in omega (arith, h))) form.given
      (subst (λ (v : Saved). All (λ byte. byte.0 < v.config.nodes) saved.given) (sym owners_say) form.nodes) values.bytes

  bytes_say : bytes_are.t.saved ≡ record owned { given = saved.given }
  bytes_say = bytes_are.says ∙ ap (λ (v : Saved). record v { given = v.given ++ saved.given }) owners_say

  records_are : Reads bytes_are.later bytes_are.t (flat_map record_line saved.committed) (record bytes_are.t.saved { committed = bytes_are.t.saved.committed ++ saved.committed }) 7
  records_are =
      records_read saved.committed bytes_are.later bytes_are.t bytes_are.low (let h = bytes_are.high in omega (arith, h))
      (subst (λ (v : Saved). v.config.nodes ≤ 16) (sym bytes_say) few_nodes)
      (subst (λ (v : Saved). 1 ≤ length saved.committed → 0 < v.marks.point) (sym bytes_say) some_record)
      (subst (λ (v : Saved). length v.committed + length saved.committed ≤ min most_saved v.marks.applied) (sym bytes_say) (omega (arith, few_records)))
      (subst (λ (v : Saved). All (IsRecordOf v.config.nodes) saved.committed) (sym bytes_say) values.records)

  records_say : records_are.t.saved ≡ saved
  records_say = records_are.says ∙ ap (λ (v : Saved). record v { committed = v.committed ++ saved.committed }) bytes_say

  abbrev last : Reading
  last = record records_are.t { part = End }

  end_goes : Goes records_are.later records_are.t (codes "end\n") (records_are.later + 1) last
  end_goes =
      line_goes records_are.later records_are.t last (codes "end") (codes "end\n") refl (from-tested 32 (codes "end") refl)
      (body_at records_are.t (codes "end") records_are.low ∙ end_back records_are.t records_are.high)

  -- all texts, one behind another
  abbrev from_end : List ℕ → List ℕ
  from_end rest = codes "end\n" ++ rest

  abbrev from_records : List ℕ → List ℕ
  from_records rest = flat_map record_line saved.committed ++ from_end rest

  abbrev from_bytes : List ℕ → List ℕ
  from_bytes rest = flat_map given_line saved.given ++ from_records rest

  abbrev from_owners : List ℕ → List ℕ
  from_owners rest = flat_map owner_line saved.owners ++ from_bytes rest

  abbrev from_switches : List ℕ → List ℕ
  from_switches rest = flat_map dead_line (dead_switches saved.marks.dead) ++ from_owners rest

  abbrev from_numbers : List ℕ → List ℕ
  from_numbers rest = marks_line saved.marks.point saved.marks.next_id saved.marks.applied ++ from_switches rest

  abbrev from_sizes : List ℕ → List ℕ
  from_sizes rest = config_line saved.config ++ from_numbers rest

  text_is : saved_text saved ≡ codes "safetynet-save 1\n" ++ from_sizes []
  unfolding saved_text
  text_is = simp append_assoc

  all_goes : (rest : List ℕ) → lines_read 1 (Ok top) (slice_split is_line_feed (codes "safetynet-save 1\n" ++ from_sizes rest))
      ≡ lines_read (records_are.later + 1) (Ok last) (slice_split is_line_feed rest)
  all_goes rest =
      head_goes (from_sizes rest)
      ∙ (config_goes (from_numbers rest)
      ∙ (marks_goes (from_switches rest)
      ∙ (deads.goes (from_owners rest) ∙ (owners_are.goes (from_bytes rest) ∙ (bytes_are.goes (from_records rest) ∙ (records_are.goes (from_end rest) ∙ end_goes rest))))))

  ended : lines_read (records_are.later + 1) (Ok last) (slice_split is_line_feed []) ≡ Ok records_are.t.saved
  unfolding lines_read
  ended = refl

  pub read_back : said_by (saved_text saved) ≡ Ok saved
  read_back =
      ap (λ (x : List ℕ). lines_read 1 (Ok top) (slice_split is_line_feed x)) text_is ∙ (all_goes [] ∙ (ended ∙ ap (λ (v : Saved). Ok v) records_say))
