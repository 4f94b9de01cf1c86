-- A saved point in form has a text of 64 MiB at most: no line but that of the marks is longer than 32.
use Rattle.std.proofs.Common.{◌≡◌, ℕ, zero, suc, ◌+◌, ◌-◌, ◌*◌, ◌/◌, ◌%◌, ◌^◌, ◌<◌, ◌≤◌, Bool, true, false, cond, List, [], ◌∷◌, ◌++◌, length, length-append, if◌then◌else◌, nat_eq, Option, Some, None, arith}
use Rattle.std.specs.Prelude.{filter, flat_map, codes, decimal}
use Rattle.std.specs.List.{All, range_with_len}
use Rattle.std.proofs.lemmas.Bool.Decides.{nat_tests}
use Rattle.std.proofs.lemmas.Fmt.{length-decimal-le}
use Rattle.std.proofs.lemmas.List.Elements.{All-nil, All-cons, All-head, All-tail, All-filter}
use Rattle.sn_base.specs.Config.{config_fits}
use Rattle.sn_base.specs.declared.config.Config.{Config}
use Rattle.rv_core.specs.declared.step.Record.{Record}
use Rattle.route_plan.specs.Distances.{is_dead}
use Rattle.sn_model.specs.Caches.{block_count}
use Rattle.sn_saved.specs.declared.marks.Marks.{Marks}
use Rattle.sn_saved.specs.Saved.{Saved, IsInForm, AreAscending, AreInside, marks_fit}
use Rattle.text_lines.specs.Hex.{hex_byte, hex_word}
use Rattle.sn_text.specs.Text.{named_number, switch_text, flag_text, read_text, record_text, trace_line}
use Rattle.save_text.specs.Text.{head_line, config_line, marks_line, dead_line, dead_switches, owner_line, given_line, record_line, end_line, saved_text}
use Rattle.save_text.specs.Written.{HasValues}

joined : (xs ys : List ℕ) (a b : ℕ) → length xs ≤ a → length ys ≤ b → length (xs ++ ys) ≤ a + b
joined xs ys a b h l = let s = length-append xs ys in omega (arith, s, h, l)

-- texts one after another
module _ {X : Type 0} (text : X → List ℕ) where
  abbrev IsShort : X → Type 0
  IsShort x = length (text x) ≤ 32

  all_short : (xs : List X) → All IsShort xs → length (flat_map text xs) ≤ 32 * length xs
  all_short [] all = omega arith
  all_short (x ∷ xs) all =
      let s = length-append (text x) (flat_map text xs) in
      let first = All-head IsShort x xs all in
      let others = all_short xs (All-tail IsShort x xs all) in
      omega (arith, s, first, others)

-- numbers and words

number_short : (k n : ℕ) → 0 < k → n < 10 ^ k → n < 2 ^ 64 → length (decimal n) ≤ k
number_short k n some fits small = length-decimal-le k n some fits small

named_short : (name : List ℕ) (n k : ℕ) → length (decimal n) ≤ k → length (named_number name n) ≤ length name + 1 + k
named_short name n k l =
    let one : length (name ++ codes " ") ≤ length name + 1 = let s = length-append name (codes " ") in omega (arith, s) in
    joined (name ++ codes " ") (decimal n) (length name + 1) k one l

byte_short : (byte : ℕ) → length (hex_byte byte) ≤ 2
unfolding hex_byte
byte_short byte = omega arith

word_short : (word : ℕ) → length (hex_word word) ≤ 8
unfolding hex_word
word_short word = omega arith

flag_short : (done : Bool) → length (flag_text done) ≤ 1
flag_short true = omega arith
flag_short false = omega arith

read_short : (read : Option ℕ) → length (read_text read) ≤ 3
read_short None = omega arith
read_short (Some byte) = joined (codes " ") (hex_byte byte) 1 2 (omega arith) (byte_short byte)

-- lines

config_short : (c : Config) → config_fits c ≡ true → length (config_line c) ≤ 32
unfolding config_line
config_short c fits =
    let nodes : c.nodes < 10000 = grind (arith, nat_tests) in
    let sets : c.sets < 10000 = grind (arith, nat_tests) in
    let ways : c.ways < 10000 = grind (arith, nat_tests) in
    let log : c.log < 10000 = grind (arith, nat_tests) in
    let one = named_short (codes "config") c.nodes 4 (number_short 4 c.nodes (omega arith) (omega (arith, nodes)) (omega (arith, nodes))) in
    let two =
    joined (named_number (codes "config") c.nodes) (named_number [] c.sets) 11 5 (omega (arith, one))
    (named_short [] c.sets 4 (number_short 4 c.sets (omega arith) (omega (arith, sets)) (omega (arith, sets)))) in
    let three =
    joined (named_number (codes "config") c.nodes ++ named_number [] c.sets) (named_number [] c.ways) 16 5 two
    (named_short [] c.ways 4 (number_short 4 c.ways (omega arith) (omega (arith, ways)) (omega (arith, ways)))) in
    let four =
    joined (named_number (codes "config") c.nodes ++ named_number [] c.sets ++ named_number [] c.ways) (named_number [] c.log) 21 5 three
    (named_short [] c.log 4 (number_short 4 c.log (omega arith) (omega (arith, log)) (omega (arith, log)))) in
    let all =
    joined (named_number (codes "config") c.nodes ++ named_number [] c.sets ++ named_number [] c.ways ++ named_number [] c.log) (codes "\n") 26 1
    four (omega arith) in
    omega (arith, all)

marks_short : (m : Marks) → marks_fit m ≡ true → length (marks_line m.point m.next_id m.applied) ≤ 64
unfolding marks_line
marks_short m fits =
    let applied : m.applied < 100000000000 = grind (arith, nat_tests) in
    let point : m.point < 100000000000 = grind (arith, nat_tests) in
    let next : m.next_id < 100000000000 = grind (arith, nat_tests) in
    let one = named_short (codes "marks") m.point 11 (number_short 11 m.point (omega arith) (omega (arith, point)) (omega (arith, point))) in
    let two =
    joined (named_number (codes "marks") m.point) (named_number [] m.next_id) 17 12 (omega (arith, one))
    (named_short [] m.next_id 11 (number_short 11 m.next_id (omega arith) (omega (arith, next)) (omega (arith, next)))) in
    let three =
    joined (named_number (codes "marks") m.point ++ named_number [] m.next_id) (named_number [] m.applied) 29 12 two
    (named_short [] m.applied 11 (number_short 11 m.applied (omega arith) (omega (arith, applied)) (omega (arith, applied)))) in
    let all =
    joined (named_number (codes "marks") m.point ++ named_number [] m.next_id ++ named_number [] m.applied) (codes "\n") 41 1 three (omega arith) in
    omega (arith, all)

switch_short : (switch : ℕ) → switch < 32 → length (switch_text switch) ≤ 3
switch_short switch low = go (nat_eq (switch % 2) 0)
  where
    node : length (decimal (switch / 2)) ≤ 2
    node = number_short 2 (switch / 2) (omega arith) (omega (arith, low)) (omega (arith, low))

    go : (first : Bool) → length ((if first then codes "a" else codes "b") ++ decimal (switch / 2)) ≤ 3
    go true = joined (codes "a") (decimal (switch / 2)) 1 2 (omega arith) node
    go false = joined (codes "b") (decimal (switch / 2)) 1 2 (omega arith) node

dead_short : (switch : ℕ) → switch < 32 → length (dead_line switch) ≤ 32
unfolding dead_line
dead_short switch low =
    let two = joined (codes "dead ") (switch_text switch) 5 3 (omega arith) (switch_short switch low) in
    let all = joined (codes "dead " ++ switch_text switch) (codes "\n") 8 1 two (omega arith) in
    omega (arith, all)

owner_short : (owner : ℕ × ℕ) → owner.0 < block_count → owner.1 < 16 → length (owner_line owner) ≤ 32
unfolding owner_line
owner_short owner block node =
    let one = named_short (codes "owner") owner.0 5 (number_short 5 owner.0 (omega arith) (omega (arith, block)) (omega (arith, block))) in
    let two =
    joined (named_number (codes "owner") owner.0) (named_number [] owner.1) 11 3 (omega (arith, one))
    (named_short [] owner.1 2 (number_short 2 owner.1 (omega arith) (omega (arith, node)) (omega (arith, node)))) in
    let all = joined (named_number (codes "owner") owner.0 ++ named_number [] owner.1) (codes "\n") 14 1 two (omega arith) in
    omega (arith, all)

given_short : (byte : ℕ × ℕ) → byte.0 < 16 → length (given_line byte) ≤ 32
unfolding given_line
given_short byte node =
    let one = named_short (codes "given") byte.0 2 (number_short 2 byte.0 (omega arith) (omega (arith, node)) (omega (arith, node))) in
    let two = joined (named_number (codes "given") byte.0) (codes " ") 8 1 (omega (arith, one)) (omega arith) in
    let three = joined (named_number (codes "given") byte.0 ++ codes " ") (hex_byte byte.1) 9 2 two (byte_short byte.1) in
    let all = joined (named_number (codes "given") byte.0 ++ codes " " ++ hex_byte byte.1) (codes "\n") 11 1 three (omega arith) in
    omega (arith, all)

record_short : (taken : Record) → taken.core < 16 → length (record_line taken) ≤ 32
unfolding record_line trace_line
record_short taken core =
    let one = number_short 2 taken.core (omega arith) (omega (arith, core)) (omega (arith, core)) in
    let two = joined (decimal taken.core) (codes " ") 2 1 one (omega arith) in
    let three = joined (decimal taken.core ++ codes " ") (hex_word taken.seen) 3 8 two (word_short taken.seen) in
    let four = joined (decimal taken.core ++ codes " " ++ hex_word taken.seen) (codes " ") 11 1 three (omega arith) in
    let five =
    joined (decimal taken.core ++ codes " " ++ hex_word taken.seen ++ codes " ") (flag_text taken.sc_done) 12 1 four (flag_short taken.sc_done) in
    let six =
    joined (decimal taken.core ++ codes " " ++ hex_word taken.seen ++ codes " " ++ flag_text taken.sc_done) (read_text taken.read) 13 3 five
    (read_short taken.read) in
    let seven = joined (record_text taken) (codes "\n") 16 1 six (omega arith) in
    let all = joined (codes "rec ") (record_text taken ++ codes "\n") 4 17 (omega arith) seven in
    omega (arith, all)

-- how many there are

few_left : (p : ℕ → Bool) (xs : List ℕ) → length (filter p xs) ≤ length xs
few_left p [] = omega arith
few_left p (x ∷ xs) = go (p x) (few_left p xs)
  where
    go : (q : Bool) → length (filter p xs) ≤ length xs → length (cond q (x ∷ filter p xs) (filter p xs)) ≤ length (x ∷ xs)
    go true l = omega (arith, l)
    go false l = omega (arith, l)

range_few : (a n : ℕ) → length (range_with_len a n) ≤ n
range_few a zero = omega arith
range_few a (suc n) = let h = range_few (a + 1) n in omega (arith, h)

range_low : (bound a n : ℕ) → a + n ≤ bound → All (λ k. k < bound) (range_with_len a n)
range_low bound a zero l = All-nil (λ (k : ℕ). k < bound)
range_low bound a (suc n) l =
    All-cons (λ (k : ℕ). k < bound) a (range_with_len (a + 1) n) (omega (arith, l)) (range_low bound (a + 1) n (omega (arith, l)))

few_owners : (nodes least : ℕ) (owners : List (ℕ × ℕ)) → AreAscending least owners → AreInside nodes owners → length owners ≤ block_count - least
few_owners nodes least [] order inside = omega arith
few_owners nodes least (o ∷ owners) order inside =
    let here : o.0 < block_count = (inside 0 o (omega arith)).0 in
    let low = order.0 in
    let others = few_owners nodes (o.0 + 1) owners order.1 (λ k d l. inside (suc k) d (omega (arith, l))) in
    omega (arith, here, low, others)

module _ (saved : Saved) (form : IsInForm saved) (values : HasValues saved) where
  few_nodes : saved.config.nodes ≤ 16
  few_nodes = let f = form.fits in grind (arith, nat_tests)

  dead : length (flat_map dead_line (dead_switches saved.marks.dead)) ≤ 1024
  dead =
      let each : All (λ k. k < 32) (dead_switches saved.marks.dead) =
      All-filter (is_dead saved.marks.dead) (λ (k : ℕ). k < 32) (range_with_len 0 32) (range_low 32 0 32 (omega arith)) in
      let all = all_short dead_line (dead_switches saved.marks.dead) (λ k d l. dead_short _ (each k d l)) in
      let left = few_left (is_dead saved.marks.dead) (range_with_len 0 32) in
      let few = range_few 0 32 in
      omega (arith, all, left, few)

  owners : length (flat_map owner_line saved.owners) ≤ 32 * length saved.owners
  owners =
      all_short owner_line saved.owners
      (λ k d l. let h = form.blocks k d l in owner_short _ h.0 (let n = h.1 in omega (arith, n, few_nodes)))

  given : length (flat_map given_line saved.given) ≤ 32 * length saved.given
  given = all_short given_line saved.given (λ k d l. given_short _ (let n = form.nodes k d l in omega (arith, n, few_nodes)))

  records : length (flat_map record_line saved.committed) ≤ 32 * length saved.committed
  records =
      all_short record_line saved.committed
      (λ k d l. record_short _ (let h = values.records k d l in let n = h.core in omega (arith, n, few_nodes)))

  abbrev to_marks : List ℕ
  to_marks = head_line ++ config_line saved.config ++ marks_line saved.marks.point saved.marks.next_id saved.marks.applied

  abbrev to_dead : List ℕ
  to_dead = to_marks ++ flat_map dead_line (dead_switches saved.marks.dead)

  abbrev to_owners : List ℕ
  to_owners = to_dead ++ flat_map owner_line saved.owners

  abbrev to_given : List ℕ
  to_given = to_owners ++ flat_map given_line saved.given

  abbrev to_records : List ℕ
  to_records = to_given ++ flat_map record_line saved.committed

  pub short_enough : length (saved_text saved) ≤ 67108864
  unfolding saved_text
  short_enough =
      let one = joined head_line (config_line saved.config) 17 32 (omega arith) (config_short saved.config form.fits) in
      let two = joined (head_line ++ config_line saved.config) (marks_line saved.marks.point saved.marks.next_id saved.marks.applied) 49 64 one
      (marks_short saved.marks form.numbers) in
      let three = joined to_marks (flat_map dead_line (dead_switches saved.marks.dead)) 113 1024 two dead in
      let count = few_owners saved.config.nodes 0 saved.owners form.owners form.blocks in
      let bytes = form.few_given.0 in
      let taken = form.few_records.0 in
      let four = joined to_dead (flat_map owner_line saved.owners) 1137 2097152 three (omega (arith, owners, count)) in
      let five = joined to_owners (flat_map given_line saved.given) 2098289 32000000 four (omega (arith, given, bytes)) in
      let six = joined to_given (flat_map record_line saved.committed) 34098289 32000000 five (omega (arith, records, taken)) in
      let all = joined to_records end_line 66098289 4 six (omega arith) in
      omega (arith, all)
