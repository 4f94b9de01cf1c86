-- Texts of comments: what follows one is read as if it stood alone. The lines of a summary that are marked are such texts.
use Rattle.std.proofs.Common.{◌≡◌, ℕ, zero, suc, ◌+◌, ◌-◌, ◌/◌, ◌%◌, ◌≤◌, List, [], ◌∷◌, ◌++◌, length, take, drop, All, refl, ap, sym}
use Rattle.std.proofs.Common.{subst, ◌∙◌, append_assoc, append-nil, arith}
use Rattle.std.proofs.lemmas.List.Elements.{All-nil, All-append, All-push}
use Rattle.std.specs.Prelude.{Bool, true, false, ◌==◌, nat_eq, nat_lt, if◌then◌else◌, slice_index, codes, decimal}
use Rattle.std.specs.Fmt.{digit_glyph, digits_onto, digits}
use Rattle.rv_core.specs.declared.state.CoreState.{CoreState}
use Rattle.rv_core.specs.declared.state.End.{End}
use Rattle.rv_core.specs.declared.state.End.TheVariants.{Running, Exited, Trapped}
use Rattle.rv_core.specs.declared.state.Cause.{Cause}
use Rattle.rv_core.specs.declared.state.Cause.TheVariants.{Illegal, FetchFault, MisalignedTarget, MisalignedAccess, AccessFault}
use Rattle.rv_core.specs.declared.state.Cause.TheVariants.{UnknownCall, Break}
use Rattle.text_lines.specs.Hex.{hex_word}
use Rattle.text_lines.specs.Lines.{without_return, lines_from}
use Rattle.sn_text.specs.Items.{is_skipped}
use Rattle.sn_text.specs.Text.{named_number, cause_text, end_text, register_text, registers_text, core_line, count_line}
use Rattle.sn_text.specs.Text.{watch_line, probe_line}
use Rattle.sn_text.specs.Written.{SaysNothing}
use Rattle.sn_text.proofs.Printed.{From, is_from, from-tested, from-append, from-lower, from-word}
use Rattle.sn_text.proofs.Lines.{line_ends}

-- no byte of these texts ends a line

from-glyph : (d : ℕ) → 32 ≤ digit_glyph false d
from-glyph d = by_test (nat_lt d 10) where
  by_test : (b : Bool) → 32 ≤ (if b then 48 + d else 87 + d)
  by_test true = omega arith
  by_test false = omega arith

from-digits : (k n : ℕ) (acc : List ℕ) → From 32 acc → From 32 (digits_onto k 10 false n acc)
from-digits zero n acc h = h
from-digits (suc k) n acc h =
    by_test (n / 10 == 0) (from-digits k (n / 10) (digit_glyph false (n % 10) ∷ acc) (from-glyph (n % 10), h))
  where
    by_test : (b : Bool) → From 32 (digits_onto k 10 false (n / 10) (digit_glyph false (n % 10) ∷ acc)) →
        From 32 (if b then digit_glyph false (n % 10) ∷ acc else digits_onto k 10 false (n / 10) (digit_glyph false (n % 10) ∷ acc))
    by_test true more = (from-glyph (n % 10), h)
    by_test false more = more

from-number : (n : ℕ) → From 32 (decimal n)
unfolding digits
from-number n = from-digits 64 n [] tt

from-named : (name : List ℕ) (n : ℕ) → From 32 name → From 32 (named_number name n)
from-named name n h =
    from-append 32 (name ++ codes " ") (decimal n) (from-append 32 name (codes " ") h (from-tested 32 (codes " ") refl)) (from-number n)

from-hex : (word : ℕ) → From 32 (hex_word word)
from-hex word = from-lower 32 48 (hex_word word) (omega arith) (from-word word)

from-cause : (cause : Cause) → From 32 (cause_text cause)
from-cause Illegal = from-tested 32 (codes "illegal") refl
from-cause FetchFault = from-tested 32 (codes "fetch") refl
from-cause MisalignedTarget = from-tested 32 (codes "target") refl
from-cause MisalignedAccess = from-tested 32 (codes "misaligned") refl
from-cause AccessFault = from-tested 32 (codes "access") refl
from-cause UnknownCall = from-tested 32 (codes "call") refl
from-cause Break = from-tested 32 (codes "break") refl

from-end : (end : End) → From 32 (end_text end)
from-end Running = from-tested 32 (codes "running") refl
from-end (Exited code) = from-named (codes "exited") code (from-tested 32 (codes "exited") refl)
from-end (Trapped cause) = from-append 32 (codes "trapped ") (cause_text cause) (from-tested 32 (codes "trapped ") refl) (from-cause cause)

from-register : (number value : ℕ) → From 32 (register_text number value)
from-register number value =
    from-append 32 ((codes " x" ++ decimal number) ++ codes "=") (hex_word value)
    (from-append 32 (codes " x" ++ decimal number) (codes "=")
    (from-append 32 (codes " x") (decimal number) (from-tested 32 (codes " x") refl) (from-number number))
    (from-tested 32 (codes "=") refl))
    (from-hex value)

from-registers : (number : ℕ) (values : List ℕ) → From 32 (registers_text number values)
from-registers number [] = tt
from-registers number (value ∷ values) =
    from-append 32 (if nat_eq value 0 then [] else register_text number value) (registers_text (number + 1) values)
    (by_test (nat_eq value 0)) (from-registers (number + 1) values)
  where
    by_test : (b : Bool) → From 32 (if b then [] else register_text number value)
    by_test true = tt
    by_test false = from-register number value

-- a comment is skipped

taken : (n : ℕ) (xs : List ℕ) → is_skipped (take n (35 ∷ xs)) ≡ true
taken zero xs = refl
taken (suc n) xs = refl

skipped : (xs : List ℕ) → is_skipped (without_return (35 ∷ xs)) ≡ true
skipped xs = by_test (nat_eq (slice_index (35 ∷ xs) (length (35 ∷ xs) - 1)) 13) where
  by_test : (b : Bool) → is_skipped (if b then take (length (35 ∷ xs) - 1) (35 ∷ xs) else 35 ∷ xs) ≡ true
  by_test true = taken (length (35 ∷ xs) - 1) xs
  by_test false = refl

-- a text of whole lines that are skipped, whatever follows it
pub record AreComments (text : List ℕ) : Type 0 where
  pub lines : List (List ℕ)
  pub skipped : All (λ line. is_skipped line ≡ true) lines
  pub before : (rest : List ℕ) → lines_from [] (text ++ rest) ≡ lines ++ lines_from [] rest

pub comments-none : AreComments []
comments-none = record { lines = []; skipped = All-nil (λ line. is_skipped line ≡ true); before = λ rest. refl }

pub comments-both : (a b : List ℕ) → AreComments a → AreComments b → AreComments (a ++ b)
comments-both a b ha hb = record {
  lines = ha.lines ++ hb.lines;
  skipped = All-append (λ line. is_skipped line ≡ true) ha.lines hb.lines ha.skipped hb.skipped;
  before = λ rest.
      ap (lines_from []) (append_assoc a b rest) ∙ ha.before (b ++ rest) ∙ ap (λ t. ha.lines ++ t) (hb.before rest)
      ∙ sym (append_assoc ha.lines hb.lines (lines_from [] rest));
}

-- so it says nothing
pub comments-say_nothing : (text : List ℕ) → AreComments text → SaysNothing text
unfolding lines_from
comments-say_nothing text h =
    subst (λ (t : List (List ℕ)). All (λ line. is_skipped line ≡ true) t)
    (sym (h.before []) ∙ ap (lines_from []) (append-nil text)) (All-push (λ line. is_skipped line ≡ true) h.lines [] h.skipped refl)

comments-line : (xs : List ℕ) → From 32 xs → AreComments ((35 ∷ xs) ++ 10 ∷ [])
comments-line xs from = record {
  lines = without_return (35 ∷ xs) ∷ [];
  skipped = All-push (λ line. is_skipped line ≡ true) [] (without_return (35 ∷ xs)) (All-nil (λ line. is_skipped line ≡ true)) (skipped xs);
  before = λ rest.
      ap (lines_from []) (append_assoc (35 ∷ xs) (10 ∷ []) rest) ∙ line_ends [] (35 ∷ xs) rest (omega arith, from);
}

-- a line that is marked is one

comments-marked : (text : List ℕ) → From 32 text → AreComments ((codes "# " ++ text) ++ codes "\n")
comments-marked text from = comments-line (32 ∷ text) (omega arith, from)

pub comments-count : (name : List ℕ) (number : ℕ) → is_from 32 name ≡ true → AreComments (count_line (codes "# ") name number)
unfolding count_line
comments-count name number h = comments-marked (named_number name number) (from-named name number (from-tested 32 name h))

pub comments-core : (node : ℕ) (core : CoreState) → AreComments (core_line (codes "# ") node core)
unfolding core_line
comments-core node core =
    let name : List ℕ = named_number (codes "core") node in
    let head : List ℕ = (name ++ codes " ") ++ hex_word core.pc in
    let blank : From 32 (codes " ") = from-tested 32 (codes " ") refl in
    let head_from : From 32 head = from-append 32 (name ++ codes " ") (hex_word core.pc)
    (from-append 32 name (codes " ") (from-named (codes "core") node (from-tested 32 (codes "core") refl)) blank) (from-hex core.pc) in
    let more_from : From 32 ((head ++ codes " ") ++ end_text core.end) = from-append 32 (head ++ codes " ") (end_text core.end)
    (from-append 32 head (codes " ") head_from blank) (from-end core.end) in
    comments-marked (((head ++ codes " ") ++ end_text core.end) ++ registers_text 1 (drop 1 core.x))
    (from-append 32 ((head ++ codes " ") ++ end_text core.end) (registers_text 1 (drop 1 core.x)) more_from
    (from-registers 1 (drop 1 core.x)))

pub comments-watch : (address word : ℕ) → AreComments (watch_line (codes "# ") address word)
unfolding watch_line
comments-watch address word =
    let head : List ℕ = (codes "watch " ++ hex_word address) ++ codes " " in
    comments-marked (head ++ hex_word word)
    (from-append 32 head (hex_word word)
    (from-append 32 (codes "watch " ++ hex_word address) (codes " ")
    (from-append 32 (codes "watch ") (hex_word address) (from-tested 32 (codes "watch ") refl) (from-hex address))
    (from-tested 32 (codes " ") refl))
    (from-hex word))

pub comments-probe : (probe place value : ℕ) → AreComments (probe_line (codes "# ") probe place value)
unfolding probe_line
comments-probe probe place value =
    let first : List ℕ = named_number (codes "probe") probe in
    let second : List ℕ = named_number [] place in
    let third : List ℕ = named_number [] value in
    comments-marked ((first ++ second) ++ third)
    (from-append 32 (first ++ second) third
    (from-append 32 first second (from-named (codes "probe") probe (from-tested 32 (codes "probe") refl)) (from-named [] place tt))
    (from-named [] value tt))
