-- A word's line reads back as the word.
use Rattle.std.proofs.Common.{◌≡◌, ℕ, pos, ◌-◌, ◌<◌, ◌^◌, Bool, true, false, not, nat_eq, List, ◌++◌, length, get_or, codes, Option, Some}
use Rattle.std.proofs.Common.{None, refl, ap, ◌∙◌, arith, subst}
use Rattle.std.specs.Prelude.{option_map, if◌then◌else◌, IfSome}
use Rattle.std.proofs.lemmas.Bool.{eqb-true, ne_eqb, lt-ltb, le-leb}
use Rattle.rv_decode.specs.declared.instr.Instr.{Instr}
use Rattle.rv_decode.specs.Decoded.{instruction_at}
use Rattle.rv_decode.specs.Table.{IsWordOf, word_of, instr_fits}
use Rattle.rv_decode.proofs.Sound.{decoded-sound}
use Rattle.rv_statement.specs.Lines.{without_outer_blanks, bare, front_or}
use Rattle.rv_statement.specs.Reading.{Read, fixed, word_in, said, said_or, operation_of, instruction_of, statement_of}
use Rattle.text_lines.specs.Hex.{hex_word}
use Rattle.rv_asm.specs.Text.{if_written, instruction_of_word, line_of, word_text}
use Rattle.asm_round_trip.proofs.Bytes.{all, all-at, all-weaker, is_solid, is_inner, solid-inner, inner-no_comment, inner-no_colon}
use Rattle.asm_round_trip.proofs.Bytes.{solid-begins, solid-ends}
use Rattle.asm_round_trip.proofs.Cuts.{cut-nowhere, trimmed-none}
use Rattle.asm_round_trip.proofs.Numbers.{word-read, digits-text_solid}
use Rattle.asm_round_trip.proofs.Forms.{Stands}
use Rattle.asm_round_trip.proofs.Instructions.{spaced-stands, spaced-read, line-read}

-- a line, from its first byte to its last, that says a word
record Says (text : List ℕ) (word : ℕ) : Type 0 where
  pub stands : Stands text
  pub reads : instruction_of text ≡ Some (fixed (Some word))

-- ---- a word that no instruction is written as

word_in-is : (word : ℕ) → word < 2 ^ 32 → word_in (pos word) ≡ Some word
word_in-is word h = rw (le-leb 0 word (omega arith), lt-ltb word (2 ^ 32) h) refl

prefixed-solid : (word : ℕ) → all is_solid (codes "0x" ++ hex_word word) ≡ true
prefixed-solid word = digits-text_solid word

number-stands : (word : ℕ) → Stands (codes "0x" ++ hex_word word)
number-stands word =
    let text = codes "0x" ++ hex_word word in
    record {
      begins = solid-begins text (prefixed-solid word) (omega arith);
      ends = solid-ends text (prefixed-solid word) (omega arith);
      inner = all-weaker is_solid is_inner solid-inner text (prefixed-solid word);
    }

directive-read : (word : ℕ) → word < 2 ^ 32 → operation_of (codes ".word") (codes "0x" ++ hex_word word) ≡ Some (fixed (Some word))
unfolding operation_of
directive-read word h = ap (option_map (λ number. fixed (word_in number))) (word-read word h) ∙ ap (λ w. Some (fixed w)) (word_in-is word h)

plain-says : (word : ℕ) → word < 2 ^ 32 → Says (codes ".word 0x" ++ hex_word word) word
plain-says word h = record {
  stands = spaced-stands (codes ".word") (codes "0x" ++ hex_word word) (record { begins = record { some = omega arith; first = refl }; ends = record { some = omega arith; last = refl }; inner = refl }) (number-stands word);
  reads = spaced-read (codes ".word") (codes "0x" ++ hex_word word) refl (number-stands word) ∙ directive-read word h;
}

-- ---- each word

decoded-fits : (word : ℕ) (instr : Instr) → instruction_at word ≡ Some instr → instr_fits instr ≡ true
decoded-fits word instr e = (subst (λ o. IfSome o (λ i. IsWordOf i word)) e (decoded-sound word)).fits

says-of : (word : ℕ) (found : Option Instr) → word < 2 ^ 32 → instruction_at word ≡ found → Says (line_of word (if_written word found)) word
says-of word None h e = plain-says word h
says-of word (Some instr) h e = by_test (nat_eq (word_of instr) word) refl where
  by_test : (b : Bool) → nat_eq (word_of instr) word ≡ b → Says (line_of word (if b then Some instr else None)) word
  by_test false t = plain-says word h
  by_test true t =
      let l = line-read instr (decoded-fits word instr e) in
      record { stands = l.stands; reads = l.reads ∙ ap (λ w. Some (fixed (Some w))) (eqb-true (word_of instr) word t) }

text-says : (word : ℕ) → word < 2 ^ 32 → Says (word_text word) word
unfolding word_text instruction_of_word
text-says word h = says-of word (instruction_at word) h refl

-- ---- a line of a text

-- what stands in a line is all that the line says
bare-is : (text : List ℕ) → Stands text → bare text ≡ text
unfolding bare
bare-is text s =
    ap (λ parts. without_outer_blanks (front_or text parts))
    (cut-nowhere (λ byte. nat_eq byte 35) text (all-weaker is_inner (λ byte. not (nat_eq byte 35)) inner-no_comment text s.inner))
    ∙ trimmed-none text s.begins s.ends

statement-is : (text : List ℕ) (read : Read) → Stands text → instruction_of text ≡ Some read → statement_of text ≡ said read
unfolding statement_of
statement-is text read s e =
    let place : length text - 1 < length text = omega (arith, s.begins.some) in
    let some : nat_eq (length text) 0 ≡ false = ne_eqb (length text) 0 (λ z. omega (arith, s.begins.some)) in
    let colon : nat_eq (get_or text (length text - 1) 0) 58
    ≡ false = inner-no_colon (get_or text (length text - 1) 0) (all-at is_inner text (length text - 1) s.inner place) in
    rw (some, colon) (ap said_or e)

-- what a word's line is to the assembler
pub record IsLineOf (word : ℕ) (text : List ℕ) : Type 0 where
  pub inner : all is_inner text ≡ true
  pub says : statement_of (bare text) ≡ said (fixed (Some word))

pub word_text-line : (word : ℕ) → word < 2 ^ 32 → IsLineOf word (word_text word)
word_text-line word h =
    let s = text-says word h in
    record {
      inner = s.stands.inner;
      says = ap statement_of (bare-is (word_text word) s.stands) ∙ statement-is (word_text word) (fixed (Some word)) s.stands s.reads;
    }
