-- The word of an instruction's line is decoded as that instruction.
use Rattle.std.proofs.Common.{◌≡◌, ℕ, pos, Bool, true, false, nat_eq, List, [], length, take, get_or, codes, Option, Some, None, Ok, refl}
use Rattle.std.proofs.Common.{sym, ap, ◌∙◌, subst, ◌-◌}
use Rattle.std.specs.Prelude.{option_map, if◌then◌else◌, ◌-ℤ◌}
use Rattle.std.specs.Str.{bytes_eq}
use Rattle.std.proofs.lemmas.Slice.Eq.{bytes_eq-Decides}
use Rattle.rv_decode.specs.declared.instr.Instr.{Instr}
use Rattle.rv_decode.specs.Decoded.{instruction_at}
use Rattle.rv_decode.specs.Table.{word_of, instr_fits}
use Rattle.rv_decode.proofs.Words.{decoded-word_of}
use Rattle.rv_statement.specs.Lines.{bare, cut, is_blank, without_outer_blanks}
use Rattle.rv_statement.specs.Operands.{number_of, is_name}
use Rattle.rv_statement.specs.Reading.{Named, Read, whole, fixed, read_of, word_of_instruction, with_offset, word_in, named_by, named_in, operation_of}
use Rattle.rv_statement.specs.Reading.{row_of, on_parts, instruction_of, nothing, label, formless, said, said_or, label_or, statement_of}
use Rattle.rv_asm.specs.Assembly.{in_range}
use Rattle.asm_round_trip.specs.Decoding.{Names, Says, HasWord}

-- what has a word is decoded as itself
coded-decoded : (instr : Instr) (word : ℕ) → word_of_instruction instr ≡ Some word → instruction_at word ≡ Some instr
unfolding word_of_instruction
coded-decoded instr word e = by_test (instr_fits instr) refl e where
  by_test : (b : Bool) → instr_fits instr ≡ b → (if b then Some (word_of instr) else None) ≡ Some word → instruction_at word ≡ Some instr
  by_test false t h = cc
  by_test true t h = subst (λ w. instruction_at w ≡ Some instr) (same (word_of instr) word h) (decoded-word_of instr t) where
    same : (a b : ℕ) → ◌≡◌ {A = Option ℕ} (Some a) (Some b) → a ≡ b
    same a b h = cc

-- the word of the instruction that a mnemonic and its operands name; `.word` names none
abbrev IsWord : Option Named → Option Read → Type 0
IsWord named read = (instr : Instr) (word : ℕ) → named ≡ Some (whole instr) → read ≡ Some (fixed (Some word)) → word_of_instruction instr ≡ Some word

same-read : (a : Option ℕ) (word : ℕ) → ◌≡◌ {A = Option Read} (Some (fixed a)) (Some (fixed (Some word))) → a ≡ Some word
same-read a word h = cc

read-is : (named : Option Named) → IsWord named (option_map read_of named)
read-is named instr word n r = same-read (word_of_instruction instr) word (sym (ap (option_map read_of) n) ∙ r)

directive-names_none : (name operands : List ℕ) → bytes_eq name (codes ".word") ≡ true → named_by name operands ≡ None
unfolding row_of
directive-names_none name operands e = ap (λ (n : List ℕ). named_by n operands) ((bytes_eq-Decides name (codes ".word")).0 e)

nothing-named : (instr : Instr) → ◌≡◌ {A = Option Named} None (Some (whole instr)) → ⊥
nothing-named instr h = cc

operation-is : (name operands : List ℕ) → IsWord (named_by name operands) (operation_of name operands)
unfolding operation_of
operation-is name operands = by_test (bytes_eq name (codes ".word")) refl where
  by_test : (b : Bool) → bytes_eq name (codes ".word") ≡ b → IsWord (named_by name operands) (if b then option_map (λ number. fixed (word_in number)) (number_of operands) else option_map read_of (named_by name operands))
  by_test true t = λ instr word n r. absurd (nothing-named instr (sym (directive-names_none name operands t) ∙ n))
  by_test false t = read-is (named_by name operands)

on_parts-is : (text : List ℕ) (parts : Option (List ℕ × List ℕ)) → IsWord (on_parts named_by text parts) (on_parts operation_of text parts)
on_parts-is text None = operation-is text []
on_parts-is text (Some parts) = operation-is parts.0 (without_outer_blanks parts.1)

instruction-is : (text : List ℕ) → IsWord (named_in text) (instruction_of text)
unfolding named_in instruction_of
instruction-is text = on_parts-is text (cut is_blank text)

-- what a line says is its instruction's
said-is : (found : Option Read) (read : Read) → said_or found ≡ said read → found ≡ Some read
said-is None read h = cc
said-is (Some other) read h = cc

no-label : (name : List ℕ) (b : Bool) (read : Read) → (if b then label name else formless) ≡ said read → ⊥
no-label name true read h = cc
no-label name false read h = cc

no-words : (read : Read) → nothing ≡ said read → ⊥
no-words read h = cc

statement-is : (text : List ℕ) (read : Read) → statement_of text ≡ said read → instruction_of text ≡ Some read
unfolding statement_of
statement-is text read e = by_test (nat_eq (length text) 0) (nat_eq (get_or text (length text - 1) 0) 58) e where
  by_test : (a b : Bool) →
      (if a then nothing else if b then label_or (take (length text - 1) text) else said_or (instruction_of text)) ≡ said read →
      instruction_of text ≡ Some read
  by_test true b h = absurd (no-words read h)
  by_test false true h = absurd (no-label (take (length text - 1) text) (is_name (take (length text - 1) text)) read h)
  by_test false false h = said-is (instruction_of text) read h

pub line-decoded : (line : List ℕ) (instr : Instr) (word : ℕ) → Names line instr → Says line word → instruction_at word ≡ Some instr
line-decoded line instr word n s =
    coded-decoded instr word (instruction-is (bare line) instr word n (statement-is (bare line) (fixed (Some word)) s))

in_range-is : (line : ℕ) (found : Option ℕ) (word : ℕ) → in_range line found ≡ Ok word → found ≡ Some word
in_range-is line None word h = cc
in_range-is line (Some other) word h = cc

pub led-decoded : (line : ℕ) (instr : Instr) (here place word : ℕ) → HasWord line instr here place word →
    instruction_at word ≡ Some (with_offset instr (pos place -ℤ pos here))
led-decoded line instr here place word h =
    coded-decoded (with_offset instr (pos place -ℤ pos here)) word
    (in_range-is line (word_of_instruction (with_offset instr (pos place -ℤ pos here))) word h)
