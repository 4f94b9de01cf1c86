-- The forms of operands: what stands between and around registers and numbers.
use Rattle.std.specs.Prelude.{ℕ, nat_eq, if◌then◌else◌, ℤ, List, length, Option, Some, None, option_map}
use Rattle.rv_statement.specs.Lines.{without_outer_blanks, cut}
use Rattle.rv_statement.specs.Operands.{register_of, number_of}

-- what follows from something, where it is there
abbrev pub and_then : {A B : Type 0} → Option A → (A → Option B) → Option B
and_then None next = None
and_then (Some a) next = next a

-- a register before a comma, and what follows the comma
unfoldable pub register_then : List ℕ → Option (ℕ × List ℕ)
register_then text =
    and_then (cut (λ byte. nat_eq byte 44) text) (λ parts. option_map (λ number. (number, without_outer_blanks parts.1)) (register_of (without_outer_blanks parts.0)))

-- REGISTER, REGISTER, REGISTER
unfoldable pub registers_of : List ℕ → Option (ℕ × ℕ × ℕ)
registers_of text = and_then (register_then text) (λ a. and_then (register_then a.1) (λ b. option_map (λ c. (a.0, b.0, c)) (register_of b.1)))

-- REGISTER, REGISTER, NUMBER
unfoldable pub numbered_of : List ℕ → Option (ℕ × ℕ × ℤ)
numbered_of text = and_then (register_then text) (λ a. and_then (register_then a.1) (λ b. option_map (λ n. (a.0, b.0, n)) (number_of b.1)))

-- REGISTER, NUMBER
unfoldable pub upper_of : List ℕ → Option (ℕ × ℤ)
upper_of text = and_then (register_then text) (λ a. option_map (λ n. (a.0, n)) (number_of a.1))

-- REGISTER)
unfoldable pub closed_of : List ℕ → Option ℕ
closed_of text =
    and_then (cut (λ byte. nat_eq byte 41) text) (λ parts. if nat_eq (length parts.1) 0 then register_of (without_outer_blanks parts.0) else None)

-- NUMBER(REGISTER), where the number may be of another kind
unfoldable pub based_of : List ℕ → Option (List ℕ × ℕ)
based_of text = and_then (cut (λ byte. nat_eq byte 40) text) (λ parts. option_map (λ base. (without_outer_blanks parts.0, base)) (closed_of parts.1))

-- (REGISTER)
unfoldable pub address_of : List ℕ → Option ℕ
address_of text = and_then (based_of text) (λ a. if nat_eq (length a.0) 0 then Some a.1 else None)

-- REGISTER, NUMBER(REGISTER)
unfoldable pub placed_of : List ℕ → Option (ℕ × ℤ × ℕ)
placed_of text = and_then (register_then text) (λ a. and_then (based_of a.1) (λ b. option_map (λ n. (a.0, n, b.1)) (number_of b.0)))

-- REGISTER, (REGISTER)
unfoldable pub reserved_of : List ℕ → Option (ℕ × ℕ)
reserved_of text = and_then (register_then text) (λ a. option_map (λ base. (a.0, base)) (address_of a.1))

-- REGISTER, REGISTER, (REGISTER)
unfoldable pub atomic_of : List ℕ → Option (ℕ × ℕ × ℕ)
atomic_of text =
    and_then (register_then text) (λ a. and_then (register_then a.1) (λ b. option_map (λ base. (a.0, b.0, base)) (address_of b.1)))

-- REGISTER, REGISTER, TARGET
unfoldable pub compared_of : List ℕ → Option (ℕ × ℕ × List ℕ)
compared_of text = and_then (register_then text) (λ a. option_map (λ b. (a.0, b.0, b.1)) (register_then a.1))
