-- A register that is written reads back.
use Rattle.std.proofs.Common.{◌≡◌, ℕ, ◌<◌, Bool, true, false, nat_eq, length, Option, Some, None, refl, ap, arith}
use Rattle.std.proofs.lemmas.Bool.{agree_below_at, eqb-true}
use Rattle.std.specs.Fmt.{digits}
use Rattle.rv_statement.specs.Operands.{register_of}
use Rattle.rv_asm.specs.Text.{register_text}
use Rattle.asm_round_trip.proofs.Bytes.{all, is_solid, Begins, Ends, solid-begins, solid-ends}
use Rattle.asm_round_trip.proofs.Numbers.{decimal-solid}

abbrev is_number : ℕ → Option ℕ → Bool
is_number n None = false
is_number n (Some m) = nat_eq m n

is_number-Some : (n : ℕ) (found : Option ℕ) → is_number n found ≡ true → found ≡ Some n
is_number-Some n None h = cc
is_number-Some n (Some m) h = ap Some (eqb-true m n h)

abbrev reads_back : ℕ → Bool
reads_back n = is_number n (register_of (register_text n))

pub register-read : (n : ℕ) → n < 32 → register_of (register_text n) ≡ Some n
unfolding register_of digits
register-read n h = is_number-Some n (register_of (register_text n)) (agree_below_at reads_back (λ n. true) 32 n refl h)

pub register-solid : (n : ℕ) → n < 32 → all is_solid (register_text n) ≡ true
register-solid n h = decimal-solid n (omega arith)

pub register-some : (n : ℕ) → 0 < length (register_text n)
register-some n = omega arith

pub register-begins : (n : ℕ) → n < 32 → Begins (register_text n)
register-begins n h = solid-begins (register_text n) (register-solid n h) (register-some n)

pub register-ends : (n : ℕ) → n < 32 → Ends (register_text n)
register-ends n h = solid-ends (register_text n) (register-solid n h) (register-some n)
